-- The lines of rows, one after the other.
use Rattle.std.proofs.Common.{◌≡◌, refl, sym, ap, ◌∙◌, ℕ, ◌+◌, ◌-◌, ◌<◌, true, List, [], ◌∷◌, ◌++◌, length, get_or, take, drop, append_assoc, append-nil, Option, Some, None}
use Rattle.std.specs.Prelude.{option_map, unwrap_or}
use Rattle.std.proofs.lemmas.List.{drop_more, take-append-drop, take_more}
use Rattle.kn_event.specs.declared.entry.Decision.{Decision}
use Rattle.kn_event.specs.declared.entry.Entry.{Entry}
use Rattle.kn_event.specs.declared.entry.Phase.{Phase}
use Rattle.kn_event.specs.declared.entry.Row.{Row}
use Rattle.kn_event.specs.declared.entry.Row.TheVariants as row
use Rattle.kn_event.specs.declared.event.Event.{Event}
use Rattle.kn_event.specs.declared.revision.Spec.{Spec}
use Rattle.kn_event.specs.Lists.{contains}
use Rattle.kn_trace.specs.Rows.{decision_by, ended_by}
use Rattle.kn_trace.specs.Scale.{count_ready, phase_of, phase_since}
use Rattle.kn_trace.specs.Trace.{Trace, live, pod_of}
use Rattle.kn_trace.specs.Report.{is_expire}
use Rattle.kn_lives.specs.declared.lives.Life.{Life}
use Rattle.kn_lives.specs.Lives.{AreKnown, AreLiveBy, arrived_at, by_row, life_in}
use Rattle.kn_show_reasons.specs.declared.notice.Notice.{Notice}
use Rattle.kn_show_reasons.specs.declared.notice.Notice.TheVariants as notice
use Rattle.kn_reason.specs.declared.reason.Reason.{Reason}
use Rattle.kn_show_reasons.specs.declared.seen.Seen.{Seen}
use Rattle.kn_show_reasons.specs.Notices.{arrived_in, notice_by, notice_line, notice_where, pod_in, pod_where}
use Rattle.kn_show_reasons.specs.Reasons.{line, row_text, rows_text, text_where}
use Rattle.kn_show_reasons.specs.Sentences.{sentences_of}
use Rattle.kn_show_reasons.specs.State.{SeesPhase}
use Rattle.kn_reason.specs.Texts.{sentences_text}
use Rattle.kn_show_reasons.proofs.Several.{sentences_same}

-- ---- the text of a row, by its decision or without one

pub row_decided : (s : Spec) (p : Option Phase) (since : ℕ) (arrived : ℕ → ℕ) (pod : ℕ → Option ℕ) (ready t : ℕ) (y : Row) (d : Decision) (xs : List (Option Reason)) → xs ≡ sentences_of s t p since d → Some d ≡ decision_by y
    → sentences_text t xs ≡ row_text s p since arrived pod ready t y
row_decided s p since arrived pod ready t y d xs is decided = ap (sentences_text t) is ∙ ap (text_where s p since t (notice_where t (notice_by s arrived pod ready t y))) decided

pub row_other : (s : Spec) (p : Option Phase) (since : ℕ) (arrived : ℕ → ℕ) (pod : ℕ → Option ℕ) (ready t : ℕ) (y : Row) (o : Option Notice) → o ≡ notice_by s arrived pod ready t y → None ≡ decision_by y
    → notice_where t o ≡ row_text s p since arrived pod ready t y
row_other s p since arrived pod ready t y o is none = ap (notice_where t) is ∙ ap (text_where s p since t (notice_where t (notice_by s arrived pod ready t y))) none

-- a row that is no decision
pub no_decision : (y : Row) → ((d : Decision) → y ≡ row.Decided d → ⊥) → None ≡ decision_by y
no_decision (row.Decided d) other = absurd (other d refl)
no_decision _ other = refl

-- ---- what is kept tells of a row what the trace does

module _ (es : List Event) (c : Trace) (l : List (ℕ × Life)) (known : AreKnown l es c) where
  arrived_same : (r : ℕ) → contains r (live c) ≡ true → arrived_in l r ≡ arrived_at c r
  unfolding life_in
  arrived_same r alive = ap (λ (o : Option Life). unwrap_or (option_map (λ (x : Life). x.arrived) o) 0) (known r alive)

  pod_same : (r : ℕ) → contains r (live c) ≡ true → pod_in l r ≡ pod_of c r
  unfolding life_in
  pod_same r alive = ap pod_where (known r alive)

  same_row : (s : Spec) (x : Seen) (t : ℕ) (y : Row) → AreLiveBy ended_by c y → SeesPhase x c → (is_expire y ≡ true → x.ready ≡ count_ready c)
      → row_text s x.phase x.since (arrived_in l) (pod_in l) x.ready t y ≡ row_text s (phase_of c) (phase_since c) (arrived_at c) (pod_of c) (count_ready c) t y
  same_row s x t (row.Decided d) alive sees ready =
      ap (λ (p : Option Phase). sentences_text t (sentences_of s t p x.since d)) sees.phase ∙ ap (sentences_text t) (sentences_same s t (phase_of c) x.since (phase_since c) d sees.since)
  same_row s x t (row.Expire r) alive sees ready =
      ap (λ (n : ℕ). notice_line t (notice.Expired r (t - n) s.timeout_ms x.ready)) (arrived_same r (alive r refl))
      ∙ ap (λ (n : ℕ). notice_line t (notice.Expired r (t - arrived_at c r) s.timeout_ms n)) (ready refl)
  same_row s x t (row.Cancel r) alive sees ready = ap (λ (n : ℕ). notice_line t (notice.Cancelled r (t - n))) (arrived_same r (alive r refl))
  same_row s x t (row.LostRequest r) alive sees ready = ap (λ (o : Option ℕ). notice_line t (notice.Lost r o)) (pod_same r (alive r refl))
  same_row s x t _ alive sees ready = refl

  pub same_text : (s : Spec) (x : Seen) (e : Entry) → AreLiveBy ended_by c e.row → SeesPhase x c → (is_expire e.row ≡ true → x.ready ≡ count_ready c)
      → row_text s x.phase x.since (arrived_in l) (pod_in l) x.ready e.time e.row ≡ line s c e
  unfolding line
  same_text s x e alive sees ready = same_row s x e.time e.row alive sees ready

-- ---- one more row

pub rows_nothing : (s : Spec) (c : Trace) → rows_text s c [] ≡ []
unfolding rows_text by_row
rows_nothing s c = refl

module _ (append : (f : Trace → Entry → List ℕ) (c xs ys : Trace) → by_row f c (xs ++ ys) ≡ by_row f c xs ++ by_row f (c ++ xs) ys) (s : Spec) (c items : Trace) (i : ℕ) (x : Entry) (inside : i < length items) (read : x ≡ get_or items i x) where
  pub split : items ≡ take i items ++ x ∷ drop (i + 1) items
  split = sym (take-append-drop i items) ∙ ap (λ (l : Trace). take i items ++ l) (drop_more items i x inside) ∙ ap (λ (y : Entry). take i items ++ y ∷ drop (i + 1) items) (sym read)

  -- the rows up to one, and that one
  pub rows_more : rows_text s c (take (i + 1) items) ≡ rows_text s c (take i items) ++ line s (c ++ take i items) x
  unfolding rows_text by_row
  rows_more =
      ap (λ (l : Trace). by_row (line s) c l) (take_more items i x inside ∙ ap (λ (y : Entry). take i items ++ y ∷ []) (sym read))
      ∙ append (line s) c (take i items) (x ∷ [])
      ∙ ap (λ (m : List ℕ). by_row (line s) c (take i items) ++ m) (append-nil (line s (c ++ take i items) x))

  -- and the others behind it
  pub rows_around : rows_text s c items ≡ rows_text s c (take i items) ++ (line s (c ++ take i items) x ++ rows_text s ((c ++ take i items) ++ x ∷ []) (drop (i + 1) items))
  unfolding rows_text by_row
  rows_around = ap (λ (l : Trace). by_row (line s) c l) split ∙ append (line s) c (take i items) (x ∷ drop (i + 1) items)

  pub trace_more : (c ++ take i items) ++ x ∷ [] ≡ c ++ take (i + 1) items
  trace_more = append_assoc c (take i items) (x ∷ []) ∙ ap (λ (l : Trace). c ++ l) (sym (take_more items i x inside ∙ ap (λ (y : Entry). take i items ++ y ∷ []) (sym read)))
