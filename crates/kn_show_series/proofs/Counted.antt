-- The rows of an event are counted one after the other.
use Rattle.std.proofs.Common.{◌≡◌, ◌<◌, ◌+◌, ◌-◌, ℕ, ◌||◌, List, [], ◌∷◌, ◌++◌, length, take, drop, get_or, None, Some, refl, ap, sym, ◌∙◌, subst, add-one, append_assoc, append-nil, drop-cons}
use Rattle.std.specs.Prelude.{unwrap_or}
use Rattle.std.specs.List.{list_any}
use Rattle.std.proofs.Math.Bool.{or-false, or_assoc}
use Rattle.std.proofs.lemmas.List.{take_more, take-append-drop}
use Rattle.std.proofs.lemmas.List.Folds.{list_any-append}
use Rattle.kn_event.specs.declared.entry.Entry.{Entry}
use Rattle.kn_event.specs.declared.event.Event.{Event}
use Rattle.kn_event.specs.declared.revision.Spec.{Spec}
use Rattle.kn_trace.specs.Events.{react}
use Rattle.kn_trace.specs.Trace.{Trace}
use Rattle.kn_trace.specs.Rows.{begun_by}
use Rattle.kn_lives.specs.declared.lives.Life.{Life}
use Rattle.kn_lives.specs.Lives.{AddsRow, AreKnown, AreLiveBy, AreLives, ComeInTurn, ComesNext, StayLives, by_row, life_at, life_in, tag_by}
use Rattle.kn_teller.specs.Run.{Run, later, trace}
use Rattle.kn_show_series.specs.declared.counts.Counts.{Counts}
use Rattle.kn_show_series.specs.declared.current.OpenStep.{OpenStep}
use Rattle.kn_show_series.specs.Counting.{waits_by, with_cap, with_row}
use Rattle.kn_show_series.specs.State.{CountsEvent, SeriesState}
use Rattle.kn_show_series.specs.Steps.{counts_of, is_shown, wait_of}
use Rattle.kn_show_series.proofs.Events.{GoesByParts}
use Rattle.kn_show_series.proofs.Counting.{counts_more}

-- ---- how long a request had waited

-- one that is known
pub waited_is : (es : List Event) (c : Trace) (l : List (ℕ × Life)) (x : Entry) (r wait : ℕ) (life : Life) → AreKnown l es c → AreLiveBy begun_by c x.row
    → Some r ≡ begun_by x.row → Some life ≡ life_at l r → wait ≡ x.time - life.arrived → waits_by (begun_by x.row) wait ≡ wait_of c x
unfolding life_in
waited_is es c l x r wait life known lives e at is =
    let there : life_at l r ≡ Some (life_in es c r) = known r (lives r (sym e)) in
    let same : life ≡ life_in es c r = (let h = at in cc) in
    rw (sym e) (ap (λ n. n ∷ []) is ∙ ap (λ (y : Life). (x.time - y.arrived) ∷ []) same)

-- and there is no other
pub waited_known : (es : List Event) (c : Trace) (l : List (ℕ × Life)) (x : Entry) (r : ℕ) → AreKnown l es c → AreLiveBy begun_by c x.row
    → Some r ≡ begun_by x.row → None ≡ life_at l r → ⊥
waited_known es c l x r known lives e none =
    let there : life_at l r ≡ Some (life_in es c r) = known r (lives r (sym e)) in
    cc

-- ---- row by row

pub count_begin : (r : Run) (e : Event) (x : SeriesState) → StayLives r.spec r.start r.events (e ∷ []) → AreLives x.lives r.events (trace r) → CountsEvent r e [] x x
unfolding by_row
count_begin r e x stay lives = record {
  lives = rw append-nil (stay x.lives lives);
  counts = λ rows waits h. rw (append-nil rows, append-nil waits) h;
  filled = sym (or-false x.current.filled);
  from = refl;
  gauges = refl;
  peak = refl;
  follows = refl;
}

parts : (log : Trace) (i : ℕ) (d : Entry) → i < length log → log ≡ take i log ++ (get_or log i d ∷ drop (i + 1) log)
parts log i d h = sym (take-append-drop i log) ∙ ap (λ (xs : Trace). take i log ++ xs) (drop-cons log i d h ∙ ap (λ n. get_or log i d ∷ drop n log) (sym (add-one i)))

-- the next row comes next
pub comes_next : (r : Run) (e : Event) (log : Trace) (i : ℕ) (x : Entry) → ComeInTurn r.spec r.start r.events e → log ≡ react r.spec (trace r) e → i < length log → x ≡ get_or log i x
    → ComesNext r.spec (later r e).events (unwrap_or (tag_by e.act) 0) (trace r ++ take i log) x.row
comes_next r e log i x turn same low is =
    turn (take i log) (drop (i + 1) log) x (sym same ∙ parts log i x low ∙ ap (λ (y : Entry). take i log ++ (y ∷ drop (i + 1) log)) (sym is))

by_row-push : (c xs : Trace) (y : Entry) → GoesByParts
    → by_row wait_of c (xs ++ y ∷ []) ≡ by_row wait_of c xs ++ wait_of (c ++ xs) y
unfolding by_row
by_row-push c xs y append = append wait_of c xs (y ∷ []) ∙ ap (λ (ws : List ℕ). by_row wait_of c xs ++ ws) (append-nil (wait_of (c ++ xs) y))

-- with one row more
counts_push : (c first : Trace) (x : Entry) (wait : ℕ) (now new : Counts) → GoesByParts
    → waits_by (begun_by x.row) wait ≡ wait_of (c ++ first) x
    → new ≡ with_row x.row (waits_by (begun_by x.row) wait) now
    → (rows : Trace) (waits : List ℕ)
    → now ≡ with_cap (counts_of (rows ++ first) (waits ++ by_row wait_of c first))
    → new ≡ with_cap (counts_of (rows ++ (first ++ x ∷ [])) (waits ++ by_row wait_of c (first ++ x ∷ [])))
counts_push c first x wait now new append waited is rows waits before =
    let v = wait_of (c ++ first) x in
    let w = rows ++ first in
    let ws = waits ++ by_row wait_of c first in
    is ∙ ap (λ (vs : List ℕ). with_row x.row vs now) waited ∙ ap (with_row x.row v) before ∙ sym (counts_more w ws v x)
    ∙ ap (λ (rs : Trace). with_cap (counts_of rs (ws ++ v))) (append_assoc rows first (x ∷ []))
    ∙ ap (λ (vs : List ℕ). with_cap (counts_of (rows ++ (first ++ x ∷ [])) vs)) (append_assoc waits (by_row wait_of c first) v ∙ ap (λ (vs : List ℕ). waits ++ vs) (sym (by_row-push c first x append)))

pub count_more : (r : Run) (e : Event) (log : Trace) (i tag wait : ℕ) (x : Entry) (old now new : SeriesState)
    → GoesByParts
    → ComeInTurn r.spec r.start r.events e → log ≡ react r.spec (trace r) e → i < length log → x ≡ get_or log i x
    → CountsEvent r e (take i log) old now
    → tag ≡ unwrap_or (tag_by e.act) 0
    → AddsRow tag x now.lives new.lives
    → ((s : Spec) (es : List Event) (tag : ℕ) (c : Trace) → ComesNext s es tag c x.row → AreLives now.lives es c → waits_by (begun_by x.row) wait ≡ wait_of c x)
    → new.current ≡ record now.current { counts = with_row x.row (waits_by (begun_by x.row) wait) now.current.counts; filled = now.current.filled || is_shown x.row }
    → CountsEvent r e (take (i + 1) log) old new
count_more r e log i tag wait x old now new append turn same low is old_now tag_is adds waits current =
    let first = take i log in
    let push : take (i + 1) log ≡ first ++ x ∷ [] = take_more log i x low ∙ ap (λ (y : Entry). first ++ y ∷ []) (sym is) in
    let shown : list_any (λ (y : Entry). is_shown y.row) (first ++ x ∷ []) ≡ (list_any (λ (y : Entry). is_shown y.row) first || is_shown x.row) =
    list_any-append (λ (y : Entry). is_shown y.row) first (x ∷ []) ∙ ap (λ b. list_any (λ (y : Entry). is_shown y.row) first || b) (or-false (is_shown x.row)) in
    let next : ComesNext r.spec (later r e).events tag (trace r ++ first) x.row =
    subst (λ n. ComesNext r.spec (later r e).events n (trace r ++ first) x.row) (sym tag_is) (comes_next r e log i x turn same low is) in
    let waited = waits r.spec (later r e).events tag (trace r ++ first) next old_now.lives in
    let with_it : CountsEvent r e (first ++ x ∷ []) old new = record {
      lives = subst (AreLives new.lives (later r e).events) (append_assoc (trace r) first (x ∷ [])) (adds r.spec (later r e).events (trace r ++ first) next old_now.lives);
      counts = λ rows waits h. counts_push (trace r) first x wait now.current.counts new.current.counts append waited (ap (λ (y : OpenStep). y.counts) current) rows waits (old_now.counts rows waits h);
      filled =
          ap (λ (y : OpenStep). y.filled) current ∙ ap (λ b. b || is_shown x.row) old_now.filled
          ∙ or_assoc old.current.filled (list_any (λ (y : Entry). is_shown y.row) first) (is_shown x.row) ∙ ap (λ b. old.current.filled || b) (sym shown);
      from = ap (λ (y : OpenStep). y.from) current ∙ old_now.from;
      gauges = ap (λ (y : OpenStep). y.gauges) current ∙ old_now.gauges;
      peak = ap (λ (y : OpenStep). y.held_peak) current ∙ old_now.peak;
      follows = ap (λ (y : OpenStep). y.follows_filled) current ∙ old_now.follows;
    } in
    rw push with_it
