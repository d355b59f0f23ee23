-- What goes on beside a refusal.
use Rattle.std.proofs.Common.{◌≡◌, ℕ, Bool, true, false, cond, List, [], ◌∷◌, ◌++◌, refl, sym, ap, subst, ◌∙◌, append_assoc}
use Rattle.std.specs.Prelude.{Some}
use Rattle.kn_event.specs.declared.entry.Row.{Row}
use Rattle.kn_event.specs.declared.entry.Row.TheVariants as row
use Rattle.kn_event.specs.declared.event.Act.{Act}
use Rattle.kn_event.specs.declared.event.Act.TheVariants as act
use Rattle.kn_event.specs.declared.event.Event.{Event}
use Rattle.kn_event.specs.declared.revision.Spec.{Spec}
use Rattle.kn_event.specs.Lists.{contains}
use Rattle.kn_trace.specs.Trace.{Trace, entry, live_pods}
use Rattle.kn_trace.specs.Events.{act_row, expiries, trace_of}
use Rattle.kn_trace.specs.Laws.{IsInert, IsSettled, is_refusal}
use Rattle.kn_record.specs.Admission.{Admission, admission, stepped}
use Rattle.kn_record.specs.Made.{IsMade, IsProper}
use Rattle.kn_record.specs.Facts.{Facts}
use Rattle.kn_laws.specs.Beside.{LeavesTheRest, refused}
use Rattle.kn_laws.proofs.Inert.{refusals_inert}
use Rattle.kn_laws.proofs.Settles.{settled_trace}

-- a refusal steps the record by its number and its turn alone
refusal-stepped : (t : ℕ) (x : Row) (a : Admission) → is_refusal x ≡ true → stepped t x a ≡ refused x a
unfolding stepped
refusal-stepped t (row.QueueFull r pod) a h = refl
refusal-stepped t (row.Overload r) a h = refl
refusal-stepped t (row.NotRunning r) a h = refl
refusal-stepped t (row.NotWaiting r) a h = refl
refusal-stepped t (row.NotStarting p) a h = refl
refusal-stepped t (row.NoPod p) a h = refl
refusal-stepped t _ a h = absurd (cc)

lost-refused : (s : Spec) (c : Trace) (p : ℕ) (x : Row) → act_row s c (act.Lost p) ≡ Some x → is_refusal x ≡ true → IsProper s c x
unfolding act_row
lost-refused s c p x is h = by (contains p (live_pods c)) is
  where
    by : (b : Bool) → Some (cond b (row.LostPod p) (row.NoPod p)) ≡ Some x → IsProper s c x
    by true e = absurd (let same : row.LostPod p ≡ x = cc in let no : false ≡ true = subst (λ (y : Row). is_refusal y ≡ true) (sym same) h in cc)
    by false e = let same : row.NoPod p ≡ x = cc in subst (IsProper s c) same tt

module _ (facts : Facts) where
  open facts use {proper.{made_kept, admission_made, made_more, made_trace, expiries-hold, act-holds}}

  act-proper : (s : Spec) (c : Trace) (a : Act) (x : Row) → act_row s c a ≡ Some x → ((p : ℕ) → a ≡ act.Lost p → ⊥) → IsProper s c x
  act-proper s c a x is other = (rw is at (act-holds s 0 c a (λ p lost. absurd (other p lost)))).0

  -- a refusal is proper where it comes
  refusal-proper : (s : Spec) (c : Trace) (a : Act) (x : Row) → act_row s c a ≡ Some x → is_refusal x ≡ true → IsProper s c x
  refusal-proper s c (act.Lost p) x is h = lost-refused s c p x is h
  refusal-proper s c a x is h = act-proper s c a x is (λ p lost. absurd (cc))

  -- the expiries of a trace that was made are proper
  pub made_expiries : (s : Spec) (t : ℕ) (c : Trace) → IsMade s c → IsMade s (c ++ expiries s t c)
  made_expiries s t c made = made_more s c (expiries s t c) made (expiries-hold s t c (made_kept s c made).requests)

  -- after a refused event the record is that after the expiries, but for a number and a turn
  pub refusals_leave : (s : Spec) (c : Trace) (e : Event) → IsMade s c → IsSettled s c → LeavesTheRest s c e
  refusals_leave s c e made settled x is h =
      let gone = expiries s e.time c in
      ap (λ (d : Trace). admission (c ++ d)) (refusals_inert facts s c e made settled x is h)
      ∙ ap admission (sym (append_assoc c gone (entry e.time x ∷ [])))
      ∙ admission_made s (c ++ gone) e.time x (made_expiries s e.time c made) (refusal-proper s (c ++ gone) e.act x is h)
      ∙ refusal-stepped e.time x (admission (c ++ gone)) h

  pub inert_trace : (s : Spec) (start : ℕ) (es : List Event) (e : Event) → IsInert s (trace_of s start es) e
  inert_trace s start es e = refusals_inert facts s (trace_of s start es) e (made_trace s start es) (settled_trace facts s start es)

  pub leaving_trace : (s : Spec) (start : ℕ) (es : List Event) (e : Event) → LeavesTheRest s (trace_of s start es) e
  leaving_trace s start es e = refusals_leave s (trace_of s start es) e (made_trace s start es) (settled_trace facts s start es)
