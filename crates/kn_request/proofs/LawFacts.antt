-- The laws of one request, as the server cites them.
use Rattle.std.proofs.Common.{◌≡◌, ◌≢◌, ◌≤◌, ◌<◌, ◌⊎◌, inl, inr, ℕ, suc, zero, Bool, true, false, ◌||◌, ◌++◌, refl, sym, ap, ◌∙◌, arith}
use Rattle.std.specs.Prelude.{Option, None, Some}
use Rattle.std.proofs.Math.Logic.{∥∥₁_elim, ∥∥₁_map}
use Rattle.std.proofs.lemmas.Bool.{cases_lt, or_left, or_right}
use mathlib.Core.Bool.{Bool-set}
use native.Mathlib.Nat.{ℕ_set}
use Rattle.kn_event.specs.declared.event.Act.{Act}
use Rattle.kn_event.specs.declared.event.Act.TheVariants as act
use Rattle.kn_event.specs.declared.event.Event.{Event}
use Rattle.kn_event.specs.declared.event.Stand.{Stand}
use Rattle.kn_event.specs.declared.event.Stand.TheVariants as stand
use Rattle.kn_event.specs.declared.revision.Spec.{Spec}
use Rattle.kn_event.specs.Lists.{contains}
use Rattle.kn_trace.specs.Events.{need_of, react}
use Rattle.kn_trace.specs.Outcome.{Outcome, Refused, Overload, Expired, Cancelled, Finished, Lost, outcome_of}
use Rattle.kn_trace.specs.Trace.{Trace, arrivals, is_running, pod_of, stand_of, waiting}
use Rattle.kn_record.specs.Made.{IsMade}
use Rattle.kn_laws.specs.History.{IsMadeBy}
use Rattle.kn_sizes.specs.Course.{HasFinished, IsToldByStand, IsUnfinished, MayEnd, runs_by, waits_by}
use Rattle.kn_sizes.specs.Stays.{HoldsOnwards}
use Rattle.kn_sizes.specs.Told.{IsTold}
use Rattle.kn_core.specs.State.{RevisionState, StandsFor}
use Rattle.kn_request.specs.Laws.{Made, Spares, is_lapsed, is_left}

-- ---- tests of a stand and of an outcome

abbrev pub is_ended : Stand → Bool
is_ended stand.Ended = true
is_ended _ = false

pub has_ended : (s : Stand) → is_ended s ≡ true → s ≡ stand.Ended
has_ended stand.Ended e = refl
has_ended stand.Unknown e = absurd (cc)
has_ended stand.Held e = absurd (cc)
has_ended (stand.Queued p) e = absurd (cc)
has_ended (stand.Running p) e = absurd (cc)

-- ---- what a stand and an outcome say

lapsed_is : (o : Option Outcome) → is_lapsed o ≡ true → (o ≡ Some Expired) ⊎ (o ≡ Some Cancelled)
lapsed_is None e = absurd (cc)
lapsed_is (Some Expired) e = inl refl
lapsed_is (Some Cancelled) e = inr refl
lapsed_is (Some Refused) e = absurd (cc)
lapsed_is (Some Overload) e = absurd (cc)
lapsed_is (Some (Finished ok)) e = absurd (cc)
lapsed_is (Some Lost) e = absurd (cc)

one_of : (w u l : Bool) → (w || (u || l)) ≡ true → (w ≡ true) ⊎ ((u ≡ true) ⊎ (l ≡ true))
one_of true u l e = inl refl
one_of false true l e = inr (inl refl)
one_of false false l e = inr (inr e)

unfinished_of : (c : Trace) (r : ℕ) → IsToldByStand c r → is_left (stand_of c r) (outcome_of c r) ≡ true → IsUnfinished c r
unfinished_of c r told e = elim (one_of (waits_by (stand_of c r)) (runs_by (stand_of c r)) (is_lapsed (outcome_of c r)) e) [
  | inl w ↦ inl (told.waits ∙ w)
  | inr x ↦ inr (elim x [ inl u ↦ inl (told.runs ∙ u) | inr l ↦ inr (lapsed_is (outcome_of c r) l) ])
]

left_of : (c : Trace) (r : ℕ) → IsToldByStand c r → IsUnfinished c r → is_left (stand_of c r) (outcome_of c r) ≡ true
left_of c r told u =
    let w = waits_by (stand_of c r) in
    let n = runs_by (stand_of c r) in
    let l = is_lapsed (outcome_of c r) in
    elim u [
      | inl x ↦ or_left w (n || l) (sym told.waits ∙ x)
      | inr y ↦ or_right w (n || l) (elim y [
        | inl x ↦ or_left n l (sym told.runs ∙ x)
        | inr z ↦ or_right n l (elim z [ inl x ↦ ap is_lapsed x | inr x ↦ ap is_lapsed x ])
      ])
    ]

not_ended : (r : ℕ) (pod : Option ℕ) (a : Act) → Spares r a → MayEnd r pod a → ⊥
not_ended r pod a spares may = elim may [ inl f ↦ spares.runs f.0 f.1 | inr l ↦ spares.pods l.0 l.2 ]

-- ---- equal outcomes, by a number for each

abbrev code : Option Outcome → ℕ
code None = 0
code (Some Refused) = 1
code (Some Overload) = 2
code (Some Expired) = 3
code (Some Cancelled) = 4
code (Some (Finished true)) = 5
code (Some (Finished false)) = 6
code (Some Lost) = 7

abbrev decode : ℕ → Option Outcome
decode zero = None
decode (suc zero) = Some Refused
decode (suc (suc zero)) = Some Overload
decode (suc (suc (suc zero))) = Some Expired
decode (suc (suc (suc (suc zero)))) = Some Cancelled
decode (suc (suc (suc (suc (suc zero))))) = Some (Finished true)
decode (suc (suc (suc (suc (suc (suc zero)))))) = Some (Finished false)
decode (suc (suc (suc (suc (suc (suc (suc n))))))) = Some Lost

decode-code : (o : Option Outcome) → decode (code o) ≡ o
decode-code None = refl
decode-code (Some Refused) = refl
decode-code (Some Overload) = refl
decode-code (Some Expired) = refl
decode-code (Some Cancelled) = refl
decode-code (Some (Finished true)) = refl
decode-code (Some (Finished false)) = refl
decode-code (Some Lost) = refl

-- what some events made has the outcome, whichever they were
pub outcome_by : {M : Type 0} (a b : Option Outcome) → ∥ M ∥₁ → (M → a ≡ b) → a ≡ b
outcome_by a b made is = sym (decode-code a) ∙ (ap decode (∥∥₁_elim made (ℕ_set (code a) (code b)) (λ m. ap code (is m))) ∙ decode-code b)

pub ended_by : {M : Type 0} (s : Stand) → ∥ M ∥₁ → (M → s ≡ stand.Ended) → s ≡ stand.Ended
ended_by s made is = has_ended s (∥∥₁_elim made (Bool-set (is_ended s) true) (λ m. ap is_ended (is m)))

-- ---- the laws

module _ (history : (s : Spec) (start clock count : ℕ) (c : Trace) → IsMadeBy s start clock count c → ∥ IsMade s c ∥₁)
    (step : (s : Spec) (c : Trace) (e : Event) → IsMade s c → IsMade s (c ++ react s c e))
    (stands : (s : Spec) (c : Trace) (r : ℕ) → IsMade s c → IsToldByStand c r) where
  pub made_of : (b : RevisionState) (c : Trace) → StandsFor b c → Made b.spec c
  made_of b c s = history b.spec b.start b.clock b.events c s.events

  pub keeps_of : (s : Spec) (c : Trace) (e : Event) → Made s c → Made s (c ++ react s c e)
  keeps_of s c e made = ∥∥₁_map made (step s c e)

  pub known_of : ((s : Spec) (c : Trace) → HoldsOnwards s c (λ d. arrivals c ≤ arrivals d)) → (s : Spec) (c : Trace) (e : Event) (r : ℕ) → Made s c → stand_of c r ≢ stand.Unknown → stand_of (c ++ react s c e) r ≢ stand.Unknown
  known_of stay s c e r made known un = ∥∥₁_elim made (λ u v. absurd u) (λ (m : IsMade s c).
      let few = (stands s (c ++ react s c e) r (step s c e m)).unknown.0 un in
      let grow = (stay s c).once e in
      known ((stands s c r m).unknown.1 (omega (arith, few, grow))))

  come_of : (s : Spec) (c : Trace) (r : ℕ) → IsMade s c → stand_of c r ≢ stand.Unknown → r < arrivals c
  come_of s c r m known = elim (cases_lt r (arrivals c)) [ inl l ↦ l | inr l ↦ absurd (known ((stands s c r m).unknown.1 l)) ]

  pub waits_of : ((s : Spec) (c : Trace) (r : ℕ) → IsMade s c → r < arrivals c → contains r (waiting c) ≡ false → HoldsOnwards s c (λ d. contains r (waiting d) ≡ false))
      → (s : Spec) (c : Trace) (e : Event) (r : ℕ) → Made s c → stand_of c r ≢ stand.Unknown → waits_by (stand_of c r) ≡ false → waits_by (stand_of (c ++ react s c e) r) ≡ false
  waits_of stay s c e r made known not = ∥∥₁_elim made (Bool-set (waits_by (stand_of (c ++ react s c e) r)) false) (λ (m : IsMade s c).
      sym (stands s (c ++ react s c e) r (step s c e m)).waits ∙ (stay s c r m (come_of s c r m known) ((stands s c r m).waits ∙ not)).once e)

  pub cancelled_of : ((s : Spec) (c : Trace) (e : Event) (r : ℕ) → IsMade s c → e.act ≡ act.Cancel r → contains r (waiting (c ++ react s c e)) ≡ false)
      → (s : Spec) (c : Trace) (e : Event) (r : ℕ) → Made s c → e.act ≡ act.Cancel r → waits_by (stand_of (c ++ react s c e) r) ≡ false
  cancelled_of out s c e r made is = ∥∥₁_elim made (Bool-set (waits_by (stand_of (c ++ react s c e) r)) false) (λ (m : IsMade s c).
      sym (stands s (c ++ react s c e) r (step s c e m)).waits ∙ out s c e r m is)

  pub goes_on_of : ((s : Spec) (c : Trace) (e : Event) (r : ℕ) → IsMade s c → IsUnfinished c r → IsUnfinished (c ++ react s c e) r ⊎ MayEnd r (pod_of c r) e.act)
      → (s : Spec) (c : Trace) (e : Event) (r : ℕ) → Made s c → Spares r e.act → is_left (stand_of c r) (outcome_of c r) ≡ true → is_left (stand_of (c ++ react s c e) r) (outcome_of (c ++ react s c e) r) ≡ true
  goes_on_of on s c e r made spares left = ∥∥₁_elim made (Bool-set (is_left (stand_of (c ++ react s c e) r) (outcome_of (c ++ react s c e) r)) true) (λ (m : IsMade s c).
      elim (on s c e r m (unfinished_of c r (stands s c r m) left)) [
        | inl u ↦ left_of (c ++ react s c e) r (stands s (c ++ react s c e) r (step s c e m)) u
        | inr may ↦ absurd (not_ended r (pod_of c r) e.act spares may)
      ])

  pub runs_of : ((s : Spec) (c : Trace) (e : Event) (r : ℕ) → IsMade s c → is_running c r ≡ true → (is_running (c ++ react s c e) r ≡ true) ⊎ MayEnd r (pod_of c r) e.act)
      → (s : Spec) (c : Trace) (e : Event) (r : ℕ) → Made s c → Spares r e.act → runs_by (stand_of c r) ≡ true → runs_by (stand_of (c ++ react s c e) r) ≡ true
  runs_of on s c e r made spares runs = ∥∥₁_elim made (Bool-set (runs_by (stand_of (c ++ react s c e) r)) true) (λ (m : IsMade s c).
      elim (on s c e r m ((stands s c r m).runs ∙ runs)) [
        | inl u ↦ sym (stands s (c ++ react s c e) r (step s c e m)).runs ∙ u
        | inr may ↦ absurd (not_ended r (pod_of c r) e.act spares may)
      ])

  pub ends_of : ((s : Spec) (c : Trace) (e : Event) (r : ℕ) (ok : Bool) → IsMade s c → e.act ≡ act.Finish r ok → is_running c r ≡ true → HasFinished (c ++ react s c e) r ok)
      → (s : Spec) (c : Trace) (e : Event) (r : ℕ) (ok : Bool) → Made s c → e.act ≡ act.Finish r ok → runs_by (stand_of c r) ≡ true
      → (stand_of (c ++ react s c e) r ≡ stand.Ended) × (outcome_of (c ++ react s c e) r ≡ Some (Finished ok))
  ends_of end s c e r ok made is runs = (
    ended_by (stand_of (c ++ react s c e) r) made (λ (m : IsMade s c). (end s c e r ok m is ((stands s c r m).runs ∙ runs)).stands),
    outcome_by (outcome_of (c ++ react s c e) r) (Some (Finished ok)) made (λ (m : IsMade s c). (end s c e r ok m is ((stands s c r m).runs ∙ runs)).outcome),
  )

  pub cancel_of : ((c : Trace) (r : ℕ) → contains r (waiting c) ≡ true → need_of c (act.Cancel r) ≡ 0)
      → (s : Spec) (c : Trace) (r : ℕ) → Made s c → waits_by (stand_of c r) ≡ true → need_of c (act.Cancel r) ≡ 0
  cancel_of need s c r made waits = ∥∥₁_elim made (ℕ_set (need_of c (act.Cancel r)) 0) (λ (m : IsMade s c). need c r ((stands s c r m).waits ∙ waits))

  pub finish_of : ((c : Trace) (r : ℕ) (ok : Bool) → is_running c r ≡ true → need_of c (act.Finish r ok) ≡ 0)
      → (s : Spec) (c : Trace) (r : ℕ) (ok : Bool) → Made s c → runs_by (stand_of c r) ≡ true → need_of c (act.Finish r ok) ≡ 0
  finish_of need s c r ok made runs = ∥∥₁_elim made (ℕ_set (need_of c (act.Finish r ok)) 0) (λ (m : IsMade s c). need c r ok ((stands s c r m).runs ∙ runs))

  pub told_of_all : ((s : Spec) (c : Trace) (e : Event) (tag : ℕ) → IsMade s c → e.act ≡ act.Arrive tag → IsTold s c e)
      → (s : Spec) (c : Trace) (e : Event) (tag : ℕ) → Made s c → e.act ≡ act.Arrive tag → ∥ IsTold s c e ∥₁
  told_of_all told s c e tag made is = ∥∥₁_map made (λ (m : IsMade s c). told s c e tag m is)
