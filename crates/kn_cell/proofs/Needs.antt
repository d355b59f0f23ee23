-- How much room an act needs, by where its request stands.
use Rattle.std.proofs.Common.{◌≡◌, ◌≤◌, ◌⊎◌, inl, inr, ℕ, Bool, true, false, refl, sym, ap, ◌∙◌, arith}
use Rattle.std.specs.Prelude.{if◌then◌else◌}
use denote.Struct.Props.{props}
use Rattle.std.proofs.Math.Logic.{∥∥₁_elim}
use Rattle.kn_event.specs.declared.event.Act.{Act}
use Rattle.kn_event.specs.declared.event.Act.TheVariants as act
use Rattle.kn_event.specs.declared.event.Stand.{Stand}
use Rattle.kn_event.specs.declared.event.Stand.TheVariants as stand
use Rattle.kn_event.specs.declared.revision.Spec.{Spec}
use Rattle.kn_event.specs.Lists.{contains}
use Rattle.kn_trace.specs.Events.{need_of}
use Rattle.kn_trace.specs.Trace.{Trace, is_running, stand_of, waiting}
use Rattle.kn_record.specs.Made.{IsMade}
use Rattle.kn_laws.specs.History.{IsMadeBy}
use Rattle.kn_sizes.specs.Course.{IsToldByStand, runs_by, waits_by}
use Rattle.kn_core.specs.State.{RevisionState, StandsFor}

abbrev pub none_if : Bool → ℕ
none_if live = if live then 0 else 1

pub not_running : (x : Stand) → ((p : ℕ) → x ≡ stand.Running p → ⊥) → runs_by x ≡ false
not_running stand.Unknown other = refl
not_running stand.Held other = refl
not_running (stand.Queued p) other = refl
not_running (stand.Running p) other = absurd (other p refl)
not_running stand.Ended other = refl

pub not_waiting : (x : Stand) → (x ≡ stand.Held → ⊥) → ((p : ℕ) → x ≡ stand.Queued p → ⊥) → waits_by x ≡ false
not_waiting stand.Unknown held queued = refl
not_waiting stand.Held held queued = absurd (held refl)
not_waiting (stand.Queued p) held queued = absurd (queued p refl)
not_waiting (stand.Running p) held queued = refl
not_waiting stand.Ended held queued = refl

pub waits_either : (x : Stand) → (x ≡ stand.Held) ⊎ ((p : ℕ) × (x ≡ stand.Queued p)) → waits_by x ≡ true
waits_either x at = elim at [ inl e ↦ ap waits_by e | inr e ↦ ap waits_by e.1 ]

pub arrive_need : (c : Trace) (tag : ℕ) → 2 ≡ need_of c (act.Arrive tag)
unfolding need_of
arrive_need c tag = refl

pub other_need : (c : Trace) (a : Act) → ((tag : ℕ) → a ≡ act.Arrive tag → ⊥) → ((r : ℕ) (ok : Bool) → a ≡ act.Finish r ok → ⊥) → ((r : ℕ) → a ≡ act.Cancel r → ⊥)
    → 1 ≡ need_of c a
unfolding need_of
other_need c (act.Arrive tag) arrives finishes cancels = absurd (arrives tag refl)
other_need c (act.Finish r ok) arrives finishes cancels = absurd (finishes r ok refl)
other_need c (act.Cancel r) arrives finishes cancels = absurd (cancels r refl)
other_need c act.Pass arrives finishes cancels = refl
other_need c (act.Ready p) arrives finishes cancels = refl
other_need c (act.Limit p n) arrives finishes cancels = refl
other_need c (act.Lost p) arrives finishes cancels = refl
other_need c act.Tick arrives finishes cancels = refl

none_if_small : (b : Bool) → none_if b ≤ 2
none_if_small true = omega arith
none_if_small false = omega arith

pub need_small : (c : Trace) (a : Act) → need_of c a ≤ 2
unfolding need_of
need_small c (act.Arrive tag) = omega arith
need_small c (act.Finish r ok) = none_if_small (is_running c r)
need_small c (act.Cancel r) = none_if_small (contains r (waiting c))
need_small c act.Pass = omega arith
need_small c (act.Ready p) = omega arith
need_small c (act.Limit p n) = omega arith
need_small c (act.Lost p) = omega arith
need_small c act.Tick = omega arith

module _ (made : (s : Spec) (start clock count : ℕ) (c : Trace) → IsMadeBy s start clock count c → ∥ IsMade s c ∥₁)
    (told : (s : Spec) (c : Trace) (r : ℕ) → IsMade s c → IsToldByStand c r)
    (b : RevisionState) (r : ℕ) (x : Stand) (stands : (c : Trace) → StandsFor b c → x ≡ stand_of c r) where
  pub finish_need : (ok : Bool) (c : Trace) → StandsFor b c → none_if (runs_by x) ≡ need_of c (act.Finish r ok)
  unfolding need_of
  finish_need ok c s = ∥∥₁_elim (made b.spec b.start b.clock b.events c s.events) (hlevel props)
      (λ (m : IsMade b.spec c). ap none_if (ap runs_by (stands c s) ∙ sym (told b.spec c r m).runs))

  pub cancel_need : (c : Trace) → StandsFor b c → none_if (waits_by x) ≡ need_of c (act.Cancel r)
  unfolding need_of
  cancel_need c s = ∥∥₁_elim (made b.spec b.start b.clock b.events c s.events) (hlevel props)
      (λ (m : IsMade b.spec c). ap none_if (ap waits_by (stands c s) ∙ sym (told b.spec c r m).waits))
