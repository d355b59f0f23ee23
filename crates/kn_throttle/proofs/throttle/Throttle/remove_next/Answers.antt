use Rattle.std.proofs.Common.{◌≡◌, ◌∙◌, ℕ, List, length, sym, ap, arith}
use Rattle.kn_trace.specs.Trace.{first_of}
use Rattle.kn_record.specs.Admission.{placed_in, stepped, waits}
use Rattle.kn_throttle.specs.State.{State}
use Rattle.kn_throttle.specs.Kept.{can_leave}
use Rattle.kn_throttle.proofs.Walking.{empty_at, first_passes, kept_left_all, leaving-where}
use Rattle.kn_throttle.proofs.throttle.Throttle.remove_next.Goals as goal

pub invariant_of-self : goal.invariant_of-self
invariant_of-self c = kept_left_all _ _ _ _ _ _ _ _ c.self.invariant (rw (← c.self.view_is) at (sym c.in-None.ensures))

pub take_away-requires-clause-there : goal.take_away-requires-clause-there
take_away-requires-clause-there c = (first_passes (can_leave c.args.self.now.admission.live) c.args.self.now.admission.pods c.in-Some.p (sym c.in-Some.ensures)).there

pub take_away-requires-clause-none : goal.take_away-requires-clause-none
take_away-requires-clause-none c = empty_at c.args.self.now.admission.live c.args.self.now.admission.pods c.in-Some.p (first_passes (can_leave c.args.self.now.admission.live) c.args.self.now.admission.pods c.in-Some.p (sym c.in-Some.ensures))

pub returns-in-None-clause-ends : goal.returns-in-None-clause-ends
returns-in-None-clause-ends c = λ d t h.
    let a = c.args.self.now.admission in
    c.walk_laws.ensures.removed c.args.self.now.spec a d t h (ap (λ (l : List ℕ). first_of l) (leaving-where a) ∙ sym c.in-None.ensures)

pub returns-in-Some-clause-after : goal.returns-in-Some-clause-after
unfolding stepped
returns-in-Some-clause-after c = λ t. c.take_away.ensures.after

pub returns-in-Some-clause-fewer : goal.returns-in-Some-clause-fewer
unfolding stepped
returns-in-Some-clause-fewer c =
    let same : length (placed_in waits c.take_away.new.self.admission.live) ≡ length (placed_in waits c.args.self.now.admission.live) = ap (λ (x : State). length (placed_in waits x.admission.live)) c.take_away.ensures.after in
    omega (arith, c.take_away.ensures.fewer)

pub returns-in-Some-clause-begins : goal.returns-in-Some-clause-begins
returns-in-Some-clause-begins c = λ d t h.
    let a = c.args.self.now.admission in
    c.walk_laws.ensures.remove c.args.self.now.spec a d t c.in-Some.p h (ap (λ (l : List ℕ). first_of l) (leaving-where a) ∙ sym c.in-Some.ensures)
