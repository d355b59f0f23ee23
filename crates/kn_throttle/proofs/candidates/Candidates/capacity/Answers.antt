use Rattle.std.proofs.Common.{◌≡◌, arith}
use Rattle.kn_throttle.specs.Candidates.{unlimited_in}
use Rattle.kn_throttle.proofs.Totals.{capacity-limited, capacity-unlimited}
use Rattle.kn_throttle.proofs.candidates.Candidates.capacity.Goals as goal

pub returns-then-self-gt0-clause-value : goal.returns-then-self-gt0-clause-value
returns-then-self-gt0-clause-value c =
    rw (← c.self.view_is) (capacity-unlimited c.args.most c.self.inside.cands.items (omega (arith, c.self.invariant.counted.unlimited, c.if-self-gt0.true)))

pub returns-clause-value : goal.returns-clause-value
returns-clause-value c =
    let none : unlimited_in c.self.inside.cands.items ≡ 0 = omega (arith, c.self.invariant.counted.unlimited, c.if-self-gt0.false) in
    rw (← c.self.view_is, c.min.ensures, c.self.invariant.counted.sum) (capacity-limited c.args.most c.self.inside.cands.items none)
