use Rattle.std.proofs.Common.{refl}
use Rattle.kn_throttle.proofs.candidates.Candidates.search_free.Goals as goal

pub first_free-requires-clause-marks : goal.first_free-requires-clause-marks
first_free-requires-clause-marks c = rw (c.deref.ensures.value, c.deref-2.ensures.value) c.self.invariant.counted.marked

pub first_free-requires-clause-from : goal.first_free-requires-clause-from
first_free-requires-clause-from c = rw c.deref.ensures.value c.self.invariant.low

pub returns : goal.returns
returns c = rw (c.first_free.ensures, c.deref.ensures.value, c.self.view_is) refl
