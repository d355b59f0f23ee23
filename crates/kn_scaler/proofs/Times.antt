-- Traces whose further entries are all at one time, the latest.
use Rattle.std.proofs.Common.{◌≡◌, ℕ, ◌<◌, ◌≤◌, [], ◌∷◌, ◌++◌, arith}
use Rattle.kn_scaling.specs.Average.{second_of}
use Rattle.kn_trace.specs.Trace.{Trace}
use Rattle.kn_record.specs.Order.{AreTimesInOrder}
use Rattle.kn_laws.specs.Kinds.{EachAt}
use Rattle.kn_past.specs.Seconds.{AreFrom, end_of_second}

order_le : (from to : ℕ) (c : Trace) → AreTimesInOrder from c to → from ≤ to
order_le from to [] h = h
order_le from to (e ∷ es) h = let rest = order_le e.time to es h.1 in omega (arith, rest, h.0)

-- time passes
pub times-later : (from to next : ℕ) (c : Trace) → AreTimesInOrder from c to → to ≤ next → AreTimesInOrder from c next
times-later from to next [] h le = let low : from ≤ to = h in omega (arith, low)
times-later from to next (e ∷ es) h le = (h.0, times-later e.time to next es h.1 le)

same_times : (t : ℕ) (es : Trace) → EachAt t es → (from : ℕ) → from ≤ t → AreTimesInOrder from es t
same_times t [] h from le = le
same_times t (e ∷ es) h from le = let at : e.time ≡ t = h.0 in (omega (arith, at), same_times t es h.1 e.time (omega (arith, at)))

pub times-more : (from t : ℕ) (c es : Trace) → AreTimesInOrder from c t → EachAt t es → AreTimesInOrder from (c ++ es) t
times-more from t [] es h at = same_times t es at from h
times-more from t (e ∷ c) es h at = (h.0, times-more e.time t c es h.1 at)

pub from_time : (k t : ℕ) (es : Trace) → k ≤ t → EachAt t es → AreFrom k es
from_time k t [] le at = tt
from_time k t (e ∷ es) le at = let here : e.time ≡ t = at.0 in (omega (arith, here), from_time k t es le at.1)

-- a second before that of the time is over by then
pub is_over : (t s : ℕ) → s < second_of t → end_of_second s ≤ t
is_over t s lt = omega arith

-- one that isn't, is not
pub is_not_over : (t s : ℕ) → second_of t ≤ s → t < end_of_second s
is_not_over t s le = omega arith
