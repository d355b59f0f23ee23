-- How many requests may run, and where a breaker or a pod is full.
use Rattle.std.specs.Prelude.{ℕ, Bool, not, ◌+◌, ◌*◌, ◌&&◌, ◌==◌, nat_lt, nat_le, min, length, if◌then◌else◌}
use Rattle.std.specs.List.{filter, sum_by}
use Rattle.kn_event.specs.declared.revision.Spec.{Spec}
use Rattle.kn_trace.specs.Rows.{assigned_by}
use Rattle.kn_trace.specs.Trace.{Trace, each_row, ended, limit_of, ready_pods, in_breaker, at_pod}

-- the seats that a pod of this limit adds: without a limit, as many as may run at all
abbrev pub seats_of : ℕ → ℕ → ℕ
seats_of most limit = if limit == 0 then most else limit

-- the smaller of the maximum and the sum of the Ready pods' seats
unfoldable pub capacity : Spec → Trace → ℕ
capacity s c = min s.slots.max (sum_by (λ p. seats_of s.slots.max (limit_of c p)) (ready_pods c))

-- how many requests were assigned and have not ended, those at draining pods included
unfoldable pub in_use : Trace → ℕ
in_use c = length (filter (λ r. not (ended c r)) (each_row assigned_by c))

-- as many requests are in the breaker as it has slots
unfoldable pub breaker_full : Spec → Trace → Bool
breaker_full s c = length (in_breaker c) == s.slots.depth + s.slots.max

-- ten wait for each one that may run; a pod without a limit is never full
unfoldable pub pod_full : Trace → ℕ → Bool
pod_full c p = nat_lt 0 (limit_of c p) && nat_le (11 * limit_of c p) (length (at_pod c p))
