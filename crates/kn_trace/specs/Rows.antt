-- What one row says: the request, pod or value that it is about, where it is a row of that kind.
use Rattle.std.specs.Prelude.{ℕ, ◌==◌, Option, None, Some}
use Rattle.std.specs.Bool.{then_some}
use Rattle.kn_event.specs.declared.entry.Row.{Row}
use Rattle.kn_event.specs.declared.entry.Row.TheVariants as row
use Rattle.kn_event.specs.declared.entry.Phase.{Phase}
use Rattle.kn_event.specs.declared.entry.Mode.{Mode}
use Rattle.kn_event.specs.declared.entry.Decision.{Decision}

-- ---- requests

-- the request that arrives with it
abbrev pub arrived_by : Row → Option ℕ
arrived_by (row.Admit r tag) = Some r
arrived_by (row.QueueFull r pod) = Some r
arrived_by (row.Overload r) = Some r
arrived_by (row.Direct r p) = Some r
arrived_by _ = None

-- the request that the activator takes in
abbrev pub admitted_by : Row → Option ℕ
admitted_by (row.Admit r tag) = Some r
admitted_by _ = None

-- the request that is taken in, through the activator or past it
abbrev pub taken_by : Row → Option ℕ
taken_by (row.Admit r tag) = Some r
taken_by (row.Direct r p) = Some r
taken_by _ = None

-- the request that is refused
abbrev pub refused_by : Row → Option ℕ
refused_by (row.QueueFull r pod) = Some r
refused_by (row.Overload r) = Some r
refused_by _ = None

abbrev pub assigned_by : Row → Option ℕ
assigned_by (row.Assign r p) = Some r
assigned_by _ = None

abbrev pub directed_by : Row → Option ℕ
directed_by (row.Direct r p) = Some r
directed_by _ = None

-- the request that begins to run at the pod that it was sent to
abbrev pub run_by : Row → Option ℕ
run_by (row.Run r) = Some r
run_by _ = None

-- the request that ends
abbrev pub ended_by : Row → Option ℕ
ended_by (row.Finish r ok) = Some r
ended_by (row.Expire r) = Some r
ended_by (row.Cancel r) = Some r
ended_by (row.LostRequest r) = Some r
ended_by _ = None

-- the request whose outcome it is
abbrev pub outcome_by : Row → Option ℕ
outcome_by (row.QueueFull r pod) = Some r
outcome_by (row.Overload r) = Some r
outcome_by (row.Finish r ok) = Some r
outcome_by (row.Expire r) = Some r
outcome_by (row.Cancel r) = Some r
outcome_by (row.LostRequest r) = Some r
outcome_by _ = None

-- the request that comes to pod p
abbrev pub brought_to : ℕ → Row → Option ℕ
brought_to p (row.Assign r q) = then_some (q == p) r
brought_to p (row.Direct r q) = then_some (q == p) r
brought_to p _ = None

-- the pod that request r comes to
abbrev pub pod_by : ℕ → Row → Option ℕ
pod_by r (row.Assign q p) = then_some (q == r) p
pod_by r (row.Direct q p) = then_some (q == r) p
pod_by r _ = None

-- a turn of the requests that go past the activator: one that was sent on, or refused at its pod
abbrev pub turned_by : Row → Option ℕ
turned_by (row.Direct r p) = Some r
turned_by (row.QueueFull r (Some p)) = Some r
turned_by _ = None

-- the request that begins to run with the row: assigned, or with a run row of its own
abbrev pub begun_by : Row → Option ℕ
begun_by (row.Assign r p) = Some r
begun_by (row.Run r) = Some r
begun_by _ = None

-- the request whose timeout is over
abbrev pub expired_by : Row → Option ℕ
expired_by (row.Expire r) = Some r
expired_by _ = None

-- ---- pods

abbrev pub created_by : Row → Option ℕ
created_by (row.Create p n) = Some p
created_by _ = None

abbrev pub readied_by : Row → Option ℕ
readied_by (row.Ready p) = Some p
readied_by _ = None

abbrev pub drained_by : Row → Option ℕ
drained_by (row.Drain p) = Some p
drained_by _ = None

-- the pod that goes: removed, or lost
abbrev pub gone_by : Row → Option ℕ
gone_by (row.Remove p) = Some p
gone_by (row.LostPod p) = Some p
gone_by _ = None

-- the limit that pod p gets
abbrev pub limit_by : ℕ → Row → Option ℕ
limit_by p (row.Create q n) = then_some (q == p) n
limit_by p (row.Limit q n) = then_some (q == p) n
limit_by p _ = None

-- ---- scale

abbrev pub phase_by : Row → Option Phase
phase_by (row.Phase x) = Some x
phase_by _ = None

abbrev pub mode_by : Row → Option Mode
mode_by (row.Mode m) = Some m
mode_by _ = None

abbrev pub decision_by : Row → Option Decision
decision_by (row.Decided d) = Some d
decision_by _ = None
