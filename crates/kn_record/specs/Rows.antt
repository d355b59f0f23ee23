-- Which request or pod a row is about, whatever its kind.
use Rattle.std.specs.Prelude.{◌≡◌, ℕ, Bool, false, ◌==◌, Option, None, Some}
use Rattle.kn_event.specs.declared.entry.Decision.{Decision}
use Rattle.kn_event.specs.declared.entry.Row.{Row}
use Rattle.kn_event.specs.declared.entry.Row.TheVariants as row
use Rattle.kn_trace.specs.Rows.{admitted_by, assigned_by, brought_to, created_by, drained_by, ended_by, gone_by, limit_by, readied_by, run_by, taken_by}

-- the request that has come and that the row is about. A refusal to end a request may name any number
abbrev pub named_by : Row → Option ℕ
named_by (row.Admit r tag) = Some r
named_by (row.QueueFull r pod) = Some r
named_by (row.Overload r) = Some r
named_by (row.Assign r p) = Some r
named_by (row.Direct r p) = Some r
named_by (row.Run r) = Some r
named_by (row.Finish r ok) = Some r
named_by (row.Expire r) = Some r
named_by (row.Cancel r) = Some r
named_by (row.LostRequest r) = Some r
named_by _ = None

-- the request that comes to a pod
abbrev pub moved_by : Row → Option ℕ
moved_by (row.Assign r p) = Some r
moved_by (row.Direct r p) = Some r
moved_by _ = None

-- the pod that was created and that the row is about
abbrev pub pod_named_by : Row → Option ℕ
pod_named_by (row.Create p n) = Some p
pod_named_by (row.Limit p n) = Some p
pod_named_by (row.Ready p) = Some p
pod_named_by (row.Drain p) = Some p
pod_named_by (row.Remove p) = Some p
pod_named_by (row.LostPod p) = Some p
pod_named_by _ = None

-- ---- what a row says, and what it leaves

-- it says this of r
abbrev pub says : Option ℕ → ℕ → Bool
says None r = false
says (Some q) r = q == r

-- how many rows of its kind it adds
abbrev pub counted : {X : Type 0} → Option X → ℕ
counted None = 0
counted (Some x) = 1

-- it neither takes a request in, nor brings it to a pod, begins or ends it
pub record IsQuiet (x : Row) : Type 0 where
  pub admitted : admitted_by x ≡ None
  pub taken : taken_by x ≡ None
  pub assigned : assigned_by x ≡ None
  pub brought : (p : ℕ) → brought_to p x ≡ None
  pub run : run_by x ≡ None
  pub ended : ended_by x ≡ None

-- it says nothing of any pod
pub record SaysNoPod (x : Row) : Type 0 where
  pub created : created_by x ≡ None
  pub readied : readied_by x ≡ None
  pub drained : drained_by x ≡ None
  pub removed : gone_by x ≡ None
  pub limit : (p : ℕ) → limit_by p x ≡ None

-- what the row's decision wants, or what was wanted before
abbrev pub want_after : Option Decision → ℕ → ℕ
want_after None n = n
want_after (Some d) n = d.want
