-- Which act a row comes from.
use Rattle.std.specs.Prelude.{◌≡◌, ℕ, Bool, ◌∷◌, ◌++◌, ◌⊎◌, ⊤}
use Rattle.kn_event.specs.declared.entry.Entry.{Entry}
use Rattle.kn_event.specs.declared.entry.Row.{Row}
use Rattle.kn_event.specs.declared.entry.Row.TheVariants as row
use Rattle.kn_event.specs.declared.event.Act.{Act}
use Rattle.kn_event.specs.declared.event.Act.TheVariants as act
use Rattle.kn_event.specs.declared.event.Event.{Event}
use Rattle.kn_event.specs.declared.revision.Spec.{Spec}
use Rattle.kn_trace.specs.Trace.{Trace}
use Rattle.kn_trace.specs.Events.{react}

abbrev pub IsArrival : Act → Type 0
IsArrival a = (tag : ℕ) × (a ≡ act.Arrive tag)

-- a row of an act comes from an act that names what it is about. Expiries, decisions and the settling come by themselves
abbrev pub IsByAct : Act → Row → Type 0
IsByAct a (row.Admit r tag) = a ≡ act.Arrive tag
IsByAct a (row.QueueFull r pod) = IsArrival a
IsByAct a (row.Overload r) = IsArrival a
IsByAct a (row.Direct r p) = IsArrival a
IsByAct a (row.Finish r ok) = a ≡ act.Finish r ok
IsByAct a (row.NotRunning r) = (ok : Bool) × (a ≡ act.Finish r ok)
IsByAct a (row.Cancel r) = a ≡ act.Cancel r
IsByAct a (row.NotWaiting r) = a ≡ act.Cancel r
IsByAct a (row.Ready p) = a ≡ act.Ready p
IsByAct a (row.NotStarting p) = a ≡ act.Ready p
IsByAct a (row.Limit p n) = a ≡ act.Limit p n
IsByAct a (row.LostRequest r) = (p : ℕ) × (a ≡ act.Lost p)
IsByAct a (row.LostPod p) = a ≡ act.Lost p
IsByAct a (row.NoPod p) = (a ≡ act.Ready p) ⊎ (((n : ℕ) × (a ≡ act.Limit p n)) ⊎ (a ≡ act.Lost p))
IsByAct a _ = ⊤

-- so it is of each row that an event adds
abbrev pub AreByAct : Spec → Trace → Event → Type 0
AreByAct s c e = (before : Trace) (x : Entry) (rest : Trace) → react s c e ≡ before ++ x ∷ rest → IsByAct e.act x.row
