-- What an arrival is told, and where its request stands then.
use Rattle.std.specs.Prelude.{◌≡◌, ℕ, ◌+◌, ◌++◌, Option, None, Some}
use Rattle.kn_event.specs.declared.event.Event.{Event}
use Rattle.kn_event.specs.declared.event.Stand.{Stand}
use Rattle.kn_event.specs.declared.event.Stand.TheVariants as stand
use Rattle.kn_event.specs.declared.event.Told.{Told}
use Rattle.kn_event.specs.declared.event.Told.TheVariants as told
use Rattle.kn_event.specs.declared.revision.Spec.{Spec}
use Rattle.kn_trace.specs.Outcome.{Outcome, Overload, Refused, outcome_of}
use Rattle.kn_trace.specs.Trace.{Trace, arrivals, stand_of}
use Rattle.kn_trace.specs.Events.{react, told_of}

-- the request that an arrival is told, and where it stands: a refused one has ended
abbrev pub arrival_told : Told → Option ℕ
arrival_told (told.Run r p) = Some r
arrival_told (told.AtPod r p) = Some r
arrival_told (told.Held r) = Some r
arrival_told (told.QueueFull r) = Some r
arrival_told (told.Overload r) = Some r
arrival_told _ = None

abbrev pub stand_told : Told → Option Stand
stand_told (told.Run r p) = Some (stand.Running p)
stand_told (told.AtPod r p) = Some (stand.Queued p)
stand_told (told.Held r) = Some stand.Held
stand_told (told.QueueFull r) = Some stand.Ended
stand_told (told.Overload r) = Some stand.Ended
stand_told _ = None

-- the outcome that an arrival is told; one that was taken in has none yet
abbrev pub outcome_told : Told → Option Outcome
outcome_told (told.QueueFull r) = Some Refused
outcome_told (told.Overload r) = Some Overload
outcome_told _ = None

-- an arrival is told its own number, the next one, which nobody had before; and after its event it stands as it was told, with that outcome
pub record IsTold (s : Spec) (c : Trace) (e : Event) : Type 0 where
  pub new : stand_of c (arrivals c) ≡ stand.Unknown
  pub number : arrival_told (told_of s c e) ≡ Some (arrivals c)
  pub stands : stand_told (told_of s c e) ≡ Some (stand_of (c ++ react s c e) (arrivals c))
  pub outcome : outcome_of (c ++ react s c e) (arrivals c) ≡ outcome_told (told_of s c e)
  pub counts : arrivals (c ++ react s c e) ≡ arrivals c + 1
