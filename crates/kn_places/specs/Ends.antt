-- What a row changes of live requests, by where the request stands that ends with it.
use Rattle.std.specs.Prelude.{◌≡◌, ℕ, Bool, false, Option, None, Some}
use Rattle.kn_event.specs.declared.entry.Row.{Row}
use Rattle.kn_event.specs.declared.entry.Row.TheVariants as row
use Rattle.kn_event.specs.declared.event.Stand.{Stand}
use Rattle.kn_event.specs.declared.event.Stand.TheVariants as stand
use Rattle.kn_trace.specs.Rows.{ended_by}
use Rattle.kn_trace.specs.Trace.{Trace, proxied, stand_of}
use Rattle.kn_record.specs.declared.admission.Place.{Place}
use Rattle.kn_record.specs.declared.admission.Place.TheVariants as place
use Rattle.kn_stats.specs.declared.change.Change.{Change}
use Rattle.kn_stats.specs.declared.change.Change.TheVariants as change

-- the end of a request that is there
abbrev pub end_of_place : Place → Change
end_of_place place.Held = change.EndedHeld
end_of_place (place.Queued p) = change.EndedAt p false
end_of_place (place.Running p assigned) = change.EndedAt p assigned

-- the end of a request that stands there, and that the activator handed to its pod or not
abbrev pub end_of : Stand → Bool → Change
end_of (stand.Queued p) through = change.EndedAt p through
end_of (stand.Running p) through = change.EndedAt p through
end_of _ through = change.EndedHeld

-- what a row changes, by where a request stands that ends with it
abbrev pub change_in : Row → Stand → Bool → Option Change
change_in (row.Admit r tag) at through = Some change.Admitted
change_in (row.Assign r p) at through = Some (change.Assigned p)
change_in (row.Direct r p) at through = Some (change.Directed p)
change_in (row.Finish r ok) at through = Some (end_of at through)
change_in (row.Expire r) at through = Some (end_of at through)
change_in (row.Cancel r) at through = Some (end_of at through)
change_in (row.LostRequest r) at through = Some (end_of at through)
change_in _ at through = None

-- a request that ends with the row stands there after the trace, and that says whether it was assigned
pub record IsToldOf (c : Trace) (x : Row) (at : Stand) (through : Bool) : Type 0 where
  pub stands : (r : ℕ) → ended_by x ≡ Some r → at ≡ stand_of c r
  pub handed : (r : ℕ) → ended_by x ≡ Some r → through ≡ proxied c r
