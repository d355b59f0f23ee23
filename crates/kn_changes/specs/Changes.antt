-- What each entry of a trace changes of live requests.
use Rattle.std.specs.Prelude.{ℕ, Bool, List, [], ◌∷◌, ◌++◌, Option, None, Some, option_map}
use Rattle.std.specs.List.{cons_option}
use Rattle.kn_event.specs.declared.entry.Entry.{Entry}
use Rattle.kn_event.specs.declared.entry.Row.{Row}
use Rattle.kn_event.specs.declared.entry.Row.TheVariants as row
use Rattle.kn_trace.specs.Trace.{Trace, assigned, pod_of}
use Rattle.kn_stats.specs.declared.change.Change.{Change}
use Rattle.kn_stats.specs.declared.change.Change.TheVariants as change
use Rattle.kn_stats.specs.Changes.{TimedChange, timed}

-- the end of a request that came to this pod, if to any, through the activator or not
abbrev pub end_at : Option ℕ → Bool → Change
end_at None through = change.EndedHeld
end_at (Some p) through = change.EndedAt p through

-- the end of request r after the trace
abbrev pub end_after : Trace → ℕ → Change
end_after c r = end_at (pod_of c r) (assigned c r)

-- what the row changes after the trace
abbrev pub change_by : Trace → Row → Option Change
change_by c (row.Admit r tag) = Some change.Admitted
change_by c (row.Assign r p) = Some (change.Assigned p)
change_by c (row.Direct r p) = Some (change.Directed p)
change_by c (row.Finish r ok) = Some (end_after c r)
change_by c (row.Expire r) = Some (end_after c r)
change_by c (row.Cancel r) = Some (end_after c r)
change_by c (row.LostRequest r) = Some (end_after c r)
change_by c _ = None

-- with the time of the entry
abbrev pub change_of : Trace → Entry → Option TimedChange
change_of c e = option_map (timed e.time) (change_by c e.row)

-- the changes of the entries that come after these
abbrev pub changes_after : Trace → Trace → List TimedChange
changes_after c [] = []
changes_after c (e ∷ es) = cons_option (change_of c e) (changes_after (c ++ e ∷ []) es)

-- the changes of a trace, each with what stood before its entry
unfoldable pub changes_of : Trace → List TimedChange
changes_of c = changes_after [] c
