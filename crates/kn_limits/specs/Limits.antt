-- Rows by what they do to seats.
use Rattle.std.specs.Prelude.{◌≡◌, Bool, true, false, []}
use Rattle.kn_trace.specs.Trace.{Trace, draining, live_pods}
use Rattle.kn_event.specs.declared.entry.Row.{Row}
use Rattle.kn_event.specs.declared.entry.Row.TheVariants as row

-- nobody begins to run with it
abbrev pub seats_nobody : Row → Bool
seats_nobody (row.Assign r p) = false
seats_nobody (row.Run r) = false
seats_nobody _ = true

-- it sets no limit
abbrev pub sets_no_limit : Row → Bool
sets_no_limit (row.Create p n) = false
sets_no_limit (row.Limit p n) = false
sets_no_limit _ = true

-- the same pods live, and none drains
pub record StaysPods (c d : Trace) : Type 0 where
  pub live : live_pods d ≡ live_pods c
  pub none : draining d ≡ []
