-- What is counted of a revision whose rows are recorded.
use Rattle.std.specs.Prelude.{ℕ, ◌≡◌, ◌-◌, length}
use Rattle.kn_event.specs.declared.revision.Spec.{Spec}
use Rattle.kn_trace.specs.Scale.{count_ready}
use Rattle.kn_trace.specs.Trace.{Trace, draining, held, live, starting_pods}
use Rattle.kn_throttle.specs.Gauges.{count_queued, count_running}
use Rattle.kn_core.specs.Gauges.{wanted_now}
use Rattle.kn_figures.specs.declared.figures.Figures.{Figures}
use Rattle.kn_figures.specs.Tallies.{IsTallyOf}

-- of the trace c, where these of its entries were counted, and of so many events, of which so many were taken out
pub record IsFiguresOf (s : Spec) (c counted : Trace) (events taken : ℕ) (f : Figures) : Type 0 where
  pub tally : IsTallyOf f.tally counted
  pub held : f.held ≡ length (held c)
  pub queued : f.queued ≡ count_queued c
  pub running : f.running ≡ count_running c
  pub live : f.live ≡ length (live c)
  pub starting : f.starting ≡ length (starting_pods c)
  pub ready : f.ready ≡ count_ready c
  pub draining : f.draining ≡ length (draining c)
  pub wanted : f.wanted ≡ wanted_now s c
  pub recorded : f.recorded ≡ events
  pub unprinted : f.unprinted ≡ events - taken
