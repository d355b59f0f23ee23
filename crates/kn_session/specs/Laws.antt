-- What a session needs to know of traces that events made.
use Rattle.std.specs.Prelude.{◌≡◌, ◌≤◌, ℕ, ◌+◌, ◌++◌, Some}
use Rattle.kn_event.specs.declared.event.Act.TheVariants as act
use Rattle.kn_event.specs.declared.event.Event.{Event}
use Rattle.kn_event.specs.declared.revision.Spec.{Spec}
use Rattle.kn_trace.specs.Events.{need_of, react, told_of}
use Rattle.kn_trace.specs.Outcome.{Outcome, outcome_of}
use Rattle.kn_trace.specs.Trace.{Trace, arrivals}
use Rattle.kn_sizes.specs.Told.{arrival_told}
use Rattle.kn_core.specs.State.{RevisionState, StandsFor}
use Rattle.kn_request.specs.Laws.{Made}
use Rattle.kn_request.specs.Pods.{PodLaws}

pub record SessionLaws : Type 0 where
  pub made : (b : RevisionState) (c : Trace) → StandsFor b c → Made b.spec c
  pub keeps : (s : Spec) (c : Trace) (e : Event) → Made s c → Made s (c ++ react s c e)
  pub number : (s : Spec) (c : Trace) (e : Event) (tag r : ℕ) → Made s c → e.act ≡ act.Arrive tag → arrival_told (told_of s c e) ≡ Some r → r ≡ arrivals c
  pub counts : (s : Spec) (c : Trace) (e : Event) (tag : ℕ) → Made s c → e.act ≡ act.Arrive tag → arrivals (c ++ react s c e) ≡ arrivals c + 1
  pub grows : (s : Spec) (c : Trace) (e : Event) → arrivals c ≤ arrivals (c ++ react s c e)
  pub outcome : (s : Spec) (c : Trace) (e : Event) (r : ℕ) (o : Outcome) → outcome_of c r ≡ Some o → outcome_of (c ++ react s c e) r ≡ Some o
  pub need : (c : Trace) (tag : ℕ) → need_of c (act.Arrive tag) ≡ 2
  pub pods : PodLaws
