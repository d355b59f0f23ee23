-- One event of a revision.
use Rattle.std.specs.Prelude.{◌≡◌, ◌+◌, ◌≤◌, ◌++◌, List, length, ⊤}
use Rattle.kn_event.specs.declared.entry.Entry.{Entry}
use Rattle.kn_event.specs.declared.event.Act.{Act}
use Rattle.kn_event.specs.declared.event.Act.TheVariants as act
use Rattle.kn_event.specs.declared.event.Event.{Event}
use Rattle.kn_event.specs.declared.event.Told.{Told}
use Rattle.kn_trace.specs.Events.{need_of, react, told_of}
use Rattle.kn_trace.specs.Laws.{IsInert, IsLawful, IsSettled}
use Rattle.kn_trace.specs.Trace.{Trace}
use Rattle.kn_laws.specs.Kinds.{EachAt}
use Rattle.kn_core.specs.Refused.{LeavesByAnswer}
use Rattle.kn_core.specs.State.{RevisionState, StandsFor}

-- a limit is at most 1,000
abbrev pub IsWithinRange : Act → Type 0
IsWithinRange (act.Limit p n) = n ≤ 1000
IsWithinRange _ = ⊤

-- the revision took the event: the entries are what it adds to the trace, the answer is what it is told, and live requests grew by
-- at most the need of its act less one. Each trace that the revision stands for then is lawful and settled, and an event that is
-- refused then changes nothing else
pub record Steps (old : RevisionState) (e : Event) (entries : List Entry) (answer : Told) (new : RevisionState) : Type 0 where
  pub logged : (c : Trace) → StandsFor old c → entries ≡ react old.spec c e
  pub told : (c : Trace) → StandsFor old c → answer ≡ told_of old.spec c e
  pub stands : (c : Trace) → StandsFor old c → StandsFor new (c ++ react old.spec c e)
  pub at : EachAt e.time entries
  pub few : length entries ≤ 41005
  pub grows : (c : Trace) → StandsFor old c → length new.parts.throttle.admission.live + 1 ≤ length old.parts.throttle.admission.live + need_of c e.act
  pub lawful : (c : Trace) → StandsFor new c → IsLawful new.spec c
  pub settled : (c : Trace) → StandsFor new c → IsSettled new.spec c
  pub inert : (c : Trace) (later : Event) → StandsFor new c → IsInert new.spec c later
  pub beside : (c : Trace) (later : Event) → StandsFor new c → LeavesByAnswer new.spec c later
  pub spec : new.spec ≡ old.spec
  pub start : new.start ≡ old.start
  pub clock : new.clock ≡ e.time
  pub events : new.events ≡ old.events + 1

-- the revision took the event, and these are the entries that it adds to the trace
pub record Takes (old : RevisionState) (e : Event) (entries : List Entry) (new : RevisionState) : Type 0 where
  pub logged : (c : Trace) → StandsFor old c → entries ≡ react old.spec c e
  pub stands : (c : Trace) → StandsFor old c → StandsFor new (c ++ react old.spec c e)
  pub at : EachAt e.time entries
  pub few : length entries ≤ 41005
  pub spec : new.spec ≡ old.spec
  pub start : new.start ≡ old.start
  pub clock : new.clock ≡ e.time
  pub events : new.events ≡ old.events + 1
