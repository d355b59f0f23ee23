-- How a request goes on: it waits, runs, or is over.
use Rattle.std.specs.Prelude.{ℕ, ◌≡◌, ◌⊎◌, true, Some}
use Rattle.kn_event.specs.declared.event.Stand.TheVariants as stand
use Rattle.kn_event.specs.declared.event.Told.{Told}
use Rattle.kn_sizes.specs.Course.{waits_by}
use Rattle.kn_sizes.specs.Told.{arrival_told}
use Rattle.kn_trace.specs.Trace.{Trace, proxied, stand_of}
use Rattle.kn_book.specs.Book.{call_address}
use Rattle.kn_core.specs.State.{StandsFor}
use Rattle.kn_cell.specs.declared.course.Course.{Course}
use Rattle.kn_cell.specs.declared.course.Course.TheVariants.{Waits, Runs, Over}
use Rattle.kn_cell.specs.declared.view.View.{View}
use Rattle.kn_cell.specs.History.{trace_after}
use Rattle.kn_cell.specs.Shown.{PassView}
use Rattle.kn_cell.specs.Turns.{trace_seen}
use Rattle.kn_cell.specs.Views.{opening}

-- of n addresses: it waits where it is held or queued; it runs at the pod that its stand names, which a call reaches at its
-- address; it is over where it has ended, or never came
abbrev pub IsCourseOf : ℕ → Trace → ℕ → Course → Type 0
IsCourseOf n c r Waits = waits_by (stand_of c r) ≡ true
IsCourseOf n c r (Runs x) = (stand_of c r ≡ stand.Running x.pod) × (x.address ≡ call_address n c x.pod) × (x.proxied ≡ proxied c r)
IsCourseOf n c r Over = (stand_of c r ≡ stand.Ended) ⊎ (stand_of c r ≡ stand.Unknown)

-- so goes on the request that an arrival was told, after all that the view has seen
abbrev pub ArrivalHasCourseAt : View → Told → Course → Type 0
ArrivalHasCourseAt v told x =
    (c : Trace) (r : ℕ) → StandsFor (opening v.key) c → arrival_told told ≡ Some r → IsCourseOf v.key.addresses (trace_seen v c) r x

-- .. that the pass has seen
abbrev pub ArrivalHasCourse : PassView → Told → Course → Type 0
ArrivalHasCourse p told x =
    (c : Trace) (r : ℕ) → StandsFor p.opening c → arrival_told told ≡ Some r → IsCourseOf p.book (trace_after p.opening.spec c p.seen) r x
