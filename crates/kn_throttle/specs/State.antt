-- What contracts see of a throttler: its revision, and the record of requests and pods.
use Rattle.std.specs.Prelude.{◌==◌, ℕ, List, Option, find, option_map}
use Rattle.kn_event.specs.declared.entry.Row.{Row}
use Rattle.kn_event.specs.declared.revision.Spec.{Spec}
use Rattle.kn_record.specs.declared.admission.Place.{Place}
use Rattle.kn_record.specs.declared.admission.Request.{Request}
use Rattle.kn_record.specs.Admission.{Admission, stepped}

pub record State : Type 0 where
  pub spec : Spec
  pub admission : Admission

-- after one more row, made at this time
abbrev pub with_row : ℕ → Row → State → State
with_row t x s = record s { admission = stepped t x s.admission }

-- where the live request of this number is
abbrev pub place_in : ℕ → List Request → Option Place
place_in r live = option_map (λ (q : Request). q.place) (find (λ (q : Request). q.number == r) live)
