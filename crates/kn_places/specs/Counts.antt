-- How many requests are live of each way, and at each pod, by changes and by places.
use Rattle.std.specs.Prelude.{◌≡◌, ℕ, ◌+◌, Bool, false, not, ◌&&◌, ◌==◌, List, length}
use Rattle.kn_record.specs.declared.admission.Place.{Place}
use Rattle.kn_record.specs.declared.admission.Place.TheVariants as place
use Rattle.kn_record.specs.declared.admission.Request.{Request}
use Rattle.kn_record.specs.Admission.{is_held_place, is_through, placed_in}
use Rattle.kn_stats.specs.declared.change.Change.{Change}
use Rattle.kn_stats.specs.Changes.{TimedChange, at, count_of, ends_admitted, ends_assigned, ends_directed, ends_waiting, is_admitted, is_assigned, is_directed}

-- it went past the activator
abbrev pub is_past : Place → Bool
is_past x = not (is_through x)

-- it went straight to pod p
abbrev pub is_past_at : ℕ → Place → Bool
is_past_at p place.Held = false
is_past_at p (place.Queued q) = q == p
is_past_at p (place.Running q assigned) = not assigned && (q == p)

-- the activator handed it to pod p
abbrev pub is_through_at : ℕ → Place → Bool
is_through_at p (place.Running q assigned) = assigned && (q == p)
is_through_at p _ = false

-- these changes begin what passes the test and end it, and as many are left as these requests
abbrev pub Leave : (Change → Bool) → (Change → Bool) → (Place → Bool) → List TimedChange → List Request → Type 0
Leave begins ends test cs live = count_of begins cs ≡ count_of ends cs + length (placed_in test live)

pub record AreCounted (cs : List TimedChange) (live : List Request) : Type 0 where
  pub waiting : Leave is_admitted ends_waiting is_held_place cs live
  pub through : Leave is_admitted ends_admitted is_through cs live
  pub past : Leave is_directed ends_directed is_past cs live
  pub past_at : (p : ℕ) → Leave (at is_directed p) (at ends_directed p) (is_past_at p) cs live
  pub through_at : (p : ℕ) → Leave (at is_assigned p) (at ends_assigned p) (is_through_at p) cs live
