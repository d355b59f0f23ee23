-- What one request's move, or its end, changes of who passes a test of places.
use Rattle.std.specs.Prelude.{◌≡◌, ℕ, Bool, true, false, not, ◌+◌, ◌==◌, List, Some, length, if◌then◌else◌}
use Rattle.std.specs.List.{filter, find}
use Rattle.kn_record.specs.declared.admission.Place.{Place}
use Rattle.kn_record.specs.declared.admission.Place.TheVariants as place
use Rattle.kn_record.specs.declared.admission.Request.{Request}
use Rattle.kn_record.specs.Admission.{moved, placed_in, runs_somewhere, waits, without}

-- whether it waits, or whether it runs
abbrev pub waits_or_runs : Bool → Place → Bool
waits_or_runs true x = waits x
waits_or_runs false x = runs_somewhere x

abbrev pub one_if : Bool → ℕ
one_if b = if b then 1 else 0

-- request r went from one place to another
pub record Moves (r : ℕ) (from to : Place) (old new : List Request) : Type 0 where
  -- where both places pass, or neither, the same requests pass
  pub same : (test : Place → Bool) → test from ≡ test to → placed_in test new ≡ placed_in test old
  -- where the new place doesn't pass, all but r
  pub left : (test : Place → Bool) → test to ≡ false → placed_in test new ≡ filter (λ q. not (r == q)) (placed_in test old)
  pub counts : (test : Place → Bool) → length (placed_in test new) + one_if (test from) ≡ length (placed_in test old) + one_if (test to)

-- request r ended at this place
pub record Leaves (r : ℕ) (from : Place) (old new : List Request) : Type 0 where
  pub same : (test : Place → Bool) → test from ≡ false → placed_in test new ≡ placed_in test old
  pub left : (test : Place → Bool) → placed_in test new ≡ filter (λ q. not (r == q)) (placed_in test old)
  pub counts : (test : Place → Bool) → length (placed_in test new) + one_if (test from) ≡ length (placed_in test old)

-- request r, which was held, was assigned to pod p
pub record IsAssigned (r p : ℕ) (old new : List Request) : Type 0 where
  pub moved : new ≡ moved r (place.Running p true) old
  pub moves : Moves r place.Held (place.Running p true) old new
  pub len : length new ≡ length old

-- request r ended, which was this one
pub record IsRemoved (r : ℕ) (ended : Request) (old new : List Request) : Type 0 where
  pub request : find (λ (q : Request). q.number == r) old ≡ Some ended
  pub removed : new ≡ without r old
  pub leaves : Leaves r ended.place old new
  pub len : length new + 1 ≡ length old
