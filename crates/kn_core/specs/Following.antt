-- Pods that a scale creates or drains, as a throttler takes them.
use Rattle.std.specs.Prelude.{◌≡◌, ◌<◌, ◌≤◌, ◌^◌, ◌||◌, true, List, [], ◌∷◌, length, ⊤}
use Rattle.kn_event.specs.declared.entry.Entry.{Entry}
use Rattle.kn_event.specs.declared.entry.Row.{Row}
use Rattle.kn_event.specs.declared.entry.Row.TheVariants as row
use Rattle.kn_event.specs.Lists.{contains}
use Rattle.kn_record.specs.Admission.{Admission, is_ready_now, is_starting_now, pods_in, stepped}
use Rattle.kn_record.specs.Walks.{stepped_by}
use Rattle.kn_throttle.specs.Kept.{pods_room}
use Rattle.kn_throttle.specs.State.{State}

-- a row with which a pod is created or drains, that comes next
abbrev pub CanTake : Admission → Row → Type 0
CanTake a (row.Create p n) = (p ≡ a.created) × (p < 2 ^ 63) × (length a.pods < pods_room) × (n ≤ 1000)
CanTake a (row.Drain p) = (contains p (pods_in is_starting_now a.pods) || contains p (pods_in is_ready_now a.pods)) ≡ true
CanTake a _ = ⊥

-- one after the other
abbrev pub CanFollow : Admission → List Entry → Type 0
CanFollow a [] = ⊤
CanFollow a (e ∷ es) = CanTake a e.row × CanFollow (stepped e.time e.row a) es

-- a throttler after these rows
abbrev pub after_scale : List Entry → State → State
after_scale es x = record x { admission = stepped_by es x.admission }
