-- The rows of an event one at a time, as a loop makes them that keeps a record in place of the trace.
use Rattle.std.specs.Prelude.{◌≡◌, true, ℕ, ◌∷◌, ◌++◌, List, []}
use Rattle.std.specs.List.{filter}
use Rattle.kn_event.specs.declared.entry.Entry.{Entry}
use Rattle.kn_event.specs.declared.entry.Row.{Row}
use Rattle.kn_event.specs.declared.event.Event.{Event}
use Rattle.kn_event.specs.declared.revision.Spec.{Spec}
use Rattle.kn_trace.specs.Trace.{Trace, entry, is_empty}
use Rattle.kn_trace.specs.Settling.{promotions, settling}
use Rattle.kn_trace.specs.Events.{act_rows, activation, before_settling, departures, expiries, losses, losses_at}
use Rattle.kn_record.specs.Admission.{Admission, is_at, is_draining_now, placed_in, pods_in, stepped}
use Rattle.kn_record.specs.Made.{Holds, IsProper, IsRecordOf}

-- the rows to come at the trace c begin with this one; the others are those to come after it, and the record goes on
abbrev pub BeginsWith : (Trace → List Entry) → ℕ → Row → Admission → Trace → Type 0
BeginsWith rest t x a c = (rest c ≡ entry t x ∷ rest (c ++ entry t x ∷ [])) × IsRecordOf (stepped t x a) (c ++ entry t x ∷ [])

-- a loop that makes the rows all of the trace c: log has grown from old by the first of them, left is still to come at
-- the trace that they made, and the record stands for that trace
pub record Leaves (all left : Trace → List Entry) (c : Trace) (a : Admission) (old log : List Entry) : Type 0 where
  pub here : Trace
  pub stands : IsRecordOf a here
  pub rows : log ++ left here ≡ old ++ all c
  pub whole : here ++ left here ≡ c ++ all c

-- what still runs at these pods
unfoldable pub promoting : ℕ → List ℕ → Trace → List Entry
promoting t ps c = promotions t c ps

-- who is still lost with the live pod p
unfoldable pub losing : ℕ → ℕ → Trace → List Entry
losing t p c = losses_at true t c p

-- the draining pods without a request
abbrev pub leaving_in : Admission → List ℕ
leaving_in a = filter (λ p. is_empty (placed_in (is_at p) a.live)) (pods_in is_draining_now a.pods)

-- the record after these entries
abbrev pub stepped_by : List Entry → Admission → Admission
stepped_by [] a = a
stepped_by (e ∷ es) a = stepped_by es (stepped e.time e.row a)

-- the trace after the expiries of an event, after all who end before its act's own row, and after that row and the
-- autoscaler's
abbrev pub expired_after : Spec → Trace → Event → Trace
expired_after s c e = c ++ expiries s e.time c

abbrev pub gone_after : Spec → Trace → Event → Trace
gone_after s c e = c ++ departures s c e

abbrev pub done_after : Spec → Trace → Event → Trace
done_after s c e = gone_after s c e ++ act_rows s e.time (gone_after s c e) e.act

-- each row that an event adds is proper where it comes, part by part
pub record ArePartsProper (s : Spec) (c : Trace) (e : Event) : Type 0 where
  pub expiries : Holds (IsProper s) c (expiries s e.time c)
  pub losses : Holds (IsProper s) (expired_after s c e) (losses e.time (expired_after s c e) e.act)
  pub acts : Holds (IsProper s) (gone_after s c e) (act_rows s e.time (gone_after s c e) e.act)
  pub activation : Holds (IsProper s) (done_after s c e) (activation e.time (done_after s c e))
  pub settling : Holds (IsProper s) (c ++ before_settling s c e) (settling s e.time (c ++ before_settling s c e))
