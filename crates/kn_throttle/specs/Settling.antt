-- What follows without a further act, of the record.
use Rattle.std.specs.Prelude.{◌≡◌, ℕ, Bool, ◌+◌, ◌++◌, List, [], Option, None, IfNone, IfSome, length}
use Rattle.kn_event.specs.declared.entry.Entry.{Entry}
use Rattle.kn_event.specs.declared.entry.Row.{Row}
use Rattle.kn_trace.specs.Trace.{Trace, first_of}
use Rattle.kn_record.specs.Admission.{Admission, placed_in, waits}
use Rattle.kn_record.specs.Made.{IsRecordOf}
use Rattle.kn_record.specs.Order.{AreTimed}
use Rattle.kn_record.specs.Views.{is_pod_where, pod_numbered, pod_numbers}
use Rattle.kn_record.specs.Walks.{BeginsWith, promoting, stepped_by}
use Rattle.kn_throttle.specs.Kept.{can_leave, can_run}
use Rattle.kn_throttle.specs.Pods.{pods_where}

-- whether the first queued request of pod p may run, and whether the pod drains with nothing at it
abbrev pub can_run_at : Admission → ℕ → Bool
can_run_at a p = is_pod_where (can_run a.live) (pod_numbered p a.pods)

abbrev pub can_leave_at : Admission → ℕ → Bool
can_leave_at a p = is_pod_where (can_leave a.live) (pod_numbered p a.pods)

-- no queued request may run: at no pod, and in no trace that the record stands for
pub record IsCalm (a : Admission) : Type 0 where
  pub pods : first_of (pods_where (can_run a.live) a.pods) ≡ None
  pub rows : (c : Trace) (time : ℕ) → IsRecordOf a c → promoting time (pod_numbers a.pods) c ≡ []

-- the row that is answered begins those to come: in each trace that the record stands for, and at any time
abbrev pub Begins : {X : Type 0} → (ℕ → Trace → List Entry) → (X → Row) → Admission → Option X → Type 0
Begins rest row a answer = (c : Trace) (time : ℕ) → IsRecordOf a c → IfSome answer (λ x. BeginsWith (rest time) time (row x) a c)

-- where none is answered, none is to come
abbrev pub Ends : {X : Type 0} → (ℕ → Trace → List Entry) → Admission → Option X → Type 0
Ends rest a answer = (c : Trace) (time : ℕ) → IsRecordOf a c → IfNone answer (rest time c ≡ [])

-- how many rows may follow at most: each is of a request that waits, or of a pod
abbrev pub rows_left : Admission → ℕ
rows_left a = length (placed_in waits a.live) + length a.pods

-- nobody has come and no pod was created, and the live requests' times are in order as before
pub record AddsNobody (old new : Admission) : Type 0 where
  pub arrivals : new.arrivals ≡ old.arrivals
  pub created : new.created ≡ old.created
  pub timed : (clock : ℕ) → AreTimed clock old → AreTimed clock new

-- the log has grown by rows, and the new record is the old one after each of them
pub record LogsSteps (old new : Admission) (before after : List Entry) : Type 0 where
  pub rows : List Entry
  pub logged : after ≡ before ++ rows
  pub stepped : new ≡ stepped_by rows old
