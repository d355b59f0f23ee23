-- What the parts of an event need, add and keep.
use Rattle.std.specs.Prelude.{◌≡◌, ℕ, ◌+◌, ◌<◌, ◌≤◌, ◌^◌, Bool, true, false, List, [], ◌∷◌, ◌++◌, length, Option, None, Some, ⊤}
use Rattle.kn_event.specs.Revision.{AreInRange}
use Rattle.kn_event.specs.declared.entry.Entry.{Entry}
use Rattle.kn_event.specs.declared.entry.Row.{Row}
use Rattle.kn_event.specs.declared.entry.Row.TheVariants as row
use Rattle.kn_event.specs.declared.event.Act.{Act}
use Rattle.kn_event.specs.declared.event.Act.TheVariants as act
use Rattle.kn_event.specs.declared.revision.Spec.{Spec}
use Rattle.kn_event.specs.Lists.{contains}
use Rattle.kn_trace.specs.Events.{activation, entries_of, row_of}
use Rattle.kn_trace.specs.Laws.{IsSettled}
use Rattle.kn_trace.specs.Rows.{ended_by}
use Rattle.kn_trace.specs.Trace.{Trace, first_of}
use Rattle.kn_laws.specs.Kinds.{is_act_row}
use Rattle.kn_record.specs.Made.{Holds, IsProper}
use Rattle.kn_record.specs.Admission.{Admission, is_at, placed_in}
use Rattle.kn_record.specs.Order.{AreTimed}
use Rattle.kn_record.specs.Views.{pod_numbers}
use Rattle.kn_pods.specs.Pods.{PodsState, after_row}
use Rattle.kn_throttle.specs.State as throttle
use Rattle.kn_core.specs.State.{ArePartsOf, IsMeasuredAt, IsMeasuredBy, PartsState}

-- nobody has come, and the live requests' times are in order as before
pub record AddsNobody (time : ℕ) (old new : throttle.State) : Type 0 where
  pub spec : new.spec ≡ old.spec
  pub arrivals : new.admission.arrivals ≡ old.admission.arrivals
  pub timed : AreTimed time old.admission → AreTimed time new.admission

-- after a row with which a pod goes that drained; other rows leave the pods
abbrev pub after_removal : Row → PodsState → PodsState
after_removal (row.Remove p) state = after_row (row.Remove p) state
after_removal _ state = state

-- after these rows
abbrev pub after_removals : List Entry → PodsState → PodsState
after_removals [] state = state
after_removals (e ∷ es) state = after_removals es (after_removal e.row state)

-- ---- an act's own row

-- one row more, of throttler and pods
pub record AddsRow (time : ℕ) (x : Row) (old new : PartsState) : Type 0 where
  pub throttle : new.throttle ≡ throttle.with_row time x old.throttle
  pub pods : new.pods ≡ after_row x old.pods
  pub scaler : new.scaler ≡ old.scaler

-- nobody is at a live pod that is lost
abbrev pub IsAlone : Admission → Act → Type 0
IsAlone a (act.Lost p) = contains p (pod_numbers a.pods) ≡ true → placed_in (is_at p) a.live ≡ []
IsAlone a _ = ⊤

-- ---- rows that are proper

-- the parts stand for some trace at which these rows are proper, one after the other
abbrev pub IsReadyFor : (Spec → Trace → List Entry) → PartsState → Type 0
IsReadyFor rows x = ∥ ((c : Trace) × ArePartsOf x.throttle.spec x c × Holds (IsProper x.throttle.spec) c (rows x.throttle.spec c)) ∥₁

-- a request that ends with the row is this one
abbrev pub EndsOnly : Row → ℕ → Type 0
EndsOnly x r = (q : ℕ) → ended_by x ≡ Some q → r ≡ q

-- the request that may end with an act's own row
abbrev pub ending_of : Act → Option ℕ
ending_of (act.Finish r ok) = Some r
ending_of (act.Cancel r) = Some r
ending_of _ = None

-- a request was admitted
abbrev pub is_admitted : Option Row → Bool
is_admitted (Some (row.Admit r tag)) = true
is_admitted _ = false

-- an act's own row, as far as the autoscaler tells acts apart by it: a tick has none, and only an arrival is admitted
abbrev pub is_own_of : Act → Option Row → Bool
is_own_of act.Tick (Some x) = false
is_own_of (act.Arrive tag) own = true
is_own_of a (Some (row.Admit r tag)) = false
is_own_of a own = true

-- the row, if there is one, is that of an act
abbrev pub says_act : Option Row → Bool
says_act None = true
says_act (Some x) = is_act_row x

-- the row, if there is one, is what a tick answers
abbrev pub says_ruling : Option Row → Bool
says_ruling None = true
says_ruling (Some (row.Decided d)) = true
says_ruling (Some row.NoData) = true
says_ruling _ = false

-- so far a loop of these rows has come, which are proper: those left are proper after the trace that was made
pub record LeavesParts (s : Spec) (all left : Trace → List Entry) (c : Trace) (x : PartsState) (old log : List Entry) : Type 0 where
  pub here : Trace
  pub parts : ArePartsOf s x here
  pub proper : Holds (IsProper s) here (left here)
  pub rows : log ++ left here ≡ old ++ all c
  pub whole : here ++ left here ≡ c ++ all c

-- a revision that waits for its first Ready pod is active from its row on
abbrev pub woken : Option Row → ℕ → Trace → List Entry
woken (Some (row.Ready p)) t c = activation t c
woken _ t c = []

-- the row with which it is, behind an act's own row
abbrev pub own_and_woken : ℕ → Option Row → Trace → List Entry
own_and_woken t own c = entries_of t own ++ woken own t (c ++ entries_of t own)

-- ---- what a part of an event adds

-- for each trace that the parts stand for, and that is such a one: the log has these rows more, and the parts stand for the trace
-- with them
pub record AddsWhere (such : Spec → Trace → Type 0) (rows : Spec → Trace → List Entry) (old new : PartsState) (before after : List Entry) : Type 0 where
  pub logged : (s : Spec) (c : Trace) → ArePartsOf s old c → such s c → after ≡ before ++ rows s c
  pub stands : (s : Spec) (c : Trace) → ArePartsOf s old c → such s c → ArePartsOf s new (c ++ rows s c)

-- whichever trace it is
abbrev pub AddsRows : (Spec → Trace → List Entry) → PartsState → PartsState → List Entry → List Entry → Type 0
AddsRows rows old new before after = AddsWhere (λ s c. ⊤) rows old new before after

-- where the rows are proper, one after the other
abbrev pub AddsProper : (Spec → Trace → List Entry) → PartsState → PartsState → List Entry → List Entry → Type 0
AddsProper rows old new before after = AddsWhere (λ s c. Holds (IsProper s) c (rows s c)) rows old new before after

-- an act's own row, where it is proper, with that of a revision that is active from it on
abbrev pub AddsOwn : ℕ → Option Row → PartsState → PartsState → List Entry → List Entry → Type 0
AddsOwn t own old new before after = AddsWhere (λ s c. Holds (IsProper s) c (entries_of t own)) (λ s c. own_and_woken t own c) old new before after

-- the answer is the first of these rows
abbrev pub AnswersFirst : (Spec → Trace → List Entry) → PartsState → Option Row → Type 0
AnswersFirst rows x answer = (s : Spec) (c : Trace) → ArePartsOf s x c → answer ≡ row_of (first_of (rows s c))

-- ---- what a part of an event needs, and what it keeps

-- the parts stand for some trace that is settled, as before each event
abbrev pub ArePartsOfSettled : PartsState → Type 0
ArePartsOfSettled x = ∥ ((c : Trace) × ArePartsOf x.throttle.spec x c × IsSettled x.throttle.spec c) ∥₁

-- as many pods as there may be at most
abbrev pub HasFewPods : PartsState → Type 0
HasFewPods x = length x.throttle.admission.pods ≤ 20500

-- a whole event can come to the parts, with this limit of new pods
pub record CanReact (cc time : ℕ) (x : PartsState) : Type 0 where
  pub some : ArePartsOfSettled x
  pub ranges : AreInRange x.throttle.spec
  pub limit : cc ≡ x.throttle.spec.cc
  pub order : IsMeasuredBy time x.scaler
  pub few : length x.throttle.admission.live ≤ 20000
  pub arrivals : x.throttle.admission.arrivals < 2 ^ 54
  pub timed : AreTimed time x.throttle.admission
  pub created : x.pods.created + 500 ≤ 2 ^ 63

-- the parts as an act finds them, and leaves them
pub record IsInOrderAt (time : ℕ) (x : PartsState) : Type 0 where
  pub timed : AreTimed time x.throttle.admission
  pub few : HasFewPods x
  pub measured : IsMeasuredAt time x.scaler

-- requests can end: the log has room for an entry of each that is live
pub record CanEndRequests (time : ℕ) (x : PartsState) (log : List Entry) : Type 0 where
  pub few : HasFewPods x
  pub measured : IsMeasuredAt time x.scaler
  pub room : length log + length x.throttle.admission.live ≤ 65536

-- requests ended: nobody came, the pods are the same, and at least as many live requests are gone as the log has entries more
pub record OnlyEnds (time : ℕ) (old new : PartsState) (before after : List Entry) : Type 0 where
  pub nobody : AddsNobody time old.throttle new.throttle
  pub created : new.pods.created ≡ old.pods.created
  pub pods : new.throttle.admission.pods ≡ old.throttle.admission.pods
  pub measured : IsMeasuredAt time new.scaler
  pub room : length after + length new.throttle.admission.live ≤ length before + length old.throttle.admission.live

-- pods can be created and drained, with this limit of new ones
pub record CanScale (cc time : ℕ) (x : PartsState) : Type 0 where
  pub limit : cc ≡ x.throttle.spec.cc
  pub draining : length x.pods.draining ≤ 20000
  pub created : x.pods.created + 500 ≤ 2 ^ 63
  pub measured : IsMeasuredAt time x.scaler

-- pods were created and drained: nobody came, and there are at most 500 pods and so many entries more
pub record OnlyScales (time entries : ℕ) (old new : PartsState) (before after : List Entry) : Type 0 where
  pub nobody : AddsNobody time old.throttle new.throttle
  pub created : new.pods.created ≤ old.pods.created + 500
  pub most : length after ≤ length before + entries
