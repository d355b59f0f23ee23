-- What the lines of a run say of it: each row of its trace is told by the trace before it.
use Rattle.std.specs.Prelude.{◌≡◌, ◌⊎◌, ◌<◌, ◌-◌, ◌*◌, ◌∷◌, ◌++◌, ◌&&◌, ℕ, Bool, true, false, List, [], Option, None, Some}
use Rattle.std.specs.List.{filter}
use Rattle.kn_event.specs.Revision.{AreInRange}
use Rattle.kn_event.specs.declared.entry.Decision.{Decision}
use Rattle.kn_event.specs.declared.entry.Entry.{Entry}
use Rattle.kn_event.specs.declared.entry.Phase.TheVariants as phase
use Rattle.kn_event.specs.declared.entry.Row.{Row}
use Rattle.kn_event.specs.declared.entry.Row.TheVariants as row
use Rattle.kn_event.specs.declared.event.Event.{Event}
use Rattle.kn_event.specs.declared.revision.Spec.{Spec}
use Rattle.kn_scaling.specs.Decide.{Ruling}
use Rattle.kn_scaling.specs.Zero.{has_lasted, may_go}
use Rattle.kn_trace.specs.Capacity.{breaker_full}
use Rattle.kn_trace.specs.Events.{trace_of}
use Rattle.kn_trace.specs.Rows.{decision_by}
use Rattle.kn_trace.specs.Scale.{count_ready, decision_at, past_of, phase_of, phase_since, standing_of, wake_decision_at, wanted}
use Rattle.kn_trace.specs.Trace.{Trace, entry, last_of, pod_of}
use Rattle.kn_lives.specs.Lives.{arrived_at}
use Rattle.kn_reason.specs.declared.reason.Reason.{Reason}
use Rattle.kn_reason.specs.declared.reason.Reason.TheVariants as reason
use Rattle.kn_show_reasons.specs.declared.notice.Notice.{Notice}
use Rattle.kn_show_reasons.specs.declared.notice.Notice.TheVariants as notice
use Rattle.kn_show_reasons.specs.Holding.{BoundsTell}
use Rattle.kn_show_reasons.specs.Notices.{notice_by}
use Rattle.kn_show_reasons.specs.Reading.{count_read}
use Rattle.kn_show_reasons.specs.Sentences.{reasons_of}

-- this holds of each row of the trace of whatever events, and of the trace before the row
abbrev pub AtEachRow : (Spec → Trace → Entry → Type 0) → Type 0
AtEachRow P = (s : Spec) (start : ℕ) (es : List Event) (before rest : Trace) (x : Entry) → trace_of s start es ≡ before ++ x ∷ rest → P s before x

-- .. and of each row that is a decision, of the trace before it and its time
abbrev pub AtEachDecided : (Spec → Trace → ℕ → Decision → Type 0) → Type 0
AtEachDecided P = AtEachRow (λ s c x. (d : Decision) → decision_by x.row ≡ Some d → P s c x.time d)

-- ---- a decision

-- a request was admitted just before, while no pod was wanted
pub record Wakes (s : Spec) (c : Trace) (t : ℕ) : Type 0 where
  pub request : ℕ
  pub tag : ℕ
  pub admitted : last_of c ≡ Some (entry t (row.Admit request tag))
  pub none : wanted s c ≡ 0

-- the decision is the one by this trace's past: that of a tick, or the one that wakes the revision
pub record IsByPast (s : Spec) (c : Trace) (t : ℕ) (d : Decision) : Type 0 where
  pub made : Ruling
  pub way : (decision_at s c t ≡ Some made) ⊎ (Wakes s c t × (wake_decision_at s c t ≡ made))
  pub same : made.decision ≡ d

-- its lines
abbrev pub reasons_at : Spec → Trace → ℕ → Decision → List Reason
reasons_at s c t d = reasons_of s t (phase_of c) (phase_since c) d

-- read from the top, the counts that they name end at the pods that it wants
abbrev pub NamesOwnWant : Spec → Trace → ℕ → Decision → Type 0
NamesOwnWant s c t d = AreInRange s → count_read (reasons_at s c t d) ≡ d.want

-- the lines of its rules stand where these changed the count
abbrev pub TellsOwnBounds : Spec → Trace → ℕ → Decision → Type 0
TellsOwnBounds s c t d = AreInRange s → BoundsTell s (past_of s c) t d

-- ---- scale to zero

abbrev pub is_about_zero : Reason → Bool
is_about_zero (reason.NoZero pods) = true
is_about_zero (reason.Waits pods) = true
is_about_zero (reason.Active passed window pods) = true
is_about_zero (reason.GoesInactive passed window) = true
is_about_zero (reason.Inactive passed pods) = true
is_about_zero (reason.NotYet passed grace retention) = true
is_about_zero _ = false

-- the lines on it
abbrev pub zero_lines : Spec → Trace → ℕ → Decision → List Reason
zero_lines s c t d = filter is_about_zero (reasons_at s c t d)

-- where no pod is asked for: since when the phase lasts, and the case of the rule
pub record ZeroTells (s : Spec) (c : Trace) (t : ℕ) (d : Decision) : Type 0 where
  -- some are asked for: no line
  pub some : 0 < d.bounded → zero_lines s c t d ≡ []
  -- without scale to zero one pod is wanted
  pub stays : d.bounded ≡ 0 → s.to_zero ≡ false → zero_lines s c t d ≡ reason.NoZero 1 ∷ []
  -- a revision that waits for its first Ready pod wants what it wanted
  pub waits : d.bounded ≡ 0 → s.to_zero ≡ true → phase_of c ≡ Some phase.Activating → zero_lines s c t d ≡ reason.Waits (wanted s c) ∷ []
  -- an active one wants one pod for a stable window, and then goes inactive
  pub active : d.bounded ≡ 0 → s.to_zero ≡ true → phase_of c ≡ Some phase.Active → has_lasted (phase_since c) (1000 * s.stable_s) t ≡ false
      → zero_lines s c t d ≡ reason.Active (t - phase_since c) (1000 * s.stable_s) 1 ∷ []
  pub goes : d.bounded ≡ 0 → s.to_zero ≡ true → phase_of c ≡ Some phase.Active → has_lasted (phase_since c) (1000 * s.stable_s) t ≡ true
      → zero_lines s c t d ≡ reason.GoesInactive (t - phase_since c) (1000 * s.stable_s) ∷ []
  -- the pods of an inactive one go once they may
  pub gone : d.bounded ≡ 0 → s.to_zero ≡ true → phase_of c ≡ Some phase.Inactive → may_go s t (standing_of s c) ≡ true
      → zero_lines s c t d ≡ reason.Inactive (t - phase_since c) 0 ∷ []
  pub not_yet : d.bounded ≡ 0 → s.to_zero ≡ true → phase_of c ≡ Some phase.Inactive → may_go s t (standing_of s c) ≡ false
      → zero_lines s c t d ≡ reason.NotYet (t - phase_since c) s.grace_ms s.retention_ms ∷ []

-- ---- the breaker

-- the line of a row that is no decision
abbrev pub notice_at : Spec → Trace → ℕ → Row → Option Notice
notice_at s c t y = notice_by s (arrived_at c) (pod_of c) (count_ready c) t y

-- it says that the breaker is full
abbrev pub names_breaker : Option Notice → Bool
names_breaker (Some (notice.BreakerFull r depth most)) = true
names_breaker _ = false

-- a request comes to the breaker: it is taken in, or refused there
abbrev pub comes_to_breaker : Row → Bool
comes_to_breaker (row.Admit r tag) = true
comes_to_breaker (row.QueueFull r None) = true
comes_to_breaker _ = false

-- it says so exactly where a request comes to the breaker and that is full
abbrev pub TellsBreaker : Spec → Trace → Entry → Type 0
TellsBreaker s c x = names_breaker (notice_at s c x.time x.row) ≡ (comes_to_breaker x.row && breaker_full s c)
