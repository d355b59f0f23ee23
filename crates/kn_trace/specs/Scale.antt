-- What a scaled revision's decisions look back on, and what a decision adds to the trace.
use Rattle.std.specs.Prelude.{ℕ, Bool, true, false, not, ◌+◌, ◌-◌, ◌++◌, nat_le, max, List, [], ◌∷◌, map, reverse, length, take, Option, None, Some, option_map, unwrap_or}
use Rattle.std.specs.List.{filter_map, list_any, range_with_len}
use Rattle.kn_event.specs.declared.entry.Entry.{Entry}
use Rattle.kn_event.specs.declared.entry.Row.{Row}
use Rattle.kn_event.specs.declared.entry.Row.TheVariants as row
use Rattle.kn_event.specs.declared.entry.Phase.{Phase}
use Rattle.kn_event.specs.declared.entry.Phase.TheVariants as phase
use Rattle.kn_event.specs.declared.entry.Mode.{Mode}
use Rattle.kn_event.specs.declared.entry.Mode.TheVariants as mode
use Rattle.kn_event.specs.declared.revision.Spec.{Spec}
use Rattle.kn_scaling.specs.declared.zero.Standing.{Standing}
use Rattle.kn_scaling.specs.Decide as scaling
use Rattle.kn_scaling.specs.Decide.{Decided, Past, Ruling}
use Rattle.kn_scaling.specs.Burst.{is_same_mode}
use Rattle.kn_trace.specs.Rows.{phase_by, mode_by, decision_by}
use Rattle.kn_trace.specs.Trace.{Trace, entry, each_row, last_of, ready_pods, starting_pods, created}
use Rattle.kn_trace.specs.Load.{samples}

-- ---- views

-- the times of the entries whose rows say something of this kind
abbrev pub times_of : {X : Type 0} → (Row → Option X) → Trace → List ℕ
times_of said c = filter_map (λ e. option_map (λ x. e.time) (said e.row)) c

-- the start: a scaled revision's first entry is made at it
abbrev pub start_of : Trace → ℕ
start_of [] = 0
start_of (e ∷ es) = e.time

-- the last phase; a fixed revision has none, a scaled one from its opening on
unfoldable pub phase_of : Trace → Option Phase
phase_of c = last_of (each_row phase_by c)

-- the time of the entry that made it
unfoldable pub phase_since : Trace → ℕ
phase_since c = unwrap_or (last_of (times_of phase_by c)) (start_of c)

-- the last mode, and proxy before the first
unfoldable pub mode_of : Trace → Mode
mode_of c = unwrap_or (last_of (each_row mode_by c)) mode.Proxy

-- the time of the entry that made it, or the start
unfoldable pub mode_since : Trace → ℕ
mode_since c = unwrap_or (last_of (times_of mode_by c)) (start_of c)

-- the scale at the opening: the initial scale, or min-scale where that is more
abbrev pub opening_scale : Spec → ℕ
opening_scale s = max s.initial s.min

-- the scale that the last decision wants, or that of the opening. Only a scaled revision has one
unfoldable pub wanted : Spec → Trace → ℕ
wanted s c = unwrap_or (last_of (map (λ d. d.want) (each_row decision_by c))) (opening_scale s)

unfoldable pub count_ready : Trace → ℕ
count_ready c = length (ready_pods c)

-- after some entry, or before the first, as many pods as the initial scale were Ready
unfoldable pub initial_reached : Spec → Trace → Bool
initial_reached s c = list_any (λ k. nat_le s.initial (count_ready (take k c))) (range_with_len 0 (length c + 1))

abbrev pub decided_by : Entry → Option Decided
decided_by e = option_map (λ d. record { time = e.time; decision = d }) (decision_by e.row)

unfoldable pub standing_of : Spec → Trace → Standing
standing_of s c = record {
  phase = unwrap_or (phase_of c) phase.Inactive;
  phase_since = phase_since c;
  mode = mode_of c;
  mode_since = mode_since c;
  want = wanted s c;
}

-- what the next decision looks back on
unfoldable pub past_of : Spec → Trace → Past
past_of s c = record {
  samples = samples s.metric c;
  decisions = reverse (filter_map decided_by c);
  standing = standing_of s c;
  reached = initial_reached s c;
}

-- ---- the pods of a scale

-- so many new pods, numbered from the one given on, with the containerConcurrency as their limit
abbrev pub creations : Spec → ℕ → ℕ → ℕ → List Entry
creations s t from n = map (λ p. entry t (row.Create p s.cc)) (range_with_len from n)

-- the live pods that do not drain, in the order in which they are drained: Starting ones before Ready ones, of each the
-- one with the greatest number first
unfoldable pub drain_order : Trace → List ℕ
drain_order c = reverse (starting_pods c) ++ reverse (ready_pods c)

-- too few live pods that do not drain: new ones. Too many: the first ones in that order drain. One of the two lists is empty
unfoldable pub scale_rows : Spec → ℕ → Trace → ℕ → List Entry
scale_rows s t c want =
    let standing = length (drain_order c) in
    creations s t (created c) (want - standing) ++ map (λ p. entry t (row.Drain p)) (take (standing - want) (drain_order c))

-- ---- the rows of a decision

abbrev pub is_in_phase : Phase → Option Phase → Bool
is_in_phase phase.Activating (Some phase.Activating) = true
is_in_phase phase.Active (Some phase.Active) = true
is_in_phase phase.Inactive (Some phase.Inactive) = true
is_in_phase _ _ = false

abbrev pub where_true : Bool → List Entry → List Entry
where_true false es = []
where_true true es = es

-- the decision, the phase and the mode where they changed, and the pods of the new scale where it is applied
unfoldable pub decision_rows : Spec → ℕ → Trace → Ruling → List Entry
decision_rows s t c made =
    entry t (row.Decided made.decision)
    ∷ where_true (not (is_in_phase made.phase (phase_of c))) (entry t (row.Phase made.phase) ∷ [])
    ++ where_true (not (is_same_mode made.decision.mode (mode_of c))) (entry t (row.Mode made.decision.mode) ∷ [])
    ++ where_true made.decision.applied (scale_rows s t c made.decision.want)

-- the decision of a tick, by the averages over the samples; none without a sample in the stable window
unfoldable pub decision_at : Spec → Trace → ℕ → Option Ruling
decision_at s c t = scaling.decision_at s (past_of s c) t (count_ready c)

-- the decision on an arrival while no pod is wanted, which takes one request for both averages
unfoldable pub wake_decision_at : Spec → Trace → ℕ → Ruling
wake_decision_at s c t = scaling.wake_decision_at s (past_of s c) t (count_ready c)

abbrev pub tick_rows_of : Spec → ℕ → Trace → Option Ruling → List Entry
tick_rows_of s t c None = entry t row.NoData ∷ []
tick_rows_of s t c (Some made) = decision_rows s t c made

unfoldable pub tick_rows : Spec → ℕ → Trace → List Entry
tick_rows s t c = tick_rows_of s t c (decision_at s c t)

unfoldable pub wake_rows : Spec → ℕ → Trace → List Entry
wake_rows s t c = decision_rows s t c (wake_decision_at s c t)
