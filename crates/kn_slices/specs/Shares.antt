-- Activators by their traces alone: what they share of so many pods, whichever events they took.
use Rattle.std.specs.Prelude.{◌≡◌, ◌++◌, ◌<◌, ◌≤◌, ℕ, max, List, [], length, replicate, slice_index_or, slice_set, Some}
use Rattle.std.specs.List.{range_with_len}
use Rattle.kn_event.specs.FixedSpec.{fixed_spec}
use Rattle.kn_event.specs.declared.event.Event.{Event}
use Rattle.kn_event.specs.declared.revision.Kind.TheVariants as kind
use Rattle.kn_event.specs.declared.revision.Slots.{Slots}
use Rattle.kn_event.specs.declared.revision.Spec.{Spec}
use Rattle.kn_trace.specs.Events.{react}
use Rattle.kn_trace.specs.Laws.{IsInert, IsLawful, IsSettled}
use Rattle.kn_trace.specs.Trace.{Trace, draining, live_pods}
use Rattle.kn_record.specs.Made.{IsMade}
use Rattle.kn_slices.specs.declared.change.Change.{Change}
use Rattle.kn_slices.specs.Activators.{IsPlain, openings_of}
use Rattle.kn_slices.specs.Group.{IsGroup}
use Rattle.kn_slices.specs.Slices.{force_after, hold, runs, slice_of}
use Rattle.kn_slices.specs.Traces.{IsSafe, due_among, forces_by, limit_by, made_at, running_by, trace_at}

-- the trace of an activator: a fixed revision with these pods, each with a limit, whose rows were proper when they came
pub record IsShare (pods : ℕ) (s : Spec) (c : Trace) : Type 0 where
  pub fixed : s.kind ≡ kind.Fixed pods
  pub made : IsMade s c
  pub settled : IsSettled s c
  pub live : live_pods c ≡ range_with_len 0 pods
  pub none : draining c ≡ []
  pub limits : (q : ℕ) → q < pods → 1 ≤ limit_by q c

-- such are these traces, each of its specification; and of each pod the limits that are wanted and in force
pub record AreShares (specs : ℕ → Spec) (cs : List Trace) (wanted force : List ℕ) : Type 0 where
  pub group : IsGroup limit_by running_by cs wanted force
  pub each : (i : ℕ) → i < length cs → IsShare (length wanted) (specs i) (trace_at cs i)

-- activator i took the event: its trace goes on by what that adds
abbrev pub gone_on : (ℕ → Spec) → List Trace → ℕ → Event → List Trace
gone_on specs cs i e = slice_set cs i (trace_at cs i ++ react (specs i) (trace_at cs i) e)

-- that is what is shared then
abbrev pub GoOn : (ℕ → Spec) → List Trace → List ℕ → List ℕ → ℕ → Event → Type 0
GoOn specs cs wanted force i e = AreShares specs (gone_on specs cs i e) wanted (forces_by (gone_on specs cs i e) wanted force)

-- ---- what holds of them

pub record ShareLaws : Type 0 where
  -- at their opening, each with its slice of the limit
  pub begin : (n limit pods timeout_s start : ℕ) (slots : Slots) → 1 ≤ n → n ≤ 16 → n ≤ limit → limit ≤ 1000 → pods ≤ 500
      → AreShares (λ i. fixed_spec (slice_of limit i n) pods timeout_s slots) (openings_of n limit pods timeout_s slots start) (replicate pods limit) (replicate pods limit)
  -- after an event of one of them that is neither a limit, nor a tick, nor a loss
  pub step : (specs : ℕ → Spec) (cs : List Trace) (wanted force : List ℕ) (i : ℕ) (e : Event) → AreShares specs cs wanted force → i < length cs → IsPlain e.act → GoOn specs cs wanted force i e
  -- after the due change, at whatever time
  pub change : (specs : ℕ → Spec) (cs : List Trace) (wanted force : List ℕ) (x : Change) (time : ℕ) → AreShares specs cs wanted force → due_among cs wanted ≡ Some x
      → GoOn specs cs wanted force x.activator (made_at time x)
  -- where another limit of a pod is wanted
  pub ask : (specs : ℕ → Spec) (cs : List Trace) (wanted force : List ℕ) (p limit : ℕ) → AreShares specs cs wanted force → p < length wanted → length cs ≤ limit → limit ≤ 1000
      → AreShares specs cs (slice_set wanted p limit) (slice_set force p (force_after (hold (limit_by p) (running_by p) cs) limit (max (slice_index_or force p 0) limit)))
  -- of each pod no more run than the limit in force
  pub safe : (specs : ℕ → Spec) (cs : List Trace) (wanted force : List ℕ) (p : ℕ) → AreShares specs cs wanted force → p < length wanted
      → IsSafe (runs (running_by p) cs) (hold (limit_by p) (running_by p) cs) (slice_index_or wanted p 0) (slice_index_or force p 0)
  -- each trace is lawful and settled, and an event that is refused then adds nothing else
  pub lawful : (specs : ℕ → Spec) (cs : List Trace) (wanted force : List ℕ) (i : ℕ) → AreShares specs cs wanted force → i < length cs
      → IsLawful (specs i) (trace_at cs i) × IsSettled (specs i) (trace_at cs i) × ((e : Event) → IsInert (specs i) (trace_at cs i) e)
