-- Several activators that share a revision's pods: what each event makes of their traces and of the pods' limits, and its text.
use Rattle.std.specs.Prelude.{ℕ, zero, suc, ◌+◌, ◌*◌, ◌==◌, ◌++◌, max, List, [], ◌∷◌, map, length, replicate, Option, None, Some, codes, slice_index_or, slice_set, if◌then◌else◌}
use Rattle.std.specs.Fmt.{decimal}
use Rattle.std.specs.List.{flat_map, range_with_len}
use Rattle.kn_event.specs.EventLine.{event_at}
use Rattle.kn_event.specs.FixedSpec.{fixed_spec}
use Rattle.kn_event.specs.declared.entry.Entry.{Entry}
use Rattle.kn_event.specs.declared.event.Act.TheVariants as act
use Rattle.kn_event.specs.declared.event.Event.{Event}
use Rattle.kn_event.specs.declared.revision.Spec.{Spec}
use Rattle.kn_trace.specs.Events.{opening, react}
use Rattle.kn_trace.specs.Trace.{Trace}
use Rattle.kn_report.specs.Waiting.{own_rows}
use Rattle.kn_slices.specs.declared.change.Change.{Change}
use Rattle.kn_slices.specs.Slices.{due_change, force_after, forces_from, hold, slice_of}
use Rattle.kn_slices.specs.Traces.{limit_by, made_at, running_by, trace_at}
use Rattle.kn_activators.specs.declared.setup.GroupSetup.{GroupSetup}
use Rattle.kn_activators.specs.declared.event.GroupEvent.{GroupEvent}
use Rattle.kn_activators.specs.declared.event.GroupEvent.TheVariants as group

-- activator i: a fixed revision whose pods have its slice of the limit
abbrev pub spec_of : GroupSetup → ℕ → Spec
spec_of s i = fixed_spec (slice_of s.limit i s.activators) s.pods s.timeout_s s.slots

abbrev pub numbers_of : GroupSetup → List ℕ
numbers_of s = range_with_len 0 s.activators

-- the activators' traces, and of each pod the limit that is wanted and the one that is in force
pub record Sharing : Type 0 where
  pub traces : List Trace
  pub wanted : List ℕ
  pub force : List ℕ

-- what was made of it, and the text of that
pub record Outcome : Type 0 where
  pub now : Sharing
  pub text : List ℕ

abbrev pub unsaid : Sharing → Outcome
unsaid x = record { now = x; text = [] }

abbrev pub said : List ℕ → Outcome → Outcome
said text o = record { now = o.now; text = text ++ o.text }

abbrev pub and_then : Outcome → (Sharing → Outcome) → Outcome
and_then o next = said o.text (next o.now)

-- ---- one event of one activator

abbrev pub rows_at : GroupSetup → Sharing → ℕ → Event → List Entry
rows_at s x i e = react (spec_of s i) (trace_at x.traces i) e

abbrev pub with_traces : List Trace → Sharing → Sharing
with_traces cs x = record { traces = cs; wanted = x.wanted; force = forces_from limit_by running_by cs 0 x.wanted x.force }

-- activator i goes on by its rows
unfoldable pub stepped : GroupSetup → Sharing → ℕ → Event → Sharing
stepped s x i e = with_traces (slice_set x.traces i (trace_at x.traces i ++ rows_at s x i e)) x

abbrev pub by_one : GroupSetup → Sharing → ℕ → Event → Outcome
by_one s x i e = record { now = stepped s x i e; text = own_rows i (rows_at s x i e) }

-- ---- an event of all

-- each of these activators in order
unfoldable pub by_each : GroupSetup → Event → List ℕ → Sharing → Outcome
by_each s e [] x = unsaid x
by_each s e (i ∷ more) x = and_then (by_one s x i e) (by_each s e more)

-- another limit of a pod is wanted
unfoldable pub asked : ℕ → ℕ → Sharing → Sharing
asked p limit x = record {
  traces = x.traces;
  wanted = slice_set x.wanted p limit;
  force = slice_set x.force p (force_after (hold (limit_by p) (running_by p) x.traces) limit (max (slice_index_or x.force p 0) limit));
}

-- what an event makes
abbrev pub by_event : GroupSetup → GroupEvent → Sharing → Outcome
by_event s (group.One i e) x = by_one s x i e
by_event s (group.Ready time p) x = by_each s (event_at time (act.Ready p)) (numbers_of s) x
by_event s (group.Limit time p limit) x = unsaid (asked p limit x)

abbrev pub time_of : GroupEvent → ℕ
time_of (group.One i e) = e.time
time_of (group.Ready time p) = time
time_of (group.Limit time p limit) = time

-- ---- the due changes

abbrev pub due_in : Sharing → Option Change
due_in x = due_change limit_by running_by (length x.traces) x.traces x.wanted

abbrev pub while_due : Option Change → Sharing → (Change → Outcome) → Outcome
while_due None x next = unsaid x
while_due (Some change) x next = next change

-- up to so many due changes at this time, one after the other
unfoldable pub changes : GroupSetup → ℕ → ℕ → Sharing → Outcome
changes s time zero x = unsaid x
changes s time (suc more) x = while_due (due_in x) x (λ change. and_then (by_one s x change.activator (made_at time change)) (changes s time more))

-- each makes one limit its activator's slice, so there are at most as many as limits
abbrev pub changes_most : GroupSetup → ℕ
changes_most s = s.pods * s.activators

-- ---- a line

-- the limit in force of a pod became another
abbrev pub force_line : ℕ → ℕ → ℕ → List ℕ
force_line time p force = codes "- " ++ (decimal time ++ (codes " in-force " ++ (decimal p ++ 32 ∷ (decimal force ++ 10 ∷ []))))

abbrev pub force_change : ℕ → ℕ → ℕ → ℕ → List ℕ
force_change time p before force = if before == force then [] else force_line time p force

-- of the pods from p on
unfoldable pub force_lines : ℕ → ℕ → List ℕ → List ℕ → List ℕ
force_lines time p (f ∷ fs) (g ∷ gs) = force_change time p f g ++ force_lines time (p + 1) fs gs
force_lines time p _ _ = []

abbrev pub with_forces : ℕ → Sharing → Outcome → Outcome
with_forces time x o = record { now = o.now; text = o.text ++ force_lines time 0 x.force o.now.force }

-- the event, then all due changes, and then a line for each pod whose limit in force is another than before
unfoldable pub by_line : GroupSetup → GroupEvent → Sharing → Outcome
by_line s e x = with_forces (time_of e) x (and_then (by_event s e x) (changes s (time_of e) (changes_most s)))

-- ---- a run

abbrev pub opening_at : GroupSetup → ℕ → ℕ → Trace
opening_at s start i = opening (spec_of s i) start

unfoldable pub opened : GroupSetup → ℕ → Sharing
opened s start = record { traces = map (opening_at s start) (numbers_of s); wanted = replicate s.pods s.limit; force = replicate s.pods s.limit }

-- the opening rows of each activator, in order
unfoldable pub openings_text : GroupSetup → ℕ → List ℕ
openings_text s start = flat_map (λ i. own_rows i (opening_at s start i)) (numbers_of s)

-- what these events add
unfoldable pub by_lines : GroupSetup → List GroupEvent → Sharing → Outcome
by_lines s [] x = unsaid x
by_lines s (e ∷ more) x = and_then (by_line s e x) (by_lines s more)

unfoldable pub run_text : GroupSetup → ℕ → List GroupEvent → List ℕ
run_text s start events = openings_text s start ++ (by_lines s events (opened s start)).text

unfoldable pub end_line : ℕ → List ℕ
end_line events = codes "end events=" ++ (decimal events ++ 10 ∷ [])
