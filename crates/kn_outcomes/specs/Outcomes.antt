-- Each request of a session has its outcome.
use Rattle.std.specs.Prelude.{ℕ, ◌≡◌, ◌*◌, List, length}
use Rattle.kn_event.specs.declared.revision.Spec.{Spec}
use Rattle.kn_trace.specs.Trace.{Trace}
use Rattle.kn_core.specs.State.{RevisionState, StandsFor}
use Rattle.kn_core.specs.Gauges.{count_live}
use Rattle.kn_cell.specs.declared.past.Past.{Past}
use Rattle.kn_cell.specs.History.{trace_after}
use Rattle.kn_request.specs.declared.slot.Slot.{Slot}
use Rattle.kn_request.specs.Terms.{Terms}
use Rattle.kn_session.specs.Lasting.{SlotLasted}
use Rattle.kn_session.specs.Lists.{EachDone}
use Rattle.kn_session.specs.Passes.{Kind}
use Rattle.kn_session.specs.Rounds.{Sides}
use Rattle.kn_session.specs.Session.{IsOneHistory, MayBegin, SlotServed}

-- no request is live after the whole history: each that was taken in has ended
abbrev pub IsOver : RevisionState → List Past → Type 0
IsOver b h = (c : Trace) → StandsFor b c → count_live (trace_after b.spec c h) ≡ 0

-- so it is of the one history of a revision that began with no live request, where each of its slots lasted on these terms, whatever is
-- told of it
abbrev pub EachHasItsOutcome : Type 0 → Type 0 → (ℕ → ℕ → Terms) → (ℕ → Type 0) → Type 0
EachHasItsOutcome C L terms Paced =
    (at : Slot C L → Sides) (k : Kind) (spec : Spec) (apart : ℕ) (h : List Past) (ss ts : List (Slot C L)) → MayBegin k.opening → IsOneHistory (length ss) k.opening h
    → EachDone (λ i s t. SlotLasted k terms Paced spec (i * apart) h i (at s) (at t) t.work.fault t.work.memory) ss ts → IsOver k.opening h

-- .. and where each of them served a number of rounds, and nobody was watched
abbrev pub EachHasItsOutcomeInRounds : Type 0 → Type 0 → (ℕ → Type 0) → Type 0
EachHasItsOutcomeInRounds C L reading =
    (at : Slot C L → Sides) (b : RevisionState) (spec : Spec) (room rounds : ℕ) (h : List Past) (ss ts : List (Slot C L)) → MayBegin b → IsOneHistory (length ss) b h
    → EachDone (λ i s t. SlotServed reading spec b room rounds h i (at s) (at t) t.work.fault t.work.memory) ss ts → IsOver b h
