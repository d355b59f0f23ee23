-- What replaying an input of several activators writes, and how it ends.
use Rattle.std.specs.Prelude.{ℕ, List, Option, None, Some, ⊤}
use Rattle.kn_journal.specs.declared.status.Status.{Status}
use Rattle.kn_activators.specs.Breaking.{BreaksBeyond, IsFrontOf}
use Rattle.kn_activators.specs.Verdict.{input_of, refusal_of, text_of}
use Rattle.kn_replay.specs.Replaying.{Writes, status_by}

-- where reading failed: some first bytes of the report, which are the rows of the whole lines that were taken
abbrev pub IsBroken : List ℕ → Option (List ℕ) → ℕ → List ℕ → Type 0
IsBroken xs left given front = IsFrontOf (text_of (input_of xs)) front × BreaksBeyond xs left given front

-- of an input with these bytes, of which these are left and so many were given: all of its report, or that up to the first refused
-- line and its cause; some first bytes of it where reading or writing failed
abbrev pub ReplaysGroup : Option (List ℕ) → Option (List ℕ) → ℕ → Option (List ℕ) → Option (List ℕ) → Status → Type 0
ReplaysGroup None left given old new result = ⊤
ReplaysGroup (Some xs) left given old new result = Writes (text_of (input_of xs)) (status_by (refusal_of (input_of xs))) (IsBroken xs left given) old new result
