-- What replaying a journal of a bundle writes, and how it ends.
use Rattle.std.specs.Prelude.{ℕ, List, Option, Some, ⊤}
use Rattle.kn_journal.specs.declared.status.Status.{Status}
use Rattle.kn_bundle.specs.Following.{FollowsBundle}
use Rattle.kn_replay.specs.declared.command.Command.{Command}
use Rattle.kn_replay.specs.declared.command.Command.TheVariants as command
use Rattle.kn_replay.specs.Report.{report}

-- of a bundle with these bytes, of which these are left and so many were given: the report of journal k, from 0
abbrev pub ReplaysBundle : ℕ → Option (List ℕ) → Option (List ℕ) → ℕ → Option (List ℕ) → Option (List ℕ) → Status → Type 0
ReplaysBundle k known left given old new result = FollowsBundle report k known left given old new result

-- what is asked for takes all its memory before it writes: anything but a journal of a bundle, behind which further setups are read
abbrev pub TakesMemoryFirst : Option Command → Type 0
TakesMemoryFirst (Some (command.Bundle k)) = ⊥
TakesMemoryFirst _ = ⊤
