-- What replaying a journal writes, and how it ends.
use Rattle.std.specs.Prelude.{◌⊎◌, ℕ, List, Option}
use Rattle.std.specs.Io.KnownBytes.{Appends}
use Rattle.kn_io.specs.Causes.{Rose}
use Rattle.kn_io.specs.Prefix.{AppendsPrefix}
use Rattle.kn_journal.specs.declared.status.Status.{Status}
use Rattle.kn_follow.specs.Cutting as cutting
use Rattle.kn_follow.specs.Following.{FollowsInput}
use Rattle.kn_replay.specs.Report.{report}
pub use Rattle.kn_journal.specs.Reading.{EndsThere}
pub use Rattle.kn_follow.specs.Endings.{IsRefusal, IsReplayed, LeavesBehind, Writes, status_by, status_of}

-- a replay of an input with these bytes, of which these are left and so many were given, writes the report
abbrev pub Replays : Option (List ℕ) → Option (List ℕ) → ℕ → Option (List ℕ) → Option (List ℕ) → Status → Type 0
Replays known left given old new result = FollowsInput report known left given old new result

-- how far it had read where writing failed
abbrev pub LeavesCut : Option (List ℕ) → Option (List ℕ) → Option (List ℕ) → Option (List ℕ) → Type 0
LeavesCut known left old new = cutting.LeavesCut report known left old new

-- ---- what is told

-- all of the text was added, or some of it where the count rose
abbrev pub Tells : List ℕ → Option (List ℕ) → Option (List ℕ) → ℕ → ℕ → Type 0
Tells text old new before now = Appends old new text ⊎ (AppendsPrefix old new text × Rose before now)
