-- What the words after the program's name ask for, and what is written then.
use Rattle.std.specs.Prelude.{◌≡◌, ℕ, ◌-◌, Bool, ◌&&◌, List, [], ◌∷◌, map, Option, None, Some, String, codes, nat_le, string_bytes, if◌then◌else◌, ⊤}
use Rattle.std.specs.Global.{Global}
use Rattle.std.specs.Str.{bytes_eq}
use Rattle.kn_event.specs.Numbers.{number_of}
use Rattle.kn_io.specs.declared.traits.Source.{Ghosts}
use Rattle.kn_io.specs.declared.traits.Sink.{Ghosts as Writing}
use Rattle.kn_journal.specs.declared.status.Status.{Status}
use Rattle.kn_journal.specs.declared.status.Status.TheVariants as status
use Rattle.kn_journal.specs.Reading.{EndsThere}
use Rattle.kn_teller.specs.Manner.{Manner}
use Rattle.kn_follow.specs.Account.{account_of}
use Rattle.kn_follow.specs.Cutting.{LeavesCut}
use Rattle.kn_follow.specs.Following.{FollowsInput}
use Rattle.kn_show_reasons.specs.Reasons.{reasons}
use Rattle.kn_show_requests.specs.Requests.{requests}
use Rattle.kn_show_series.specs.Series.{series}
use Rattle.kn_show_settings.specs.Showing.{IsShown, LeavesOpening, ShowsInput}
use Rattle.kn_show_summary.specs.Summary.{summarises}
use Rattle.kn_show.specs.declared.command.Command.{Command}
use Rattle.kn_show.specs.declared.command.Command.TheVariants as command

-- how many milliseconds a step has
abbrev pub is_step : ℕ → Bool
is_step n = nat_le 1 n && nat_le n 86400000

abbrev pub series_of : Option ℕ → Option Command
series_of (Some step) = if is_step step then Some (command.Series step) else None
series_of None = None

abbrev pub word_of : List ℕ → Option Command
word_of word =
    if bytes_eq word (codes "reasons") then Some command.Reasons
    else (if bytes_eq word (codes "requests") then Some command.Requests
    else (if bytes_eq word (codes "summary") then Some command.Summary
    else (if bytes_eq word (codes "settings") then Some command.Settings else None)))

-- one word, or `series` and a step, spelled as a number of a journal
unfoldable pub command_of : List (List ℕ) → Option Command
command_of (word ∷ []) = word_of word
command_of (word ∷ step ∷ []) = if bytes_eq word (codes "series") then series_of (number_of step) else None
command_of _ = None

-- what is written of the run of a journal; of its settings nothing is
abbrev pub manner_of : Command → Option Manner
manner_of command.Reasons = Some reasons
manner_of command.Requests = Some requests
manner_of command.Summary = Some summarises
manner_of (command.Series step) = Some (series step)
manner_of command.Settings = None

-- ---- what a form says of input and output: that manner's text of the run, or the settings of the setup alone

abbrev pub ShowsBy : Option Manner → Option (List ℕ) → Option (List ℕ) → ℕ → Option (List ℕ) → Option (List ℕ) → Status → Type 0
ShowsBy (Some m) bytes left given old new result = FollowsInput (account_of m) bytes left given old new result
ShowsBy None bytes left given old new result = ShowsInput bytes old new result

-- what is left of the input where nothing was refused: nothing, or what stands behind the setup
abbrev pub LeavesBy : Option Manner → Option (List ℕ) → Option (List ℕ) → Status → Type 0
LeavesBy (Some m) old new result = result ≡ status.Ok → EndsThere old new
LeavesBy None old new result = IsShown result → LeavesOpening old new

-- how much of a run was written where writing failed
abbrev pub CutsBy : Option Manner → Option (List ℕ) → Option (List ℕ) → Option (List ℕ) → Option (List ℕ) → Status → Type 0
CutsBy (Some m) known left old new result = result ≡ status.WriteFault → LeavesCut (account_of m) known left old new
CutsBy None known left old new result = ⊤

-- ---- what was asked for by these words, in a call on an input and an output

-- what is written, and how it ends
abbrev pub ShowsAsked : {X Y : Type 0} → List (String Global) → Ghosts X → Writing Y → X → X → Y → Y → Status → Type 0
ShowsAsked words own sink before now out written result = (asked : Command) → command_of (map string_bytes words) ≡ Some asked →
    ShowsBy (manner_of asked) (own.left before) (own.left now) (own.given now - own.given before) (sink.held out) (sink.held written) result

-- what is left of the input where nothing was refused
abbrev pub LeavesAsked : {X : Type 0} → List (String Global) → Ghosts X → X → X → Status → Type 0
LeavesAsked words own before now result = (asked : Command) → command_of (map string_bytes words) ≡ Some asked →
    LeavesBy (manner_of asked) (own.left before) (own.left now) result

-- how much was written where writing failed
abbrev pub CutsAsked : {X Y : Type 0} → List (String Global) → Ghosts X → Writing Y → X → X → Y → Y → Status → Type 0
CutsAsked words own sink before now out written result = (asked : Command) → command_of (map string_bytes words) ≡ Some asked →
    CutsBy (manner_of asked) (own.left before) (own.left now) (sink.held out) (sink.held written) result
