-- The options behind `stay`: their names and ranges, and the command line of them in `clap`'s own words.
use Rattle.std.specs.Prelude.{◌≢◌, ℕ, List, [], ◌∷◌, ◌++◌, Some, codes, true}
use Rattle.std.specs.Fmt.{decimal}
use Rattle.clap.specs.Walk.{Row, Rule, Text}
use Rattle.clap.specs.Simple.{App, matches_of, new_app, on_top, with_rule}
use Rattle.clap.specs.Faults.{fault_of}
use Rattle.clap.specs.Kinds.{IsAmong, Kinds}
use Rattle.clap.specs.declared.builder.action.ArgAction.TheVariants.{Append}
use Rattle.clap.specs.declared.error.kind.ErrorKind.{ErrorKind}
use Rattle.clap.specs.declared.error.kind.ErrorKind.TheVariants as kind
use Rattle.kn_plan.specs.Command.{option_rule}
use Rattle.kn_plan.specs.declared.stay_option.StayOption.{StayOption}
use Rattle.kn_plan.specs.declared.stay_option.StayOption.TheVariants as option

abbrev pub name_of : StayOption → Text
name_of option.Listen = codes "listen"
name_of option.Pods = codes "pods"
name_of option.Slots = codes "slots"
name_of option.Room = codes "room"
name_of option.Idle = codes "idle"
name_of option.Read = codes "read"
name_of option.Status = codes "status"

-- the least and the greatest number; of addresses, how many
abbrev pub least_of : StayOption → ℕ
least_of option.Room = 1000
least_of _ = 1

abbrev pub most_of : StayOption → ℕ
most_of option.Listen = 1
most_of option.Pods = 500
most_of option.Slots = 1024
most_of option.Room = 1000000
most_of option.Idle = 3600
most_of option.Read = 3600
most_of option.Status = 1

-- what is said of an option's values: its range, as it is
abbrev pub numbers_text : StayOption → Text
numbers_text o = decimal (least_of o) ++ (codes " to " ++ decimal (most_of o))

abbrev pub range_text : StayOption → Text
range_text option.Listen = codes " is HOST:PORT\n"
range_text option.Pods = codes " is " ++ (numbers_text option.Pods ++ codes " of HOST:PORT, parted by commas\n")
range_text option.Slots = codes " is " ++ (numbers_text option.Slots ++ codes "\n")
range_text option.Room = codes " is " ++ (numbers_text option.Room ++ codes "\n")
range_text option.Idle = codes " is " ++ (numbers_text option.Idle ++ codes ", in seconds\n")
range_text option.Read = codes " is " ++ (numbers_text option.Read ++ codes ", in seconds\n")
range_text option.Status = codes " is HOST:PORT\n"

-- `--name VALUE`. Each use adds its value, and one without a value adds an empty one, so that `clap` refuses neither, and what is
-- wrong can be named
abbrev pub stay_rule : Text → Rule
stay_rule name = record (option_rule name) {
  action = Some Append;
  range = Some (record { start_inclusive = 0; end_inclusive = 1 });
  missing = [] ∷ [];
}

abbrev pub stay_default : Text → Text → Rule
stay_default name value = record (stay_rule name) { defaults = value ∷ [] }

-- no program's name among the words, and `clap`'s own flags for help and the version
abbrev pub plain_stay : App
plain_stay = on_top (λ s. record s { no_binary_name = true; has_version = true }) (new_app (codes "kactd stay"))

-- the seven options, four of them with a default; nothing else
abbrev pub stay : App
stay =
    with_rule (with_rule (with_rule (with_rule (with_rule (with_rule (with_rule plain_stay
    (stay_rule (name_of option.Listen))) (stay_rule (name_of option.Pods)))
    (stay_default (name_of option.Slots) (codes "64"))) (stay_default (name_of option.Room) (codes "100000")))
    (stay_default (name_of option.Idle) (codes "60"))) (stay_default (name_of option.Read) (codes "30")))
    (stay_rule (name_of option.Status))

-- the kinds of refusal by which `clap` refuses the words: none where it accepts them
unfoldable pub refusals : List Text → Kinds
refusals words = fault_of stay words

-- one of these kinds, or else want of memory
abbrev pub IsRefusalOf : List Text → ErrorKind → Type 0
IsRefusalOf words k = k ≢ kind.OutOfMemory → IsAmong k (refusals words)

-- what `clap` finds in words that it accepts: a row for each option, with its values
unfoldable pub found_in : List Text → List Row
found_in words = matches_of stay words
