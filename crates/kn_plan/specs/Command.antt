-- The command line of the program, in `clap`'s own words.
use Rattle.std.specs.Prelude.{List, [], ◌∷◌, Option, Some, codes, option_map, true}
use Rattle.std.specs.Borrow.{Bor}
use Rattle.clap.specs.Walk.{Rule, Text, first_of}
use Rattle.clap.specs.Simple.{App, new_app, new_rule, on_top, with_rule, matches_of}

-- `--name VALUE`
abbrev pub option_rule : Text → Rule
option_rule name = record (new_rule name) { long = Some name }

abbrev pub required_rule : Text → Rule
required_rule name = record (option_rule name) { required = true }

abbrev pub default_rule : Text → Text → Rule
default_rule name value = record (option_rule name) { defaults = value ∷ [] }

-- no program's name among the words, and no help flag
abbrev pub plain_app : App
plain_app = on_top (λ s. record s { no_binary_name = true; disable_help_flag = true }) (new_app (codes "kactd"))

-- five options of these long names, each of one value and at most once, two of them required; nothing else
abbrev pub kactd : App
kactd =
    with_rule (with_rule (with_rule (with_rule (with_rule plain_app
    (required_rule (codes "listen"))) (required_rule (codes "pods")))
    (default_rule (codes "slots") (codes "8"))) (default_rule (codes "rounds") (codes "1")))
    (default_rule (codes "room") (codes "100000"))

-- the text that is lent, where one is
abbrev pub lent_text : Option (Bor Text) → Option Text
lent_text value = option_map (λ s. s.now) value

-- what the words give the option
abbrev pub given : List Text → Text → Option Text
given words name = first_of name (matches_of kactd words)
