-- What a parse by the command comes to.
use Rattle.std.proofs.Common.{◌≡◌, List, true, refl, ap, ◌∙◌}
use Rattle.clap.specs.Walk.{Text, first_of}
use Rattle.clap.specs.Simple.{App, HasMatchesOf, is_simple, matches_of}
use Rattle.clap.specs.Matches.{found_of, first_value}
use Rattle.clap.specs.Faults.{is_simple_and_free}
use Rattle.clap.specs.declared.parser.matches.ArgMatches.{ArgMatches}
use Rattle.clap.proofs.WalkLemmas.{first_value-rows}
use Rattle.kn_plan.specs.Command.{kactd, given}

pub kactd_simple : is_simple_and_free kactd ≡ true
kactd_simple = refl

pub app_simple : (a : App) → a ≡ kactd → is_simple_and_free a ≡ true
app_simple a e = ap is_simple_and_free e ∙ kactd_simple

pub given_is : (a : App) (m : ArgMatches) (ws : List Text) (id : Text) → a ≡ kactd → HasMatchesOf a ws m
    → first_value (found_of m) id ≡ given ws id
given_is a m ws id e h =
    let simple : is_simple a ≡ true = ap is_simple e in
    first_value-rows (found_of m) id
    ∙ ap (first_of id) ((h simple).0 ∙ ap (λ (x : App). matches_of x ws) e)
