-- What a parse by the command of `stay` comes to.
use Rattle.std.proofs.Common.{◌≡◌, ◌≢◌, List, true, refl, ap, subst, sym, inl, inr, ◌∙◌}
use Rattle.clap.specs.Walk.{Text, rows_of}
use Rattle.clap.specs.Simple.{App, HasMatchesOf, is_simple, matches_of}
use Rattle.clap.specs.Matches.{found_of}
use Rattle.clap.specs.Faults.{fault_of, is_simple_and_free}
use Rattle.clap.specs.Kinds.{HasKind, IsAmong}
use Rattle.clap.specs.Values.{kind_of}
use Rattle.clap.specs.declared.error.Error.{Error}
use Rattle.clap.specs.declared.error.kind.ErrorKind.{ErrorKind}
use Rattle.clap.specs.declared.error.kind.ErrorKind.TheVariants as kind
use Rattle.clap.specs.declared.parser.matches.ArgMatches.{ArgMatches}
use Rattle.kn_plan.specs.StayOptions.{found_in, refusals, stay}

stay_simple : is_simple_and_free stay ≡ true
stay_simple = refl

pub app_simple : (a : App) → a ≡ stay → is_simple_and_free a ≡ true
app_simple a e = ap is_simple_and_free e ∙ stay_simple

pub refusals_are : (a : App) (words : List Text) → a ≡ stay → fault_of a words ≡ refusals words
unfolding refusals
refusals_are a words e = ap (λ (x : App). fault_of x words) e

pub found_are : (a : App) (m : ArgMatches) (words : List Text) → a ≡ stay → HasMatchesOf a words m → rows_of (found_of m) ≡ found_in words
unfolding found_in
found_are a m words e h =
    let simple : is_simple a ≡ true = ap is_simple e in
    (h simple).0 ∙ ap (λ (x : App). matches_of x words) e

-- a refusal for another cause than memory is one of those
pub refused_by : (a : App) (words : List Text) (error : Error) (k : ErrorKind) → a ≡ stay → HasKind (fault_of a words) error → k ≡ kind_of error
    → k ≢ kind.OutOfMemory → IsAmong k (refusals words)
refused_by a words error k e (inl memory) is other = absurd (other (is ∙ memory))
refused_by a words error k e (inr among) is other =
    subst (λ (x : ErrorKind). IsAmong x (refusals words)) (sym is) (subst (IsAmong (kind_of error)) (refusals_are a words e) among)
