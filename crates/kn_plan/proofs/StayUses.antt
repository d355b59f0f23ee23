-- The values of an option, from what `clap` found.
use Rattle.std.proofs.Common.{◌≡◌, ◌<◌, ◌≤◌, List, [], ◌∷◌, length, map, get_or, Option, None, Some, option_map, unwrap_or, arith, refl, sym, ap, ◌∙◌}
use denote.Ref.{Bor}
use Rattle.std.proofs.lemmas.List.{length-map}
use Rattle.clap.specs.Matches.{found_of, matched_of, raw_values}
use Rattle.clap.specs.Walk.{Text, all_of, rows_of}
use Rattle.clap.specs.declared.parser.matches.ArgMatches.{ArgMatches}
use Rattle.clap.proofs.WalkLemmas.{raw_values-rows}
use Rattle.kn_plan.specs.declared.stay_option.StayOption.{StayOption}
use Rattle.kn_plan.specs.StayOptions.{name_of}
use Rattle.kn_plan.specs.Stay.{values_of}

abbrev pub texts_of : List (Bor Text) → List Text
texts_of uses = map (λ (u : Bor Text). u.now) uses

values_are : (m : ArgMatches) (o : StayOption) (id : Text) (found : Option (List Text)) → id ≡ name_of o → found ≡ option_map raw_values (matched_of (found_of m) id)
    → values_of (rows_of (found_of m)) o ≡ unwrap_or found []
values_are m o id found e is =
    ap (λ (x : Text). unwrap_or (all_of x (rows_of (found_of m))) []) (sym e)
    ∙ ap (λ (x : Option (List Text)). unwrap_or x []) (sym (raw_values-rows (found_of m) id) ∙ sym is)

pub no_use : (m : ArgMatches) (o : StayOption) (id : Text) → id ≡ name_of o → None ≡ option_map raw_values (matched_of (found_of m) id)
    → values_of (rows_of (found_of m)) o ≡ []
no_use m o id e is = values_are m o id None e is

uses_are : (m : ArgMatches) (o : StayOption) (id : Text) (uses : List (Bor Text)) → id ≡ name_of o → Some (texts_of uses) ≡ option_map raw_values (matched_of (found_of m) id)
    → values_of (rows_of (found_of m)) o ≡ texts_of uses
uses_are m o id uses e is = values_are m o id (Some (texts_of uses)) e is

none_of : (uses : List (Bor Text)) → length uses < 1 → texts_of uses ≡ []
none_of [] low = refl
none_of (u ∷ us) low = absurd (omega arith)

one_of : (uses : List (Bor Text)) (d : Bor Text) → 1 ≤ length uses → length uses < 2 → texts_of uses ≡ (get_or uses 0 d).now ∷ []
one_of [] d least low = absurd (omega arith)
one_of (u ∷ []) d least low = refl
one_of (u ∷ v ∷ us) d least low = absurd (omega arith)

pub no_value : (m : ArgMatches) (o : StayOption) (id : Text) (uses : List (Bor Text)) → id ≡ name_of o → Some (texts_of uses) ≡ option_map raw_values (matched_of (found_of m) id)
    → length uses < 1 → values_of (rows_of (found_of m)) o ≡ []
no_value m o id uses e is low = uses_are m o id uses e is ∙ none_of uses low

pub one_value : (m : ArgMatches) (o : StayOption) (id : Text) (uses : List (Bor Text)) (d : Bor Text) → id ≡ name_of o
    → Some (texts_of uses) ≡ option_map raw_values (matched_of (found_of m) id)
    → 1 ≤ length uses → length uses < 2 → values_of (rows_of (found_of m)) o ≡ (get_or uses 0 d).now ∷ []
one_value m o id uses d e is least low = uses_are m o id uses e is ∙ one_of uses d least low

pub more_values : (m : ArgMatches) (o : StayOption) (id : Text) (uses : List (Bor Text)) → id ≡ name_of o → Some (texts_of uses) ≡ option_map raw_values (matched_of (found_of m) id)
    → 2 ≤ length uses → 2 ≤ length (values_of (rows_of (found_of m)) o)
more_values m o id uses e is least =
    let long : length (values_of (rows_of (found_of m)) o) ≡ length uses = ap length (uses_are m o id uses e is) ∙ length-map uses (λ (u : Bor Text). u.now) in
    omega arith
