-- Lists of pods.
use Rattle.std.proofs.Common.{◌≡◌, ◌≤◌, ℕ, List, length, map, get_or, Option, Some, arith, refl, sym, ◌∙◌, ap, subst}
use Rattle.std.specs.Prelude.{◌<◌, IfOk, Result, Ok, Err}
use denote.Ref.{Bor}
use Rattle.std.specs.List.{All, slice_split}
use Rattle.std.proofs.lemmas.List.{get_or-map, length-map}
use Rattle.std.proofs.lemmas.Simd.{map-map}
use Rattle.clap.specs.Walk.{Text}
use Rattle.kn_plan.specs.declared.plan_error.PlanError.{PlanError}
use Rattle.kn_plan.specs.Plan.{AreGivenAddresses, AreGivenLists, IsAddress, IsAddressList, is_comma, is_semicolon}

-- the addresses of a text
abbrev pub cut : Bor (List ℕ) → List (List ℕ)
cut t = slice_split is_comma t.now

-- what is asked of each text
abbrev pub IsListed : Bor (List ℕ) → Type 0
IsListed t = IsAddressList t.now

-- a text of which no addresses are given
pub not_listed : (texts : List (Bor (List ℕ))) (k : ℕ) (d : Bor (List ℕ)) → k < length texts
    → ((list : List (List ℕ)) → AreGivenAddresses (Some (get_or texts k d).now) list → ⊥) → All IsListed texts → ⊥
not_listed texts k d low none each =
    let one = each k d low in
    none (cut (get_or texts k d)) (record { list = (get_or texts k d).now; is = refl; parts = refl; each = one.0; few = one.1 })

-- the texts that a value is cut into
pub record AreTexts (value : Option Text) (texts : List (Bor (List ℕ))) : Type 0 where
  pub text : Text
  pub is : value ≡ Some text
  pub cut_is : map (λ (t : Bor (List ℕ)). t.now) texts ≡ slice_split is_semicolon text

map-twice : (texts : List (Bor (List ℕ))) → map (slice_split is_comma) (map (λ (t : Bor (List ℕ)). t.now) texts) ≡ map cut texts
map-twice texts = map-map (slice_split is_comma) (λ (t : Bor (List ℕ)). t.now) texts

-- what is given is what the texts are cut into
pub lists_are : (value : Option Text) (texts : List (Bor (List ℕ))) (lists : List (List (List ℕ))) → AreTexts value texts → AreGivenLists value lists
    → lists ≡ map cut texts
lists_are value texts lists is given =
    let same : given.list ≡ is.text = cc in
    sym given.parts ∙ ap (λ (l : Text). map (slice_split is_comma) (slice_split is_semicolon l)) same ∙ ap (map (slice_split is_comma)) (sym is.cut_is) ∙ map-twice texts

pub none_given : (value : Option Text) (texts : List (Bor (List ℕ))) (lists : List (List (List ℕ))) → AreTexts value texts
    → (All IsListed texts → ⊥) → AreGivenLists value lists → ⊥
none_given value texts lists is none given =
    let same = lists_are value texts lists is given in
    let each : All (All IsAddress) (map cut texts) = subst (All (All IsAddress)) same given.each in
    let fit : All (λ hosts. length hosts ≤ 500) (map cut texts) = subst (All (λ (hosts : List (List ℕ)). length hosts ≤ 500)) same given.fit in
    none (λ k d low.
    let low' : k < length (map cut texts) = omega (arith, low, length-map texts cut) in
    let here : get_or (map cut texts) k (cut d) ≡ cut (get_or texts k d) = get_or-map cut texts k d (cut d) low in
    (subst (All IsAddress) here (each k (cut d) low'), subst (λ (hosts : List (List ℕ)). length hosts ≤ 500) here (fit k (cut d) low')))

pub all_listed : (value : Option Text) (texts : List (Bor (List ℕ))) (lists : List (List (List ℕ))) → AreTexts value texts → length texts ≤ 16
    → lists ≡ map cut texts → All (All IsAddress) lists → All (λ hosts. length hosts ≤ 500) lists → AreGivenLists value lists
all_listed value texts lists is few same each fit = record {
  list = is.text;
  is = is.is;
  parts = ap (map (slice_split is_comma)) (sym is.cut_is) ∙ map-twice texts ∙ sym same;
  each = each;
  fit = fit;
  few = let long : length lists ≡ length texts = ap length same ∙ length-map texts cut in omega arith;
}

pub if_listed : (value : Option Text) (texts : List (Bor (List ℕ))) → AreTexts value texts → length texts ≤ 16
    → (result : Result (List (List (List ℕ))) PlanError) → IfOk result (λ lists. lists ≡ map cut texts) → IfOk result (All (All IsAddress)) → IfOk result (All (λ hosts. length hosts ≤ 500))
    → IfOk result (AreGivenLists value)
if_listed value texts is few (Ok lists) same each fit = all_listed value texts lists is few same each fit
if_listed value texts is few (Err e) same each fit = tt
