-- The list of pods.
use Rattle.std.proofs.Common.{◌≡◌, ◌≤◌, ℕ, List, length, map, Option, Some, arith, sym, ◌∙◌, ap, subst}
use denote.Ref.{Bor}
use Rattle.std.specs.List.{All, slice_split}
use Rattle.std.proofs.lemmas.List.{get_or-map, length-map}
use Rattle.std.proofs.lemmas.List.Elements.{All-map}
use Rattle.clap.specs.Walk.{Text}
use Rattle.kn_plan.specs.Plan.{AreGivenAddresses, IsAddress, is_comma}

-- the texts that a value is cut into
pub record AreParts (value : Option Text) (parts : List (Bor (List ℕ))) : Type 0 where
  pub text : Text
  pub is : value ≡ Some text
  pub cut : map (λ (t : Bor (List ℕ)). t.now) parts ≡ slice_split is_comma text

texts_are : (value : Option Text) (parts : List (Bor (List ℕ))) (texts : List (List ℕ)) → AreParts value parts → AreGivenAddresses value texts
    → texts ≡ map (λ (t : Bor (List ℕ)). t.now) parts
texts_are value parts texts is given =
    let same : given.list ≡ is.text = cc in
    sym given.parts ∙ ap (slice_split is_comma) same ∙ sym is.cut

pub one_misspelled : (value : Option Text) (parts : List (Bor (List ℕ))) (texts : List (List ℕ)) → AreParts value parts
    → (All (λ (t : Bor (List ℕ)). IsAddress t.now) parts → ⊥) → AreGivenAddresses value texts → ⊥
one_misspelled value parts texts is none given =
    let same = texts_are value parts texts is given in
    let each : All IsAddress (map (λ (t : Bor (List ℕ)). t.now) parts) = subst (All IsAddress) same given.each in
    none (λ k d low. subst IsAddress (get_or-map (λ (t : Bor (List ℕ)). t.now) parts k d d.now low) (each k d.now (omega (arith, length-map parts (λ (t : Bor (List ℕ)). t.now)))))

pub all_given : (value : Option Text) (parts : List (Bor (List ℕ))) (texts : List (List ℕ)) → AreParts value parts → length parts ≤ 500
    → All (λ (t : Bor (List ℕ)). IsAddress t.now) parts → texts ≡ map (λ (t : Bor (List ℕ)). t.now) parts → AreGivenAddresses value texts
all_given value parts texts is few each same = record {
  list = is.text;
  is = is.is;
  parts = sym is.cut ∙ sym same;
  each = subst (All IsAddress) (sym same) (All-map IsAddress (λ (t : Bor (List ℕ)). t.now) parts each);
  few = let long : length texts ≡ length parts = ap length same ∙ length-map parts (λ (t : Bor (List ℕ)). t.now) in omega arith;
}
