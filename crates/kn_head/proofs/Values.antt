-- The values of the fields with one name, field by field.
use Rattle.std.proofs.Common.{◌≡◌, ◌<◌, ◌+◌, ℕ, Bool, true, false, cond, List, [], ◌∷◌, ◌++◌, length, take, map, get_or, refl, sym, ap, ◌∙◌, append-nil}
use Rattle.std.specs.List.{filter}
use Rattle.std.proofs.lemmas.List.{map-append}
use Rattle.std.proofs.lemmas.List.Elements.{filter_more}
use Rattle.kn_head.specs.Fields.{is_word, values_named}

one_more : (b : Bool) (f : List ℕ × List ℕ) → map (λ (g : List ℕ × List ℕ). g.1) (cond b (f ∷ []) []) ≡ cond b (f.1 ∷ []) []
one_more true f = refl
one_more false f = refl

next : (known : List ℕ) (fs : List (List ℕ × List ℕ)) (i : ℕ) (f : List ℕ × List ℕ) → i < length fs → f ≡ get_or fs i f
    → values_named known (take (i + 1) fs) ≡ values_named known (take i fs) ++ cond (is_word known f.0) (f.1 ∷ []) []
next known fs i f within same =
    let test : List ℕ × List ℕ → Bool = λ g. is_word known g.0 in
    let second : List ℕ × List ℕ → List ℕ = λ g. g.1 in
    let grown = filter_more test fs i f within
    ∙ ap (λ g. filter test (take i fs) ++ cond (test g) (g ∷ []) []) (sym same) in
    ap (map second) grown ∙ (map-append second (filter test (take i fs)) (cond (test f) (f ∷ []) [])
    ∙ ap (λ l. map second (filter test (take i fs)) ++ l) (one_more (test f) f))

pub named_yes : (known : List ℕ) (fs : List (List ℕ × List ℕ)) (i : ℕ) (f : List ℕ × List ℕ) (name value : List ℕ) → i < length fs → f ≡ get_or fs i f
    → name ≡ f.0 → value ≡ f.1 → true ≡ is_word known name
    → values_named known (take (i + 1) fs) ≡ values_named known (take i fs) ++ value ∷ []
named_yes known fs i f name value within same first second passes =
    next known fs i f within same
    ∙ (ap (λ b. values_named known (take i fs) ++ cond b (f.1 ∷ []) []) (ap (is_word known) (sym first) ∙ sym passes)
    ∙ ap (λ v. values_named known (take i fs) ++ v ∷ []) (sym second))

pub named_no : (known : List ℕ) (fs : List (List ℕ × List ℕ)) (i : ℕ) (f : List ℕ × List ℕ) (name : List ℕ) → i < length fs → f ≡ get_or fs i f
    → name ≡ f.0 → false ≡ is_word known name → values_named known (take (i + 1) fs) ≡ values_named known (take i fs)
named_no known fs i f name within same first fails =
    next known fs i f within same
    ∙ (ap (λ b. values_named known (take i fs) ++ cond b (f.1 ∷ []) []) (ap (is_word known) (sym first) ∙ sym fails)
    ∙ append-nil (values_named known (take i fs)))
