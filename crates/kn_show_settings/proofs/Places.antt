-- The first place of some bytes.
use Rattle.std.proofs.Common.{◌≡◌, ◌<◌, ◌+◌, ℕ, List, ◌∷◌, drop, get_or, length, refl, ap, ◌∙◌, subst, add-one, drop-cons}
use Rattle.std.specs.Prelude.{nat_eq, true, false}
use Rattle.std.specs.List.{starts_with}
use Rattle.kn_show_settings.specs.Blocks.{place_of}

pub here_at : (word bs : List ℕ) (b : ℕ) → starts_with nat_eq (b ∷ bs) word ≡ true → place_of word (b ∷ bs) ≡ 0
unfolding place_of
here_at word bs b is = rw is refl

pub more_at : (word bs : List ℕ) (b : ℕ) → starts_with nat_eq (b ∷ bs) word ≡ false → place_of word (b ∷ bs) ≡ place_of word bs + 1
unfolding place_of
more_at word bs b is = rw is refl

split_at : (text : List ℕ) (i : ℕ) → i < length text → drop i text ≡ get_or text i 0 ∷ drop (i + 1) text
split_at text i h = rw (add-one, drop-cons text i 0) refl

pub place_here : (word text : List ℕ) (i : ℕ) → i < length text → starts_with nat_eq (drop i text) word ≡ true → place_of word (drop i text) ≡ 0
place_here word text i h is =
    let split = split_at text i h in
    ap (place_of word) split ∙ here_at word (drop (i + 1) text) (get_or text i 0) (subst (λ (x : List ℕ). starts_with nat_eq x word ≡ true) split is)

pub place_more : (word text : List ℕ) (i : ℕ) → i < length text → starts_with nat_eq (drop i text) word ≡ false
    → place_of word (drop i text) ≡ place_of word (drop (i + 1) text) + 1
place_more word text i h is =
    let split = split_at text i h in
    ap (place_of word) split ∙ more_at word (drop (i + 1) text) (get_or text i 0) (subst (λ (x : List ℕ). starts_with nat_eq x word ≡ false) split is)
