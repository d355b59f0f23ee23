-- The two words of a pick.
use Rattle.std.proofs.Common.{◌≡◌, ◌∙◌, ap, ◌+◌, ◌*◌, ℕ, suc, Bool, true, false, refl, add-one, arith}
use Rattle.std.specs.Prelude.{◌==◌, if◌then◌else◌}
use Rattle.rand_pcg.specs.Lcg.{Lcg}
use Rattle.rand_pcg.specs.Pcg.{pcg32}
use Rattle.kn_trace.specs.Choice.{generator_at, random_word}
use Rattle.kn_policy.specs.Policy.{drawn_by, two_drawn, words_in}

generator_one_on : (seed k : ℕ) → (pcg32 (generator_at seed k)).1 ≡ generator_at seed (k + 1)
unfolding generator_at
generator_one_on seed k = rw add-one refl

-- the next word of a generator that is after k words of its seed
word_drawn : (generator next : Lcg) (a seed k : ℕ) → generator ≡ generator_at seed k → ◌≡◌ {A = ℕ × Lcg} (a, next) (pcg32 generator)
    → (a ≡ random_word seed k) × (next ≡ generator_at seed (k + 1))
word_drawn generator next a seed k at drawn = (
  ap (λ (p : ℕ × Lcg). p.0) drawn ∙ ap (λ (g : Lcg). (pcg32 g).0) at,
  ap (λ (p : ℕ × Lcg). p.1) drawn ∙ ap (λ (g : Lcg). (pcg32 g).1) at ∙ generator_one_on seed k,
)

-- after m picks the next two words are those at places 2m and 2m + 1
pub words_drawn : (generator next last : Lcg) (a b seed picks : ℕ) → generator ≡ generator_at seed (2 * picks)
    → ◌≡◌ {A = ℕ × Lcg} (a, next) (pcg32 generator) → ◌≡◌ {A = ℕ × Lcg} (b, last) (pcg32 next)
    → (a ≡ random_word seed (2 * picks)) × (b ≡ random_word seed (2 * picks + 1))
words_drawn generator next last a b seed picks at first second =
    let one = word_drawn generator next a seed (2 * picks) at first in
    (one.0, (word_drawn next last b seed (2 * picks + 1) one.1 second).0)

-- after them it is at the next pick
two_drawn_on : (seed picks : ℕ) → two_drawn (generator_at seed (2 * picks)) ≡ generator_at seed (2 * (picks + 1))
unfolding generator_at
two_drawn_on seed picks =
    let both : 2 * (picks + 1) ≡ suc (suc (2 * picks)) = omega arith in
    rw both refl

-- so the words of one more pick are drawn, whichever policy it is
pub drawn_on : (n seed picks : ℕ) → drawn_by n (generator_at seed (words_in n picks)) ≡ generator_at seed (words_in n (picks + 1))
drawn_on n seed picks = by (n == 0)
  where
    by : (b : Bool) → (if b then two_drawn (generator_at seed (if b then 2 * picks else 0)) else generator_at seed (if b then 2 * picks else 0)) ≡ generator_at seed (if b then 2 * (picks + 1) else 0)
    by true = two_drawn_on seed picks
    by false = refl

pub words_two : (n picks : ℕ) → n ≡ 0 → words_in n picks ≡ 2 * picks
words_two n picks random = rw random refl

-- no pick has drawn any
pub none_drawn : (n : ℕ) → words_in n 0 ≡ 0
none_drawn n = by (n == 0)
  where
    by : (b : Bool) → (if b then 2 * 0 else 0) ≡ 0
    by true = refl
    by false = refl
