-- The words of events, one event more.
use Rattle.std.proofs.Common.{◌≡◌, ◌∙◌, ap, ap₂, sym, ◌+◌, ◌-◌, ◌%◌, ◌≤◌, ◌<◌, ℕ, Bool, true, false, cond, List, [], ◌∷◌, ◌++◌, refl, add-one, arith, lt-ltb, le-ltb}
use Rattle.std.specs.List.{count_by, sum_by}
use Rattle.std.proofs.lemmas.Grind.{common_steps}
use Rattle.std.proofs.lemmas.List.FromFn.{map-range_with_len_more}
use Rattle.std.proofs.lemmas.List.Sums.{sum_by-append}
use mir.Val.{bool_byte}
use Rattle.rand_pcg.specs.Lcg.{Lcg}
use Rattle.rand_pcg.specs.Pcg.{pcg32}
use Rattle.kn_trace.specs.Choice.{generator_at, random_word}
use Rattle.kn_event.specs.declared.event.Act.TheVariants as act
use Rattle.kn_generate.specs.Generated.{act_by, generated_event, is_arrival, step_of, words_before}
use Rattle.kn_generate.specs.Making.{IsBehind}

-- the first events take no word
pub no_words : (seed i : ℕ) → i ≤ 5 → words_before seed i ≡ []
unfolding words_before
no_words seed i h = let none : i - 5 ≡ 0 = omega (arith, h) in rw none refl

-- each later one takes one
pub one_word : (seed i : ℕ) → 5 ≤ i → words_before seed (i + 1) ≡ words_before seed i ++ random_word seed (i - 5) ∷ []
unfolding words_before
one_word seed i h =
    let more : (i + 1) - 5 ≡ (i - 5) + 1 = omega (arith, h) in
    rw more (map-range_with_len_more (random_word seed) 0 (i - 5) (i - 5) (omega arith))

generator_more : (seed k : ℕ) → (pcg32 (generator_at seed k)).1 ≡ generator_at seed (k + 1)
unfolding generator_at
generator_more seed k = rw add-one refl

-- the next word of a generator that is behind k words
pub word_drawn : (generator next : Lcg) (word seed k : ℕ) → generator ≡ generator_at seed k → ◌≡◌ {A = ℕ × Lcg} (word, next) (pcg32 generator)
    → (word ≡ random_word seed k) × (next ≡ generator_at seed (k + 1))
word_drawn generator next word seed k at drawn = (
  ap (λ (p : ℕ × Lcg). p.0) drawn ∙ ap (λ (g : Lcg). (pcg32 g).0) at,
  ap (λ (p : ℕ × Lcg). p.1) drawn ∙ ap (λ (g : Lcg). (pcg32 g).1) at ∙ generator_more seed k,
)

-- ---- one event more

-- one of the first five
pub behind_first : (seed i t a : ℕ) (g : Lcg) → i < 5 → IsBehind seed i t a g → IsBehind seed (i + 1) t a g
behind_first seed i t a g h old =
    let here : words_before seed i ≡ [] = no_words seed i (omega (arith, h)) in
    let next : words_before seed (i + 1) ≡ [] = no_words seed (i + 1) (omega (arith, h)) in
    let none : (i + 1) - 5 ≡ i - 5 = omega (arith, h) in
    record {
      generator = old.generator ∙ ap (generator_at seed) (sym none);
      time = old.time ∙ ap (sum_by step_of) (here ∙ sym next);
      arrivals = old.arrivals ∙ ap (count_by is_arrival) (here ∙ sym next);
      soon = omega (arith, old.soon);
      few = omega (arith, old.few);
    }

pub first_event : (seed i t a : ℕ) (g : Lcg) → i < 5 → IsBehind seed i t a g → record { time = t; act = act.Ready i } ≡ generated_event seed i
unfolding generated_event
first_event seed i t a g h old =
    let here : words_before seed i ≡ [] = no_words seed i (omega (arith, h)) in
    let zero : t ≡ 0 = old.time ∙ ap (sum_by step_of) here in
    rw (lt-ltb i 5 h, zero) refl

count_more : (p : ℕ → Bool) (xs : List ℕ) (x : ℕ) → count_by p (xs ++ x ∷ []) ≡ count_by p xs + cond (p x) 1 0
count_more p [] x = by (p x) refl
  where
    by : (b : Bool) → p x ≡ b → count_by p (x ∷ []) ≡ count_by p [] + cond b 1 0
    by true e = grind (arith, common_steps)
    by false e = grind (arith, common_steps)
count_more p (y ∷ xs) x = by (p y) refl (count_more p xs x)
  where
    by : (b : Bool) → p y ≡ b → count_by p (xs ++ x ∷ []) ≡ count_by p xs + cond (p x) 1 0 → count_by p (y ∷ (xs ++ x ∷ [])) ≡ count_by p (y ∷ xs) + cond (p x) 1 0
    by true e h = grind (arith, common_steps)
    by false e h = grind (arith, common_steps)

as_number : (b : Bool) → bool_byte b ≡ cond b 1 0
as_number true = refl
as_number false = refl

-- a later one
pub behind_later : (seed i t a word : ℕ) (g next : Lcg) → 5 ≤ i → ◌≡◌ {A = ℕ × Lcg} (word, next) (pcg32 g) → IsBehind seed i t a g
    → (one : ℕ) → one ≡ bool_byte (is_arrival word) → IsBehind seed (i + 1) (t + word % 4) (a + one) next
behind_later seed i t a word g next h drawn old one is =
    let took = word_drawn g next word seed (i - 5) old.generator drawn in
    let more : words_before seed (i + 1) ≡ words_before seed i ++ word ∷ [] = one_word seed i h ∙ ap (λ w. words_before seed i ++ w ∷ []) (sym took.0) in
    let place : (i - 5) + 1 ≡ (i + 1) - 5 = omega (arith, h) in
    record {
      generator = took.1 ∙ ap (generator_at seed) place;
      time = ap (λ n. n + word % 4) old.time ∙ sym (ap (sum_by step_of) more ∙ sum_by-append step_of (words_before seed i) (word ∷ []) ∙ ap (λ n. sum_by step_of (words_before seed i) + n) (omega arith));
      arrivals = ap₂ (λ n m. n + m) old.arrivals (is ∙ as_number (is_arrival word)) ∙ sym (ap (count_by is_arrival) more ∙ count_more is_arrival (words_before seed i) word);
      soon = grind (arith, common_steps, old.soon);
      few = by (is_arrival word) is;
    }
  where
    by : (b : Bool) → one ≡ bool_byte b → a + one ≤ i + 1
    by true e = omega (arith, e, old.few)
    by false e = omega (arith, e, old.few)

pub later_event : (seed i t a word : ℕ) (g next : Lcg) → 5 ≤ i → ◌≡◌ {A = ℕ × Lcg} (word, next) (pcg32 g) → IsBehind seed i t a g
    → record { time = t + word % 4; act = act_by i a word } ≡ generated_event seed i
unfolding generated_event
later_event seed i t a word g next h drawn old =
    let took = word_drawn g next word seed (i - 5) old.generator drawn in
    rw (le-ltb i 5 h, old.time, old.arrivals, took.0) refl

-- a word that was drawn, under another name
pub same_word : (g next : Lcg) (word drawn : ℕ) → word ≡ drawn → ◌≡◌ {A = ℕ × Lcg} (drawn, next) (pcg32 g) → ◌≡◌ {A = ℕ × Lcg} (word, next) (pcg32 g)
same_word g next word drawn is h = rw is h
