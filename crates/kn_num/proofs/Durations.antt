-- A duration, part by part.
use Rattle.std.proofs.Common.{◌≡◌, ℕ, zero, suc, ◌+◌, ◌-◌, ◌<◌, min, nat_lt, List, [], ◌∷◌, length, drop, Result, Ok, Err, cond, refl, sym, ◌∙◌, ap, arith, zero-add, length-drop, ◌==◌, false, codes}
use Rattle.std.proofs.lemmas.Bool.Decides.{nat_tests}
use Rattle.std.proofs.lemmas.List.{drop-drop}
use Rattle.kn_num.specs.declared.error.NumError.{NumError}
use Rattle.kn_num.specs.declared.error.NumError.TheVariants.{TooLarge}
use Rattle.kn_num.specs.declared.duration.Part.{Part}
use Rattle.kn_num.specs.Number.{◌>>=◌}
use Rattle.std.specs.Prelude.{bytes_eq}
use Rattle.kn_num.specs.Duration.{part_at, parts_ms, longest, duration_ms_of}

-- the judgement on a total and the parts that are left
abbrev pub judged_after : ℕ → Result ℕ NumError → Result ℕ NumError
judged_after total (Ok rest) = cond (nat_lt longest (total + rest)) (Err TooLarge) (Ok (total + rest))
judged_after total (Err fault) = Err fault

-- a part's milliseconds before the rest
abbrev pub with_part : ℕ → Result ℕ NumError → Result ℕ NumError
with_part ms rest = rest >>= λ more. Ok (ms + more)

-- bytes of the part before are passed over
parts_ms-before : (before place : ℕ) (text : List ℕ) → parts_ms place before text ≡ parts_ms (place + before) 0 (drop before text)
parts_ms-before zero place text = let e : place ≡ place + 0 = omega arith in ap (λ p. parts_ms p 0 text) e
parts_ms-before (suc before) place [] = refl
parts_ms-before (suc before) place (byte ∷ bytes) =
    let e : place + 1 + before ≡ place + suc before = omega arith in
    parts_ms-before before (place + 1) bytes ∙ ap (λ p. parts_ms p 0 (drop before bytes)) e

-- the rest of a part whose first byte is taken
after_first : (n place byte : ℕ) (bytes : List ℕ) → 0 < n → parts_ms (place + 1) (n - 1) bytes ≡ parts_ms (place + n) 0 (drop n (byte ∷ bytes))
after_first zero place byte bytes some = absurd (omega arith)
after_first (suc n) place byte bytes some =
    let e : suc n - 1 ≡ n = omega arith in
    let f : place + 1 + n ≡ place + suc n = omega arith in
    ap (λ m. parts_ms (place + 1) m bytes) e ∙ parts_ms-before n (place + 1) bytes ∙ ap (λ p. parts_ms p 0 (drop n bytes)) f

-- the first part, and those after it
pub parts_ms-cons : (place : ℕ) (text : List ℕ) (part : Part) → 0 < length text → part_at place text ≡ Ok part → 0 < part.length → parts_ms place 0 text ≡ with_part part.ms (parts_ms (place + part.length) 0 (drop part.length text))
parts_ms-cons place [] part some is taken = absurd (omega arith)
parts_ms-cons place (byte ∷ bytes) part some is taken =
    ap (λ r. r >>= λ p. with_part p.ms (parts_ms (place + 1) (p.length - 1) bytes)) is
    ∙ ap (with_part part.ms) (after_first part.length place byte bytes taken)

pub parts_ms-fault : (place : ℕ) (text : List ℕ) (fault : NumError) → 0 < length text → part_at place text ≡ Err fault → parts_ms place 0 text ≡ Err fault
parts_ms-fault place [] fault some is = absurd (omega arith)
parts_ms-fault place (byte ∷ bytes) fault some is =
    ap (λ r. r >>= λ p. with_part p.ms (parts_ms (place + 1) (p.length - 1) bytes)) is

-- one above the longest stands for each total that is too large
judged_after-part : (total ms : ℕ) (rest : Result ℕ NumError) → judged_after total (with_part ms rest) ≡ judged_after (min (total + ms) 4398046511105) rest
judged_after-part total ms (Ok rest) = grind (arith, nat_tests)
judged_after-part total ms (Err fault) = refl

pub judged_more : (text : List ℕ) (place total : ℕ) (part : Part) → place < length text → part_at place (drop place text) ≡ Ok part → 0 < part.length → judged_after (min (total + part.ms) 4398046511105) (parts_ms (place + part.length) 0 (drop (place + part.length) text)) ≡ judged_after total (parts_ms place 0 (drop place text))
judged_more text place total part some is taken =
    let left : 0 < length (drop place text) = simp length-drop (omega arith) in
    let e = parts_ms-cons place (drop place text) part left is taken in
    sym (ap (judged_after total) e ∙ judged_after-part total part.ms _ ∙ ap (λ t. judged_after (min (total + part.ms) 4398046511105) (parts_ms (place + part.length) 0 t)) (drop-drop part.length place text))

pub judged_none : (r : Result ℕ NumError) → judged_after 0 r ≡ (r >>= λ ms. cond (nat_lt longest ms) (Err TooLarge) (Ok ms))
judged_none (Ok rest) = rw zero-add refl
judged_none (Err fault) = refl

-- what a text that has parts comes to
pub duration_is : (text : List ℕ) → (length text == 0) ≡ false → bytes_eq text (codes "0") ≡ false → duration_ms_of text ≡ judged_after 0 (parts_ms 0 0 text)
duration_is text some other = rw (some, other) (sym (judged_none (parts_ms 0 0 text)))
