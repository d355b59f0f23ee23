-- The digits of a number three at a time, and the tables of them.
use Rattle.std.proofs.Common.{◌≡◌, ◌+◌, ◌*◌, ◌/◌, ◌%◌, ◌-◌, ◌<◌, ◌≤◌, ◌^◌, ℕ, zero, suc, List, [], ◌∷◌, ◌++◌, length, get_or, set, take, drop, append_assoc, append-nil, length-append, length-drop, length-set, refl, subst, sym, ap, ◌∙◌, arith}
use Rattle.std.specs.Fmt.{decimal, digits}
use Rattle.std.proofs.lemmas.Fmt.{decimal_step, decimal_nonempty, length-decimal-le}
use Rattle.std.proofs.lemmas.List.{drop-drop, drop_at, get_or-drop, get_or-take, get_or_push, length-take-le, take-append-le, take-take, take_at, take_more, take_more_set}
use Rattle.itoa.proofs.Decimal.{decimal_pair}
use Rattle.kn_report.proofs.InPlace.{front_of}
use Rattle.kn_report.specs.Digits.{three}
use Rattle.kn_report.specs.declared.digits.TheConstants.{LEAST, THREES}

-- ---- the tables

-- what f gives of k numbers from i on
blocks : (ℕ → List ℕ) → ℕ → ℕ → List ℕ
blocks f i zero = []
blocks f i (suc k) = f i ++ blocks f (i + 1) k

-- the n-th of them is a block of four
block_at : (f : ℕ → List ℕ) (i k n j : ℕ) → ((m : ℕ) → m < i + k → length (f m) ≡ 4) → n < k → i + n ≡ j → take 4 (drop (n * 4) (blocks f i k)) ≡ f j
unfolding blocks
block_at f i zero n j four h is = absurd (omega arith)
block_at f i (suc k) zero j four h is =
    let same : i ≡ j = omega arith in take_at (f i) (blocks f (i + 1) k) 4 (four i (omega arith)) ∙ ap f same
block_at f i (suc k) (suc n) j four h is =
    let on : suc n * 4 ≡ 4 + n * 4 = omega arith in
    rw (on, ← drop-drop (n * 4) 4 (f i ++ blocks f (i + 1) k), drop_at (f i) (blocks f (i + 1) k) 4 (four i (omega arith)))
    (block_at f (i + 1) k n j (λ m below. four m (omega arith)) (omega arith) (omega arith))

-- four bytes of a number: its digits in three, and how many they are
least_four : ℕ → List ℕ
least_four n = take 3 (decimal n ++ 32 ∷ 32 ∷ []) ++ length (decimal n) ∷ []

-- four bytes of a number: its three digits, and one that says nothing
three_four : ℕ → List ℕ
three_four n = three n ++ 48 ∷ []

least_is : LEAST ≡ blocks least_four 0 1000
unfolding digits blocks least_four
least_is = refl

threes_is : THREES ≡ blocks three_four 0 1000
unfolding blocks three_four
threes_is = refl

length_LEAST : length LEAST ≡ 4000
length_LEAST = refl

length_THREES : length THREES ≡ 4000
length_THREES = refl

-- blocks are of four bytes
length_least_three : (n : ℕ) → n < 1000 → length (take 3 (decimal n ++ 32 ∷ 32 ∷ [])) ≡ 3
length_least_three n h =
    length-take-le 3 (decimal n ++ 32 ∷ 32 ∷ []) (omega (arith, length-append (decimal n) (32 ∷ 32 ∷ []), decimal_nonempty n (omega arith)))

length_least : (n : ℕ) → n < 1000 → length (least_four n) ≡ 4
unfolding least_four
length_least n h =
    length-append (take 3 (decimal n ++ 32 ∷ 32 ∷ [])) (length (decimal n) ∷ []) ∙ ap (λ (k : ℕ). k + 1) (length_least_three n h)

length_three : (n : ℕ) → length (three_four n) ≡ 4
unfolding three_four
length_three n = refl

least_at : (n : ℕ) → n < 1000 → take 4 (drop (n * 4) LEAST) ≡ least_four n
least_at n h = ap (λ (t : List ℕ). take 4 (drop (n * 4) t)) least_is ∙ block_at least_four 0 1000 n n (λ m below. length_least m (omega arith)) h (omega arith)

threes_at : (n : ℕ) → n < 1000 → take 4 (drop (n * 4) THREES) ≡ three_four n
threes_at n h = ap (λ (t : List ℕ). take 4 (drop (n * 4) t)) threes_is ∙ block_at three_four 0 1000 n n (λ m below. length_three m) h (omega arith)

-- the front of a number's four that its digits are
least_text : (n : ℕ) → n < 1000 → take (length (decimal n)) (least_four n) ≡ decimal n
unfolding least_four
least_text n h =
    let few : length (decimal n) ≤ 3 = length-decimal-le 3 n (omega arith) (omega arith) (omega arith) in
    let spaced = decimal n ++ 32 ∷ 32 ∷ [] in
    take-append-le (length (decimal n)) (take 3 spaced) (length (decimal n) ∷ []) (omega (arith, length_least_three n h))
    ∙ take-take (length (decimal n)) 3 spaced few ∙ take_at (decimal n) (32 ∷ 32 ∷ []) (length (decimal n)) refl

-- ---- four bytes copied

-- one byte more
one_more : (room t start : List ℕ) (i next from k j : ℕ) → i < length room → j < length t → i + 1 ≡ next → from + k ≡ j → take i room ≡ start ++ take k (drop from t)
    → take next (set room i (get_or t j 0)) ≡ start ++ take (k + 1) (drop from t)
one_more room t start i next from k j fits has to_next to_j is =
    rw (← to_next, ← to_j) (
    take_more_set room i (get_or t (from + k) 0) fits ∙ ap (λ (m : List ℕ). m ++ get_or t (from + k) 0 ∷ []) is
    ∙ append_assoc start (take k (drop from t)) (get_or t (from + k) 0 ∷ [])
    ∙ ap (λ (x : ℕ). start ++ (take k (drop from t) ++ x ∷ [])) (sym (get_or-drop from t k 0))
    ∙ ap (λ (m : List ℕ). start ++ m) (sym (take_more (drop from t) k 0 (omega (arith, length-drop from t)))))

abbrev two_copied : List ℕ → List ℕ → ℕ → ℕ → List ℕ
two_copied room t at from = set (set room at (get_or t from 0)) (at + 1) (get_or t (from + 1) 0)

-- four bytes of a table, written at a place of the room
abbrev four_copied : List ℕ → List ℕ → ℕ → ℕ → List ℕ
four_copied room t at from = set (set (two_copied room t at from) (at + 2) (get_or t (from + 2) 0)) (at + 3) (get_or t (from + 3) 0)

four_text : (room t : List ℕ) (at from : ℕ) → at + 4 ≤ length room → from + 4 ≤ length t → take (at + 4) (four_copied room t at from) ≡ take at room ++ take 4 (drop from t)
four_text room t at from fits has =
    let start = take at room in
    let first = set room at (get_or t from 0) in
    let second = set first (at + 1) (get_or t (from + 1) 0) in
    let third = set second (at + 2) (get_or t (from + 2) 0) in
    let long_first : length first ≡ length room = length-set room at _ in
    let long_second : length second ≡ length room = length-set first (at + 1) _ ∙ long_first in
    let long_third : length third ≡ length room = length-set second (at + 2) _ ∙ long_second in
    let a = one_more room t start at (at + 1) from 0 from (omega arith) (omega arith) refl (omega arith) (sym (append-nil start)) in
    let b = one_more first t start (at + 1) (at + 2) from 1 (from + 1) (omega arith) (omega arith) (omega arith) refl a in
    let c = one_more second t start (at + 2) (at + 3) from 2 (from + 2) (omega arith) (omega arith) (omega arith) refl b in
    one_more third t start (at + 3) (at + 4) from 3 (from + 3) (omega arith) (omega arith) (omega arith) refl c

-- ---- a number below 1,000 that is written by a table

-- how many digits there are, as the table has it
pub least_last : (n : ℕ) → n < 1000 → get_or LEAST (n * 4 + 3) 0 ≡ length (decimal n)
unfolding least_four
least_last n h =
    sym (get_or-drop (n * 4) LEAST 3 0) ∙ sym (get_or-take 4 (drop (n * 4) LEAST) 3 0 (omega arith)) ∙ ap (λ (m : List ℕ). get_or m 3 0) (least_at n h)
    ∙ get_or_push (take 3 (decimal n ++ 32 ∷ 32 ∷ [])) (length (decimal n)) 0 3 (length_least_three n h)

pub length_few : (n : ℕ) → n < 1000 → length (decimal n) ≤ 3
length_few n h = length-decimal-le 3 n (omega arith) (omega arith) (omega arith)

pub least_written : (room : List ℕ) (at n : ℕ) → n < 1000 → at + 4 ≤ length room
    → take (at + (get_or LEAST (n * 4 + 3) 0)) (four_copied room LEAST at (n * 4)) ≡ take at room ++ decimal n
least_written room at n h fits =
    let few = length_few n h in
    let last : get_or LEAST (n * 4 + 3) 0 ≡ length (decimal n) = omega (arith, least_last n h) in
    let four = four_text room LEAST at (n * 4) fits (omega (arith, length_LEAST)) ∙ ap (λ (m : List ℕ). take at room ++ m) (least_at n h) in
    subst (λ (k : ℕ). take (at + k) (four_copied room LEAST at (n * 4)) ≡ take at room ++ decimal n) (sym last)
    (front_of room (four_copied room LEAST at (n * 4)) (least_four n) at (length (decimal n)) 4 (omega arith) (omega arith) four
    ∙ ap (λ (m : List ℕ). take at room ++ m) (least_text n h))

pub three_written : (room : List ℕ) (at n : ℕ) → n < 1000 → at + 4 ≤ length room → take (at + 3) (four_copied room THREES at (n * 4)) ≡ take at room ++ three n
unfolding three_four
three_written room at n h fits =
    let four = four_text room THREES at (n * 4) fits (omega (arith, length_THREES)) ∙ ap (λ (m : List ℕ). take at room ++ m) (threes_at n h) in
    front_of room (four_copied room THREES at (n * 4)) (three n ++ 48 ∷ []) at 3 4 (omega arith) (omega arith) four

-- ---- longer numbers

-- a number's text is that of its thousands, millions or more, and three digits for each three left
pub decimal_three : (n : ℕ) → 1000 ≤ n → n < 2 ^ 64 → decimal n ≡ decimal (n / 1000) ++ three (n % 1000)
decimal_three n lo hi =
    let rest : n / 100 / 10 ≡ n / 1000 = omega arith in
    let hundreds : n / 100 % 10 ≡ n % 1000 / 100 = omega arith in
    let tens : n % 100 / 10 ≡ n % 1000 / 10 % 10 = omega arith in
    let ones : n % 100 % 10 ≡ n % 1000 % 10 = omega arith in
    rw (decimal_pair n (omega arith) hi, decimal_step (n / 100) (omega arith) (omega arith), append_assoc, rest, hundreds, tens, ones)

pub decimal_six : (n : ℕ) → 1000000 ≤ n → n < 2 ^ 64 → decimal n ≡ decimal (n / 1000000) ++ (three (n % 1000000 / 1000) ++ three (n % 1000000 % 1000))
decimal_six n lo hi =
    let rest : n / 1000 / 1000 ≡ n / 1000000 = omega arith in
    let high : n / 1000 % 1000 ≡ n % 1000000 / 1000 = omega arith in
    let low : n % 1000 ≡ n % 1000000 % 1000 = omega arith in
    decimal_three n (omega arith) hi
    ∙ ap (λ (m : List ℕ). m ++ three (n % 1000)) (decimal_three (n / 1000) (omega arith) (omega arith))
    ∙ append_assoc (decimal (n / 1000 / 1000)) (three (n / 1000 % 1000)) (three (n % 1000))
    ∙ ap (λ (m : ℕ). decimal m ++ (three (n / 1000 % 1000) ++ three (n % 1000))) rest
    ∙ ap (λ (m : ℕ). decimal (n / 1000000) ++ (three m ++ three (n % 1000))) high
    ∙ ap (λ (m : ℕ). decimal (n / 1000000) ++ (three (n % 1000000 / 1000) ++ three m)) low

pub decimal_nine : (n : ℕ) → 1000000000 ≤ n → n < 2 ^ 64
    → decimal n ≡ decimal (n / 1000000000) ++ (three (n % 1000000000 / 1000000) ++ (three (n % 1000000000 / 1000 % 1000) ++ three (n % 1000000000 % 1000)))
decimal_nine n lo hi =
    let rest : n / 1000000 / 1000 ≡ n / 1000000000 = omega arith in
    let high : n / 1000000 % 1000 ≡ n % 1000000000 / 1000000 = omega arith in
    let mid : n % 1000000 / 1000 ≡ n % 1000000000 / 1000 % 1000 = omega arith in
    let low : n % 1000000 % 1000 ≡ n % 1000000000 % 1000 = omega arith in
    let six = three (n % 1000000 / 1000) ++ three (n % 1000000 % 1000) in
    decimal_six n (omega arith) hi
    ∙ ap (λ (m : List ℕ). m ++ six) (decimal_three (n / 1000000) (omega arith) (omega arith))
    ∙ append_assoc (decimal (n / 1000000 / 1000)) (three (n / 1000000 % 1000)) six
    ∙ ap (λ (m : ℕ). decimal m ++ (three (n / 1000000 % 1000) ++ six)) rest
    ∙ ap (λ (m : ℕ). decimal (n / 1000000000) ++ (three m ++ six)) high
    ∙ ap (λ (m : ℕ). decimal (n / 1000000000) ++ (three (n % 1000000000 / 1000000) ++ (three m ++ three (n % 1000000 % 1000)))) mid
    ∙ ap (λ (m : ℕ). decimal (n / 1000000000) ++ (three (n % 1000000000 / 1000000) ++ (three (n % 1000000000 / 1000 % 1000) ++ three m))) low

-- ---- the text of a time that is kept

pub decimal_1000 : decimal 1000 ≡ 49 ∷ 48 ∷ 48 ∷ 48 ∷ []
unfolding digits
decimal_1000 = refl

-- without its last three digits it is that of the thousands
pub thousands_text : (text : List ℕ) (len time : ℕ) → 1000 ≤ time → time < 2 ^ 64 → len ≤ length text → take len text ≡ decimal time
    → (3 ≤ len) × (take (len - 3) text ≡ decimal (time / 1000))
thousands_text text len time lo hi within is =
    let split : take len text ≡ decimal (time / 1000) ++ three (time % 1000) = is ∙ decimal_three time lo hi in
    let long : len ≡ length (decimal (time / 1000)) + 3 =
    sym (length-take-le len text within) ∙ ap length split ∙ length-append (decimal (time / 1000)) (three (time % 1000)) in (
      omega arith,
      sym (take-take (len - 3) len text (omega arith)) ∙ ap (take (len - 3)) split
          ∙ take_at (decimal (time / 1000)) (three (time % 1000)) (len - 3) (omega arith),
    )

-- a time of the same thousand, by its last three digits
pub digits_changed : (old new : List ℕ) (len end before time : ℕ) → 1000 ≤ before → before < 2 ^ 64 → time < 2 ^ 64 → time / 1000 ≡ before / 1000
    → len ≤ length old → take len old ≡ decimal before → end ≡ len - 3 + 3 → take end new ≡ take (len - 3) old ++ three (time - before / 1000 * 1000)
    → take len new ≡ decimal time
digits_changed old new len end before time lo high fits same within was ended is =
    let front = thousands_text old len before lo high within was in
    let whole : end ≡ len = omega (arith, front.0) in
    let last : time - before / 1000 * 1000 ≡ time % 1000 = omega arith in
    ap (λ (k : ℕ). take k new) (sym whole) ∙ is ∙ ap (λ (m : List ℕ). m ++ three (time - before / 1000 * 1000)) front.1
    ∙ ap (λ (k : ℕ). decimal (before / 1000) ++ three k) last ∙ ap (λ (k : ℕ). decimal k ++ three (time % 1000)) (sym same)
    ∙ sym (decimal_three time (omega arith) fits)
