-- Numbers and words in a line that is spelled plainly.
use Rattle.std.proofs.Common.{◌≡◌, ◌≢◌, ◌+◌, ◌-◌, ◌^◌, ◌<◌, ◌≤◌, ℕ, Bool, true, false, List, [], ◌∷◌, ◌++◌, Some, length, take, drop, get_or, append_assoc, length-append, length-drop, replicate, add_comm, add-one, add-zero, refl, sym, ap, ◌∙◌, arith, cond}
use Rattle.std.specs.Prelude.{◌==◌, codes, nat_eq, slice_range}
use Rattle.std.specs.List.{list_all, prefix_len, starts_with}
use Rattle.std.specs.Fmt.{decimal}
use Rattle.std.specs.Str.Parse.{digits_value}
use Rattle.std.proofs.lemmas.Bool.Decides.{Decides-eqb}
use Rattle.std.proofs.lemmas.Grind.{common_steps}
use Rattle.std.proofs.lemmas.List.{take-append-drop, get_or-take, get_or-drop, drop-drop}
use Rattle.std.proofs.lemmas.Slice.Eq.{starts_is}
use Rattle.std.proofs.Math.Seq.{take-append_seam}
use Rattle.core.specs.Float.Numeral.{digits_len}
use Rattle.core.proofs.dec2flt.DigitsLemmas.{digits_len_short}
use lib.Seq.{drop-append_seam, take-add, take-append-le, take-take, take_all}
use Rattle.std.proofs.lemmas.Str.Parse.{digits_value_short}
use Rattle.kn_event.specs.declared.event.Act.{Act}
use Rattle.kn_event.specs.declared.event.Act.TheVariants as act
use Rattle.kn_event.specs.Numbers.{is_digit, has_no_leading_zero, number_of}
use Rattle.kn_event.specs.EntryLine.{labelled, with_number, with_numbers, outcome_word}
use Rattle.kn_event.specs.EventLine.{act_text, event_at, event_text, limit_most}
use Rattle.kn_event.specs.PlainLine.{IsNumberAt, IsActAhead, IsLfFrom, IsNumberAhead, IsOutcomeAhead, SpellsToCrs}
use Rattle.kn_event.proofs.Numerals.{own, number_of-small, number_of-spelling}

-- the digits at the front are digits
digits_taken : (bs : List ℕ) → list_all is_digit (take (prefix_len is_digit bs) bs) ≡ true
digits_taken [] = refl
digits_taken (b ∷ bs) = by_case (is_digit b) refl (digits_taken bs)
  where
    by_case : (p : Bool) → is_digit b ≡ p → list_all is_digit (take (prefix_len is_digit bs) bs) ≡ true
        → list_all is_digit (take (cond p (1 + prefix_len is_digit bs) 0) (b ∷ bs)) ≡ true
    by_case true e h = rw (add_comm 1 (prefix_len is_digit bs)) (rw (add-one (prefix_len is_digit bs)) (rw e h))
    by_case false e h = refl

leading : (ds : List ℕ) → 0 < length ds → (1 < length ds → (get_or ds 0 0 == 48) ≡ false) → has_no_leading_zero ds ≡ true
leading [] some h = absurd (omega arith)
leading (b ∷ []) some h = refl
leading (b ∷ c ∷ bs) some h = rw (h (omega arith)) refl

-- digits that are all there are, worth the value unless it has wrapped, are a number
pub number_here : (bs : List ℕ) (from value end : ℕ) → end ≡ from + digits_len (drop from bs) → end ≤ length bs
    → (digits_value 10 (slice_range bs from end) < 2 ^ 64 → value ≡ digits_value 10 (slice_range bs from end))
    → 0 < end - from → end - from ≤ 19 → (1 < end - from → (get_or bs from 0 == 48) ≡ false) → IsNumberAt bs from value end
number_here bs from value end stop inside is some few lead =
    let front : List ℕ = drop from bs in
    let ds : List ℕ = take (end - from) front in
    let len : end - from ≡ prefix_len is_digit front = omega (arith, stop) in
    let all : list_all is_digit ds ≡ true = rw len (digits_taken front) in
    let count : length ds ≡ end - from = grind (arith, common_steps) in
    let first : 0 < end - from → get_or ds 0 0 ≡ get_or bs from 0 = λ l. get_or-take (end - from) front 0 0 l ∙ get_or-drop from bs 0 0 ∙ ap (λ (i : ℕ). get_or bs i 0) (add-zero from) in
    let no_zero : has_no_leading_zero ds ≡ true = leading ds (omega (arith, count)) (λ l. rw (first some) (lead (omega (arith, count)))) in
    let small : digits_value 10 ds < 10 ^ 19 = digits_value_short own ds 19 all (omega (arith, count)) in
    let same : value ≡ digits_value 10 ds = is (omega (arith, small)) in
    let said : number_of ds ≡ Some value = number_of-small ds (rw (all, no_zero) refl) (omega (arith, small)) ∙ ap Some (sym same) in
    let spelling = number_of-spelling ds value said in
    let rest : drop (end - from) front ≡ drop end bs = grind (arith, common_steps) in
    record {
      within = inside;
      text = sym (take-append-drop (end - from) front) ∙ ap (λ (m : List ℕ). m ++ drop (end - from) front) spelling.0 ∙ ap (λ (m : List ℕ). decimal value ++ m) rest;
      small = spelling.1;
    }

-- the same of digits in a front that has more bytes than they
pub front_here : (bs : List ℕ) (room from value len end : ℕ) → end ≡ from + len → from + room ≤ length bs → 0 < len → len < room → room ≤ 20
    → len ≡ digits_len (take room (drop from bs)) → value ≡ digits_value 10 (take len (take room (drop from bs))) → get_or (take room (drop from bs)) 0 0 ≢ 48 → IsNumberAt bs from value end
front_here bs room from value len end to inside some few short stop is lead =
    let front : List ℕ = drop from bs in
    let count : end - from ≡ len = omega arith in
    let whole : digits_len front ≡ len = digits_len_short front room (omega (arith, stop)) ∙ sym stop in
    let first : get_or (take room front) 0 0 ≡ get_or bs from 0 = get_or-take room front 0 0 (omega arith) ∙ get_or-drop from bs 0 0 ∙ ap (λ (i : ℕ). get_or bs i 0) (add-zero from) in
    let worth : value ≡ digits_value 10 (slice_range bs from end) = rw count (is ∙ ap (digits_value 10) (take-take len room front (omega arith))) in
    let no_zero : (get_or bs from 0 == 48) ≡ false = grind (arith, common_steps, first, lead) in
    number_here bs from value end (omega (arith, whole)) (omega arith) (λ small. worth) (omega arith) (omega arith) (λ l. no_zero)

-- in eight bytes one to seven digits
pub few_here : (bs : List ℕ) (from value len end : ℕ) → end ≡ from + len → from + 8 ≤ length bs → 0 < len → len < 8 → len ≡ digits_len (take 8 (drop from bs))
    → value ≡ digits_value 10 (take len (take 8 (drop from bs))) → get_or (take 8 (drop from bs)) 0 0 ≢ 48 → IsNumberAt bs from value end
few_here bs from value len end to inside some few = front_here bs 8 from value len end to inside some few (omega arith)

-- sixteen bytes are eight and eight
pub two_words : (bs : List ℕ) (from : ℕ) → take 16 (drop from bs) ≡ take 8 (drop from bs) ++ take 8 (drop (from + 8) bs)
two_words bs from = take-add 8 8 (drop from bs) ∙ ap (λ (m : List ℕ). take 8 (drop from bs) ++ take 8 m) (drop-drop 8 from bs)

-- and in sixteen up to fifteen
pub many_here : (bs : List ℕ) (from value len end : ℕ) → end ≡ from + len → from + 16 ≤ length bs → 8 ≤ len → len < 16 → len ≡ digits_len (take 8 (drop from bs) ++ take 8 (drop (from + 8) bs))
    → value ≡ digits_value 10 (take len (take 8 (drop from bs) ++ take 8 (drop (from + 8) bs))) → get_or (take 8 (drop from bs)) 0 0 ≢ 48 → IsNumberAt bs from value end
many_here bs from value len end to inside many most stop is lead =
    let front : List ℕ = drop from bs in
    let both = two_words bs from in
    let first : get_or (take 16 front) 0 0 ≡ get_or (take 8 front) 0 0 = get_or-take 16 front 0 0 (omega arith) ∙ sym (get_or-take 8 front 0 0 (omega arith)) in
    front_here bs 16 from value len end to inside (omega arith) most (omega arith) (stop ∙ ap digits_len (sym both)) (is ∙ ap (λ (m : List ℕ). digits_value 10 (take len m)) (sym both))
    (λ zero. lead (sym first ∙ zero))

-- first bytes in front that spell a number
pub spelled_here : (bs : List ℕ) (room len n : ℕ) → len < room → room ≤ length bs → n < 2 ^ 64 → take len (take room bs) ≡ decimal n → IsNumberAt bs 0 n len
spelled_here bs room len n few inside small spelled =
    record {
      within = omega arith;
      text = sym (take-append-drop len bs) ∙ ap (λ (m : List ℕ). m ++ drop len bs) (sym (take-take len room bs (omega arith)) ∙ spelled);
      small = small;
    }

-- and a number in front is spelled by them
pub front_spelled : (bs : List ℕ) (room len n : ℕ) → len < room → room ≤ length bs → IsNumberAt bs 0 n len → take len (take room bs) ≡ decimal n
front_spelled bs room len n few inside number =
    let sizes : length bs ≡ length (decimal n) + length (drop len bs) = ap length number.text ∙ length-append (decimal n) (drop len bs) in
    let long : length (decimal n) ≡ len = omega (arith, sizes, length-drop len bs, inside) in
    take-take len room bs (omega arith) ∙ ap (λ (m : List ℕ). take len m) number.text ∙ ap (λ (k : ℕ). take k (decimal n ++ drop len bs)) (sym long) ∙ take-append_seam (decimal n) (drop len bs)

-- eight to fifteen digits that begin sixteen bytes spell what they are worth
pub digits_spelled : (xs ys : List ℕ) (len value : ℕ) → length xs ≡ 8 → length ys ≡ 8 → 8 ≤ len → len < 16 → len ≡ digits_len (xs ++ ys) → value ≡ digits_value 10 (take len (xs ++ ys))
    → get_or xs 0 0 ≢ 48 → take len (xs ++ ys) ≡ decimal value
digits_spelled xs ys len value first second many most stop is lead =
    let both : List ℕ = xs ++ ys in
    let front : take 8 both ≡ xs = take-append-le 8 xs ys (omega arith) ∙ take_all 8 xs (omega arith) in
    let behind : take 8 (drop 8 both) ≡ ys = ap (λ (k : ℕ). take 8 (drop k both)) (sym first) ∙ ap (take 8) (drop-append_seam xs ys) ∙ take_all 8 ys (omega arith) in
    let size : length both ≡ 16 = length-append xs ys ∙ omega arith in
    let whole : take 8 both ++ take 8 (drop 8 both) ≡ both = ap (λ (m : List ℕ). m ++ take 8 (drop 8 both)) front ∙ ap (λ (m : List ℕ). xs ++ m) behind in
    let number = many_here both 0 value len len (omega arith) (omega (arith, size)) many most (stop ∙ ap digits_len (sym whole))
    (is ∙ ap (λ (m : List ℕ). digits_value 10 (take len m)) (sym whole)) (λ zero. lead (ap (λ (m : List ℕ). get_or m 0 0) (sym front) ∙ zero)) in
    sym (ap (take len) (take_all 16 both (omega (arith, size)))) ∙ front_spelled both 16 len value most (omega (arith, size)) number

sum_same : (n m : ℕ) → n + (m + 1) ≡ n + m + 1
sum_same n m = omega arith

-- a word of some bytes, and what stands behind it
pub word_first : (bs : List ℕ) (at : ℕ) (word rest : List ℕ) → take at bs ≡ word → drop at bs ≡ rest → bs ≡ word ++ rest
word_first bs at word rest is more =
    sym (take-append-drop at bs) ∙ ap (λ (m : List ℕ). m ++ drop at bs) is ∙ ap (λ (m : List ℕ). word ++ m) more

-- these bytes begin so
pub begins : (bs word : List ℕ) → starts_with nat_eq bs word ≡ true → bs ≡ word ++ drop (length word) bs
begins bs word h = (starts_is Decides-eqb bs word true (sym h)).0 refl

pub arrival : (bs : List ℕ) (n crs to : ℕ) → bs ≡ codes " arrive " ++ drop 8 bs → to < length bs → drop 8 bs ≡ decimal n ++ (replicate crs 13 ++ 10 ∷ drop (to + 1) bs) → n < 2 ^ 64
    → IsActAhead bs (act.Arrive n) to
unfolding act_text with_number
arrival bs n crs to word inside rest small =
    record { crs = crs; within = inside; text = word ∙ ap (λ (m : List ℕ). codes " arrive " ++ m) rest; range = small; act = λ version. tt }

pub tick : (bs : List ℕ) (to : ℕ) → starts_with nat_eq bs (codes " tick") ≡ true → IsLfFrom bs 5 to → IsActAhead bs act.Tick to
unfolding act_text
tick bs to word lf = record { crs = lf.crs; within = lf.within; text = begins bs (codes " tick") word ∙ ap (λ (m : List ℕ). codes " tick" ++ m) lf.text; range = tt; act = λ version. tt }

-- the same by its first bytes
pub tick_first : (bs : List ℕ) → take 6 bs ≡ codes " tick\n" → 6 ≤ length bs → IsActAhead bs act.Tick 5
unfolding act_text
tick_first bs word room = record { crs = 0; within = omega arith; text = word_first bs 6 (codes " tick\n") (drop 6 bs) word refl; range = tt; act = λ version. tt }

pub pass : (bs : List ℕ) (to : ℕ) → starts_with nat_eq bs (codes " pass") ≡ true → IsLfFrom bs 5 to → IsActAhead bs act.Pass to
unfolding act_text
pass bs to word lf = record { crs = lf.crs; within = lf.within; text = begins bs (codes " pass") word ∙ ap (λ (m : List ℕ). codes " pass" ++ m) lf.text; range = tt; act = λ version. tt }

pub readiness : (bs : List ℕ) (n to : ℕ) → starts_with nat_eq bs (codes " ready ") ≡ true → IsNumberAhead bs 7 n to → IsActAhead bs (act.Ready n) to
unfolding act_text with_number
readiness bs n to word number =
    record { crs = number.crs; within = number.within; text = begins bs (codes " ready ") word ∙ ap (λ (m : List ℕ). codes " ready " ++ m) number.text; range = number.small; act = λ version. tt }

pub cancellation : (bs : List ℕ) (n to : ℕ) → starts_with nat_eq bs (codes " cancel ") ≡ true → IsNumberAhead bs 8 n to → IsActAhead bs (act.Cancel n) to
unfolding act_text with_number
cancellation bs n to word number =
    record { crs = number.crs; within = number.within; text = begins bs (codes " cancel ") word ∙ ap (λ (m : List ℕ). codes " cancel " ++ m) number.text; range = number.small; act = λ version. tt }

-- an outcome right there, and one behind which CRs may stand
pub outcome : (bs : List ℕ) (ok : Bool) (to : ℕ) → bs ≡ outcome_word ok ++ drop (length (outcome_word ok)) bs → IsLfFrom bs (length (outcome_word ok)) to → IsOutcomeAhead bs ok to
outcome bs ok to word lf = record { crs = lf.crs; within = lf.within; text = word ∙ ap (λ (m : List ℕ). outcome_word ok ++ m) lf.text }

pub finish : (bs : List ℕ) (n end len : ℕ) (ok : Bool) → bs ≡ codes " finish " ++ drop 8 bs → IsNumberAt bs 8 n end → IsOutcomeAhead (drop end bs) ok len → IsActAhead bs (act.Finish n ok) (end + len)
unfolding act_text with_number labelled
finish bs n end len ok word number out =
    let left : drop (len + 1) (drop end bs) ≡ drop (end + len + 1) bs = drop-drop (len + 1) end bs ∙ ap (λ (k : ℕ). drop k bs) (sum_same end len) in
    let tail : List ℕ = replicate out.crs 13 ++ 10 ∷ drop (end + len + 1) bs in
    let behind : drop 8 bs ≡ (decimal n ++ outcome_word ok) ++ tail =
    number.text ∙ ap (λ (m : List ℕ). decimal n ++ m) (out.text ∙ ap (λ (m : List ℕ). outcome_word ok ++ (replicate out.crs 13 ++ 10 ∷ m)) left) ∙ sym (append_assoc (decimal n) (outcome_word ok) tail) in
    let low = out.within in
    record {
      crs = out.crs;
      within = omega (arith, low, length-drop end bs);
      text = word ∙ ap (λ (m : List ℕ). codes " finish " ++ m) behind;
      range = number.small;
      act = λ version. tt;
    }

pub limitation : (bs : List ℕ) (p n end len : ℕ) → starts_with nat_eq bs (codes " limit ") ≡ true → IsNumberAt bs 7 p end → n ≤ limit_most → drop end bs ≡ 32 ∷ drop 1 (drop end bs)
    → IsNumberAhead (drop end bs) 1 n len → IsActAhead bs (act.Limit p n) (end + len)
unfolding act_text with_number with_numbers
limitation bs p n end len word number most space last =
    let left : drop (len + 1) (drop end bs) ≡ drop (end + len + 1) bs = drop-drop (len + 1) end bs ∙ ap (λ (k : ℕ). drop k bs) (sum_same end len) in
    let tail : List ℕ = replicate last.crs 13 ++ 10 ∷ drop (end + len + 1) bs in
    let rest : drop end bs ≡ 32 ∷ decimal n ++ tail =
    space ∙ ap (λ (m : List ℕ). 32 ∷ m) (last.text ∙ ap (λ (m : List ℕ). decimal n ++ (replicate last.crs 13 ++ 10 ∷ m)) left) in
    let behind : drop 7 bs ≡ (decimal p ++ 32 ∷ decimal n) ++ tail =
    number.text ∙ ap (λ (m : List ℕ). decimal p ++ m) rest ∙ sym (append_assoc (decimal p) (32 ∷ decimal n) tail) in
    let low = last.within in
    record {
      crs = last.crs;
      within = omega (arith, low, length-drop end bs);
      text = begins bs (codes " limit ") word ∙ ap (λ (m : List ℕ). codes " limit " ++ m) behind;
      range = (number.small, most);
      act = λ version. tt;
    }

-- an LF right there, and one behind a CR
pub lf_here : (bs : List ℕ) (from : ℕ) → starts_with nat_eq (drop from bs) (codes "\n") ≡ true → from < length bs → IsLfFrom bs from from
lf_here bs from word room =
    let behind : drop 1 (drop from bs) ≡ drop (from + 1) bs = drop-drop 1 from bs ∙ ap (λ (k : ℕ). drop k bs) (omega arith) in
    record { crs = 0; within = room; text = begins (drop from bs) (codes "\n") word ∙ ap (λ (m : List ℕ). 10 ∷ m) behind }

pub lf_behind_cr : (bs : List ℕ) (from : ℕ) → starts_with nat_eq (drop from bs) (codes "\r\n") ≡ true → from + 1 < length bs → IsLfFrom bs from (from + 1)
lf_behind_cr bs from word room =
    let behind : drop 2 (drop from bs) ≡ drop (from + 1 + 1) bs = drop-drop 2 from bs ∙ ap (λ (k : ℕ). drop k bs) (omega arith) in
    record { crs = 1; within = room; text = begins (drop from bs) (codes "\r\n") word ∙ ap (λ (m : List ℕ). 13 ∷ 10 ∷ m) behind }

-- a number that ends there, with an LF from there on
pub number_to_lf : (bs : List ℕ) (from n end to : ℕ) → IsNumberAt bs from n end → IsLfFrom bs end to → IsNumberAhead bs from n to
number_to_lf bs from n end to number lf =
    record { crs = lf.crs; within = lf.within; text = number.text ∙ ap (λ (m : List ℕ). decimal n ++ m) lf.text; small = number.small }

-- a number and an act in front of an LF are the line of an event
record IsLineHere (bs : List ℕ) (time at len : ℕ) (a : Act) (crs : ℕ) : Type 0 where
  taken : take (at + len) bs ≡ event_text (event_at time a) ++ replicate crs 13
  split : bs ≡ take (at + len) bs ++ 10 ∷ drop (at + len + 1) bs

line_of : (bs : List ℕ) (time at len : ℕ) (a : Act) → IsNumberAt bs 0 time at → (text : IsActAhead (drop at bs) a len) → IsLineHere bs time at len a text.crs
unfolding event_text
line_of bs time at len a number text =
    let left : drop (len + 1) (drop at bs) ≡ drop (at + len + 1) bs = drop-drop (len + 1) at bs ∙ ap (λ (k : ℕ). drop k bs) (sum_same at len) in
    let crs : List ℕ = replicate text.crs 13 in
    let rest : List ℕ = drop (at + len + 1) bs in
    let spelled : List ℕ = decimal time ++ act_text a in
    let line : List ℕ = spelled ++ crs in
    let whole : bs ≡ line ++ 10 ∷ rest =
    number.text ∙ ap (λ (m : List ℕ). decimal time ++ m) (text.text ∙ ap (λ (m : List ℕ). act_text a ++ (crs ++ 10 ∷ m)) left)
    ∙ sym (append_assoc (decimal time) (act_text a) (crs ++ 10 ∷ rest)) ∙ sym (append_assoc spelled crs (10 ∷ rest)) in
    let low = text.within in
    let within : at + len < length bs = omega (arith, low, length-drop at bs) in
    let sizes : length bs ≡ length line + (length rest + 1) = ap length whole ∙ length-append line (10 ∷ rest) ∙ ap (λ (k : ℕ). length line + k) (omega arith) in
    let long : length line ≡ at + len = omega (arith, sizes, within, length-drop (at + len + 1) bs) in
    let front : take (at + len) bs ≡ line =
    ap (λ (m : List ℕ). take (at + len) m) whole ∙ ap (λ (k : ℕ). take k (line ++ 10 ∷ rest)) (sym long) ∙ take-append_seam line (10 ∷ rest) in
    record { taken = front; split = whole ∙ ap (λ (m : List ℕ). m ++ 10 ∷ rest) (sym front) }

pub event_here : (bs : List ℕ) (time at len : ℕ) (a : Act) → IsNumberAt bs 0 time at → IsActAhead (drop at bs) a len → SpellsToCrs (take (at + len) bs) (event_at time a)
event_here bs time at len a number text =
    record { crs = text.crs; whole = (line_of bs time at len a number text).taken; spells = λ version. record { text = refl; time = number.small; range = text.range; act = text.act version } }

pub line_here : (bs : List ℕ) (time at len : ℕ) (a : Act) → IsNumberAt bs 0 time at → IsActAhead (drop at bs) a len → bs ≡ take (at + len) bs ++ 10 ∷ drop (at + len + 1) bs
line_here bs time at len a number text = (line_of bs time at len a number text).split
