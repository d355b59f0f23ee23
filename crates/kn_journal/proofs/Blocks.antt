-- A block, line by line, and the word in front of it.
use Rattle.std.proofs.Common.{◌≡◌, ◌+◌, ◌<◌, ◌≤◌, ℕ, Bool, true, false, List, [], ◌∷◌, ◌++◌, length, length-append, append_assoc, append-nil, refl, sym, ap, ◌∙◌, arith, inl}
use Rattle.std.specs.Prelude.{Option, None, Some, Result, Ok, Err, codes, ⊤}
use Rattle.std.specs.Str.{bytes_eq}
use Rattle.std.proofs.lemmas.Grind.{common_steps}
use Rattle.kn_journal.specs.declared.error.JournalError.{JournalError}
use Rattle.kn_journal.specs.declared.error.JournalError.TheVariants as error
use Rattle.kn_preamble.specs.declared.error.SetupError.TheVariants as setup_error
use Rattle.kn_journal.specs.Causes.{bad_setup, line_too_long, no_end}
use Rattle.kn_journal.specs.Lines.{ends_with_cr, fits, lines}
use Rattle.kn_journal.specs.Reading.{AreWhole, TakesLine, TakesPart, TakesText}
use Rattle.kn_journal.specs.Setup.{block_most, block_part, fits_block, longer, word_in, word_part}
use Rattle.kn_journal.specs.Telling.{Gives, Judges, Lacks, Refuses, StopsAmid, Tells}
use Rattle.kn_journal.proofs.Plain.{cr-is-last}
use Rattle.kn_journal.proofs.Stops.{part-stops}
use Rattle.kn_journal.proofs.Tellings.{lacks_refuses, line-tells}
use Rattle.kn_journal.proofs.Texts.{cut-behind, lines-own, split-behind, whole-cut}

-- ---- a word

pub word-tells : (word : List ℕ) (n number : ℕ) (old new : Option (List ℕ)) (line : List ℕ) (r : Result (Unit {0}) JournalError)
    → TakesLine old new true line → fits line ≡ true → number ≡ n + 1 → Judges (word_in word) number line r → Tells (word_part word n) number old new r
unfolding word_part
word-tells word n number old new line r h fit e j = line-tells n number old new line (word_in word) r h fit e j

pub word-refuses : (word : List ℕ) (n : ℕ) (e : JournalError) (old : Option (List ℕ)) → Lacks n e old → Refuses (word_part word n) e old
unfolding word_part
word-refuses word n e old h = lacks_refuses n e old (word_in word) h

pub word-none : (word : List ℕ) (n : ℕ) (old new : Option (List ℕ)) → TakesPart old new → StopsAmid (word_part word n) old new
unfolding word_part
word-none word n old new h = part-stops (word_part word n) old new refl h

pub word-same : (word line : List ℕ) (number : ℕ) → bytes_eq line word ≡ true → Judges (word_in word) number line (Ok tt)
word-same word line number h = λ left. rw h refl

pub word-other : (word line : List ℕ) (number : ℕ) → bytes_eq line word ≡ false → Judges (word_in word) number line (Err (error.BadSetup number setup_error.BadWord))
word-other word line number h = (bad_setup number setup_error.BadWord, refl, λ left. rw h refl)

-- ---- a block: some lines were taken, and whatever follows them says behind this text what all say

pub record IsBegun (first : ℕ) (text : List ℕ) (n : ℕ) (xs ys : List ℕ) : Type 0 where
  pub own : List (List ℕ)
  pub split : lines xs ≡ own ++ lines ys
  pub count : first + length own ≡ n
  pub same : (later : List (List ℕ)) → block_part [] first (own ++ later) ≡ block_part text n later
  pub bytes : List ℕ
  pub taken : xs ≡ bytes ++ ys
  pub whole : AreWhole bytes ys

abbrev pub IsBlock : ℕ → List ℕ → ℕ → Option (List ℕ) → Option (List ℕ) → Type 0
IsBlock first text n None new = ⊤
IsBlock first text n (Some xs) None = ⊥
IsBlock first text n (Some xs) (Some ys) = IsBegun first text n xs ys

pub block-begin : (n : ℕ) (old : Option (List ℕ)) → IsBlock n [] n old old
block-begin n None = tt
block-begin n (Some xs) = record { own = []; split = refl; count = omega arith; same = λ later. refl; bytes = []; taken = refl; whole = inl refl }

so_far : (first : ℕ) (text : List ℕ) (n : ℕ) (xs ys : List ℕ) → IsBegun first text n xs ys → block_part [] first (lines xs) ≡ block_part text n (lines ys)
so_far first text n xs ys h = ap (block_part [] first) h.split ∙ h.same (lines ys)

-- the source failed
pub block-stops : (first : ℕ) (text : List ℕ) (n : ℕ) (old mid new : Option (List ℕ)) → IsBlock first text n old mid → TakesPart mid new → StopsAmid (block_part [] first) old new
unfolding block_part
block-stops first text n None mid new h k = tt
block-stops first text n (Some xs) None new h k = absurd h
block-stops first text n (Some xs) (Some ys) None h k = absurd k
block-stops first text n (Some xs) (Some ys) (Some zs) h k =
    let own : lines h.bytes ≡ h.own ++ [] = lines-own xs h.bytes ys h.own h.taken h.whole h.split ∙ sym (append-nil h.own) in
    (h.bytes, ys, h.taken, h.whole, ap (block_part [] first) own ∙ h.same [], k)

pub block-lacks : (first : ℕ) (text : List ℕ) (n : ℕ) (e : JournalError) (old mid : Option (List ℕ)) → IsBlock first text n old mid → Lacks n e mid → Refuses (block_part [] first) e old
unfolding block_part
block-lacks first text n e None mid h k = tt
block-lacks first text n e (Some xs) None h k = absurd h
block-lacks first text n error.ReadFault (Some xs) (Some ys) h k = tt
block-lacks first text n (error.LineTooLong m) (Some xs) (Some ys) h (is, l, more, all, long) = (line_too_long (n + 1), ap error.LineTooLong (sym is), so_far first text n xs ys h ∙ rw (all, long) refl)
block-lacks first text n (error.BadFirstLine due) (Some xs) (Some ys) h k = absurd k
block-lacks first text n (error.BadSetup m why) (Some xs) (Some ys) h k = absurd k
block-lacks first text n (error.BadLine m why) (Some xs) (Some ys) h k = absurd k
block-lacks first text n (error.TimeBack m t u) (Some xs) (Some ys) h k = absurd k
block-lacks first text n (error.TimeTooLarge m) (Some xs) (Some ys) h k = absurd k
block-lacks first text n error.NoEnd (Some xs) (Some ys) h k = (no_end, refl, so_far first text n xs ys h ∙ rw k refl)
block-lacks first text n (error.AfterEnd m) (Some xs) (Some ys) h k = absurd k
block-lacks first text n (error.TooMany m) (Some xs) (Some ys) h k = absurd k
block-lacks first text n error.Memory (Some xs) (Some ys) h k = absurd k

-- the single point
pub block-point : (first : ℕ) (text : List ℕ) (n m : ℕ) (old mid new : Option (List ℕ)) (line : List ℕ) → IsBlock first text n old mid → TakesLine mid new true line → fits line ≡ true → m ≡ n + 1
    → bytes_eq line (codes ".") ≡ true → Gives (block_part [] first) text m old new
unfolding block_part
block-point first text n m None mid new line h k fit e is = tt
block-point first text n m (Some xs) None new line h k fit e is = absurd h
block-point first text n m (Some xs) (Some ys) None line h k fit e is = absurd k
block-point first text n m (Some xs) (Some ys) (Some zs) line h k fit e is = so_far first text n xs ys h ∙ rw (k, fit, is, ← e) refl

pub longer-length : (text line : List ℕ) → length (longer text line) ≡ length text + length line + 1
longer-length text line = omega (arith, length-append text (line ++ 10 ∷ []), length-append line (10 ∷ []))

-- the bytes up to here
pub block-text : (first : ℕ) (text : List ℕ) (n : ℕ) (c : Bool) (old mid new : Option (List ℕ)) → IsBlock first text n old mid → TakesText c mid new → TakesText c old new
block-text first text n c None mid new h t = tt
block-text first text n c (Some xs) None new h t = absurd h
block-text first text n c (Some xs) (Some ys) None h t = absurd t
block-text first text n c (Some xs) (Some ys) (Some zs) h (more, is, cut) =
    (h.bytes ++ more, split-behind xs h.bytes ys more zs h.taken is, cut-behind c h.bytes more zs cut)

-- one line more
pub block-more : (first : ℕ) (text after : List ℕ) (n m : ℕ) (c : Bool) (old mid new : Option (List ℕ)) (line : List ℕ) → IsBlock first text n old mid → TakesLine mid new true line → TakesText c mid new
    → fits line ≡ true → m ≡ n + 1 → bytes_eq line (codes ".") ≡ false → length text + length line < block_most → after ≡ (text ++ line) ++ 10 ∷ [] → IsBlock first after m old new
unfolding block_part
block-more first text after n m c None mid new line h k t fit e other short is = tt
block-more first text after n m c (Some xs) None new line h k t fit e other short is = absurd h
block-more first text after n m c (Some xs) (Some ys) None line h k t fit e other short is = absurd k
block-more first text after n m c (Some xs) (Some ys) (Some zs) line h k (more, behind, cut) fit e other short is =
    let same : longer text line ≡ after = sym (append_assoc text line (10 ∷ [])) ∙ sym is in
    let few : length (longer text line) ≤ block_most = omega (arith, longer-length text line) in
    let room : fits_block (longer text line) ≡ true = grind (arith, common_steps) in
    record {
      own = h.own ++ line ∷ [];
      split = h.split ∙ ap (λ (x : List (List ℕ)). h.own ++ x) k ∙ sym (append_assoc h.own (line ∷ []) (lines zs));
      count = omega (arith, h.count, e, length-append h.own (line ∷ []));
      same = λ later. ap (block_part [] first) (append_assoc h.own (line ∷ []) later) ∙ h.same (line ∷ later) ∙ rw (fit, other, room) (rw (same, e) refl);
      bytes = h.bytes ++ more;
      taken = split-behind xs h.bytes ys more zs h.taken behind;
      whole = whole-cut c (h.bytes ++ more) zs (cut-behind c h.bytes more zs cut);
    }

pub block-long : (first : ℕ) (text : List ℕ) (n m : ℕ) (old mid new : Option (List ℕ)) (line : List ℕ) → IsBlock first text n old mid → TakesLine mid new true line → fits line ≡ true → m ≡ n + 1
    → bytes_eq line (codes ".") ≡ false → block_most ≤ length text + length line → Refuses (block_part [] first) (error.BadSetup m setup_error.BlockTooLong) old
unfolding block_part
block-long first text n m None mid new line h k fit e other long = tt
block-long first text n m (Some xs) None new line h k fit e other long = absurd h
block-long first text n m (Some xs) (Some ys) None line h k fit e other long = absurd k
block-long first text n m (Some xs) (Some ys) (Some zs) line h k fit e other long =
    let many : block_most < length (longer text line) = omega (arith, longer-length text line) in
    let none : fits_block (longer text line) ≡ false = grind (arith, common_steps) in
    (bad_setup (n + 1) setup_error.BlockTooLong, ap (λ (x : ℕ). error.BadSetup x setup_error.BlockTooLong) (sym e), so_far first text n xs ys h ∙ rw (k, fit, other, none) refl)

-- a line that ends with CR, so that no line follows
pub block-cut : (first : ℕ) (text : List ℕ) (n : ℕ) (old mid new : Option (List ℕ)) (line : List ℕ) → IsBlock first text n old mid → TakesLine mid new true line → fits line ≡ true
    → bytes_eq line (codes ".") ≡ false → length text + length line < block_most → ends_with_cr line ≡ true → Refuses (block_part [] first) error.NoEnd old
unfolding block_part
block-cut first text n None mid new line h k fit other short cr = tt
block-cut first text n (Some xs) None new line h k fit other short cr = absurd h
block-cut first text n (Some xs) (Some ys) None line h k fit other short cr = absurd k
block-cut first text n (Some xs) (Some ys) (Some zs) line h k fit other short cr =
    let few : length (longer text line) ≤ block_most = omega (arith, longer-length text line) in
    let room : fits_block (longer text line) ≡ true = grind (arith, common_steps) in
    let last : lines ys ≡ line ∷ [] = k ∙ ap (λ (x : List (List ℕ)). line ∷ x) (cr-is-last ys line (lines zs) k cr) in
    (no_end, refl, so_far first text n xs ys h ∙ rw (last, fit, other, room) refl)
