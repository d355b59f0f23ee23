-- The bytes of the lines that were taken.
use Rattle.std.proofs.Common.{◌≡◌, ◌+◌, ℕ, Bool, true, false, List, [], ◌∷◌, ◌++◌, take, drop, append_assoc, append-nil, refl, sym, ap, ◌∙◌, subst, inl, inr}
use Rattle.std.specs.Prelude.{Option, None, Some, Result, OnOk, Ok, Err}
use Rattle.std.specs.Io.KnownBytes.{prepend_known}
use Rattle.std.proofs.lemmas.List.{append_cancel_right}
use Rattle.kn_journal.specs.Lines.{lines}
use Rattle.kn_journal.specs.Reading.{AreWhole, EndsWithLf, IsCutOff, TakesByte, TakesPart, TakesText}
use Rattle.kn_journal.proofs.LineTexts.{lines-append}
use Rattle.kn_journal.proofs.Tellings.{lines-nil}

-- ---- what was taken

-- bytes up to an LF
pub text-lf : (a b c : Option (List ℕ)) → TakesPart a b → TakesByte b c (Some 10) → TakesText false a c
text-lf None b c h k = tt
text-lf (Some xs) None c h k = absurd h
text-lf (Some xs) (Some ys) None h k = absurd k
text-lf (Some xs) (Some ys) (Some zs) h k =
    (h.0 ++ 10 ∷ [], h.1 ∙ ap (λ (m : List ℕ). h.0 ++ m) k ∙ sym (append_assoc h.0 (10 ∷ []) zs), (h.0, refl))

-- bytes up to the end of the input
pub text-end : (a b c : Option (List ℕ)) → TakesPart a b → TakesByte b c None → TakesText true a c
text-end None b c h k = tt
text-end (Some xs) None c h k = absurd h
text-end (Some xs) (Some ys) None h k = absurd k
text-end (Some xs) (Some ys) (Some zs) h k = (h.0, h.1 ∙ ap (λ (m : List ℕ). h.0 ++ m) (k.0 ∙ sym k.1), k.1)

-- a line that lies ahead
pub text-ahead : (len : ℕ) (ahead : List ℕ) (left : Option (List ℕ)) → ahead ≡ take len ahead ++ 10 ∷ drop (len + 1) ahead
    → TakesText false (prepend_known ahead left) (prepend_known (drop (len + 1) ahead) left)
text-ahead len ahead None h = tt
text-ahead len ahead (Some ys) h =
    let line = take len ahead in
    let more = drop (len + 1) ahead in (
      line ++ 10 ∷ [],
      ap (λ (m : List ℕ). m ++ ys) h ∙ append_assoc line (10 ∷ more) ys ∙ sym (append_assoc line (10 ∷ []) (more ++ ys)),
      (line, refl),
    )

pub ends-behind : (text more : List ℕ) → EndsWithLf more → EndsWithLf (text ++ more)
ends-behind text more (front, is) = (text ++ front, ap (λ (m : List ℕ). text ++ m) is ∙ sym (append_assoc text front (10 ∷ [])))

pub cut-behind : (c : Bool) (text more left : List ℕ) → IsCutOff c more left → IsCutOff c (text ++ more) left
cut-behind true text more left h = h
cut-behind false text more left h = ends-behind text more h

pub split-behind : (xs text ys more zs : List ℕ) → xs ≡ text ++ ys → ys ≡ more ++ zs → xs ≡ (text ++ more) ++ zs
split-behind xs text ys more zs h k = h ∙ ap (λ (m : List ℕ). text ++ m) k ∙ sym (append_assoc text more zs)

-- some lines, and then others
pub text-more : (c d : Bool) (x y z : Option (List ℕ)) → TakesText c x y → TakesText d y z → TakesText d x z
text-more c d None y z h k = tt
text-more c d (Some xs) None z h k = absurd h
text-more c d (Some xs) (Some ys) None h k = absurd k
text-more c d (Some xs) (Some ys) (Some zs) (text, split, cut) (more, behind, last) =
    (text ++ more, split-behind xs text ys more zs split behind, cut-behind d text more zs last)

-- what holds anyway
pub on_ok-any : {T E : Type 0} {P : Type 0} (r : Result T E) → P → OnOk r P
on_ok-any (Ok x) h = h
on_ok-any (Err e) h = tt

-- ---- whole lines

pub whole-cut : (c : Bool) (text ys : List ℕ) → IsCutOff c text ys → AreWhole text ys
whole-cut true text ys h = inr (inr h)
whole-cut false text ys h = inr (inl h)

none-before : (more left : List ℕ) → [] ≡ more ++ left → more ≡ []
none-before [] left h = refl
none-before (b ∷ bs) left h = cc

none-behind : (more left : List ℕ) → [] ≡ more ++ left → left ≡ []
none-behind [] left h = sym h
none-behind (b ∷ bs) left h = cc

pub ends-still : (text more : List ℕ) → EndsWithLf text → more ≡ [] → EndsWithLf (text ++ more)
ends-still text more h none = subst EndsWithLf (sym (append-nil text) ∙ ap (λ (m : List ℕ). text ++ m) (sym none)) h

-- whole lines, and then others
pub whole-more : (text ys more left : List ℕ) → AreWhole text ys → ys ≡ more ++ left → AreWhole more left → AreWhole (text ++ more) left
whole-more text ys more left (inl none) split h = subst (λ (m : List ℕ). AreWhole (m ++ more) left) (sym none) h
whole-more text ys more left (inr (inl ends)) split (inl none) = inr (inl (ends-still text more ends none))
whole-more text ys more left (inr (inl ends)) split (inr (inl more_ends)) = inr (inl (ends-behind text more more_ends))
whole-more text ys more left (inr (inl ends)) split (inr (inr none)) = inr (inr none)
whole-more text ys more left (inr (inr none)) split h = inr (inr (none-behind more left (sym none ∙ split)))

pub lines-ended : (text more : List ℕ) → EndsWithLf text → lines (text ++ more) ≡ lines text ++ lines more
lines-ended text more (front, is) =
    ap (λ (m : List ℕ). lines (m ++ more)) is ∙ lines-append front more ∙ ap (λ (m : List ℕ). lines m ++ lines more) (sym is)

lines-none : (text more : List ℕ) → more ≡ [] → lines (text ++ more) ≡ lines text ++ lines more
lines-none text more none =
    ap (λ (m : List ℕ). lines (text ++ m)) none ∙ ap lines (append-nil text) ∙ sym (append-nil (lines text))
    ∙ ap (λ (m : List (List ℕ)). lines text ++ m) (sym lines-nil) ∙ ap (λ (m : List ℕ). lines text ++ lines m) (sym none)

-- their lines, and then those of what follows them
pub lines-behind : (text ys more left : List ℕ) → AreWhole text ys → ys ≡ more ++ left → lines (text ++ more) ≡ lines text ++ lines more
lines-behind text ys more left (inl none) split =
    ap (λ (m : List ℕ). lines (m ++ more)) none ∙ ap (λ (m : List (List ℕ)). m ++ lines more) (sym lines-nil) ∙ ap (λ (m : List ℕ). lines m ++ lines more) (sym none)
lines-behind text ys more left (inr (inl ends)) split = lines-ended text more ends
lines-behind text ys more left (inr (inr none)) split = lines-none text more (none-before more left (sym none ∙ split))

-- the lines that were taken are those of the text
pub lines-own : (xs text ys : List ℕ) (own : List (List ℕ)) → xs ≡ text ++ ys → AreWhole text ys → lines xs ≡ own ++ lines ys → lines text ≡ own
lines-own xs text ys own split whole taken =
    append_cancel_right (lines text) own (lines ys) (sym (lines-behind text ys ys [] whole (sym (append-nil ys))) ∙ ap lines (sym split) ∙ taken)
