-- A part that stopped at a fault.
use Rattle.std.proofs.Common.{◌≡◌, ◌+◌, ℕ, Bool, true, false, List, [], ◌∷◌, ◌++◌, length, refl, ap, ◌∙◌, inl}
use Rattle.std.specs.Prelude.{Option, None, Some, Result, Ok, Err, codes}
use Rattle.std.specs.Str.{bytes_eq}
use Rattle.kn_journal.specs.Causes.{Cause, no_end}
use Rattle.kn_journal.specs.Lines.{fits, lines}
use Rattle.kn_journal.specs.Parts.{Part, part, then_part, with_line}
use Rattle.kn_journal.specs.Reading.{TakesLine, TakesPart, TakesText}
use Rattle.kn_journal.specs.Telling.{AmidNext, Gives, StopsAmid, TakesEnd}
use Rattle.kn_journal.proofs.Consumed.{Takes, same_bytes, with_line-fits}
use Rattle.kn_journal.proofs.Tellings.{lines-nil}
use Rattle.kn_journal.proofs.Texts.{lines-behind, lines-own, split-behind, whole-cut, whole-more}

-- no whole line was taken
pub part-stops : {T : Type 0} (read : List (List ℕ) → Result (Part T) Cause) (old new : Option (List ℕ)) → read [] ≡ Err no_end → TakesPart old new → StopsAmid read old new
part-stops read None new e h = tt
part-stops read (Some xs) None e h = absurd h
part-stops read (Some xs) (Some ys) e h = ([], xs, refl, inl refl, ap read lines-nil ∙ e, h)

-- one line was taken, and then the rest stopped
pub line-stops : {T : Type 0} (n : ℕ) (c : Bool) (old mid new : Option (List ℕ)) (line : List ℕ) (next : ℕ → List ℕ → List (List ℕ) → Result (Part T) Cause) → TakesLine old mid true line
    → TakesText c old mid → fits line ≡ true → StopsAmid (next (n + 1) line) mid new → StopsAmid (λ ls. with_line n ls next) old new
line-stops n c None mid new line next h t fit k = tt
line-stops n c (Some xs) None new line next h t fit k = absurd h
line-stops n c (Some xs) (Some ys) None line next h t fit k = absurd k
line-stops n c (Some xs) (Some ys) (Some zs) line next h (text, is, cut) fit (more, bytes, split, whole, none, rest) =
    let ended = whole-cut c text ys cut in
    let all : lines (text ++ more) ≡ line ∷ lines more =
    lines-behind text ys more bytes ended split ∙ ap (λ (x : List (List ℕ)). x ++ lines more) (lines-own xs text ys (line ∷ []) is ended h) in (
      text ++ more,
      bytes,
      split-behind xs text ys more bytes is split,
      whole-more text ys more bytes ended split whole,
      ap (λ (x : List (List ℕ)). with_line n x next) all ∙ with_line-fits n line (lines more) next fit ∙ none,
      rest,
    )

-- of two parts the first one stopped
pub first-stops : {S T : Type 0} (first : List (List ℕ) → Result (Part S) Cause) (second : S → ℕ → List (List ℕ) → Result (Part T) Cause) (old new : Option (List ℕ))
    → StopsAmid first old new → StopsAmid (λ ls. then_part (first ls) second) old new
first-stops first second None new h = tt
first-stops first second (Some xs) None h = absurd h
first-stops first second (Some xs) (Some ys) (text, bytes, split, whole, none, rest) = (text, bytes, split, whole, rw none refl, rest)

-- each part that is read after line n takes lines of its own, up to the line whose number it has
abbrev pub HasOwn : {T : Type 0} → ℕ → (List (List ℕ) → Result (Part T) Cause) → Type 0
HasOwn {T} n read = (ls : List (List ℕ)) (p : Part T) → read ls ≡ Ok p → (own : List (List ℕ)) × (n + length own ≡ p.number) × Takes read ls p own

-- the first one was read, and the second one stopped
pub second-stops : {S T : Type 0} (first : List (List ℕ) → Result (Part S) Cause) (second : S → ℕ → List (List ℕ) → Result (Part T) Cause) (x : S) (n m : ℕ) (c : Bool) (old mid new : Option (List ℕ))
    → HasOwn n first → Gives first x m old mid → TakesText c old mid → StopsAmid (second x m) mid new → StopsAmid (λ ls. then_part (first ls) second) old new
second-stops first second x n m c None mid new takes g t h = tt
second-stops first second x n m c (Some xs) None new takes g t h = absurd g
second-stops first second x n m c (Some xs) (Some ys) None takes g t h = absurd h
second-stops first second x n m c (Some xs) (Some ys) (Some zs) takes g (text, is, cut) (more, bytes, split, whole, none, rest) =
    let found = takes (lines xs) (part x m (lines ys)) g in
    let own = found.0 in
    let taken = found.2 in
    let ended = whole-cut c text ys cut in
    let all : lines (text ++ more) ≡ own ++ lines more =
    lines-behind text ys more bytes ended split ∙ ap (λ (y : List (List ℕ)). y ++ lines more) (lines-own xs text ys own is ended taken.split) in (
      text ++ more,
      bytes,
      split-behind xs text ys more bytes is split,
      whole-more text ys more bytes ended split whole,
      ap (λ (y : List (List ℕ)). then_part (first y) second) all ∙ rw (taken.alone (lines more)) none,
      rest,
    )

-- the line `end` was taken
pub end-stops : (old mid new : Option (List ℕ)) (line : List ℕ) → TakesLine old mid true line → TakesText false old mid → bytes_eq line (codes "end") ≡ true → TakesPart mid new → TakesEnd old new
end-stops None mid new line h t e k = tt
end-stops (Some xs) None new line h t e k = absurd h
end-stops (Some xs) (Some ys) None line h t e k = absurd k
end-stops (Some xs) (Some ys) (Some zs) line h (text, is, ends) e k =
    let own : lines text ≡ line ∷ [] = lines-own xs text ys (line ∷ []) is (whole-cut false text ys ends) h in
    (text, ys, is, ends, own ∙ ap (λ (x : List ℕ). x ∷ []) (same_bytes line (codes "end") e), k)

-- some first bytes of a line were taken
pub amid_next : (bundle : Bool) (old new : Option (List ℕ)) → TakesPart old new → AmidNext bundle old new
amid_next true old new part = part
amid_next false old new part = inl part
