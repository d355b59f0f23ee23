-- The bytes that wait, and those that are left behind them.
use Rattle.std.proofs.Common.{◌≡◌, ℕ, ◌+◌, ◌≤◌, List, ◌++◌, length, take, Option, None, Some, IfSome, sym, ◌∙◌, ap, append_assoc}
use Rattle.std.proofs.lemmas.List.{take-append-le, length-take-le}
use Rattle.std.proofs.Math.Seq.{take-append-add}
use Rattle.std.specs.Io.KnownBytes.{Consumes, Keeps}
use Rattle.kn_head.specs.Told.{unread}
use borrow.Rule.Slice.PartMut.{put_mid, post_of}

-- a piece that is read behind what waits
filled : (buffer piece : List ℕ) (a k n : ℕ) → a ≤ length buffer → n ≤ length piece
    → take (a + n) (put_mid a k buffer piece) ≡ take a buffer ++ take n piece
filled buffer piece a k n within fits =
    let len : length (take a buffer) ≡ a = length-take-le a buffer within in
    ap (λ m. take (m + n) (put_mid a k buffer piece)) (sym len)
    ∙ (take-append-add (take a buffer) (piece ++ post_of a k buffer) n
    ∙ ap (λ r. take a buffer ++ r) (take-append-le n piece (post_of a k buffer) fits))

pub fill_keeps : (old new : Option (List ℕ)) (waiting buffer piece : List ℕ) (a k n : ℕ) → a ≤ length buffer → n ≤ length piece
    → take a buffer ≡ waiting → Consumes old new (take n piece)
    → Keeps (unread waiting old) (unread (take (a + n) (put_mid a k buffer piece)) new)
fill_keeps None new waiting buffer piece a k n within fits same moved = tt
fill_keeps (Some xs) None waiting buffer piece a k n within fits same moved = absurd moved
fill_keeps (Some xs) (Some ys) waiting buffer piece a k n within fits same moved =
    ap (λ l. l ++ ys) (filled buffer piece a k n within fits ∙ ap (λ l. l ++ take n piece) same)
    ∙ (append_assoc waiting (take n piece) ys ∙ ap (λ l. waiting ++ l) (sym moved))

-- what holds of the bytes that wait with any bytes behind them holds of all that is unread
pub of_unread : (waiting : List ℕ) (left : Option (List ℕ)) (P : List ℕ → Type 0) → ((more : List ℕ) → P (waiting ++ more))
    → IfSome (unread waiting left) P
of_unread waiting None P h = tt
of_unread waiting (Some xs) P h = h xs
