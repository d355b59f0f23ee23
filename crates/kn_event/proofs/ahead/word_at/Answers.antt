-- Eight bytes are the word that they write.
use Rattle.std.proofs.Common.{◌≡◌, ◌+◌, ◌-◌, ◌<◌, ◌∙◌, ℕ, zero, suc, List, [], ◌∷◌, drop, get_or, length, take, arith}
use Rattle.std.specs.Int.{w64, from_le_bytes, to_le_bytes}
use Rattle.std.proofs.lemmas.Nat.{le_bytes_8}
use Rattle.core.specs.Dec2flt.Digits.{IsEightBytes}
use Rattle.core.specs.Int.Digits.{AllBelowBase}
use Rattle.core.specs.Slice.Scan.{little_endian}
use Rattle.core.proofs.dec2flt.Eight.{eight_at, word_at}
use lib.Lanes.{number_l}
use Rattle.kn_event.proofs.ahead.word_at.Goals as goal

fit : (xs : List ℕ) → AllBelowBase 256 xs → (k : ℕ) → get_or xs k 0 < 256
fit [] h k = omega arith
fit (x ∷ xs) h zero = h.0
fit (x ∷ xs) h (suc k) = fit xs h.1 k

read_8 : (xs : List ℕ) → length xs ≡ 8 → number_l 256 xs ≡ from_le_bytes w64 xs
read_8 [] l = absurd (omega arith)
read_8 (a ∷ []) l = absurd (omega arith)
read_8 (a ∷ b ∷ []) l = absurd (omega arith)
read_8 (a ∷ b ∷ c ∷ []) l = absurd (omega arith)
read_8 (a ∷ b ∷ c ∷ d ∷ []) l = absurd (omega arith)
read_8 (a ∷ b ∷ c ∷ d ∷ e ∷ []) l = absurd (omega arith)
read_8 (a ∷ b ∷ c ∷ d ∷ e ∷ f ∷ []) l = absurd (omega arith)
read_8 (a ∷ b ∷ c ∷ d ∷ e ∷ f ∷ g ∷ []) l = absurd (omega arith)
read_8 (a ∷ b ∷ c ∷ d ∷ e ∷ f ∷ g ∷ h ∷ []) l = omega arith
read_8 (a ∷ b ∷ c ∷ d ∷ e ∷ f ∷ g ∷ h ∷ x ∷ xs) l = absurd (omega arith)

written_8 : (xs : List ℕ) (n : ℕ) → IsEightBytes xs → n ≡ number_l 256 xs → to_le_bytes w64 n ≡ xs
written_8 xs n eight is = le_bytes_8 xs n eight.0 (fit xs eight.1) (is ∙ read_8 xs eight.0)

pub returns-clause-bytes : goal.returns-clause-bytes
returns-clause-bytes c =
    let s = c.args.s.now in
    let i = c.args.i in
    let eight = eight_at s i (λ k. (c.type_inv.s k).fits) (omega arith) in
    let word : c.from_le_bytes.result ≡ little_endian s i = omega (arith, c.from_le_bytes.ensures) in
    let count : i + 8 - i ≡ 8 = omega arith in
    rw count (written_8 (take 8 (drop i s)) c.from_le_bytes.result eight (word ∙ word_at s i (omega arith)))
