-- Pieces in a row make one text.
use Rattle.std.proofs.Common.{◌≡◌, ℕ, List, ◌++◌, append_assoc}

pub three_pieces : (start a b c one two three : List ℕ) → one ≡ start ++ a → two ≡ one ++ b → three ≡ two ++ c → three ≡ start ++ (a ++ b ++ c)
three_pieces start a b c one two three p q r = rw (r, q, p) (simp append_assoc)

pub four_pieces : (start a b c d one two three four : List ℕ) → one ≡ start ++ a → two ≡ one ++ b → three ≡ two ++ c → four ≡ three ++ d
    → four ≡ start ++ (a ++ b ++ c ++ d)
four_pieces start a b c d one two three four p q r s = rw (s, r, q, p) (simp append_assoc)

-- five behind nothing
pub five_pieces : (a b c d e one two three four five : List ℕ) → one ≡ a → two ≡ one ++ b → three ≡ two ++ c → four ≡ three ++ d → five ≡ four ++ e
    → five ≡ a ++ b ++ c ++ d ++ e
five_pieces a b c d e one two three four five p q r s t = rw (t, s, r, q, p) (simp append_assoc)

pub two_pieces : (start a b one two : List ℕ) → one ≡ start ++ a → two ≡ one ++ b → two ≡ start ++ (a ++ b)
two_pieces start a b one two p q = rw (q, p) (simp append_assoc)

pub five_from : (start a b c d e one two three four five : List ℕ) → one ≡ start ++ a → two ≡ one ++ b → three ≡ two ++ c → four ≡ three ++ d → five ≡ four ++ e
    → five ≡ start ++ (a ++ b ++ c ++ d ++ e)
five_from start a b c d e one two three four five p q r s t = rw (t, s, r, q, p) (simp append_assoc)
