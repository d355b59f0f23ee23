-- What is written piece by piece.
use Rattle.std.proofs.Common.{◌≡◌, ℕ, List, ◌++◌, append_assoc}

-- three pieces in a row
pub three_pieces : (start a b c one two three : List ℕ) → one ≡ start ++ a → two ≡ one ++ b → three ≡ two ++ c → three ≡ start ++ (a ++ b ++ c)
three_pieces start a b c one two three p q r = rw (r, q, p) (simp append_assoc)

-- and four
pub four_pieces : (start a b c d one two three four : List ℕ) → one ≡ start ++ a → two ≡ one ++ b → three ≡ two ++ c → four ≡ three ++ d
    → four ≡ start ++ (a ++ b ++ c ++ d)
four_pieces start a b c d one two three four p q r s = rw (s, r, q, p) (simp append_assoc)
