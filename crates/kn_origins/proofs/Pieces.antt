-- Texts that are added piece by piece.
use Rattle.std.proofs.Common.{◌≡◌, ℕ, List, ◌++◌, append_assoc}

pub three_pieces : (start a b c one two three : List ℕ) → one ≡ start ++ a → two ≡ one ++ b → three ≡ two ++ c → three ≡ start ++ (a ++ (b ++ c))
three_pieces start a b c one two three p q r = rw (r, q, p) (simp append_assoc)

-- a setting's line: its name with a space, its value, and a space with where it comes from and an LF
pub line_pieces : (start name space value end one two three : List ℕ) → one ≡ start ++ (name ++ space) → two ≡ one ++ value → three ≡ two ++ end
    → three ≡ start ++ (name ++ (space ++ (value ++ end)))
line_pieces start name space value end one two three p q r = rw (r, q, p) (simp append_assoc)
