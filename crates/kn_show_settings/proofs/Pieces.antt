-- Texts that are added piece by piece.
use Rattle.std.proofs.Common.{◌≡◌, ℕ, List, [], ◌++◌, append_assoc, append-nil}

pub four_pieces : (start a b c d one two three four : List ℕ) → one ≡ start ++ a → two ≡ one ++ b → three ≡ two ++ c → four ≡ three ++ d
    → four ≡ start ++ (a ++ (b ++ (c ++ d)))
four_pieces start a b c d one two three four p q r s = rw (s, r, q, p) (simp append_assoc)

-- ---- lines one after the other, and none behind them

pub two_lines : (start a b one two : List ℕ) → one ≡ start ++ a → two ≡ one ++ b → two ≡ start ++ (a ++ (b ++ []))
two_lines start a b one two p q = rw (q, p) (simp (append_assoc, append-nil))

pub three_lines : (start a b c one two three : List ℕ) → one ≡ start ++ a → two ≡ one ++ b → three ≡ two ++ c → three ≡ start ++ (a ++ (b ++ (c ++ [])))
three_lines start a b c one two three p q r = rw (r, q, p) (simp (append_assoc, append-nil))

pub four_lines : (start a b c d one two three four : List ℕ) → one ≡ start ++ a → two ≡ one ++ b → three ≡ two ++ c → four ≡ three ++ d
    → four ≡ start ++ (a ++ (b ++ (c ++ (d ++ []))))
four_lines start a b c d one two three four p q r s = rw (s, r, q, p) (simp (append_assoc, append-nil))

pub five_lines : (start a b c d e one two three four five : List ℕ) → one ≡ start ++ a → two ≡ one ++ b → three ≡ two ++ c → four ≡ three ++ d
    → five ≡ four ++ e → five ≡ start ++ (a ++ (b ++ (c ++ (d ++ (e ++ [])))))
five_lines start a b c d e one two three four five p q r s t = rw (t, s, r, q, p) (simp (append_assoc, append-nil))

pub six_lines : (start a b c d e f one two three four five six : List ℕ) → one ≡ start ++ a → two ≡ one ++ b → three ≡ two ++ c → four ≡ three ++ d
    → five ≡ four ++ e → six ≡ five ++ f → six ≡ start ++ (a ++ (b ++ (c ++ (d ++ (e ++ (f ++ []))))))
six_lines start a b c d e f one two three four five six p q r s t u = rw (u, t, s, r, q, p) (simp (append_assoc, append-nil))
