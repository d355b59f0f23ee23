-- Pieces in a row.
use Rattle.std.proofs.Common.{◌≡◌, ℕ, List, [], ◌∷◌, ◌++◌, append-nil, append_assoc, sym}

pub nothing : (text : List ℕ) → text ≡ text ++ []
nothing text = sym (append-nil text)

pub six_pieces : (start a b c d e f one two three four five six : List ℕ) → one ≡ start ++ a → two ≡ one ++ b → three ≡ two ++ c → four ≡ three ++ d → five ≡ four ++ e → six ≡ five ++ f
    → six ≡ start ++ (a ++ b ++ c ++ d ++ e ++ f)
six_pieces start a b c d e f one two three four five six p q r s t u = rw (u, t, s, r, q, p) (simp append_assoc)

-- the first line of an answer, in pieces
pub line_pieces : (start a digits phrase e one two three four five status : List ℕ) → one ≡ start ++ a → two ≡ one ++ digits → three ≡ two ++ 32 ∷ []
    → four ≡ three ++ phrase → five ≡ four ++ e → digits ++ (32 ∷ phrase) ≡ status → five ≡ start ++ (a ++ status ++ e)
line_pieces start a digits phrase e one two three four five status p q r s t u = rw (t, s, r, q, p, ← u) (simp append_assoc)
