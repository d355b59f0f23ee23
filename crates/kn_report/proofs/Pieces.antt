-- What is written piece by piece.
use Rattle.std.proofs.Common.{◌≡◌, ◌≤◌, ◌<◌, ◌+◌, ℕ, List, [], ◌∷◌, ◌++◌, length, length-append, take, drop, get_or, append_assoc, append-nil, sym, ap, ◌∙◌, subst, arith}
use Rattle.std.specs.Prelude.{Option}
use Rattle.std.specs.Io.KnownBytes.{Appends}
use Rattle.std.specs.List.{flat_map}
use Rattle.std.proofs.KnownBytes.{Appends-trans}
use Rattle.std.proofs.lemmas.List.{take_more, take-append-le, take-append-drop}
use Rattle.std.proofs.Math.Seq.{take-append-add}
use Rattle.std.proofs.lemmas.List.Concat.{flat_map-append}
use Rattle.kn_event.specs.declared.entry.Entry.{Entry}
use Rattle.kn_event.specs.EntryLine.{entry_text}
use Rattle.kn_io.specs.Prefix.{AppendsPrefix}
use Rattle.kn_trace.specs.Report.{rows_text}
use Rattle.kn_report.specs.Waiting.{own_row, own_rows}

-- three pieces in a row
pub three_pieces : (start a b c one two three : List ℕ) → one ≡ start ++ a → two ≡ one ++ b → three ≡ two ++ c → three ≡ start ++ (a ++ b ++ c)
three_pieces start a b c one two three p q r = rw (r, q, p) (simp append_assoc)

-- and four
pub four_pieces : (start a b c d one two three four : List ℕ) → one ≡ start ++ a → two ≡ one ++ b → three ≡ two ++ c → four ≡ three ++ d
    → four ≡ start ++ (a ++ b ++ c ++ d)
four_pieces start a b c d one two three four p q r s = rw (s, r, q, p) (simp append_assoc)

first_of_more : (n : ℕ) (x y rest : List ℕ) → n ≤ length y → take (length x + n) (x ++ (y ++ rest)) ≡ x ++ take n y
first_of_more n x y rest h = take-append-add x (y ++ rest) n ∙ ap (λ (z : List ℕ). x ++ z) (take-append-le n y rest h)

-- all of a first piece was written, and some of a second one: some of both and of what follows
pub prefix_after : (a b c : Option (List ℕ)) (x y rest : List ℕ) → Appends a b x → AppendsPrefix b c y → AppendsPrefix a c (x ++ (y ++ rest))
prefix_after a b c x y rest h (n, few, k) =
    (length x + n, simp (length-append) (omega (arith, few)), rw (first_of_more n x y rest few) (Appends-trans a b c x (take n y) h k))

-- .. where nothing follows
pub prefix_last : (a b c : Option (List ℕ)) (x y : List ℕ) → Appends a b x → AppendsPrefix b c y → AppendsPrefix a c (x ++ y)
prefix_last a b c x y h k = subst (λ (z : List ℕ). AppendsPrefix a c (x ++ z)) (append-nil y) (prefix_after a b c x y [] h k)

-- some of a piece is some of it and of what follows
pub prefix_more : (a b : Option (List ℕ)) (x rest : List ℕ) → AppendsPrefix a b x → AppendsPrefix a b (x ++ rest)
prefix_more a b x rest (n, few, k) = (n, simp (length-append) (omega (arith, few)), rw (take-append-le n x rest few) k)

-- ---- rows

-- the texts of the entries up to one, and the text of that one
texts_more : (text : Entry → List ℕ) (xs : List Entry) (i : ℕ) (d : Entry) → i < length xs
    → flat_map text (take (i + 1) xs) ≡ flat_map text (take i xs) ++ text (get_or xs i d)
texts_more text xs i d h =
    rw (take_more xs i d h) (flat_map-append text (take i xs) (get_or xs i d ∷ []) ∙ ap (λ (m : List ℕ). flat_map text (take i xs) ++ m) (append-nil (text (get_or xs i d))))

-- and the others behind it
texts_around : (text : Entry → List ℕ) (xs : List Entry) (i : ℕ) (d : Entry) → i < length xs
    → flat_map text xs ≡ flat_map text (take i xs) ++ (text (get_or xs i d) ++ flat_map text (drop (i + 1) xs))
texts_around text xs i d h =
    ap (flat_map text) (sym (take-append-drop (i + 1) xs)) ∙ flat_map-append text (take (i + 1) xs) (drop (i + 1) xs)
    ∙ ap (λ (m : List ℕ). m ++ flat_map text (drop (i + 1) xs)) (texts_more text xs i d h)
    ∙ append_assoc (flat_map text (take i xs)) (text (get_or xs i d)) (flat_map text (drop (i + 1) xs))

pub rows_more : (xs : List Entry) (i : ℕ) (d : Entry) → i < length xs → rows_text (take (i + 1) xs) ≡ rows_text (take i xs) ++ entry_text (get_or xs i d)
unfolding rows_text
rows_more = texts_more entry_text

-- the rows up to one, its row, and the others
pub rows_around : (xs : List Entry) (i : ℕ) (d : Entry) → i < length xs
    → rows_text xs ≡ rows_text (take i xs) ++ (entry_text (get_or xs i d) ++ rows_text (drop (i + 1) xs))
unfolding rows_text
rows_around = texts_around entry_text

pub own_rows_more : (k : ℕ) (xs : List Entry) (i : ℕ) (d : Entry) → i < length xs
    → own_rows k (take (i + 1) xs) ≡ own_rows k (take i xs) ++ own_row k (get_or xs i d)
unfolding own_rows
own_rows_more k = texts_more (own_row k)

pub own_rows_around : (k : ℕ) (xs : List Entry) (i : ℕ) (d : Entry) → i < length xs
    → own_rows k xs ≡ own_rows k (take i xs) ++ (own_row k (get_or xs i d) ++ own_rows k (drop (i + 1) xs))
unfolding own_rows
own_rows_around k = texts_around (own_row k)
