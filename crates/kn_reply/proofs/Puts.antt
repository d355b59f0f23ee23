-- Pieces that are written one after the other.
use Rattle.std.proofs.Common.{◌≡◌, ◌<◌, ◌+◌, ℕ, Bool, true, false, cond, Option, Result, Ok, Err, List, [], ◌∷◌, ◌++◌, length, take, drop, map, filter, get_or, not, ap, ap₂, sym, subst, ◌∙◌, refl, arith, add-one, append_assoc, append-nil, codes, length-append}
use Rattle.std.specs.Prelude.{OnErr, OnOk}
use Rattle.std.specs.List.{flat_map}
use Rattle.std.specs.Io.KnownBytes.{Appends}
use Rattle.std.proofs.KnownBytes.{Appends-trans}
use Rattle.std.proofs.lemmas.Bool.{cond-true, cond-false}
use Rattle.std.proofs.Math.Seq.{drop-cons, take-append-add}
use Rattle.std.proofs.lemmas.List.{take-append-drop, take-append-le, take_more}
use Rattle.std.proofs.lemmas.List.Concat.{flat_map-append}
use Rattle.httparse.specs.Spans.{header_bytes}
use Rattle.httparse.specs.declared.spans.HeaderSpan.{HeaderSpan}
use Rattle.kn_http.specs.Names.{is_among}
use Rattle.kn_io.specs.Prefix.{AppendsPrefix}
use Rattle.kn_reply.specs.Closing.{field_line, line_start, status_line, three_digits}
use Rattle.kn_reply.specs.Plain.{Puts, end_names, is_not_of_end, other_lines}

-- some first of the bytes are some first of longer ones
pub shorter : (a b : Option (List ℕ)) (xs ys : List ℕ) → AppendsPrefix a b xs → AppendsPrefix a b (xs ++ ys)
shorter a b xs ys p =
    (p.0, omega (arith, p.1, length-append xs ys), subst (Appends a b) (sym (take-append-le p.0 xs ys p.1)) p.2)

-- after what was written, some first of the bytes
pub stopped : (a b c : Option (List ℕ)) (xs ys : List ℕ) → Appends a b xs → AppendsPrefix b c ys → AppendsPrefix a c (xs ++ ys)
stopped a b c xs ys done p = (
  length xs + p.0,
  omega (arith, p.1, length-append xs ys),
  subst (Appends a c) (sym (take-append-add xs ys p.0)) (Appends-trans a b c xs (take p.0 ys) done p.2),
)

-- after what was written, some first of the piece that is next
pub stopped_in : (a b c : Option (List ℕ)) (all done left piece rest : List ℕ) → all ≡ done ++ left → left ≡ piece ++ rest → Appends a b done
    → AppendsPrefix b c piece → AppendsPrefix a c all
stopped_in a b c all done left piece rest whole parts before p =
    subst (AppendsPrefix a c) (sym (whole ∙ ap (λ l. done ++ l) parts))
    (stopped a b c done (piece ++ rest) before (shorter b c piece rest p))

-- after what was written, what a call writes
pub puts_after : {T E : Type 0} (a b c : Option (List ℕ)) (r : Result T E) (xs ys : List ℕ) → Appends a b xs → Puts b c r ys
    → Puts a c r (xs ++ ys)
puts_after a b c (Ok v) xs ys done p = Appends-trans a b c xs ys done p
puts_after a b c (Err e) xs ys done p = stopped a b c xs ys done p

pub puts_of : {T E : Type 0} (a b : Option (List ℕ)) (r : Result T E) (xs : List ℕ) → OnOk r (Appends a b xs)
    → OnErr r (AppendsPrefix a b xs) → Puts a b r xs
puts_of a b (Ok v) xs ok err = ok
puts_of a b (Err e) xs ok err = err

-- ---- pieces of a list

pub one_piece : {X : Type 0} (f : X → List ℕ) (xs : List X) (i : ℕ) (d : X) → i < length xs
    → flat_map f (take (i + 1) xs) ≡ flat_map f (take i xs) ++ f (get_or xs i d)
one_piece f xs i d within =
    ap (flat_map f) (take_more xs i d within)
    ∙ (flat_map-append f (take i xs) (get_or xs i d ∷ []) ∙ ap (λ l. flat_map f (take i xs) ++ l) (append-nil (f (get_or xs i d))))

pub pieces_from : {X : Type 0} (f : X → List ℕ) (xs : List X) (i : ℕ) (d : X) → i < length xs
    → flat_map f xs ≡ flat_map f (take i xs) ++ (f (get_or xs i d) ++ flat_map f (drop (i + 1) xs))
pieces_from f xs i d within =
    let cut : drop i xs ≡ get_or xs i d ∷ drop (i + 1) xs = rw add-one (drop-cons xs i d within) in
    ap (flat_map f) (sym (take-append-drop i xs))
    ∙ (flat_map-append f (take i xs) (drop i xs) ∙ ap (λ l. flat_map f (take i xs) ++ flat_map f l) cut)

-- ---- the fields that don't say how the body ends

abbrev pub line_of : List ℕ → HeaderSpan → List ℕ
line_of text span = cond (is_not_of_end (header_bytes text span)) (field_line (header_bytes text span)) []

one_line : (b : Bool) (f : List ℕ × List ℕ) (fs : List (List ℕ × List ℕ)) (rest : List ℕ) → flat_map field_line fs ≡ rest
    → flat_map field_line (cond b (f ∷ fs) fs) ≡ cond b (field_line f) [] ++ rest
one_line true f fs rest later = ap (λ l. field_line f ++ l) later
one_line false f fs rest later = later

pub lines_are : (text : List ℕ) (xs : List HeaderSpan) → other_lines (map (header_bytes text) xs) ≡ flat_map (line_of text) xs
unfolding other_lines
lines_are text [] = refl
lines_are text (x ∷ xs) =
    let f = header_bytes text x in
    one_line (is_not_of_end f) f (filter is_not_of_end (map (header_bytes text) xs)) (flat_map (line_of text) xs) (lines_are text xs)

-- ---- a first line and a field, in pieces

abbrev start_of : ℕ → List ℕ → List ℕ → List ℕ
start_of version digits reason =
    codes "HTTP/1." ++ ((48 + version) ∷ 32 ∷ [] ++ (digits ++ (32 ∷ [] ++ (reason ++ (13 ∷ 10 ∷ [])))))

pub start_is : (version code : ℕ) (digits reason : List ℕ) → digits ≡ three_digits code
    → start_of version digits reason ≡ status_line version (three_digits code) reason
unfolding status_line line_start
start_is version code digits reason same = ap (λ d. start_of version d reason) same

pub line_is : (name value : List ℕ) → name ++ (58 ∷ 32 ∷ (value ++ (13 ∷ 10 ∷ []))) ≡ field_line (name, value)
unfolding field_line
line_is name value =
    let crlf = 13 ∷ 10 ∷ [] in
    sym (append_assoc name (58 ∷ 32 ∷ []) (value ++ crlf)) ∙ sym (append_assoc (name ++ 58 ∷ 32 ∷ []) value crlf)

pub kept_line : (text : List ℕ) (x : HeaderSpan) (name value : List ℕ) → name ≡ (header_bytes text x).0 → value ≡ (header_bytes text x).1
    → is_among end_names name ≡ false → line_of text x ≡ name ++ (58 ∷ 32 ∷ (value ++ (13 ∷ 10 ∷ [])))
kept_line text x name value e f other =
    let field = header_bytes text x in
    cond-true (is_not_of_end field) (field_line field) [] (ap not (ap (is_among end_names) (sym e) ∙ other))
    ∙ (sym (line_is field.0 field.1) ∙ ap₂ (λ a b. a ++ (58 ∷ 32 ∷ (b ++ (13 ∷ 10 ∷ [])))) (sym e) (sym f))

pub dropped_line : (text : List ℕ) (x : HeaderSpan) (name : List ℕ) → name ≡ (header_bytes text x).0 → is_among end_names name ≡ true → line_of text x ≡ []
dropped_line text x name e here =
    let field = header_bytes text x in
    cond-false (is_not_of_end field) (field_line field) [] (ap not (ap (is_among end_names) (sym e) ∙ here))
