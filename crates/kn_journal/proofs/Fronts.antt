-- The first line of an input, of which some bytes were taken.
use Rattle.std.proofs.Common.{◌≡◌, ◌≢◌, ◌<◌, ◌+◌, ℕ, zero, suc, Bool, true, false, List, [], ◌∷◌, ◌++◌, length, replicate, length-append, append_assoc, append-nil, refl, sym, ap, ◌∙◌, subst, arith, not, inl, inr}
use Rattle.std.specs.Prelude.{Option, None, Some, ◌==◌, ⊤, Contains, slice_index_or}
use Rattle.std.proofs.lemmas.List.{replicate_more, length-replicate}
use Rattle.std.proofs.lemmas.List.Elements.{Contains-push_cases}
use Rattle.std.specs.Io.KnownBytes.{Keeps}
use Rattle.kn_journal.specs.Lines.{begins_with_lf, without_crs, onto_first, lines_at_lf, lines}
use Rattle.kn_journal.specs.Reading.{TakesByte, TakesLine, TakesPart, HasLongLine, Counts}

-- these bytes before the first line
unfoldable pub front : List ℕ → List (List ℕ) → List (List ℕ)
front [] ls = ls
front (b ∷ bs) ls = onto_first b (front bs ls)

-- of the first line these bytes were taken, and after them CRs that are content only if no LF follows
pub record IsWithinLine (xs acc : List ℕ) (crs : ℕ) (ys : List ℕ) : Type 0 where
  pub whole : xs ≡ acc ++ (replicate crs 13 ++ ys)
  pub lines : lines xs ≡ front acc (lines (replicate crs 13 ++ ys))

abbrev pub TakesFront : Option (List ℕ) → Option (List ℕ) → List ℕ → ℕ → Type 0
TakesFront None new acc crs = ⊤
TakesFront (Some xs) None acc crs = ⊥
TakesFront (Some xs) (Some ys) acc crs = IsWithinLine xs acc crs ys

front-nil : (acc : List ℕ) (ls : List (List ℕ)) → front acc ([] ∷ ls) ≡ acc ∷ ls
unfolding front
front-nil [] ls = refl
front-nil (b ∷ bs) ls = rw (front-nil bs ls) refl

front-line : (acc l : List ℕ) (ls : List (List ℕ)) → front acc (l ∷ ls) ≡ (acc ++ l) ∷ ls
unfolding front
front-line [] l ls = refl
front-line (b ∷ bs) l ls = rw (front-line bs l ls) refl

front-append : (xs ys : List ℕ) (ls : List (List ℕ)) → front (xs ++ ys) ls ≡ front xs (front ys ls)
unfolding front
front-append [] ys ls = refl
front-append (x ∷ xs) ys ls = ap (onto_first x) (front-append xs ys ls)

front-last : (x : ℕ) (acc : List ℕ) → front (x ∷ acc) [] ≡ (x ∷ acc) ∷ []
unfolding front
front-last x [] = refl
front-last x (y ∷ acc) = ap (onto_first x) (front-last y acc)

-- CRs, by what follows them

begins_with_lf-crs : (n b : ℕ) (bs : List ℕ) → (b == 10) ≡ false → begins_with_lf (replicate n 13 ++ b ∷ bs) ≡ false
begins_with_lf-crs zero b bs h = h
begins_with_lf-crs (suc n) b bs h = refl

begins_with_lf-only_crs : (n : ℕ) → begins_with_lf (replicate n 13) ≡ false
begins_with_lf-only_crs zero = refl
begins_with_lf-only_crs (suc n) = refl

pub without_crs-lf : (n : ℕ) (zs : List ℕ) → without_crs (replicate n 13 ++ 10 ∷ zs) ≡ 10 ∷ without_crs zs
unfolding without_crs
without_crs-lf zero zs = refl
without_crs-lf (suc n) zs = rw (without_crs-lf n zs) refl

without_crs-byte : (n b : ℕ) (zs : List ℕ) → (b == 10) ≡ false → (b == 13) ≡ false → without_crs (replicate n 13 ++ b ∷ zs) ≡ replicate n 13 ++ b ∷ without_crs zs
unfolding without_crs
without_crs-byte zero b zs not_lf not_cr = rw not_cr refl
without_crs-byte (suc n) b zs not_lf not_cr =
    rw (without_crs-byte n b zs not_lf not_cr) (rw (begins_with_lf-crs n b (without_crs zs) not_lf) refl)

without_crs-end : (n : ℕ) → without_crs (replicate n 13 ++ []) ≡ replicate n 13
unfolding without_crs
without_crs-end zero = refl
without_crs-end (suc n) = rw (without_crs-end n) (rw (begins_with_lf-only_crs n) refl)

lines_at_lf-crs : (n : ℕ) (bs : List ℕ) → lines_at_lf (replicate n 13 ++ bs) ≡ front (replicate n 13) (lines_at_lf bs)
unfolding lines_at_lf front
lines_at_lf-crs zero bs = refl
lines_at_lf-crs (suc n) bs = ap (onto_first 13) (lines_at_lf-crs n bs)

lines_at_lf-byte : (b : ℕ) (bs : List ℕ) → (b == 10) ≡ false → lines_at_lf (b ∷ bs) ≡ front (b ∷ []) (lines_at_lf bs)
unfolding lines_at_lf front
lines_at_lf-byte b bs not_lf = rw not_lf refl

lines-lf : (n : ℕ) (zs : List ℕ) → lines (replicate n 13 ++ 10 ∷ zs) ≡ [] ∷ lines zs
unfolding lines lines_at_lf
lines-lf n zs = ap lines_at_lf (without_crs-lf n zs)

lines-byte : (n b : ℕ) (zs : List ℕ) → (b == 10) ≡ false → (b == 13) ≡ false → lines (replicate n 13 ++ b ∷ zs) ≡ front (replicate n 13 ++ b ∷ []) (lines zs)
unfolding lines
lines-byte n b zs not_lf not_cr =
    ap lines_at_lf (without_crs-byte n b zs not_lf not_cr)
    ∙ lines_at_lf-crs n (b ∷ without_crs zs)
    ∙ ap (front (replicate n 13)) (lines_at_lf-byte b (without_crs zs) not_lf)
    ∙ sym (front-append (replicate n 13) (b ∷ []) (lines_at_lf (without_crs zs)))

lines-end : (n : ℕ) → lines (replicate n 13 ++ []) ≡ front (replicate n 13) []
unfolding lines lines_at_lf
lines-end n =
    ap lines_at_lf (without_crs-end n ∙ sym (append-nil (replicate n 13))) ∙ lines_at_lf-crs n []

-- one more byte of the line

crs-more : (n : ℕ) (zs : List ℕ) → replicate n 13 ++ 13 ∷ zs ≡ replicate (n + 1) 13 ++ zs
crs-more n zs = sym (append_assoc (replicate n 13) (13 ∷ []) zs) ∙ ap (λ (m : List ℕ). m ++ zs) (replicate_more n 13)

within_cr : (xs acc : List ℕ) (n : ℕ) (ys zs : List ℕ) → IsWithinLine xs acc n ys → ys ≡ 13 ∷ zs → IsWithinLine xs acc (n + 1) zs
within_cr xs acc n ys zs h e =
    let rest : replicate n 13 ++ ys ≡ replicate (n + 1) 13 ++ zs = ap (λ (m : List ℕ). replicate n 13 ++ m) e ∙ crs-more n zs in
    record {
      whole = h.whole ∙ ap (λ (m : List ℕ). acc ++ m) rest;
      lines = h.lines ∙ ap (λ (m : List ℕ). front acc (lines m)) rest;
    }

within_byte : (xs acc : List ℕ) (n : ℕ) (ys zs : List ℕ) (b : ℕ) → IsWithinLine xs acc n ys → ys ≡ b ∷ zs → (b == 10) ≡ false → (b == 13) ≡ false → IsWithinLine xs (acc ++ (replicate n 13 ++ b ∷ [])) 0 zs
within_byte xs acc n ys zs b h e not_lf not_cr =
    let rest : replicate n 13 ++ ys ≡ replicate n 13 ++ b ∷ zs = ap (λ (m : List ℕ). replicate n 13 ++ m) e in
    let added : List ℕ = replicate n 13 ++ b ∷ [] in
    record {
      whole = h.whole ∙ ap (λ (m : List ℕ). acc ++ m) (rest ∙ sym (append_assoc (replicate n 13) (b ∷ []) zs)) ∙ sym (append_assoc acc added zs);
      lines = h.lines ∙ ap (λ (m : List ℕ). front acc (lines m)) rest ∙ ap (front acc) (lines-byte n b zs not_lf not_cr) ∙ sym (front-append acc added (lines zs));
    }

pub front_begin : (a : Option (List ℕ)) → TakesFront a a [] 0
unfolding front
front_begin None = tt
front_begin (Some xs) = record { whole = refl; lines = refl }

-- a byte is taken: as a CR that waits, or as content with the CRs that waited
front-added : (xs acc line : List ℕ) (n m : ℕ) (ys zs : List ℕ) (x : ℕ) (cr : Bool) → (x == 13) ≡ cr → IsWithinLine xs acc n ys → ys ≡ x ∷ zs → (x == 10) ≡ false → (x ≡ 13 → (m ≡ n + 1) × (line ≡ acc)) → (x ≢ 13 → (m ≡ 0) × (line ≡ acc ++ (replicate n 13 ++ x ∷ []))) → IsWithinLine xs line m zs
front-added xs acc line n m ys zs x true is h e not_lf waits added =
    let at : x ≡ 13 = grind arith in
    let now = waits at in
    rw (now.0, now.1) (within_cr xs acc n ys zs h (e ∙ ap (λ (m : ℕ). m ∷ zs) at))
front-added xs acc line n m ys zs x false is h e not_lf waits added =
    let at : x ≢ 13 = grind arith in
    let now = added at in
    rw (now.0, now.1) (within_byte xs acc n ys zs x h e not_lf is)

pub front_added : (a b c : Option (List ℕ)) (acc line : List ℕ) (n m x : ℕ) → TakesFront a b acc n → TakesByte b c (Some x) → (x == 10) ≡ false → (x ≡ 13 → (m ≡ n + 1) × (line ≡ acc)) → (x ≢ 13 → (m ≡ 0) × (line ≡ acc ++ (replicate n 13 ++ x ∷ []))) → TakesFront a c line m
front_added None b c acc line n m x h k not_lf waits added = tt
front_added (Some xs) None c acc line n m x h k not_lf waits added = absurd h
front_added (Some xs) (Some ys) None acc line n m x h k not_lf waits added = absurd k
front_added (Some xs) (Some ys) (Some zs) acc line n m x h k not_lf waits added =
    front-added xs acc line n m ys zs x (x == 13) refl h k not_lf waits added

-- the line ends with LF

pub front_lf : (a b c : Option (List ℕ)) (acc : List ℕ) (n : ℕ) → TakesFront a b acc n → TakesByte b c (Some 10) → TakesLine a c true acc
front_lf None b c acc n h k = tt
front_lf (Some xs) None c acc n h k = absurd h
front_lf (Some xs) (Some ys) None acc n h k = absurd k
front_lf (Some xs) (Some ys) (Some zs) acc n h k =
    h.lines ∙ ap (λ (m : List ℕ). front acc (lines (replicate n 13 ++ m))) k ∙ ap (front acc) (lines-lf n zs) ∙ front-nil acc (lines zs)

-- the input ends, after no byte and after some

lines-last : (xs acc : List ℕ) (n : ℕ) (ys : List ℕ) → IsWithinLine xs acc n ys → ys ≡ [] → lines xs ≡ front (acc ++ replicate n 13) []
lines-last xs acc n ys h e =
    h.lines ∙ ap (λ (m : List ℕ). front acc (lines (replicate n 13 ++ m))) e ∙ ap (front acc) (lines-end n) ∙ sym (front-append acc (replicate n 13) [])

whole-last : (xs acc : List ℕ) (n : ℕ) (ys : List ℕ) → IsWithinLine xs acc n ys → ys ≡ [] → xs ≡ acc ++ replicate n 13
whole-last xs acc n ys h e =
    h.whole ∙ ap (λ (m : List ℕ). acc ++ (replicate n 13 ++ m)) e ∙ ap (λ (m : List ℕ). acc ++ m) (append-nil (replicate n 13))

lines-none : lines [] ≡ []
unfolding lines lines_at_lf without_crs
lines-none = refl

-- what is left at the end of the input is the last line, or there is none
last_line : (xs line zs : List ℕ) (more : Bool) → xs ≡ line → lines xs ≡ front line [] → zs ≡ [] → more ≡ not (length line == 0) → TakesLine (Some xs) (Some zs) more line
last_line xs [] zs more whole ends none e = subst (λ (u : Bool). TakesLine (Some xs) (Some zs) u []) (sym e) whole
last_line xs (x ∷ line) zs more whole ends none e =
    let some : more ≡ true = grind arith in
    subst (λ (u : Bool). TakesLine (Some xs) (Some zs) u (x ∷ line)) (sym some)
    (ends ∙ front-last x line ∙ ap (λ (m : List (List ℕ)). (x ∷ line) ∷ m) (sym lines-none ∙ ap lines (sym none)))

pub front_end : (a b c : Option (List ℕ)) (acc line : List ℕ) (n : ℕ) (more : Bool) → TakesFront a b acc n → TakesByte b c None → line ≡ acc ++ replicate n 13 → more ≡ not (length line == 0) → TakesLine a c more line
front_end None b c acc line n more h k is e = tt
front_end (Some xs) None c acc line n more h k is e = absurd h
front_end (Some xs) (Some ys) None acc line n more h k is e = absurd k
front_end (Some xs) (Some ys) (Some zs) acc line n more h k is e =
    last_line xs line zs more (whole-last xs acc n ys h k.0 ∙ sym is) (lines-last xs acc n ys h k.0 ∙ ap (λ (m : List ℕ). front m []) (sym is)) k.1 e

-- the line is too long

first_is_long : (acc : List ℕ) (ls : List (List ℕ)) (xs : List ℕ) → lines xs ≡ front acc ls → 65536 < length acc → HasLongLine (Some xs)
first_is_long [] [] xs e long = absurd (omega arith)
first_is_long (x ∷ acc) [] xs e long = (x ∷ acc, [], e ∙ front-last x acc, long)
first_is_long acc (l ∷ ls) xs e long = (acc ++ l, ls, e ∙ front-line acc l ls, grind (arith, length-append))

length-added : (acc : List ℕ) (n : ℕ) (bs : List ℕ) → length (acc ++ (replicate n 13 ++ bs)) ≡ length acc + n + length bs
length-added acc n bs = omega (arith, length-append acc (replicate n 13 ++ bs), length-append (replicate n 13) bs, length-replicate {A = ℕ} n 13)

pub front_long : (a b c : Option (List ℕ)) (acc : List ℕ) (n x : ℕ) → TakesFront a b acc n → TakesByte b c (Some x) → (x == 10) ≡ false → (x == 13) ≡ false → 65536 < length acc + n + 1 → HasLongLine a
front_long None b c acc n x h k not_lf not_cr long = tt
front_long (Some xs) None c acc n x h k not_lf not_cr long = absurd h
front_long (Some xs) (Some ys) None acc n x h k not_lf not_cr long = absurd k
front_long (Some xs) (Some ys) (Some zs) acc n x h k not_lf not_cr long =
    first_is_long (acc ++ (replicate n 13 ++ x ∷ [])) (lines zs) xs ((within_byte xs acc n ys zs x h k not_lf not_cr).lines) (rw (length-added acc n (x ∷ [])) long)

pub front_end-long : (a b c : Option (List ℕ)) (acc : List ℕ) (n : ℕ) → TakesFront a b acc n → TakesByte b c None → 65536 < length acc + n → HasLongLine a
front_end-long None b c acc n h k long = tt
front_end-long (Some xs) None c acc n h k long = absurd h
front_end-long (Some xs) (Some ys) None acc n h k long = absurd k
front_end-long (Some xs) (Some ys) (Some zs) acc n h k long =
    first_is_long (acc ++ replicate n 13) [] xs (lines-last xs acc n ys h k.0) (omega (arith, length-append acc (replicate n 13), length-replicate {A = ℕ} n 13))

-- how many bytes are gone

pub counts_begin : (a : Option (List ℕ)) (n : ℕ) → Counts a a n n
counts_begin None n = tt
counts_begin (Some xs) n = refl

pub counts_byte : (a b c : Option (List ℕ)) (n m x : ℕ) → Counts a b n m → TakesByte b c (Some x) → Counts a c n (m + 1)
counts_byte None b c n m x h k = tt
counts_byte (Some xs) None c n m x h k = absurd h
counts_byte (Some xs) (Some ys) None n m x h k = absurd k
counts_byte (Some xs) (Some ys) (Some zs) n m x h k = omega (arith, h, ap length k)

pub counts_end : (a b c : Option (List ℕ)) (n m : ℕ) → Counts a b n m → TakesByte b c None → Counts a c n m
counts_end None b c n m h k = tt
counts_end (Some xs) None c n m h k = absurd h
counts_end (Some xs) (Some ys) None n m h k = absurd k
counts_end (Some xs) (Some ys) (Some zs) n m h k = omega (arith, h, ap length k.0, ap length k.1)

-- an LF that was not the first byte is still there

pub contains_some : (xs : List ℕ) (x : ℕ) → Contains xs x → 0 < length xs
contains_some xs x h = omega (arith, h.1)

contains_cons : (b : ℕ) (ys : List ℕ) (k : ℕ) → b ≢ 10 → k < length (b ∷ ys) → slice_index_or (b ∷ ys) k 10 ≡ 10 → Contains ys 10
contains_cons b ys zero other lt is = absurd (other is)
contains_cons b ys (suc k) other lt is = (k, omega arith, is)

pub contains_rest : (xs ys : List ℕ) (b : ℕ) → xs ≡ b ∷ ys → b ≢ 10 → Contains xs 10 → Contains ys 10
contains_rest xs ys b e other h =
    let at : Contains (b ∷ ys) 10 = subst (λ (m : List ℕ). Contains m 10) e h in
    contains_cons b ys at.0 other at.1 at.2

-- no LF was taken

pub part_begin : (a : Option (List ℕ)) → TakesPart a a
part_begin None = tt
part_begin (Some xs) = ([], refl, λ h. omega (arith, h.1))

part-byte : (part ys zs : List ℕ) (x : ℕ) → ys ≡ x ∷ zs → part ++ ys ≡ (part ++ x ∷ []) ++ zs
part-byte part ys zs x e = ap (λ (m : List ℕ). part ++ m) e ∙ sym (append_assoc part (x ∷ []) zs)

no_lf-more : (part : List ℕ) (x : ℕ) → ¬ Contains part 10 → x ≢ 10 → ¬ Contains (part ++ x ∷ []) 10
no_lf-more part x none other h = elim (Contains-push_cases part x 10 h) [ inl before ↦ none before | inr is ↦ other is ]

pub part_byte : (a b c : Option (List ℕ)) (x : ℕ) → TakesPart a b → TakesByte b c (Some x) → x ≢ 10 → TakesPart a c
part_byte None b c x h k other = tt
part_byte (Some xs) None c x h k other = absurd h
part_byte (Some xs) (Some ys) None x h k other = absurd k
part_byte (Some xs) (Some ys) (Some zs) x h k other =
    (h.0 ++ x ∷ [], h.1 ∙ part-byte h.0 ys zs x k, no_lf-more h.0 x h.2 other)

pub part_stay : (a b c : Option (List ℕ)) → TakesPart a b → Keeps b c → TakesPart a c
part_stay None b c h k = tt
part_stay (Some xs) None c h k = absurd h
part_stay (Some xs) (Some ys) None h k = absurd k
part_stay (Some xs) (Some ys) (Some zs) h k = (h.0, h.1 ∙ ap (λ (m : List ℕ). h.0 ++ m) (sym k), h.2)
