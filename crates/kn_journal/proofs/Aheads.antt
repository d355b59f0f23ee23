-- The first line of bytes that lie ahead.
use Rattle.std.proofs.Common.{◌≡◌, ◌<◌, ◌+◌, ◌-◌, get_or, ℕ, zero, suc, Bool, true, false, List, [], ◌∷◌, ◌++◌, length, take, drop, append_assoc, append-nil, add-one, replicate, length-append, refl, sym, ap, ◌∙◌, arith}
use Rattle.std.specs.Prelude.{Option, None, Some, ◌==◌, ◌&&◌, ◌↔◌, ⊤, Contains, IsTrue, is_some, slice_index}
use Rattle.memchr.specs.Find.{IsFirstByte, is_byte}
use Rattle.std.proofs.lemmas.Grind.{common_steps, get_or_default_zero}
use Rattle.std.proofs.lemmas.List.{take-append-drop, drop_more, replicate_more}
use Rattle.std.proofs.Math.Seq.{get_or-append_seam}
use Rattle.kn_journal.specs.Lines.{without_crs, lines_at_lf, lines}
use Rattle.kn_journal.proofs.Fronts.{without_crs-lf}

-- no LF, and no CR last
abbrev pub IsPlain : List ℕ → Type 0
IsPlain [] = ⊤
IsPlain (b ∷ []) = ((b == 10) ≡ false) × ((b == 13) ≡ false)
IsPlain (b ∷ c ∷ bs) = ((b == 10) ≡ false) × IsPlain (c ∷ bs)

first_is_no_lf : (b : ℕ) (bs : List ℕ) → IsPlain (b ∷ bs) → (b == 10) ≡ false
first_is_no_lf b [] h = h.0
first_is_no_lf b (c ∷ bs) h = h.0

rest_is_plain : (b : ℕ) (bs : List ℕ) → IsPlain (b ∷ bs) → IsPlain bs
rest_is_plain b [] h = tt
rest_is_plain b (c ∷ bs) h = h.1

and-false : (x : Bool) → (x && false) ≡ false
and-false true = refl
and-false false = refl

without_crs-plain : (acc zs : List ℕ) → IsPlain acc → without_crs (acc ++ 10 ∷ zs) ≡ acc ++ 10 ∷ without_crs zs
unfolding without_crs
without_crs-plain [] zs h = refl
without_crs-plain (b ∷ []) zs h = rw h.1 refl
without_crs-plain (b ∷ c ∷ bs) zs h =
    rw (without_crs-plain (c ∷ bs) zs h.1) (rw (first_is_no_lf c bs h.1, and-false (b == 13)) refl)

-- with CRs before the LF
without_crs-crs : (acc zs : List ℕ) (n : ℕ) → IsPlain acc → without_crs (acc ++ (replicate n 13 ++ 10 ∷ zs)) ≡ acc ++ 10 ∷ without_crs zs
unfolding without_crs
without_crs-crs [] zs n h = without_crs-lf n zs
without_crs-crs (b ∷ []) zs n h = rw (without_crs-lf n zs) (rw h.1 refl)
without_crs-crs (b ∷ c ∷ bs) zs n h =
    rw (without_crs-crs (c ∷ bs) zs n h.1) (rw (first_is_no_lf c bs h.1, and-false (b == 13)) refl)

lines_at_lf-plain : (acc zs : List ℕ) → IsPlain acc → lines_at_lf (acc ++ 10 ∷ zs) ≡ acc ∷ lines_at_lf zs
unfolding lines_at_lf
lines_at_lf-plain [] zs h = refl
lines_at_lf-plain (b ∷ bs) zs h =
    rw (first_is_no_lf b bs h) (rw (lines_at_lf-plain bs zs (rest_is_plain b bs h)) refl)

pub lines-plain : (acc zs : List ℕ) → IsPlain acc → lines (acc ++ 10 ∷ zs) ≡ acc ∷ lines zs
unfolding lines
lines-plain acc zs h = ap lines_at_lf (without_crs-plain acc zs h) ∙ lines_at_lf-plain acc (without_crs zs) h

pub lines-crs : (acc zs : List ℕ) (n : ℕ) → IsPlain acc → lines (acc ++ (replicate n 13 ++ 10 ∷ zs)) ≡ acc ∷ lines zs
unfolding lines
lines-crs acc zs n h = ap lines_at_lf (without_crs-crs acc zs n h) ∙ lines_at_lf-plain acc (without_crs zs) h

pub plain_taken : (len : ℕ) (hay : List ℕ) → len < length hay → ((k : ℕ) → k < len → (slice_index hay k == 10) ≡ false) → ((j : ℕ) → j + 1 ≡ len → (slice_index hay j == 13) ≡ false) → IsPlain (take len hay)
plain_taken zero hay lt none last = tt
plain_taken (suc n) [] lt none last = absurd (omega arith)
plain_taken (suc zero) (b ∷ bs) lt none last = (none 0 (omega arith), last 0 (omega arith))
plain_taken (suc (suc n)) (b ∷ []) lt none last = absurd (omega arith)
plain_taken (suc (suc n)) (b ∷ c ∷ bs) lt none last =
    (none 0 (omega arith), plain_taken (suc n) (c ∷ bs) (omega arith) (λ k l. none (suc k) (omega arith)) (λ j e. last (suc j) (omega (arith, e))))

-- the bytes ahead, split at an LF
pub split_at_lf : (len : ℕ) (hay : List ℕ) → len < length hay → slice_index hay len ≡ 10 → hay ≡ take len hay ++ 10 ∷ drop (len + 1) hay
split_at_lf len hay lt is =
    sym (take-append-drop len hay) ∙ ap (λ (m : List ℕ). take len hay ++ m) (drop_more hay len 0 lt ∙ ap (λ (b : ℕ). b ∷ drop (len + 1) hay) is)

pub lines_split : (len : ℕ) (hay later : List ℕ) → hay ≡ take len hay ++ 10 ∷ drop (len + 1) hay → IsPlain (take len hay)
    → lines (hay ++ later) ≡ take len hay ∷ lines (drop (len + 1) hay ++ later)
lines_split len hay later split plain =
    ap (λ (m : List ℕ). lines (m ++ later)) split
    ∙ ap lines (append_assoc (take len hay) (10 ∷ drop (len + 1) hay) later)
    ∙ lines-plain (take len hay) (drop (len + 1) hay ++ later) plain

pub lines_split-crs : (len n : ℕ) (hay later line : List ℕ) → hay ≡ take len hay ++ 10 ∷ drop (len + 1) hay → take len hay ≡ line ++ replicate n 13 → IsPlain line
    → lines (hay ++ later) ≡ line ∷ lines (drop (len + 1) hay ++ later)
lines_split-crs len n hay later line split whole plain =
    let more : List ℕ = drop (len + 1) hay in
    let crs : List ℕ = replicate n 13 in
    ap (λ (m : List ℕ). lines (m ++ later)) (split ∙ ap (λ (m : List ℕ). m ++ 10 ∷ more) whole)
    ∙ ap lines (append_assoc (line ++ crs) (10 ∷ more) later ∙ append_assoc line crs (10 ∷ (more ++ later)))
    ∙ lines-crs line (more ++ later) n plain

pub lines_ahead : (len : ℕ) (hay later : List ℕ) → len < length hay → slice_index hay len ≡ 10 → IsPlain (take len hay)
    → lines (hay ++ later) ≡ take len hay ∷ lines (drop (len + 1) hay ++ later)
lines_ahead len hay later lt is plain = lines_split len hay later (split_at_lf len hay lt is) plain

pub not_so : (b : Bool) → ¬ (b ≡ true) → b ≡ false
not_so true h = absurd (h refl)
not_so false h = refl

-- where the last byte is no CR, no CRs stand there
pub no_crs : (xs line : List ℕ) (n : ℕ) → xs ≡ line ++ replicate n 13 → (get_or xs (length xs - 1) 0 ≡ 13 → ⊥) → xs ≡ line
no_crs xs line zero whole other = whole ∙ append-nil line
no_crs xs line (suc n) whole other =
    let front : List ℕ = line ++ replicate n 13 in
    let seam : xs ≡ front ++ 13 ∷ [] = whole ∙ (ap (λ (m : List ℕ). line ++ m) (sym (replicate_more n 13 ∙ ap (λ (k : ℕ). replicate k 13) (add-one n))) ∙ sym (append_assoc line (replicate n 13) (13 ∷ []))) in
    let count : length xs - 1 ≡ length front = omega (arith, ap length seam, length-append front (13 ∷ [])) in
    absurd (other (ap (λ (k : ℕ). get_or xs k 0) count ∙ (ap (λ (m : List ℕ). get_or m (length front) 0) seam ∙ get_or-append_seam front 13 [] 0)))

-- an LF is ahead exactly where the search finds one
pub holds_lf : (hay : List ℕ) (r : Option ℕ) → IsFirstByte (is_byte 10) hay r → IsTrue (is_some r) ↔ Contains hay 10
holds_lf hay None none = (λ t. cc, λ h. absurd (none h.0 (omega arith) h.1 (let here : slice_index hay h.0 ≡ 10 = sym (get_or_default_zero hay h.0 10 h.1) ∙ h.2 in rw here refl)))
holds_lf hay (Some k) found =
    let here : slice_index hay k ≡ 10 = let test : (slice_index hay k == 10) ≡ true = found.1 in grind (arith, common_steps) in
    (λ t. (k, found.0.high, get_or_default_zero hay k 10 found.0.high ∙ here), λ h. refl)
