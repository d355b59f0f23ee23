-- The lines of a text that is made of lines.
use Rattle.std.proofs.Common.{◌≡◌, ◌<◌, ℕ, Bool, true, false, List, [], ◌∷◌, ◌++◌, length, append_assoc, refl, sym, ap, ◌∙◌, arith, cond}
use Rattle.std.specs.Prelude.{◌==◌, ◌&&◌}
use Rattle.std.specs.List.{list_all}
use Rattle.std.proofs.lemmas.Grind.{common_steps}
use Rattle.kn_event.specs.EventLine.{is_printable}
use Rattle.kn_journal.specs.Lines.{begins_with_lf, without_crs, onto_first, lines_at_lf, lines, text_of}
use Rattle.kn_journal.proofs.Aheads.{IsPlain, lines-plain}

-- ---- lines of printable bytes are plain

and-left : (a b : Bool) → (a && b) ≡ true → a ≡ true
and-left true b h = refl
and-left false b h = cc

and-right : (a b : Bool) → (a && b) ≡ true → b ≡ true
and-right true b h = h
and-right false b h = cc

printable-no_lf : (b : ℕ) → is_printable b ≡ true → (b == 10) ≡ false
printable-no_lf b h = grind (arith, common_steps)

printable-no_cr : (b : ℕ) → is_printable b ≡ true → (b == 13) ≡ false
printable-no_cr b h = grind (arith, common_steps)

pub printable-plain : (line : List ℕ) → list_all is_printable line ≡ true → IsPlain line
printable-plain [] h = tt
printable-plain (b ∷ []) h =
    let first = and-left (is_printable b) true h in
    (printable-no_lf b first, printable-no_cr b first)
printable-plain (b ∷ d ∷ bs) h =
    (printable-no_lf b (and-left (is_printable b) (list_all is_printable (d ∷ bs)) h), printable-plain (d ∷ bs) (and-right (is_printable b) (list_all is_printable (d ∷ bs)) h))

pub lines-printable : (line rest : List ℕ) → list_all is_printable line ≡ true → lines (line ++ 10 ∷ rest) ≡ line ∷ lines rest
lines-printable line rest h = lines-plain line rest (printable-plain line h)

-- ---- a text that ends with LF, and what follows it

-- the bytes up to an LF, with their CRs dropped, end with it
record Ends (xs rest : List ℕ) : Type 0 where
  front : List ℕ
  whole : without_crs (xs ++ 10 ∷ rest) ≡ front ++ 10 ∷ without_crs rest
  alone : without_crs (xs ++ 10 ∷ []) ≡ front ++ 10 ∷ []

begins-front : (front xs ys : List ℕ) → begins_with_lf (front ++ 10 ∷ xs) ≡ begins_with_lf (front ++ 10 ∷ ys)
begins-front [] xs ys = refl
begins-front (b ∷ bs) xs ys = refl

ends : (xs rest : List ℕ) → Ends xs rest
unfolding without_crs
ends [] rest = record { front = []; whole = refl; alone = refl }
ends (b ∷ bs) rest = by_more (ends bs rest)
  where
    by_case : (more : Ends bs rest) (drops : Bool) → (b == 13 && begins_with_lf (more.front ++ 10 ∷ [])) ≡ drops → Ends (b ∷ bs) rest
    by_case more true e =
        let same : (b == 13 && begins_with_lf (more.front ++ 10 ∷ without_crs rest)) ≡ true =
        ap (λ (x : Bool). b == 13 && x) (begins-front more.front (without_crs rest) []) ∙ e in
        record {
          front = more.front;
          whole = rw more.whole (rw same refl);
          alone = rw more.alone (rw e refl);
        }
    by_case more false e =
        let same : (b == 13 && begins_with_lf (more.front ++ 10 ∷ without_crs rest)) ≡ false =
        ap (λ (x : Bool). b == 13 && x) (begins-front more.front (without_crs rest) []) ∙ e in
        record {
          front = b ∷ more.front;
          whole = rw more.whole (rw same refl);
          alone = rw more.alone (rw e refl);
        }

    by_more : Ends bs rest → Ends (b ∷ bs) rest
    by_more more = by_case more (b == 13 && begins_with_lf (more.front ++ 10 ∷ [])) refl

onto-append : (b : ℕ) (ls ms : List (List ℕ)) → 0 < length ls → onto_first b (ls ++ ms) ≡ onto_first b ls ++ ms
onto-append b [] ms h = absurd (omega arith)
onto-append b (l ∷ ls) ms h = refl

some-lines : (front rest : List ℕ) → 0 < length (lines_at_lf (front ++ 10 ∷ rest))
unfolding lines_at_lf
some-lines [] rest = omega arith
some-lines (b ∷ bs) rest = by_byte (b == 10) (lines_at_lf (bs ++ 10 ∷ rest))
  where
    by_byte : (lf : Bool) (ls : List (List ℕ)) → 0 < length (cond lf ([] ∷ ls) (onto_first b ls))
    by_byte true ls = omega arith
    by_byte false [] = omega arith
    by_byte false (l ∷ ls) = omega arith

lines_at_lf-append : (front rest : List ℕ) → lines_at_lf (front ++ 10 ∷ rest) ≡ lines_at_lf (front ++ 10 ∷ []) ++ lines_at_lf rest
unfolding lines_at_lf
lines_at_lf-append [] rest = refl
lines_at_lf-append (b ∷ bs) rest = by_byte (b == 10) (lines_at_lf-append bs rest) (some-lines bs [])
  where
    by_byte : (lf : Bool) → lines_at_lf (bs ++ 10 ∷ rest) ≡ lines_at_lf (bs ++ 10 ∷ []) ++ lines_at_lf rest → 0 < length (lines_at_lf (bs ++ 10 ∷ []))
        → cond lf ([] ∷ lines_at_lf (bs ++ 10 ∷ rest)) (onto_first b (lines_at_lf (bs ++ 10 ∷ rest)))
        ≡ cond lf ([] ∷ lines_at_lf (bs ++ 10 ∷ [])) (onto_first b (lines_at_lf (bs ++ 10 ∷ []))) ++ lines_at_lf rest
    by_byte true e some = ap (λ (x : List (List ℕ)). [] ∷ x) e
    by_byte false e some = ap (onto_first b) e ∙ onto-append b (lines_at_lf (bs ++ 10 ∷ [])) (lines_at_lf rest) some

-- the lines of a text that ends with LF come before those of what follows it
pub lines-append : (xs rest : List ℕ) → lines ((xs ++ 10 ∷ []) ++ rest) ≡ lines (xs ++ 10 ∷ []) ++ lines rest
unfolding lines
lines-append xs rest =
    let end = ends xs rest in
    ap (λ (x : List ℕ). lines_at_lf (without_crs x)) (append_assoc xs (10 ∷ []) rest)
    ∙ ap lines_at_lf end.whole ∙ lines_at_lf-append end.front (without_crs rest)
    ∙ ap (λ (x : List ℕ). lines_at_lf x ++ lines_at_lf (without_crs rest)) (sym end.alone)

-- a text of one line or more ends with LF
pub text-ends : (line : List ℕ) (more : List (List ℕ)) → (front : List ℕ) × (text_of (line ∷ more) ≡ front ++ 10 ∷ [])
text-ends line [] = (line, refl)
text-ends line (next ∷ more) =
    let later = text-ends next more in
    (line ++ 10 ∷ later.0, ap (λ (x : List ℕ). line ++ 10 ∷ x) later.1 ∙ sym (append_assoc line (10 ∷ later.0) (10 ∷ [])))
