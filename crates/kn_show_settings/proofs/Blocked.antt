-- The blocks in a setup's text are those that were read.
use Rattle.std.proofs.Common.{◌≡◌, ℕ, ◌+◌, Bool, true, false, cond, eqb, ◌&&◌, List, [], ◌∷◌, ◌++◌, length, refl, sym, ap, ◌∙◌, arith, append_assoc, length-append}
use Rattle.std.specs.Prelude.{nat_eq, codes, ⊤}
use Rattle.std.specs.Str.{bytes_eq}
use Rattle.std.specs.List.{starts_with}
use Rattle.std.proofs.Math.Seq.{drop-append_seam, take-append_seam}
use Rattle.std.proofs.lemmas.Bool.Decides.{nat_tests}
use Rattle.kn_journal.specs.Lines.{lines, lines_at_lf, onto_first, text_of, without_crs}
use Rattle.kn_journal.specs.Setup.{blocks_text}
use Rattle.kn_show_settings.specs.Blocks.{behind_config, behind_revision, block, config_block, place_of, revision_block}
use Rattle.kn_show_settings.proofs.Places.{here_at, more_at}

-- ---- lines

abbrev pub HasNoLf : List ℕ → Type 0
HasNoLf [] = ⊤
HasNoLf (b ∷ bs) = (eqb b 10 ≡ false) × HasNoLf bs

abbrev pub HaveNoLf : List (List ℕ) → Type 0
HaveNoLf [] = ⊤
HaveNoLf (l ∷ ls) = HasNoLf l × HaveNoLf ls

-- none is the end of a block
abbrev pub AreInside : List (List ℕ) → Type 0
AreInside [] = ⊤
AreInside (l ∷ ls) = (HasNoLf l × (bytes_eq l (codes ".") ≡ false)) × AreInside ls

onto_plain : (b : ℕ) (ls : List (List ℕ)) → eqb b 10 ≡ false → HaveNoLf ls → HaveNoLf (onto_first b ls)
onto_plain b [] other h = ((other, tt), tt)
onto_plain b (l ∷ ls) other h = ((other, h.0), h.1)

at_lf_plain : (bytes : List ℕ) → HaveNoLf (lines_at_lf bytes)
unfolding lines_at_lf
at_lf_plain [] = tt
at_lf_plain (b ∷ bs) = by (eqb b 10) refl (at_lf_plain bs)
  where
    by : (t : Bool) → eqb b 10 ≡ t → HaveNoLf (lines_at_lf bs) → HaveNoLf (cond t ([] ∷ lines_at_lf bs) (onto_first b (lines_at_lf bs)))
    by true e h = (tt, h)
    by false e h = onto_plain b (lines_at_lf bs) e h

pub lines_plain : (bytes : List ℕ) → HaveNoLf (lines bytes)
unfolding lines
lines_plain bytes = at_lf_plain (without_crs bytes)

-- ---- places

turned : (a b : ℕ) → eqb a b ≡ false → eqb b a ≡ false
turned a b h = grind (arith, nat_tests)

abbrev lf : List ℕ
lf = codes "\n"

abbrev point : List ℕ
point = codes "\n.\n"

-- these bytes begin with an LF, and so nowhere in a line
abbrev BeginsWithLf : List ℕ → Type 0
BeginsWithLf word = (b : ℕ) (bs : List ℕ) → eqb b 10 ≡ false → starts_with nat_eq (b ∷ bs) word ≡ false

lf_begins : BeginsWithLf lf
lf_begins b bs h = rw (turned b 10 h) refl

point_begins : BeginsWithLf point
point_begins b bs h = rw (turned b 10 h) refl

past_line : (word l rest : List ℕ) → BeginsWithLf word → HasNoLf l → place_of word (l ++ rest) ≡ length l + place_of word rest
past_line word [] rest begins h = omega arith
past_line word (b ∷ l) rest begins h = omega (arith, more_at word (l ++ rest) b (begins b (l ++ rest) h.0), past_line word l rest begins h.1)

-- an LF and a line that isn't the end
no_point : (l rest : List ℕ) → HasNoLf l → bytes_eq l (codes ".") ≡ false → starts_with nat_eq (10 ∷ (l ++ 10 ∷ rest)) point ≡ false
no_point [] rest h other = refl
no_point (a ∷ []) rest h other = by (eqb a 46) refl (eqb 46 a) refl other
  where
    by : (s : Bool) → eqb a 46 ≡ s → (t : Bool) → eqb 46 a ≡ t → (s && true) ≡ false → (true && (t && true)) ≡ false
    by true is t back other = absurd (cc)
    by false is false back other = refl
    by false is true back other = absurd (let same : eqb a 46 ≡ true = grind (arith, nat_tests) in cc)
no_point (a ∷ b ∷ m) rest h other = rw (turned b 10 h.1.0) (by (eqb 46 a))
  where
    by : (t : Bool) → (true && (t && false)) ≡ false
    by true = refl
    by false = refl

-- the end of a block whose lines these are, behind an LF
place_behind : (ls : List (List ℕ)) (rest : List ℕ) → AreInside ls → place_of point (10 ∷ (text_of ls ++ 46 ∷ 10 ∷ rest)) ≡ length (text_of ls)
place_behind [] rest h = here_at point (46 ∷ 10 ∷ rest) 10 refl
place_behind (l ∷ ls) rest h =
    let text = text_of ls ++ 46 ∷ 10 ∷ rest in
    let split : (l ++ 10 ∷ text_of ls) ++ 46 ∷ 10 ∷ rest ≡ l ++ 10 ∷ text = append_assoc l (10 ∷ text_of ls) (46 ∷ 10 ∷ rest) in
    ap (λ (t : List ℕ). place_of point (10 ∷ t)) split
    ∙ omega (
      arith,
      more_at point (l ++ 10 ∷ text) 10 (no_point l text h.0.0 h.0.1),
      past_line point l (10 ∷ text) point_begins h.0.0,
      place_behind ls rest h.1,
      length-append l (10 ∷ text_of ls),
    )

place_in : (l : List ℕ) (ls : List (List ℕ)) (rest : List ℕ) → AreInside (l ∷ ls) → place_of point (text_of (l ∷ ls) ++ 46 ∷ 10 ∷ rest) + 1 ≡ length (text_of (l ∷ ls))
place_in l ls rest h =
    let text = text_of ls ++ 46 ∷ 10 ∷ rest in
    let split : (l ++ 10 ∷ text_of ls) ++ 46 ∷ 10 ∷ rest ≡ l ++ 10 ∷ text = append_assoc l (10 ∷ text_of ls) (46 ∷ 10 ∷ rest) in
    omega (
      arith,
      ap (place_of point) split,
      past_line point l (10 ∷ text) point_begins h.0.0,
      place_behind ls rest h.1,
      length-append l (10 ∷ text_of ls),
    )

-- ---- a block that isn't empty, and what stands behind it

block_is : (l : List ℕ) (ls : List (List ℕ)) (rest : List ℕ) → AreInside (l ∷ ls) → block (text_of (l ∷ ls) ++ 46 ∷ 10 ∷ rest) ≡ text_of (l ∷ ls)
block_is l ls rest h = rw (place_in l ls rest h) (take-append_seam (text_of (l ∷ ls)) (46 ∷ 10 ∷ rest))

behind_is : (l : List ℕ) (ls : List (List ℕ)) (rest : List ℕ) → AreInside (l ∷ ls)
    → behind_revision (text_of (l ∷ ls) ++ (codes ".\nrevision\n" ++ rest)) ≡ rest
behind_is l ls rest h =
    let config = text_of (l ∷ ls) in
    let word = codes ".\nrevision\n" in
    let place = place_in l ls (codes "revision\n" ++ rest) h in
    let far : place_of point (config ++ (word ++ rest)) + 12 ≡ length (config ++ word) = omega (arith, place, length-append config word) in
    rw far (rw (sym (append_assoc config word rest)) (drop-append_seam (config ++ word) rest))

-- the text of a setup, from its first line on
regroup : (line config revision : List ℕ) → blocks_text (line ++ 10 ∷ []) config revision
    ≡ (line ++ codes "\nconfig\n") ++ (config ++ (codes ".\nrevision\n" ++ (revision ++ codes ".\n")))
regroup line config revision = simp append_assoc

behind_line_is : (line config revision : List ℕ) → HasNoLf line
    → behind_config (blocks_text (line ++ 10 ∷ []) config revision) ≡ config ++ (codes ".\nrevision\n" ++ (revision ++ codes ".\n"))
behind_line_is line config revision h =
    let rest = config ++ (codes ".\nrevision\n" ++ (revision ++ codes ".\n")) in
    let first : place_of lf ((line ++ codes "\nconfig\n") ++ rest) ≡ length line =
    ap (place_of lf) (append_assoc line (codes "\nconfig\n") rest) ∙ omega (arith, past_line lf line (codes "\nconfig\n" ++ rest) lf_begins h, here_at lf (codes "config\n" ++ rest) 10 refl) in
    let far : place_of lf ((line ++ codes "\nconfig\n") ++ rest) + 8 ≡ length (line ++ codes "\nconfig\n") = omega (arith, first, length-append line (codes "\nconfig\n")) in
    rw regroup (rw far (drop-append_seam (line ++ codes "\nconfig\n") rest))

-- the blocks are what was read
pub blocks_are : (line l m : List ℕ) (ls ms : List (List ℕ)) → HasNoLf line → AreInside (l ∷ ls) → AreInside (m ∷ ms)
    → (config_block (blocks_text (line ++ 10 ∷ []) (text_of (l ∷ ls)) (text_of (m ∷ ms))) ≡ text_of (l ∷ ls))
    × (revision_block (blocks_text (line ++ 10 ∷ []) (text_of (l ∷ ls)) (text_of (m ∷ ms))) ≡ text_of (m ∷ ms))
blocks_are line l m ls ms other config revision =
    let behind = behind_line_is line (text_of (l ∷ ls)) (text_of (m ∷ ms)) other in (
      ap block behind ∙ block_is l ls (codes "revision\n" ++ (text_of (m ∷ ms) ++ codes ".\n")) config,
      ap (λ (t : List ℕ). block (behind_revision t)) behind ∙ ap block (behind_is l ls (text_of (m ∷ ms) ++ codes ".\n") config) ∙ block_is m ms [] revision,
    )
