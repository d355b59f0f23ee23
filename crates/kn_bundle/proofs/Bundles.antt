-- The journals of a bundle, one after the other.
use Rattle.std.proofs.Common.{◌≡◌, ◌+◌, ◌-◌, ◌≤◌, ℕ, suc, Bool, true, false, List, [], ◌∷◌, ◌++◌, length, length-append, append_assoc, append-nil, refl, sym, ap, ◌∙◌, arith}
use Rattle.std.specs.Prelude.{Option, None, Some, Result, Ok, Err, if◌then◌else◌}
use Rattle.kn_preamble.specs.First.{version_of}
use Rattle.kn_journal.specs.declared.journal.Journal.{Journal}
use Rattle.kn_journal.specs.Bundle.{first_of_part, version_of_in}
use Rattle.kn_journal.specs.Causes.{Cause, line_too_long}
use Rattle.kn_journal.specs.Lines.{fits, lines}
use Rattle.kn_journal.specs.Parts.{Part, part}
use Rattle.kn_bundle.specs.Bundle.{Bundle, Stage, bundle, bundle_by, bundle_of_lines, bundle_on, from_first, journal_in, no_journal, with_journals}
use Rattle.kn_bundle.specs.Stages.{IsWholeJournal}
use Rattle.kn_bundle.proofs.Parts.{same_part}

-- ---- a first line

-- it is one of this version, whatever follows it
pub record IsFirst (n : ℕ) (all : List (List ℕ)) (version m : ℕ) (left : List (List ℕ)) : Type 0 where
  pub line : List ℕ
  pub split : all ≡ line ∷ left
  pub count : n + 1 ≡ m
  pub alone : (later : List (List ℕ)) → first_of_part n (line ∷ later) ≡ Ok (part (Some version) m later)

pub first-line : (n : ℕ) (all : List (List ℕ)) (version m : ℕ) (left : List (List ℕ)) → first_of_part n all ≡ Ok (part (Some version) m left) → IsFirst n all version m left
first-line n [] version m left h = absurd (none_some version (same_part None (Some version) n m [] left (Ok (part None n [])) refl h).values)
  where
    none_some : (v : ℕ) → ◌≡◌ {A = Option ℕ} None (Some v) → ⊥
    none_some v e = cc
first-line n (line ∷ more) version m left h = by_tests (fits line) (version_of line) refl refl h
  where
    by_tests : (f : Bool) (v : Option ℕ) → fits line ≡ f → version_of line ≡ v → (if f then version_of_in (n + 1) more v else Err (line_too_long (n + 1))) ≡ Ok (part (Some version) m left)
        → IsFirst n (line ∷ more) version m left
    by_tests false v p q g = cc
    by_tests true None p q g = cc
    by_tests true (Some v) p q g =
        let same = same_part (Some v) (Some version) (n + 1) m more left (Ok (part (Some v) (n + 1) more)) refl g in
        record {
          line = line;
          split = ap (λ (z : List (List ℕ)). line ∷ z) same.lefts;
          count = same.numbers;
          alone = λ later. rw (p, q) (rw (same.values, same.numbers) refl);
        }

pub first-none : (n : ℕ) (all : List (List ℕ)) (m : ℕ) (left : List (List ℕ)) → first_of_part n all ≡ Ok (part None m left) → left ≡ []
first-none n [] m left h = sym (same_part None None n m [] left (Ok (part None n [])) refl h).lefts
first-none n (line ∷ more) m left h = by_tests (fits line) (version_of line) h
  where
    by_tests : (f : Bool) (v : Option ℕ) → (if f then version_of_in (n + 1) more v else Err (line_too_long (n + 1))) ≡ Ok (part None m left) → left ≡ []
    by_tests false v g = cc
    by_tests true None g = cc
    by_tests true (Some v) g = absurd (some_none v (same_part (Some v) None (n + 1) m more left (Ok (part (Some v) (n + 1) more)) refl g).values)
      where
        some_none : (i : ℕ) → ◌≡◌ {A = Option ℕ} (Some i) None → ⊥
        some_none i e = cc

-- ---- the journals so far

-- lines that are these journals, whatever follows them
pub record ReadsJournals (all : List (List ℕ)) (js : List Journal) (n : ℕ) (left : List (List ℕ)) : Type 0 where
  pub own : List (List ℕ)
  pub split : all ≡ own ++ left
  pub count : length own ≡ n
  pub many : length js ≤ length own
  pub reads : (most more : ℕ) (later : List (List ℕ)) → most ≡ length js + more → bundle_by most 0 (own ++ later) ≡ with_journals js (bundle_by more n later)

pub journals_begin : (all : List (List ℕ)) → ReadsJournals all [] 0 all
journals_begin all = record {
  own = [];
  split = refl;
  count = refl;
  many = omega arith;
  reads = λ most more later is. ap (λ (f : ℕ). bundle_by f 0 later) (bare most more is);
}
  where
    bare : (most more : ℕ) → most ≡ 0 + more → most ≡ more
    bare most more is = omega (arith, is)

bundle-step : (more n : ℕ) (line : List ℕ) (later : List (List ℕ)) (version m : ℕ) → first_of_part n (line ∷ later) ≡ Ok (part (Some version) m later)
    → bundle_by (suc more) n (line ∷ later) ≡ bundle_on (journal_in version m later) (λ n left. bundle_by more n left)
unfolding bundle_by
bundle-step more n line later version m h = ap (λ (r : Result (Part (Option ℕ)) Cause). from_first r (λ n left. bundle_by more n left)) h

with_journals-more : (js : List Journal) (j : Journal) (b : Bundle) → with_journals js (with_journals (j ∷ []) b) ≡ with_journals (js ++ j ∷ []) b
with_journals-more js j b = ap (λ (x : List Journal). record { whole = x; opened = b.opened; refused = b.refused }) (sym (append_assoc js (j ∷ []) b.whole))

pub journals_more : (all : List (List ℕ)) (js : List Journal) (n : ℕ) (left : List (List ℕ)) (version m : ℕ) (after : List (List ℕ)) (j : Journal) (p : ℕ) (rest : List (List ℕ))
    → ReadsJournals all js n left → IsFirst n left version m after → IsWholeJournal version m after j p rest → ReadsJournals all (js ++ j ∷ []) p rest
journals_more all js n left version m after j p rest h f w = record {
  own = h.own ++ f.line ∷ w.own;
  split = h.split ∙ ap (λ (x : List (List ℕ)). h.own ++ x) (f.split ∙ ap (λ (x : List (List ℕ)). f.line ∷ x) w.split) ∙ sym (append_assoc h.own (f.line ∷ w.own) rest);
  count = omega (arith, h.count, f.count, w.count, length-append h.own (f.line ∷ w.own));
  many = omega (arith, h.many, length-append h.own (f.line ∷ w.own), length-append js (j ∷ []));
  reads = λ most more later is.
      ap (λ (x : List (List ℕ)). bundle_by most 0 x) (append_assoc h.own (f.line ∷ w.own) later)
      ∙ h.reads most (suc more) (f.line ∷ (w.own ++ later)) (omega (arith, is, length-append js (j ∷ [])))
      ∙ ap (with_journals js)
      (bundle-step more n f.line (w.own ++ later) version m (f.alone (w.own ++ later))
      ∙ ap (λ (s : Stage). bundle_on s (λ n left. bundle_by more n left)) (w.alone later))
      ∙ with_journals-more js j (bundle_by more p later);
}

-- ---- all lines

all_is : (all : List (List ℕ)) (js : List Journal) (n : ℕ) (left : List (List ℕ)) → ReadsJournals all js n left → bundle_of_lines all ≡ with_journals js (bundle_by (suc (length all - length js)) n left)
unfolding bundle_of_lines
all_is all js n left h =
    let long : length all ≡ length h.own + length left = ap length h.split ∙ length-append h.own left in
    ap (λ (x : List (List ℕ)). bundle_by (length all + 1) 0 x) h.split ∙ h.reads (length all + 1) (suc (length all - length js)) left (omega (arith, h.many, long))

pub all_end : (all : List (List ℕ)) (js : List Journal) (n : ℕ) (left : List (List ℕ)) (m : ℕ) (rest : List (List ℕ)) → ReadsJournals all js n left → first_of_part n left ≡ Ok (part None m rest)
    → bundle_of_lines all ≡ with_journals js (no_journal None None)
unfolding bundle_by
all_end all js n left m rest h f =
    all_is all js n left h ∙ ap (λ (r : Result (Part (Option ℕ)) Cause). with_journals js (from_first r (λ n left. bundle_by (length all - length js) n left))) f

pub all_refused : (all : List (List ℕ)) (js : List Journal) (n : ℕ) (left : List (List ℕ)) (cause : Cause) → ReadsJournals all js n left → first_of_part n left ≡ Err cause
    → bundle_of_lines all ≡ with_journals js (no_journal None (Some cause))
unfolding bundle_by
all_refused all js n left cause h f =
    all_is all js n left h ∙ ap (λ (r : Result (Part (Option ℕ)) Cause). with_journals js (from_first r (λ n left. bundle_by (length all - length js) n left))) f

pub all_stage : (all : List (List ℕ)) (js : List Journal) (n : ℕ) (left : List (List ℕ)) (version m : ℕ) (after : List (List ℕ)) → ReadsJournals all js n left → IsFirst n left version m after
    → bundle_of_lines all ≡ with_journals js (bundle_on (journal_in version m after) (λ n left. bundle_by (length all - length js) n left))
all_stage all js n left version m after h f =
    all_is all js n left h
    ∙ ap (λ (x : List (List ℕ)). with_journals js (bundle_by (suc (length all - length js)) n x)) f.split
    ∙ ap (with_journals js) (bundle-step (length all - length js) n f.line after version m (f.alone after))

-- .. of the journals alone
pub own_end : (all : List (List ℕ)) (js : List Journal) (n : ℕ) (left : List (List ℕ)) (h : ReadsJournals all js n left) → bundle_of_lines h.own ≡ with_journals js (no_journal None None)
own_end all js n left h =
    all_end h.own js n [] n [] (record { own = h.own; split = sym (append-nil h.own); count = h.count; many = h.many; reads = h.reads }) refl

-- .. and of some lines of one more
pub own_stage : (all : List (List ℕ)) (js : List Journal) (n : ℕ) (left : List (List ℕ)) (version m : ℕ) (after more : List (List ℕ)) (s : Stage) (h : ReadsJournals all js n left) (f : IsFirst n left version m after)
    → journal_in version m more ≡ s → (next : ℕ → List (List ℕ) → Bundle) × (bundle_of_lines (h.own ++ f.line ∷ more) ≡ with_journals js (bundle_on s next))
own_stage all js n left version m after more s h f is =
    let ls = h.own ++ f.line ∷ more in
    let next : ℕ → List (List ℕ) → Bundle = λ n left. bundle_by (length ls - length js) n left in (
      next,
      all_stage ls js n (f.line ∷ more) version m more (record { own = h.own; split = refl; count = h.count; many = h.many; reads = h.reads }) (record { line = f.line; split = refl; count = f.count; alone = f.alone })
          ∙ ap (λ (x : Stage). with_journals js (bundle_on x next)) is,
    )

pub bundle_is : (xs : List ℕ) → bundle xs ≡ bundle_of_lines (lines xs)
unfolding bundle
bundle_is xs = refl
