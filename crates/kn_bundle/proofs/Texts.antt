-- What is written of journal k, one journal more.
use Rattle.std.proofs.Common.{◌≡◌, ℕ, zero, suc, Bool, true, false, List, [], ◌∷◌, ◌++◌, length, append-nil, refl, sym, ap, ◌∙◌, arith}
use Rattle.std.specs.Prelude.{Option, None, Some}
use Rattle.kn_journal.specs.declared.journal.Journal.{Journal}
use Rattle.kn_follow.specs.Account.{Account}
use Rattle.kn_bundle.specs.Bundle.{Bundle, Stage, bundle_on, ended, stopped, with_journals}
use Rattle.kn_bundle.specs.Following.{text_at, text_in, text_of_opened}
use Rattle.kn_bundle.specs.Stages.{chosen, text_of_stage}

-- ---- the journal behind the whole ones

at_end : (a : Account) (k : ℕ) (js : List Journal) (opened : Option Journal) → k ≡ length js → text_at a k js opened ≡ text_of_opened a opened
at_end a zero [] opened is = refl
at_end a zero (j ∷ js) opened is = absurd (omega (arith, is))
at_end a (suc k) [] opened is = absurd (omega (arith, is))
at_end a (suc k) (j ∷ js) opened is = at_end a k js opened (omega (arith, is))

whole_at : (a : Account) (k : ℕ) (js : List Journal) (j : Journal) (more : List Journal) (opened : Option Journal) → k ≡ length js → text_at a k (js ++ j ∷ more) opened ≡ a.body j ++ a.close j
whole_at a zero [] j more opened is = refl
whole_at a zero (i ∷ js) j more opened is = absurd (omega (arith, is))
whole_at a (suc k) [] j more opened is = absurd (omega (arith, is))
whole_at a (suc k) (i ∷ js) j more opened is = whole_at a k js j more opened (omega (arith, is))

-- ---- another one

none_open : (a : Account) (k : ℕ) → text_at a k [] None ≡ []
none_open a zero = refl
none_open a (suc k) = refl

other_open : (a : Account) (k : ℕ) (js : List Journal) (opened : Option Journal) → (k ≡ length js → ⊥) → text_at a k js opened ≡ text_at a k js None
other_open a zero [] opened other = absurd (other refl)
other_open a zero (j ∷ js) opened other = refl
other_open a (suc k) [] opened other = refl
other_open a (suc k) (j ∷ js) opened other = other_open a k js opened (λ is. other (omega (arith, is)))

other_more : (a : Account) (k : ℕ) (js : List Journal) (j : Journal) → (k ≡ length js → ⊥) → text_at a k (js ++ j ∷ []) None ≡ text_at a k js None
other_more a zero [] j other = absurd (other refl)
other_more a zero (i ∷ js) j other = refl
other_more a (suc k) [] j other = none_open a k
other_more a (suc k) (i ∷ js) j other = other_more a k js j (λ is. other (omega (arith, is)))

-- ---- either

-- whether this is the one that is asked for
pub record IsFor (b : Bool) (k count : ℕ) : Type 0 where
  pub same : b ≡ true → k ≡ count
  pub other : b ≡ false → k ≡ count → ⊥

pub text_more : (a : Account) (b : Bool) (k : ℕ) (js : List Journal) (j : Journal) → IsFor b k (length js) → text_at a k js None ++ ((chosen b a).body j ++ (chosen b a).close j) ≡ text_at a k (js ++ j ∷ []) None
text_more a true k js j h =
    ap (λ (z : List ℕ). z ++ (a.body j ++ a.close j)) (at_end a k js None (h.same refl)) ∙ sym (whole_at a k js j [] None (h.same refl))
text_more a false k js j h = append-nil (text_at a k js None) ∙ sym (other_more a k js j (h.other refl))

nothing_opened : (opened : Option Journal) → text_of_opened (chosen false (record { body = λ j. []; close = λ j. [] })) opened ≡ []
nothing_opened None = refl
nothing_opened (Some j) = refl

pub text_open : (a : Account) (b : Bool) (k : ℕ) (js : List Journal) (opened : Option Journal) → IsFor b k (length js) → text_at a k js None ++ text_of_opened (chosen b a) opened ≡ text_at a k (js ++ []) opened
text_open a true k js opened h =
    ap (λ (z : List ℕ). z ++ text_of_opened a opened) (at_end a k js None (h.same refl)) ∙ sym (at_end a k js opened (h.same refl)) ∙ ap (λ (x : List Journal). text_at a k x opened) (sym (append-nil js))
text_open a false k js opened h =
    ap (λ (z : List ℕ). text_at a k js None ++ z) (nothing_opened opened) ∙ append-nil (text_at a k js None) ∙ sym (other_open a k js opened (h.other refl)) ∙ ap (λ (x : List Journal). text_at a k x opened) (sym (append-nil js))

-- of the one that is asked for, as far as it was read
pub text_stage : (a : Account) (k : ℕ) (js : List Journal) (s : Stage) (next : ℕ → List (List ℕ) → Bundle) → k ≡ length js → text_at a k js None ++ text_of_stage a s ≡ text_in a k (with_journals js (bundle_on s next))
text_stage a k js (ended j n left) next is =
    ap (λ (z : List ℕ). z ++ (a.body j ++ a.close j)) (at_end a k js None is) ∙ sym (whole_at a k js j (next n left).whole (next n left).opened is)
text_stage a k js (stopped opened cause) next is =
    ap (λ (z : List ℕ). z ++ text_of_opened a opened) (at_end a k js None is) ∙ sym (at_end a k js opened is) ∙ ap (λ (x : List Journal). text_at a k x opened) (sym (append-nil js))
