-- One round more, and what all rounds keep.
use Rattle.std.proofs.Common.{◌≡◌, ◌⊎◌, inl, inr, ℕ, ◌+◌, ◌<◌, List, [], ◌∷◌, ◌++◌, Bool, true, false, refl, sym, ap, ◌∙◌, subst, length, arith, length-append}
use Rattle.std.specs.Prelude.{◌||◌}
use Rattle.std.proofs.lemmas.Bool.{cases_lt}
use Rattle.kn_event.specs.declared.revision.Spec.{Spec}
use Rattle.kn_cell.specs.Shown.{PassView, Looks}
use Rattle.kn_request.specs.declared.slot.Served.{Served}
use Rattle.kn_request.specs.Terms.{Terms}
use Rattle.kn_session.specs.Rounds.{IsRounds, OneRound, AllRounds, Sides, is_fault, is_memory, any_fault, any_memory}

-- what holds of each number below n, and of n
pub all_below_one_more : (Holds : ℕ → Type 0) (n : ℕ) → ((j : ℕ) → j < n → Holds j) → Holds n → (j : ℕ) → j < n + 1 → Holds j
all_below_one_more Holds n below here j less = elim (cases_lt j n) [
  | inl lower ↦ below j lower
  | inr least ↦ (let same : n ≡ j = omega (arith, less, least) in subst Holds same here)
]

pub cell_later : (p q : PassView) → (q ≡ p) ⊎ Looks p q → q.cell ≡ p.cell
cell_later p q so = elim so [ inl e ↦ ap (λ (v : PassView). v.cell) e | inr l ↦ ap (λ (v : PassView). v.cell) l.same ]

rounds_one : (Then : PassView → Type 0) (terms : ℕ → ℕ → Terms) (spec : Spec) (tag : ℕ) (ss : List Served) (s : Served) (p q q' : PassView) (a b b' : Sides)
    → IsRounds Then terms spec tag ss p q a b → OneRound Then terms spec (tag + length ss) q q' b b' s → IsRounds Then terms spec tag (ss ++ s ∷ []) p q' a b'
rounds_one Then terms spec tag [] s p q q' a b b' r one =
    let n : tag + 0 ≡ tag = omega arith in
    let one' = subst (λ k. OneRound Then terms spec k q q' b b' s) n one in
    let here = subst (λ (v : PassView). OneRound Then terms spec tag v q' a b' s) r.0 (subst (λ (v : Sides). OneRound Then terms spec tag q q' v b' s) r.1 one') in
    (q', b', here, (refl, refl))
rounds_one Then terms spec tag (x ∷ xs) s p q q' a b b' r one =
    let n : tag + length (x ∷ xs) ≡ (tag + 1) + length xs = omega arith in
    (r.0, r.1, r.2, rounds_one Then terms spec (tag + 1) xs s r.0 q q' r.1 b b' r.3 (subst (λ k. OneRound Then terms spec k q q' b b' s) n one))

pub any_one : {A : Type 0} (f : A → Bool) (any : List A → Bool) → (any [] ≡ false) → ((s : A) (ss : List A) → any (s ∷ ss) ≡ (f s || any ss)) → (ss : List A) (s : A) → any (ss ++ s ∷ []) ≡ (f s || any ss)
any_one {A} f any none more [] s = more s []
any_one {A} f any none more (x ∷ xs) s = more x (xs ++ s ∷ []) ∙ (ap (λ b. f x || b) (any_one f any none more xs s) ∙ (swap (f x) (f s) (any xs) ∙ ap (λ b. f s || b) (sym (more x xs))))
  where
    swap : (i j k : Bool) → (i || (j || k)) ≡ (j || (i || k))
    swap true true k = refl
    swap true false k = refl
    swap false true k = refl
    swap false false k = refl

pub none_yet : (Then : PassView → Type 0) (terms : ℕ → ℕ → Terms) (spec : Spec) (tag : ℕ) (p : PassView) (a : Sides) → AllRounds Then terms spec tag 0 p p a a false false
none_yet Then terms spec tag p a = record { endings = []; all = refl; rounds = (refl, refl); faulty = refl; wanting = refl }

pub one_more : (Then : PassView → Type 0) (terms : ℕ → ℕ → Terms) (spec : Spec) (tag count : ℕ) (s : Served) (p q q' : PassView) (a b b' : Sides) (f m : Bool)
    → AllRounds Then terms spec tag count p q a b f m → OneRound Then terms spec (tag + count) q q' b b' s → AllRounds Then terms spec tag (count + 1) p q' a b' (is_fault s || f) (is_memory s || m)
one_more Then terms spec tag count s p q q' a b b' f m r one = record {
  endings = r.endings ++ s ∷ [];
  all = length-append r.endings (s ∷ []) ∙ ap (λ n. n + 1) r.all;
  rounds = rounds_one Then terms spec tag r.endings s p q q' a b b' r.rounds (subst (λ n. OneRound Then terms spec (tag + n) q q' b b' s) (sym r.all) one);
  faulty = ap (λ b. is_fault s || b) r.faulty ∙ sym (any_one is_fault any_fault refl (λ x xs. refl) r.endings s);
  wanting = ap (λ b. is_memory s || b) r.wanting ∙ sym (any_one is_memory any_memory refl (λ x xs. refl) r.endings s);
}
