-- What is written piece by piece.
use Rattle.std.proofs.Common.{◌≡◌, ◌≤◌, ◌<◌, ◌+◌, ℕ, suc, List, [], ◌∷◌, ◌++◌, length, drop, get_or, refl, ap, ◌∙◌, arith}
use Rattle.std.specs.Prelude.{Result, Ok, Err, OnOk, OnErr}
use Rattle.std.proofs.lemmas.List.{drop_all}
use Rattle.std.proofs.Math.Seq.{drop-cons}
use Rattle.kn_activators.specs.Sharing.{force_change, force_lines}

-- what is said of one outcome, turned into what follows from it
pub on_ok : {T E : Type 0} {P Q : Type 0} (r : Result T E) → (P → Q) → OnOk r P → OnOk r Q
on_ok (Ok x) f h = f h
on_ok (Err e) f h = tt

pub any_ok : {T E : Type 0} (r : Result T E) → OnOk r (Unit {0})
any_ok (Ok x) = tt
any_ok (Err e) = tt

pub on_err : {T E : Type 0} {P Q : Type 0} (r : Result T E) → (P → Q) → OnErr r P → OnErr r Q
on_err (Ok x) f h = tt
on_err (Err e) f h = f h

-- ---- rows

pub forces_more : (time p : ℕ) (fs gs : List ℕ) → p < length fs → length gs ≡ length fs
    → force_lines time p (drop p fs) (drop p gs) ≡ force_change time p (get_or fs p 0) (get_or gs p 0) ++ force_lines time (p + 1) (drop (p + 1) fs) (drop (p + 1) gs)
unfolding force_lines
forces_more time p fs gs low same =
    let one : suc p ≡ p + 1 = omega arith in
    let f : drop p fs ≡ get_or fs p 0 ∷ drop (p + 1) fs = drop-cons fs p 0 low ∙ ap (λ k. get_or fs p 0 ∷ drop k fs) one in
    let g : drop p gs ≡ get_or gs p 0 ∷ drop (p + 1) gs = drop-cons gs p 0 (omega (arith, low, same)) ∙ ap (λ k. get_or gs p 0 ∷ drop k gs) one in
    rw (f, g) refl

pub forces_end : (time p : ℕ) (fs gs : List ℕ) → length fs ≤ p → force_lines time p (drop p fs) (drop p gs) ≡ []
unfolding force_lines
forces_end time p fs gs up = let f : drop p fs ≡ [] = drop_all p fs up in rw f refl
