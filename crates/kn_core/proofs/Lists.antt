-- Lists of live requests and of pods.
use Rattle.std.proofs.Common.{◌≡◌, ℕ, ◌+◌, ◌≤◌, Bool, true, false, List, [], ◌∷◌, ◌++◌, length, map, drop, refl, sym, ap, ◌∙◌, arith, None, Some}
use Rattle.std.specs.Prelude.{◌==◌}
use Rattle.std.specs.List.{filter}
use Rattle.std.proofs.lemmas.Bool.Decides.{nat_tests}
use Rattle.kn_event.specs.declared.entry.Entry.{Entry}
use Rattle.kn_event.specs.declared.entry.Row.{Row}
use Rattle.kn_event.specs.declared.entry.Row.TheVariants as row
use Rattle.kn_event.specs.Lists.{contains}
use Rattle.kn_trace.specs.Trace.{first_of}
use Rattle.kn_record.specs.declared.admission.Request.{Request}
use Rattle.kn_record.specs.Admission.{without}
use Rattle.kn_record.specs.Views.{others}
use Rattle.kn_pods.specs.Pods.{PodsState}
use Rattle.kn_core.specs.Changes.{after_removal, after_removals}

without_few : (r : ℕ) (live : List Request) → length (without r live) ≤ length live
without_few r [] = omega arith
without_few r (q ∷ live) = by (r == q.number) refl (without_few r live)
  where
    by : (b : Bool) → (r == q.number) ≡ b → length (without r live) ≤ length live → length (without r (q ∷ live)) ≤ length (q ∷ live)
    by true e rec = rw e (omega (arith, rec))
    by false e rec = rw e (omega (arith, rec))

-- without the first that passes a test there is one less
module _ (test : Request → Bool) (r : ℕ) where
  pub first_ends : (live : List Request) → first_of (map (λ (q : Request). q.number) (filter test live)) ≡ Some r → length (without r live) + 1 ≤ length live
  first_ends [] e = absurd (cc)
  first_ends (q ∷ live) e = by (r == q.number) (test q) refl refl (first_ends live) e
    where
      by : (b t : Bool) → (r == q.number) ≡ b → test q ≡ t → (first_of (map (λ (q : Request). q.number) (filter test live)) ≡ Some r → length (without r live) + 1 ≤ length live)
          → first_of (map (λ (q : Request). q.number) (filter test (q ∷ live))) ≡ Some r → length (without r (q ∷ live)) + 1 ≤ length (q ∷ live)
      by true t e h rec f = rw e (omega (arith, without_few r live))
      by false true e h rec f =
          let g : Some q.number ≡ Some r = rw h at f in
          absurd (grind (arith, nat_tests, e, g))
      by false false e h rec f = rw e (omega (arith, rec (rw h at f)))

-- a number that isn't there can't be taken out
pub none_without : (p : ℕ) (xs : List ℕ) → contains p xs ≡ false → others p xs ≡ xs
none_without p [] h = refl
none_without p (q ∷ xs) h = by (q == p) refl h (none_without p xs)
  where
    by : (b : Bool) → (q == p) ≡ b → contains p (q ∷ xs) ≡ false → (contains p xs ≡ false → others p xs ≡ xs) → others p (q ∷ xs) ≡ q ∷ xs
    by true e f rec = absurd (let g = rw e at f in cc)
    by false e f rec =
        let other : (p == q) ≡ false = grind (arith, nat_tests, e) in
        rw other (ap (λ ys. q ∷ ys) (rec (rw e at f)))

pub none_left : {X : Type 0} (xs : List X) → length xs ≡ 0 → xs ≡ []
none_left [] h = refl
none_left (x ∷ xs) h = absurd (omega (arith, h))

-- rows take no pod out where none drains
pub none_removed : (es : List Entry) (pods : PodsState) → pods.draining ≡ [] → after_removals es pods ≡ pods
none_removed [] pods none = refl
none_removed (e ∷ es) pods none = rw (by e.row) (none_removed es pods none)
  where
    by : (x : Row) → after_removal x pods ≡ pods
    by (row.Remove p) = ap (λ ds. record pods { draining = ds }) (ap (others p) none ∙ sym none)
    by _ = refl

-- what comes after a list
drop_whole : {X : Type 0} (xs ys : List X) → drop (length xs) (xs ++ ys) ≡ ys
drop_whole [] ys = refl
drop_whole (x ∷ xs) ys = drop_whole xs ys

pub behind : {X : Type 0} (xs ys zs : List X) → zs ≡ xs ++ ys → drop (length xs) zs ≡ ys
behind xs ys zs e = rw e (drop_whole xs ys)

pub first_is_there : (r : ℕ) (xs : List ℕ) → first_of xs ≡ Some r → contains r xs ≡ true
first_is_there r [] e = absurd (cc)
first_is_there r (x ∷ xs) e = grind (arith, nat_tests, e)

pub none_first : (xs : List ℕ) → first_of xs ≡ None → xs ≡ []
none_first [] e = refl
none_first (x ∷ xs) e = absurd (cc)
