-- Where no limit is still to change.
use Rattle.std.proofs.Common.{◌≡◌, ◌<◌, ◌+◌, ℕ, suc, List, [], ◌∷◌, length, get_or, refl, ap, ◌∙◌, sym, subst, arith, inl, inr, Bool, true, false, None, nat_le}
use Rattle.std.specs.Prelude.{slice_set, if◌then◌else◌}
use Rattle.std.proofs.lemmas.List.{length-set, get_or-set_same, get_or-set_other, get_or_default}
use Rattle.std.proofs.lemmas.Bool.{cases_eq}
use Rattle.kn_event.specs.declared.event.Act.TheVariants as act
use Rattle.kn_event.specs.declared.event.Event.{Event}
use Rattle.kn_event.specs.Lists.{or_else}
use Rattle.kn_core.specs.State.{RevisionState}
use Rattle.kn_slices.specs.Activators.{AreMarked, AreSliced, Takes, limit_at, running_at}
use Rattle.kn_slices.specs.Slices.{cut_of, due_change, first_from, force_after, hold, raise_of, slice_of}
use Rattle.kn_slices.proofs.Marks.{all_sliced, none_from, sliced_no_cut, sliced_no_raise}

pub force_same : (held wanted : ℕ) → force_after held wanted wanted ≡ wanted
force_same held wanted = by (nat_le held wanted)
  where
    by : (b : Bool) → (if b then wanted else wanted) ≡ wanted
    by true = refl
    by false = refl

-- a wanted limit that is in force stays so, whatever is held
pub force_stays : (held wanted force : ℕ) → force ≡ wanted → force ≡ force_after held wanted force
force_stays held wanted force e = e ∙ (sym (force_same held wanted) ∙ ap (λ f. force_after held wanted f) (sym e))

-- by the marks
pub marked_sliced : (parts : List RevisionState) (wanted marks : List ℕ) → AreMarked parts wanted marks → ((p : ℕ) → p < length wanted → get_or marks p 0 ≡ 0) → AreSliced parts wanted
marked_sliced parts wanted marks marked none p i d low inside =
    let zero = sym (marked.each p low) ∙ none p low in
    all_sliced (limit_at p) (length parts) (get_or wanted p 0) p 0 parts zero i d inside ∙ ap (λ m. slice_of (get_or wanted p 0) m (length parts)) (omega arith)

-- then no change is due
pub none_due : (parts : List RevisionState) (wanted : List ℕ) → AreSliced parts wanted → due_change limit_at running_at (length parts) parts wanted ≡ None
none_due parts wanted sliced =
    let n = length parts in
    let at : (p : ℕ) (w : ℕ) → p < length wanted → get_or wanted p 0 ≡ w → (k : ℕ) (d : RevisionState) → k < n → limit_at p (get_or parts k d) ≡ slice_of w (0 + k) n =
    λ p w low e k d inside. sliced p k d low inside ∙ (ap (λ v. slice_of v k n) e ∙ ap (λ m. slice_of w m n) (omega arith)) in
    let cuts = none_from (cut_of limit_at n parts) 0 wanted (λ p w low. subst (λ q. cut_of limit_at n parts q (get_or wanted p w) ≡ None) (omega arith) (sliced_no_cut (limit_at p) n (get_or wanted p w) p 0 parts (at p (get_or wanted p w) low (get_or_default wanted p 0 w low)))) in
    let raises = none_from (raise_of limit_at running_at n parts) 0 wanted
    (λ p w low. subst (λ q. raise_of limit_at running_at n parts q (get_or wanted p w) ≡ None) (omega arith)
    (sliced_no_raise (limit_at p) n (get_or wanted p w) p (running_at p) (hold (limit_at p) (running_at p) parts) 0 parts (at p (get_or wanted p w) low (get_or_default wanted p 0 w low)))) in
    ap (λ o. or_else o (first_from (raise_of limit_at running_at n parts) 0 wanted)) cuts ∙ raises

-- an event that sets no limit leaves it so
pub still_sliced : (parts new : List RevisionState) (wanted : List ℕ) (i : ℕ) (e : Event) → i < length parts → Takes (length wanted) i e parts new → ((q n : ℕ) → e.act ≡ act.Limit q n → ⊥)
    → AreSliced parts wanted → AreSliced new wanted
still_sliced parts new wanted i e low t none sliced = subst (λ (xs : List RevisionState). AreSliced xs wanted) (sym t.changed) by
  where
    by : AreSliced (slice_set parts i t.part) wanted
    by p k d inside there =
        let count = length-set parts i t.part in
        let old : k < length parts = subst (λ n. k < n) count there in
        rw count (elim (cases_eq k i) [
          | inl same ↦ subst (λ m. limit_at p (get_or (slice_set parts i t.part) m d) ≡ slice_of (get_or wanted p 0) m (length parts)) (sym same)
              (ap (limit_at p) (get_or-set_same parts i t.part d low) ∙ ((t.goes d).others p inside (none p) ∙ sliced p i d inside low))
          | inr apart ↦ ap (limit_at p) (get_or-set_other parts i k t.part d apart) ∙ sliced p k d inside old
        ])

pub same_each : (xs ys : List ℕ) → length xs ≡ length ys → ((k : ℕ) → k < length ys → get_or xs k 0 ≡ get_or ys k 0) → xs ≡ ys
same_each [] [] len h = refl
same_each [] (y ∷ ys) len h = absurd (omega (arith, len))
same_each (x ∷ xs) [] len h = absurd (omega (arith, len))
same_each (x ∷ xs) (y ∷ ys) len h =
    let rest = same_each xs ys (omega (arith, len)) (λ k low. h (suc k) (omega (arith, low))) in
    ap (λ n. n ∷ xs) (h 0 (omega arith)) ∙ ap (λ (zs : List ℕ). y ∷ zs) rest

-- wanted limits that are in force stay so, whatever is held
pub forces_stay : (held : ℕ → ℕ) (wanted force new : List ℕ) → force ≡ wanted → length new ≡ length wanted
    → ((p : ℕ) → p < length wanted → get_or new p 0 ≡ force_after (held p) (get_or wanted p 0) (get_or force p 0)) → new ≡ wanted
forces_stay held wanted force new same len each = same_each new wanted len (λ p low. each p low ∙ (ap (λ (xs : List ℕ). force_after (held p) (get_or wanted p 0) (get_or xs p 0)) same ∙ force_same (held p) (get_or wanted p 0)))
