-- What is held of the pods that an event spares.
use Rattle.std.proofs.Common.{◌≡◌, ◌≤◌, ◌<◌, ◌⊎◌, inl, inr, ℕ, Bool, true, false, List, length, get_or, refl, subst, arith, nat_le}
use Rattle.std.specs.Prelude.{Option, Some, slice_set, if◌then◌else◌}
use Rattle.std.proofs.lemmas.List.{get_or_default}
use Rattle.kn_event.specs.declared.event.Event.{Event}
use Rattle.kn_core.specs.State.{RevisionState}
use Rattle.kn_slices.specs.Activators.{AreInForce, Goes, IsGroupOf, IsOff, SparesPod, limit_at, running_at}
use Rattle.kn_slices.specs.Calls.{AreForcesBut}
use Rattle.kn_slices.specs.Slices.{force_after, hold}
use Rattle.kn_slices.proofs.Calm.{force_stays}
use Rattle.kn_slices.proofs.Sums.{hold_set}

up_to : (a b : ℕ) → nat_le a b ≡ true → a ≤ b
up_to a b t = grind (arith, t)

-- where more than the wanted limit was held, and no less is, the limit in force stays
force_stands : (before held wanted force : ℕ) → before ≤ held → (before ≤ wanted → force ≡ wanted) → force ≡ force_after held wanted force
force_stands before held wanted force more same = by (nat_le held wanted) refl
  where
    by : (b : Bool) → nat_le held wanted ≡ b → force ≡ (if b then wanted else force)
    by true e = let low = up_to held wanted e in same (omega (arith, low, more))
    by false e = refl

module _ (parts : List RevisionState) (wanted force : List ℕ) (i : ℕ) (e : Event) (y d : RevisionState) (low : i < length parts) (group : IsGroupOf parts wanted force)
    (goes : Goes (length wanted) e (get_or parts i d) y) where
  spared : (p : ℕ) → p < length wanted → SparesPod p e (get_or parts i d)
      → get_or force p 0 ≡ force_after (hold (limit_at p) (running_at p) (slice_set parts i y)) (get_or wanted p 0) (get_or force p 0)
  spared p inside spares =
      let sum = hold_set (limit_at p) (running_at p) parts i y d low in
      let limits = goes.others p inside spares.limit in
      let more = goes.stays p inside spares in
      let each = group.group.each p inside in
      force_stands (hold (limit_at p) (running_at p) parts) (hold (limit_at p) (running_at p) (slice_set parts i y)) (get_or wanted p 0) (get_or force p 0)
      (omega (arith, sum, limits, more)) each.same

  -- each other pod is spared, or isn't listed
  pub other_forces : (b : RevisionState) (ps : List ℕ) (changed : Option ℕ) → AreInForce wanted force ps
      → ((q : ℕ) → (changed ≡ Some q → ⊥) → IsOff q ps ⊎ SparesPod q e (get_or parts i b)) → AreForcesBut changed (slice_set parts i y) wanted force
  other_forces b ps changed others each p inside apart = elim (each p apart) [
    | inl off ↦ force_stays (hold (limit_at p) (running_at p) (slice_set parts i y)) (get_or wanted p 0) (get_or force p 0) (others p inside off)
    | inr spares ↦ spared p inside (subst (SparesPod p e) (get_or_default parts i b d low) spares)
  ]
