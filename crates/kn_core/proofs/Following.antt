-- What a throttler can take of a scale.
use Rattle.std.proofs.Common.{◌≡◌, ℕ, ◌<◌, ◌≤◌, ◌^◌, Bool, true, List, ◌∷◌, length, refl, sym, ap, ◌∙◌, subst, ◌+◌, suc, get_or, drop, add-one, drop-cons}
use Rattle.std.specs.Prelude.{◌||◌}
use denote.Struct.Props.{props}
use Rattle.std.proofs.Math.Bridge.{le_prop}
use Rattle.std.proofs.Math.Logic.{∥∥₁_elim}
use Rattle.kn_event.specs.declared.entry.Entry.{Entry}
use Rattle.kn_event.specs.declared.entry.Row.{Row}
use Rattle.kn_event.specs.declared.entry.Row.TheVariants as row
use Rattle.kn_event.specs.Lists.{contains}
use Rattle.kn_record.specs.Admission.{Admission, is_ready_now, is_starting_now, pods_in}
use Rattle.kn_throttle.specs.Kept.{pods_room}
use Rattle.kn_core.specs.Following.{CanTake}

-- the first of those that are left
pub at_item : (es : List Entry) (i : ℕ) (e : Entry) → i < length es → e ≡ get_or es i e → drop i es ≡ e ∷ drop (i + 1) es
at_item es i e h same = rw add-one (drop-cons es i e h ∙ ap (λ (x : Entry). x ∷ drop (suc i) es) (sym same))

number_prop : (a b : ℕ) → IsProp (a ≡ b)
number_prop a b = hlevel props

bool_prop : (a b : Bool) → IsProp (a ≡ b)
bool_prop a b = hlevel props

none_prop : IsProp ⊥
none_prop = hlevel props

module _ (a : Admission) (x : Row) (some : ∥ CanTake a x ∥₁) where
  pub create_number : (p n : ℕ) → x ≡ row.Create p n → p ≡ a.created
  create_number p n e = ∥∥₁_elim some (number_prop p a.created) (λ h. (subst (CanTake a) e h).0)

  pub create_few : (p n : ℕ) → x ≡ row.Create p n → p < 2 ^ 63
  create_few p n e = ∥∥₁_elim some le_prop (λ h. (subst (CanTake a) e h).1)

  pub create_room : (p n : ℕ) → x ≡ row.Create p n → length a.pods < pods_room
  create_room p n e = ∥∥₁_elim some le_prop (λ h. (subst (CanTake a) e h).2)

  pub create_limit : (p n : ℕ) → x ≡ row.Create p n → n ≤ 1000
  create_limit p n e = ∥∥₁_elim some le_prop (λ h. (subst (CanTake a) e h).3)

  pub drain_there : (p : ℕ) → x ≡ row.Drain p → (contains p (pods_in is_starting_now a.pods) || contains p (pods_in is_ready_now a.pods)) ≡ true
  drain_there p e = ∥∥₁_elim some (bool_prop (contains p (pods_in is_starting_now a.pods) || contains p (pods_in is_ready_now a.pods)) true) (λ h. subst (CanTake a) e h)

  pub no_other : ((p n : ℕ) → x ≡ row.Create p n → ⊥) → ((p : ℕ) → x ≡ row.Drain p → ⊥) → ⊥
  no_other creates drains = ∥∥₁_elim some none_prop (λ h. by x creates drains h)
    where
      by : (y : Row) → ((p n : ℕ) → y ≡ row.Create p n → ⊥) → ((p : ℕ) → y ≡ row.Drain p → ⊥) → CanTake a y → ⊥
      by (row.Create p n) creates drains h = creates p n refl
      by (row.Drain p) creates drains h = drains p refl
      by _ creates drains h = h
