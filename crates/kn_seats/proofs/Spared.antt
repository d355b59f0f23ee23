-- A cell of a pod's queue that becomes spare.
use Rattle.std.proofs.Common.{◌≡◌, ℕ, ◌+◌, ◌<◌, inl, inr, Bool, true, false, cond, List, [], ◌∷◌, ◌++◌, set, get_or, length, refl, sym, ap, ◌∙◌, arith, nat_eq, get_or-set_other, get_or-set_same, Option, Some, None}
use Rattle.std.proofs.lemmas.Bool.{cases_eq}
use Rattle.std.proofs.lemmas.List.{get_or_append_left, get_or_push, length_push}
use Rattle.kn_seats.specs.declared.cells.Cells.{Cells}
use Rattle.kn_seats.specs.declared.tracker.Tracker.{Tracker}
use Rattle.kn_seats.specs.Kept.{IsHeld, AreSpare}
use Rattle.kn_seats.proofs.Places.{is_named, not_named}

-- one place has another owner
pub with_owner : (ℕ → Option ℕ) → ℕ → Option ℕ → ℕ → Option ℕ
with_owner owner place who x = cond (nat_eq x place) who (owner x)

pub owner_here : (owner : ℕ → Option ℕ) (place : ℕ) (who : Option ℕ) → with_owner owner place who place ≡ who
unfolding with_owner
owner_here owner place who = rw (is_named place place refl) refl

pub owner_there : (owner : ℕ → Option ℕ) (place : ℕ) (who : Option ℕ) (x : ℕ) → (x ≡ place → ⊥) → with_owner owner place who x ≡ owner x
unfolding with_owner
owner_there owner place who x other = rw (not_named x place other) refl

pub not_both : (owner : ℕ → Option ℕ) (x p : ℕ) → owner x ≡ None → owner x ≡ Some p → ⊥
not_both owner x p none some = absurd (let e : None ≡ Some p = sym none ∙ some in cc)

pub same_owner : (owner : ℕ → Option ℕ) (x p q : ℕ) → owner x ≡ Some p → owner x ≡ Some q → q ≡ p
same_owner owner x p q one other = let e : Some q ≡ Some p = sym other ∙ one in (cc)

module _ (trackers : List Tracker) (cells : Cells) (pod_room request_room : ℕ) (held : IsHeld trackers cells pod_room request_room)
    (place : ℕ) (here : Tracker) (within : place < length trackers) (is : here ≡ get_or trackers place here)
    (gone : ℕ) (mine : held.owner gone ≡ Some here.number) where
  abbrev owner_freed : ℕ → Option ℕ
  owner_freed = with_owner held.owner gone None

  abbrev spare_freed : List ℕ
  spare_freed = cells.spare.items ++ gone ∷ []

  spare_old : (i : ℕ) → i < length cells.spare.items → get_or spare_freed i 0 ≡ get_or cells.spare.items i 0
  spare_old i lt = get_or_append_left cells.spare.items (gone ∷ []) 0 i lt

  spare_new : (i : ℕ) → i ≡ length cells.spare.items → get_or spare_freed i 0 ≡ gone
  spare_new i same = get_or_push cells.spare.items gone 0 i (sym same)

  spare_more : length spare_freed ≡ length cells.spare.items + 1
  spare_more = length_push cells.spare.items gone

  still_free : (x : ℕ) → held.owner x ≡ None → owner_freed x ≡ None
  unfolding with_owner
  still_free x free = elim (nat_eq x gone) as (λ (b : Bool). cond b None (held.owner x) ≡ None) [ true ↦ refl | false ↦ free ]

  pub spares_freed : AreSpare owner_freed spare_freed held.made
  spares_freed = record {
    inside = λ i lt. elim (cases_eq i (length cells.spare.items)) [
      | inl same ↦ rw (spare_new i same) (held.inside gone here.number mine)
      | inr other ↦ rw (spare_old i (omega (arith, spare_more))) (held.spares.inside i (omega (arith, spare_more)))
    ];
    free = λ i lt. elim (cases_eq i (length cells.spare.items)) [
      | inl same ↦ ap owner_freed (spare_new i same) ∙ owner_here held.owner gone None
      | inr other ↦ ap owner_freed (spare_old i (omega (arith, spare_more))) ∙ still_free (get_or cells.spare.items i 0) (held.spares.free i (omega (arith, spare_more)))
    ];
    apart = λ i j before lt alike. elim (cases_eq j (length cells.spare.items)) [
      | inl same ↦ not_both held.owner gone here.number
          (ap held.owner (sym (spare_new j same) ∙ sym alike ∙ spare_old i (omega (arith, spare_more))) ∙ held.spares.free i (omega (arith, spare_more))) mine
      | inr other ↦ held.spares.apart i j before (omega (arith, spare_more)) (sym (spare_old i (omega (arith, spare_more))) ∙ alike ∙ spare_old j (omega (arith, spare_more)))
    ];
  }

  -- who owns a cell owned it before, and it isn't that one
  pub owned_before : (x q : ℕ) → owner_freed x ≡ Some q → (x ≡ gone → ⊥) × (held.owner x ≡ Some q)
  owned_before x q owned = elim (cases_eq x gone) [
    | inl same ↦ absurd (not_both owner_freed x q (ap owner_freed same ∙ owner_here held.owner gone None) owned)
    | inr other ↦ (other, sym (owner_there held.owner gone None x other) ∙ owned)
  ]

  pub inside_freed : (x q : ℕ) → owner_freed x ≡ Some q → x < held.made
  inside_freed x q owned = held.inside x q (owned_before x q owned).1

  pub keeps_freed : (x q : ℕ) → (q ≡ here.number → ⊥) → held.owner x ≡ Some q → owner_freed x ≡ Some q
  keeps_freed x q other owned =
      owner_there held.owner gone None x (λ same. other (same_owner held.owner x here.number q (ap held.owner same ∙ mine) owned)) ∙ owned

  pub homes_freed : (x : ℕ) → get_or (set cells.home.items gone None) x None ≡ owner_freed x
  homes_freed x = elim (cases_eq x gone) [
    | inl same ↦ ap (λ k. get_or (set cells.home.items gone None) k None) same
        ∙ get_or-set_same cells.home.items gone None None (omega (arith, held.inside gone here.number mine, held.home))
        ∙ sym (ap owner_freed same ∙ owner_here held.owner gone None)
    | inr other ↦ get_or-set_other cells.home.items gone x None None other ∙ held.homes x ∙ sym (owner_there held.owner gone None x other)
  ]
