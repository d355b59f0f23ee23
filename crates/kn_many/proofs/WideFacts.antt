-- What an opener in memory hands out, and what the words of `kactd many` come to.
use Rattle.std.proofs.Common.{◌≡◌, ◌++◌, ◌∙◌, ℕ, List, ap, arith, length, sym, subst, take}
use Rattle.std.specs.Prelude.{All}
use Rattle.std.specs.List.{slice_split}
use Rattle.std.proofs.Math.Seq.{take-append_seam}
use Rattle.std.proofs.lemmas.List.{length-map}
use Rattle.std.proofs.lemmas.List.Splits.{length-slice_split}
use Rattle.kn_event.specs.Lists.{EachIs}
use Rattle.kn_plan.specs.declared.wide_plan.WidePlan.{WidePlan}
use Rattle.kn_plan.specs.Plan.{AsksForMany, is_comma, is_semicolon}
use Rattle.kn_request.specs.declared.slot.WideSlot.{WideSlot}
use Rattle.kn_session.specs.Wide.{HasOfEach}
use Rattle.kn_serve.specs.Opening.{IsEmptyWork}
use Rattle.kn_many.specs.Many.{IsInWideRange, IsReadyFor}
use Rattle.kn_many.specs.WideOpening.{AreOpened, IsWideOffer}

pub offered : {C L : Type 0} (F : WideSlot C L → Type 0) (K : L → Type 0) (plan : WidePlan) (ss ts : List (WideSlot C L)) (ks ls : List L) → IsWideOffer F K ss ks → ts ≡ ss → ls ≡ ks
    → length ss ≡ plan.slots → length ks ≡ length plan.pods → All (HasOfEach (length plan.pods)) ss → AreOpened F K plan ts ls
offered {C} {L} F K plan ss ts ks ls new same same_k many kept each =
    subst (λ (x : List (WideSlot C L)). AreOpened F K plan x ls) (sym same)
    (subst (λ (x : List L). AreOpened F K plan ss x) (sym same_k)
    (record { many = many; each = new.each; of_each = each; kept = kept; keepers_new = new.kept }))

-- words ask for a plan in its ranges
pub in_wide_range : (words : List (List ℕ)) (plan : WidePlan) → AsksForMany words plan → IsInWideRange plan
in_wide_range words plan asks =
    let parts = slice_split is_semicolon asks.pods.list in
    let many : length plan.pods ≡ length parts = ap length (sym asks.pods.parts) ∙ length-map parts (slice_split is_comma) in
    let some = length-slice_split is_semicolon asks.pods.list in
    record {
      slots_least = asks.slots.above;
      slots_most = asks.slots.below;
      rounds_least = asks.rounds.above;
      rounds_most = asks.rounds.below;
      room_least = asks.room.above;
      lists_least = omega (arith, many, some);
      lists_most = asks.pods.few;
      product = asks.product;
    }

-- slots that were opened may serve
pub opened_ready : {C L : Type 0} (F : WideSlot C L → Type 0) (K : L → Type 0) (plan : WidePlan) (ss ts : List (WideSlot C L)) (ks : List L) → AreOpened F K plan ss ks → ((s : WideSlot C L) → F s → All IsEmptyWork s.works.items) → ts ≡ ss
    → EachIs (IsReadyFor (length plan.pods)) ts
opened_ready {C} {L} F K plan ss ts ks opened empty same =
    subst (EachIs (IsReadyFor (length plan.pods))) (sym same) (λ i d low. record { links = (opened.of_each i d low).0; works = (opened.of_each i d low).1; empty = empty _ (opened.each i d low) })

-- as many as a list has, of what begins with it
pub taken_all : {A : Type 0} (n : ℕ) (xs ys : List A) → n ≡ length xs → take n (xs ++ ys) ≡ xs
taken_all n xs ys all = ap (λ (m : ℕ). take m (xs ++ ys)) all ∙ take-append_seam xs ys
