use Rattle.std.proofs.Common.{ℕ, List, nat_lt, rules, arith, subst, sym, ap, ◌∙◌, ltb-true, ltb-false}
use Rattle.std.proofs.lemmas.List.Sorted.{IsPartitionPoint-from_clause, IsPartitionedBy-ltb}
use Rattle.kn_record.specs.Order.{Ascend}
use Rattle.kn_pods.specs.Numbers.{IsPlaceOf, NumbersState}
use Rattle.kn_pods.proofs.Places.{IsCut, not_falling, place_at}
use Rattle.kn_pods.proofs.numbers.Numbers.place_of.Goals as goal

rise : (c : goal.After-partition_point) → Ascend c.deref.result.now
rise c = subst Ascend (sym c.deref.ensures.value) c.self.invariant

cut : (c : goal.After-partition_point) → IsCut c.args.p c.deref.result.now c.partition_point.result
cut c =
    let xs = c.deref.result.now in
    let point = IsPartitionPoint-from_clause (λ q. nat_lt q c.args.p) xs c.partition_point.result c.partition_point.ensures.partitioned (IsPartitionedBy-ltb (λ q. q) xs c.args.p (not_falling xs (rise c))) (λ a r q k. search rules) in
    record {
      bound = c.partition_point.ensures.bound;
      before = λ k d lt. ltb-true _ _ (point.0 k d (omega arith) lt);
      after = λ k d le lt. ltb-false _ _ (point.1 k d le lt);
    }

pub returns : goal.returns
returns c =
    subst (λ (xs : List ℕ). IsPlaceOf c.args.p xs c.partition_point.result) (c.deref.ensures.value ∙ ap (λ (s : NumbersState). s.items) c.self.view_is)
    (place_at c.args.p c.deref.result.now c.partition_point.result (rise c) (cut c))
