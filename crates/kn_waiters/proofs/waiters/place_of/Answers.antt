use Rattle.std.proofs.Common.{ltb, ltb-true, ltb-false, rules}
use Rattle.std.proofs.lemmas.List.Sorted.{IsPartitionPoint-from_clause, IsPartitionedBy-ltb}
use Rattle.kn_waiters.specs.declared.waiters.Waiter.{Waiter}
use Rattle.kn_waiters.proofs.waiters.place_of.Goals as goal

pub returns : goal.returns
returns c =
    let parted = IsPartitionedBy-ltb (λ (w : Waiter). w.request) _ c.args.request c.requires in
    let point = IsPartitionPoint-from_clause (λ (w : Waiter). ltb w.request c.args.request) _ _ c.partition_point.ensures.partitioned parted (λ a r q k. search rules) in (
      c.partition_point.ensures.bound,
      ((λ k d from below. ltb-true _ _ (point.0 k d from below)), (λ k d from within. ltb-false _ _ (point.1 k d from within))),
    )
