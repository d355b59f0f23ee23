use Rattle.std.proofs.Common.{◌≡◌, sym, subst, ◌∙◌, arith, Some}
use Rattle.kn_stats.specs.Changes.{pod_of}
use Rattle.kn_stats.specs.Totals.{counted}
use Rattle.kn_stats.specs.Stands.{CanChange, IsWithin, pods_by, with_pods}
use Rattle.kn_stats.proofs.Allowed.{can_count, room_at}
use Rattle.kn_stats.proofs.Steps.{within_changed}
use Rattle.kn_stats.proofs.stats.Stats.count.Goals as goal

pub change-requires : goal.change-requires
change-requires c = can_count _ c.self.invariant.within c.args.c (subst (λ s. CanChange s c.args.c) (sym c.self.view_is) c.requires)

pub update-requires-clause-room : goal.update-requires-clause-room
update-requires-clause-room c =
    let can = subst (λ s. CanChange s c.args.c) (sym c.self.view_is) c.requires in
    let room = room_at _ c.self.invariant.within c.args.c c.in-Some.p can (sym c.pod_of.ensures ∙ c.in-Some.is) in
    omega (arith, room, c.self.invariant.room)

pub invariant_of-self : goal.invariant_of-self
invariant_of-self c =
    let can = subst (λ s. CanChange s c.args.c) (sym c.self.view_is) c.requires in
    let named : pod_of c.args.c ≡ Some c.in-Some.p = sym c.pod_of.ensures ∙ c.in-Some.is in
    let old = c.self.inside in
    record {
      within =
          rw (c.update.ensures.put, c.change.ensures.state, c.second-second.ensures, c.left-left.ensures.left)
          (subst (λ o. IsWithin (with_pods (pods_by o old.totals.time c.args.c old.pods.items) (counted c.args.c old.totals))) named (within_changed _ c.self.invariant.within c.args.c can));
      room = omega (arith, c.update.ensures.capacity, c.self.invariant.room);
    }
