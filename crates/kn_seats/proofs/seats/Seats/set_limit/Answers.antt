use Rattle.std.proofs.Common.{◌≡◌, ◌<◌, List, length, ap, refl, arith}
use Rattle.std.specs.Prelude.{map}
use Rattle.std.proofs.lemmas.Grind.{common_steps}
use Rattle.kn_seats.specs.Pods.{Pod}
use Rattle.kn_seats.specs.Seats.{State}
use Rattle.kn_seats.specs.Kept.{IsPlaceOf, seen}
use Rattle.kn_seats.proofs.Changes.{held-same, counted-same, changed-same, with_pods}
use Rattle.kn_seats.proofs.seats.Seats.set_limit.Goals as goal

pub invariant_of-self : goal.invariant_of-self
invariant_of-self c =
    let inside = c.self.inside in
    let held = c.self.invariant.held in
    let all = held.kept.requests_fit in
    let within : c.place_of-place.result < length inside.pods.items = grind (arith, common_steps) in
    record {
      held = held-same inside.pods.items inside.cells inside.pod_room inside.request_room held c.place_of-place.result c.index_mut.result.now within c.index_mut.ensures.value _ refl refl (omega arith);
      reserved = c.self.invariant.reserved;
    }

pub returns-clause-changed : goal.returns-clause-changed
returns-clause-changed c =
    let inside = c.self.inside in
    let pods_are : map (seen inside.cells) inside.pods.items ≡ c.args.self.now.pods = ap (λ (s : State). s.pods) c.self.view_is in
    let stands : IsPlaceOf c.args.p (map (seen inside.cells) inside.pods.items) c.place_of-place.result = rw pods_are c.place_of-place.ensures in
    let within : c.place_of-place.result < length inside.pods.items = grind (arith, common_steps) in
    rw (← c.self.view_is) (ap (λ (l : List Pod). with_pods l inside.pod_room inside.request_room)
    (changed-same inside.pods.items inside.cells inside.pod_room inside.request_room c.self.invariant.held c.place_of-place.result c.index_mut.result.now within c.index_mut.ensures.value
    _ refl refl c.args.p (λ pod. record pod { limit = c.args.n }) stands refl))

pub returns-clause-counted : goal.returns-clause-counted
returns-clause-counted c =
    let inside = c.self.inside in
    let within : c.place_of-place.result < length inside.pods.items = grind (arith, common_steps) in
    rw (← c.self.view_is)
    (let e = counted-same inside.pods.items inside.cells inside.pod_room inside.request_room c.self.invariant.held c.place_of-place.result c.index_mut.result.now within c.index_mut.ensures.value
    (record c.index_mut.result.now { limit = c.args.n }) refl refl in omega arith)
