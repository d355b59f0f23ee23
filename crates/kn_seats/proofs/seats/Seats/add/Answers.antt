use Rattle.std.proofs.Common.{◌≡◌, ◌<◌, List, length, ap, sym, subst, arith}
use Rattle.std.specs.Prelude.{map}
use Rattle.kn_seats.specs.Pods.{Pod, requests_at, requests_at_all}
use Rattle.kn_seats.specs.Seats.{State}
use Rattle.kn_seats.specs.Kept.{seen}
use Rattle.kn_seats.proofs.Changes.{with_pods}
use Rattle.std.specs.Prelude.{All}
use Rattle.std.proofs.lemmas.List.{length-map}
use Rattle.std.proofs.lemmas.List.Sums.{sum_by_push}
use Rattle.kn_seats.specs.Pods.{idle_pod}
use Rattle.kn_seats.proofs.Listed.{held-add, seen-add}
use Rattle.kn_seats.proofs.seats.Seats.add.Goals as goal

pub invariant_of-self : goal.invariant_of-self
invariant_of-self c =
    let inside = c.self.inside in
    let held = c.self.invariant.held in
    let pods_are : map (seen inside.cells) inside.pods.items ≡ c.args.self.now.pods = ap (λ (s : State). s.pods) c.self.view_is in
    let rooms : inside.pod_room ≡ c.args.self.now.pod_room = ap (λ (s : State). s.pod_room) c.self.view_is in
    let many : length (map (seen inside.cells) inside.pods.items) ≡ length c.args.self.now.pods = ap (λ (l : List Pod). length l) pods_are in
    let room : length inside.pods.items < inside.pod_room = omega (arith, c.requires.room, length-map inside.pods.items (seen inside.cells)) in
    record {
      held = rw (c.push_reserved.ensures.items, c.idle.ensures)
          (held-add inside.pods.items inside.cells inside.pod_room inside.request_room held c.args.p c.args.limit room (subst (λ l. All (λ q. q.number < c.args.p) l) (sym pods_are) c.requires.last));
      reserved = omega (arith, c.push_reserved.ensures.capacity, c.self.invariant.reserved);
    }

pub returns-clause-added : goal.returns-clause-added
returns-clause-added c =
    let inside = c.self.inside in
    let held = c.self.invariant.held in
    let pods_are : map (seen inside.cells) inside.pods.items ≡ c.args.self.now.pods = ap (λ (s : State). s.pods) c.self.view_is in
    rw (← c.self.view_is, c.push_reserved.ensures.items, c.idle.ensures) (ap (λ (l : List Pod). with_pods l inside.pod_room inside.request_room)
    (seen-add inside.pods.items inside.cells inside.pod_room inside.request_room held c.args.p c.args.limit))

pub returns-clause-counted : goal.returns-clause-counted
returns-clause-counted c =
    let inside = c.self.inside in
    let held = c.self.invariant.held in
    let pods_are : map (seen inside.cells) inside.pods.items ≡ c.args.self.now.pods = ap (λ (s : State). s.pods) c.self.view_is in
    rw (← c.self.view_is, c.push_reserved.ensures.items, c.idle.ensures) (
    let all = ap requests_at_all (seen-add inside.pods.items inside.cells inside.pod_room inside.request_room held c.args.p c.args.limit) in
    let sums = sum_by_push requests_at (map (seen inside.cells) inside.pods.items) (idle_pod c.args.p c.args.limit) in
    omega arith)
