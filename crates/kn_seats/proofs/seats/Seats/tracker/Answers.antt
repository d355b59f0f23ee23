use Rattle.std.proofs.Common.{◌≡◌, ℕ, ◌<◌, get_or, length, ap, refl, sym, ◌∙◌, arith}
use Rattle.std.specs.Prelude.{map}
use Rattle.std.proofs.lemmas.Grind.{common_steps}
use Rattle.kn_seats.specs.declared.tracker.Tracker.{Tracker}
use Rattle.kn_seats.specs.Pods.{Pod, pod_at}
use Rattle.kn_seats.specs.Seats.{State}
use Rattle.kn_seats.specs.Kept.{IsPlaceOf, seen}
use Rattle.kn_seats.proofs.Chains.{length_requests}
use Rattle.kn_seats.proofs.Changes.{pod_here}
use Rattle.kn_seats.proofs.seats.Seats.tracker.Goals as goal

pub returns : goal.returns
returns c =
    let inside = c.self.inside in
    let held = c.self.invariant.held in
    let place : ℕ = c.place_of-place.result in
    let here : Tracker = c.index.result.now in
    let within : place < length inside.pods.items = grind (arith, common_steps) in
    let is : here ≡ get_or inside.pods.items place here = c.index.ensures in
    let pods_are : map (seen inside.cells) inside.pods.items ≡ c.args.self.now.pods = ap (λ (s : State). s.pods) c.self.view_is in
    let stands : IsPlaceOf c.args.p (map (seen inside.cells) inside.pods.items) place = rw pods_are c.place_of-place.ensures in
    let pod_is : pod_at c.args.p (map (seen inside.cells) inside.pods.items) ≡ seen inside.cells here =
    pod_here inside.pods.items inside.cells inside.pod_room inside.request_room held place here within is here refl c.args.p stands in
    let now_is : pod_at c.args.p c.args.self.now.pods ≡ seen inside.cells here = ap (pod_at c.args.p) (sym pods_are) ∙ pod_is in
    record {
      limit = ap (λ (q : Pod). q.limit) (sym now_is);
      running = ap (λ (q : Pod). q.running) (sym now_is);
      queued = sym (length_requests inside.cells.request.items inside.cells.next.items here.queue.first here.queue.count) ∙ ap (λ (q : Pod). length q.queued) (sym now_is);
    }
