use Rattle.std.proofs.Common.{◌≡◌, ℕ, ◌<◌, List, get_or, length, ap, sym, ◌∙◌, arith}
use Rattle.std.specs.Prelude.{map}
use Rattle.std.proofs.lemmas.Grind.{common_steps}
use Rattle.kn_seats.specs.Pods.{Pod, pod_at, requests_at}
use Rattle.kn_seats.specs.Seats.{State}
use Rattle.kn_seats.specs.Kept.{IsPlaceOf, seen}
use Rattle.kn_seats.proofs.Changes.{with_pods}
use Rattle.kn_seats.specs.Pods.{idle_pod}
use Rattle.kn_seats.proofs.Listed.{held-remove, seen-remove, counted-remove}
use Rattle.kn_seats.proofs.seats.Seats.remove.Goals as goal

pub invariant_of-self : goal.invariant_of-self
invariant_of-self c =
    let inside = c.self.inside in
    let held = c.self.invariant.held in
    let pods_are : map (seen inside.cells) inside.pods.items ≡ c.args.self.now.pods = ap (λ (s : State). s.pods) c.self.view_is in
    let place : ℕ = c.place_of-place.result in
    let within : place < length inside.pods.items = grind (arith, common_steps) in
    let stands : IsPlaceOf c.args.p (map (seen inside.cells) inside.pods.items) place = rw pods_are c.place_of-place.ensures in
    let d = idle_pod c.args.p 0 in
    let none : requests_at (get_or (map (seen inside.cells) inside.pods.items) place d) ≡ 0 =
    ap requests_at (stands.pod d) ∙ ap (λ (l : List Pod). requests_at (pod_at c.args.p l)) pods_are ∙ c.requires.none in
    record {
      held = rw c.remove.ensures.items (held-remove inside.pods.items inside.cells inside.pod_room inside.request_room held place within d none);
      reserved = omega (arith, c.remove.ensures.capacity, c.self.invariant.reserved);
    }

pub returns-clause-removed : goal.returns-clause-removed
returns-clause-removed c =
    let inside = c.self.inside in
    let held = c.self.invariant.held in
    let pods_are : map (seen inside.cells) inside.pods.items ≡ c.args.self.now.pods = ap (λ (s : State). s.pods) c.self.view_is in
    let place : ℕ = c.place_of-place.result in
    let within : place < length inside.pods.items = grind (arith, common_steps) in
    let stands : IsPlaceOf c.args.p (map (seen inside.cells) inside.pods.items) place = rw pods_are c.place_of-place.ensures in
    let d = idle_pod c.args.p 0 in
    let none : requests_at (get_or (map (seen inside.cells) inside.pods.items) place d) ≡ 0 =
    ap requests_at (stands.pod d) ∙ ap (λ (l : List Pod). requests_at (pod_at c.args.p l)) pods_are ∙ c.requires.none in
    rw (← c.self.view_is, c.remove.ensures.items) (ap (λ (l : List Pod). with_pods l inside.pod_room inside.request_room) (seen-remove inside.pods.items inside.cells inside.pod_room inside.request_room held place within ∙ sym stands.removed))

pub returns-clause-counted : goal.returns-clause-counted
returns-clause-counted c =
    let inside = c.self.inside in
    let held = c.self.invariant.held in
    let pods_are : map (seen inside.cells) inside.pods.items ≡ c.args.self.now.pods = ap (λ (s : State). s.pods) c.self.view_is in
    let place : ℕ = c.place_of-place.result in
    let within : place < length inside.pods.items = grind (arith, common_steps) in
    let stands : IsPlaceOf c.args.p (map (seen inside.cells) inside.pods.items) place = rw pods_are c.place_of-place.ensures in
    let d = idle_pod c.args.p 0 in
    let none : requests_at (get_or (map (seen inside.cells) inside.pods.items) place d) ≡ 0 =
    ap requests_at (stands.pod d) ∙ ap (λ (l : List Pod). requests_at (pod_at c.args.p l)) pods_are ∙ c.requires.none in
    rw (← c.self.view_is, c.remove.ensures.items) (counted-remove inside.pods.items inside.cells inside.pod_room inside.request_room held place within d none)
