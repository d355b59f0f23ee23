use Rattle.std.proofs.Common.{◌≡◌, ℕ, ◌+◌, ◌<◌, List, get_or, length, ap, refl, sym, ◌∙◌, arith}
use Rattle.std.specs.Prelude.{map}
use Rattle.std.proofs.lemmas.Grind.{common_steps}
use Rattle.kn_seats.specs.declared.tracker.Tracker.{Tracker}
use Rattle.kn_seats.specs.Pods.{Pod, pod_at, requests_at_all, has_free_seat}
use Rattle.kn_seats.specs.Seats.{State}
use Rattle.kn_seats.specs.Kept.{IsPlaceOf, seen}
use Rattle.kn_seats.proofs.Held.{here_requests}
use Rattle.kn_seats.proofs.Changes.{pod_here, held-same, counted-same, changed-same, with_pods}
use Rattle.kn_seats.proofs.seats.Seats.reserve_seat.Goals as goal

pub returns-then-not-has_free_seat-clause-free : goal.returns-then-not-has_free_seat-clause-free
returns-then-not-has_free_seat-clause-free c =
    let inside = c.self.inside in
    let held = c.self.invariant.held in
    let place : ℕ = c.place_of-place.result in
    let here : Tracker = c.index_mut-pod.result.now in
    let within : place < length inside.pods.items = grind (arith, common_steps) in
    let is : here ≡ get_or inside.pods.items place here = c.index_mut-pod.ensures.value in
    let pods_are : map (seen inside.cells) inside.pods.items ≡ c.args.self.now.pods = ap (λ (s : State). s.pods) c.self.view_is in
    let stands : IsPlaceOf c.args.p (map (seen inside.cells) inside.pods.items) place = rw pods_are c.place_of-place.ensures in
    let pod_is : pod_at c.args.p (map (seen inside.cells) inside.pods.items) ≡ seen inside.cells here =
    pod_here inside.pods.items inside.cells inside.pod_room inside.request_room held place here within is here refl c.args.p stands in
    let now_is : pod_at c.args.p c.args.self.now.pods ≡ seen inside.cells here = ap (pod_at c.args.p) (sym pods_are) ∙ pod_is in
    c.if-not-has_free_seat.ensures inside.cells ∙ ap has_free_seat (sym pod_is ∙ ap (pod_at c.args.p) pods_are)

pub overflow_add-pod : goal.overflow_add-pod
overflow_add-pod c =
    let inside = c.self.inside in
    let held = c.self.invariant.held in
    let place : ℕ = c.place_of-place.result in
    let here : Tracker = c.index_mut-pod.result.now in
    let within : place < length inside.pods.items = grind (arith, common_steps) in
    let is : here ≡ get_or inside.pods.items place here = c.index_mut-pod.ensures.value in
    let pods_are : map (seen inside.cells) inside.pods.items ≡ c.args.self.now.pods = ap (λ (s : State). s.pods) c.self.view_is in
    let stands : IsPlaceOf c.args.p (map (seen inside.cells) inside.pods.items) place = rw pods_are c.place_of-place.ensures in
    let pod_is : pod_at c.args.p (map (seen inside.cells) inside.pods.items) ≡ seen inside.cells here =
    pod_here inside.pods.items inside.cells inside.pod_room inside.request_room held place here within is here refl c.args.p stands in
    let now_is : pod_at c.args.p c.args.self.now.pods ≡ seen inside.cells here = ap (pod_at c.args.p) (sym pods_are) ∙ pod_is in
    let few = here_requests inside.pods.items inside.cells inside.pod_room inside.request_room held place here within is in
    let most = held.kept.most_requests in
    omega arith

pub invariant_of-self-2 : goal.invariant_of-self-2
invariant_of-self-2 c =
    let inside = c.self.inside in
    let held = c.self.invariant.held in
    let place : ℕ = c.place_of-place.result in
    let here : Tracker = c.index_mut-pod.result.now in
    let within : place < length inside.pods.items = grind (arith, common_steps) in
    let is : here ≡ get_or inside.pods.items place here = c.index_mut-pod.ensures.value in
    let pods_are : map (seen inside.cells) inside.pods.items ≡ c.args.self.now.pods = ap (λ (s : State). s.pods) c.self.view_is in
    let stands : IsPlaceOf c.args.p (map (seen inside.cells) inside.pods.items) place = rw pods_are c.place_of-place.ensures in
    let pod_is : pod_at c.args.p (map (seen inside.cells) inside.pods.items) ≡ seen inside.cells here =
    pod_here inside.pods.items inside.cells inside.pod_room inside.request_room held place here within is here refl c.args.p stands in
    let now_is : pod_at c.args.p c.args.self.now.pods ≡ seen inside.cells here = ap (pod_at c.args.p) (sym pods_are) ∙ pod_is in
    let room : inside.request_room ≡ c.args.self.now.request_room = ap (λ (s : State). s.request_room) c.self.view_is in
    let requests : requests_at_all (map (seen inside.cells) inside.pods.items) ≡ requests_at_all c.args.self.now.pods = ap requests_at_all pods_are in
    let left = c.requires.room in
    record { held = held-same inside.pods.items inside.cells inside.pod_room inside.request_room held place here within is (record here { running = here.running + 1 }) refl refl (omega arith); reserved = c.self.invariant.reserved }

pub returns-clause-free : goal.returns-clause-free
returns-clause-free c =
    let inside = c.self.inside in
    let held = c.self.invariant.held in
    let place : ℕ = c.place_of-place.result in
    let here : Tracker = c.index_mut-pod.result.now in
    let within : place < length inside.pods.items = grind (arith, common_steps) in
    let is : here ≡ get_or inside.pods.items place here = c.index_mut-pod.ensures.value in
    let pods_are : map (seen inside.cells) inside.pods.items ≡ c.args.self.now.pods = ap (λ (s : State). s.pods) c.self.view_is in
    let stands : IsPlaceOf c.args.p (map (seen inside.cells) inside.pods.items) place = rw pods_are c.place_of-place.ensures in
    let pod_is : pod_at c.args.p (map (seen inside.cells) inside.pods.items) ≡ seen inside.cells here =
    pod_here inside.pods.items inside.cells inside.pod_room inside.request_room held place here within is here refl c.args.p stands in
    let now_is : pod_at c.args.p c.args.self.now.pods ≡ seen inside.cells here = ap (pod_at c.args.p) (sym pods_are) ∙ pod_is in
    c.if-not-has_free_seat.ensures inside.cells ∙ ap has_free_seat (sym pod_is ∙ ap (pod_at c.args.p) pods_are)

pub returns-clause-reserved : goal.returns-clause-reserved
returns-clause-reserved c =
    let inside = c.self.inside in
    let held = c.self.invariant.held in
    let place : ℕ = c.place_of-place.result in
    let here : Tracker = c.index_mut-pod.result.now in
    let within : place < length inside.pods.items = grind (arith, common_steps) in
    let is : here ≡ get_or inside.pods.items place here = c.index_mut-pod.ensures.value in
    let pods_are : map (seen inside.cells) inside.pods.items ≡ c.args.self.now.pods = ap (λ (s : State). s.pods) c.self.view_is in
    let stands : IsPlaceOf c.args.p (map (seen inside.cells) inside.pods.items) place = rw pods_are c.place_of-place.ensures in
    let pod_is : pod_at c.args.p (map (seen inside.cells) inside.pods.items) ≡ seen inside.cells here =
    pod_here inside.pods.items inside.cells inside.pod_room inside.request_room held place here within is here refl c.args.p stands in
    let now_is : pod_at c.args.p c.args.self.now.pods ≡ seen inside.cells here = ap (pod_at c.args.p) (sym pods_are) ∙ pod_is in
    rw (← c.self.view_is) (ap (λ (l : List Pod). with_pods l inside.pod_room inside.request_room)
    (changed-same inside.pods.items inside.cells inside.pod_room inside.request_room held place here within is (record here { running = here.running + 1 }) refl refl c.args.p (λ pod. record pod { running = pod.running + 1 }) stands refl))

pub returns-clause-counted : goal.returns-clause-counted
returns-clause-counted c =
    let inside = c.self.inside in
    let held = c.self.invariant.held in
    let place : ℕ = c.place_of-place.result in
    let here : Tracker = c.index_mut-pod.result.now in
    let within : place < length inside.pods.items = grind (arith, common_steps) in
    let is : here ≡ get_or inside.pods.items place here = c.index_mut-pod.ensures.value in
    let pods_are : map (seen inside.cells) inside.pods.items ≡ c.args.self.now.pods = ap (λ (s : State). s.pods) c.self.view_is in
    let stands : IsPlaceOf c.args.p (map (seen inside.cells) inside.pods.items) place = rw pods_are c.place_of-place.ensures in
    let pod_is : pod_at c.args.p (map (seen inside.cells) inside.pods.items) ≡ seen inside.cells here =
    pod_here inside.pods.items inside.cells inside.pod_room inside.request_room held place here within is here refl c.args.p stands in
    let now_is : pod_at c.args.p c.args.self.now.pods ≡ seen inside.cells here = ap (pod_at c.args.p) (sym pods_are) ∙ pod_is in
    rw (← c.self.view_is) (let e = counted-same inside.pods.items inside.cells inside.pod_room inside.request_room held place here within is (record here { running = here.running + 1 }) refl refl in omega arith)
