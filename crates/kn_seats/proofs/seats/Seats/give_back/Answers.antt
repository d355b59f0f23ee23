use Rattle.std.proofs.Common.{◌≡◌, ℕ, ◌-◌, ◌<◌, List, get_or, length, ap, refl, sym, ◌∙◌, arith}
use Rattle.std.specs.Prelude.{map}
use Rattle.std.proofs.lemmas.Grind.{common_steps}
use Rattle.kn_seats.specs.declared.tracker.Tracker.{Tracker}
use Rattle.kn_seats.specs.Pods.{Pod, pod_at}
use Rattle.kn_seats.specs.Seats.{State}
use Rattle.kn_seats.specs.Kept.{IsPlaceOf, seen}
use Rattle.kn_seats.proofs.Changes.{pod_here, held-same, counted-same, changed-same, with_pods}
use Rattle.kn_seats.proofs.Places.{pod_at-changed}
use Rattle.kn_seats.proofs.seats.Seats.give_back.Goals as goal

pub overflow_sub-pod : goal.overflow_sub-pod
overflow_sub-pod c =
    let inside = c.self.inside in
    let held = c.self.invariant.held in
    let place : ℕ = c.place_of-place.result in
    let here : Tracker = c.index_mut-pod.result.now in
    let within : place < length inside.pods.items = grind (arith, common_steps) in
    let is : here ≡ get_or inside.pods.items place here = c.index_mut-pod.ensures.value in
    let pods_are : map (seen inside.cells) inside.pods.items ≡ c.args.self.now.pods = ap (λ (s : State). s.pods) c.self.view_is in
    let stands : IsPlaceOf c.args.p (map (seen inside.cells) inside.pods.items) place = rw pods_are c.place_of-place.ensures in
    let pod_is : pod_at c.args.p (map (seen inside.cells) inside.pods.items) ≡ seen inside.cells here =
    pod_here inside.pods.items inside.cells inside.pod_room inside.request_room held place here within is here refl c.args.p stands in
    let now_is : pod_at c.args.p c.args.self.now.pods ≡ seen inside.cells here = ap (pod_at c.args.p) (sym pods_are) ∙ pod_is in
    let some : 0 < here.running = let e = ap (λ (q : Pod). q.running) pod_is in rw (← e, pods_are) c.requires.running in
    omega arith

pub invariant_of-self : goal.invariant_of-self
invariant_of-self c =
    let inside = c.self.inside in
    let held = c.self.invariant.held in
    let place : ℕ = c.place_of-place.result in
    let here : Tracker = c.index_mut-pod.result.now in
    let within : place < length inside.pods.items = grind (arith, common_steps) in
    let is : here ≡ get_or inside.pods.items place here = c.index_mut-pod.ensures.value in
    let pods_are : map (seen inside.cells) inside.pods.items ≡ c.args.self.now.pods = ap (λ (s : State). s.pods) c.self.view_is in
    let stands : IsPlaceOf c.args.p (map (seen inside.cells) inside.pods.items) place = rw pods_are c.place_of-place.ensures in
    let pod_is : pod_at c.args.p (map (seen inside.cells) inside.pods.items) ≡ seen inside.cells here =
    pod_here inside.pods.items inside.cells inside.pod_room inside.request_room held place here within is here refl c.args.p stands in
    let now_is : pod_at c.args.p c.args.self.now.pods ≡ seen inside.cells here = ap (pod_at c.args.p) (sym pods_are) ∙ pod_is in
    let some : 0 < here.running = let e = ap (λ (q : Pod). q.running) pod_is in rw (← e, pods_are) c.requires.running in
    let all = held.kept.requests_fit in
    record { held = held-same inside.pods.items inside.cells inside.pod_room inside.request_room held place here within is (record here { running = here.running - 1 }) refl refl (omega arith); reserved = c.self.invariant.reserved }

pub returns-clause-changed : goal.returns-clause-changed
returns-clause-changed c =
    let inside = c.self.inside in
    let held = c.self.invariant.held in
    let place : ℕ = c.place_of-place.result in
    let here : Tracker = c.index_mut-pod.result.now in
    let within : place < length inside.pods.items = grind (arith, common_steps) in
    let is : here ≡ get_or inside.pods.items place here = c.index_mut-pod.ensures.value in
    let pods_are : map (seen inside.cells) inside.pods.items ≡ c.args.self.now.pods = ap (λ (s : State). s.pods) c.self.view_is in
    let stands : IsPlaceOf c.args.p (map (seen inside.cells) inside.pods.items) place = rw pods_are c.place_of-place.ensures in
    let pod_is : pod_at c.args.p (map (seen inside.cells) inside.pods.items) ≡ seen inside.cells here =
    pod_here inside.pods.items inside.cells inside.pod_room inside.request_room held place here within is here refl c.args.p stands in
    let now_is : pod_at c.args.p c.args.self.now.pods ≡ seen inside.cells here = ap (pod_at c.args.p) (sym pods_are) ∙ pod_is in
    rw (← c.self.view_is) (ap (λ (l : List Pod). with_pods l inside.pod_room inside.request_room)
    (changed-same inside.pods.items inside.cells inside.pod_room inside.request_room held place here within is (record here { running = here.running - 1 }) refl refl c.args.p (λ pod. record pod { running = pod.running - 1 }) stands refl))

pub returns-clause-counted : goal.returns-clause-counted
returns-clause-counted c =
    let inside = c.self.inside in
    let held = c.self.invariant.held in
    let place : ℕ = c.place_of-place.result in
    let here : Tracker = c.index_mut-pod.result.now in
    let within : place < length inside.pods.items = grind (arith, common_steps) in
    let is : here ≡ get_or inside.pods.items place here = c.index_mut-pod.ensures.value in
    let pods_are : map (seen inside.cells) inside.pods.items ≡ c.args.self.now.pods = ap (λ (s : State). s.pods) c.self.view_is in
    let stands : IsPlaceOf c.args.p (map (seen inside.cells) inside.pods.items) place = rw pods_are c.place_of-place.ensures in
    let pod_is : pod_at c.args.p (map (seen inside.cells) inside.pods.items) ≡ seen inside.cells here =
    pod_here inside.pods.items inside.cells inside.pod_room inside.request_room held place here within is here refl c.args.p stands in
    let now_is : pod_at c.args.p c.args.self.now.pods ≡ seen inside.cells here = ap (pod_at c.args.p) (sym pods_are) ∙ pod_is in
    let some : 0 < here.running = let e = ap (λ (q : Pod). q.running) pod_is in rw (← e, pods_are) c.requires.running in
    rw (← c.self.view_is) (let e = counted-same inside.pods.items inside.cells inside.pod_room inside.request_room held place here within is (record here { running = here.running - 1 }) refl refl in omega arith)

pub returns-clause-next : goal.returns-clause-next
returns-clause-next c =
    let inside = c.self.inside in
    let held = c.self.invariant.held in
    let place : ℕ = c.place_of-place.result in
    let here : Tracker = c.index_mut-pod.result.now in
    let within : place < length inside.pods.items = grind (arith, common_steps) in
    let is : here ≡ get_or inside.pods.items place here = c.index_mut-pod.ensures.value in
    let pods_are : map (seen inside.cells) inside.pods.items ≡ c.args.self.now.pods = ap (λ (s : State). s.pods) c.self.view_is in
    let stands : IsPlaceOf c.args.p (map (seen inside.cells) inside.pods.items) place = rw pods_are c.place_of-place.ensures in
    let pod_is : pod_at c.args.p (map (seen inside.cells) inside.pods.items) ≡ seen inside.cells here =
    pod_here inside.pods.items inside.cells inside.pod_room inside.request_room held place here within is here refl c.args.p stands in
    let by : Pod → Pod = λ pod. record pod { running = pod.running - 1 } in
    let after = ap (pod_at c.args.p) (changed-same inside.pods.items inside.cells inside.pod_room inside.request_room held place here within is (record here { running = here.running - 1 }) refl refl c.args.p by stands refl)
    ∙ pod_at-changed c.args.p by (λ x. refl) (map (seen inside.cells) inside.pods.items) (rw pods_are c.requires.there) ∙ ap by pod_is in
    rw after (c.has_next.ensures inside.cells)

pub returns-clause-draining : goal.returns-clause-draining
returns-clause-draining c =
    let inside = c.self.inside in
    let held = c.self.invariant.held in
    let place : ℕ = c.place_of-place.result in
    let here : Tracker = c.index_mut-pod.result.now in
    let within : place < length inside.pods.items = grind (arith, common_steps) in
    let is : here ≡ get_or inside.pods.items place here = c.index_mut-pod.ensures.value in
    let pods_are : map (seen inside.cells) inside.pods.items ≡ c.args.self.now.pods = ap (λ (s : State). s.pods) c.self.view_is in
    let stands : IsPlaceOf c.args.p (map (seen inside.cells) inside.pods.items) place = rw pods_are c.place_of-place.ensures in
    let pod_is : pod_at c.args.p (map (seen inside.cells) inside.pods.items) ≡ seen inside.cells here =
    pod_here inside.pods.items inside.cells inside.pod_room inside.request_room held place here within is here refl c.args.p stands in
    let by : Pod → Pod = λ pod. record pod { running = pod.running - 1 } in
    let after = ap (pod_at c.args.p) (changed-same inside.pods.items inside.cells inside.pod_room inside.request_room held place here within is (record here { running = here.running - 1 }) refl refl c.args.p by stands refl)
    ∙ pod_at-changed c.args.p by (λ x. refl) (map (seen inside.cells) inside.pods.items) (rw pods_are c.requires.there) ∙ ap by pod_is in
    rw after refl
