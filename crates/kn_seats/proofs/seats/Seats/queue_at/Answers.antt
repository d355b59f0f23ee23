use Rattle.std.proofs.Common.{◌≡◌, ℕ, ◌+◌, ◌<◌, ◌++◌, ◌∷◌, List, [], get_or, length, ap, refl, sym, ◌∙◌, arith, not}
use Rattle.std.specs.Prelude.{map}
use Rattle.std.proofs.lemmas.Grind.{common_steps}
use Rattle.kn_seats.specs.declared.tracker.Tracker.{Tracker}
use Rattle.kn_seats.specs.Pods.{Pod, pod_at, requests_at_all, is_full}
use Rattle.kn_seats.specs.Seats.{State}
use Rattle.kn_seats.specs.Kept.{IsPlaceOf, seen}
use Rattle.kn_seats.proofs.Held.{here_queued, here_requests, held-set, counted-set, changed-set}
use Rattle.kn_seats.proofs.Changes.{can_take, fits_pushed, pod_here, with_pods, last_inside, owner_pushed, pushed_cells, queued_list}
use Rattle.kn_seats.proofs.seats.Seats.queue_at.Goals as goal

pub is_full-requires : goal.is_full-requires
is_full-requires c =
    let inside = c.self.inside in
    let held = c.self.invariant.held in
    let place : ℕ = c.place_of-place.result in
    let here : Tracker = c.index_mut-pod.result.now in
    let within : place < length inside.pods.items = grind (arith, common_steps) in
    let is : here ≡ get_or inside.pods.items place here = c.index_mut-pod.ensures.value in
    let pods_are : map (seen inside.cells) inside.pods.items ≡ c.args.self.now.pods = ap (λ (s : State). s.pods) c.self.view_is in
    let stands : IsPlaceOf c.args.p (map (seen inside.cells) inside.pods.items) place = rw pods_are c.place_of-place.ensures in
    let pod_is : pod_at c.args.p (map (seen inside.cells) inside.pods.items) ≡ seen inside.cells here =
    pod_here inside.pods.items inside.cells inside.pod_room inside.request_room held place here within is here refl c.args.p stands in
    let now_is : pod_at c.args.p c.args.self.now.pods ≡ seen inside.cells here = ap (pod_at c.args.p) (sym pods_are) ∙ pod_is in
    let few = here_requests inside.pods.items inside.cells inside.pod_room inside.request_room held place here within is in
    let most = held.kept.most_requests in
    omega arith

pub returns-then-is_full-clause-not_full : goal.returns-then-is_full-clause-not_full
returns-then-is_full-clause-not_full c =
    let inside = c.self.inside in
    let held = c.self.invariant.held in
    let place : ℕ = c.place_of-place.result in
    let here : Tracker = c.index_mut-pod.result.now in
    let within : place < length inside.pods.items = grind (arith, common_steps) in
    let is : here ≡ get_or inside.pods.items place here = c.index_mut-pod.ensures.value in
    let pods_are : map (seen inside.cells) inside.pods.items ≡ c.args.self.now.pods = ap (λ (s : State). s.pods) c.self.view_is in
    let stands : IsPlaceOf c.args.p (map (seen inside.cells) inside.pods.items) place = rw pods_are c.place_of-place.ensures in
    let pod_is : pod_at c.args.p (map (seen inside.cells) inside.pods.items) ≡ seen inside.cells here =
    pod_here inside.pods.items inside.cells inside.pod_room inside.request_room held place here within is here refl c.args.p stands in
    let now_is : pod_at c.args.p c.args.self.now.pods ≡ seen inside.cells here = ap (pod_at c.args.p) (sym pods_are) ∙ pod_is in
    ap not (c.if-is_full.ensures inside.cells ∙ ap is_full (sym now_is))

pub push-requires-clause-cell : goal.push-requires-clause-cell
push-requires-clause-cell c =
    let inside = c.self.inside in
    let held = c.self.invariant.held in
    let pods_are : map (seen inside.cells) inside.pods.items ≡ c.args.self.now.pods = ap (λ (s : State). s.pods) c.self.view_is in
    let room : inside.request_room ≡ c.args.self.now.request_room = ap (λ (s : State). s.request_room) c.self.view_is in
    let requests : requests_at_all (map (seen inside.cells) inside.pods.items) ≡ requests_at_all c.args.self.now.pods = ap requests_at_all pods_are in
    let left = c.requires.room in
    can_take inside.pods.items inside.cells inside.pod_room inside.request_room held (omega arith)

pub push-requires-clause-last : goal.push-requires-clause-last
push-requires-clause-last c =
    let inside = c.self.inside in
    let held = c.self.invariant.held in
    let place : ℕ = c.place_of-place.result in
    let here : Tracker = c.index_mut-pod.result.now in
    let within : place < length inside.pods.items = grind (arith, common_steps) in
    let is : here ≡ get_or inside.pods.items place here = c.index_mut-pod.ensures.value in
    let pods_are : map (seen inside.cells) inside.pods.items ≡ c.args.self.now.pods = ap (λ (s : State). s.pods) c.self.view_is in
    let stands : IsPlaceOf c.args.p (map (seen inside.cells) inside.pods.items) place = rw pods_are c.place_of-place.ensures in
    let pod_is : pod_at c.args.p (map (seen inside.cells) inside.pods.items) ≡ seen inside.cells here =
    pod_here inside.pods.items inside.cells inside.pod_room inside.request_room held place here within is here refl c.args.p stands in
    let now_is : pod_at c.args.p c.args.self.now.pods ≡ seen inside.cells here = ap (pod_at c.args.p) (sym pods_are) ∙ pod_is in
    last_inside inside.pods.items inside.cells inside.pod_room inside.request_room held place here within is here refl

pub push-requires-clause-fits : goal.push-requires-clause-fits
push-requires-clause-fits c =
    let inside = c.self.inside in
    let held = c.self.invariant.held in
    let place : ℕ = c.place_of-place.result in
    let here : Tracker = c.index_mut-pod.result.now in
    let within : place < length inside.pods.items = grind (arith, common_steps) in
    let is : here ≡ get_or inside.pods.items place here = c.index_mut-pod.ensures.value in
    let pods_are : map (seen inside.cells) inside.pods.items ≡ c.args.self.now.pods = ap (λ (s : State). s.pods) c.self.view_is in
    let stands : IsPlaceOf c.args.p (map (seen inside.cells) inside.pods.items) place = rw pods_are c.place_of-place.ensures in
    let pod_is : pod_at c.args.p (map (seen inside.cells) inside.pods.items) ≡ seen inside.cells here =
    pod_here inside.pods.items inside.cells inside.pod_room inside.request_room held place here within is here refl c.args.p stands in
    let now_is : pod_at c.args.p c.args.self.now.pods ≡ seen inside.cells here = ap (pod_at c.args.p) (sym pods_are) ∙ pod_is in
    omega (arith, here_queued inside.pods.items inside.cells inside.pod_room inside.request_room held place here within is, held.kept.cells_fit, held.kept.most_requests)

pub invariant_of-self-2 : goal.invariant_of-self-2
invariant_of-self-2 c =
    let inside = c.self.inside in
    let held = c.self.invariant.held in
    let place : ℕ = c.place_of-place.result in
    let here : Tracker = c.index_mut-pod.result.now in
    let within : place < length inside.pods.items = grind (arith, common_steps) in
    let is : here ≡ get_or inside.pods.items place here = c.index_mut-pod.ensures.value in
    let pods_are : map (seen inside.cells) inside.pods.items ≡ c.args.self.now.pods = ap (λ (s : State). s.pods) c.self.view_is in
    let stands : IsPlaceOf c.args.p (map (seen inside.cells) inside.pods.items) place = rw pods_are c.place_of-place.ensures in
    let pod_is : pod_at c.args.p (map (seen inside.cells) inside.pods.items) ≡ seen inside.cells here =
    pod_here inside.pods.items inside.cells inside.pod_room inside.request_room held place here within is here refl c.args.p stands in
    let now_is : pod_at c.args.p c.args.self.now.pods ≡ seen inside.cells here = ap (pod_at c.args.p) (sym pods_are) ∙ pod_is in
    let room : inside.request_room ≡ c.args.self.now.request_room = ap (λ (s : State). s.request_room) c.self.view_is in
    let requests : requests_at_all (map (seen inside.cells) inside.pods.items) ≡ requests_at_all c.args.self.now.pods = ap requests_at_all pods_are in
    let left = c.requires.room in
    let longer : c.push.new.self.count ≡ here.queue.count + 1 = c.push.ensures.count in
    record { held = held-set inside.pods.items inside.cells inside.pod_room inside.request_room held place here within is (record here { queue = c.push.new.self }) c.push.new.cells (owner_pushed inside.pods.items inside.cells inside.pod_room inside.request_room held place here within is (record here { queue = c.push.new.self }) refl c.args.r c.push.new.cells c.push.ensures) (pushed_cells inside.pods.items inside.cells inside.pod_room inside.request_room held place here within is (record here { queue = c.push.new.self }) refl c.args.r c.push.new.cells c.push.ensures) (omega arith) (fits_pushed inside.pods.items inside.cells inside.pod_room inside.request_room held place here within is (record here { queue = c.push.new.self }) refl c.args.r c.push.new.cells c.push.ensures (omega arith)); reserved = c.self.invariant.reserved }

pub returns-clause-not_full : goal.returns-clause-not_full
returns-clause-not_full c =
    let inside = c.self.inside in
    let held = c.self.invariant.held in
    let place : ℕ = c.place_of-place.result in
    let here : Tracker = c.index_mut-pod.result.now in
    let within : place < length inside.pods.items = grind (arith, common_steps) in
    let is : here ≡ get_or inside.pods.items place here = c.index_mut-pod.ensures.value in
    let pods_are : map (seen inside.cells) inside.pods.items ≡ c.args.self.now.pods = ap (λ (s : State). s.pods) c.self.view_is in
    let stands : IsPlaceOf c.args.p (map (seen inside.cells) inside.pods.items) place = rw pods_are c.place_of-place.ensures in
    let pod_is : pod_at c.args.p (map (seen inside.cells) inside.pods.items) ≡ seen inside.cells here =
    pod_here inside.pods.items inside.cells inside.pod_room inside.request_room held place here within is here refl c.args.p stands in
    let now_is : pod_at c.args.p c.args.self.now.pods ≡ seen inside.cells here = ap (pod_at c.args.p) (sym pods_are) ∙ pod_is in
    ap not (c.if-is_full.ensures inside.cells ∙ ap is_full (sym now_is))

pub returns-clause-queued : goal.returns-clause-queued
returns-clause-queued c =
    let inside = c.self.inside in
    let held = c.self.invariant.held in
    let place : ℕ = c.place_of-place.result in
    let here : Tracker = c.index_mut-pod.result.now in
    let within : place < length inside.pods.items = grind (arith, common_steps) in
    let is : here ≡ get_or inside.pods.items place here = c.index_mut-pod.ensures.value in
    let pods_are : map (seen inside.cells) inside.pods.items ≡ c.args.self.now.pods = ap (λ (s : State). s.pods) c.self.view_is in
    let stands : IsPlaceOf c.args.p (map (seen inside.cells) inside.pods.items) place = rw pods_are c.place_of-place.ensures in
    let pod_is : pod_at c.args.p (map (seen inside.cells) inside.pods.items) ≡ seen inside.cells here =
    pod_here inside.pods.items inside.cells inside.pod_room inside.request_room held place here within is here refl c.args.p stands in
    let now_is : pod_at c.args.p c.args.self.now.pods ≡ seen inside.cells here = ap (pod_at c.args.p) (sym pods_are) ∙ pod_is in
    let list = queued_list inside.pods.items inside.cells inside.pod_room inside.request_room held place here within is (record here { queue = c.push.new.self }) refl c.args.r c.push.new.cells c.push.ensures in
    rw (← c.self.view_is) (ap (λ (l : List Pod). with_pods l inside.pod_room inside.request_room)
    (changed-set inside.pods.items inside.cells inside.pod_room inside.request_room held place here within is (record here { queue = c.push.new.self }) c.push.new.cells (owner_pushed inside.pods.items inside.cells inside.pod_room inside.request_room held place here within is (record here { queue = c.push.new.self }) refl c.args.r c.push.new.cells c.push.ensures) (pushed_cells inside.pods.items inside.cells inside.pod_room inside.request_room held place here within is (record here { queue = c.push.new.self }) refl c.args.r c.push.new.cells c.push.ensures) c.args.p (λ pod. record pod { queued = pod.queued ++ c.args.r ∷ [] }) stands
    (ap (λ (l : List ℕ). record (seen inside.cells here) { queued = l }) (sym list))))

pub returns-clause-counted : goal.returns-clause-counted
returns-clause-counted c =
    let inside = c.self.inside in
    let held = c.self.invariant.held in
    let place : ℕ = c.place_of-place.result in
    let here : Tracker = c.index_mut-pod.result.now in
    let within : place < length inside.pods.items = grind (arith, common_steps) in
    let is : here ≡ get_or inside.pods.items place here = c.index_mut-pod.ensures.value in
    let pods_are : map (seen inside.cells) inside.pods.items ≡ c.args.self.now.pods = ap (λ (s : State). s.pods) c.self.view_is in
    let stands : IsPlaceOf c.args.p (map (seen inside.cells) inside.pods.items) place = rw pods_are c.place_of-place.ensures in
    let pod_is : pod_at c.args.p (map (seen inside.cells) inside.pods.items) ≡ seen inside.cells here =
    pod_here inside.pods.items inside.cells inside.pod_room inside.request_room held place here within is here refl c.args.p stands in
    let now_is : pod_at c.args.p c.args.self.now.pods ≡ seen inside.cells here = ap (pod_at c.args.p) (sym pods_are) ∙ pod_is in
    let longer : c.push.new.self.count ≡ here.queue.count + 1 = c.push.ensures.count in
    rw (← c.self.view_is) (let e = counted-set inside.pods.items inside.cells inside.pod_room inside.request_room held place here within is (record here { queue = c.push.new.self }) c.push.new.cells (owner_pushed inside.pods.items inside.cells inside.pod_room inside.request_room held place here within is (record here { queue = c.push.new.self }) refl c.args.r c.push.new.cells c.push.ensures) (pushed_cells inside.pods.items inside.cells inside.pod_room inside.request_room held place here within is (record here { queue = c.push.new.self }) refl c.args.r c.push.new.cells c.push.ensures) in omega arith)
