use Rattle.std.proofs.Common.{◌≡◌, ℕ, ◌+◌, ◌<◌, List, get_or, length, drop, ap, refl, sym, ◌∙◌, arith}
use Rattle.std.specs.Prelude.{map, Some}
use Rattle.std.proofs.lemmas.Grind.{common_steps}
use Rattle.kn_seats.specs.declared.tracker.Tracker.{Tracker}
use Rattle.kn_seats.specs.Pods.{Pod, pod_at, has_free_seat}
use Rattle.kn_seats.specs.Seats.{State}
use Rattle.kn_seats.specs.Kept.{IsPlaceOf, seen}
use Rattle.kn_seats.proofs.Chains.{first_request, no_request, answers_none, answers_refusal, answers_first}
use Rattle.kn_seats.proofs.Held.{here_queued, here_requests, held-set, counted-set, changed-set}
use Rattle.kn_seats.proofs.Changes.{pod_here, with_pods, first_inside, owner_popped, popped_cells, popped_list}
use Rattle.kn_seats.proofs.seats.Seats.promote.Goals as goal

pub invariant_of-self-2 : goal.invariant_of-self-2
invariant_of-self-2 c =
    let inside = c.self.inside in
    let held = c.self.invariant.held in
    let place : ℕ = c.place_of-place.result in
    let here : Tracker = c.index_mut-tracker.result.now in
    let within : place < length inside.pods.items = grind (arith, common_steps) in
    let is : here ≡ get_or inside.pods.items place here = c.index_mut-tracker.ensures.value in
    let pods_are : map (seen inside.cells) inside.pods.items ≡ c.args.self.now.pods = ap (λ (s : State). s.pods) c.self.view_is in
    let stands : IsPlaceOf c.args.p (map (seen inside.cells) inside.pods.items) place = rw pods_are c.place_of-place.ensures in
    let pod_is : pod_at c.args.p (map (seen inside.cells) inside.pods.items) ≡ seen inside.cells here =
    pod_here inside.pods.items inside.cells inside.pod_room inside.request_room held place here within is here refl c.args.p stands in
    let now_is : pod_at c.args.p c.args.self.now.pods ≡ seen inside.cells here = ap (pod_at c.args.p) (sym pods_are) ∙ pod_is in
    let all = held.kept.requests_fit in
    let shorter : c.pop-r.new.self.count + 1 ≡ here.queue.count = c.pop-r.ensures.changed.count in
    record { held = held-set inside.pods.items inside.cells inside.pod_room inside.request_room held place here within is (record here { queue = c.pop-r.new.self; running = here.running + 1 }) c.pop-r.new.cells (owner_popped inside.pods.items inside.cells inside.pod_room inside.request_room held place here within is (record here { queue = c.pop-r.new.self; running = here.running + 1 }) refl c.pop-r.new.cells c.pop-r.ensures.changed) (popped_cells inside.pods.items inside.cells inside.pod_room inside.request_room held place here within is (record here { queue = c.pop-r.new.self; running = here.running + 1 }) refl c.pop-r.new.cells c.pop-r.ensures.changed) (omega arith) held.kept.cells_fit; reserved = c.self.invariant.reserved }

pub returns-clause-promoted : goal.returns-clause-promoted
returns-clause-promoted c =
    let inside = c.self.inside in
    let held = c.self.invariant.held in
    let place : ℕ = c.place_of-place.result in
    let here : Tracker = c.index_mut-tracker.result.now in
    let within : place < length inside.pods.items = grind (arith, common_steps) in
    let is : here ≡ get_or inside.pods.items place here = c.index_mut-tracker.ensures.value in
    let pods_are : map (seen inside.cells) inside.pods.items ≡ c.args.self.now.pods = ap (λ (s : State). s.pods) c.self.view_is in
    let stands : IsPlaceOf c.args.p (map (seen inside.cells) inside.pods.items) place = rw pods_are c.place_of-place.ensures in
    let pod_is : pod_at c.args.p (map (seen inside.cells) inside.pods.items) ≡ seen inside.cells here =
    pod_here inside.pods.items inside.cells inside.pod_room inside.request_room held place here within is here refl c.args.p stands in
    let now_is : pod_at c.args.p c.args.self.now.pods ≡ seen inside.cells here = ap (pod_at c.args.p) (sym pods_are) ∙ pod_is in
    let list = popped_list inside.pods.items inside.cells inside.pod_room inside.request_room held place here within is (record here { queue = c.pop-r.new.self; running = here.running + 1 }) refl c.pop-r.new.cells c.pop-r.ensures.changed in
    rw (← c.self.view_is) (ap (λ (l : List Pod). with_pods l inside.pod_room inside.request_room)
    (changed-set inside.pods.items inside.cells inside.pod_room inside.request_room held place here within is (record here { queue = c.pop-r.new.self; running = here.running + 1 }) c.pop-r.new.cells (owner_popped inside.pods.items inside.cells inside.pod_room inside.request_room held place here within is (record here { queue = c.pop-r.new.self; running = here.running + 1 }) refl c.pop-r.new.cells c.pop-r.ensures.changed) (popped_cells inside.pods.items inside.cells inside.pod_room inside.request_room held place here within is (record here { queue = c.pop-r.new.self; running = here.running + 1 }) refl c.pop-r.new.cells c.pop-r.ensures.changed) c.args.p (λ pod. record pod { queued = drop 1 pod.queued; running = pod.running + 1 }) stands
    (ap (λ (l : List ℕ). record (seen inside.cells here) { queued = l; running = here.running + 1 }) (sym list))))

pub returns-clause-counted : goal.returns-clause-counted
returns-clause-counted c =
    let inside = c.self.inside in
    let held = c.self.invariant.held in
    let place : ℕ = c.place_of-place.result in
    let here : Tracker = c.index_mut-tracker.result.now in
    let within : place < length inside.pods.items = grind (arith, common_steps) in
    let is : here ≡ get_or inside.pods.items place here = c.index_mut-tracker.ensures.value in
    let pods_are : map (seen inside.cells) inside.pods.items ≡ c.args.self.now.pods = ap (λ (s : State). s.pods) c.self.view_is in
    let stands : IsPlaceOf c.args.p (map (seen inside.cells) inside.pods.items) place = rw pods_are c.place_of-place.ensures in
    let pod_is : pod_at c.args.p (map (seen inside.cells) inside.pods.items) ≡ seen inside.cells here =
    pod_here inside.pods.items inside.cells inside.pod_room inside.request_room held place here within is here refl c.args.p stands in
    let now_is : pod_at c.args.p c.args.self.now.pods ≡ seen inside.cells here = ap (pod_at c.args.p) (sym pods_are) ∙ pod_is in
    let shorter : c.pop-r.new.self.count + 1 ≡ here.queue.count = c.pop-r.ensures.changed.count in
    rw (← c.self.view_is) (let e = counted-set inside.pods.items inside.cells inside.pod_room inside.request_room held place here within is (record here { queue = c.pop-r.new.self; running = here.running + 1 }) c.pop-r.new.cells (owner_popped inside.pods.items inside.cells inside.pod_room inside.request_room held place here within is (record here { queue = c.pop-r.new.self; running = here.running + 1 }) refl c.pop-r.new.cells c.pop-r.ensures.changed) (popped_cells inside.pods.items inside.cells inside.pod_room inside.request_room held place here within is (record here { queue = c.pop-r.new.self; running = here.running + 1 }) refl c.pop-r.new.cells c.pop-r.ensures.changed) in omega arith)

pub returns-then-tracker-eq0-clause-answer : goal.returns-then-tracker-eq0-clause-answer
returns-then-tracker-eq0-clause-answer c =
    let inside = c.self.inside in
    let held = c.self.invariant.held in
    let place : ℕ = c.place_of-place.result in
    let here : Tracker = c.index_mut-tracker.result.now in
    let within : place < length inside.pods.items = grind (arith, common_steps) in
    let is : here ≡ get_or inside.pods.items place here = c.index_mut-tracker.ensures.value in
    let pods_are : map (seen inside.cells) inside.pods.items ≡ c.args.self.now.pods = ap (λ (s : State). s.pods) c.self.view_is in
    let stands : IsPlaceOf c.args.p (map (seen inside.cells) inside.pods.items) place = rw pods_are c.place_of-place.ensures in
    let pod_is : pod_at c.args.p (map (seen inside.cells) inside.pods.items) ≡ seen inside.cells here =
    pod_here inside.pods.items inside.cells inside.pod_room inside.request_room held place here within is here refl c.args.p stands in
    let now_is : pod_at c.args.p c.args.self.now.pods ≡ seen inside.cells here = ap (pod_at c.args.p) (sym pods_are) ∙ pod_is in
    rw now_is (answers_none (has_free_seat (seen inside.cells here)) _ (no_request inside.cells.request.items inside.cells.next.items here.queue.first here.queue.count c.if-tracker-eq0.true))

pub returns-then-not-has_free_seat-clause-answer : goal.returns-then-not-has_free_seat-clause-answer
returns-then-not-has_free_seat-clause-answer c =
    let inside = c.self.inside in
    let held = c.self.invariant.held in
    let place : ℕ = c.place_of-place.result in
    let here : Tracker = c.index_mut-tracker.result.now in
    let within : place < length inside.pods.items = grind (arith, common_steps) in
    let is : here ≡ get_or inside.pods.items place here = c.index_mut-tracker.ensures.value in
    let pods_are : map (seen inside.cells) inside.pods.items ≡ c.args.self.now.pods = ap (λ (s : State). s.pods) c.self.view_is in
    let stands : IsPlaceOf c.args.p (map (seen inside.cells) inside.pods.items) place = rw pods_are c.place_of-place.ensures in
    let pod_is : pod_at c.args.p (map (seen inside.cells) inside.pods.items) ≡ seen inside.cells here =
    pod_here inside.pods.items inside.cells inside.pod_room inside.request_room held place here within is here refl c.args.p stands in
    let now_is : pod_at c.args.p c.args.self.now.pods ≡ seen inside.cells here = ap (pod_at c.args.p) (sym pods_are) ∙ pod_is in
    rw now_is (answers_refusal (has_free_seat (seen inside.cells here)) _ (c.if-not-has_free_seat.ensures inside.cells))

pub pop-r-requires-clause-request : goal.pop-r-requires-clause-request
pop-r-requires-clause-request c =
    let inside = c.self.inside in
    let held = c.self.invariant.held in
    let place : ℕ = c.place_of-place.result in
    let here : Tracker = c.index_mut-tracker.result.now in
    let within : place < length inside.pods.items = grind (arith, common_steps) in
    let is : here ≡ get_or inside.pods.items place here = c.index_mut-tracker.ensures.value in
    let pods_are : map (seen inside.cells) inside.pods.items ≡ c.args.self.now.pods = ap (λ (s : State). s.pods) c.self.view_is in
    let stands : IsPlaceOf c.args.p (map (seen inside.cells) inside.pods.items) place = rw pods_are c.place_of-place.ensures in
    let pod_is : pod_at c.args.p (map (seen inside.cells) inside.pods.items) ≡ seen inside.cells here =
    pod_here inside.pods.items inside.cells inside.pod_room inside.request_room held place here within is here refl c.args.p stands in
    let now_is : pod_at c.args.p c.args.self.now.pods ≡ seen inside.cells here = ap (pod_at c.args.p) (sym pods_are) ∙ pod_is in
    let some : 0 < here.queue.count = omega arith in
    omega (arith, (first_inside inside.pods.items inside.cells inside.pod_room inside.request_room held place here within is here refl some).0, held.request, held.next)

pub pop-r-requires-clause-next : goal.pop-r-requires-clause-next
pop-r-requires-clause-next c =
    let inside = c.self.inside in
    let held = c.self.invariant.held in
    let place : ℕ = c.place_of-place.result in
    let here : Tracker = c.index_mut-tracker.result.now in
    let within : place < length inside.pods.items = grind (arith, common_steps) in
    let is : here ≡ get_or inside.pods.items place here = c.index_mut-tracker.ensures.value in
    let pods_are : map (seen inside.cells) inside.pods.items ≡ c.args.self.now.pods = ap (λ (s : State). s.pods) c.self.view_is in
    let stands : IsPlaceOf c.args.p (map (seen inside.cells) inside.pods.items) place = rw pods_are c.place_of-place.ensures in
    let pod_is : pod_at c.args.p (map (seen inside.cells) inside.pods.items) ≡ seen inside.cells here =
    pod_here inside.pods.items inside.cells inside.pod_room inside.request_room held place here within is here refl c.args.p stands in
    let now_is : pod_at c.args.p c.args.self.now.pods ≡ seen inside.cells here = ap (pod_at c.args.p) (sym pods_are) ∙ pod_is in
    let some : 0 < here.queue.count = omega arith in
    (first_inside inside.pods.items inside.cells inside.pod_room inside.request_room held place here within is here refl some).0

pub pop-r-requires-clause-home : goal.pop-r-requires-clause-home
pop-r-requires-clause-home c =
    let inside = c.self.inside in
    let held = c.self.invariant.held in
    let place : ℕ = c.place_of-place.result in
    let here : Tracker = c.index_mut-tracker.result.now in
    let within : place < length inside.pods.items = grind (arith, common_steps) in
    let is : here ≡ get_or inside.pods.items place here = c.index_mut-tracker.ensures.value in
    let pods_are : map (seen inside.cells) inside.pods.items ≡ c.args.self.now.pods = ap (λ (s : State). s.pods) c.self.view_is in
    let stands : IsPlaceOf c.args.p (map (seen inside.cells) inside.pods.items) place = rw pods_are c.place_of-place.ensures in
    let pod_is : pod_at c.args.p (map (seen inside.cells) inside.pods.items) ≡ seen inside.cells here =
    pod_here inside.pods.items inside.cells inside.pod_room inside.request_room held place here within is here refl c.args.p stands in
    let now_is : pod_at c.args.p c.args.self.now.pods ≡ seen inside.cells here = ap (pod_at c.args.p) (sym pods_are) ∙ pod_is in
    let some : 0 < here.queue.count = omega arith in
    omega (arith, (first_inside inside.pods.items inside.cells inside.pod_room inside.request_room held place here within is here refl some).0, held.next, held.home)

pub pop-r-requires-clause-room : goal.pop-r-requires-clause-room
pop-r-requires-clause-room c =
    let inside = c.self.inside in
    let held = c.self.invariant.held in
    let place : ℕ = c.place_of-place.result in
    let here : Tracker = c.index_mut-tracker.result.now in
    let within : place < length inside.pods.items = grind (arith, common_steps) in
    let is : here ≡ get_or inside.pods.items place here = c.index_mut-tracker.ensures.value in
    let pods_are : map (seen inside.cells) inside.pods.items ≡ c.args.self.now.pods = ap (λ (s : State). s.pods) c.self.view_is in
    let stands : IsPlaceOf c.args.p (map (seen inside.cells) inside.pods.items) place = rw pods_are c.place_of-place.ensures in
    let pod_is : pod_at c.args.p (map (seen inside.cells) inside.pods.items) ≡ seen inside.cells here =
    pod_here inside.pods.items inside.cells inside.pod_room inside.request_room held place here within is here refl c.args.p stands in
    let now_is : pod_at c.args.p c.args.self.now.pods ≡ seen inside.cells here = ap (pod_at c.args.p) (sym pods_are) ∙ pod_is in
    let some : 0 < here.queue.count = omega arith in
    omega (arith, here_queued inside.pods.items inside.cells inside.pod_room inside.request_room held place here within is, held.kept.cells_fit, held.room.spare)

pub overflow_add-tracker : goal.overflow_add-tracker
overflow_add-tracker c =
    let inside = c.self.inside in
    let held = c.self.invariant.held in
    let place : ℕ = c.place_of-place.result in
    let here : Tracker = c.index_mut-tracker.result.now in
    let within : place < length inside.pods.items = grind (arith, common_steps) in
    let is : here ≡ get_or inside.pods.items place here = c.index_mut-tracker.ensures.value in
    let pods_are : map (seen inside.cells) inside.pods.items ≡ c.args.self.now.pods = ap (λ (s : State). s.pods) c.self.view_is in
    let stands : IsPlaceOf c.args.p (map (seen inside.cells) inside.pods.items) place = rw pods_are c.place_of-place.ensures in
    let pod_is : pod_at c.args.p (map (seen inside.cells) inside.pods.items) ≡ seen inside.cells here =
    pod_here inside.pods.items inside.cells inside.pod_room inside.request_room held place here within is here refl c.args.p stands in
    let now_is : pod_at c.args.p c.args.self.now.pods ≡ seen inside.cells here = ap (pod_at c.args.p) (sym pods_are) ∙ pod_is in
    let few = here_requests inside.pods.items inside.cells inside.pod_room inside.request_room held place here within is in
    let most = held.kept.most_requests in
    omega arith

pub returns-clause-answer : goal.returns-clause-answer
returns-clause-answer c =
    let inside = c.self.inside in
    let held = c.self.invariant.held in
    let place : ℕ = c.place_of-place.result in
    let here : Tracker = c.index_mut-tracker.result.now in
    let within : place < length inside.pods.items = grind (arith, common_steps) in
    let is : here ≡ get_or inside.pods.items place here = c.index_mut-tracker.ensures.value in
    let pods_are : map (seen inside.cells) inside.pods.items ≡ c.args.self.now.pods = ap (λ (s : State). s.pods) c.self.view_is in
    let stands : IsPlaceOf c.args.p (map (seen inside.cells) inside.pods.items) place = rw pods_are c.place_of-place.ensures in
    let pod_is : pod_at c.args.p (map (seen inside.cells) inside.pods.items) ≡ seen inside.cells here =
    pod_here inside.pods.items inside.cells inside.pod_room inside.request_room held place here within is here refl c.args.p stands in
    let now_is : pod_at c.args.p c.args.self.now.pods ≡ seen inside.cells here = ap (pod_at c.args.p) (sym pods_are) ∙ pod_is in
    let some : 0 < here.queue.count = omega arith in
    rw now_is (answers_first (has_free_seat (seen inside.cells here)) _ c.pop-r.result (c.if-not-has_free_seat.ensures inside.cells)
    (first_request inside.cells.request.items inside.cells.next.items here.queue.first here.queue.count some ∙ ap Some (sym c.pop-r.ensures.first)))
