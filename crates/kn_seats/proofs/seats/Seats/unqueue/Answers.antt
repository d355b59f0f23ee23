use Rattle.std.proofs.Common.{◌≡◌, ℕ, ◌+◌, ◌<◌, List, get_or, length, ap, refl, sym, subst, ◌∙◌, arith, Some}
use Rattle.std.specs.Prelude.{map, Contains}
use Rattle.std.proofs.lemmas.Grind.{common_steps}
use Rattle.kn_seats.specs.declared.tracker.Tracker.{Tracker}
use Rattle.kn_seats.specs.Cells.{IsBefore, IsDequeued, IsUnlinked}
use Rattle.kn_seats.specs.Pods.{Pod, pod_at, without_request}
use Rattle.kn_seats.specs.Seats.{State}
use Rattle.kn_seats.specs.Chains.{requests_in}
use Rattle.kn_seats.specs.Kept.{IsPlaceOf, seen}
use Rattle.kn_seats.proofs.Held.{here_queued, held-set, counted-set, changed-set}
use Rattle.kn_seats.proofs.Changes.{pod_here, with_pods, cell_inside, first_inside, owner_popped, popped_cells, popped_list}
use Rattle.kn_seats.proofs.Sought.{first_out, has_cell}
use Rattle.kn_seats.proofs.Cut.{before_inner, before_inside, before_owned, cut_cells, cut_list, cut_some, gone_inside, owner_cut}
use Rattle.kn_seats.proofs.seats.Seats.unqueue.Goals as goal

pub leading_to-requires-clause-queued : goal.leading_to-requires-clause-queued
leading_to-requires-clause-queued c =
    let inside = c.self.inside in
    let held = c.self.invariant.held in
    let place : ℕ = c.place_of-place.result in
    let here : Tracker = c.index_mut.result.now in
    let within : place < length inside.pods.items = grind (arith, common_steps) in
    let is : here ≡ get_or inside.pods.items place here = c.index_mut.ensures.value in
    let pods_are : map (seen inside.cells) inside.pods.items ≡ c.args.self.now.pods = ap (λ (s : State). s.pods) c.self.view_is in
    let stands : IsPlaceOf c.args.p (map (seen inside.cells) inside.pods.items) place = rw pods_are c.place_of-place.ensures in
    let now_is : pod_at c.args.p c.args.self.now.pods ≡ seen inside.cells here =
    ap (pod_at c.args.p) (sym pods_are) ∙ pod_here inside.pods.items inside.cells inside.pod_room inside.request_room held place here within is here refl c.args.p stands in
    let there : Contains (requests_in inside.cells.request.items inside.cells.next.items here.queue.first here.queue.count) c.args.r =
    subst (λ (q : Pod). Contains q.queued c.args.r) now_is c.requires.queued in
    there

pub leading_to-requires-clause-inside : goal.leading_to-requires-clause-inside
leading_to-requires-clause-inside c =
    let inside = c.self.inside in
    let held = c.self.invariant.held in
    let place : ℕ = c.place_of-place.result in
    let here : Tracker = c.index_mut.result.now in
    let within : place < length inside.pods.items = grind (arith, common_steps) in
    let is : here ≡ get_or inside.pods.items place here = c.index_mut.ensures.value in
    record {
      request = λ k lt. omega (arith, held.inside _ here.number (cell_inside inside.pods.items inside.cells inside.pod_room inside.request_room held place here within is here refl k lt), held.request);
      next = λ k lt. omega (arith, held.inside _ here.number (cell_inside inside.pods.items inside.cells inside.pod_room inside.request_room held place here within is here refl k lt), held.next);
      few = (omega (arith, held.request, held.kept.cells_fit, held.kept.most_requests), omega (arith, held.next, held.kept.cells_fit, held.kept.most_requests));
    }

pub pop-requires-clause-some : goal.pop-requires-clause-some
pop-requires-clause-some c =
    let inside = c.self.inside in
    let held = c.self.invariant.held in
    let place : ℕ = c.place_of-place.result in
    let here : Tracker = c.index_mut.result.now in
    let within : place < length inside.pods.items = grind (arith, common_steps) in
    let is : here ≡ get_or inside.pods.items place here = c.index_mut.ensures.value in
    let pods_are : map (seen inside.cells) inside.pods.items ≡ c.args.self.now.pods = ap (λ (s : State). s.pods) c.self.view_is in
    let stands : IsPlaceOf c.args.p (map (seen inside.cells) inside.pods.items) place = rw pods_are c.place_of-place.ensures in
    let now_is : pod_at c.args.p c.args.self.now.pods ≡ seen inside.cells here =
    ap (pod_at c.args.p) (sym pods_are) ∙ pod_here inside.pods.items inside.cells inside.pod_room inside.request_room held place here within is here refl c.args.p stands in
    let there : Contains (requests_in inside.cells.request.items inside.cells.next.items here.queue.first here.queue.count) c.args.r =
    subst (λ (q : Pod). Contains q.queued c.args.r) now_is c.requires.queued in
    let some : 0 < here.queue.count = has_cell inside.cells.request.items inside.cells.next.items here.queue.first here.queue.count c.args.r there in
    some

pub pop-requires-clause-request : goal.pop-requires-clause-request
pop-requires-clause-request c =
    let inside = c.self.inside in
    let held = c.self.invariant.held in
    let place : ℕ = c.place_of-place.result in
    let here : Tracker = c.index_mut.result.now in
    let within : place < length inside.pods.items = grind (arith, common_steps) in
    let is : here ≡ get_or inside.pods.items place here = c.index_mut.ensures.value in
    let pods_are : map (seen inside.cells) inside.pods.items ≡ c.args.self.now.pods = ap (λ (s : State). s.pods) c.self.view_is in
    let stands : IsPlaceOf c.args.p (map (seen inside.cells) inside.pods.items) place = rw pods_are c.place_of-place.ensures in
    let now_is : pod_at c.args.p c.args.self.now.pods ≡ seen inside.cells here =
    ap (pod_at c.args.p) (sym pods_are) ∙ pod_here inside.pods.items inside.cells inside.pod_room inside.request_room held place here within is here refl c.args.p stands in
    let there : Contains (requests_in inside.cells.request.items inside.cells.next.items here.queue.first here.queue.count) c.args.r =
    subst (λ (q : Pod). Contains q.queued c.args.r) now_is c.requires.queued in
    let some : 0 < here.queue.count = has_cell inside.cells.request.items inside.cells.next.items here.queue.first here.queue.count c.args.r there in
    omega (arith, (first_inside inside.pods.items inside.cells inside.pod_room inside.request_room held place here within is here refl some).0, held.next, held.request)

pub pop-requires-clause-next : goal.pop-requires-clause-next
pop-requires-clause-next c =
    let inside = c.self.inside in
    let held = c.self.invariant.held in
    let place : ℕ = c.place_of-place.result in
    let here : Tracker = c.index_mut.result.now in
    let within : place < length inside.pods.items = grind (arith, common_steps) in
    let is : here ≡ get_or inside.pods.items place here = c.index_mut.ensures.value in
    let pods_are : map (seen inside.cells) inside.pods.items ≡ c.args.self.now.pods = ap (λ (s : State). s.pods) c.self.view_is in
    let stands : IsPlaceOf c.args.p (map (seen inside.cells) inside.pods.items) place = rw pods_are c.place_of-place.ensures in
    let now_is : pod_at c.args.p c.args.self.now.pods ≡ seen inside.cells here =
    ap (pod_at c.args.p) (sym pods_are) ∙ pod_here inside.pods.items inside.cells inside.pod_room inside.request_room held place here within is here refl c.args.p stands in
    let there : Contains (requests_in inside.cells.request.items inside.cells.next.items here.queue.first here.queue.count) c.args.r =
    subst (λ (q : Pod). Contains q.queued c.args.r) now_is c.requires.queued in
    let some : 0 < here.queue.count = has_cell inside.cells.request.items inside.cells.next.items here.queue.first here.queue.count c.args.r there in
    (first_inside inside.pods.items inside.cells inside.pod_room inside.request_room held place here within is here refl some).0

pub pop-requires-clause-home : goal.pop-requires-clause-home
pop-requires-clause-home c =
    let inside = c.self.inside in
    let held = c.self.invariant.held in
    let place : ℕ = c.place_of-place.result in
    let here : Tracker = c.index_mut.result.now in
    let within : place < length inside.pods.items = grind (arith, common_steps) in
    let is : here ≡ get_or inside.pods.items place here = c.index_mut.ensures.value in
    let pods_are : map (seen inside.cells) inside.pods.items ≡ c.args.self.now.pods = ap (λ (s : State). s.pods) c.self.view_is in
    let stands : IsPlaceOf c.args.p (map (seen inside.cells) inside.pods.items) place = rw pods_are c.place_of-place.ensures in
    let now_is : pod_at c.args.p c.args.self.now.pods ≡ seen inside.cells here =
    ap (pod_at c.args.p) (sym pods_are) ∙ pod_here inside.pods.items inside.cells inside.pod_room inside.request_room held place here within is here refl c.args.p stands in
    let there : Contains (requests_in inside.cells.request.items inside.cells.next.items here.queue.first here.queue.count) c.args.r =
    subst (λ (q : Pod). Contains q.queued c.args.r) now_is c.requires.queued in
    let some : 0 < here.queue.count = has_cell inside.cells.request.items inside.cells.next.items here.queue.first here.queue.count c.args.r there in
    omega (arith, (first_inside inside.pods.items inside.cells inside.pod_room inside.request_room held place here within is here refl some).0, held.next, held.home)

pub pop-requires-clause-room : goal.pop-requires-clause-room
pop-requires-clause-room c =
    let inside = c.self.inside in
    let held = c.self.invariant.held in
    let place : ℕ = c.place_of-place.result in
    let here : Tracker = c.index_mut.result.now in
    let within : place < length inside.pods.items = grind (arith, common_steps) in
    let is : here ≡ get_or inside.pods.items place here = c.index_mut.ensures.value in
    let pods_are : map (seen inside.cells) inside.pods.items ≡ c.args.self.now.pods = ap (λ (s : State). s.pods) c.self.view_is in
    let stands : IsPlaceOf c.args.p (map (seen inside.cells) inside.pods.items) place = rw pods_are c.place_of-place.ensures in
    let now_is : pod_at c.args.p c.args.self.now.pods ≡ seen inside.cells here =
    ap (pod_at c.args.p) (sym pods_are) ∙ pod_here inside.pods.items inside.cells inside.pod_room inside.request_room held place here within is here refl c.args.p stands in
    let there : Contains (requests_in inside.cells.request.items inside.cells.next.items here.queue.first here.queue.count) c.args.r =
    subst (λ (q : Pod). Contains q.queued c.args.r) now_is c.requires.queued in
    let some : 0 < here.queue.count = has_cell inside.cells.request.items inside.cells.next.items here.queue.first here.queue.count c.args.r there in
    omega (arith, here_queued inside.pods.items inside.cells inside.pod_room inside.request_room held place here within is, held.kept.cells_fit, held.room.spare)

pub invariant_of-self : goal.invariant_of-self
invariant_of-self c =
    let inside = c.self.inside in
    let held = c.self.invariant.held in
    let place : ℕ = c.place_of-place.result in
    let here : Tracker = c.index_mut.result.now in
    let within : place < length inside.pods.items = grind (arith, common_steps) in
    let is : here ≡ get_or inside.pods.items place here = c.index_mut.ensures.value in
    let y : Tracker = record here { queue = c.pop.new.self } in
    let taken : IsDequeued here.queue inside.cells y.queue c.pop.new.cells = c.pop.ensures.changed in
    let fewer : c.pop.new.self.count + 1 ≡ here.queue.count = taken.count in
    let all = held.kept.requests_fit in
    record { held = held-set inside.pods.items inside.cells inside.pod_room inside.request_room held place here within is y c.pop.new.cells (owner_popped inside.pods.items inside.cells inside.pod_room inside.request_room held place here within is y refl c.pop.new.cells taken) (popped_cells inside.pods.items inside.cells inside.pod_room inside.request_room held place here within is y refl c.pop.new.cells taken) (omega arith) held.kept.cells_fit; reserved = c.self.invariant.reserved }

pub cut_out-requires : goal.cut_out-requires
cut_out-requires c =
    let inside = c.self.inside in
    let held = c.self.invariant.held in
    let place : ℕ = c.place_of-place.result in
    let here : Tracker = c.index_mut.result.now in
    let within : place < length inside.pods.items = grind (arith, common_steps) in
    let is : here ≡ get_or inside.pods.items place here = c.index_mut.ensures.value in
    let before : ℕ = c.in-Some.before in
    let found : IsBefore c.args.r here.queue inside.cells before = c.in-Some.ensures in
    let owned : held.owner before ≡ Some here.number = before_owned inside.pods.items inside.cells inside.pod_room inside.request_room held place here within is c.args.r before found in
    let inner : before ≡ here.queue.last → ⊥ = before_inner inside.pods.items inside.cells inside.pod_room inside.request_room held place here within is c.args.r before found in
    record {
      some = cut_some inside.pods.items inside.cells inside.pod_room inside.request_room held place here within is before owned inner;
      inside = omega (arith, held.next, before_inside inside.pods.items inside.cells inside.pod_room inside.request_room held place here within is before owned inner);
      next = omega (arith, held.next, gone_inside inside.pods.items inside.cells inside.pod_room inside.request_room held place here within is before owned inner);
      home = omega (arith, held.home, gone_inside inside.pods.items inside.cells inside.pod_room inside.request_room held place here within is before owned inner);
      room = omega (arith, cut_some inside.pods.items inside.cells inside.pod_room inside.request_room held place here within is before owned inner, here_queued inside.pods.items inside.cells inside.pod_room inside.request_room held place here within is, held.kept.cells_fit, held.room.spare);
    }

pub invariant_of-self-in-Some : goal.invariant_of-self-in-Some
invariant_of-self-in-Some c =
    let inside = c.self.inside in
    let held = c.self.invariant.held in
    let place : ℕ = c.place_of-place.result in
    let here : Tracker = c.index_mut.result.now in
    let within : place < length inside.pods.items = grind (arith, common_steps) in
    let is : here ≡ get_or inside.pods.items place here = c.index_mut.ensures.value in
    let before : ℕ = c.in-Some.before in
    let found : IsBefore c.args.r here.queue inside.cells before = c.in-Some.ensures in
    let owned : held.owner before ≡ Some here.number = before_owned inside.pods.items inside.cells inside.pod_room inside.request_room held place here within is c.args.r before found in
    let inner : before ≡ here.queue.last → ⊥ = before_inner inside.pods.items inside.cells inside.pod_room inside.request_room held place here within is c.args.r before found in
    let y : Tracker = record here { queue = c.cut_out.new.queue } in
    let out : IsUnlinked before here.queue inside.cells y.queue c.cut_out.new.cells = c.cut_out.ensures in
    let fewer : c.cut_out.new.queue.count + 1 ≡ here.queue.count = out.count in
    let all = held.kept.requests_fit in
    record { held = held-set inside.pods.items inside.cells inside.pod_room inside.request_room held place here within is y c.cut_out.new.cells (owner_cut inside.pods.items inside.cells inside.pod_room inside.request_room held place here within is before owned inner y refl c.cut_out.new.cells out) (cut_cells inside.pods.items inside.cells inside.pod_room inside.request_room held place here within is before owned inner y refl c.cut_out.new.cells out) (omega arith) held.kept.cells_fit; reserved = c.self.invariant.reserved }

pub returns-in-None-clause-changed : goal.returns-in-None-clause-changed
returns-in-None-clause-changed c =
    let inside = c.self.inside in
    let held = c.self.invariant.held in
    let place : ℕ = c.place_of-place.result in
    let here : Tracker = c.index_mut.result.now in
    let within : place < length inside.pods.items = grind (arith, common_steps) in
    let is : here ≡ get_or inside.pods.items place here = c.index_mut.ensures.value in
    let pods_are : map (seen inside.cells) inside.pods.items ≡ c.args.self.now.pods = ap (λ (s : State). s.pods) c.self.view_is in
    let stands : IsPlaceOf c.args.p (map (seen inside.cells) inside.pods.items) place = rw pods_are c.place_of-place.ensures in
    let now_is : pod_at c.args.p c.args.self.now.pods ≡ seen inside.cells here =
    ap (pod_at c.args.p) (sym pods_are) ∙ pod_here inside.pods.items inside.cells inside.pod_room inside.request_room held place here within is here refl c.args.p stands in
    let there : Contains (requests_in inside.cells.request.items inside.cells.next.items here.queue.first here.queue.count) c.args.r =
    subst (λ (q : Pod). Contains q.queued c.args.r) now_is c.requires.queued in
    let y : Tracker = record here { queue = c.pop.new.self } in
    let taken : IsDequeued here.queue inside.cells y.queue c.pop.new.cells = c.pop.ensures.changed in
    let fewer : c.pop.new.self.count + 1 ≡ here.queue.count = taken.count in
    let list : requests_in c.pop.new.cells.request.items c.pop.new.cells.next.items c.pop.new.self.first c.pop.new.self.count
    ≡ without_request c.args.r (requests_in inside.cells.request.items inside.cells.next.items here.queue.first here.queue.count) =
    popped_list inside.pods.items inside.cells inside.pod_room inside.request_room held place here within is y refl c.pop.new.cells taken
    ∙ first_out inside.cells.request.items inside.cells.next.items here.queue.first here.queue.count c.args.r there c.in-None.ensures in
    rw (← c.self.view_is) (ap (λ (l : List Pod). with_pods l inside.pod_room inside.request_room)
    (changed-set inside.pods.items inside.cells inside.pod_room inside.request_room held place here within is y c.pop.new.cells (owner_popped inside.pods.items inside.cells inside.pod_room inside.request_room held place here within is y refl c.pop.new.cells taken) (popped_cells inside.pods.items inside.cells inside.pod_room inside.request_room held place here within is y refl c.pop.new.cells taken) c.args.p (λ pod. record pod { queued = without_request c.args.r pod.queued }) stands
    (ap (λ (l : List ℕ). record (seen inside.cells here) { queued = l }) (sym list))))

pub returns-in-None-clause-counted : goal.returns-in-None-clause-counted
returns-in-None-clause-counted c =
    let inside = c.self.inside in
    let held = c.self.invariant.held in
    let place : ℕ = c.place_of-place.result in
    let here : Tracker = c.index_mut.result.now in
    let within : place < length inside.pods.items = grind (arith, common_steps) in
    let is : here ≡ get_or inside.pods.items place here = c.index_mut.ensures.value in
    let y : Tracker = record here { queue = c.pop.new.self } in
    let taken : IsDequeued here.queue inside.cells y.queue c.pop.new.cells = c.pop.ensures.changed in
    let fewer : c.pop.new.self.count + 1 ≡ here.queue.count = taken.count in
    rw (← c.self.view_is) (let e = counted-set inside.pods.items inside.cells inside.pod_room inside.request_room held place here within is y c.pop.new.cells (owner_popped inside.pods.items inside.cells inside.pod_room inside.request_room held place here within is y refl c.pop.new.cells taken) (popped_cells inside.pods.items inside.cells inside.pod_room inside.request_room held place here within is y refl c.pop.new.cells taken) in omega arith)

pub returns-in-Some-clause-changed : goal.returns-in-Some-clause-changed
returns-in-Some-clause-changed c =
    let inside = c.self.inside in
    let held = c.self.invariant.held in
    let place : ℕ = c.place_of-place.result in
    let here : Tracker = c.index_mut.result.now in
    let within : place < length inside.pods.items = grind (arith, common_steps) in
    let is : here ≡ get_or inside.pods.items place here = c.index_mut.ensures.value in
    let pods_are : map (seen inside.cells) inside.pods.items ≡ c.args.self.now.pods = ap (λ (s : State). s.pods) c.self.view_is in
    let stands : IsPlaceOf c.args.p (map (seen inside.cells) inside.pods.items) place = rw pods_are c.place_of-place.ensures in
    let before : ℕ = c.in-Some.before in
    let found : IsBefore c.args.r here.queue inside.cells before = c.in-Some.ensures in
    let owned : held.owner before ≡ Some here.number = before_owned inside.pods.items inside.cells inside.pod_room inside.request_room held place here within is c.args.r before found in
    let inner : before ≡ here.queue.last → ⊥ = before_inner inside.pods.items inside.cells inside.pod_room inside.request_room held place here within is c.args.r before found in
    let y : Tracker = record here { queue = c.cut_out.new.queue } in
    let out : IsUnlinked before here.queue inside.cells y.queue c.cut_out.new.cells = c.cut_out.ensures in
    let fewer : c.cut_out.new.queue.count + 1 ≡ here.queue.count = out.count in
    let list = cut_list inside.pods.items inside.cells inside.pod_room inside.request_room held place here within is before owned inner y refl c.cut_out.new.cells out c.args.r found.steps found.within found.reached found.has found.earlier in
    rw (← c.self.view_is) (ap (λ (l : List Pod). with_pods l inside.pod_room inside.request_room)
    (changed-set inside.pods.items inside.cells inside.pod_room inside.request_room held place here within is y c.cut_out.new.cells (owner_cut inside.pods.items inside.cells inside.pod_room inside.request_room held place here within is before owned inner y refl c.cut_out.new.cells out) (cut_cells inside.pods.items inside.cells inside.pod_room inside.request_room held place here within is before owned inner y refl c.cut_out.new.cells out) c.args.p (λ pod. record pod { queued = without_request c.args.r pod.queued }) stands
    (ap (λ (l : List ℕ). record (seen inside.cells here) { queued = l }) (sym list))))

pub returns-in-Some-clause-counted : goal.returns-in-Some-clause-counted
returns-in-Some-clause-counted c =
    let inside = c.self.inside in
    let held = c.self.invariant.held in
    let place : ℕ = c.place_of-place.result in
    let here : Tracker = c.index_mut.result.now in
    let within : place < length inside.pods.items = grind (arith, common_steps) in
    let is : here ≡ get_or inside.pods.items place here = c.index_mut.ensures.value in
    let before : ℕ = c.in-Some.before in
    let found : IsBefore c.args.r here.queue inside.cells before = c.in-Some.ensures in
    let owned : held.owner before ≡ Some here.number = before_owned inside.pods.items inside.cells inside.pod_room inside.request_room held place here within is c.args.r before found in
    let inner : before ≡ here.queue.last → ⊥ = before_inner inside.pods.items inside.cells inside.pod_room inside.request_room held place here within is c.args.r before found in
    let y : Tracker = record here { queue = c.cut_out.new.queue } in
    let out : IsUnlinked before here.queue inside.cells y.queue c.cut_out.new.cells = c.cut_out.ensures in
    let fewer : c.cut_out.new.queue.count + 1 ≡ here.queue.count = out.count in
    rw (← c.self.view_is) (let e = counted-set inside.pods.items inside.cells inside.pod_room inside.request_room held place here within is y c.cut_out.new.cells (owner_cut inside.pods.items inside.cells inside.pod_room inside.request_room held place here within is before owned inner y refl c.cut_out.new.cells out) (cut_cells inside.pods.items inside.cells inside.pod_room inside.request_room held place here within is before owned inner y refl c.cut_out.new.cells out) in omega arith)
