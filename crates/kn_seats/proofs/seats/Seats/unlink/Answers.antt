use Rattle.std.proofs.Common.{◌≡◌, ℕ, ◌+◌, ◌<◌, List, get_or, length, ap, refl, sym, subst, ◌∙◌, arith, Some}
use Rattle.std.specs.Prelude.{map}
use Rattle.std.proofs.lemmas.Grind.{common_steps}
use Rattle.std.proofs.lemmas.List.{get_or_default}
use Rattle.kn_seats.specs.declared.tracker.Tracker.{Tracker}
use Rattle.kn_seats.specs.Cells.{IsUnlinked, Leads}
use Rattle.kn_seats.specs.Pods.{Pod, pod_at, without_request, StandsOnce}
use Rattle.kn_seats.specs.Seats.{State}
use Rattle.kn_seats.specs.Chains.{requests_in}
use Rattle.kn_seats.specs.Kept.{IsPlaceOf, seen}
use Rattle.kn_seats.proofs.Held.{here_queued, held-set, counted-set, changed-set}
use Rattle.kn_seats.proofs.Changes.{pod_here, with_pods}
use Rattle.kn_seats.proofs.Cut.{before_inside, cut_cells, cut_once, cut_some, gone_inside, is_there, owner_cut}
use Rattle.kn_seats.proofs.seats.Seats.unlink.Goals as goal

pub unqueue-requires-clause-queued : goal.unqueue-requires-clause-queued
unqueue-requires-clause-queued c = is_there c.args.r (pod_at c.args.p c.args.self.now.pods).queued c.requires.once

pub cut_out-requires : goal.cut_out-requires
cut_out-requires c =
    let inside = c.self.inside in
    let held = c.self.invariant.held in
    let place : ℕ = c.place_of-place.result in
    let here : Tracker = c.index_mut.result.now in
    let within : place < length inside.pods.items = grind (arith, common_steps) in
    let is : here ≡ get_or inside.pods.items place here = c.index_mut.ensures.value in
    let before : ℕ = c.get-before.result in
    let pod_is : c.index-pod.result.now ≡ here = c.index-pod.ensures ∙ get_or_default inside.pods.items place c.index-pod.result.now here within ∙ sym is in
    let leads : Leads inside.cells before c.index-pod.result.now.number c.args.r = c.leads.ensures c.if-not-leads.false in
    let owned : held.owner before ≡ Some here.number = sym (held.homes before) ∙ leads.home ∙ ap (λ (t : Tracker). Some t.number) pod_is in
    let inner : before ≡ here.queue.last → ⊥ = λ e. c.if-before-pod.false (e ∙ ap (λ (t : Tracker). t.queue.last) (sym pod_is)) in
    record {
      some = cut_some inside.pods.items inside.cells inside.pod_room inside.request_room held place here within is before owned inner;
      inside = omega (arith, held.next, before_inside inside.pods.items inside.cells inside.pod_room inside.request_room held place here within is before owned inner);
      next = omega (arith, held.next, gone_inside inside.pods.items inside.cells inside.pod_room inside.request_room held place here within is before owned inner);
      home = omega (arith, held.home, gone_inside inside.pods.items inside.cells inside.pod_room inside.request_room held place here within is before owned inner);
      room = omega (arith, cut_some inside.pods.items inside.cells inside.pod_room inside.request_room held place here within is before owned inner, here_queued inside.pods.items inside.cells inside.pod_room inside.request_room held place here within is, held.kept.cells_fit, held.room.spare);
    }

pub invariant_of-self : goal.invariant_of-self
invariant_of-self c =
    let inside = c.self.inside in
    let held = c.self.invariant.held in
    let place : ℕ = c.place_of-place.result in
    let here : Tracker = c.index_mut.result.now in
    let within : place < length inside.pods.items = grind (arith, common_steps) in
    let is : here ≡ get_or inside.pods.items place here = c.index_mut.ensures.value in
    let before : ℕ = c.get-before.result in
    let pod_is : c.index-pod.result.now ≡ here = c.index-pod.ensures ∙ get_or_default inside.pods.items place c.index-pod.result.now here within ∙ sym is in
    let leads : Leads inside.cells before c.index-pod.result.now.number c.args.r = c.leads.ensures c.if-not-leads.false in
    let owned : held.owner before ≡ Some here.number = sym (held.homes before) ∙ leads.home ∙ ap (λ (t : Tracker). Some t.number) pod_is in
    let inner : before ≡ here.queue.last → ⊥ = λ e. c.if-before-pod.false (e ∙ ap (λ (t : Tracker). t.queue.last) (sym pod_is)) in
    let pods_are : map (seen inside.cells) inside.pods.items ≡ c.args.self.now.pods = ap (λ (s : State). s.pods) c.self.view_is in
    let stands : IsPlaceOf c.args.p (map (seen inside.cells) inside.pods.items) place = rw pods_are c.place_of-place.ensures in
    let y : Tracker = record here { queue = c.cut_out.new.queue } in
    let cut_out : IsUnlinked before here.queue inside.cells y.queue c.cut_out.new.cells = c.cut_out.ensures in
    let changed = cut_cells inside.pods.items inside.cells inside.pod_room inside.request_room held place here within is before owned inner y refl c.cut_out.new.cells cut_out in
    let fewer : c.cut_out.new.queue.count + 1 ≡ here.queue.count = c.cut_out.ensures.count in
    let all = held.kept.requests_fit in
    record {
      held = held-set inside.pods.items inside.cells inside.pod_room inside.request_room held place here within is y c.cut_out.new.cells (owner_cut inside.pods.items inside.cells inside.pod_room inside.request_room held place here within is before owned inner y refl c.cut_out.new.cells cut_out) changed (omega arith) held.kept.cells_fit;
      reserved = c.self.invariant.reserved;
    }

pub returns-clause-changed : goal.returns-clause-changed
returns-clause-changed c =
    let inside = c.self.inside in
    let held = c.self.invariant.held in
    let place : ℕ = c.place_of-place.result in
    let here : Tracker = c.index_mut.result.now in
    let within : place < length inside.pods.items = grind (arith, common_steps) in
    let is : here ≡ get_or inside.pods.items place here = c.index_mut.ensures.value in
    let before : ℕ = c.get-before.result in
    let pod_is : c.index-pod.result.now ≡ here = c.index-pod.ensures ∙ get_or_default inside.pods.items place c.index-pod.result.now here within ∙ sym is in
    let leads : Leads inside.cells before c.index-pod.result.now.number c.args.r = c.leads.ensures c.if-not-leads.false in
    let owned : held.owner before ≡ Some here.number = sym (held.homes before) ∙ leads.home ∙ ap (λ (t : Tracker). Some t.number) pod_is in
    let inner : before ≡ here.queue.last → ⊥ = λ e. c.if-before-pod.false (e ∙ ap (λ (t : Tracker). t.queue.last) (sym pod_is)) in
    let pods_are : map (seen inside.cells) inside.pods.items ≡ c.args.self.now.pods = ap (λ (s : State). s.pods) c.self.view_is in
    let stands : IsPlaceOf c.args.p (map (seen inside.cells) inside.pods.items) place = rw pods_are c.place_of-place.ensures in
    let y : Tracker = record here { queue = c.cut_out.new.queue } in
    let cut_out : IsUnlinked before here.queue inside.cells y.queue c.cut_out.new.cells = c.cut_out.ensures in
    let changed = cut_cells inside.pods.items inside.cells inside.pod_room inside.request_room held place here within is before owned inner y refl c.cut_out.new.cells cut_out in
    let fewer : c.cut_out.new.queue.count + 1 ≡ here.queue.count = c.cut_out.ensures.count in
    let now_is : pod_at c.args.p c.args.self.now.pods ≡ seen inside.cells here =
    ap (pod_at c.args.p) (sym pods_are) ∙ pod_here inside.pods.items inside.cells inside.pod_room inside.request_room held place here within is here refl c.args.p stands in
    let once : StandsOnce c.args.r (requests_in inside.cells.request.items inside.cells.next.items here.queue.first here.queue.count) =
    subst (λ (q : Pod). StandsOnce c.args.r q.queued) now_is c.requires.once in
    let list = cut_once inside.pods.items inside.cells inside.pod_room inside.request_room held place here within is before owned inner y refl c.cut_out.new.cells cut_out c.args.r leads.request once in
    rw (← c.self.view_is) (ap (λ (l : List Pod). with_pods l inside.pod_room inside.request_room)
    (changed-set inside.pods.items inside.cells inside.pod_room inside.request_room held place here within is y c.cut_out.new.cells (owner_cut inside.pods.items inside.cells inside.pod_room inside.request_room held place here within is before owned inner y refl c.cut_out.new.cells cut_out) changed c.args.p (λ pod. record pod { queued = without_request c.args.r pod.queued }) stands
    (ap (λ (l : List ℕ). record (seen inside.cells here) { queued = l }) (sym list))))

pub returns-clause-counted : goal.returns-clause-counted
returns-clause-counted c =
    let inside = c.self.inside in
    let held = c.self.invariant.held in
    let place : ℕ = c.place_of-place.result in
    let here : Tracker = c.index_mut.result.now in
    let within : place < length inside.pods.items = grind (arith, common_steps) in
    let is : here ≡ get_or inside.pods.items place here = c.index_mut.ensures.value in
    let before : ℕ = c.get-before.result in
    let pod_is : c.index-pod.result.now ≡ here = c.index-pod.ensures ∙ get_or_default inside.pods.items place c.index-pod.result.now here within ∙ sym is in
    let leads : Leads inside.cells before c.index-pod.result.now.number c.args.r = c.leads.ensures c.if-not-leads.false in
    let owned : held.owner before ≡ Some here.number = sym (held.homes before) ∙ leads.home ∙ ap (λ (t : Tracker). Some t.number) pod_is in
    let inner : before ≡ here.queue.last → ⊥ = λ e. c.if-before-pod.false (e ∙ ap (λ (t : Tracker). t.queue.last) (sym pod_is)) in
    let pods_are : map (seen inside.cells) inside.pods.items ≡ c.args.self.now.pods = ap (λ (s : State). s.pods) c.self.view_is in
    let stands : IsPlaceOf c.args.p (map (seen inside.cells) inside.pods.items) place = rw pods_are c.place_of-place.ensures in
    let y : Tracker = record here { queue = c.cut_out.new.queue } in
    let cut_out : IsUnlinked before here.queue inside.cells y.queue c.cut_out.new.cells = c.cut_out.ensures in
    let changed = cut_cells inside.pods.items inside.cells inside.pod_room inside.request_room held place here within is before owned inner y refl c.cut_out.new.cells cut_out in
    let fewer : c.cut_out.new.queue.count + 1 ≡ here.queue.count = c.cut_out.ensures.count in
    rw (← c.self.view_is) (let e = counted-set inside.pods.items inside.cells inside.pod_room inside.request_room held place here within is y c.cut_out.new.cells (owner_cut inside.pods.items inside.cells inside.pod_room inside.request_room held place here within is before owned inner y refl c.cut_out.new.cells cut_out) changed in omega arith)
