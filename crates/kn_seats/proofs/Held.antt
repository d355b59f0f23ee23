-- The pods and their cells after one pod and its queue change.
use Rattle.std.proofs.Common.{◌≡◌, ℕ, zero, suc, ◌+◌, ◌<◌, ◌≤◌, inl, inr, List, [], ◌∷◌, set, get_or, length, refl, sym, ap, subst, ◌∙◌, arith, get_or-set_other, get_or-set_same, length-set, Option, Some, None}
use Rattle.std.specs.Prelude.{map}
use Rattle.std.proofs.Math.ListN.{get_or-map}
use Rattle.std.proofs.lemmas.Bool.{cases_eq}
use Rattle.std.proofs.lemmas.List.{get_or_default, length-map}
use Rattle.std.proofs.lemmas.List.Sums.{sum_by-set, get_or-le-sum_by}
use Rattle.kn_seats.specs.declared.cells.Cells.{Cells}
use Rattle.kn_seats.specs.declared.tracker.Tracker.{Tracker}
use Rattle.kn_seats.specs.Pods.{Pod, requests_at, requests_at_all, with_pod_changed}
use Rattle.kn_seats.specs.Cells.{HasRoom, KeepsRoom}
use Rattle.kn_seats.specs.Chains.{AreOwned}
use Rattle.kn_seats.specs.Kept.{IsKept, IsHeld, IsPlaceOf, IsStep, IsFound, HasQueue, AreSpare, seen}
use Rattle.kn_seats.proofs.Chains.{length_requests, apart-kept, owned-kept, owned-front, after-kept, requests-kept}
use Rattle.kn_seats.proofs.Kept.{kept-set}

map-same : (f g : Tracker → Pod) (xs : List Tracker) → ((i : ℕ) (d : Tracker) → i < length xs → g (get_or xs i d) ≡ f (get_or xs i d)) → map g xs ≡ map f xs
map-same f g [] same = refl
map-same f g (x ∷ xs) same =
    ap (λ y. y ∷ map g xs) (same 0 x (omega arith)) ∙ ap (λ l. f x ∷ l) (map-same f g xs (λ i d lt. same (suc i) d (omega arith)))

map-changed : (f g : Tracker → Pod) (y : Tracker) (xs : List Tracker) (place : ℕ)
    → ((i : ℕ) (d : Tracker) → i < length xs → (i ≡ place → ⊥) → g (get_or xs i d) ≡ f (get_or xs i d)) → place < length xs
    → map g (set xs place y) ≡ set (map f xs) place (g y)
map-changed f g y [] place same inside = absurd (omega arith)
map-changed f g y (x ∷ xs) zero same inside =
    ap (λ l. g y ∷ l) (map-same f g xs (λ i d lt. same (suc i) d (omega arith) (λ e. omega arith)))
map-changed f g y (x ∷ xs) (suc place) same inside =
    ap (λ p. p ∷ map g (set xs place y)) (same 0 x (omega arith) (λ e. omega arith))
    ∙ ap (λ l. f x ∷ l) (map-changed f g y xs place (λ i d lt other. same (suc i) d (omega arith) (λ e. other (omega arith))) (omega arith))

abbrev with_queue : Tracker → List ℕ → Pod
with_queue t requests = record { number = t.number; limit = t.limit; running = t.running; queued = requests; draining = t.draining }

pub room_kept : (count : ℕ) (cells cells_after : Cells) → KeepsRoom cells cells_after → HasRoom count cells → HasRoom count cells_after
room_kept count cells cells_after keeps room = record {
  request = omega (arith, keeps.request, room.request);
  next = omega (arith, keeps.next, room.next);
  home = omega (arith, keeps.home, room.home);
  spare = omega (arith, keeps.spare, room.spare);
}

-- one pod's tracker gives way to another of the same number, so many cells are made then, and none of the others changes
pub record HasChanged (cells : Cells) (here y : Tracker) (cells_after : Cells) (owner owner_after : ℕ → Option ℕ) (made : ℕ) : Type 0 where
  pub number : y.number ≡ here.number
  pub request : length cells_after.request.items ≡ made
  pub next : length cells_after.next.items ≡ made
  pub home : length cells_after.home.items ≡ made
  pub room : KeepsRoom cells cells_after
  pub counts : length cells_after.spare.items + y.queue.count + length cells.request.items ≡ length cells.spare.items + here.queue.count + made
  pub homes : (x : ℕ) → get_or cells_after.home.items x None ≡ owner_after x
  pub inside : (x p : ℕ) → owner_after x ≡ Some p → x < made
  pub spares : AreSpare owner_after cells_after.spare.items made
  pub queue : HasQueue owner_after cells_after.next.items y
  pub mine : (x : ℕ) → owner_after x ≡ Some here.number → IsStep cells_after.next.items y.queue.first y.queue.count x
  pub gains : (x q : ℕ) → (q ≡ here.number → ⊥) → owner_after x ≡ Some q → owner x ≡ Some q
  pub keeps : (x q : ℕ) → (q ≡ here.number → ⊥) → owner x ≡ Some q → (owner_after x ≡ Some q) × (get_or cells_after.next.items x 0 ≡ get_or cells.next.items x 0)
  pub same : (x q : ℕ) → (q ≡ here.number → ⊥) → owner x ≡ Some q → get_or cells_after.request.items x 0 ≡ get_or cells.request.items x 0

module _ (trackers : List Tracker) (cells : Cells) (pod_room request_room : ℕ) (held : IsHeld trackers cells pod_room request_room)
    (place : ℕ) (here : Tracker) (within : place < length trackers) (is : here ≡ get_or trackers place here) where
  pub here_seen : seen cells here ≡ get_or (map (seen cells) trackers) place (seen cells here)
  here_seen = ap (seen cells) is ∙ sym (get_or-map (seen cells) trackers place here)

  pub within_seen : place < length (map (seen cells) trackers)
  within_seen = omega (arith, length-map trackers (seen cells))

  pub here_queue : HasQueue held.owner cells.next.items here
  here_queue = subst (λ t. HasQueue held.owner cells.next.items t) (sym is) (held.queues place here within)

  -- no more are queued than there are cells
  pub here_queued : length cells.spare.items + here.queue.count ≤ held.made
  here_queued =
      let all = get_or-le-sum_by (λ (pod : Pod). length pod.queued) (map (seen cells) trackers) place (seen cells here) within_seen in
      let at : length (get_or (map (seen cells) trackers) place (seen cells here)).queued ≡ length (seen cells here).queued = ap (λ (p : Pod). length p.queued) (sym here_seen) in
      let total = held.kept.cells in
      omega (arith, length_requests cells.request.items cells.next.items here.queue.first here.queue.count)

  -- and no more requests are there than there is room for
  pub here_requests : here.running + here.queue.count ≤ request_room
  here_requests =
      let all = get_or-le-sum_by requests_at (map (seen cells) trackers) place (seen cells here) within_seen in
      let at : requests_at (get_or (map (seen cells) trackers) place (seen cells here)) ≡ requests_at (seen cells here) = ap requests_at (sym here_seen) in
      let total = held.kept.requests_fit in
      omega (arith, length_requests cells.request.items cells.next.items here.queue.first here.queue.count)

  number_at : (i : ℕ) (d : Tracker) → (get_or (map (seen cells) trackers) i (seen cells d)).number ≡ (get_or trackers i d).number
  number_at i d = ap (λ (p : Pod). p.number) (get_or-map (seen cells) trackers i d)

  differs : (i : ℕ) (d : Tracker) → i < length trackers → (i ≡ place → ⊥) → (get_or trackers i d).number ≡ here.number → ⊥
  differs i d lt other same =
      let e = seen cells d in
      let there : (get_or trackers place d).number ≡ here.number = ap (λ (t : Tracker). t.number) (get_or_default trackers place d here within ∙ sym is) in
      let count = length-map trackers (seen cells) in
      let below : i < place → ⊥ = λ l. omega (arith, held.kept.ascending i place e l (omega arith), number_at i d, number_at place d) in
      let above : place < i → ⊥ = λ l. omega (arith, held.kept.ascending place i e l (omega arith), number_at i d, number_at place d) in
      other (grind (arith, below, above))

  -- what belongs to it is in its queue
  pub mine_here : (x : ℕ) → held.owner x ≡ Some here.number → IsStep cells.next.items here.queue.first here.queue.count x
  mine_here x owned =
      let found = held.found x here.number owned in
      let there : here ≡ found.tracker = elim (cases_eq found.place place) [
        | inl same ↦ is ∙ ap (λ k. get_or trackers k here) (sym same) ∙ found.stands here
        | inr other ↦ absurd (differs found.place here found.inside other (ap (λ (t : Tracker). t.number) (found.stands here) ∙ found.number))
      ] in
      subst (λ (t : Tracker). IsStep cells.next.items t.queue.first t.queue.count x) (sym there) found.step

  module _ (y : Tracker) (cells_after : Cells) (owner_after : ℕ → Option ℕ) {made : ℕ} (changed : HasChanged cells here y cells_after held.owner owner_after made) where
    seen_same : (i : ℕ) (d : Tracker) → i < length trackers → (i ≡ place → ⊥) → seen cells_after (get_or trackers i d) ≡ seen cells (get_or trackers i d)
    seen_same i d lt other =
        let t = get_or trackers i d in
        let differ = differs i d lt other in
        ap (with_queue t) (requests-kept held.owner owner_after (Some t.number) cells.next.items cells_after.next.items
        (λ x owned. changed.keeps x t.number differ owned) cells.request.items cells_after.request.items (λ x owned. changed.same x t.number differ owned)
        t.queue.first t.queue.count (held.queues i d lt).owned)

    pub view : map (seen cells_after) (set trackers place y) ≡ set (map (seen cells) trackers) place (seen cells_after y)
    view = map-changed (seen cells) (seen cells_after) y trackers place seen_same within

    queue_kept : (i : ℕ) (d : Tracker) → i < length trackers → (i ≡ place → ⊥) → HasQueue owner_after cells_after.next.items (get_or trackers i d)
    queue_kept i d lt other =
        let t = get_or trackers i d in
        let line = held.queues i d lt in
        let keeps : (x : ℕ) → held.owner x ≡ Some t.number → (owner_after x ≡ Some t.number) × (get_or cells_after.next.items x 0 ≡ get_or cells.next.items x 0) =
        λ x owned. changed.keeps x t.number (differs i d lt other) owned in
        record {
          apart = apart-kept held.owner owner_after (Some t.number) cells.next.items cells_after.next.items keeps t.queue.first t.queue.count line.owned line.apart;
          owned = owned-kept held.owner owner_after (Some t.number) cells.next.items cells_after.next.items keeps t.queue.first t.queue.count line.owned;
          ends = λ n e. after-kept held.owner owner_after (Some t.number) cells.next.items cells_after.next.items keeps t.queue.first n
              (owned-front held.owner (Some t.number) cells.next.items t.queue.first n t.queue.count (omega arith) line.owned) ∙ line.ends n e;
        }

    queues_after : (i : ℕ) (d : Tracker) → i < length (set trackers place y) → HasQueue owner_after cells_after.next.items (get_or (set trackers place y) i d)
    queues_after i d lt = elim (cases_eq i place) [
      | inl same ↦ subst (λ t. HasQueue owner_after cells_after.next.items t)
          (sym (ap (λ k. get_or (set trackers place y) k d) same ∙ get_or-set_same trackers place y d within)) changed.queue
      | inr other ↦ subst (λ t. HasQueue owner_after cells_after.next.items t)
          (sym (get_or-set_other trackers place i y d other)) (queue_kept i d (omega (arith, length-set trackers place y)) other)
    ]

    found_other : (x p : ℕ) → (p ≡ here.number → ⊥) → owner_after x ≡ Some p → IsFound (set trackers place y) cells_after.next.items x p
    found_other x p other owned =
        let found = held.found x p (changed.gains x p other owned) in
        let t = found.tracker in
        let differ : t.number ≡ here.number → ⊥ = λ e. other (sym found.number ∙ e) in
        let away : found.place ≡ place → ⊥ = λ same. differ (ap (λ (s : Tracker). s.number) (sym (found.stands here) ∙ ap (λ k. get_or trackers k here) same ∙ sym is)) in
        let all : AreOwned held.owner (Some t.number) cells.next.items t.queue.first t.queue.count =
        (subst (λ s. HasQueue held.owner cells.next.items s) (found.stands here) (held.queues found.place here found.inside)).owned in
        let steps = found.step.steps in
        record {
          place = found.place;
          inside = omega (arith, found.inside, length-set trackers place y);
          tracker = t;
          stands = λ d. get_or-set_other trackers place found.place y d away ∙ found.stands d;
          number = found.number;
          step = record {
            steps = steps;
            within = found.step.within;
            reached = after-kept held.owner owner_after (Some t.number) cells.next.items cells_after.next.items (λ z mine. changed.keeps z t.number differ mine) t.queue.first steps
                (owned-front held.owner (Some t.number) cells.next.items t.queue.first steps t.queue.count (let e = found.step.within in omega arith) all) ∙ found.step.reached;
          };
        }

    found_after : (x p : ℕ) → owner_after x ≡ Some p → IsFound (set trackers place y) cells_after.next.items x p
    found_after x p owned = elim (cases_eq p here.number) [
      | inl same ↦ record {
        place = place;
        inside = omega (arith, within, length-set trackers place y);
        tracker = y;
        stands = λ d. get_or-set_same trackers place y d within;
        number = changed.number ∙ sym same;
        step = changed.mine x (owned ∙ ap (λ q. Some q) same);
      }
      | inr other ↦ found_other x p other owned
    ]

    pub held-set : y.running + y.queue.count + requests_at_all (map (seen cells) trackers) ≤ request_room + (here.running + here.queue.count)
        → made ≤ request_room → IsHeld (set trackers place y) cells_after pod_room request_room
    held-set fits cells_fit =
        let many = length_requests cells_after.request.items cells_after.next.items y.queue.first y.queue.count in
        let were = length_requests cells.request.items cells.next.items here.queue.first here.queue.count in
        let counts = changed.counts in
        record {
          made = made;
          kept = subst (λ l. IsKept l (length cells_after.spare.items) made pod_room request_room) (sym view)
              (kept-set (map (seen cells) trackers) place (seen cells here) (seen cells_after y) (length cells.spare.items) (length cells_after.spare.items) held.made made
              pod_room request_room held.kept within_seen here_seen changed.number (omega arith) cells_fit (omega (arith, held.request)));
          request = changed.request;
          next = changed.next;
          home = changed.home;
          room = room_kept request_room cells cells_after changed.room held.room;
          owner = owner_after;
          homes = changed.homes;
          found = found_after;
          inside = changed.inside;
          spares = changed.spares;
          queues = queues_after;
        }

    pub counted-set : requests_at_all (map (seen cells_after) (set trackers place y)) + (here.running + here.queue.count)
        ≡ requests_at_all (map (seen cells) trackers) + (y.running + y.queue.count)
    counted-set =
        let many = length_requests cells_after.request.items cells_after.next.items y.queue.first y.queue.count in
        let were = length_requests cells.request.items cells.next.items here.queue.first here.queue.count in
        let all = ap requests_at_all view in
        let sums = sum_by-set requests_at (map (seen cells) trackers) place (seen cells_after y) (seen cells here) within_seen in
        let at : requests_at (seen cells here) ≡ requests_at (get_or (map (seen cells) trackers) place (seen cells here)) = ap requests_at here_seen in
        omega arith

    pub changed-set : (p : ℕ) (by : Pod → Pod) → IsPlaceOf p (map (seen cells) trackers) place → by (seen cells here) ≡ seen cells_after y
        → map (seen cells_after) (set trackers place y) ≡ with_pod_changed p by (map (seen cells) trackers)
    changed-set p by stands does =
        view ∙ ap (λ q. set (map (seen cells) trackers) place q) (sym does ∙ ap by (here_seen ∙ stands.pod (seen cells here))) ∙ sym (stands.changed by)
