-- What each change of a pod and its queue leaves.
use Rattle.std.proofs.Common.{◌≡◌, ℕ, zero, suc, ◌+◌, ◌-◌, ◌<◌, ◌≤◌, inl, inr, List, [], ◌∷◌, ◌++◌, set, get_or, length, drop, refl, sym, ap, subst, ◌∙◌, arith, length-set, Option, Some, None}
use Rattle.std.specs.Prelude.{map}
use Rattle.std.proofs.lemmas.Bool.{cases_eq}
use Rattle.std.proofs.lemmas.List.{get_or_append_left, get_or_past, get_or_push, length_push}
use Rattle.kn_seats.specs.declared.cells.Cells.{Cells}
use Rattle.kn_seats.specs.declared.tracker.Tracker.{Tracker}
use Rattle.kn_seats.specs.declared.cells.Queue.{Queue}
use Rattle.kn_seats.specs.Pods.{Pod, pod_at, requests_at_all, with_pod_changed}
use Rattle.kn_seats.specs.Seats.{State}
use Rattle.kn_seats.specs.Cells.{CanTake, IsQueued, IsDequeued}
use Rattle.kn_seats.specs.Chains.{after, requests_in}
use Rattle.kn_seats.specs.Kept.{IsHeld, IsPlaceOf, IsLine, IsStep, HasQueue, AreSpare, seen}
use Rattle.kn_seats.proofs.Kept.{queued_at_most}
use Rattle.kn_seats.proofs.Chains.{owner_at}
use Rattle.kn_seats.proofs.Pushed.{Pushed, pushed, step-pushed, line-popped, step-popped, requests-popped}
use Rattle.kn_seats.proofs.Spared.{with_owner, owner_here, owner_there, not_both, same_owner, owned_before, homes_freed, inside_freed, spares_freed, keeps_freed}
use Rattle.kn_seats.proofs.Held.{HasChanged, mine_here, here_seen, here_queue, held-set, counted-set, changed-set}

-- where there is room for one request more, there is a cell for it
pub can_take : (trackers : List Tracker) (cells : Cells) (pod_room request_room : ℕ) → IsHeld trackers cells pod_room request_room
    → requests_at_all (map (seen cells) trackers) < request_room → CanTake cells
can_take trackers cells pod_room request_room held left = record {
  inside = λ i lt. omega (arith, held.spares.inside i lt, held.request);
  next = omega (arith, held.next, held.request);
  home = omega (arith, held.home, held.request);
  room = λ none.
      let few : length cells.request.items < request_room = omega (arith, held.request, held.kept.cells, queued_at_most (map (seen cells) trackers)) in record {
        request = omega (arith, few, held.room.request);
        next = omega (arith, few, held.room.next);
        home = omega (arith, few, held.room.home);
        spare = omega (arith, few, held.room.spare);
      };
}

module _ (trackers : List Tracker) (cells : Cells) (pod_room request_room : ℕ) (held : IsHeld trackers cells pod_room request_room)
    (place : ℕ) (here : Tracker) (within : place < length trackers) (is : here ≡ get_or trackers place here) (y : Tracker) (number : y.number ≡ here.number) where
  line : HasQueue held.owner cells.next.items here
  line = here_queue trackers cells pod_room request_room held place here within is

  -- it is what callers see
  pub pod_here : (p : ℕ) → IsPlaceOf p (map (seen cells) trackers) place → pod_at p (map (seen cells) trackers) ≡ seen cells here
  pod_here p stands = sym (here_seen trackers cells pod_room request_room held place here within is ∙ stands.pod (seen cells here))

  -- its queue stays
  pub same_cells : y.queue ≡ here.queue → HasChanged cells here y cells held.owner held.owner held.made
  same_cells queue = record {
    number = number;
    request = held.request;
    next = held.next;
    home = held.home;
    room = record { request = refl; next = refl; home = refl; spare = refl };
    counts = let counts : y.queue.count ≡ here.queue.count = ap (λ (q : Queue). q.count) queue in omega (arith, held.request);
    homes = held.homes;
    inside = held.inside;
    spares = held.spares;
    mine = λ x owned. subst (λ (q : Queue). IsStep cells.next.items q.first q.count x) (sym queue) (mine_here trackers cells pod_room request_room held place here within is x owned);
    gains = λ x q other owned. owned;
    queue = subst (λ n. IsLine held.owner (Some n) cells.next.items y.queue.first y.queue.last y.queue.count) (sym number)
        (subst (λ q. IsLine held.owner (Some here.number) cells.next.items q.first q.last q.count) (sym queue) line);
    keeps = λ x q other owned. (owned, refl);
    same = λ x q other owned. refl;
  }

  pub held-same : y.queue ≡ here.queue → y.running + requests_at_all (map (seen cells) trackers) ≤ request_room + here.running
      → IsHeld (set trackers place y) cells pod_room request_room
  held-same queue fits =
      let counts : y.queue.count ≡ here.queue.count = ap (λ (q : Queue). q.count) queue in
      held-set trackers cells pod_room request_room held place here within is y cells held.owner (same_cells queue) (omega arith) held.kept.cells_fit

  pub counted-same : y.queue ≡ here.queue → requests_at_all (map (seen cells) (set trackers place y)) + here.running ≡ requests_at_all (map (seen cells) trackers) + y.running
  counted-same queue =
      let counts : y.queue.count ≡ here.queue.count = ap (λ (q : Queue). q.count) queue in
      omega (arith, counted-set trackers cells pod_room request_room held place here within is y cells held.owner (same_cells queue))

  pub changed-same : y.queue ≡ here.queue → (p : ℕ) (by : Pod → Pod) → IsPlaceOf p (map (seen cells) trackers) place → by (seen cells here) ≡ seen cells y
      → map (seen cells) (set trackers place y) ≡ with_pod_changed p by (map (seen cells) trackers)
  changed-same queue = changed-set trackers cells pod_room request_room held place here within is y cells held.owner (same_cells queue)

  -- a cell of its queue is there
  pub cell_inside : (n : ℕ) → n < here.queue.count → held.owner (after cells.next.items here.queue.first n) ≡ Some here.number
  cell_inside n lt = owner_at held.owner (Some here.number) cells.next.items here.queue.first here.queue.count n line.owned lt

  pub last_inside : 0 < here.queue.count → here.queue.last < length cells.next.items
  last_inside some =
      let n = here.queue.count - 1 in
      let lt : n < here.queue.count = omega arith in
      let at : held.owner here.queue.last ≡ Some here.number = ap held.owner (sym (line.ends n (omega arith))) ∙ cell_inside n lt in
      omega (arith, held.inside here.queue.last here.number at, held.next)

  pub first_inside : 0 < here.queue.count → (here.queue.first < length cells.next.items) × (held.owner here.queue.first ≡ Some here.number)
  unfolding after
  first_inside some =
      let at : held.owner here.queue.first ≡ Some here.number = cell_inside 0 some in
      (omega (arith, held.inside here.queue.first here.number at, held.next), at)

  -- one more is queued
  module _ (r : ℕ) (cells_after : Cells) (queued : IsQueued here.number r here.queue cells y.queue cells_after) where
    abbrev pub owner_pushed : ℕ → Option ℕ
    owner_pushed = with_owner held.owner y.queue.last (Some here.number)

    abbrev pub made_pushed : ℕ
    made_pushed = length cells_after.request.items

    -- either the last spare cell was taken, or one more was made
    some_spare : (length cells.spare.items ≡ 0 → ⊥) → 0 < length cells.spare.items
    some_spare other = grind (arith, other)

    was_last : (other : length cells.spare.items ≡ 0 → ⊥) → length cells.spare.items ≡ length cells_after.spare.items + 1
    was_last other = ap (λ (l : List ℕ). length l) (queued.taken.reused (some_spare other)).0 ∙ length_push cells_after.spare.items y.queue.last

    last_is : (other : length cells.spare.items ≡ 0 → ⊥) → get_or cells.spare.items (length cells_after.spare.items) 0 ≡ y.queue.last
    last_is other = ap (λ (l : List ℕ). get_or l (length cells_after.spare.items) 0) (queued.taken.reused (some_spare other)).0
        ∙ get_or_push cells_after.spare.items y.queue.last 0 (length cells_after.spare.items) refl

    new_free : held.owner y.queue.last ≡ None
    new_free = elim (cases_eq (length cells.spare.items) 0) [
      | inl none ↦ let behind = (queued.taken.made none).0 in
          sym (held.homes y.queue.last) ∙ get_or_past cells.home.items y.queue.last None (omega (arith, held.home, held.request))
      | inr other ↦ ap held.owner (sym (last_is other)) ∙ held.spares.free (length cells_after.spare.items) (omega (arith, was_last other))
    ]

    new_inside : y.queue.last < made_pushed
    new_inside = elim (cases_eq (length cells.spare.items) 0) [
      | inl none ↦ let made = queued.taken.made none in omega (arith, made.0, made.2)
      | inr other ↦ let same = (queued.taken.reused (some_spare other)).1 in
          omega (arith, held.spares.inside (length cells_after.spare.items) (omega (arith, was_last other)), last_is other, held.request)
    ]

    grown : held.made ≤ made_pushed
    grown = elim (cases_eq (length cells.spare.items) 0) [
      | inl none ↦ omega (arith, (queued.taken.made none).2, held.request)
      | inr other ↦ omega (arith, (queued.taken.reused (some_spare other)).1, held.request)
    ]

    -- as many more are made as fewer are spare, and one more is queued
    counts_pushed : length cells_after.spare.items + y.queue.count + length cells.request.items ≡ length cells.spare.items + here.queue.count + made_pushed
    counts_pushed = elim (cases_eq (length cells.spare.items) 0) [
      | inl none ↦ let made = queued.taken.made none in
          let empty : length cells_after.spare.items ≡ 0 = ap (λ (l : List ℕ). length l) made.1 in
          omega (arith, made.2, queued.count)
      | inr other ↦ omega (arith, was_last other, (queued.taken.reused (some_spare other)).1, queued.count)
    ]

    -- one is made only where all are queued, so there is room for it
    pub fits_pushed : requests_at_all (map (seen cells) trackers) < request_room → made_pushed ≤ request_room
    fits_pushed left = elim (cases_eq (length cells.spare.items) 0) [
      | inl none ↦ omega (arith, (queued.taken.made none).2, held.request, held.kept.cells, queued_at_most (map (seen cells) trackers))
      | inr other ↦ omega (arith, (queued.taken.reused (some_spare other)).1, held.request, held.kept.cells_fit)
    ]

    spare_same : (i : ℕ) → i < length cells_after.spare.items
        → (i < length cells.spare.items) × (get_or cells_after.spare.items i 0 ≡ get_or cells.spare.items i 0) × (get_or cells.spare.items i 0 ≡ y.queue.last → ⊥)
    spare_same i lt = elim (cases_eq (length cells.spare.items) 0) [
      | inl none ↦ let empty : length cells_after.spare.items ≡ 0 = ap (λ (l : List ℕ). length l) (queued.taken.made none).1 in absurd (omega arith)
      | inr other ↦ (
        omega (arith, was_last other),
        sym (ap (λ (l : List ℕ). get_or l i 0) (queued.taken.reused (some_spare other)).0 ∙ get_or_append_left cells_after.spare.items (y.queue.last ∷ []) 0 i lt),
        λ same. held.spares.apart i (length cells_after.spare.items) lt (omega (arith, was_last other)) (same ∙ sym (last_is other)),
      )
    ]

    is_other : (x p : ℕ) → held.owner x ≡ Some p → x ≡ y.queue.last → ⊥
    is_other x p owned same = not_both held.owner x p (ap held.owner same ∙ new_free) owned

    stays : (x p : ℕ) → held.owner x ≡ Some p → owner_pushed x ≡ Some p
    stays x p owned = owner_there held.owner y.queue.last (Some here.number) x (is_other x p owned) ∙ owned

    request_same : (x p : ℕ) → held.owner x ≡ Some p → get_or cells_after.request.items x 0 ≡ get_or cells.request.items x 0
    request_same x p owned = queued.taken.request.others x (is_other x p owned)

    next_same : (x q : ℕ) → (q ≡ here.number → ⊥) → held.owner x ≡ Some q → (n : ℕ) → here.queue.count ≡ n → get_or cells_after.next.items x 0 ≡ get_or cells.next.items x 0
    next_same x q other owned zero e = (queued.alone e).1 x
    next_same x q other owned (suc n) e =
        let mine : held.owner here.queue.last ≡ Some here.number = ap held.owner (sym (line.ends n (omega arith))) ∙ cell_inside n (omega arith) in
        (queued.behind (omega arith)).1.others x (λ same. other (same_owner held.owner x here.number q (ap held.owner same ∙ mine) owned))

    pub pushed_line : IsLine owner_pushed (Some here.number) cells_after.next.items y.queue.first y.queue.last (suc here.queue.count)
        × (requests_in cells_after.request.items cells_after.next.items y.queue.first (suc here.queue.count)
        ≡ requests_in cells.request.items cells.next.items here.queue.first here.queue.count ++ r ∷ [])
    unfolding Pushed
    pushed_line = pushed held.owner owner_pushed (Some here.number) cells.request.items cells_after.request.items cells.next.items cells_after.next.items here.queue.last y.queue.last r
        (λ x owned. stays x here.number owned) (λ owned. not_both held.owner y.queue.last here.number new_free owned)
        (owner_here held.owner y.queue.last (Some here.number)) (λ x owned. request_same x here.number owned)
        queued.taken.request.here here.queue.first y.queue.first here.queue.count (λ none. (queued.alone none).0) queued.behind line

    longer : suc here.queue.count ≡ y.queue.count
    longer = let e = queued.count in omega arith

    spares_pushed : AreSpare owner_pushed cells_after.spare.items made_pushed
    spares_pushed = record {
      inside = λ i lt. let same = spare_same i lt in omega (arith, same.1, held.spares.inside i same.0, grown);
      free = λ i lt. let same = spare_same i lt in
          ap owner_pushed same.1 ∙ owner_there held.owner y.queue.last (Some here.number) (get_or cells.spare.items i 0) same.2 ∙ held.spares.free i same.0;
      apart = λ i j before lt alike. let one = spare_same i (omega arith) in let other = spare_same j lt in
          held.spares.apart i j before other.0 (sym one.1 ∙ alike ∙ other.1);
    }

    inside_pushed : (x p : ℕ) → owner_pushed x ≡ Some p → x < made_pushed
    inside_pushed x p owned = elim (cases_eq x y.queue.last) [
      | inl same ↦ rw same new_inside
      | inr other ↦ omega (arith, grown, held.inside x p (sym (owner_there held.owner y.queue.last (Some here.number) x other) ∙ owned))
    ]

    homes_pushed : (x : ℕ) → get_or cells_after.home.items x None ≡ owner_pushed x
    homes_pushed x = elim (cases_eq x y.queue.last) [
      | inl same ↦ ap (λ k. get_or cells_after.home.items k None) same ∙ queued.taken.owner.here
          ∙ sym (ap owner_pushed same ∙ owner_here held.owner y.queue.last (Some here.number))
      | inr other ↦ queued.taken.owner.others x other ∙ held.homes x ∙ sym (owner_there held.owner y.queue.last (Some here.number) x other)
    ]

    -- its cells are those that it had, and the new one
    mine_pushed : (x : ℕ) → owner_pushed x ≡ Some here.number → IsStep cells_after.next.items y.queue.first (suc here.queue.count) x
    mine_pushed x owned = elim (cases_eq x y.queue.last) [
      | inl same ↦ record { steps = here.queue.count; within = omega arith; reached = pushed_line.0.ends here.queue.count (omega arith) ∙ sym same }
      | inr other ↦ step-pushed cells.next.items cells_after.next.items here.queue.last y.queue.last held.owner (Some here.number) here.queue.first y.queue.first here.queue.count x
          queued.behind line (mine_here trackers cells pod_room request_room held place here within is x (sym (owner_there held.owner y.queue.last (Some here.number) x other) ∙ owned))
    ]

    gains_pushed : (x q : ℕ) → (q ≡ here.number → ⊥) → owner_pushed x ≡ Some q → held.owner x ≡ Some q
    gains_pushed x q differs owned = elim (cases_eq x y.queue.last) [
      | inl same ↦ absurd (differs (same_owner owner_pushed x here.number q (ap owner_pushed same ∙ owner_here held.owner y.queue.last (Some here.number)) owned))
      | inr other ↦ sym (owner_there held.owner y.queue.last (Some here.number) x other) ∙ owned
    ]

    pub pushed_cells : HasChanged cells here y cells_after held.owner owner_pushed made_pushed
    pushed_cells = record {
      number = number;
      request = refl;
      next = queued.taken.next;
      home = queued.taken.home;
      room = queued.taken.room;
      counts = counts_pushed;
      homes = homes_pushed;
      inside = inside_pushed;
      spares = spares_pushed;
      queue = subst (λ n. IsLine owner_pushed (Some n) cells_after.next.items y.queue.first y.queue.last y.queue.count) (sym number)
          (subst (λ n. IsLine owner_pushed (Some here.number) cells_after.next.items y.queue.first y.queue.last n) longer pushed_line.0);
      mine = λ x owned. subst (λ n. IsStep cells_after.next.items y.queue.first n x) longer (mine_pushed x owned);
      gains = gains_pushed;
      keeps = λ x q other owned. (stays x q owned, next_same x q other owned here.queue.count refl);
      same = λ x q other owned. request_same x q owned;
    }

    pub queued_list : requests_in cells_after.request.items cells_after.next.items y.queue.first y.queue.count
        ≡ requests_in cells.request.items cells.next.items here.queue.first here.queue.count ++ r ∷ []
    queued_list = ap (λ n. requests_in cells_after.request.items cells_after.next.items y.queue.first n) (sym longer) ∙ pushed_line.1

  -- the first is taken out
  module _ (cells_after : Cells) (taken : IsDequeued here.queue cells y.queue cells_after) where
    shorter : here.queue.count ≡ suc y.queue.count
    shorter = let e = taken.count in omega arith

    first_mine : held.owner here.queue.first ≡ Some here.number
    first_mine = (first_inside (let e = shorter in omega arith)).1

    abbrev pub owner_popped : ℕ → Option ℕ
    owner_popped = with_owner held.owner here.queue.first None

    -- what is left of its cells
    mine_popped : (x : ℕ) → owner_popped x ≡ Some here.number → IsStep cells.next.items (get_or cells.next.items here.queue.first 0) y.queue.count x
    mine_popped x owned =
        let was = owned_before trackers cells pod_room request_room held place here within is here.queue.first first_mine x here.number owned in
        let step = subst (λ n. IsStep cells.next.items here.queue.first n x) shorter (mine_here trackers cells pod_room request_room held place here within is x was.1) in
        step-popped cells.next.items here.queue.first y.queue.count x was.0 step.steps step.within step.reached

    popped_line : IsLine owner_popped (Some here.number) cells.next.items (get_or cells.next.items here.queue.first 0) here.queue.last y.queue.count
    popped_line = line-popped held.owner owner_popped (Some here.number) cells.next.items here.queue.first here.queue.last y.queue.count
        (λ x other owned. owner_there held.owner here.queue.first None x other ∙ owned)
        (subst (λ n. IsLine held.owner (Some here.number) cells.next.items here.queue.first here.queue.last n) shorter line)

    pub popped_cells : HasChanged cells here y cells_after held.owner owner_popped held.made
    popped_cells = record {
      number = number;
      request = ap (λ (l : List ℕ). length l) taken.request ∙ held.request;
      next = ap (λ (l : List ℕ). length l) taken.next ∙ held.next;
      home = ap (λ (l : List (Option ℕ)). length l) taken.home ∙ length-set cells.home.items here.queue.first None ∙ held.home;
      room = taken.room;
      counts = let more = ap (λ (l : List ℕ). length l) taken.spare in let fewer = taken.count in
          omega (arith, held.request, length_push cells.spare.items here.queue.first);
      homes = λ x. ap (λ (l : List (Option ℕ)). get_or l x None) taken.home
          ∙ homes_freed trackers cells pod_room request_room held place here within is here.queue.first first_mine x;
      inside = inside_freed trackers cells pod_room request_room held place here within is here.queue.first first_mine;
      spares = subst (λ l. AreSpare owner_popped l held.made) (sym taken.spare)
          (spares_freed trackers cells pod_room request_room held place here within is here.queue.first first_mine);
      queue = subst (λ l. HasQueue owner_popped l y) (sym taken.next)
          (subst (λ n. IsLine owner_popped (Some n) cells.next.items y.queue.first y.queue.last y.queue.count) (sym number)
          (subst (λ f. IsLine owner_popped (Some here.number) cells.next.items f y.queue.last y.queue.count) (sym taken.first)
          (subst (λ e. IsLine owner_popped (Some here.number) cells.next.items (get_or cells.next.items here.queue.first 0) e y.queue.count) (sym taken.last) popped_line)));
      mine = λ x owned. subst (λ l. IsStep l y.queue.first y.queue.count x) (sym taken.next)
          (subst (λ f. IsStep cells.next.items f y.queue.count x) (sym taken.first) (mine_popped x owned));
      gains = λ x q other owned. (owned_before trackers cells pod_room request_room held place here within is here.queue.first first_mine x q owned).1;
      keeps = λ x q other owned. (
        keeps_freed trackers cells pod_room request_room held place here within is here.queue.first first_mine x q other owned,
        ap (λ (l : List ℕ). get_or l x 0) taken.next,
      );
      same = λ x q other owned. ap (λ (l : List ℕ). get_or l x 0) taken.request;
    }

    pub popped_list : requests_in cells_after.request.items cells_after.next.items y.queue.first y.queue.count
        ≡ drop 1 (requests_in cells.request.items cells.next.items here.queue.first here.queue.count)
    popped_list =
        ap (λ l. requests_in l cells_after.next.items y.queue.first y.queue.count) taken.request
        ∙ ap (λ l. requests_in cells.request.items l y.queue.first y.queue.count) taken.next
        ∙ ap (λ f. requests_in cells.request.items cells.next.items f y.queue.count) taken.first
        ∙ requests-popped cells.request.items cells.next.items here.queue.first y.queue.count
        ∙ ap (λ n. drop 1 (requests_in cells.request.items cells.next.items here.queue.first n)) (sym shorter)

abbrev pub with_pods : List Pod → ℕ → ℕ → State
with_pods pods pod_room request_room = record { pods = pods; pod_room = pod_room; request_room = request_room }
