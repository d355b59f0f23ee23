-- Seats without pods, a pod that comes and one that goes.
use Rattle.std.proofs.Common.{◌≡◌, ℕ, zero, suc, ◌+◌, ◌-◌, ◌<◌, ◌≤◌, inl, inr, List, [], ◌∷◌, ◌++◌, get_or, length, refl, sym, ap, subst, ◌∙◌, arith, false, Option, Some, None}
use Rattle.std.specs.Prelude.{map, All}
use Rattle.std.specs.List.{remove}
use Rattle.std.proofs.lemmas.Bool.{cases_eq, cases_lt}
use Rattle.std.proofs.Math.ListN.{get_or-map}
use Rattle.std.proofs.lemmas.List.{get_or_default, length-map, length_push, map_push, get_or_push, get_or_append_left}
use Rattle.std.proofs.lemmas.List.Edits.{length-remove, get_or-remove_below, get_or-remove_above}
use Rattle.std.proofs.lemmas.List.Elements.{All-get_or}
use Rattle.std.proofs.lemmas.List.Quantifiers.{all_pairs_push}
use Rattle.std.proofs.lemmas.List.Sums.{sum_by_push, sum_by-remove}
use Rattle.kn_seats.specs.declared.cells.Cells.{Cells}
use Rattle.kn_seats.specs.declared.tracker.Tracker.{Tracker}
use Rattle.kn_seats.specs.Pods.{Pod, idle_pod, requests_at, requests_at_all}
use Rattle.kn_seats.specs.Cells.{IsNew}
use Rattle.kn_seats.specs.Chains.{requests_in, AreDistinctSteps, AreOwned}
use Rattle.kn_seats.specs.Kept.{IsKept, IsHeld, IsFound, IsLine, HasQueue, seen}
use Rattle.kn_seats.proofs.Chains.{length_requests}
use Rattle.kn_seats.proofs.Kept.{kept-remove}

pub held-new : (cells : Cells) (pod_room request_room : ℕ) → IsNew request_room cells → request_room ≤ 20000 → IsHeld [] cells pod_room request_room
held-new cells pod_room request_room new most = let none : length cells.spare.items ≡ 0 = ap (λ (l : List ℕ). length l) new.spare in record {
  made = 0;
  kept = record {
    ascending = λ i j d lt inside. absurd (omega arith);
    pods_fit = omega arith;
    requests_fit = omega arith;
    cells = omega arith;
    cells_fit = omega arith;
    most_requests = most;
  };
  request = ap (λ (l : List ℕ). length l) new.request;
  next = ap (λ (l : List ℕ). length l) new.next;
  home = ap (λ (l : List (Option ℕ)). length l) new.home;
  room = new.room;
  owner = λ x. None;
  homes = λ x. ap (λ (l : List (Option ℕ)). get_or l x None) new.home;
  found = λ x p e. absurd (let h : None ≡ Some p = e in cc);
  inside = λ x p e. absurd (let h : None ≡ Some p = e in cc);
  spares = record {
    inside = λ i lt. absurd (omega arith);
    free = λ i lt. refl;
    apart = λ i j before lt same. absurd (omega arith);
  };
  queues = λ i d lt. absurd (omega arith);
}

kept-add : (pods : List Pod) (pod : Pod) (spare made pod_room request_room : ℕ) → IsKept pods spare made pod_room request_room → length pods < pod_room
    → All (λ q. q.number < pod.number) pods → requests_at pod ≡ 0 → IsKept (pods ++ pod ∷ []) spare made pod_room request_room
kept-add pods pod spare made pod_room request_room kept room below none =
    let requests = kept.requests_fit in
    let total = kept.cells in
    record {
      ascending = all_pairs_push (λ a b. a.number < b.number) pods pod kept.ascending (λ k d lt. All-get_or (λ q. q.number < pod.number) pods k d lt below);
      pods_fit = omega (arith, length_push pods pod);
      requests_fit = omega (arith, sum_by_push requests_at pods pod);
      cells = omega (arith, sum_by_push (λ (q : Pod). length q.queued) pods pod);
      cells_fit = kept.cells_fit;
      most_requests = kept.most_requests;
    }

empty_line : (owner : ℕ → Option ℕ) (who : Option ℕ) (next : List ℕ) (first last count : ℕ) → count ≡ 0 → IsLine owner who next first last count
unfolding AreDistinctSteps AreOwned
empty_line owner who next first last zero none = record { apart = tt; owned = tt; ends = λ n e. absurd (omega arith) }
empty_line owner who next first last (suc n) none = absurd (omega arith)

abbrev pub idle : ℕ → ℕ → Tracker
idle p limit = record { number = p; limit = limit; running = 0; queue = record { first = 0; last = 0; count = 0 }; draining = false }

pub idle_seen : (cells : Cells) (p limit : ℕ) → seen cells (idle p limit) ≡ idle_pod p limit
unfolding requests_in
idle_seen cells p limit = refl

module _ (trackers : List Tracker) (cells : Cells) (pod_room request_room : ℕ) (held : IsHeld trackers cells pod_room request_room) where
  pub seen-add : (p limit : ℕ) → map (seen cells) (trackers ++ idle p limit ∷ []) ≡ map (seen cells) trackers ++ idle_pod p limit ∷ []
  seen-add p limit = map_push (seen cells) trackers (idle p limit) ∙ ap (λ q. map (seen cells) trackers ++ q ∷ []) (idle_seen cells p limit)

  pub held-add : (p limit : ℕ) → length trackers < pod_room → All (λ q. q.number < p) (map (seen cells) trackers) → IsHeld (trackers ++ idle p limit ∷ []) cells pod_room request_room
  held-add p limit room below = record {
    made = held.made;
    kept = subst (λ l. IsKept l (length cells.spare.items) held.made pod_room request_room) (sym (seen-add p limit))
        (kept-add (map (seen cells) trackers) (idle_pod p limit) (length cells.spare.items) held.made pod_room request_room held.kept (omega (arith, length-map trackers (seen cells))) below refl);
    request = held.request;
    next = held.next;
    home = held.home;
    room = held.room;
    owner = held.owner;
    homes = held.homes;
    found = λ x q owned. let found = held.found x q owned in record {
      place = found.place;
      inside = omega (arith, found.inside, length_push trackers (idle p limit));
      tracker = found.tracker;
      stands = λ d. get_or_append_left trackers (idle p limit ∷ []) d found.place found.inside ∙ found.stands d;
      number = found.number;
      step = found.step;
    };
    inside = held.inside;
    spares = held.spares;
    queues = λ i d lt. elim (cases_eq i (length trackers)) [
      | inl same ↦ subst (λ t. HasQueue held.owner cells.next.items t) (sym (get_or_push trackers (idle p limit) d i (sym same)))
          (empty_line held.owner (Some p) cells.next.items 0 0 0 refl)
      | inr other ↦ let within : i < length trackers = omega (arith, length_push trackers (idle p limit)) in
          subst (λ t. HasQueue held.owner cells.next.items t) (sym (get_or_append_left trackers (idle p limit ∷ []) d i within)) (held.queues i d within)
    ];
  }

map-remove : (f : Tracker → Pod) (xs : List Tracker) (place : ℕ) → place < length xs → map f (remove xs place) ≡ remove (map f xs) place
map-remove f [] place inside = absurd (omega arith)
map-remove f (x ∷ xs) zero inside = refl
map-remove f (x ∷ xs) (suc place) inside = ap (λ l. f x ∷ l) (map-remove f xs place (omega arith))

module _ (trackers : List Tracker) (cells : Cells) (pod_room request_room : ℕ) (held : IsHeld trackers cells pod_room request_room)
    (place : ℕ) (within : place < length trackers) where
  pub seen-remove : map (seen cells) (remove trackers place) ≡ remove (map (seen cells) trackers) place
  seen-remove = map-remove (seen cells) trackers place within

  within_seen : place < length (map (seen cells) trackers)
  within_seen = omega (arith, length-map trackers (seen cells))

  pub counted-remove : (d : Pod) → requests_at (get_or (map (seen cells) trackers) place d) ≡ 0
      → requests_at_all (map (seen cells) (remove trackers place)) ≡ requests_at_all (map (seen cells) trackers)
  counted-remove d none =
      let all = ap requests_at_all seen-remove in
      let sums = sum_by-remove requests_at (map (seen cells) trackers) place d within_seen in
      omega arith

  -- a cell that is in a queue is in that of a pod that stays
  found_left : (d : Pod) → requests_at (get_or (map (seen cells) trackers) place d) ≡ 0 → (x q : ℕ) → IsFound trackers cells.next.items x q → IsFound (remove trackers place) cells.next.items x q
  found_left d none x q found =
      let t = found.tracker in
      let fewer = length-remove trackers place within in
      let some = found.step.within in
      let empty : t.queue.count ≡ 0 → ⊥ = λ e. omega arith in
      let away : found.place ≡ place → ⊥ = λ same.
      let here : seen cells t ≡ get_or (map (seen cells) trackers) place d =
      ap (seen cells) (sym (found.stands t)) ∙ sym (get_or-map (seen cells) trackers found.place t) ∙ ap (λ k. get_or (map (seen cells) trackers) k (seen cells t)) same
      ∙ get_or_default (map (seen cells) trackers) place (seen cells t) d within_seen in
      let at = ap requests_at here in
      empty (omega (arith, none, at, length_requests cells.request.items cells.next.items t.queue.first t.queue.count)) in
      elim (cases_lt found.place place) [
        | inl below ↦ record {
          place = found.place;
          inside = omega arith;
          tracker = t;
          stands = λ e. get_or-remove_below trackers place e found.place below within ∙ found.stands e;
          number = found.number;
          step = found.step;
        }
        | inr above ↦ let less : place < found.place = grind (arith, above, away) in
            let same : found.place - 1 + 1 ≡ found.place = omega arith in record {
              place = found.place - 1;
              inside = omega (arith, found.inside);
              tracker = t;
              stands = λ e. get_or-remove_above trackers place e (found.place - 1) (omega arith) within ∙ ap (λ k. get_or trackers k e) same ∙ found.stands e;
              number = found.number;
              step = found.step;
            }
      ]

  pub held-remove : (d : Pod) → requests_at (get_or (map (seen cells) trackers) place d) ≡ 0 → IsHeld (remove trackers place) cells pod_room request_room
  held-remove d none = record {
    made = held.made;
    kept = subst (λ l. IsKept l (length cells.spare.items) held.made pod_room request_room) (sym seen-remove)
        (kept-remove (map (seen cells) trackers) place d (length cells.spare.items) held.made pod_room request_room held.kept within_seen none);
    request = held.request;
    next = held.next;
    home = held.home;
    room = held.room;
    owner = held.owner;
    homes = held.homes;
    found = λ x q owned. found_left d none x q (held.found x q owned);
    inside = held.inside;
    spares = held.spares;
    queues = λ i e lt.
        let fewer = length-remove trackers place within in
        elim (cases_lt i place) [
          | inl below ↦ subst (λ t. HasQueue held.owner cells.next.items t) (sym (get_or-remove_below trackers place e i below within)) (held.queues i e (omega arith))
          | inr above ↦ subst (λ t. HasQueue held.owner cells.next.items t) (sym (get_or-remove_above trackers place e i above within)) (held.queues (i + 1) e (omega arith))
        ];
  }
