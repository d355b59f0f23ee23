-- A cell is taken out of a queue, and the one before it leads on.
use Rattle.std.proofs.Common.{◌≡◌, ◌≢◌, ℕ, zero, suc, ◌+◌, ◌-◌, ◌<◌, ◌≤◌, inl, inr, List, [], ◌∷◌, ◌++◌, get_or, take, drop, length, refl, sym, ap, subst, ◌∙◌, arith, nat_eq, get_or-set_other, get_or-set_same, length-set, Option, Some, None}
use Rattle.std.specs.Prelude.{filter, not, Contains}
use Rattle.std.proofs.lemmas.Bool.{cases_eq, cases_lt}
use Rattle.std.proofs.lemmas.List.{length_push}
use Rattle.kn_seats.specs.declared.cells.Cells.{Cells}
use Rattle.kn_seats.specs.declared.tracker.Tracker.{Tracker}
use Rattle.kn_seats.specs.Pods.{without_request, StandsOnce}
use Rattle.kn_seats.specs.Cells.{IsBefore, IsUnlinked}
use Rattle.kn_seats.specs.Chains.{after, requests_in, AreDistinctSteps, AreOwned}
use Rattle.kn_seats.specs.Kept.{IsHeld, IsLine, IsStep, HasQueue, AreSpare}
use Rattle.kn_seats.proofs.Chains.{after_more, length_requests, request_at}
use Rattle.kn_seats.proofs.Sought.{cut}
use Rattle.kn_seats.proofs.Places.{is_named, not_named}
use Rattle.kn_seats.proofs.Unlinked.{steps_apart, requests_unlinked, apart_unlinked, owned_unlinked, after_front, after_back}
use Rattle.kn_seats.proofs.Spared.{with_owner, owner_there, same_owner, owned_before, homes_freed, inside_freed, spares_freed, keeps_freed}
use Rattle.kn_seats.proofs.Held.{HasChanged, here_queue, mine_here}
use Rattle.kn_seats.proofs.Changes.{cell_inside}

filter_shorter : (r : ℕ) (xs : List ℕ) → length (filter (λ q. not (nat_eq r q)) xs) ≤ length xs
filter_shorter r [] = omega arith
filter_shorter r (x ∷ xs) =
    let rest = filter_shorter r xs in
    elim (cases_eq r x) [
      | inl same ↦ rw (is_named r x same) (omega arith)
      | inr other ↦ rw (not_named r x other) (omega arith)
    ]

-- the others are fewer than all where it is there
fewer : (r : ℕ) (xs : List ℕ) (i : ℕ) → i < length xs → get_or xs i 0 ≡ r → length (filter (λ q. not (nat_eq r q)) xs) < length xs
fewer r [] i lt is = absurd (omega arith)
fewer r (x ∷ xs) zero lt is = rw (is_named r x (sym is)) (let e = filter_shorter r xs in omega arith)
fewer r (x ∷ xs) (suc i) lt is =
    let rest = fewer r xs i (omega arith) is in
    elim (cases_eq r x) [
      | inl same ↦ rw (is_named r x same) (omega arith)
      | inr other ↦ rw (not_named r x other) (omega arith)
    ]

once : (r : ℕ) (xs : List ℕ) (i j : ℕ) → StandsOnce r xs → i < j → j < length xs → get_or xs i 0 ≡ r → get_or xs j 0 ≡ r → ⊥
once r [] i j stands less lt one two = absurd (omega arith)
once r (x ∷ xs) i zero stands less lt one two = absurd (omega arith)
once r (x ∷ xs) zero (suc j) stands less lt one two =
    let e : length (filter (λ q. not (nat_eq r q)) xs) + 1 ≡ suc (length xs) = rw (is_named r x (sym one)) at stands in
    absurd (omega (arith, fewer r xs j (omega arith) two))
once r (x ∷ xs) (suc i) (suc j) stands less lt one two = elim (cases_eq r x) [
  | inl same ↦ let e : length (filter (λ q. not (nat_eq r q)) xs) + 1 ≡ suc (length xs) = rw (is_named r x same) at stands in
      absurd (omega (arith, fewer r xs j (omega arith) two))
  | inr other ↦ let e : suc (length (filter (λ q. not (nat_eq r q)) xs)) + 1 ≡ suc (length xs) = rw (not_named r x other) at stands in
      once r xs i j (omega arith) (omega arith) (omega arith) one two
]

-- so it is there
pub is_there : (r : ℕ) (xs : List ℕ) → StandsOnce r xs → Contains xs r
is_there r [] stands = absurd (omega arith)
is_there r (x ∷ xs) stands = elim (cases_eq r x) [
  | inl same ↦ (0, omega arith, sym same)
  | inr other ↦
      let e : suc (length (filter (λ q. not (nat_eq r q)) xs)) + 1 ≡ suc (length xs) = rw (not_named r x other) at stands in
      let rest = is_there r xs (omega arith) in
      (suc rest.0, omega (arith, rest.1), rest.2)
]

module _ (trackers : List Tracker) (cells : Cells) (pod_room request_room : ℕ) (held : IsHeld trackers cells pod_room request_room)
    (place : ℕ) (here : Tracker) (within : place < length trackers) (is : here ≡ get_or trackers place here)
    (before : ℕ) (owned : held.owner before ≡ Some here.number) (inner : before ≡ here.queue.last → ⊥) where
  line : HasQueue held.owner cells.next.items here
  line = here_queue trackers cells pod_room request_room held place here within is

  step : IsStep cells.next.items here.queue.first here.queue.count before
  step = mine_here trackers cells pod_room request_room held place here within is before owned

  -- one more cell is behind it
  deeper : suc step.steps < here.queue.count
  deeper =
      let lt = step.within in
      let ends_there : suc step.steps ≡ here.queue.count → ⊥ = λ e. inner (sym step.reached ∙ line.ends step.steps (omega arith)) in
      grind (arith, lt, ends_there)

  gone : ℕ
  gone = get_or cells.next.items before 0

  there : after cells.next.items here.queue.first (suc step.steps) ≡ gone
  unfolding gone
  there = sym (after_more cells.next.items here.queue.first step.steps) ∙ ap (λ b. get_or cells.next.items b 0) step.reached

  pub gone_mine : held.owner (get_or cells.next.items before 0) ≡ Some here.number
  unfolding gone
  gone_mine = ap held.owner (sym there) ∙ cell_inside trackers cells pod_room request_room held place here within is here refl (suc step.steps) deeper

  pub cut_some : 0 < here.queue.count
  cut_some = let e = deeper in omega arith

  pub before_inside : before < held.made
  before_inside = held.inside before here.number owned

  pub gone_inside : get_or cells.next.items before 0 < held.made
  gone_inside = held.inside (get_or cells.next.items before 0) here.number gone_mine

  module _ (y : Tracker) (number : y.number ≡ here.number) (cells_after : Cells) (cut_out : IsUnlinked before here.queue cells y.queue cells_after) where
    abbrev pub owner_cut : ℕ → Option ℕ
    owner_cut = with_owner held.owner (get_or cells.next.items before 0) None

    count : here.queue.count ≡ suc y.queue.count
    count = let e = cut_out.count in omega arith

    lt : step.steps < y.queue.count
    lt = let e = deeper in let n = count in omega arith

    others : (x : ℕ) → (x ≡ before → ⊥) → get_or cells_after.next.items x 0 ≡ get_or cells.next.items x 0
    others x other = ap (λ (l : List ℕ). get_or l x 0) cut_out.next ∙ get_or-set_other cells.next.items before x (get_or cells.next.items (get_or cells.next.items before 0) 0) 0 other

    leads : get_or cells_after.next.items before 0 ≡ get_or cells.next.items (get_or cells.next.items before 0) 0
    leads = ap (λ (l : List ℕ). get_or l before 0) cut_out.next
        ∙ get_or-set_same cells.next.items before (get_or cells.next.items (get_or cells.next.items before 0) 0) 0 (omega (arith, before_inside, held.next))

    apart : AreDistinctSteps cells.next.items here.queue.first (suc y.queue.count)
    apart = subst (λ n. AreDistinctSteps cells.next.items here.queue.first n) count line.apart

    ends : (m : ℕ) → y.queue.count ≡ m + 1 → after cells_after.next.items here.queue.first m ≡ y.queue.last
    unfolding gone
    ends m e =
        let last : after cells.next.items here.queue.first y.queue.count ≡ here.queue.last = line.ends y.queue.count (let n = count in omega arith) in
        let less = lt in
        elim (cases_eq (suc step.steps) y.queue.count) [
          | inl same ↦
              let end : here.queue.last ≡ get_or cells.next.items before 0 = sym last ∙ ap (λ n. after cells.next.items here.queue.first n) (sym same) ∙ there in
              let at : m ≡ step.steps = omega arith in
              ap (λ n. after cells_after.next.items here.queue.first n) at
              ∙ after_front cells.next.items cells_after.next.items before others leads here.queue.first step.steps y.queue.count step.steps less apart step.reached (omega arith)
              ∙ step.reached ∙ sym (cut_out.end end)
          | inr other ↦
              let stays : here.queue.last ≢ get_or cells.next.items before 0 = λ at. steps_apart cells.next.items here.queue.first (suc y.queue.count) (suc step.steps) y.queue.count apart
              (grind (arith, less, other)) (omega arith) (there ∙ sym at ∙ sym last) in
              after_back cells.next.items cells_after.next.items before others leads here.queue.first step.steps y.queue.count m less apart step.reached (grind (arith, less, other, e)) (omega arith)
              ∙ ap (λ n. after cells.next.items here.queue.first n) (let n : suc m ≡ y.queue.count = omega arith in n) ∙ last ∙ sym (cut_out.inner stays)
        ]

    cut_line : IsLine owner_cut (Some here.number) cells_after.next.items here.queue.first y.queue.last y.queue.count
    cut_line = record {
      apart = apart_unlinked cells.next.items cells_after.next.items before others leads here.queue.first step.steps y.queue.count lt apart step.reached;
      owned = owned_unlinked cells.next.items cells_after.next.items before others leads held.owner owner_cut (Some here.number) (get_or cells.next.items before 0) refl
          (λ x other mine. owner_there held.owner (get_or cells.next.items before 0) None x other ∙ mine)
          here.queue.first step.steps y.queue.count lt apart step.reached (subst (λ n. AreOwned held.owner (Some here.number) cells.next.items here.queue.first n) count line.owned);
      ends = ends;
    }

    -- what is left of its cells
    mine_cut : (x : ℕ) → owner_cut x ≡ Some here.number → IsStep cells_after.next.items here.queue.first y.queue.count x
    unfolding gone
    mine_cut x mine =
        let was = owned_before trackers cells pod_room request_room held place here within is (get_or cells.next.items before 0) gone_mine x here.number mine in
        let at = mine_here trackers cells pod_room request_room held place here within is x was.1 in
        let j = at.steps in
        let n = count in
        let below = at.within in
        let less = lt in
        let differs : j ≡ suc step.steps → ⊥ = λ e. was.0 (sym at.reached ∙ ap (λ i. after cells.next.items here.queue.first i) e ∙ there) in
        elim (cases_lt j (suc step.steps)) [
          | inl front ↦ record {
            steps = j;
            within = omega arith;
            reached = after_front cells.next.items cells_after.next.items before others leads here.queue.first step.steps y.queue.count j less apart step.reached (omega arith) ∙ at.reached;
          }
          | inr back ↦
              let over : suc step.steps < j = grind (arith, back, differs) in
              let same : suc (j - 1) ≡ j = omega arith in record {
                steps = j - 1;
                within = omega arith;
                reached = after_back cells.next.items cells_after.next.items before others leads here.queue.first step.steps y.queue.count (j - 1) less apart step.reached (omega arith) (omega arith)
                    ∙ ap (λ i. after cells.next.items here.queue.first i) same ∙ at.reached;
              }
        ]

    next_same : (x q : ℕ) → (q ≡ here.number → ⊥) → held.owner x ≡ Some q → get_or cells_after.next.items x 0 ≡ get_or cells.next.items x 0
    next_same x q other mine = others x (λ same. other (same_owner held.owner x here.number q (ap held.owner same ∙ owned) mine))

    pub cut_cells : HasChanged cells here y cells_after held.owner owner_cut held.made
    cut_cells = record {
      number = number;
      request = ap (λ (l : List ℕ). length l) cut_out.request ∙ held.request;
      next = ap (λ (l : List ℕ). length l) cut_out.next ∙ length-set cells.next.items before (get_or cells.next.items (get_or cells.next.items before 0) 0) ∙ held.next;
      home = ap (λ (l : List (Option ℕ)). length l) cut_out.home ∙ length-set cells.home.items (get_or cells.next.items before 0) None ∙ held.home;
      room = cut_out.room;
      counts = let more = ap (λ (l : List ℕ). length l) cut_out.spare in let fewer = cut_out.count in
          omega (arith, held.request, length_push cells.spare.items (get_or cells.next.items before 0));
      homes = λ x. ap (λ (l : List (Option ℕ)). get_or l x None) cut_out.home
          ∙ homes_freed trackers cells pod_room request_room held place here within is (get_or cells.next.items before 0) gone_mine x;
      inside = inside_freed trackers cells pod_room request_room held place here within is (get_or cells.next.items before 0) gone_mine;
      spares = subst (λ l. AreSpare owner_cut l held.made) (sym cut_out.spare)
          (spares_freed trackers cells pod_room request_room held place here within is (get_or cells.next.items before 0) gone_mine);
      queue = subst (λ n. IsLine owner_cut (Some n) cells_after.next.items y.queue.first y.queue.last y.queue.count) (sym number)
          (subst (λ f. IsLine owner_cut (Some here.number) cells_after.next.items f y.queue.last y.queue.count) (sym cut_out.first) cut_line);
      mine = λ x mine. subst (λ f. IsStep cells_after.next.items f y.queue.count x) (sym cut_out.first) (mine_cut x mine);
      gains = λ x q other mine. (owned_before trackers cells pod_room request_room held place here within is (get_or cells.next.items before 0) gone_mine x q mine).1;
      keeps = λ x q other mine. (
        keeps_freed trackers cells pod_room request_room held place here within is (get_or cells.next.items before 0) gone_mine x q other mine,
        next_same x q other mine,
      );
      same = λ x q other mine. ap (λ (l : List ℕ). get_or l x 0) cut_out.request;
    }

    pub cut_list : (r k : ℕ) → suc k < here.queue.count → after cells.next.items here.queue.first k ≡ before → get_or cells.request.items (get_or cells.next.items before 0) 0 ≡ r
        → ((i : ℕ) → i < suc k → get_or (requests_in cells.request.items cells.next.items here.queue.first here.queue.count) i 0 ≡ r → ⊥)
        → requests_in cells_after.request.items cells_after.next.items y.queue.first y.queue.count ≡ without_request r (requests_in cells.request.items cells.next.items here.queue.first here.queue.count)
    cut_list r k deep at has earlier =
        let all = requests_in cells.request.items cells.next.items here.queue.first here.queue.count in
        let n = count in
        let many = length_requests cells.request.items cells.next.items here.queue.first here.queue.count in
        let inside : suc k < length all = omega arith in
        let behind : after cells.next.items here.queue.first (suc k) ≡ get_or cells.next.items before 0 =
        sym (after_more cells.next.items here.queue.first k) ∙ ap (λ b. get_or cells.next.items b 0) at in
        let value : get_or all (suc k) 0 ≡ r = request_at cells.request.items cells.next.items here.queue.first here.queue.count (suc k) deep ∙ ap (λ x. get_or cells.request.items x 0) behind ∙ has in
        ap (λ l. requests_in l cells_after.next.items y.queue.first y.queue.count) cut_out.request
        ∙ ap (λ f. requests_in cells.request.items cells_after.next.items f y.queue.count) cut_out.first
        ∙ requests_unlinked cells.next.items cells_after.next.items before others leads cells.request.items here.queue.first k y.queue.count (omega arith) apart at
        ∙ ap (λ n. take (suc k) (requests_in cells.request.items cells.next.items here.queue.first n) ++ drop (suc (suc k)) (requests_in cells.request.items cells.next.items here.queue.first n)) (sym count)
        ∙ sym (cut r all (suc k) inside value earlier)

    -- where it stands there once
    pub cut_once : (r : ℕ) → get_or cells.request.items (get_or cells.next.items before 0) 0 ≡ r → StandsOnce r (requests_in cells.request.items cells.next.items here.queue.first here.queue.count)
        → requests_in cells_after.request.items cells_after.next.items y.queue.first y.queue.count ≡ without_request r (requests_in cells.request.items cells.next.items here.queue.first here.queue.count)
    unfolding gone
    cut_once r has stands =
        let all = requests_in cells.request.items cells.next.items here.queue.first here.queue.count in
        let many = length_requests cells.request.items cells.next.items here.queue.first here.queue.count in
        let inside : suc step.steps < length all = omega (arith, deeper, many) in
        let value : get_or all (suc step.steps) 0 ≡ r = request_at cells.request.items cells.next.items here.queue.first here.queue.count (suc step.steps) deeper ∙ ap (λ x. get_or cells.request.items x 0) there ∙ has in
        cut_list r step.steps deeper step.reached has (λ i below at. once r all i (suc step.steps) stands below inside at value)

-- the cell that leads to the first one with the request is the pod's, and not the last
module _ (trackers : List Tracker) (cells : Cells) (pod_room request_room : ℕ) (held : IsHeld trackers cells pod_room request_room)
    (place : ℕ) (here : Tracker) (within : place < length trackers) (is : here ≡ get_or trackers place here)
    (r before : ℕ) (found : IsBefore r here.queue cells before) where
  pub before_owned : held.owner before ≡ Some here.number
  before_owned = let lt = found.within in
      ap held.owner (sym found.reached) ∙ cell_inside trackers cells pod_room request_room held place here within is here refl found.steps (omega arith)

  pub before_inner : before ≡ here.queue.last → ⊥
  before_inner e =
      let lt = found.within in
      let queue = here_queue trackers cells pod_room request_room held place here within is in
      let last : after cells.next.items here.queue.first (here.queue.count - 1) ≡ here.queue.last = queue.ends (here.queue.count - 1) (omega arith) in
      steps_apart cells.next.items here.queue.first here.queue.count found.steps (here.queue.count - 1) queue.apart (omega arith) (omega arith) (found.reached ∙ e ∙ sym last)
