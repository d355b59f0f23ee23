-- A request is looked for along a chain.
use Rattle.std.proofs.Common.{◌≡◌, ℕ, zero, suc, ◌+◌, ◌<◌, ◌≤◌, inl, inr, false, List, [], ◌∷◌, ◌++◌, get_or, take, drop, length, sym, ap, ◌∙◌, refl, arith, nat_eq}
use Rattle.std.specs.Prelude.{Contains}
use Rattle.std.proofs.lemmas.Bool.{cases_eq}
use Rattle.std.proofs.lemmas.List.{get_or_default}
use Rattle.kn_seats.specs.declared.cells.Cells.{Cells}
use Rattle.kn_seats.specs.declared.cells.Queue.{Queue}
use Rattle.kn_seats.specs.Cells.{AreInside, IsBefore}
use Rattle.kn_seats.specs.Pods.{without_request}
use Rattle.kn_seats.specs.Chains.{after, requests_in}
use Rattle.kn_seats.proofs.Chains.{length_requests, request_at, after_more}
use Rattle.kn_seats.proofs.Places.{is_named, not_named}

-- what is left where the first of them stands at this place
pub cut : (r : ℕ) (queued : List ℕ) (k : ℕ) → k < length queued → get_or queued k 0 ≡ r → ((i : ℕ) → i < k → get_or queued i 0 ≡ r → ⊥)
    → without_request r queued ≡ take k queued ++ drop (suc k) queued
cut r [] k lt is earlier = absurd (omega arith)
cut r (q ∷ queued) zero lt is earlier = rw (is_named q r is) refl
cut r (q ∷ queued) (suc k) lt is earlier =
    let other : nat_eq q r ≡ false = not_named q r (earlier 0 (omega arith)) in
    rw other (ap (λ l. q ∷ l) (cut r queued k (omega arith) is (λ i below. earlier (suc i) (omega arith))))

-- a chain that has a request has a cell
pub has_cell : (request next : List ℕ) (first count r : ℕ) → Contains (requests_in request next first count) r → 0 < count
has_cell request next first count r there =
    let place = there.0 in
    let within : place < length (requests_in request next first count) = there.1 in
    omega (arith, length_requests request next first count)

pub first_inside : (next : List ℕ) (first count room : ℕ) → 0 < count → ((k : ℕ) → k < count → after next first k < room) → first < room
unfolding after
first_inside next first count room some inside = inside 0 some

first_at : (request next : List ℕ) (first count : ℕ) → 0 < count → get_or (requests_in request next first count) 0 0 ≡ get_or request first 0
unfolding after
first_at request next first count some = request_at request next first count 0 some

-- without the first, where that has it
pub first_out : (request next : List ℕ) (first count r : ℕ) → Contains (requests_in request next first count) r → get_or request first 0 ≡ r
    → drop 1 (requests_in request next first count) ≡ without_request r (requests_in request next first count)
first_out request next first count r there has =
    let some : 0 < count = has_cell request next first count r there in
    let all = requests_in request next first count in
    sym (cut r all 0 (omega (arith, length_requests request next first count)) (first_at request next first count some ∙ has) (λ i below at. absurd (omega arith)))

-- so many steps on no cell had it
pub record IsSought (r : ℕ) (queue : Queue) (cells : Cells) (place turn : ℕ) : Type 0 where
  pub steps : ℕ
  pub turns : turn ≡ steps + 1
  pub inside : steps < queue.count
  pub stands : place ≡ after cells.next.items queue.first steps
  pub earlier : (i : ℕ) → i < suc steps → get_or (requests_in cells.request.items cells.next.items queue.first queue.count) i 0 ≡ r → ⊥

module _ (r : ℕ) (queue : Queue) (cells : Cells) (inside : AreInside queue cells) where
  pub sought-begin : 0 < queue.count → (get_or cells.request.items queue.first 0 ≡ r → ⊥) → IsSought r queue cells queue.first 1
  unfolding after
  sought-begin some differs = record {
    steps = 0;
    turns = refl;
    inside = some;
    stands = refl;
    earlier = λ i below at. let first : i ≡ 0 = omega arith in
        differs (sym (request_at cells.request.items cells.next.items queue.first queue.count 0 some)
        ∙ ap (λ k. get_or (requests_in cells.request.items cells.next.items queue.first queue.count) k 0) (sym first) ∙ at);
  }

  module _ (place turn : ℕ) (sought : IsSought r queue cells place turn) where
    pub sought-place : place < length cells.next.items
    sought-place = rw sought.stands (inside.next sought.steps sought.inside)

    next_is : get_or cells.next.items place 0 ≡ after cells.next.items queue.first (suc sought.steps)
    next_is = ap (λ p. get_or cells.next.items p 0) sought.stands ∙ after_more cells.next.items queue.first sought.steps

    pub sought-next : turn < queue.count → get_or cells.next.items place 0 < length cells.request.items
    sought-next more = let turns = sought.turns in rw next_is (inside.request (suc sought.steps) (omega arith))

    pub sought-found : turn < queue.count → get_or cells.request.items (get_or cells.next.items place 0) 0 ≡ r → IsBefore r queue cells place
    sought-found more is = let turns = sought.turns in record {
      steps = sought.steps;
      within = omega arith;
      reached = sym sought.stands;
      has = is;
      earlier = sought.earlier;
    }

    pub sought-more : turn < queue.count → (get_or cells.request.items (get_or cells.next.items place 0) 0 ≡ r → ⊥) → IsSought r queue cells (get_or cells.next.items place 0) (turn + 1)
    sought-more more differs =
        let turns = sought.turns in
        let lt : suc sought.steps < queue.count = omega arith in record {
          steps = suc sought.steps;
          turns = omega arith;
          inside = lt;
          stands = next_is;
          earlier = λ i below at. elim (cases_eq i (suc sought.steps)) [
            | inl same ↦ differs (ap (λ p. get_or cells.request.items p 0) next_is
                ∙ sym (request_at cells.request.items cells.next.items queue.first queue.count (suc sought.steps) lt)
                ∙ ap (λ k. get_or (requests_in cells.request.items cells.next.items queue.first queue.count) k 0) (sym same) ∙ at)
            | inr other ↦ sought.earlier i (omega arith) at
          ];
        }

    -- it was found by the last one
    pub sought-end : queue.count ≤ turn → Contains (requests_in cells.request.items cells.next.items queue.first queue.count) r → ⊥
    sought-end end there =
        let at = there.0 in
        let turns = sought.turns in
        let last = sought.inside in
        let lt : at < length (requests_in cells.request.items cells.next.items queue.first queue.count) = there.1 in
        let value : get_or (requests_in cells.request.items cells.next.items queue.first queue.count) at 0 ≡ r =
        get_or_default (requests_in cells.request.items cells.next.items queue.first queue.count) at 0 r lt ∙ there.2 in
        sought.earlier at (omega (arith, length_requests cells.request.items cells.next.items queue.first queue.count)) value
