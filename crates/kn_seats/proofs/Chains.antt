-- Chains of cells after a change of the cells.
use Rattle.std.proofs.Common.{◌≡◌, ℕ, zero, suc, ◌<◌, ◌≤◌, List, [], ◌∷◌, ◌++◌, set, get_or, length, refl, sym, ap, subst, ◌∙◌, arith, get_or-set_other, get_or-set_same, Bool, true, false, cond, Option, Some}
use Rattle.std.specs.Prelude.{slice_get, None}
use Rattle.kn_seats.specs.Chains.{after, requests_in, Avoids, AreDistinctSteps, AreOwned}

pub length_requests : (request next : List ℕ) (place n : ℕ) → length (requests_in request next place n) ≡ n
unfolding requests_in
length_requests request next place zero = refl
length_requests request next place (suc n) = ap suc (length_requests request next (get_or next place 0) n)

-- what a place avoids it does not meet
pub avoided : (next : List ℕ) (other place n k : ℕ) → Avoids next other place n → k < n → after next place k ≡ other → ⊥
unfolding Avoids after
avoided next other place zero k apart lt is = absurd (omega arith)
avoided next other place (suc n) zero apart lt is = apart.0 is
avoided next other place (suc n) (suc k) apart lt is = avoided next other (get_or next place 0) n k apart.1 (omega arith) is

pub owner_at : (owner : ℕ → Option ℕ) (who : Option ℕ) (next : List ℕ) (place n k : ℕ) → AreOwned owner who next place n → k < n → owner (after next place k) ≡ who
unfolding AreOwned after
owner_at owner who next place zero k owned lt = absurd (omega arith)
owner_at owner who next place (suc n) zero owned lt = owned.0
owner_at owner who next place (suc n) (suc k) owned lt = owner_at owner who next (get_or next place 0) n k owned.1 (omega arith)

pub request_at : (request next : List ℕ) (place n k : ℕ) → k < n → get_or (requests_in request next place n) k 0 ≡ get_or request (after next place k) 0
unfolding requests_in after
request_at request next place zero k lt = absurd (omega arith)
request_at request next place (suc n) zero lt = refl
request_at request next place (suc n) (suc k) lt = request_at request next (get_or next place 0) n k (omega arith)

-- one step more
pub after_more : (next : List ℕ) (place k : ℕ) → get_or next (after next place k) 0 ≡ after next place (suc k)
unfolding after
after_more next place zero = refl
after_more next place (suc k) = after_more next (get_or next place 0) k

-- the first ones of owned cells are owned
pub owned-front : (owner : ℕ → Option ℕ) (who : Option ℕ) (next : List ℕ) (place n m : ℕ) → n ≤ m → AreOwned owner who next place m → AreOwned owner who next place n
unfolding AreOwned
owned-front owner who next place zero m le owned = tt
owned-front owner who next place (suc n) zero le owned = absurd (omega arith)
owned-front owner who next place (suc n) (suc m) le owned = (owned.0, owned-front owner who next (get_or next place 0) n m (omega arith) owned.1)

-- a place that has another owner is avoided
pub owned-avoids : (owner : ℕ → Option ℕ) (who : Option ℕ) (next : List ℕ) (other place n : ℕ) → (owner other ≡ who → ⊥) → AreOwned owner who next place n → Avoids next other place n
unfolding AreOwned Avoids
owned-avoids owner who next other place zero differ owned = tt
owned-avoids owner who next other place (suc n) differ owned =
    (λ e. differ (ap owner (sym e) ∙ owned.0), owned-avoids owner who next other (get_or next place 0) n differ owned.1)

-- the cells of one owner stay as they are
module _ (owner owner_after : ℕ → Option ℕ) (who : Option ℕ) (next next_after : List ℕ)
    (keeps : (x : ℕ) → owner x ≡ who → (owner_after x ≡ who) × (get_or next_after x 0 ≡ get_or next x 0)) where
  pub owned-kept : (place n : ℕ) → AreOwned owner who next place n → AreOwned owner_after who next_after place n
  unfolding AreOwned
  owned-kept place zero owned = tt
  owned-kept place (suc n) owned =
      let here = keeps place owned.0 in
      (here.0, subst (λ p. AreOwned owner_after who next_after p n) (sym here.1) (owned-kept (get_or next place 0) n owned.1))

  avoids-kept : (other place n : ℕ) → AreOwned owner who next place n → Avoids next other place n → Avoids next_after other place n
  unfolding AreOwned Avoids
  avoids-kept other place zero owned apart = tt
  avoids-kept other place (suc n) owned apart =
      let here = keeps place owned.0 in
      (apart.0, subst (λ p. Avoids next_after other p n) (sym here.1) (avoids-kept other (get_or next place 0) n owned.1 apart.1))

  pub apart-kept : (place n : ℕ) → AreOwned owner who next place n → AreDistinctSteps next place n → AreDistinctSteps next_after place n
  unfolding AreOwned AreDistinctSteps
  apart-kept place zero owned apart = tt
  apart-kept place (suc n) owned apart =
      let here = keeps place owned.0 in (
        subst (λ p. Avoids next_after place p n) (sym here.1) (avoids-kept place (get_or next place 0) n owned.1 apart.0),
        subst (λ p. AreDistinctSteps next_after p n) (sym here.1) (apart-kept (get_or next place 0) n owned.1 apart.1),
      )

  pub after-kept : (place n : ℕ) → AreOwned owner who next place n → after next_after place n ≡ after next place n
  unfolding AreOwned after
  after-kept place zero owned = refl
  after-kept place (suc n) owned =
      let here = keeps place owned.0 in
      ap (λ p. after next_after p n) here.1 ∙ after-kept (get_or next place 0) n owned.1

  pub requests-kept : (request request_after : List ℕ) → ((x : ℕ) → owner x ≡ who → get_or request_after x 0 ≡ get_or request x 0)
      → (place n : ℕ) → AreOwned owner who next place n → requests_in request_after next_after place n ≡ requests_in request next place n
  unfolding AreOwned requests_in
  requests-kept request request_after same place zero owned = refl
  requests-kept request request_after same place (suc n) owned =
      let here = keeps place owned.0 in
      ap (λ r. r ∷ requests_in request_after next_after (get_or next_after place 0) n) (same place owned.0)
      ∙ ap (λ p. get_or request place 0 ∷ requests_in request_after next_after p n) here.1
      ∙ ap (λ l. get_or request place 0 ∷ l) (requests-kept request request_after same (get_or next place 0) n owned.1)

-- the cells before the last of a chain lead where they led, where others do
module _ (next next_after : List ℕ) (last : ℕ) (others : (x : ℕ) → (x ≡ last → ⊥) → get_or next_after x 0 ≡ get_or next x 0) where
  leads : (place n : ℕ) → AreDistinctSteps next place (suc (suc n)) → after next place (suc n) ≡ last → get_or next_after place 0 ≡ get_or next place 0
  unfolding AreDistinctSteps after
  leads place n apart is = others place (λ e. avoided next place (get_or next place 0) (suc n) n apart.0 (omega arith) (is ∙ sym e))

  pub after-before_push : (place n k : ℕ) → AreDistinctSteps next place (suc n) → after next place n ≡ last → k ≤ n → after next_after place k ≡ after next place k
  unfolding AreDistinctSteps after
  after-before_push place n zero apart is le = refl
  after-before_push place zero (suc k) apart is le = absurd (omega arith)
  after-before_push place (suc n) (suc k) apart is le =
      ap (λ p. after next_after p k) (leads place n apart is) ∙ after-before_push (get_or next place 0) n k apart.1 is (omega arith)

-- one more cell comes to stand behind the last of a chain
module _ (owner owner_after : ℕ → Option ℕ) (who : Option ℕ) (next next_after : List ℕ) (last new : ℕ)
    (stays : (x : ℕ) → owner x ≡ who → owner_after x ≡ who) (others : (x : ℕ) → (x ≡ last → ⊥) → get_or next_after x 0 ≡ get_or next x 0)
    (behind : get_or next_after last 0 ≡ new) (fresh : owner new ≡ who → ⊥) (given : owner_after new ≡ who) where
  -- the last leads to the new one
  leads_on : (place : ℕ) → after next place 0 ≡ last → get_or next_after place 0 ≡ new
  unfolding after
  leads_on place is = ap (λ p. get_or next_after p 0) is ∙ behind

  pub owned-push : (place n : ℕ) → AreDistinctSteps next place (suc n) → after next place n ≡ last → AreOwned owner who next place (suc n)
      → AreOwned owner_after who next_after place (suc (suc n))
  unfolding AreOwned AreDistinctSteps after
  owned-push place zero apart is owned = (stays place owned.0, (ap owner_after (leads_on place is) ∙ given, tt))
  owned-push place (suc n) apart is owned = (
    stays place owned.0,
    subst (λ p. AreOwned owner_after who next_after p (suc (suc n))) (sym (leads next next_after last others place n apart is)) (owned-push (get_or next place 0) n apart.1 is owned.1),
  )

  avoids-push : (other place n : ℕ) → AreDistinctSteps next place (suc n) → after next place n ≡ last → Avoids next other place (suc n) → (new ≡ other → ⊥)
      → Avoids next_after other place (suc (suc n))
  unfolding Avoids AreDistinctSteps after
  avoids-push other place zero apart is avoids differ = (avoids.0, (λ e. differ (sym (leads_on place is) ∙ e), tt))
  avoids-push other place (suc n) apart is avoids differ = (
    avoids.0,
    subst (λ p. Avoids next_after other p (suc (suc n))) (sym (leads next next_after last others place n apart is)) (avoids-push other (get_or next place 0) n apart.1 is avoids.1 differ),
  )

  pub apart-push : (place n : ℕ) → AreDistinctSteps next place (suc n) → after next place n ≡ last → AreOwned owner who next place (suc n)
      → AreDistinctSteps next_after place (suc (suc n))
  unfolding Avoids AreDistinctSteps AreOwned after
  apart-push place zero apart is owned = ((λ e. fresh (ap owner (sym (leads_on place is) ∙ e) ∙ owned.0), tt), (tt, tt))
  apart-push place (suc n) apart is owned = (
    subst (λ p. Avoids next_after place p (suc (suc n))) (sym (leads next next_after last others place n apart is))
        (avoids-push place (get_or next place 0) n apart.1 is apart.0 (λ e. fresh (ap owner e ∙ owned.0))),
    subst (λ p. AreDistinctSteps next_after p (suc (suc n))) (sym (leads next next_after last others place n apart is)) (apart-push (get_or next place 0) n apart.1 is owned.1),
  )

  pub after-push : (place n : ℕ) → AreDistinctSteps next place (suc n) → after next place n ≡ last → after next_after place (suc n) ≡ new
  unfolding AreDistinctSteps after
  after-push place zero apart is = leads_on place is
  after-push place (suc n) apart is =
      ap (λ p. after next_after p (suc n)) (leads next next_after last others place n apart is) ∙ after-push (get_or next place 0) n apart.1 is

  pub requests-push : (request request_after : List ℕ) (r : ℕ) → ((x : ℕ) → owner x ≡ who → get_or request_after x 0 ≡ get_or request x 0) → get_or request_after new 0 ≡ r
      → (place n : ℕ) → AreDistinctSteps next place (suc n) → after next place n ≡ last → AreOwned owner who next place (suc n)
      → requests_in request_after next_after place (suc (suc n)) ≡ requests_in request next place (suc n) ++ r ∷ []
  unfolding AreDistinctSteps AreOwned requests_in after
  requests-push request request_after r same has place zero apart is owned =
      ap (λ q. q ∷ get_or request_after (get_or next_after place 0) 0 ∷ []) (same place owned.0)
      ∙ ap (λ q. get_or request place 0 ∷ q ∷ []) (ap (λ p. get_or request_after p 0) (leads_on place is) ∙ has)
  requests-push request request_after r same has place (suc n) apart is owned =
      ap (λ q. q ∷ requests_in request_after next_after (get_or next_after place 0) (suc (suc n))) (same place owned.0)
      ∙ ap (λ p. get_or request place 0 ∷ requests_in request_after next_after p (suc (suc n))) (leads next next_after last others place n apart is)
      ∙ ap (λ l. get_or request place 0 ∷ l) (requests-push request request_after r same has (get_or next place 0) n apart.1 is owned.1)

-- a cell that a chain avoids may change its owner
pub owned-without : (owner owner_after : ℕ → Option ℕ) (who : Option ℕ) (next : List ℕ) (gone : ℕ) → ((x : ℕ) → (x ≡ gone → ⊥) → owner x ≡ who → owner_after x ≡ who)
    → (place n : ℕ) → Avoids next gone place n → AreOwned owner who next place n → AreOwned owner_after who next place n
unfolding Avoids AreOwned
owned-without owner owner_after who next gone stays place zero avoids owned = tt
owned-without owner owner_after who next gone stays place (suc n) avoids owned =
    (stays place avoids.0 owned.0, owned-without owner owner_after who next gone stays (get_or next place 0) n avoids.1 owned.1)

-- and its request
requests-avoid : (request next : List ℕ) (other v place n : ℕ) → Avoids next other place n → requests_in (set request other v) next place n ≡ requests_in request next place n
unfolding Avoids requests_in
requests-avoid request next other v place zero avoids = refl
requests-avoid request next other v place (suc n) avoids =
    ap (λ q. q ∷ requests_in (set request other v) next (get_or next place 0) n) (get_or-set_other request other place v 0 avoids.0)
    ∙ ap (λ l. get_or request place 0 ∷ l) (requests-avoid request next other v (get_or next place 0) n avoids.1)

-- a cell of a chain gets another request
pub requests-set : (request next : List ℕ) (v place n k : ℕ) → AreDistinctSteps next place n → k < n → ((j : ℕ) → j < n → after next place j < length request)
    → requests_in (set request (after next place k) v) next place n ≡ set (requests_in request next place n) k v
unfolding AreDistinctSteps requests_in after
requests-set request next v place zero k apart lt inside = absurd (omega arith)
requests-set request next v place (suc n) zero apart lt inside =
    ap (λ q. q ∷ requests_in (set request place v) next (get_or next place 0) n) (get_or-set_same request place v 0 (inside 0 (omega arith)))
    ∙ ap (λ l. v ∷ l) (requests-avoid request next place v (get_or next place 0) n apart.0)
requests-set request next v place (suc n) (suc k) apart lt inside =
    let within : k < n = omega arith in
    ap (λ q. q ∷ requests_in (set request (after next (get_or next place 0) k) v) next (get_or next place 0) n)
    (get_or-set_other request (after next (get_or next place 0) k) place v 0 (λ e. avoided next place (get_or next place 0) n k apart.0 within (sym e)))
    ∙ ap (λ l. get_or request place 0 ∷ l)
    (requests-set request next v (get_or next place 0) n k apart.1 within (λ j below. inside (suc j) (omega arith)))

-- a place that a chain avoids is none of its cells
pub apart_from : (next : List ℕ) (other place n k : ℕ) → Avoids next other place n → k < n → other ≡ after next place k → ⊥
apart_from next other place n k avoids lt is = avoided next other place n k avoids lt (sym is)

-- the first request of a chain
pub first_request : (request next : List ℕ) (place n : ℕ) → 0 < n → slice_get (requests_in request next place n) 0 ≡ Some (get_or request place 0)
unfolding requests_in
first_request request next place zero some = absurd (omega arith)
first_request request next place (suc n) some = refl

pub no_request : (request next : List ℕ) (place n : ℕ) → n ≡ 0 → slice_get (requests_in request next place n) 0 ≡ None
unfolding requests_in
no_request request next place zero none = refl
no_request request next place (suc n) some = absurd (omega arith)

-- what a promotion answers: no one is queued, no seat is free, or the first
pub answers_none : (free : Bool) (first : Option ℕ) → first ≡ None → None ≡ cond free first None
answers_none true first is = sym is
answers_none false first is = refl

pub answers_refusal : (free : Bool) (first : Option ℕ) → false ≡ free → None ≡ cond free first None
answers_refusal true first is = absurd (cc)
answers_refusal false first is = refl

pub answers_first : (free : Bool) (first : Option ℕ) (r : ℕ) → true ≡ free → first ≡ Some r → Some r ≡ cond free first None
answers_first true first r is some = sym some
answers_first false first r is some = absurd (cc)
