-- A chain from which a cell is taken out: the one before it leads on to the one behind it.
use Rattle.std.proofs.Common.{◌≡◌, ℕ, zero, suc, ◌<◌, ◌≤◌, List, ◌∷◌, ◌++◌, get_or, take, drop, refl, sym, ap, subst, ◌∙◌, arith, Option}
use Rattle.kn_seats.specs.Chains.{after, requests_in, Avoids, AreDistinctSteps, AreOwned}
use Rattle.kn_seats.proofs.Chains.{avoided, after_more}

-- two steps lead to two cells
pub steps_apart : (next : List ℕ) (place n i j : ℕ) → AreDistinctSteps next place n → i < j → j < n → after next place i ≡ after next place j → ⊥
unfolding AreDistinctSteps after
steps_apart next place zero i j apart less lt same = absurd (omega arith)
steps_apart next place (suc n) zero zero apart less lt same = absurd (omega arith)
steps_apart next place (suc n) zero (suc j) apart less lt same = avoided next place (get_or next place 0) n j apart.0 (omega arith) (sym same)
steps_apart next place (suc n) (suc i) zero apart less lt same = absurd (omega arith)
steps_apart next place (suc n) (suc i) (suc j) apart less lt same = steps_apart next (get_or next place 0) n i j apart.1 (omega arith) (omega arith) same

module _ (next next_after : List ℕ) (before : ℕ) (others : (x : ℕ) → (x ≡ before → ⊥) → get_or next_after x 0 ≡ get_or next x 0)
    (leads : get_or next_after before 0 ≡ get_or next (get_or next before 0) 0) where
  -- a chain that avoids that cell leads where it led
  after_past : (place n j : ℕ) → Avoids next before place n → j ≤ n → after next_after place j ≡ after next place j
  unfolding Avoids after
  after_past place n zero avoids le = refl
  after_past place zero (suc j) avoids le = absurd (omega arith)
  after_past place (suc n) (suc j) avoids le =
      ap (λ p. after next_after p j) (others place avoids.0) ∙ after_past (get_or next place 0) n j avoids.1 (omega arith)

  requests_past : (request : List ℕ) (place n : ℕ) → Avoids next before place n → requests_in request next_after place n ≡ requests_in request next place n
  unfolding Avoids requests_in
  requests_past request place zero avoids = refl
  requests_past request place (suc n) avoids =
      ap (λ p. get_or request place 0 ∷ requests_in request next_after p n) (others place avoids.0)
      ∙ ap (λ l. get_or request place 0 ∷ l) (requests_past request (get_or next place 0) n avoids.1)

  avoids_past : (x place n : ℕ) → Avoids next before place n → Avoids next x place n → Avoids next_after x place n
  unfolding Avoids
  avoids_past x place zero avoids away = tt
  avoids_past x place (suc n) avoids away =
      (away.0, subst (λ p. Avoids next_after x p n) (sym (others place avoids.0)) (avoids_past x (get_or next place 0) n avoids.1 away.1))

  apart_past : (place n : ℕ) → Avoids next before place n → AreDistinctSteps next place n → AreDistinctSteps next_after place n
  unfolding Avoids AreDistinctSteps
  apart_past place zero avoids apart = tt
  apart_past place (suc n) avoids apart = (
    subst (λ p. Avoids next_after place p n) (sym (others place avoids.0)) (avoids_past place (get_or next place 0) n avoids.1 apart.0),
    subst (λ p. AreDistinctSteps next_after p n) (sym (others place avoids.0)) (apart_past (get_or next place 0) n avoids.1 apart.1),
  )

  -- it leads past the next one, and the rest avoids it
  skips : (place : ℕ) → place ≡ before → get_or next_after place 0 ≡ get_or next (get_or next place 0) 0
  skips place is = ap (λ p. get_or next_after p 0) is ∙ leads ∙ ap (λ b. get_or next (get_or next b 0) 0) (sym is)

  rest_avoids : (place m : ℕ) → place ≡ before → AreDistinctSteps next place (suc (suc m)) → Avoids next before (get_or next (get_or next place 0) 0) m
  unfolding Avoids AreDistinctSteps
  rest_avoids place m is apart = subst (λ b. Avoids next b (get_or next (get_or next place 0) 0) m) is apart.0.1

  -- one before it leads where it led
  leads_on : (place k n : ℕ) → AreDistinctSteps next place (suc n) → after next (get_or next place 0) k ≡ before → k < n → get_or next_after place 0 ≡ get_or next place 0
  unfolding AreDistinctSteps
  leads_on place k n apart is lt = others place (λ e. avoided next place (get_or next place 0) n k apart.0 lt (is ∙ sym e))

  pub requests_unlinked : (request : List ℕ) (place k n : ℕ) → k < n → AreDistinctSteps next place (suc n) → after next place k ≡ before
      → requests_in request next_after place n ≡ take (suc k) (requests_in request next place (suc n)) ++ drop (suc (suc k)) (requests_in request next place (suc n))
  unfolding AreDistinctSteps requests_in after
  requests_unlinked request place k zero lt apart is = absurd (omega arith)
  requests_unlinked request place zero (suc m) lt apart is =
      ap (λ p. get_or request place 0 ∷ requests_in request next_after p m) (skips place is)
      ∙ ap (λ l. get_or request place 0 ∷ l) (requests_past request (get_or next (get_or next place 0) 0) m (rest_avoids place m is apart))
  requests_unlinked request place (suc k) (suc m) lt apart is =
      ap (λ p. get_or request place 0 ∷ requests_in request next_after p m) (leads_on place k (suc m) apart is (omega arith))
      ∙ ap (λ l. get_or request place 0 ∷ l) (requests_unlinked request (get_or next place 0) k m (omega arith) apart.1 is)

  avoids_unlinked : (x place k n : ℕ) → k < n → AreDistinctSteps next place (suc n) → after next place k ≡ before → Avoids next x place (suc n) → Avoids next_after x place n
  unfolding AreDistinctSteps Avoids after
  avoids_unlinked x place k zero lt apart is away = absurd (omega arith)
  avoids_unlinked x place zero (suc m) lt apart is away = (
    away.0,
    subst (λ p. Avoids next_after x p m) (sym (skips place is)) (avoids_past x (get_or next (get_or next place 0) 0) m (rest_avoids place m is apart) away.1.1),
  )
  avoids_unlinked x place (suc k) (suc m) lt apart is away = (
    away.0,
    subst (λ p. Avoids next_after x p m) (sym (leads_on place k (suc m) apart is (omega arith)))
        (avoids_unlinked x (get_or next place 0) k m (omega arith) apart.1 is away.1),
  )

  pub apart_unlinked : (place k n : ℕ) → k < n → AreDistinctSteps next place (suc n) → after next place k ≡ before → AreDistinctSteps next_after place n
  unfolding AreDistinctSteps Avoids after
  apart_unlinked place k zero lt apart is = absurd (omega arith)
  apart_unlinked place zero (suc m) lt apart is =
      let rest = get_or next (get_or next place 0) 0 in
      let past = rest_avoids place m is apart in (
        subst (λ p. Avoids next_after place p m) (sym (skips place is)) (avoids_past place rest m past apart.0.1),
        subst (λ p. AreDistinctSteps next_after p m) (sym (skips place is)) (apart_past rest m past apart.1.1),
      )
  apart_unlinked place (suc k) (suc m) lt apart is =
      let to = leads_on place k (suc m) apart is (omega arith) in (
        subst (λ p. Avoids next_after place p m) (sym to) (avoids_unlinked place (get_or next place 0) k m (omega arith) apart.1 is apart.0),
        subst (λ p. AreDistinctSteps next_after p m) (sym to) (apart_unlinked (get_or next place 0) k m (omega arith) apart.1 is),
      )

  -- what lies before the cell that is taken out, and what lies behind it
  pub after_front : (place k n j : ℕ) → k < n → AreDistinctSteps next place (suc n) → after next place k ≡ before → j ≤ k → after next_after place j ≡ after next place j
  unfolding AreDistinctSteps after
  after_front place k n zero lt apart is le = refl
  after_front place zero n (suc j) lt apart is le = absurd (omega arith)
  after_front place (suc k) zero (suc j) lt apart is le = absurd (omega arith)
  after_front place (suc k) (suc m) (suc j) lt apart is le =
      ap (λ p. after next_after p j) (leads_on place k (suc m) apart is (omega arith))
      ∙ after_front (get_or next place 0) k m j (omega arith) apart.1 is (omega arith)

  pub after_back : (place k n j : ℕ) → k < n → AreDistinctSteps next place (suc n) → after next place k ≡ before → k < j → j < n → after next_after place j ≡ after next place (suc j)
  unfolding AreDistinctSteps after
  after_back place k n zero lt apart is over less = absurd (omega arith)
  after_back place k zero (suc j) lt apart is over less = absurd (omega arith)
  after_back place zero (suc m) (suc j) lt apart is over less =
      ap (λ p. after next_after p j) (skips place is)
      ∙ after_past (get_or next (get_or next place 0) 0) m j (rest_avoids place m is apart) (omega arith)
  after_back place (suc k) (suc m) (suc j) lt apart is over less =
      ap (λ p. after next_after p j) (leads_on place k (suc m) apart is (omega arith))
      ∙ after_back (get_or next place 0) k m j (omega arith) apart.1 is (omega arith) (omega arith)

  module _ (owner owner_after : ℕ → Option ℕ) (who : Option ℕ) (gone : ℕ) (is_gone : gone ≡ get_or next before 0)
      (stays : (x : ℕ) → (x ≡ gone → ⊥) → owner x ≡ who → owner_after x ≡ who) where
    owned_past : (place n : ℕ) → Avoids next before place n → Avoids next gone place n → AreOwned owner who next place n → AreOwned owner_after who next_after place n
    unfolding Avoids AreOwned
    owned_past place zero avoids away owned = tt
    owned_past place (suc n) avoids away owned = (
      stays place away.0 owned.0,
      subst (λ p. AreOwned owner_after who next_after p n) (sym (others place avoids.0)) (owned_past (get_or next place 0) n avoids.1 away.1 owned.1),
    )

    pub owned_unlinked : (place k n : ℕ) → k < n → AreDistinctSteps next place (suc n) → after next place k ≡ before → AreOwned owner who next place (suc n)
        → AreOwned owner_after who next_after place n
    unfolding AreDistinctSteps Avoids AreOwned after
    owned_unlinked place k zero lt apart is owned = absurd (omega arith)
    owned_unlinked place zero (suc m) lt apart is owned =
        let to : get_or next place 0 ≡ gone = ap (λ b. get_or next b 0) is ∙ sym is_gone in
        let rest = get_or next (get_or next place 0) 0 in (
          stays place (λ e. apart.0.0 (to ∙ sym e)) owned.0,
          subst (λ p. AreOwned owner_after who next_after p m) (sym (skips place is))
              (owned_past rest m (rest_avoids place m is apart) (subst (λ g. Avoids next g rest m) to apart.1.0) owned.1.1),
        )
    owned_unlinked place (suc k) (suc m) lt apart is owned =
        let there : after next (get_or next place 0) (suc k) ≡ gone = sym (after_more next (get_or next place 0) k) ∙ ap (λ b. get_or next b 0) is ∙ sym is_gone in (
          stays place (λ e. avoided next place (get_or next place 0) (suc m) (suc k) apart.0 (omega arith) (there ∙ sym e)) owned.0,
          subst (λ p. AreOwned owner_after who next_after p m) (sym (leads_on place k (suc m) apart is (omega arith)))
              (owned_unlinked (get_or next place 0) k m (omega arith) apart.1 is owned.1),
        )
