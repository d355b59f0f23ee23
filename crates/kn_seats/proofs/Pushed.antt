-- A queue with one request more, and one with the first request less.
use Rattle.std.proofs.Common.{◌≡◌, ℕ, zero, suc, ◌<◌, List, [], ◌∷◌, ◌++◌, get_or, drop, refl, sym, ap, subst, ◌∙◌, arith, Option}
use Rattle.kn_seats.specs.Cells.{IsPut}
use Rattle.kn_seats.specs.Chains.{after, requests_in, Avoids, AreDistinctSteps, AreOwned}
use Rattle.kn_seats.specs.Kept.{IsLine, IsStep}
use Rattle.kn_seats.proofs.Chains.{after-before_push, owned-push, apart-push, after-push, requests-push, owned-without}

-- the last of a line of so many
line-last : (owner : ℕ → Option ℕ) (who : Option ℕ) (next : List ℕ) (first last n : ℕ) → AreDistinctSteps next first (suc n) → AreOwned owner who next first (suc n)
    → after next first n ≡ last → IsLine owner who next first last (suc n)
line-last owner who next first last n apart owned is = record {
  apart = apart;
  owned = owned;
  ends = λ m e. let same : m ≡ n = omega arith in ap (λ k. after next first k) same ∙ is;
}

module _ (owner owner_after : ℕ → Option ℕ) (who : Option ℕ) (request request_after next next_after : List ℕ) (last new r : ℕ)
    (stays : (x : ℕ) → owner x ≡ who → owner_after x ≡ who) (fresh : owner new ≡ who → ⊥) (given : owner_after new ≡ who)
    (same : (x : ℕ) → owner x ≡ who → get_or request_after x 0 ≡ get_or request x 0) (has : get_or request_after new 0 ≡ r) where
  -- what a push leaves
  unfoldable pub Pushed : ℕ → ℕ → ℕ → Type 0
  Pushed first first_after count =
      IsLine owner_after who next_after first_after new (suc count) × (requests_in request_after next_after first_after (suc count) ≡ requests_in request next first count ++ r ∷ [])

  pushed-alone : (first_after : ℕ) → first_after ≡ new → (first : ℕ) → Pushed first first_after 0
  unfolding Pushed AreDistinctSteps Avoids AreOwned after requests_in
  pushed-alone first_after is first = (
    line-last owner_after who next_after first_after new 0 (tt, tt) (ap owner_after is ∙ given, tt) is,
    ap (λ q. q ∷ []) (ap (λ p. get_or request_after p 0) is ∙ has),
  )

  pushed-behind : (first n : ℕ) → IsPut 0 last new next next_after → IsLine owner who next first last (suc n) → Pushed first first (suc n)
  unfolding Pushed
  pushed-behind first n put line =
      let others = put.others in
      let behind = put.here in
      let ends : after next first n ≡ last = line.ends n (omega arith) in (
        line-last owner_after who next_after first new (suc n)
            (apart-push owner owner_after who next next_after last new stays others behind fresh given first n line.apart ends line.owned)
            (owned-push owner owner_after who next next_after last new stays others behind fresh given first n line.apart ends line.owned)
            (after-push owner owner_after who next next_after last new stays others behind fresh given first n line.apart ends),
        requests-push owner owner_after who next next_after last new stays others behind fresh given request request_after r same has first n line.apart ends line.owned,
      )

  pub pushed : (first first_after count : ℕ) → (count ≡ 0 → first_after ≡ new) → (0 < count → (first_after ≡ first) × IsPut 0 last new next next_after)
      → IsLine owner who next first last count → Pushed first first_after count
  pushed first first_after zero alone behind line = pushed-alone first_after (alone refl) first
  pushed first first_after (suc n) alone behind line =
      let some : 0 < suc n = omega arith in
      subst (λ f. Pushed first f (suc n)) (sym (behind some).0) (pushed-behind first n (behind some).1 line)

-- a cell of a queue that gets one more
pub step-pushed : (next next_after : List ℕ) (last new : ℕ) (owner : ℕ → Option ℕ) (who : Option ℕ) (first first_after count x : ℕ)
    → (0 < count → (first_after ≡ first) × IsPut 0 last new next next_after) → IsLine owner who next first last count → IsStep next first count x
    → IsStep next_after first_after (suc count) x
step-pushed next next_after last new owner who first first_after zero x behind line step = absurd (let e = step.within in omega arith)
step-pushed next next_after last new owner who first first_after (suc n) x behind line step =
    let some : 0 < suc n = omega arith in
    let others = (behind some).1.others in
    let e = step.within in record {
      steps = step.steps;
      within = omega arith;
      reached = ap (λ f. after next_after f step.steps) (behind some).0
          ∙ after-before_push next next_after last others first n step.steps line.apart (line.ends n (omega arith)) (omega arith) ∙ step.reached;
    }

-- a cell of a queue that loses its first one
pub step-popped : (next : List ℕ) (first count x : ℕ) → (x ≡ first → ⊥) → (k : ℕ) → k < suc count → after next first k ≡ x → IsStep next (get_or next first 0) count x
unfolding after
step-popped next first count x other zero lt reached = absurd (other (sym reached))
step-popped next first count x other (suc k) lt reached = record { steps = k; within = omega arith; reached = reached }

-- a line without its first cell
pub line-popped : (owner owner_after : ℕ → Option ℕ) (who : Option ℕ) (next : List ℕ) (first last count : ℕ) → ((x : ℕ) → (x ≡ first → ⊥) → owner x ≡ who → owner_after x ≡ who)
    → IsLine owner who next first last (suc count) → IsLine owner_after who next (get_or next first 0) last count
unfolding AreDistinctSteps AreOwned after
line-popped owner owner_after who next first last count stays line = record {
  apart = line.apart.1;
  owned = owned-without owner owner_after who next first stays (get_or next first 0) count line.apart.0 line.owned.1;
  ends = λ n e. line.ends (suc n) (omega arith);
}

pub requests-popped : (request next : List ℕ) (first count : ℕ) → requests_in request next (get_or next first 0) count ≡ drop 1 (requests_in request next first (suc count))
unfolding requests_in
requests-popped request next first count = refl
