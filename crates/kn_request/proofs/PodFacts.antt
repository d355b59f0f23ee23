-- The laws of pods, as the ticker cites them.
use Rattle.std.proofs.Common.{◌≡◌, ◌≤◌, ◌<◌, inl, inr, ℕ, true, false, ◌++◌, refl, sym, ap, ◌∙◌, arith}
use Rattle.std.specs.Option.{option_and_then}
use Rattle.std.specs.Prelude.{Option, None, Some, option_map, unwrap_or}
use Rattle.std.proofs.lemmas.Bool.{cases_eq, false_from_ne_true}
use Rattle.std.proofs.Math.Logic.{∥∥₁_elim}
use mathlib.Core.Bool.{Bool-set}
use native.Mathlib.Bridge.{le_prop}
use native.Mathlib.Nat.{ℕ_set}
use Rattle.kn_event.specs.declared.event.Event.{Event}
use Rattle.kn_event.specs.declared.revision.Spec.{Spec}
use Rattle.kn_event.specs.Lists.{contains}
use Rattle.kn_trace.specs.Events.{react}
use Rattle.kn_trace.specs.Trace.{Trace, created, next_starting, starting_pods}
use Rattle.kn_record.specs.Made.{IsMade}
use Rattle.kn_sizes.specs.Starting.{IsLeastFrom}
use Rattle.kn_sizes.specs.Stays.{HoldsOnwards}
use Rattle.kn_book.specs.Book.{address_of, addressed, next_to_probe}
use Rattle.kn_book.specs.Laws.{IsLive, ProbesTheNext, Stay, WaitInTurn}
use Rattle.kn_request.specs.Laws.{Made}
use Rattle.kn_request.specs.Pods.{IsStarting, IsStartingAt}

-- ---- options of pods

-- some number is there, whichever events made the trace
some_by : {M : Type 0} (o : Option ℕ) (a : ℕ) → ∥ M ∥₁ → (M → o ≡ Some a) → o ≡ Some a
some_by None a made is = absurd (∥∥₁_elim made (λ u v. absurd u) (λ m. let e = is m in absurd (cc)))
some_by (Some b) a made is = ap (λ n. Some n) (∥∥₁_elim made (ℕ_set b a) (λ m. let e = is m in (cc)))

-- who is found with an address is that pod, and the address is its own
found_pod : (n : ℕ) (c : Trace) (o : Option ℕ) (p a : ℕ) → option_and_then (addressed n c) o ≡ Some (p, a) → (o ≡ Some p) × (address_of n c p ≡ Some a)
found_pod n c None p a e = absurd (cc)
found_pod n c (Some q) p a e = by (address_of n c q) refl e
  where
    by : (x : Option ℕ) → address_of n c q ≡ x → option_map {U = ℕ × ℕ} (λ b. (q, b)) x ≡ Some (p, a) → (Some q ≡ Some p) × (address_of n c p ≡ Some a)
    by None is e = absurd (cc)
    by (Some b) is e =
        let pair : (q, b) ≡ (p, a) = ap (λ (o : Option (ℕ × ℕ)). unwrap_or o (q, b)) e in
        let same : q ≡ p = ap (λ (x : ℕ × ℕ). x.0) pair in
        (ap (λ k. Some k) same, ap (address_of n c) (sym same) ∙ (is ∙ ap (λ (x : ℕ × ℕ). Some x.1) pair))

-- where none is found with an address, who comes first has none
found_none : (n : ℕ) (c : Trace) (q : ℕ) → option_and_then (addressed n c) (Some q) ≡ None → address_of n c q ≡ None
found_none n c q e = by (address_of n c q) e
  where
    by : (x : Option ℕ) → option_map {U = ℕ × ℕ} (λ b. (q, b)) x ≡ None → x ≡ None
    by None e = refl
    by (Some b) e = absurd (cc)

-- ---- the next pod to probe

module _ (next : (s : Spec) (c : Trace) (from : ℕ) → IsMade s c → IsLeastFrom from (starting_pods c) (next_starting c from)) (probe : (s : Spec) (n : ℕ) (c : Trace) → IsMade s c → ProbesTheNext n c) where
  found_as : (s : Spec) (n : ℕ) (c : Trace) (k p a : ℕ) → IsMade s c → next_to_probe n c k ≡ Some (p, a) → (next_starting c k ≡ Some p) × (address_of n c p ≡ Some a)
  found_as s n c k p a m is = found_pod n c (next_starting c k) p a (sym (probe s n c m k) ∙ is)

  pub next_of : (s : Spec) (n : ℕ) (c : Trace) (k p a : ℕ) → Made s c → next_to_probe n c k ≡ Some (p, a) → IsStartingAt n c p a
  next_of s n c k p a made is = (
    ∥∥₁_elim made (Bool-set (contains p (starting_pods c)) true) (λ (m : IsMade s c). ((next s c k m).found p (found_as s n c k p a m is).0).0),
    some_by (address_of n c p) a made (λ (m : IsMade s c). (found_as s n c k p a m is).1),
  )

  pub least_of : (s : Spec) (n : ℕ) (c : Trace) (k p a j : ℕ) → Made s c → next_to_probe n c k ≡ Some (p, a) → k ≤ j → j < p → IsStarting c j → ⊥
  least_of s n c k p a j made is low below starts = ∥∥₁_elim made (λ u v. absurd u) (λ (m : IsMade s c).
      let least = (next s c k m).least p (found_as s n c k p a m is).0 j starts low in omega (arith, least, below))

  pub none_of : ((c : Trace) (p : ℕ) → IsStarting c p → IsLive c p) → ((s : Spec) (n : ℕ) (c : Trace) → IsMade s c → WaitInTurn n c)
      → (s : Spec) (n : ℕ) (c : Trace) (k j a : ℕ) → Made s c → next_to_probe n c k ≡ None → k ≤ j → IsStartingAt n c j a → ⊥
  none_of live turns s n c k j a made is low starts = ∥∥₁_elim made (λ u v. absurd u) (λ (m : IsMade s c).
      by m (next_starting c k) refl (sym (probe s n c m k) ∙ is))
    where
      waits : IsMade s c → (q : ℕ) → next_starting c k ≡ Some q → address_of n c q ≡ None → address_of n c j ≡ None
      waits m q found none = elim (cases_eq q j) [
        | inl same ↦ ap (address_of n c) (sym same) ∙ none
        | inr other ↦
            let first = next s c k m in
            let below : q < j = let least = first.least q found j starts.0 low in omega (arith, least, other) in
            turns s n c m q j below (live c q (first.found q found).0) (live c j starts.0) none
      ]

      by : IsMade s c → (o : Option ℕ) → next_starting c k ≡ o → option_and_then (addressed n c) o ≡ None → ⊥
      by m None found none = let below = (next s c k m).none.0 found j starts.0 in omega (arith, below, low)
      by m (Some q) found none = let waits' = waits m q found (found_none n c q none) in let has = starts.1 in absurd (cc)

-- ---- what stays so

pub created_of : ((s : Spec) (c : Trace) (p : ℕ) → IsMade s c → contains p (starting_pods c) ≡ true → p < created c)
    → (s : Spec) (c : Trace) (j : ℕ) → Made s c → IsStarting c j → j < created c
created_of law s c j made starts = ∥∥₁_elim made le_prop (λ (m : IsMade s c). law s c j m starts)

pub stay_of : ((s : Spec) (c : Trace) → IsMade s c → HoldsOnwards s c (λ d. created c ≤ created d))
    → (s : Spec) (c : Trace) (e : Event) (j : ℕ) → Made s c → j < created c → j < created (c ++ react s c e)
stay_of law s c e j made low = ∥∥₁_elim made le_prop (λ (m : IsMade s c). let grow = (law s c m).once e in omega (arith, grow, low))

pub gone_of : ((s : Spec) (c : Trace) (p : ℕ) → IsMade s c → p < created c → contains p (starting_pods c) ≡ false → HoldsOnwards s c (λ d. contains p (starting_pods d) ≡ false))
    → (s : Spec) (c : Trace) (e : Event) (j : ℕ) → Made s c → j < created c → (IsStarting c j → ⊥) → IsStarting (c ++ react s c e) j → ⊥
gone_of law s c e j made low not starts = ∥∥₁_elim made (λ u v. absurd u) (λ (m : IsMade s c).
    let out = (law s c j m low (false_from_ne_true (contains j (starting_pods c)) not)).once e in absurd (cc))

pub kept_of : ((s : Spec) (c : Trace) (e : Event) → IsMade s c → IsMade s (c ++ react s c e)) → ((c : Trace) (p : ℕ) → IsStarting c p → IsLive c p)
    → ((s : Spec) (n : ℕ) (c more : Trace) → IsMade s (c ++ more) → Stay n c more)
    → (s : Spec) (n : ℕ) (c : Trace) (e : Event) (j a : ℕ) → Made s c → IsStartingAt n c j a → IsStarting (c ++ react s c e) j → IsStartingAt n (c ++ react s c e) j a
kept_of step live kept s n c e j a made starts after = (
  after,
  some_by (address_of n (c ++ react s c e) j) a made (λ (m : IsMade s c).
      kept s n c (react s c e) (step s c e m) j a (live c j starts.0) (live (c ++ react s c e) j after) starts.1),
)
