-- Each draining pod of a settled trace runs a request of its own.
use Rattle.std.proofs.Common.{◌≡◌, ℕ, ◌≤◌, Bool, true, false, not, List, [], ◌∷◌, length, refl, ◌∙◌, arith}
use Rattle.std.specs.Prelude.{Some, ◌==◌}
use Rattle.std.specs.List.{filter}
use Rattle.std.proofs.lemmas.Bool.{eqb-true, eq-eqb, or_right}
use Rattle.kn_event.specs.declared.revision.Spec.{Spec}
use Rattle.kn_event.specs.Lists.{contains}
use Rattle.kn_trace.specs.Rows.{brought_to, created_by, taken_by}
use Rattle.kn_trace.specs.Trace.{Trace, draining, each_row, is_draining, is_running, pod_of, running_at}
use Rattle.kn_trace.specs.Laws.{IsSettled}
use Rattle.kn_record.specs.Rows.{moved_by}
use Rattle.kn_record.specs.Made.{AreDistinct, IsMade}
use Rattle.kn_record.specs.Views.{others}
use Rattle.kn_record.specs.Kept.{Kept}
use Rattle.kn_record.specs.Facts.{Facts}
use Rattle.kn_laws.specs.Facts.{PartFacts}

module _ (facts : Facts) (parts : PartFacts) where
  open facts use {lists.{contains-filter, filter_member, in_filter, distinct-filter, others-length}, kinds.{brought_moved, within-from}, members.{moved_taken, pod_is}, proper.{made_kept}}
  open parts use {rows.{draining_runs}}

  -- pods of which each has a request of its own in this list are no more than those
  pods-within : (c : Trace) (ps xs : List ℕ) → AreDistinct ps → AreDistinct xs → ((p : ℕ) → contains p ps ≡ true → (r : ℕ) × (contains r xs ≡ true) × (pod_of c r ≡ Some p)) → length ps ≤ length xs
  pods-within c [] xs d e own = omega arith
  pods-within c (p ∷ ps) xs d e own =
      let mine = own p (rw (eq-eqb p p refl) refl) in
      let r = mine.0 in
      let less = others-length r xs e mine.1 in
      let rest = pods-within c ps (others r xs) d.1 (distinct-filter (λ q. not (r == q)) xs e)
      (λ q h. let theirs = own q (or_right (p == q) (contains q ps) h) in (theirs.0, contains-filter (λ u. not (r == u)) theirs.0 xs ∙ rw (theirs.1) (apart r q theirs.0 h mine.2 theirs.2 (r == theirs.0) refl), theirs.2)) in
      omega arith
    where
      apart : (r q u : ℕ) → contains q ps ≡ true → pod_of c r ≡ Some p → pod_of c u ≡ Some q → (b : Bool) → (r == u) ≡ b → not b ≡ true
      apart r q u h m k true e = absurd (let same : r ≡ u = eqb-true r u e in let pods : pod_of c r ≡ Some q = rw same k in let one : p ≡ q = cc in let absent : contains q ps ≡ false = rw (← one) d.0 in cc)
      apart r q u h m k false e = refl

  -- where all is settled, no more pods drain than requests run
  pub draining-within : (s : Spec) (c : Trace) → IsMade s c → IsSettled s c → length (draining c) ≤ length (filter (is_running c) (each_row taken_by c))
  unfolding draining running_at
  draining-within s c made settled =
      let kept = made_kept s c made in
      pods-within c (draining c) (filter (is_running c) (each_row taken_by c)) (distinct-filter (is_draining c) (each_row created_by c) kept.pods.once) (distinct-filter (is_running c) (each_row taken_by c) kept.requests.once) (λ p h. one kept p h (running_at c p) refl)
    where
      one : Kept s c → (p : ℕ) → contains p (draining c) ≡ true → (l : List ℕ) → running_at c p ≡ l → (r : ℕ) × (contains r (filter (is_running c) (each_row taken_by c)) ≡ true) × (pod_of c r ≡ Some p)
      one kept p h [] e = absurd (draining_runs s c p settled h e)
      one kept p h (r ∷ l) e =
          let there : contains r (running_at c p) ≡ true = rw (e, eq-eqb r r refl) refl in
          let both = filter_member (is_running c) r (each_row (brought_to p) c) there in
          (r, in_filter (is_running c) r (each_row taken_by c) (moved_taken c r kept.requests (within-from (brought_to p) moved_by (brought_moved p) r c both.0)) both.1, pod_is c p r kept.requests both.0)
