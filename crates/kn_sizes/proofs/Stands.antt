-- What the stand of a request says of it.
use Rattle.std.proofs.Common.{◌≡◌, ℕ, ◌≤◌, ◌<◌, Bool, true, false, not, ◌&&◌, refl, ◌∙◌, arith, nat_lt}
use Rattle.std.specs.Prelude.{Option, None, Some}
use Rattle.std.proofs.lemmas.Bool.Decides.{nat_tests}
use Rattle.std.proofs.lemmas.Bool.{false_from_ne_true}
use Rattle.kn_event.specs.declared.revision.Spec.{Spec}
use Rattle.kn_event.specs.Lists.{contains}
use Rattle.kn_trace.specs.Rows.{taken_by}
use Rattle.kn_trace.specs.Trace.{Trace, arrivals, each_row, has_begun, has_not_begun, is_running, live, pod_of, stand_of, stand_of_arrived, stand_where, waiting}
use Rattle.kn_record.specs.Made.{IsMade, IsNumbered}
use Rattle.kn_record.specs.Facts.{Facts}
use Rattle.kn_laws.specs.Facts.{PartFacts}
use Rattle.kn_sizes.specs.Course.{IsToldByStand}
use Rattle.kn_sizes.proofs.Ends.{running_live, waiting_live}
use Rattle.kn_sizes.proofs.Lasts.{running_pod}

module _ (facts : Facts) (parts : PartFacts) where
  open facts use {lists.{contains-filter}, members.{live_member, waiting_member, running_parts, begun_taken, taken_comes}, proper.{made_kept}}

  -- a live request waits until it has begun
  live_waits : (c : Trace) (r : ℕ) → contains r (live c) ≡ true → contains r (waiting c) ≡ not (has_begun c r)
  unfolding waiting has_not_begun
  live_waits c r h = let both = live_member c r h in contains-filter (has_not_begun c) r (each_row taken_by c) ∙ rw (both.0, both.1) (and-true (not (has_begun c r)))
    where
      and-true : (b : Bool) → (b && true) ≡ b
      and-true true = refl
      and-true false = refl

  -- and then runs
  live_runs : (c : Trace) (r : ℕ) → contains r (live c) ≡ true → is_running c r ≡ has_begun c r
  unfolding is_running
  live_runs c r h = let both = live_member c r h in rw (both.1) (and-true (has_begun c r))
    where
      and-true : (b : Bool) → (b && true) ≡ b
      and-true true = refl
      and-true false = refl

  by_stand : (c : Trace) (r : ℕ) → IsNumbered c → (known alive begun : Bool) (pod : Option ℕ) → nat_lt r (arrivals c) ≡ known → contains r (live c) ≡ alive → has_begun c r ≡ begun → pod_of c r ≡ pod
      → stand_of c r ≡ stand_where known (stand_of_arrived alive begun pod) → IsToldByStand c r
  by_stand c r num false alive begun pod k l b o is =
      let still : arrivals c ≤ r = grind (arith, nat_tests) in
      record {
        unknown = (λ e. still, λ less. is);
        waits = rw is (false_from_ne_true (contains r (waiting c)) (λ h. let come = taken_comes c r num (waiting_member c r h).0 in absurd (omega arith)));
        runs = rw is (false_from_ne_true (is_running c r) (λ h. let come = taken_comes c r num (begun_taken c r num (running_parts c r h).0) in absurd (omega arith)));
        pod = λ p e. absurd (let none = rw is at e in cc);
      }
  by_stand c r num true false begun pod k l b o is =
      let come : r < arrivals c = grind (arith, nat_tests) in
      record {
        unknown = (λ e. absurd (let other = rw is at e in cc), λ less. absurd (omega arith));
        waits = rw is (false_from_ne_true (contains r (waiting c)) (λ h. let on = waiting_live facts c r h in absurd (cc)));
        runs = rw is (false_from_ne_true (is_running c r) (λ h. let on = running_live facts c r num h in absurd (cc)));
        pod = λ p e. absurd (let none = rw is at e in cc);
      }
  by_stand c r num true true true None k l b o is = absurd (let there = running_pod facts parts c r num (live_runs c r l ∙ b) in let some = there.1 in cc)
  by_stand c r num true true true (Some p) k l b o is =
      let come : r < arrivals c = grind (arith, nat_tests) in
      record {
        unknown = (λ e. absurd (let other = rw is at e in cc), λ less. absurd (omega arith));
        waits = rw is (live_waits c r l ∙ rw b refl);
        runs = rw is (live_runs c r l ∙ b);
        pod = λ q e. o ∙ (rw is at e);
      }
  by_stand c r num true true false None k l b o is =
      let come : r < arrivals c = grind (arith, nat_tests) in
      record {
        unknown = (λ e. absurd (let other = rw is at e in cc), λ less. absurd (omega arith));
        waits = rw is (live_waits c r l ∙ rw b refl);
        runs = rw is (live_runs c r l ∙ b);
        pod = λ q e. absurd (let none = rw is at e in cc);
      }
  by_stand c r num true true false (Some p) k l b o is =
      let come : r < arrivals c = grind (arith, nat_tests) in
      record {
        unknown = (λ e. absurd (let other = rw is at e in cc), λ less. absurd (omega arith));
        waits = rw is (live_waits c r l ∙ rw b refl);
        runs = rw is (live_runs c r l ∙ b);
        pod = λ q e. o ∙ (rw is at e);
      }

  pub told_by_stand : (s : Spec) (c : Trace) (r : ℕ) → IsMade s c → IsToldByStand c r
  unfolding stand_of
  told_by_stand s c r made = by_stand c r (made_kept s c made).requests (nat_lt r (arrivals c)) (contains r (live c)) (has_begun c r) (pod_of c r) refl refl refl refl refl
