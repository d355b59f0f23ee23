-- How great the load of a second may be, and its value.
use Rattle.std.proofs.Common.{◌≡◌, ℕ, ◌+◌, ◌-◌, ◌*◌, ◌≤◌, Bool, true, false, ◌||◌, inl, inr, [], ◌∷◌, ◌++◌, length, sym, ap, ◌∙◌, arith}
use Rattle.std.specs.Prelude.{Some, nat_lt}
use Rattle.std.specs.Bool.{then_some}
use Rattle.kn_event.specs.declared.entry.Entry.{Entry}
use Rattle.kn_event.specs.declared.revision.Metric.{Metric}
use Rattle.kn_event.specs.declared.revision.Metric.TheVariants as metric
use Rattle.kn_event.specs.declared.revision.Spec.{Spec}
use Rattle.std.specs.Option.{IfSome}
use Rattle.kn_scaling.specs.Average.{IsAverage, value_of, window_average}
use Rattle.kn_trace.specs.Trace.{Trace, live}
use Rattle.kn_trace.specs.Load.{count_in, entries_before, has_ready_pod, load_in, samples, spans}
use Rattle.kn_record.specs.Made.{IsMade, IsProper}
use Rattle.kn_record.specs.Facts.{Facts}
use Rattle.kn_record.specs.Order.{AreTimesInOrder}
use Rattle.kn_past.specs.Loads.{after_in}
use Rattle.kn_past.proofs.Averages.{average_small}
use Rattle.kn_past.proofs.Balance.{live-more, live-same}
use Rattle.kn_past.proofs.Later.{sample_is}
use Rattle.kn_past.proofs.LoadSteps.{load-end, load-quiet, load-start}
use Rattle.kn_past.proofs.Made.{AreUpTo, made_push, ordered_keeps, up_to_last}
use Rattle.kn_past.proofs.Turns.{Turn, turn}

-- what a second comes to at most, where so many are live with so much of it left
abbrev most : ℕ → ℕ → ℕ
most left count = 20000 * (1000 - left) + count * left

distribute : (a b k : ℕ) → k * (a + b) ≡ k * a + k * b
distribute a b k = grind arith

times-most : (a b k : ℕ) → a ≤ b → a * k ≤ b * k
times-most a b k h = grind (arith, h)

-- as time goes on, the live ones being 20,000 at most
later_most : (left less count : ℕ) → less ≤ left → left ≤ 1000 → count ≤ 20000 → most left count ≤ most less count
later_most left less count le whole few =
    let gap = left - less in
    let sum : left ≡ less + gap = omega arith in
    let parts : count * left ≡ count * less + count * gap = ap (λ n. count * n) sum ∙ distribute less gap count in
    let small = times-most count 20000 gap few in
    omega (arith, parts, small)

left_falls : (n t u : ℕ) → t ≤ u → after_in n u ≤ after_in n t
left_falls n t u le = omega arith

left_whole : (n t : ℕ) → after_in n t ≤ 1000
left_whole n t = omega arith

one_more : (left count : ℕ) → (count + 1) * left ≡ count * left + left
one_more left count = grind arith

-- the load never passes what it may come to, and so never 20,000 seconds
record IsBounded (n : ℕ) (c : Trace) : Type 0 where
  on : (t : ℕ) → AreUpTo t c → load_in c n ≤ most (after_in n t) (length (live c))
  whole : load_in c n ≤ 20000000

bounded-nil : (n : ℕ) → IsBounded n []
unfolding load_in spans
bounded-nil n = record { on = λ t up. omega arith; whole = omega arith }

count_few : (c : Trace) (n : ℕ) → count_in c n ≤ 1000000
unfolding count_in
count_few c n = omega arith

value_few : (m : Metric) (load count : ℕ) → load ≤ 20000000 → count ≤ 1000000 → value_of m load count ≤ 1000000000
value_few metric.Concurrency load count a b = omega arith
value_few metric.Rps load count a b = omega arith

of_some : (b : Bool) (x v : ℕ) → then_some b x ≡ Some v → x ≡ v
of_some true x v h = cc
of_some false x v h = absurd (cc)

module _ (facts : Facts) (few_live : (s : Spec) (c : Trace) → IsMade s c → length (live c) ≤ 20000) where
  open facts use {lists.{others-length}, views.{live-end}, members.{is_live, live_distinct}, proper.{made_kept}}

  -- ---- the load

  bounded-at : (s : Spec) (n : ℕ) (c : Trace) (e : Entry) → IsMade s c → IsProper s c e.row → load_in (c ++ e ∷ []) n ≤ most (after_in n e.time) (length (live (c ++ e ∷ []))) → IsBounded n (c ++ e ∷ [])
  bounded-at s n c e made proper now =
      let few = few_live s (c ++ e ∷ []) (made_push facts s c e made proper) in
      let left = left_whole n e.time in
      record {
        on = λ t up.
            let later = later_most (after_in n e.time) (after_in n t) (length (live (c ++ e ∷ []))) (left_falls n e.time t (up_to_last c e t up)) left few in
            omega (arith, now, later);
        whole = let all = later_most (after_in n e.time) 0 (length (live (c ++ e ∷ []))) (omega arith) left few in omega (arith, now, all);
      }

  bounded-push : (s : Spec) (n : ℕ) (c : Trace) (e : Entry) → IsMade s c → IsProper s c e.row → AreUpTo e.time c → IsBounded n c → IsBounded n (c ++ e ∷ [])
  bounded-push s n c e made proper up old = let num = (made_kept s c made).requests in bounded-at s n c e made proper (by (turn facts s c e.row num proper))
    where
      was : load_in c n ≤ most (after_in n e.time) (length (live c))
      was = old.on e.time up

      by : Turn c e.row → load_in (c ++ e ∷ []) n ≤ most (after_in n e.time) (length (live (c ++ e ∷ [])))
      by (inl is) = let load = load-quiet n c e is in let l = live-same facts c e is.takes is.ends in rw (load, l) was
      by (inr (inl (r, is))) =
          let load = load-start n c e r is in
          let l = live-more facts c e r is.takes is.ends is.on in
          let more = one_more (after_in n e.time) (length (live c)) in
          rw l (omega (arith, was, load, more))
      by (inr (inr (r, is))) =
          let num = (made_kept s c made).requests in
          let load = load-end n c e r num up is in
          let less = others-length r (live c) (live_distinct c num) (is_live c r is.member is.on) in
          let l = ap length (live-end c e r is.takes is.ends) in
          let count : length (live c) ≡ length (live (c ++ e ∷ [])) + 1 = omega (arith, l, less) in
          let more = one_more (after_in n e.time) (length (live (c ++ e ∷ []))) in
          let then : load_in c n ≤ most (after_in n e.time) (length (live (c ++ e ∷ [])) + 1) = rw (← count) was in
          omega (arith, then, load, more)

  pub load_most : (s : Spec) (c : Trace) (start clock n : ℕ) → IsMade s c → AreTimesInOrder start c clock → load_in c n ≤ 20000000
  load_most s c start clock n made times = (ordered_keeps facts s (IsBounded n) (bounded-push s n) (bounded-nil n) start clock c made times).whole

  -- ---- the value

  pub value_most : (s : Spec) (m : Metric) (c : Trace) (start clock n value : ℕ) → IsMade s c → AreTimesInOrder start c clock → samples m c n ≡ Some value → value ≤ 1000000000
  value_most s m c start clock n value made times h =
      let load = load_most s c start clock n made times in
      let few = value_few m (load_in c n) (count_in c n) load (count_few c n) in
      let tests = nat_lt 0 (value_of m (load_in c n) (count_in c n)) || nat_lt 0 (load_in c n) || has_ready_pod (entries_before (1000 * (n + 1)) c) in
      let is = of_some tests (value_of m (load_in c n) (count_in c n)) value (sym (sample_is m c n) ∙ h) in
      rw (← is) few

  pub average_most : (s : Spec) (m : Metric) (c : Trace) (start clock n end : ℕ) → IsMade s c → AreTimesInOrder start c clock → n ≤ 3600 → IfSome (window_average (samples m c) n end) IsAverage
  average_most s m c start clock n end made times hour = average_small (samples m c) n end (λ second value h. value_most s m c start clock second value made times h) hour
