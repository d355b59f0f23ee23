-- How many there are of each is how many have begun and not ended.
use Rattle.std.proofs.Common.{◌≡◌, ℕ, Bool, true, false, not, cond, ◌&&◌, ◌||◌, List, [], ◌∷◌, map, length, refl, sym, ap, ◌∙◌, subst, arith}
use Rattle.std.specs.Prelude.{Option, ◌==◌}
use Rattle.std.specs.List.{All, filter, sum_by}
use Rattle.std.proofs.lemmas.Bool.Decides.{nat_tests}
use Rattle.std.proofs.lemmas.List.Elements.{All-head, All-tail}
use Rattle.std.proofs.lemmas.List.Sums.{sum_by-cons}
use Rattle.kn_event.specs.declared.entry.Row.{Row}
use Rattle.kn_event.specs.declared.revision.Spec.{Spec}
use Rattle.kn_event.specs.Lists.{contains}
use Rattle.kn_throttle.specs.Gauges.{count_running}
use Rattle.kn_trace.specs.Rows.{begun_by, created_by, drained_by, ended_by, gone_by, readied_by}
use Rattle.kn_trace.specs.Scale.{count_ready}
use Rattle.kn_trace.specs.Trace.{Trace, each_row, ended, has_begun, is_live_pod, is_ready, is_running, live_pods, ready_pods, running_at}
use Rattle.kn_record.specs.Admission.{Admission, placed_in, runs_at, runs_somewhere}
use Rattle.kn_record.specs.Facts.{Facts}
use Rattle.kn_record.specs.Made.{AreDistinct, IsMade}
use Rattle.kn_record.specs.Order.{IsAmong, IsInOrder}
use Rattle.kn_record.specs.Views.{AreViews, numbers_in, pod_numbers}
use Rattle.kn_record.specs.declared.admission.Place.{Place}
use Rattle.kn_record.specs.declared.admission.Place.TheVariants as place
use Rattle.kn_record.specs.declared.admission.Request.{Request}
use Rattle.kn_costs.specs.Gauges.{count_pods}
use Rattle.kn_costs.specs.Sums.{unready_by}
use Rattle.kn_costs.proofs.Once.{distinct_made, fresh_begun, fresh_readied, has_begun_by, is_unready, readied_created, same_length}
use Rattle.kn_costs.proofs.Running.{absent, bit, length-placed, sum_none, sum_placed, sum_same, turned}
use Rattle.kn_costs.proofs.Spans.{is_open}

abbrev pub count_open : (Row → Option ℕ) → (Row → Option ℕ) → Trace → ℕ
count_open begins ends c = length (filter (is_open begins ends c) (each_row begins c))

pub pods_open : (c : Trace) → count_pods c ≡ count_open created_by gone_by c
unfolding live_pods is_live_pod
pods_open c = refl

-- ---- a request that runs does so at one of the pods

one_there : (q : ℕ) (ps : List ℕ) → AreDistinct ps → contains q ps ≡ true → sum_by (λ p. bit (q == p)) ps ≡ 1
one_there q [] d h = absurd (cc)
one_there q (p ∷ ps) d h = by (p == q) refl h (λ there. one_there q ps d.1 there)
  where
    by : (b : Bool) → (p == q) ≡ b → (b || contains q ps) ≡ true → (contains q ps ≡ true → sum_by (λ p. bit (q == p)) ps ≡ 1) → sum_by (λ p. bit (q == p)) (p ∷ ps) ≡ 1
    by true e h later =
        let same : p ≡ q = grind (arith, nat_tests) in
        let one : bit (q == p) ≡ 1 = rw (turned p q, e) refl in
        omega (arith, sum_by-cons (λ (p : ℕ). bit (q == p)) p ps, one, absent q ps (subst (λ (n : ℕ). contains n ps ≡ false) same d.0))
    by false e h later =
        let none : bit (q == p) ≡ 0 = rw (turned p q, e) refl in
        omega (arith, sum_by-cons (λ (p : ℕ). bit (q == p)) p ps, none, later h)

at_one : (ps : List ℕ) → AreDistinct ps → (x : Place) → IsAmong ps x → sum_by (λ p. bit (runs_at p x)) ps ≡ bit (runs_somewhere x)
at_one ps d place.Held h = sum_none (λ (p : ℕ). bit (runs_at p place.Held)) (λ p. refl) ps
at_one ps d (place.Queued q) h = sum_none (λ (p : ℕ). bit (runs_at p (place.Queued q))) (λ p. refl) ps
at_one ps d (place.Running q x) h = one_there q ps d h

at_pods : (ps : List ℕ) → AreDistinct ps → (all : List Request) → All (λ (x : Request). IsAmong ps x.place) all → sum_by (λ p. length (placed_in (runs_at p) all)) ps ≡ length (placed_in runs_somewhere all)
at_pods ps d [] h = sum_none (λ (p : ℕ). length (placed_in (runs_at p) [])) (λ p. refl) ps
at_pods ps d (q ∷ qs) h =
    omega (
      arith,
      sum_placed ps q qs,
      at_one ps d q.place (All-head (λ (x : Request). IsAmong ps x.place) q qs h),
      at_pods ps d qs (All-tail (λ (x : Request). IsAmong ps x.place) q qs h),
      length-placed runs_somewhere q qs,
    )

-- ---- each once

not_placed : (test : Place → Bool) (n : ℕ) (all : List Request) → contains n (numbers_in all) ≡ false → contains n (placed_in test all) ≡ false
not_placed test n [] h = refl
not_placed test n (q ∷ qs) h = by (q.number == n) refl (test q.place) h (not_placed test n qs)
  where
    by : (b : Bool) → (q.number == n) ≡ b → (t : Bool) → (b || contains n (numbers_in qs)) ≡ false → (contains n (numbers_in qs) ≡ false → contains n (placed_in test qs) ≡ false)
        → contains n (map (λ (r : Request). r.number) (cond t (q ∷ filter (λ (r : Request). test r.place) qs) (filter (λ (r : Request). test r.place) qs))) ≡ false
    by true e t h more = absurd (cc)
    by false e true h more = rw e (more h)
    by false e false h more = more h

placed_distinct : (test : Place → Bool) (all : List Request) → AreDistinct (numbers_in all) → AreDistinct (placed_in test all)
placed_distinct test [] d = tt
placed_distinct test (q ∷ qs) d = by (test q.place) (placed_distinct test qs d.1)
  where
    by : (t : Bool) → AreDistinct (placed_in test qs)
        → AreDistinct (map (λ (r : Request). r.number) (cond t (q ∷ filter (λ (r : Request). test r.place) qs) (filter (λ (r : Request). test r.place) qs)))
    by true rest = (not_placed test q.number qs d.0, rest)
    by false rest = rest

module _ (facts : Facts) where
  open facts use {lists.{contains-filter, distinct-filter}, members.{live_distinct}, proper.{made_kept}}

  -- ---- Ready pods

  as_ready : (a b d g : Bool) → (b ≡ true → a ≡ true) → (a && (b && not d && not g)) ≡ (b && not (d || g))
  as_ready true true true g h = refl
  as_ready true true false true h = refl
  as_ready true true false false h = refl
  as_ready true false d g h = refl
  as_ready false true d g h = absurd (let it = h refl in cc)
  as_ready false false d g h = refl

  pub ready_open : (s : Spec) (c : Trace) → IsMade s c → count_ready c ≡ count_open readied_by unready_by c
  unfolding count_ready ready_pods is_ready is_live_pod
  ready_open s c made =
      same_length facts (filter (is_ready c) (each_row created_by c)) (filter (is_open readied_by unready_by c) (each_row readied_by c))
      (distinct-filter (is_ready c) (each_row created_by c) (made_kept s c made).pods.once)
      (distinct-filter (is_open readied_by unready_by c) (each_row readied_by c) (distinct_made facts readied_by (fresh_readied facts) s c made))
      (λ p.
      contains-filter (is_ready c) p (each_row created_by c)
      ∙ as_ready (contains p (each_row created_by c)) (contains p (each_row readied_by c)) (contains p (each_row drained_by c)) (contains p (each_row gone_by c)) (readied_created facts s c made p)
      ∙ ap (λ (b : Bool). contains p (each_row readied_by c) && not b) (sym (is_unready facts c p))
      ∙ sym (contains-filter (is_open readied_by unready_by c) p (each_row readied_by c)))

  -- ---- requests that run

  pub running_open : (s : Spec) (a : Admission) (c : Trace) → IsMade s c → AreViews s a c → IsInOrder a → AreDistinct (live_pods c) → count_running c ≡ count_open begun_by ended_by c
  unfolding count_running is_running has_begun ended
  running_open s a c made views order d =
      let ps = pod_numbers a.pods in
      let distinct_pods : AreDistinct ps = subst AreDistinct views.pods d in
      let distinct_live : AreDistinct (numbers_in a.live) = subst AreDistinct views.live (live_distinct c (made_kept s c made).requests) in
      sum_same (λ (p : ℕ). length (running_at c p)) (λ (p : ℕ). length (placed_in (runs_at p) a.live)) views.count_running_at (live_pods c)
      ∙ ap (sum_by (λ (p : ℕ). length (placed_in (runs_at p) a.live))) views.pods
      ∙ at_pods ps distinct_pods a.live order.homes
      ∙ same_length facts (placed_in runs_somewhere a.live) (filter (is_open begun_by ended_by c) (each_row begun_by c))
      (placed_distinct runs_somewhere a.live distinct_live)
      (distinct-filter (is_open begun_by ended_by c) (each_row begun_by c) (distinct_made facts begun_by (fresh_begun facts) s c made))
      (λ r.
      sym (views.is_running r)
      ∙ ap (λ (b : Bool). b && not (contains r (each_row ended_by c))) (sym (has_begun_by facts c r))
      ∙ sym (contains-filter (is_open begun_by ended_by c) r (each_row begun_by c)))
