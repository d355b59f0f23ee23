-- No sum is above what the most would come to all the time.
use Rattle.std.proofs.Common.{◌≡◌, ℕ, ◌+◌, ◌*◌, ◌-◌, ◌≤◌, Bool, true, false, List, [], ◌∷◌, ◌++◌, length, refl, sym, subst, arith, append-nil, append_assoc}
use Rattle.std.proofs.Math.Nat.{mul-le-mul_right}
use Rattle.std.specs.Prelude.{◌==◌, if◌then◌else◌}
use Rattle.kn_event.specs.declared.event.Event.{Event}
use Rattle.kn_event.specs.declared.revision.Spec.{Spec}
use Rattle.kn_throttle.specs.Gauges.{count_running}
use Rattle.kn_trace.specs.Events.{trace_of}
use Rattle.kn_trace.specs.Rows.{created_by}
use Rattle.kn_trace.specs.Scale.{count_ready}
use Rattle.kn_trace.specs.Trace.{Trace, each_row, is_live_pod, live, live_pods}
use Rattle.kn_record.specs.Admission.{admission}
use Rattle.kn_record.specs.Facts.{Facts}
use Rattle.kn_record.specs.Made.{AreDistinct}
use Rattle.kn_record.specs.Views.{AreViews}
use Rattle.kn_laws.specs.History.{AreInOrder}
use Rattle.kn_teller.specs.Run.{Run, later, now_of, trace}
use Rattle.kn_costs.specs.Gauges.{AreBounded, costs, count_none, count_pods}
use Rattle.kn_costs.specs.Steps.{area}
use Rattle.kn_costs.proofs.Pods.{pods_in_three}
use Rattle.kn_costs.proofs.Running.{running_few}
use Rattle.kn_costs.proofs.Timing.{area-later, area-none, clock-later}

abbrev pub run_of : Spec → ℕ → List Event → Run
run_of s start es = record { spec = s; start = start; events = es }

grows : (a x p d n b : ℕ) → a ≤ b * p → n ≤ b → x ≡ a + n * d → x ≤ b * (p + d)
grows a x p d n b before few is = omega (arith, mul-le-mul_right d few)

module _ (f : Trace → ℕ) (b : ℕ) (s : Spec) (start : ℕ) (few : (es : List Event) → f (trace_of s start es) ≤ b) where
  abbrev IsBounded : List Event → Type 0
  IsBounded es = area f (run_of s start es) ≤ b * (now_of (run_of s start es) - start)

  next : (es : List Event) (e : Event) → start ≤ now_of (run_of s start es) → now_of (run_of s start es) ≤ e.time → IsBounded es → IsBounded (es ++ e ∷ [])
  next es e low order h =
      let r = run_of s start es in
      let length_is : now_of (later r e) - start ≡ (now_of r - start) + (e.time - now_of r) = omega (arith, clock-later r e) in
      rw length_is (grows (area f r) (area f (later r e)) (now_of r - start) (e.time - now_of r) (f (trace r)) b h (few es) (area-later f r e))

  walk : (done es : List Event) (to : ℕ) → start ≤ now_of (run_of s start done) → AreInOrder (now_of (run_of s start done)) es to → IsBounded done → IsBounded (done ++ es)
  walk done [] to low order h = subst IsBounded (sym (append-nil done)) h
  walk done (e ∷ es) to low order h =
      let clock = clock-later (run_of s start done) e in
      subst IsBounded (append_assoc done (e ∷ []) es)
      (walk (done ++ e ∷ []) es to (omega (arith, clock, order.0)) (subst (λ (t : ℕ). AreInOrder t es to) (sym clock) order.1) (next done e low order.0 h))

  whole : (es : List Event) (to : ℕ) → AreInOrder start es to → IsBounded es
  whole es to order = walk [] es to (omega arith) order (omega (arith, area-none f (run_of s start []) refl))

none_few : (c : Trace) → count_none c ≤ 1
none_few c = by (count_pods c == 0)
  where
    by : (t : Bool) → (if t then 1 else 0) ≤ 1
    by true = omega arith
    by false = omega arith

-- what is known of each trace that events made
pub record AreKnown (s : Spec) (start : ℕ) (es : List Event) : Type 0 where
  pub views : AreViews s (admission (trace_of s start es)) (trace_of s start es)
  pub distinct : AreDistinct (live_pods (trace_of s start es))
  pub pods : length (live_pods (trace_of s start es)) ≤ 20500
  pub live : length (live (trace_of s start es)) ≤ 20000

pub all_bounded : (r : Run) → ((es : List Event) → AreKnown r.spec r.start es) → AreInOrder r.start r.events (now_of r) → AreBounded r
unfolding costs
all_bounded r known order =
    let to = now_of r in
    record {
      at_zero = omega (arith, whole count_none 1 r.spec r.start (λ es. none_few (trace_of r.spec r.start es)) r.events to order);
      pods = whole count_pods 20500 r.spec r.start (λ es. (known es).pods) r.events to order;
      ready = whole count_ready 20500 r.spec r.start (λ es. omega (arith, (known es).pods, pods_in_three r.spec _ _ (known es).views)) r.events to order;
      running = whole count_running 20000 r.spec r.start (λ es. omega (arith, (known es).live, running_few r.spec _ _ (known es).views (known es).distinct)) r.events to order;
    }

-- the live pods are distinct
module _ (facts : Facts) where
  open facts use {lists.{distinct-filter}, proper.{made_kept, made_trace}}

  pub pods_distinct : (s : Spec) (start : ℕ) (es : List Event) → AreDistinct (live_pods (trace_of s start es))
  unfolding live_pods
  pods_distinct s start es =
      let c = trace_of s start es in
      distinct-filter (is_live_pod c) (each_row created_by c) (made_kept s c (made_trace s start es)).pods.once
