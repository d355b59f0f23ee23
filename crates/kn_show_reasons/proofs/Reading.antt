-- The lines of a decision, read one after the other.
use Rattle.std.proofs.Common.{◌≡◌, refl, sym, ap, ◌∙◌, ℕ, ◌-◌, ◌*◌, ◌/◌, ◌≤◌, ◌<◌, Bool, true, false, cond, ltb, eqb, ◌&&◌, arith, List, [], ◌∷◌, Option, None, Some, lit<}
use Rattle.std.specs.Prelude.{fold, max, min}
use Rattle.std.specs.Bool.{then_some}
use Rattle.std.specs.Int.{div_ceil}
use Rattle.std.specs.List.{filter_map}
use Rattle.std.proofs.Math.Nat.{div-le_of_le-mul, mul-le-mul}
use Rattle.std.proofs.lemmas.Bool.Decides.{nat_tests}
use Rattle.std.proofs.lemmas.Grind.{div_ceil_times}
use Rattle.kn_event.specs.Revision.{AreInRange}
use Rattle.kn_event.specs.declared.entry.Decision.{Decision}
use Rattle.kn_event.specs.declared.entry.Phase.{Phase}
use Rattle.kn_event.specs.declared.entry.Phase.TheVariants as phase
use Rattle.kn_event.specs.declared.revision.Burst.{Burst}
use Rattle.kn_event.specs.declared.revision.Burst.TheVariants as burst
use Rattle.kn_event.specs.declared.revision.Spec.{Spec}
use Rattle.kn_event.specs.declared.units.Milli.{Milli}
use Rattle.kn_scaling.specs.Demand.{count_for, max_scale_down, max_scale_up, one_or_more, within_rates}
use Rattle.kn_levers.specs.Levers.{is_cut, is_kept, is_raised}
use Rattle.kn_reason.specs.declared.reason.Reason.{Reason}
use Rattle.kn_reason.specs.declared.reason.Reason.TheVariants as reason
use Rattle.kn_show_reasons.specs.Reading.{Reading, at_count, beside, count_read, read}
use Rattle.kn_show_reasons.specs.Sentences.{activation, at_zero, bound, burst_by, by_phase, delay, down_rate, most, panic_reason, panics, reasons_of, sentences_of, up_rate}
use Rattle.kn_show_reasons.proofs.Ruled.{AreRuled}

-- a sentence where it stands
abbrev read_where : Reading → Option Reason → Reading
read_where x None = x
read_where x (Some r) = read x r

read_those : (x : Reading) (xs : List (Option Reason)) → fold read x (filter_map (λ y. y) xs) ≡ fold read_where x xs
read_those x [] = refl
read_those x (None ∷ xs) = read_those x xs
read_those x (Some r ∷ xs) = read_those (read x r) xs

-- ---- the rates

rates_order : (u d m : ℕ) → 1001 ≤ u → 1001 ≤ d → (1000 * m) / d ≤ div_ceil (u * m) 1000
rates_order u d m hu hd =
    let down : 1000 * m ≤ d * m = mul-le-mul (omega arith) (omega arith) in
    let least : (1000 * m) / d ≤ m = div-le_of_le-mul d down in
    let up : 1001 * m ≤ u * m = mul-le-mul hu (omega arith) in
    let times = div_ceil_times (u * m) 1000 (lit< tt) in
    omega (arith, least, up, times.0)

pub down_up : (s : Spec) (ready : ℕ) → AreInRange s → max_scale_down s ready ≤ max_scale_up s ready
unfolding max_scale_down max_scale_up
down_up s ready range = rates_order s.up.0 s.down.0 (one_or_more ready) range.up.least range.down.least

held_is : (u d n : ℕ) → d ≤ u → cond (ltb n d) d (cond (ltb u (max d n)) u n) ≡ min u (max d n)
held_is u d n le = grind (arith, nat_tests)

-- ---- what an average asks for, where the lines are about it alone or stand beside the other count

module _ (wrap : ℕ → Reading) (up : (m n : ℕ) (r : Milli) → read (wrap m) (reason.UpRate r n) ≡ wrap n) (down : (m n : ℕ) (r : Milli) → read (wrap m) (reason.DownRate r n) ≡ wrap n) (active : (m n : ℕ) → read (wrap m) (reason.Activation n) ≡ wrap n) where
  up_step : (b : Bool) (m n : ℕ) (r : Milli) → read_where (wrap m) (then_some b (reason.UpRate r n)) ≡ wrap (cond b n m)
  up_step true m n r = up m n r
  up_step false m n r = refl

  down_step : (b : Bool) (m n : ℕ) (r : Milli) → read_where (wrap m) (then_some b (reason.DownRate r n)) ≡ wrap (cond b n m)
  down_step true m n r = down m n r
  down_step false m n r = refl

  active_step : (b : Bool) (m n : ℕ) → read_where (wrap m) (then_some b (reason.Activation n)) ≡ wrap (cond b n m)
  active_step true m n = active m n
  active_step false m n = refl

  demand_read : (s : Spec) (ready pods : ℕ) → AreInRange s → read_where (read_where (read_where (wrap pods) (up_rate s ready pods)) (down_rate s ready pods)) (activation s ready pods) ≡ wrap (count_for s ready pods)
  unfolding count_for
  demand_read s ready pods range =
      let u = max_scale_up s ready in
      let d = max_scale_down s ready in
      let one = cond (is_cut s ready pods) u pods in
      let two = cond (is_kept s ready pods) d one in
      let within : two ≡ within_rates s ready pods = held_is u d pods (down_up s ready range) in
      ap (λ (x : Reading). read_where (read_where x (down_rate s ready pods)) (activation s ready pods)) (up_step (is_cut s ready pods) pods u s.up)
      ∙ ap (λ (x : Reading). read_where x (activation s ready pods)) (down_step (is_kept s ready pods) one d s.down)
      ∙ active_step (is_raised s ready pods) two s.activation
      ∙ ap (λ (n : ℕ). wrap (cond (is_raised s ready pods) s.activation n)) within

stable_read : (s : Spec) (ready pods : ℕ) → AreInRange s
    → read_where (read_where (read_where (at_count pods) (up_rate s ready pods)) (down_rate s ready pods)) (activation s ready pods) ≡ at_count (count_for s ready pods)
stable_read s ready pods range = demand_read at_count (λ m n r. refl) (λ m n r. refl) (λ m n. refl) s ready pods range

panic_read : (s : Spec) (asked ready pods : ℕ) → AreInRange s
    → read_where (read_where (read_where (beside asked pods) (up_rate s ready pods)) (down_rate s ready pods)) (activation s ready pods) ≡ beside asked (count_for s ready pods)
panic_read s asked ready pods range = demand_read (beside asked) (λ m n r. refl) (λ m n r. refl) (λ m n. refl) s ready pods range

-- ---- the panic

panic_asks : (over panicking : Bool) (a p u n ready : ℕ) (threshold : Milli) → (over ≡ true → (panicking ≡ true) × (max a p ≤ u)) → (panicking ≡ false → u ≡ a)
    → (read_where (read_where (beside a p) (cond over (Some (reason.Over n ready threshold)) (then_some panicking (reason.GoesOn u)))) (then_some (over && (panicking && ltb (max a p) u)) (reason.Most u))).asked ≡ u
panic_asks true true a p u n ready threshold is calm = by (ltb (max a p) u) refl
  where
    by : (b : Bool) → ltb (max a p) u ≡ b → (read_where (at_count (max a p)) (then_some b (reason.Most u))).asked ≡ u
    by true e = refl
    by false e = let least = (is refl).1 in grind (arith, nat_tests)
panic_asks true false a p u n ready threshold is calm = absurd (let e : false ≡ true = (is refl).0 in cc)
panic_asks false true a p u n ready threshold is calm = refl
panic_asks false false a p u n ready threshold is calm = sym (calm refl)

-- ---- the delay, the bounds and the zero rule

delay_asks : (x : Reading) (s : Spec) (d : Decision) → x.asked ≡ d.undelayed → d.undelayed ≤ d.delayed → (read_where x (delay s d)).asked ≡ d.delayed
delay_asks x s d is le = by (ltb d.undelayed d.delayed) refl
  where
    by : (b : Bool) → ltb d.undelayed d.delayed ≡ b → (read_where x (then_some b (reason.Delay s.delay_s d.delayed))).asked ≡ d.delayed
    by true e = refl
    by false e = grind (arith, nat_tests)

raised_asks : (x : Reading) (b : Bool) (least initial n : ℕ) → (read x (cond b (reason.Min least n) (reason.Initial initial n))).asked ≡ n
raised_asks x true least initial n = refl
raised_asks x false least initial n = refl

capped_asks : (x : Reading) (b : Bool) (most n : ℕ) → (read x (cond b (reason.Max most n) (reason.Ceiling n))).asked ≡ n
capped_asks x true most n = refl
capped_asks x false most n = refl

bound_asks : (x : Reading) (s : Spec) (d : Decision) → x.asked ≡ d.delayed → (read_where x (bound s d)).asked ≡ d.bounded
bound_asks x s d is = by (ltb d.delayed d.bounded) refl (ltb d.bounded d.delayed) refl
  where
    raised : Reason
    raised = cond (eqb d.bounded s.min) (reason.Min s.min d.bounded) (reason.Initial s.initial d.bounded)

    capped : Reason
    capped = cond (eqb d.bounded s.max) (reason.Max s.max d.bounded) (reason.Ceiling d.bounded)

    by : (b : Bool) → ltb d.delayed d.bounded ≡ b → (c : Bool) → ltb d.bounded d.delayed ≡ c → (read_where x (cond b (Some raised) (then_some c capped))).asked ≡ d.bounded
    by true e c f = raised_asks x (eqb d.bounded s.min) s.min s.initial d.bounded
    by false e true f = capped_asks x (eqb d.bounded s.max) s.max d.bounded
    by false e false f = grind (arith, nat_tests)

zero_asks : (x : Reading) (s : Spec) (p : Phase) (passed : ℕ) (d : Decision) → AreRuled s p d → x.asked ≡ d.bounded → (read_where x (at_zero s d passed (Some p))).asked ≡ d.want
zero_asks x s p passed d ruled is = by (eqb d.bounded 0) refl
  where
    active : (b : Bool) → eqb d.want 0 ≡ b → (read x (cond b (reason.GoesInactive passed (1000 * s.stable_s)) (reason.Active passed (1000 * s.stable_s) d.want))).asked ≡ d.want
    active true e = grind (arith, nat_tests)
    active false e = refl

    inactive : (b : Bool) → d.want ≡ 0 → (read x (cond b (reason.Inactive passed d.want) (reason.NotYet passed s.grace_ms s.retention_ms))).asked ≡ d.want
    inactive true e = refl
    inactive false e = sym e

    in_phase : (q : Phase) → p ≡ q → (p ≡ phase.Inactive → d.want ≡ 0) → (read_where x (by_phase s d passed (Some q))).asked ≡ d.want
    in_phase phase.Activating at none = refl
    in_phase phase.Active at none = active (eqb d.want 0) refl
    in_phase phase.Inactive at none = inactive d.applied (none at)

    to_zero : (b : Bool) → s.to_zero ≡ b → d.bounded ≡ 0 → (read_where x (cond b (by_phase s d passed (Some p)) (Some (reason.NoZero d.want)))).asked ≡ d.want
    to_zero true e none = in_phase p refl (ruled.none none e)
    to_zero false e none = refl

    by : (b : Bool) → eqb d.bounded 0 ≡ b → (read_where x (cond b (cond s.to_zero (by_phase s d passed (Some p)) (Some (reason.NoZero d.want))) None)).asked ≡ d.want
    by true e = let none : d.bounded ≡ 0 = grind (arith, nat_tests) in to_zero s.to_zero refl none
    by false e = let some : 0 < d.bounded = grind (arith, nat_tests) in is ∙ sym (ruled.some some)

burst_reads : (x : Reading) (s : Spec) (d : Decision) (b : Burst) → read x (burst_by s d b) ≡ x
burst_reads x s d burst.Unlimited = refl
burst_reads x s d (burst.Capacity capacity) = by (eqb capacity.0 0)
  where
    by : (b : Bool) → read x (cond b (reason.BurstOff d.mode) (reason.Burst (record { ready = d.ready; total = s.total; capacity = capacity; average = d.panic; excess = d.excess; mode = d.mode }))) ≡ x
    by true = refl
    by false = refl

-- ---- all together

pub want_read : (s : Spec) (t : ℕ) (p : Phase) (since : ℕ) (d : Decision) → AreInRange s → AreRuled s p d → count_read (reasons_of s t (Some p) since d) ≡ d.want
unfolding count_read reasons_of sentences_of
want_read s t p since d range ruled =
    let a = count_for s d.ready d.dspc in
    let b = count_for s d.ready d.dppc in
    let rest : Reading → Reading =
    λ (x : Reading). read_where (read_where (read_where (read_where (read_where x (panics s d)) (most s d)) (delay s d)) (bound s d)) (at_zero s d (t - since) (Some p)) in
    let begins : Reading → Reading =
    λ (x : Reading). rest (read_where (read_where (read_where (read x (panic_reason s d)) (up_rate s d.ready d.dppc)) (down_rate s d.ready d.dppc)) (activation s d.ready d.dppc)) in
    let x : Reading = read_where (read_where (beside a b) (panics s d)) (most s d) in
    let asked : x.asked ≡ d.undelayed = panic_asks d.over d.panicking a b d.undelayed d.dppc (one_or_more d.ready) s.panic_threshold ruled.over ruled.calm in
    let delayed = delay_asks x s d asked ruled.later in
    let bounded = bound_asks (read_where x (delay s d)) s d delayed in
    ap (λ (y : Reading). y.asked) (read_those (at_count 0) (sentences_of s t (Some p) since d))
    ∙ ap (λ (y : Reading). y.asked) (burst_reads (begins (read_where (read_where (read_where (at_count d.dspc) (up_rate s d.ready d.dspc)) (down_rate s d.ready d.dspc)) (activation s d.ready d.dspc))) s d s.burst)
    ∙ ap (λ (y : Reading). (begins y).asked) (stable_read s d.ready d.dspc range)
    ∙ ap (λ (y : Reading). (rest y).asked) (panic_read s a d.ready d.dppc range)
    ∙ zero_asks (read_where (read_where x (delay s d)) (bound s d)) s p (t - since) d ruled bounded
