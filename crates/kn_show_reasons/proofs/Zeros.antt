-- What a decision by a trace's past is told by: its counts, its bounds, and the line of the zero rule.
use Rattle.std.proofs.Common.{◌≡◌, refl, sym, ap, ◌∙◌, subst, inl, inr, ℕ, ◌-◌, ◌*◌, ◌<◌, Bool, true, false, cond, eqb, ltb, ◌&&◌, arith, List, [], ◌∷◌, Option, None, Some}
use Rattle.std.specs.Prelude.{◌⊎◌, unwrap_or}
use Rattle.std.specs.Bool.{then_some}
use Rattle.std.specs.List.{filter, filter_map}
use Rattle.std.proofs.lemmas.Bool.Decides.{nat_tests}
use Rattle.kn_event.specs.Revision.{AreInRange}
use Rattle.kn_event.specs.declared.entry.Decision.{Decision}
use Rattle.kn_event.specs.declared.entry.Phase.{Phase}
use Rattle.kn_event.specs.declared.entry.Phase.TheVariants as phase
use Rattle.kn_event.specs.declared.revision.Burst.{Burst}
use Rattle.kn_event.specs.declared.revision.Burst.TheVariants as burst
use Rattle.kn_event.specs.declared.revision.Spec.{Spec}
use Rattle.kn_event.specs.declared.units.Frac.{Frac}
use Rattle.kn_scaling.specs.Average.{second_of, window_average}
use Rattle.kn_scaling.specs.Decide.{Past, Ruling, decision_from_stable, no_load, one_request, ruling}
use Rattle.kn_scaling.specs.Decide as scaling
use Rattle.kn_scaling.specs.Demand.{max_scale_down, max_scale_up, one_or_more}
use Rattle.kn_scaling.specs.Zero.{has_lasted, may_go, zero_rule}
use Rattle.kn_scaling.specs.declared.zero.Standing.{Standing}
use Rattle.kn_trace.specs.Scale.{count_ready, decision_at, past_of, phase_of, phase_since, standing_of, wake_decision_at, wanted}
use Rattle.kn_trace.specs.Trace.{Trace}
use Rattle.kn_reason.specs.declared.reason.Reason.{Reason}
use Rattle.kn_reason.specs.declared.reason.Reason.TheVariants as reason
use Rattle.kn_show_reasons.specs.Holding.{BoundsTell}
use Rattle.kn_show_reasons.specs.Reading.{count_read}
use Rattle.kn_show_reasons.specs.Runs.{IsByPast, Wakes, ZeroTells, is_about_zero, reasons_at, zero_lines}
use Rattle.kn_levers.specs.Levers.{is_cut, is_kept, is_raised}
use Rattle.kn_show_reasons.specs.Sentences.{activation, asked_more, at_zero, bound, burst_by, by_phase, capped_by, delay, down_rate, lever_of, most, panic_reason, panics, raised_by, reasons_of, sentences_of, stable_reason, up_rate}
use Rattle.kn_show_reasons.proofs.Holding.{tells}
use Rattle.kn_show_reasons.proofs.Reading.{want_read}
use Rattle.kn_show_reasons.proofs.Ruled.{are_ruled}

-- ---- by some averages

record IsRuled (s : Spec) (c : Trace) (t : ℕ) (d : Decision) : Type 0 where
  stable : Frac
  panic : Frac
  same : (ruling s (past_of s c) t (count_ready c) stable panic).decision ≡ d

some_same : (x y : Ruling) → Some x ≡ Some y → x ≡ y
some_same x y e = cc

ruled_by : (s : Spec) (c : Trace) (t : ℕ) (d : Decision) → IsByPast s c t d → IsRuled s c t d
unfolding decision_at wake_decision_at scaling.decision_at scaling.wake_decision_at
ruled_by s c t d h = by h.way
  where
    ticks : (o : Option Frac) → decision_from_stable s (past_of s c) t (count_ready c) o ≡ Some h.made → IsRuled s c t d
    ticks None is = absurd (cc)
    ticks (Some stable) is =
        let panic = unwrap_or (window_average (past_of s c).samples s.panic_s (second_of t)) no_load in
        record { stable = stable; panic = panic; same = ap (λ (r : Ruling). r.decision) (some_same (ruling s (past_of s c) t (count_ready c) stable panic) h.made is) ∙ h.same }

    by : (decision_at s c t ≡ Some h.made) ⊎ (Wakes s c t × (wake_decision_at s c t ≡ h.made)) → IsRuled s c t d
    by (inl is) = ticks (window_average (past_of s c).samples s.stable_s (second_of t)) is
    by (inr (wakes, is)) = record { stable = one_request; panic = one_request; same = ap (λ (r : Ruling). r.decision) is ∙ h.same }

-- its standing is that of the trace
standing_is : (s : Spec) (c : Trace) → (past_of s c).standing ≡ standing_of s c
unfolding past_of
standing_is s c = refl

phase_is : (s : Spec) (c : Trace) (p : Phase) → phase_of c ≡ Some p → (standing_of s c).phase ≡ p
unfolding standing_of
phase_is s c p is = ap (λ (o : Option Phase). unwrap_or o phase.Inactive) is

since_is : (s : Spec) (c : Trace) → (standing_of s c).phase_since ≡ phase_since c
unfolding standing_of
since_is s c = refl

wanted_is : (s : Spec) (c : Trace) → (standing_of s c).want ≡ wanted s c
unfolding standing_of
wanted_is s c = refl

-- ---- counts and bounds

pub own_want : (s : Spec) (c : Trace) (t : ℕ) (d : Decision) → ((p : Phase) × (phase_of c ≡ Some p)) → IsByPast s c t d → AreInRange s → count_read (reasons_at s c t d) ≡ d.want
own_want s c t d (p, is) by range =
    let h = ruled_by s c t d by in
    let past = past_of s c in
    let made = ruling s past t (count_ready c) h.stable h.panic in
    let ruled = are_ruled s past t (count_ready c) h.stable h.panic in
    let at : past.standing.phase ≡ p = ap (λ (x : Standing). x.phase) (standing_is s c) ∙ phase_is s c p is in
    let read : count_read (reasons_of s t (Some past.standing.phase) (phase_since c) made.decision) ≡ made.decision.want = want_read s t past.standing.phase (phase_since c) made.decision range ruled in
    let told : count_read (reasons_of s t (phase_of c) (phase_since c) made.decision) ≡ made.decision.want =
    subst (λ (o : Option Phase). count_read (reasons_of s t o (phase_since c) made.decision) ≡ made.decision.want) (ap (λ (q : Phase). Some q) at ∙ sym is) read in
    subst (λ (z : Decision). count_read (reasons_at s c t z) ≡ z.want) h.same told

pub own_bounds : (s : Spec) (c : Trace) (t : ℕ) (d : Decision) → IsByPast s c t d → AreInRange s → BoundsTell s (past_of s c) t d
own_bounds s c t d by range =
    let h = ruled_by s c t d by in
    subst (BoundsTell s (past_of s c) t) h.same (tells s (past_of s c) t (count_ready c) h.stable h.panic range)

-- ---- which lines are about the zero rule

about : List (Option Reason) → List Reason
about xs = filter is_about_zero (filter_map (λ y. y) xs)

abbrev IsOther : Option Reason → Type 0
IsOther None = Unit {0}
IsOther (Some r) = is_about_zero r ≡ false

skip : (o : Option Reason) (xs : List (Option Reason)) → IsOther o → about (o ∷ xs) ≡ about xs
unfolding about
skip None xs h = refl
skip (Some r) xs h = ap (λ (b : Bool). cond b (r ∷ filter is_about_zero (filter_map (λ y. y) xs)) (filter is_about_zero (filter_map (λ y. y) xs))) h

abbrev listed : Option Reason → List Reason
listed None = []
listed (Some r) = r ∷ []

abbrev IsAbout : Option Reason → Type 0
IsAbout None = Unit {0}
IsAbout (Some r) = is_about_zero r ≡ true

keep : (o : Option Reason) (xs : List (Option Reason)) → IsAbout o → about xs ≡ [] → about (o ∷ xs) ≡ listed o
unfolding about
keep None xs h none = none
keep (Some r) xs h none =
    ap (λ (b : Bool). cond b (r ∷ filter is_about_zero (filter_map (λ y. y) xs)) (filter is_about_zero (filter_map (λ y. y) xs))) h ∙ ap (λ (l : List Reason). r ∷ l) none

about_none : about [] ≡ []
unfolding about
about_none = refl

other_where : (b : Bool) (r : Reason) → is_about_zero r ≡ false → IsOther (then_some b r)
other_where true r h = h
other_where false r h = tt

other_if : (b : Bool) (x y : Option Reason) → IsOther x → IsOther y → IsOther (cond b x y)
other_if true x y h k = h
other_if false x y h k = k

about_if : (b : Bool) (x y : Option Reason) → IsAbout x → IsAbout y → IsAbout (cond b x y)
about_if true x y h k = h
about_if false x y h k = k

false_if : (b : Bool) (x y : Reason) → is_about_zero x ≡ false → is_about_zero y ≡ false → is_about_zero (cond b x y) ≡ false
false_if true x y h k = h
false_if false x y h k = k

true_if : (b : Bool) (x y : Reason) → is_about_zero x ≡ true → is_about_zero y ≡ true → is_about_zero (cond b x y) ≡ true
true_if true x y h k = h
true_if false x y h k = k

other_bound : (s : Spec) (d : Decision) → IsOther (bound s d)
other_bound s d =
    other_if (ltb d.delayed d.bounded) (Some (raised_by s d)) (then_some (ltb d.bounded d.delayed) (capped_by s d))
    (false_if (eqb d.bounded s.min) (reason.Min s.min d.bounded) (reason.Initial s.initial d.bounded) refl refl)
    (other_where (ltb d.bounded d.delayed) (capped_by s d) (false_if (eqb d.bounded s.max) (reason.Max s.max d.bounded) (reason.Ceiling d.bounded) refl refl))

other_burst : (s : Spec) (d : Decision) (b : Burst) → IsOther (Some (burst_by s d b))
other_burst s d burst.Unlimited = refl
other_burst s d (burst.Capacity capacity) =
    false_if (eqb capacity.0 0) (reason.BurstOff d.mode) (reason.Burst (record { ready = d.ready; total = s.total; capacity = capacity; average = d.panic; excess = d.excess; mode = d.mode })) refl refl

other_panics : (s : Spec) (d : Decision) → IsOther (panics s d)
other_panics s d = by d.over
  where
    by : (b : Bool) → IsOther (cond b (Some (reason.Over d.dppc (one_or_more d.ready) s.panic_threshold)) (then_some d.panicking (reason.GoesOn d.undelayed)))
    by true = refl
    by false = other_where d.panicking (reason.GoesOn d.undelayed) refl

zero_about : (s : Spec) (d : Decision) (passed : ℕ) (p : Option Phase) → IsAbout (at_zero s d passed p)
zero_about s d passed p = about_if (eqb d.bounded 0) (cond s.to_zero (by_phase s d passed p) (Some (reason.NoZero d.want))) None (about_if s.to_zero (by_phase s d passed p) (Some (reason.NoZero d.want)) (by p) refl) tt
  where
    by : (p : Option Phase) → IsAbout (by_phase s d passed p)
    by None = tt
    by (Some phase.Activating) = refl
    by (Some phase.Active) = true_if (eqb d.want 0) (reason.GoesInactive passed (1000 * s.stable_s)) (reason.Active passed (1000 * s.stable_s) d.want) refl refl
    by (Some phase.Inactive) = true_if d.applied (reason.Inactive passed d.want) (reason.NotYet passed s.grace_ms s.retention_ms) refl refl

-- the one that stands
about_is : (xs : List (Option Reason)) → filter is_about_zero (filter_map (λ y. y) xs) ≡ about xs
unfolding about
about_is xs = refl

zero_is : (s : Spec) (t : ℕ) (p : Option Phase) (since : ℕ) (d : Decision) → filter is_about_zero (reasons_of s t p since d) ≡ listed (at_zero s d (t - since) p)
unfolding reasons_of sentences_of
zero_is s t p since d =
    let of_burst : Option Reason = Some (burst_by s d s.burst) in
    let of_change : Option Reason = Some (reason.Change (lever_of s p d)) in
    let of_zero = at_zero s d (t - since) p in
    let l15 : List (Option Reason) = of_burst ∷ of_change ∷ [] in
    let l14 : List (Option Reason) = of_zero ∷ l15 in
    let l13 : List (Option Reason) = bound s d ∷ l14 in
    let l12 : List (Option Reason) = delay s d ∷ l13 in
    let l11 : List (Option Reason) = most s d ∷ l12 in
    let l10 : List (Option Reason) = panics s d ∷ l11 in
    let l9 : List (Option Reason) = activation s d.ready d.dppc ∷ l10 in
    let l8 : List (Option Reason) = down_rate s d.ready d.dppc ∷ l9 in
    let l7 : List (Option Reason) = up_rate s d.ready d.dppc ∷ l8 in
    let l6 : List (Option Reason) = Some (panic_reason s d) ∷ l7 in
    let l5 : List (Option Reason) = activation s d.ready d.dspc ∷ l6 in
    let l4 : List (Option Reason) = down_rate s d.ready d.dspc ∷ l5 in
    let l3 : List (Option Reason) = up_rate s d.ready d.dspc ∷ l4 in
    let l2 : List (Option Reason) = Some (stable_reason s d) ∷ l3 in
    let l1 : List (Option Reason) = Some (reason.Wants d.want d.ready) ∷ l2 in
    let end : about l15 ≡ [] = skip of_burst (of_change ∷ []) (other_burst s d s.burst) ∙ (skip of_change [] refl ∙ about_none) in
    about_is l1
    ∙ skip (Some (reason.Wants d.want d.ready)) l2 refl
    ∙ skip (Some (stable_reason s d)) l3 refl
    ∙ skip (up_rate s d.ready d.dspc) l4 (other_where (is_cut s d.ready d.dspc) (reason.UpRate s.up (max_scale_up s d.ready)) refl)
    ∙ skip (down_rate s d.ready d.dspc) l5 (other_where (is_kept s d.ready d.dspc) (reason.DownRate s.down (max_scale_down s d.ready)) refl)
    ∙ skip (activation s d.ready d.dspc) l6 (other_where (is_raised s d.ready d.dspc) (reason.Activation s.activation) refl)
    ∙ skip (Some (panic_reason s d)) l7 refl
    ∙ skip (up_rate s d.ready d.dppc) l8 (other_where (is_cut s d.ready d.dppc) (reason.UpRate s.up (max_scale_up s d.ready)) refl)
    ∙ skip (down_rate s d.ready d.dppc) l9 (other_where (is_kept s d.ready d.dppc) (reason.DownRate s.down (max_scale_down s d.ready)) refl)
    ∙ skip (activation s d.ready d.dppc) l10 (other_where (is_raised s d.ready d.dppc) (reason.Activation s.activation) refl)
    ∙ skip (panics s d) l11 (other_panics s d)
    ∙ skip (most s d) l12 (other_where (d.over && asked_more s d) (reason.Most d.undelayed) refl)
    ∙ skip (delay s d) l13 (other_where (ltb d.undelayed d.delayed) (reason.Delay s.delay_s d.delayed) refl)
    ∙ skip (bound s d) l14 (other_bound s d)
    ∙ keep of_zero l15 (zero_about s d (t - since) p) end

-- ---- the cases of the rule

record IsByRule (s : Spec) (t ready : ℕ) (x : Standing) (d : Decision) : Type 0 where
  want : d.want ≡ (zero_rule s t ready d.bounded x).want
  applied : d.applied ≡ (zero_rule s t ready d.bounded x).applied

by_rule : (s : Spec) (past : Past) (t ready : ℕ) (stable panic : Frac) → IsByRule s t ready past.standing (ruling s past t ready stable panic).decision
unfolding ruling
by_rule s past t ready stable panic = record { want = refl; applied = refl }

module _ (s : Spec) (t ready bounded : ℕ) (x : Standing) (none : bounded ≡ 0) where
  rule_stays : s.to_zero ≡ false → (zero_rule s t ready bounded x).want ≡ 1
  unfolding zero_rule
  rule_stays zero = rw (none, zero) refl

  rule_waits : s.to_zero ≡ true → x.phase ≡ phase.Activating → (zero_rule s t ready bounded x).want ≡ x.want
  unfolding zero_rule
  rule_waits zero at = rw (none, zero, at) refl

  rule_active : s.to_zero ≡ true → x.phase ≡ phase.Active → has_lasted x.phase_since (1000 * s.stable_s) t ≡ false → (zero_rule s t ready bounded x).want ≡ 1
  unfolding zero_rule
  rule_active zero at soon = rw (none, zero, at, soon) refl

  rule_goes : s.to_zero ≡ true → x.phase ≡ phase.Active → has_lasted x.phase_since (1000 * s.stable_s) t ≡ true → (zero_rule s t ready bounded x).want ≡ 0
  unfolding zero_rule
  rule_goes zero at late = rw (none, zero, at, late) refl

  rule_gone : s.to_zero ≡ true → x.phase ≡ phase.Inactive → ((zero_rule s t ready bounded x).want ≡ 0) × ((zero_rule s t ready bounded x).applied ≡ may_go s t x)
  unfolding zero_rule
  rule_gone zero at = (rw (none, zero, at) refl, rw (none, zero, at) refl)

none_is : (n : ℕ) → n ≡ 0 → eqb n 0 ≡ true
none_is n e = grind (arith, nat_tests)

some_is : (n : ℕ) → 0 < n → eqb n 0 ≡ false
some_is n e = grind (arith, nat_tests)

not_none : (n : ℕ) → n ≡ 1 → eqb n 0 ≡ false
not_none n e = grind (arith, nat_tests)

-- of a decision by the rule, where no pod is asked for
module _ (s : Spec) (d : Decision) (passed : ℕ) where
  abbrev line_in : Bool → Bool → Option Phase → List Reason
  line_in none zero p = listed (cond none (cond zero (by_phase s d passed p) (Some (reason.NoZero d.want))) None)

  line_some : (p : Option Phase) → 0 < d.bounded → listed (at_zero s d passed p) ≡ []
  line_some p some = ap (λ (b : Bool). line_in b s.to_zero p) (some_is d.bounded some)

  line_stays : (p : Option Phase) → d.bounded ≡ 0 → s.to_zero ≡ false → d.want ≡ 1 → listed (at_zero s d passed p) ≡ reason.NoZero 1 ∷ []
  line_stays p none zero want =
      ap (λ (b : Bool). line_in b s.to_zero p) (none_is d.bounded none) ∙ ap (λ (b : Bool). line_in true b p) zero ∙ ap (λ (n : ℕ). listed (Some (reason.NoZero n))) want

  line_to : (p : Option Phase) (q : Phase) → d.bounded ≡ 0 → s.to_zero ≡ true → p ≡ Some q → listed (at_zero s d passed p) ≡ listed (by_phase s d passed (Some q))
  line_to p q none zero at =
      ap (λ (b : Bool). line_in b s.to_zero p) (none_is d.bounded none) ∙ ap (λ (b : Bool). line_in true b p) zero ∙ ap (λ (o : Option Phase). listed (by_phase s d passed o)) at

  line_active : d.want ≡ 1 → listed (by_phase s d passed (Some phase.Active)) ≡ reason.Active passed (1000 * s.stable_s) 1 ∷ []
  line_active want =
      ap (λ (b : Bool). listed (Some (cond b (reason.GoesInactive passed (1000 * s.stable_s)) (reason.Active passed (1000 * s.stable_s) d.want)))) (not_none d.want want)
      ∙ ap (λ (n : ℕ). listed (Some (reason.Active passed (1000 * s.stable_s) n))) want

  line_goes : d.want ≡ 0 → listed (by_phase s d passed (Some phase.Active)) ≡ reason.GoesInactive passed (1000 * s.stable_s) ∷ []
  line_goes want =
      ap (λ (b : Bool). listed (Some (cond b (reason.GoesInactive passed (1000 * s.stable_s)) (reason.Active passed (1000 * s.stable_s) d.want)))) (none_is d.want want)

  line_gone : d.applied ≡ true → d.want ≡ 0 → listed (by_phase s d passed (Some phase.Inactive)) ≡ reason.Inactive passed 0 ∷ []
  line_gone applied want =
      ap (λ (b : Bool). listed (Some (cond b (reason.Inactive passed d.want) (reason.NotYet passed s.grace_ms s.retention_ms)))) applied ∙ ap (λ (n : ℕ). listed (Some (reason.Inactive passed n))) want

  line_not_yet : d.applied ≡ false → listed (by_phase s d passed (Some phase.Inactive)) ≡ reason.NotYet passed s.grace_ms s.retention_ms ∷ []
  line_not_yet applied = ap (λ (b : Bool). listed (Some (cond b (reason.Inactive passed d.want) (reason.NotYet passed s.grace_ms s.retention_ms)))) applied

pub zero_tells : (s : Spec) (c : Trace) (t : ℕ) (d : Decision) → IsByPast s c t d → ZeroTells s c t d
zero_tells s c t d by =
    let h = ruled_by s c t d by in
    let x = standing_of s c in
    let ready = count_ready c in
    let passed = t - phase_since c in
    let p = phase_of c in
    let is : zero_lines s c t d ≡ listed (at_zero s d passed p) = zero_is s t p (phase_since c) d in
    let ruled : IsByRule s t ready x d =
    subst (λ (z : Standing). IsByRule s t ready z d) (standing_is s c) (subst (IsByRule s t ready (past_of s c).standing) h.same (by_rule s (past_of s c) t ready h.stable h.panic)) in
    let lasts : (b : Bool) → has_lasted (phase_since c) (1000 * s.stable_s) t ≡ b → has_lasted x.phase_since (1000 * s.stable_s) t ≡ b =
    λ b e. subst (λ (n : ℕ). has_lasted n (1000 * s.stable_s) t ≡ b) (sym (since_is s c)) e in
    record {
      some = λ some. is ∙ line_some s d passed p some;
      stays = λ none zero. is ∙ line_stays s d passed p none zero (ruled.want ∙ rule_stays s t ready d.bounded x none zero);
      waits = λ none zero at.
          let want : d.want ≡ wanted s c = ruled.want ∙ rule_waits s t ready d.bounded x none zero (phase_is s c phase.Activating at) ∙ wanted_is s c in
          is ∙ line_to s d passed p phase.Activating none zero at ∙ ap (λ (n : ℕ). listed (Some (reason.Waits n))) want;
      active = λ none zero at soon.
          is ∙ line_to s d passed p phase.Active none zero at ∙ line_active s d passed (ruled.want ∙ rule_active s t ready d.bounded x none zero (phase_is s c phase.Active at) (lasts false soon));
      goes = λ none zero at late.
          is ∙ line_to s d passed p phase.Active none zero at ∙ line_goes s d passed (ruled.want ∙ rule_goes s t ready d.bounded x none zero (phase_is s c phase.Active at) (lasts true late));
      gone = λ none zero at may.
          let rule = rule_gone s t ready d.bounded x none zero (phase_is s c phase.Inactive at) in
          is ∙ line_to s d passed p phase.Inactive none zero at ∙ line_gone s d passed (ruled.applied ∙ rule.1 ∙ may) (ruled.want ∙ rule.0);
      not_yet = λ none zero at may.
          let rule = rule_gone s t ready d.bounded x none zero (phase_is s c phase.Inactive at) in
          is ∙ line_to s d passed p phase.Inactive none zero at ∙ line_not_yet s d passed (ruled.applied ∙ rule.1 ∙ may);
    }
