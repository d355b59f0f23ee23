-- The samples of the windows, as seconds close, and what averages read of them.
use Rattle.std.proofs.Common.{◌≡◌, ℕ, ◌+◌, ◌<◌, ◌≤◌, ◌⊎◌, inl, inr, Bool, true, false, ◌&&◌, refl, sym, ap, ◌∙◌, subst, arith, nat_lt, nat_le, map, Option, None, Some, IfSome, cond}
use Rattle.std.proofs.lemmas.Bool.{cases_lt}
use Rattle.std.proofs.Math.Bridge.{le_prop}
use mathlib.Core.HLevel.{Unit-prop}
use Rattle.std.proofs.lemmas.Bool.Decides.{nat_tests}
use Rattle.kn_event.specs.declared.revision.Metric.{Metric}
use Rattle.kn_event.specs.declared.units.Frac.{Frac}
use Rattle.kn_scaling.specs.Average.{IsAverage, Samples, no_samples, value_of, window_average, with_run}
use Rattle.kn_scaling.specs.Decide.{Past, asked_of, judged_of}
use Rattle.kn_scaling.specs.Worked.{run_of}
use Rattle.kn_stats.specs.declared.closed.Closed.{Closed}
use Rattle.kn_stats.specs.declared.closed.Run.{Run}
use Rattle.kn_window.specs.Stands.{WindowState, IsWindowOf}
use Rattle.kn_panic.specs.Stands.{IsPanicOf}
use Rattle.kn_delay.specs.Stands.{IsDelayOf}
use Rattle.kn_decider.specs.Closing.{IsOverAt, below, with_closed, with_closed_run}
use Rattle.kn_decider.specs.Decider.{DeciderState, IsDeciderOf}

is_before : (s until : ℕ) → s < until → nat_lt s until ≡ true
is_before s until lt = grind (arith, nat_tests)

not_before : (s until : ℕ) → until ≤ s → nat_lt s until ≡ false
not_before s until le = grind (arith, nat_tests)

below_before : (samples : Samples) (until s : ℕ) → s < until → below until samples s ≡ samples s
below_before samples until s lt = rw (is_before s until lt) refl

below_from : (samples : Samples) (until s : ℕ) → until ≤ s → below until samples s ≡ None
below_from samples until s le = rw (not_before s until le) refl

-- without samples there are none below any second
pub below_none : (until s : ℕ) → no_samples s ≡ below until no_samples s
below_none until s = by (nat_lt s until)
  where
    by : (b : Bool) → (let none : Option ℕ = None in none ≡ cond b none none)
    by true = refl
    by false = refl

-- ---- seconds that closed

none_if_not : (b : Bool) → (b && false) ≡ false
none_if_not true = refl
none_if_not false = refl

-- a run changes nothing after it
run_before : (samples : Samples) (second count load s : ℕ) → second + count ≤ s → with_run samples (run_of second count load) s ≡ samples s
unfolding with_run
run_before samples second count load s le =
    rw (not_before s (second + count) le) (rw (none_if_not (nat_le second s)) refl)

closed_run_before : (m : Metric) (run : Option Run) (samples : Samples) (next s : ℕ) → IsOverAt next run → next ≤ s → with_closed_run m run samples s ≡ samples s
closed_run_before m None samples next s over le = refl
closed_run_before m (Some run) samples next s over le = by run.sampled
  where
    by : (b : Bool) → (let f : Samples = cond b (with_run samples (run_of run.second run.count (value_of m run.load run.arrived))) samples in f) s ≡ samples s
    by true = run_before samples run.second run.count (value_of m run.load run.arrived) s (omega arith)
    by false = refl

-- with the seconds that closed, of the samples below a second, there are none from the next one on
pub closed_below : (m : Metric) (c : Closed) (samples : Samples) (until next : ℕ) → until ≤ next → IsOverAt next c.first → IsOverAt next c.rest
    → (s : ℕ) → with_closed m c (below until samples) s ≡ below next (with_closed m c (below until samples)) s
closed_below m c samples until next le first rest s = by (cases_lt s next)
  where
    by : (s < next) ⊎ (next ≤ s) → with_closed m c (below until samples) s ≡ below next (with_closed m c (below until samples)) s
    by (inl lt) = sym (below_before (with_closed m c (below until samples)) next s lt)
    by (inr from) =
        closed_run_before m c.rest (with_closed_run m c.first (below until samples)) next s rest from
        ∙ closed_run_before m c.first (below until samples) next s first from ∙ below_from samples until s (omega arith)
        ∙ sym (below_from (with_closed m c (below until samples)) next s from)

-- all but the windows
abbrev pub Beside : Past → DeciderState → Type 0
Beside past d = IsPanicOf d.panic (map (judged_of d.spec) past.decisions) × IsDelayOf d.delay (map asked_of past.decisions) × (d.zero.standing ≡ past.standing) × (d.reached ≡ past.reached)

pub beside : (d : DeciderState) (past : Past) (until : ℕ) → IsDeciderOf d past until → Beside past d
beside d past until stands = (stands.panic, stands.delay, stands.standing, stands.reached)

-- what a record of one run of seconds gives
pub record Records (old new : DeciderState) (run : Option Run) : Type 0 where
  pub stable : (samples : Samples) → IsWindowOf old.stable samples → IsWindowOf new.stable (with_closed_run old.spec.metric run samples)
  pub panic_window : (samples : Samples) → IsWindowOf old.panic_window samples → IsWindowOf new.panic_window (with_closed_run old.spec.metric run samples)
  pub kept : new ≡ record old { stable = new.stable; panic_window = new.panic_window }

pub closed_stands : ((w : WindowState) (f g : Samples) → ((s : ℕ) → f s ≡ g s) → IsWindowOf w f → IsWindowOf w g)
    → (old mid new : DeciderState) (c : Closed) → Records old mid c.first → Records mid new c.rest
    → (past : Past) (until next : ℕ) → until ≤ next → IsOverAt next c.first → IsOverAt next c.rest → IsDeciderOf old past until
    → IsDeciderOf new (record past { samples = with_closed old.spec.metric c (below until past.samples) }) next
closed_stands same old mid new c first rest past until next le over_first over_rest stands =
    let m = old.spec.metric in
    let f = below until past.samples in
    let g = with_closed m c f in
    let inside = closed_below m c past.samples until next le over_first over_rest in
    let P : DeciderState → Type 0 = Beside past in
    let kept : Beside past new = subst P (sym rest.kept) (subst P (sym first.kept) (beside old past until stands)) in
    let metric : mid.spec.metric ≡ m = ap (λ (d : DeciderState). d.spec.metric) first.kept in
    let stable : IsWindowOf new.stable g = subst (λ (k : Metric). IsWindowOf new.stable (with_closed_run k c.rest (with_closed_run m c.first f))) metric (rest.stable _ (first.stable f stands.stable)) in
    let panic_window : IsWindowOf new.panic_window g =
    subst (λ (k : Metric). IsWindowOf new.panic_window (with_closed_run k c.rest (with_closed_run m c.first f))) metric (rest.panic_window _ (first.panic_window f stands.panic_window)) in
    record {
      stable = same new.stable g (below next g) inside stable;
      panic_window = same new.panic_window g (below next g) inside panic_window;
      panic = kept.0;
      delay = kept.1;
      standing = kept.2;
      reached = kept.3;
    }

-- ---- averages

-- an average of no later second is that of all samples
pub average_below : ((f g : Samples) (n end : ℕ) → ((s : ℕ) → s < end → f s ≡ g s) → window_average f n end ≡ window_average g n end)
    → (samples : Samples) (until n end : ℕ) → end ≤ until → window_average (below until samples) n end ≡ window_average samples n end
average_below law samples until n end le = law (below until samples) samples n end (λ s lt. below_before samples until s (omega arith))

module _ (law : (f g : Samples) (n end : ℕ) → ((s : ℕ) → s < end → f s ≡ g s) → window_average f n end ≡ window_average g n end)
    (d : DeciderState) (past : Past) (until end : ℕ) (le : end ≤ until) (stands : IsDeciderOf d past until) (average : Option Frac) where
  seen : (m n : ℕ) → m ≡ n → average ≡ window_average (below until past.samples) m end → average ≡ window_average past.samples n end
  seen m n e h = h ∙ ap (λ k. window_average (below until past.samples) k end) e ∙ average_below law past.samples until n end le

  pub stable_seen : d.stable.seconds ≡ d.spec.stable_s → ((samples : Samples) → IsWindowOf d.stable samples → average ≡ window_average samples d.stable.seconds end)
      → average ≡ window_average past.samples d.spec.stable_s end
  stable_seen e value = seen d.stable.seconds d.spec.stable_s e (value (below until past.samples) stands.stable)

  pub panic_seen : d.panic_window.seconds ≡ d.spec.panic_s → ((samples : Samples) → IsWindowOf d.panic_window samples → average ≡ window_average samples d.panic_window.seconds end)
      → average ≡ window_average past.samples d.spec.panic_s end
  panic_seen e value = seen d.panic_window.seconds d.spec.panic_s e (value (below until past.samples) stands.panic_window)

-- there is one proof that a fraction is an average
pub average_prop : (f : Frac) → IsProp (IsAverage f)
average_prop f = λ p q. λ i. record { den = le_prop p.den q.den i; value = le_prop p.value q.value i }

pub if_average_prop : (average : Option Frac) → IsProp (IfSome average IsAverage)
if_average_prop None = Unit-prop
if_average_prop (Some f) = average_prop f

-- ---- samples that agree

below_same : (f g : Samples) (until : ℕ) → ((s : ℕ) → s < until → f s ≡ g s) → (s : ℕ) → below until f s ≡ below until g s
below_same f g until same s = by (cases_lt s until)
  where
    by : (s < until) ⊎ (until ≤ s) → below until f s ≡ below until g s
    by (inl lt) = below_before f until s lt ∙ same s lt ∙ sym (below_before g until s lt)
    by (inr le) = below_from f until s le ∙ sym (below_from g until s le)

pub stands_same : ((w : WindowState) (f g : Samples) → ((s : ℕ) → f s ≡ g s) → IsWindowOf w f → IsWindowOf w g)
    → (d : DeciderState) (past : Past) (until : ℕ) (samples : Samples) → ((s : ℕ) → s < until → past.samples s ≡ samples s)
    → IsDeciderOf d past until → IsDeciderOf d (record past { samples = samples }) until
stands_same same d past until samples agree stands =
    let inside = below_same past.samples samples until agree in
    record {
      stable = same d.stable (below until past.samples) (below until samples) inside stands.stable;
      panic_window = same d.panic_window (below until past.samples) (below until samples) inside stands.panic_window;
      panic = stands.panic;
      delay = stands.delay;
      standing = stands.standing;
      reached = stands.reached;
    }
