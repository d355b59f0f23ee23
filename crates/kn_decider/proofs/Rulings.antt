-- A decision by its parts.
use Rattle.std.proofs.Common.{◌≡◌, ℕ, Bool, refl, subst, List, ◌∷◌, map, None, Some, ℤ}
use Rattle.std.specs.Prelude.{unwrap_or}
use Rattle.kn_event.specs.declared.entry.Counts.{Counts}
use Rattle.kn_event.specs.declared.entry.Decision.{Decision}
use Rattle.kn_event.specs.declared.entry.Mode.{Mode}
use Rattle.kn_event.specs.declared.revision.Spec.{Spec}
use Rattle.kn_event.specs.declared.units.Frac.{Frac}
use Rattle.kn_scaling.specs.declared.panic.Judged.{Judged}
use Rattle.kn_scaling.specs.declared.zero.ZeroAnswer.{ZeroAnswer}
use Rattle.kn_scaling.specs.Average.{second_of, window_average}
use Rattle.kn_scaling.specs.Burst.{excess_burst, serving_mode}
use Rattle.kn_scaling.specs.Decide.{Past, Ruling, asked_of, decision_at, judged_of, no_load, one_request, ruling, stable_window_ms, wake_decision_at}
use Rattle.kn_scaling.specs.Delay.{asked_at, delayed_count}
use Rattle.kn_scaling.specs.Demand.{desired_counts}
use Rattle.kn_scaling.specs.Panic.{is_panicking, undelayed_count}
use Rattle.kn_scaling.specs.Zero.{bounded_count, zero_rule}
use Rattle.kn_panic.specs.Stands.{PanicState, IsPanicOf, judged_by}
use Rattle.kn_delay.specs.Stands.{DelayState, IsDelayOf}
use Rattle.kn_zero.specs.Zero.{ZeroState, with_answer, with_mode}
use Rattle.kn_decider.specs.Decider.{DeciderState, IsDeciderOf, with_ruling}

-- what the parts answer
pub record Parts : Type 0 where
  pub counts : Counts
  pub panicking : Bool
  pub undelayed : ℕ
  pub delayed : ℕ
  pub excess : ℤ
  pub bounded : ℕ
  pub answer : ZeroAnswer
  pub mode : Mode

module _ (spec : Spec) (past : Past) (time ready : ℕ) (stable panic : Frac) where
  abbrev judged : Counts → List Judged
  judged counts = judged_by time counts (stable_window_ms spec) ∷ map (judged_of spec) past.decisions

  -- each answer is that of its definition, by those before it
  pub record AreParts (p : Parts) : Type 0 where
    pub counts : p.counts ≡ desired_counts spec ready stable panic
    pub panicking : p.panicking ≡ is_panicking (judged p.counts)
    pub undelayed : p.undelayed ≡ undelayed_count (judged p.counts)
    pub delayed : p.delayed ≡ delayed_count spec.delay_s (asked_at (second_of time) p.undelayed ∷ map asked_of past.decisions)
    pub excess : p.excess ≡ excess_burst ready spec.total spec.burst panic
    pub bounded : p.bounded ≡ bounded_count spec past.reached p.delayed
    pub answer : p.answer ≡ zero_rule spec time ready p.bounded past.standing
    pub mode : p.mode ≡ serving_mode p.answer.want p.excess p.answer.phase

  abbrev pub decision_by : Parts → Decision
  decision_by p = record {
    stable = stable;
    panic = panic;
    ready = ready;
    dspc = p.counts.dspc;
    dppc = p.counts.dppc;
    over = p.counts.over;
    panicking = p.panicking;
    undelayed = p.undelayed;
    delayed = p.delayed;
    excess = p.excess;
    bounded = p.bounded;
    want = p.answer.want;
    applied = p.answer.applied;
    mode = p.mode;
  }

  abbrev ruling_by : Parts → Ruling
  ruling_by p = record { decision = decision_by p; phase = p.answer.phase }

  parts_ruled : (counts : Counts) (panicking : Bool) (undelayed delayed : ℕ) (excess : ℤ) (bounded : ℕ) (answer : ZeroAnswer) (mode : Mode)
      → counts ≡ desired_counts spec ready stable panic → panicking ≡ is_panicking (judged counts) → undelayed ≡ undelayed_count (judged counts)
      → delayed ≡ delayed_count spec.delay_s (asked_at (second_of time) undelayed ∷ map asked_of past.decisions)
      → excess ≡ excess_burst ready spec.total spec.burst panic → bounded ≡ bounded_count spec past.reached delayed
      → answer ≡ zero_rule spec time ready bounded past.standing → mode ≡ serving_mode answer.want excess answer.phase
      → ruling_by (record { counts = counts; panicking = panicking; undelayed = undelayed; delayed = delayed; excess = excess; bounded = bounded; answer = answer; mode = mode })
      ≡ ruling spec past time ready stable panic
  unfolding ruling
  parts_ruled counts panicking undelayed delayed excess bounded answer mode a b c d e f g h = rw (h, g, f, e, d, c, b, a) refl

  pub ruled : (p : Parts) → AreParts p → ruling_by p ≡ ruling spec past time ready stable panic
  ruled p is = parts_ruled p.counts p.panicking p.undelayed p.delayed p.excess p.bounded p.answer p.mode is.counts is.panicking is.undelayed is.delayed is.excess is.bounded is.answer is.mode

-- ---- what the decider stands for after it

module _ (old : DeciderState) (past : Past) (until time ready : ℕ) (stable panic : Frac) (p : Parts) (is : AreParts old.spec past time ready stable panic p) (stands : IsDeciderOf old past until)
    (new_panic : PanicState) (new_delay : DelayState) (new_zero : ZeroState) where
  pub stands_next : IsPanicOf new_panic (judged_by time p.counts (stable_window_ms old.spec) ∷ map (judged_of old.spec) past.decisions)
      → IsDelayOf new_delay (asked_at (second_of time) p.undelayed ∷ map asked_of past.decisions)
      → new_zero.standing ≡ with_mode time p.mode (with_answer time p.answer past.standing)
      → IsDeciderOf (record old { panic = new_panic; delay = new_delay; zero = new_zero }) (with_ruling time (ruling old.spec past time ready stable panic) past) until
  stands_next a b e =
      subst (λ (r : Ruling). IsDeciderOf (record old { panic = new_panic; delay = new_delay; zero = new_zero }) (with_ruling time r past) until) (ruled old.spec past time ready stable panic p is)
      (record {
        stable = stands.stable;
        panic_window = stands.panic_window;
        panic = subst (λ (counts : Counts). IsPanicOf new_panic (judged_by time counts (stable_window_ms old.spec) ∷ map (judged_of old.spec) past.decisions)) is.counts a;
        delay = b;
        standing = e;
        reached = stands.reached;
      })

-- ---- decisions of a tick

pub none_at : (spec : Spec) (past : Past) (time ready : ℕ) → None ≡ window_average past.samples spec.stable_s (second_of time) → decision_at spec past time ready ≡ None
unfolding decision_at
none_at spec past time ready e = rw (← e) refl

pub some_at : (spec : Spec) (past : Past) (time ready : ℕ) (stable panic : Frac) → Some stable ≡ window_average past.samples spec.stable_s (second_of time)
    → panic ≡ unwrap_or (window_average past.samples spec.panic_s (second_of time)) no_load → decision_at spec past time ready ≡ Some (ruling spec past time ready stable panic)
unfolding decision_at
some_at spec past time ready stable panic e f = rw (← e, f) refl

pub wake_at : (spec : Spec) (past : Past) (time ready : ℕ) (stable panic : Frac) → stable ≡ one_request → panic ≡ one_request → ruling spec past time ready stable panic ≡ wake_decision_at spec past time ready
unfolding wake_decision_at
wake_at spec past time ready stable panic e f = rw (e, f) refl
