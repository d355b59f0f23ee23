-- What a revision opens with.
use Rattle.std.proofs.Common.{◌≡◌, ℕ, ◌-◌, ◌≤◌, List, [], ◌∷◌, ◌++◌, map, length, zero, suc, refl, sym, ap, ◌∙◌, subst, arith, append-nil}
use Rattle.std.specs.List.{range_with_len}
use Rattle.std.proofs.lemmas.List.{take_all}
use Rattle.kn_event.specs.Revision.{AreInRange}
use Rattle.kn_event.specs.declared.entry.Entry.{Entry}
use Rattle.kn_event.specs.declared.entry.Phase.TheVariants as phase
use Rattle.kn_event.specs.declared.entry.Row.{Row}
use Rattle.kn_event.specs.declared.entry.Row.TheVariants as row
use Rattle.kn_event.specs.declared.revision.Kind.{Kind}
use Rattle.kn_event.specs.declared.revision.Kind.TheVariants as kind
use Rattle.kn_event.specs.declared.revision.Spec.{Spec}
use Rattle.kn_scaling.specs.Zero.{opening_phase}
use Rattle.kn_trace.specs.Events.{opening, opening_of}
use Rattle.kn_trace.specs.Scale.{creations, drain_order, mode_of, opening_scale, phase_of, scale_rows}
use Rattle.kn_trace.specs.Trace.{Trace, created, draining, entry, ready_pods, starting_pods}
use Rattle.kn_record.specs.Admission.{Admission, nothing_yet, stepped}
use Rattle.kn_record.specs.Made.{IsMade, IsProper, IsRecordOf}
use Rattle.kn_record.specs.Order.{AreTimed}
use Rattle.kn_laws.specs.Kinds.{Each}
use Rattle.kn_pods.specs.Pods.{PodsState, ArePodsOf, after_row}
use Rattle.kn_throttle.specs.State.{State, with_row}
use Rattle.kn_core.specs.Opening.{AreBeginning, first_count, first_rows}
use Rattle.kn_core.specs.State.{IsUnscaled, IsFixed}
use Rattle.kn_core.proofs.Ruling.{scale_same}
use Rattle.kn_core.proofs.Traces.{is_unscaled_row, unscaled_more}

pub timed_by_row : ((a : Admission) (clock t : ℕ) (x : Row) → AreTimed clock a → clock ≤ t → AreTimed t (stepped t x a))
    → (t : ℕ) (x : Row) (here new : State) → new ≡ with_row t x here → AreTimed t here.admission → AreTimed t new.admission
timed_by_row step t x here new e timed = subst (λ (y : State). AreTimed t y.admission) (sym e) (step here.admission t t x timed (omega arith))

-- ---- of a fixed revision

created_unscaled : (t limit : ℕ) (ps : List ℕ) → Each is_unscaled_row (map (λ p. entry t (row.Create p limit)) ps)
created_unscaled t limit [] = tt
created_unscaled t limit (p ∷ ps) = (refl, created_unscaled t limit ps)

nothing_unscaled : (s : Spec) → IsFixed s.kind → IsUnscaled s []
unfolding phase_of mode_of
nothing_unscaled s fixed = record { fixed = fixed; phase = refl; mode = refl }

pub opening_unscaled : (s : Spec) (t n : ℕ) → s.kind ≡ kind.Fixed n → IsUnscaled s (opening s t)
unfolding opening
opening_unscaled s t n e =
    subst (IsUnscaled s) (sym (ap (λ (k : Kind). opening_of k s t) e))
    (unscaled_more s [] (creations s t 0 n) (created_unscaled t s.cc (range_with_len 0 n)) (nothing_unscaled s (subst IsFixed (sym e) tt)))

-- ---- the rows

pub phase_some : (n : ℕ) → (n ≡ 0 → ⊥) → opening_phase n ≡ phase.Activating
phase_some zero some = absurd (some refl)
phase_some (suc n) some = refl

-- where no pod is there, a scale only creates
scale_of_none : (s : Spec) (t n : ℕ) → scale_rows s t [] n ≡ creations s t 0 n
unfolding scale_rows drain_order starting_pods ready_pods created
scale_of_none s t n =
    ap (λ (ps : List ℕ). creations s t 0 (n - 0) ++ map (λ p. entry t (row.Drain p)) ps) (take_all {A = ℕ} (0 - n) [] (omega arith))
    ∙ append-nil (creations s t 0 (n - 0))
    ∙ ap (λ (k : ℕ). creations s t 0 k) (omega arith)

opening_split : (k : Kind) (s : Spec) (t : ℕ) → opening_of k s t ≡ first_rows k s t ++ creations s t 0 (first_count k s)
opening_split (kind.Fixed n) s t = refl
opening_split kind.Kpa s t = refl

pub opening_rows : (s : Spec) (t n : ℕ) (pods : PodsState) → n ≡ first_count s.kind s → ArePodsOf pods [] → ArePodsOf pods (first_rows s.kind s t)
    → opening s t ≡ first_rows s.kind s t ++ scale_rows s t (first_rows s.kind s t) n
unfolding opening
opening_rows s t n pods count none first =
    opening_split s.kind s t
    ∙ ap (λ (es : List Entry). first_rows s.kind s t ++ es)
    (ap (λ (m : ℕ). creations s t 0 m) (sym count) ∙ sym (scale_of_none s t n) ∙ scale_same s t n pods [] (first_rows s.kind s t) none first)

pub nothing_created : (pods : PodsState) → ArePodsOf pods [] → pods.created ≡ 0
unfolding created
nothing_created pods h = h.created

pub nothing_drains : (pods : PodsState) → ArePodsOf pods [] → length pods.draining ≡ 0
unfolding draining
nothing_drains pods h = ap length h.draining

phase_same : (t : ℕ) (a : Admission) (n : ℕ) → stepped t (row.Phase (opening_phase n)) a ≡ a
unfolding stepped
phase_same t a n = refl

-- record and pods before the first pod
pub beginning : ((s : Spec) → IsRecordOf nothing_yet []) → ((s : Spec) (a : Admission) (c : Trace) (t : ℕ) (x : Row) → IsRecordOf a c → IsProper s c x → IsRecordOf (stepped t x a) (c ++ entry t x ∷ []))
    → ((s : Spec) (c : Trace) (t : ℕ) (x : Row) (pods : PodsState) → IsMade s c → IsProper s c x → ArePodsOf pods c → ArePodsOf (after_row x pods) (c ++ entry t x ∷ []))
    → (s : Spec) (t limit : ℕ) (a : Admission) (pods : PodsState) → AreInRange s → s.cc ≡ limit → a ≡ nothing_yet → ArePodsOf pods [] → AreBeginning s limit a pods (first_rows s.kind s t)
beginning nothing steps goes s t limit a pods ranges cc none kept = by s.kind
  where
    by : (k : Kind) → AreBeginning s limit a pods (first_rows k s t)
    by (kind.Fixed n) = record {
      ranges = ranges;
      cc = cc;
      made = record { rows = tt };
      admission = subst (λ (b : Admission). IsRecordOf b []) (sym none) (nothing s);
      pods = kept;
    }
    by kind.Kpa = record {
      ranges = ranges;
      cc = cc;
      made = record { rows = (tt, tt) };
      admission = subst (λ (b : Admission). IsRecordOf b (entry t (row.Phase (opening_phase (opening_scale s))) ∷ [])) (phase_same t nothing_yet (opening_scale s) ∙ sym none)
          (steps s nothing_yet [] t (row.Phase (opening_phase (opening_scale s))) (nothing s) tt);
      pods = goes s [] t (row.Phase (opening_phase (opening_scale s))) pods (record { rows = tt }) tt kept;
    }
