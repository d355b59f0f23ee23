-- What follows from a trace, from its first row on.
use Rattle.std.proofs.Common.{◌≡◌, ℕ, ◌⊎◌, true, false, List, [], ◌∷◌, ◌++◌, get_or, sym, ap, ◌∙◌, append_assoc, append-nil}
use Rattle.std.specs.Prelude.{None}
use Rattle.kn_event.specs.declared.entry.Entry.{Entry}
use Rattle.kn_event.specs.declared.revision.Spec.{Spec}
use Rattle.kn_event.specs.Lists.{contains}
use Rattle.kn_trace.specs.Trace.{Trace, first_of, live_pods}
use Rattle.kn_trace.specs.Settling.{held_assignments, promotions, removals, settling}
use Rattle.kn_record.specs.declared.admission.Place.TheVariants as place
use Rattle.kn_record.specs.declared.admission.Request.{Request}
use Rattle.kn_record.specs.declared.admission.Pod.{Pod}
use Rattle.kn_record.specs.Admission.{Admission, placed_in, queues_at}
use Rattle.kn_record.specs.Made.{IsRecordOf}
use Rattle.kn_record.specs.Views.{has_free_seat_in, pod_numbers}
use Rattle.kn_record.specs.Walks.{promoting}
use Rattle.kn_table.specs.Moves.{Moves}
use Rattle.kn_throttle.specs.Kept.{can_run}
use Rattle.kn_throttle.specs.Pods.{AreAscending, pods_where}
use Rattle.kn_throttle.specs.Settling.{IsCalm}
use Rattle.kn_throttle.proofs.Dispatching.{less_assigned}
use Rattle.kn_throttle.proofs.Walking.{each_found, none_where, walk_none, where_none}

-- after these runs
abbrev followed : Spec → ℕ → Trace → List Entry → List Entry
followed s t c ran = (ran ++ held_assignments s t (c ++ ran)) ++ removals t ((c ++ ran) ++ held_assignments s t (c ++ ran))

settling-followed : (s : Spec) (t : ℕ) (c : Trace) (ps : List ℕ) → live_pods c ≡ ps → settling s t c ≡ followed s t c (promoting t ps c)
unfolding settling promoting
settling-followed s t c ps pods = ap (λ (qs : List ℕ). followed s t c (promotions t c qs)) pods

-- a run comes first
pub settling_run : (s : Spec) (t : ℕ) (e : Entry) (c : Trace) (ps : List ℕ) → live_pods c ≡ ps → live_pods (c ++ e ∷ []) ≡ ps → promoting t ps c ≡ e ∷ promoting t ps (c ++ e ∷ []) → settling s t c ≡ e ∷ settling s t (c ++ e ∷ [])
settling_run s t e c ps pods after run =
    settling-followed s t c ps pods ∙ ap (followed s t c) run ∙ later (promoting t ps (c ++ e ∷ []))
    ∙ ap (λ (es : List Entry). e ∷ es) (sym (settling-followed s t (c ++ e ∷ []) ps after))
  where
    later : (ran : List Entry) → followed s t c (e ∷ ran) ≡ e ∷ followed s t (c ++ e ∷ []) ran
    later ran = ap (λ (d : Trace). e ∷ ((ran ++ held_assignments s t d) ++ removals t (d ++ held_assignments s t d))) (sym (append_assoc c (e ∷ []) ran))

-- nobody runs
settling-calm : (s : Spec) (t : ℕ) (c : Trace) (ps : List ℕ) → live_pods c ≡ ps → promoting t ps c ≡ [] → settling s t c ≡ held_assignments s t c ++ removals t (c ++ held_assignments s t c)
settling-calm s t c ps pods calm =
    settling-followed s t c ps pods ∙ ap (followed s t c) calm
    ∙ ap (λ (d : Trace). held_assignments s t d ++ removals t (d ++ held_assignments s t d)) (append-nil c)

-- an assignment comes first
pub settling_assign : (s : Spec) (t : ℕ) (e : Entry) (c : Trace) (ps : List ℕ) → live_pods c ≡ ps → live_pods (c ++ e ∷ []) ≡ ps → promoting t ps c ≡ [] → promoting t ps (c ++ e ∷ []) ≡ []
    → held_assignments s t c ≡ e ∷ held_assignments s t (c ++ e ∷ []) → settling s t c ≡ e ∷ settling s t (c ++ e ∷ [])
settling_assign s t e c ps pods after calm still assign =
    settling-calm s t c ps pods calm ∙ ap (λ (gave : List Entry). gave ++ removals t (c ++ gave)) assign ∙ later (held_assignments s t (c ++ e ∷ []))
    ∙ ap (λ (es : List Entry). e ∷ es) (sym (settling-calm s t (c ++ e ∷ []) ps after still))
  where
    later : (gave : List Entry) → (e ∷ gave) ++ removals t (c ++ e ∷ gave) ≡ e ∷ (gave ++ removals t ((c ++ e ∷ []) ++ gave))
    later gave = ap (λ (d : Trace). e ∷ (gave ++ removals t d)) (sym (append_assoc c (e ∷ []) gave))

-- nobody is dispatched
pub settling_rest : (s : Spec) (t : ℕ) (c : Trace) (ps : List ℕ) → live_pods c ≡ ps → promoting t ps c ≡ [] → held_assignments s t c ≡ [] → settling s t c ≡ removals t c
settling_rest s t c ps pods calm none =
    settling-calm s t c ps pods calm ∙ ap (λ (gave : List Entry). gave ++ removals t (c ++ gave)) none ∙ ap (removals t) (append-nil c)

-- ---- where no pod can run one

pub calm_where : ((s : Spec) (a : Admission) (c : Trace) (t p : ℕ) (ps : List ℕ) → IsRecordOf a c → contains p (pod_numbers a.pods) ≡ true → (first_of (placed_in (queues_at p) a.live) ≡ None) ⊎ (has_free_seat_in a p ≡ false) → promoting t (p ∷ ps) c ≡ promoting t ps c)
    → (s : Spec) (a : Admission) → AreAscending a.pods → first_of (pods_where (can_run a.live) a.pods) ≡ None → IsCalm a
calm_where promoted s a rise none = record { pods = none; rows = λ c t h. walk_none promoted s a c t a.pods h (each_found a.pods rise) (none_where (can_run a.live) a.pods none) }

-- so it is after an assignment
pub still_none : (r n : ℕ) (old new : List Request) (all : List Pod) → Moves r place.Held (place.Running n true) old new → first_of (pods_where (can_run old) all) ≡ None → first_of (pods_where (can_run new) all) ≡ None
still_none r n old new all m none =
    ap (λ (ps : List ℕ). first_of ps) (where_none (can_run new) all (λ k d h. less_assigned r n old new m (get_or all k d) (none_where (can_run old) all none k d h)))
