-- A revision that waited for its first Ready pod.
use Rattle.std.proofs.Common.{◌≡◌, ℕ, Bool, true, false, List, [], ◌∷◌, ◌++◌, refl, sym, subst, append_assoc, Some}
use Rattle.std.specs.Prelude.{◌&&◌}
use Rattle.kn_event.specs.declared.entry.Phase.TheVariants as phase
use Rattle.kn_event.specs.declared.entry.Row.{Row}
use Rattle.kn_event.specs.declared.entry.Row.TheVariants as row
use Rattle.kn_event.specs.declared.revision.Spec.{Spec}
use Rattle.kn_trace.specs.Events.{activation}
use Rattle.kn_trace.specs.Scale.{is_in_phase, phase_of, where_true}
use Rattle.kn_trace.specs.Trace.{Trace, created, draining, entry, is_empty, ready_pods, starting_pods}
use Rattle.kn_record.specs.Made.{IsMade, IsProper}
use Rattle.kn_laws.specs.Kinds.{is_act_row}
use Rattle.kn_pods.specs.Pods.{PodsState, ArePodsOf, after_row}
use Rattle.kn_scaler.specs.Rows.{ready_rows, says_scale}
use Rattle.kn_core.specs.Changes.{woken}
use Rattle.kn_core.proofs.Traces.{phase_same}

-- an act's own row is one of a Ready pod, or says nothing of the scale
pub act_says : (x : Row) → is_act_row x ≡ true → ((p : ℕ) → x ≡ row.Ready p → ⊥) → says_scale x ≡ false
act_says (row.Ready p) h other = absurd (other p refl)
act_says (row.Phase x) h other = absurd (cc)
act_says (row.Mode m) h other = absurd (cc)
act_says (row.Decided d) h other = absurd (cc)
act_says _ h other = refl

pub none_woken : (x : Row) (t : ℕ) (c : Trace) → ((p : ℕ) → x ≡ row.Ready p → ⊥) → woken (Some x) t c ≡ []
none_woken (row.Ready p) t c other = absurd (other p refl)
none_woken _ t c other = refl

middle : (xs ys : List ℕ) (p : ℕ) → is_empty (xs ++ p ∷ ys) ≡ false
middle [] ys p = refl
middle (x ∷ xs) ys p = refl

module _ (goes : (s : Spec) (c : Trace) (t : ℕ) (x : Row) (pods : PodsState) → IsMade s c → IsProper s c x → ArePodsOf pods c → ArePodsOf (after_row x pods) (c ++ entry t x ∷ [])) where
  -- a pod is Ready after its row
  pub ready_now : (s : Spec) (c : Trace) (t p : ℕ) → IsMade s c → IsProper s c (row.Ready p) → is_empty (ready_pods (c ++ entry t (row.Ready p) ∷ [])) ≡ false
  ready_now s c t p made proper =
      let pods : PodsState = record { created = created c; starting = starting_pods c; ready = ready_pods c; draining = draining c } in
      let after = goes s c t (row.Ready p) pods made proper (record { created = refl; starting = refl; ready = refl; draining = refl }) in
      subst (λ (ps : List ℕ). is_empty ps ≡ false) after.ready (middle _ _ p)

  pub woken_ready : (s : Spec) (c : Trace) (t p : ℕ) → IsMade s c → IsProper s c (row.Ready p)
      → woken (Some (row.Ready p)) t (c ++ entry t (row.Ready p) ∷ []) ≡ where_true (is_in_phase phase.Activating (phase_of c)) (entry t (row.Phase phase.Active) ∷ [])
  unfolding activation
  woken_ready s c t p made proper =
      rw (phase_same c (entry t (row.Ready p) ∷ []) (refl, tt), ready_now s c t p made proper) (by (is_in_phase phase.Activating (phase_of c)))
    where
      by : (b : Bool) → where_true (b && true) (entry t (row.Phase phase.Active) ∷ []) ≡ where_true b (entry t (row.Phase phase.Active) ∷ [])
      by true = refl
      by false = refl

  pub ready_rows_of : (s : Spec) (c : Trace) (t p : ℕ) → IsMade s c → IsProper s c (row.Ready p)
      → c ++ ready_rows t c p ≡ (c ++ entry t (row.Ready p) ∷ []) ++ woken (Some (row.Ready p)) t (c ++ entry t (row.Ready p) ∷ [])
  ready_rows_of s c t p made proper =
      rw (woken_ready s c t p made proper) (sym (append_assoc c (entry t (row.Ready p) ∷ []) (where_true (is_in_phase phase.Activating (phase_of c)) (entry t (row.Phase phase.Active) ∷ []))))
