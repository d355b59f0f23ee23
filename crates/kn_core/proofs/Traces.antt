-- Rows that say nothing of a kind leave what the trace says of it.
use Rattle.std.proofs.Common.{◌≡◌, ℕ, Bool, true, false, List, [], ◌∷◌, ◌++◌, refl, sym, ap, ◌∙◌, append-nil, append_assoc, subst, Option, None}
use Rattle.std.proofs.lemmas.List.Elements.{filter_map-append}
use Rattle.kn_event.specs.declared.entry.Entry.{Entry}
use Rattle.kn_event.specs.declared.entry.Row.{Row}
use Rattle.kn_event.specs.declared.entry.Row.TheVariants as row
use Rattle.kn_event.specs.declared.revision.Spec.{Spec}
use Rattle.kn_trace.specs.Rows.{mode_by, phase_by}
use Rattle.kn_trace.specs.Scale.{mode_of, phase_of}
use Rattle.kn_trace.specs.Trace.{Trace, each_row, entry}
use Rattle.kn_record.specs.Made.{Holds, IsMade, IsProper}
use Rattle.kn_laws.specs.Kinds.{Each}
use Rattle.kn_pods.specs.Pods.{PodsState, ArePodsOf, after_row}
use Rattle.kn_scaler.specs.Rows.{says_scale}
use Rattle.kn_core.specs.State.{IsUnscaled}
use Rattle.kn_core.specs.Changes.{after_removal, after_removals}

-- a row that says nothing of phase and mode
abbrev pub is_unscaled_row : Row → Bool
is_unscaled_row (row.Phase x) = false
is_unscaled_row (row.Mode m) = false
is_unscaled_row _ = true

no_phase : (x : Row) → is_unscaled_row x ≡ true → phase_by x ≡ None
no_phase (row.Phase x) h = absurd (cc)
no_phase _ h = refl

no_mode : (x : Row) → is_unscaled_row x ≡ true → mode_by x ≡ None
no_mode (row.Mode m) h = absurd (cc)
no_mode _ h = refl

module _ {X : Type 0} (said : Row → Option X) (test : Row → Bool) (none : (x : Row) → test x ≡ true → said x ≡ None) where
  none_said : (es : Trace) → Each test es → each_row said es ≡ []
  none_said [] h = refl
  none_said (e ∷ es) h = rw (none e.row h.0) (none_said es h.1)

  pub same_said : (c es : Trace) → Each test es → each_row said (c ++ es) ≡ each_row said c
  same_said c es h = filter_map-append (λ (e : Entry). said e.row) c es ∙ ap (λ xs. each_row said c ++ xs) (none_said es h) ∙ append-nil (each_row said c)

pub phase_same : (c es : Trace) → Each is_unscaled_row es → phase_of (c ++ es) ≡ phase_of c
unfolding phase_of
phase_same c es each = rw (same_said phase_by is_unscaled_row no_phase c es each) refl

-- so a revision that doesn't scale goes on
pub unscaled_more : (s : Spec) (c es : Trace) → Each is_unscaled_row es → IsUnscaled s c → IsUnscaled s (c ++ es)
unfolding phase_of mode_of
unscaled_more s c es each h = record {
  fixed = h.fixed;
  phase = rw (same_said phase_by is_unscaled_row no_phase c es each) h.phase;
  mode = rw (same_said mode_by is_unscaled_row no_mode c es each) h.mode;
}

pub says_unscaled : (x : Row) → says_scale x ≡ false → is_unscaled_row x ≡ true
says_unscaled (row.Phase x) h = absurd (cc)
says_unscaled (row.Mode m) h = absurd (cc)
says_unscaled _ h = refl

-- ---- proper rows, one after the other

-- the pods after rows of all kinds
abbrev pub after_rows : List Entry → PodsState → PodsState
after_rows [] state = state
after_rows (e ∷ es) state = after_rows es (after_row e.row state)

module _ (makes : (s : Spec) (c : Trace) (t : ℕ) (x : Row) → IsMade s c → IsProper s c x → IsMade s (c ++ entry t x ∷ []))
    (goes : (s : Spec) (c : Trace) (t : ℕ) (x : Row) (pods : PodsState) → IsMade s c → IsProper s c x → ArePodsOf pods c → ArePodsOf (after_row x pods) (c ++ entry t x ∷ [])) where
  pub rows_made : (s : Spec) (c es : Trace) → IsMade s c → Holds (IsProper s) c es → IsMade s (c ++ es)
  rows_made s c [] made h = subst (IsMade s) (sym (append-nil c)) made
  rows_made s c (e ∷ es) made h = subst (IsMade s) (append_assoc c (e ∷ []) es) (rows_made s (c ++ e ∷ []) es (makes s c e.time e.row made h.0) h.1)

  pub rows_pods : (s : Spec) (c es : Trace) (pods : PodsState) → IsMade s c → Holds (IsProper s) c es → ArePodsOf pods c → ArePodsOf (after_rows es pods) (c ++ es)
  rows_pods s c [] pods made h stands = subst (ArePodsOf pods) (sym (append-nil c)) stands
  rows_pods s c (e ∷ es) pods made h stands =
      subst (ArePodsOf (after_rows es (after_row e.row pods))) (append_assoc c (e ∷ []) es)
      (rows_pods s (c ++ e ∷ []) es (after_row e.row pods) (makes s c e.time e.row made h.0) h.1 (goes s c e.time e.row pods made h.0 stands))

-- rows that change pods only where they remove them
pub removals_alone : (test : Row → Bool) → ((x : Row) (pods : PodsState) → test x ≡ true → after_removal x pods ≡ after_row x pods) → (es : Trace) (pods : PodsState) → Each test es → after_removals es pods ≡ after_rows es pods
removals_alone test same [] pods h = refl
removals_alone test same (e ∷ es) pods h = rw (same e.row pods h.0) (removals_alone test same es (after_row e.row pods) h.1)

-- rows that leave pods
pub pods_alone : (test : Row → Bool) → ((x : Row) (pods : PodsState) → test x ≡ true → after_row x pods ≡ pods) → (es : Trace) (pods : PodsState) → Each test es → after_rows es pods ≡ pods
pods_alone test same [] pods h = refl
pods_alone test same (e ∷ es) pods h = rw (same e.row pods h.0) (pods_alone test same es pods h.1)
