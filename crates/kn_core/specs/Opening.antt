-- What a revision opens with: the rows before those of its pods, and how many pods.
use Rattle.std.specs.Prelude.{◌≡◌, ℕ, List, [], ◌∷◌, ◌++◌}
use Rattle.kn_event.specs.Revision.{AreInRange}
use Rattle.kn_event.specs.declared.entry.Entry.{Entry}
use Rattle.kn_event.specs.declared.entry.Row.TheVariants as row
use Rattle.kn_event.specs.declared.revision.Kind.{Kind}
use Rattle.kn_event.specs.declared.revision.Kind.TheVariants as kind
use Rattle.kn_event.specs.declared.revision.Spec.{Spec}
use Rattle.kn_scaling.specs.Zero.{opening_phase}
use Rattle.kn_trace.specs.Scale.{opening_scale, scale_rows}
use Rattle.kn_trace.specs.Trace.{Trace, entry}
use Rattle.kn_record.specs.Admission.{Admission}
use Rattle.kn_record.specs.Made.{IsMade, IsRecordOf}
use Rattle.kn_pods.specs.Pods.{PodsState, ArePodsOf}
use Rattle.kn_throttle.specs.State as throttle

-- the phase of a revision that scales
abbrev pub first_rows : Kind → Spec → ℕ → List Entry
first_rows (kind.Fixed n) s start = []
first_rows kind.Kpa s start = entry start (row.Phase (opening_phase (opening_scale s))) ∷ []

abbrev pub first_count : Kind → Spec → ℕ
first_count (kind.Fixed n) s = n
first_count kind.Kpa s = opening_scale s

-- a record and pods that stand for a trace of a revision with this limit
pub record AreBeginning (s : Spec) (limit : ℕ) (a : Admission) (kept : PodsState) (c : Trace) : Type 0 where
  pub ranges : AreInRange s
  pub cc : s.cc ≡ limit
  pub made : IsMade s c
  pub admission : IsRecordOf a c
  pub pods : ArePodsOf kept c

abbrev pub AreBeginningOfSome : ℕ → Admission → PodsState → Type 0
AreBeginningOfSome limit a pods = ∥ ((s : Spec) × (c : Trace) × AreBeginning s limit a pods c) ∥₁

-- so many pods were created: the log has their rows, and record and pods stand for the trace with them
pub record Creates (limit count time : ℕ) (old new : throttle.State) (was now : PodsState) (before after : List Entry) : Type 0 where
  pub logged : (s : Spec) (c : Trace) → AreBeginning s limit old.admission was c → after ≡ before ++ scale_rows s time c count
  pub admission : (s : Spec) (c : Trace) → AreBeginning s limit old.admission was c → IsRecordOf new.admission (c ++ scale_rows s time c count)
  pub pods : (s : Spec) (c : Trace) → AreBeginning s limit old.admission was c → ArePodsOf now (c ++ scale_rows s time c count)
