-- An event that is told a refusal: what it adds, and what stays.
use Rattle.std.specs.Prelude.{◌≡◌, Bool, true, false, ◌++◌, ◌∷◌, [], Some}
use Rattle.std.specs.List.{filter_map}
use Rattle.kn_event.specs.declared.entry.Row.{Row}
use Rattle.kn_event.specs.declared.event.Event.{Event}
use Rattle.kn_event.specs.declared.event.Told.{Told}
use Rattle.kn_event.specs.declared.event.Told.TheVariants as told
use Rattle.kn_event.specs.declared.revision.Spec.{Spec}
use Rattle.kn_trace.specs.Rows.{mode_by, phase_by}
use Rattle.kn_trace.specs.Trace.{Trace, each_row, entry}
use Rattle.kn_trace.specs.Scale.{decided_by, times_of, wanted}
use Rattle.kn_trace.specs.Events.{act_row, expiries, react, told_of}
use Rattle.kn_trace.specs.Laws.{is_refusal}
use Rattle.kn_record.specs.Admission.{pods}

abbrev pub is_told_refusal : Told → Bool
is_told_refusal (told.QueueFull r) = true
is_told_refusal (told.Overload r) = true
is_told_refusal (told.NotRunning r) = true
is_told_refusal (told.NotWaiting r) = true
is_told_refusal (told.NotStarting p) = true
is_told_refusal (told.NoPod p) = true
is_told_refusal _ = false

-- the act's row is the refusal x, and after the expiries it is all that the event adds
pub record AddsRefusal (s : Spec) (c : Trace) (e : Event) (x : Row) : Type 0 where
  pub is : act_row s (c ++ expiries s e.time c) e.act ≡ Some x
  pub refuses : is_refusal x ≡ true
  pub adds : react s c e ≡ expiries s e.time c ++ entry e.time x ∷ []

-- d has the pods of c, and each phase, mode and decision, with its time
pub record KeepsScale (s : Spec) (c d : Trace) : Type 0 where
  pub pods : pods d ≡ pods c
  pub phases : each_row phase_by d ≡ each_row phase_by c
  pub phase_times : times_of phase_by d ≡ times_of phase_by c
  pub modes : each_row mode_by d ≡ each_row mode_by c
  pub mode_times : times_of mode_by d ≡ times_of mode_by c
  pub decisions : filter_map decided_by d ≡ filter_map decided_by c
  pub wanted : wanted s d ≡ wanted s c

-- a refusal is told exactly where the act's row is one; then nothing else is added but expiries, and pods and scale stay
pub record RefusesByAnswer (s : Spec) (c : Trace) (e : Event) : Type 0 where
  pub told : is_told_refusal (told_of s c e) ≡ true → (x : Row) × AddsRefusal s c e x
  pub row : (x : Row) → act_row s (c ++ expiries s e.time c) e.act ≡ Some x → is_refusal x ≡ true → is_told_refusal (told_of s c e) ≡ true
  pub keeps : is_told_refusal (told_of s c e) ≡ true → KeepsScale s c (c ++ react s c e)
