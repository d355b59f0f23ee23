-- What the proofs of this crate build on, of traces and of what is kept of them: each field is one fact.
use Rattle.std.specs.Prelude.{◌≡◌, ℕ, true, false, ◌<◌, ◌≤◌, ◌++◌, ◌||◌, nat_le, [], ◌∷◌, unwrap_or}
use Rattle.std.specs.List.{filter_map}
use Rattle.std.specs.Option.{option_or, option_to_list}
use Rattle.kn_event.specs.declared.entry.Entry.{Entry}
use Rattle.kn_event.specs.declared.revision.Metric.{Metric}
use Rattle.kn_event.specs.declared.revision.Spec.{Spec}
use Rattle.kn_scaling.specs.Average.{Samples}
use Rattle.kn_trace.specs.Load.{count_in, entries_before, has_ready_pod, load_in, samples}
use Rattle.kn_trace.specs.Rows.{mode_by, phase_by}
use Rattle.kn_trace.specs.Scale.{count_ready, decided_by, initial_reached, mode_of, mode_since, phase_of, phase_since, wanted}
use Rattle.kn_trace.specs.Trace.{Trace, is_empty}
use Rattle.kn_record.specs.Made.{IsMade}
use Rattle.kn_record.specs.Order.{AreTimesInOrder}
use Rattle.kn_past.specs.Changes.{leaves_pods, time_by, want_by}
use Rattle.kn_past.specs.Seconds.{AreFrom, end_of_second, sample_by}
use Rattle.kn_stats.specs.Changes.{arrived_count, load_by}
use Rattle.kn_window.specs.Stands.{WindowState, IsWindowOf}
use Rattle.kn_changes.specs.Changes.{change_of, changes_of}

-- what one more entry says
pub record EntryFacts : Type 0 where
  pub phase : (c : Trace) (e : Entry) → phase_of (c ++ e ∷ []) ≡ option_or (phase_by e.row) (phase_of c)
  pub mode : (c : Trace) (e : Entry) → mode_of (c ++ e ∷ []) ≡ unwrap_or (mode_by e.row) (mode_of c)
  pub wanted : (s : Spec) (c : Trace) (e : Entry) → wanted s (c ++ e ∷ []) ≡ unwrap_or (want_by e.row) (wanted s c)
  pub phase_since : (c : Trace) (e : Entry) → is_empty c ≡ false → phase_since (c ++ e ∷ []) ≡ unwrap_or (time_by phase_by e) (phase_since c)
  pub mode_since : (c : Trace) (e : Entry) → is_empty c ≡ false → mode_since (c ++ e ∷ []) ≡ unwrap_or (time_by mode_by e) (mode_since c)
  pub decisions : (c : Trace) (e : Entry) → filter_map decided_by (c ++ e ∷ []) ≡ filter_map decided_by c ++ option_to_list (decided_by e)
  pub reached : (s : Spec) (c : Trace) (e : Entry) → initial_reached s (c ++ e ∷ []) ≡ (initial_reached s c || nat_le s.initial (count_ready (c ++ e ∷ [])))
  pub reached_now : (s : Spec) (c : Trace) → nat_le s.initial (count_ready c) ≡ true → initial_reached s c ≡ true
  pub reached_stays : (s : Spec) (c : Trace) (e : Entry) → leaves_pods e.row ≡ true → initial_reached s (c ++ e ∷ []) ≡ initial_reached s c

-- the seconds of a trace, and its changes
pub record SecondFacts : Type 0 where
  pub same : (w : WindowState) (f g : Samples) → ((s : ℕ) → f s ≡ g s) → IsWindowOf w f → IsWindowOf w g
  pub later : (m : Metric) (c es : Trace) (s : ℕ) → AreFrom (end_of_second s) es → samples m (c ++ es) s ≡ samples m c s
  pub before : (c : Trace) (start clock second : ℕ) → AreTimesInOrder start c clock → clock < end_of_second second → entries_before (end_of_second second) c ≡ c
  pub sample : (m : Metric) (c : Trace) (second : ℕ) → samples m c second ≡ sample_by m (load_in c second) (count_in c second) (has_ready_pod (entries_before (end_of_second second) c))
  pub load_most : (s : Spec) (c : Trace) (start clock second : ℕ) → IsMade s c → AreTimesInOrder start c clock → load_in c second ≤ 20000000
  pub load : (s : Spec) (c : Trace) (start clock second : ℕ) → IsMade s c → AreTimesInOrder start c clock → load_by (changes_of c) second ≡ load_in c second
  pub count : (c : Trace) (second : ℕ) → arrived_count (changes_of c) second ≡ count_in c second
  pub more : (c : Trace) (e : Entry) → changes_of (c ++ e ∷ []) ≡ changes_of c ++ option_to_list (change_of c e)

pub record TraceFacts : Type 0 where
  pub entries : EntryFacts
  pub seconds : SecondFacts
