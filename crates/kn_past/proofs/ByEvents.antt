-- Loads, samples and averages of every trace that some events made in order, and by one event.
use Rattle.std.proofs.Common.{◌≡◌, ℕ, ◌+◌, ◌*◌, ◌≤◌, length}
use Rattle.std.specs.Prelude.{Option, None, Some}
use Rattle.std.specs.Option.{IfSome}
use denote.Struct.Props.{props}
use Rattle.std.proofs.Math.Bridge.{le_prop}
use Rattle.std.proofs.Math.Logic.{∥∥₁_elim}
use Rattle.kn_event.specs.declared.revision.Metric.{Metric}
use Rattle.kn_event.specs.declared.revision.Spec.{Spec}
use Rattle.kn_event.specs.declared.units.Frac.{Frac}
use Rattle.kn_scaling.specs.Average.{IsAverage, window_average}
use Rattle.kn_trace.specs.Load.{load_in, samples}
use Rattle.kn_trace.specs.Rows.{ended_by, taken_by}
use Rattle.kn_trace.specs.Trace.{Trace, each_row, live}
use Rattle.kn_record.specs.Made.{IsMade}
use Rattle.kn_record.specs.Order.{AreTimesInOrder}
use Rattle.kn_record.specs.Facts.{Facts}
use Rattle.kn_past.specs.Loads.{after_sum}
use Rattle.kn_past.proofs.Balance.{balance, live_counted}
use Rattle.kn_past.proofs.Bounds.{average_most, load_most, value_most}
use Rattle.kn_past.proofs.Quiet.{load_whole}

same_number_prop : (a b : ℕ) → IsProp (a ≡ b)
same_number_prop a b = hlevel props

average_prop : (o : Option Frac) → IsProp (IfSome o IsAverage)
average_prop None = hlevel props
average_prop (Some a) = hlevel props

module _ (facts : Facts) (few_live : (s : Spec) (c : Trace) → IsMade s c → length (live c) ≤ 20000) where
  -- ---- what holds of every made trace with times in order, in at most one way, holds of every trace that events made

  pub history_balance : (s : Spec) (start clock : ℕ) (c : Trace) (n : ℕ) → ∥ IsMade s c ∥₁ → AreTimesInOrder start c clock → load_in c n + after_sum ended_by n c ≡ after_sum taken_by n c
  history_balance s start clock c n made times = ∥∥₁_elim made (same_number_prop (load_in c n + after_sum ended_by n c) (after_sum taken_by n c)) (λ m. balance facts s c start clock n m times)

  pub history_live : (s : Spec) (c : Trace) → ∥ IsMade s c ∥₁ → length (live c) + length (each_row ended_by c) ≡ length (each_row taken_by c)
  history_live s c made = ∥∥₁_elim made (same_number_prop (length (live c) + length (each_row ended_by c)) (length (each_row taken_by c))) (λ m. live_counted facts s c m)

  pub history_quiet : (s : Spec) (start clock : ℕ) (c : Trace) (n : ℕ) → ∥ IsMade s c ∥₁ → AreTimesInOrder start c clock → clock ≤ 1000 * n → load_in c n ≡ 1000 * length (live c)
  history_quiet s start clock c n made times le = ∥∥₁_elim made (same_number_prop (load_in c n) (1000 * length (live c))) (λ m. load_whole facts s c start clock n m times le)

  pub history_load : (s : Spec) (start clock : ℕ) (c : Trace) (n : ℕ) → ∥ IsMade s c ∥₁ → AreTimesInOrder start c clock → load_in c n ≤ 20000000
  history_load s start clock c n made times = ∥∥₁_elim made le_prop (λ m. (load_most facts few_live) s c start clock n m times)

  pub history_value : (s : Spec) (start clock : ℕ) (m : Metric) (c : Trace) (n value : ℕ) → ∥ IsMade s c ∥₁ → AreTimesInOrder start c clock → samples m c n ≡ Some value → value ≤ 1000000000
  history_value s start clock m c n value made times h = ∥∥₁_elim made le_prop (λ d. (value_most facts few_live) s m c start clock n value d times h)

  pub history_average : (s : Spec) (start clock : ℕ) (m : Metric) (c : Trace) (n end : ℕ) → ∥ IsMade s c ∥₁ → AreTimesInOrder start c clock → n ≤ 3600 → IfSome (window_average (samples m c) n end) IsAverage
  history_average s start clock m c n end made times hour = ∥∥₁_elim made (average_prop (window_average (samples m c) n end)) (λ d. (average_most facts few_live) s m c start clock n end d times hour)
