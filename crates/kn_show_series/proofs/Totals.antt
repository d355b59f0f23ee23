-- What rows say, counted, is what the last line of a report counts.
use Rattle.std.proofs.Common.{◌≡◌, ◌+◌, ℕ, Bool, true, false, cond, [], ◌∷◌, length, Option, refl, ◌∙◌, arith}
use Rattle.std.specs.List.{sum_by}
use Rattle.std.proofs.lemmas.List.Sums.{sum_by-cons}
use Rattle.kn_event.specs.declared.entry.Entry.{Entry}
use Rattle.kn_event.specs.declared.entry.Row.{Row}
use Rattle.kn_event.specs.declared.entry.Row.TheVariants as row
use Rattle.kn_trace.specs.Report.{is_admit, is_cancel, is_decision, is_direct, is_expire, is_failure, is_finish, is_loss, is_overload, is_queue_full, totals}
use Rattle.kn_trace.specs.Rows.{arrived_by, begun_by, decision_by, ended_by, expired_by, refused_by}
use Rattle.kn_trace.specs.Trace.{Trace, each_row}
use Rattle.kn_record.specs.Rows.{counted}
use Rattle.kn_show_series.specs.Laws.{arrived_in, ended_in, refused_in}
use Rattle.kn_show_series.specs.Steps.{failed_by}
use Rattle.kn_show_series.proofs.Lists.{length-each_row-cons}
use Rattle.kn_show_series.proofs.Summed.{IsSaidByShown, sum_both}

-- ---- a row without a line says none of it

pub arrived_shown : IsSaidByShown arrived_by
arrived_shown row.NoData h = refl
arrived_shown _ h = absurd (cc)

pub refused_shown : IsSaidByShown refused_by
refused_shown row.NoData h = refl
refused_shown _ h = absurd (cc)

pub ended_shown : IsSaidByShown ended_by
ended_shown row.NoData h = refl
ended_shown _ h = absurd (cc)

pub failed_shown : IsSaidByShown failed_by
failed_shown row.NoData h = refl
failed_shown _ h = absurd (cc)

pub expired_shown : IsSaidByShown expired_by
expired_shown row.NoData h = refl
expired_shown _ h = absurd (cc)

pub decision_shown : IsSaidByShown decision_by
decision_shown row.NoData h = refl
decision_shown _ h = absurd (cc)

pub begun_shown : IsSaidByShown begun_by
begun_shown row.NoData h = refl
begun_shown _ h = absurd (cc)

-- ---- counts

abbrev bit : Bool → ℕ
bit b = cond b 1 0

abbrev in_row : (Row → Bool) → Entry → ℕ
in_row t x = bit (t x.row)

by_kind : {X : Type 0} (f : Row → Option X) (g : Row → ℕ) → ((x : Row) → counted (f x) ≡ g x) → (c : Trace) → length (each_row f c) ≡ sum_by (λ (x : Entry). g x.row) c
by_kind f g same [] = refl
by_kind f g same (x ∷ c) = omega (arith, length-each_row-cons f x c, sum_by-cons (λ (y : Entry). g y.row) x c, same x.row, by_kind f g same c)

pub refused-total : (c : Trace) → length (each_row refused_by c) ≡ refused_in (totals c)
unfolding totals
refused-total c = by_kind refused_by (λ x. bit (is_queue_full x) + bit (is_overload x)) kinds c ∙ sum_both (in_row is_queue_full) (in_row is_overload) c
  where
    kinds : (x : Row) → counted (refused_by x) ≡ bit (is_queue_full x) + bit (is_overload x)
    kinds (row.QueueFull r pod) = omega arith
    kinds (row.Overload r) = omega arith
    kinds _ = omega arith

pub arrived-total : (c : Trace) → length (each_row arrived_by c) ≡ arrived_in (totals c)
unfolding totals
arrived-total c =
    omega (
      arith,
      by_kind arrived_by (λ x. (bit (is_admit x) + bit (is_direct x)) + (bit (is_queue_full x) + bit (is_overload x))) kinds c,
      sum_both (λ (x : Entry). in_row is_admit x + in_row is_direct x) (λ (x : Entry). in_row is_queue_full x + in_row is_overload x) c,
      sum_both (in_row is_admit) (in_row is_direct) c,
      sum_both (in_row is_queue_full) (in_row is_overload) c,
    )
  where
    kinds : (x : Row) → counted (arrived_by x) ≡ (bit (is_admit x) + bit (is_direct x)) + (bit (is_queue_full x) + bit (is_overload x))
    kinds (row.Admit r tag) = omega arith
    kinds (row.Direct r p) = omega arith
    kinds (row.QueueFull r pod) = omega arith
    kinds (row.Overload r) = omega arith
    kinds _ = omega arith

pub ended-total : (c : Trace) → length (each_row ended_by c) ≡ ended_in (totals c)
unfolding totals
ended-total c =
    omega (
      arith,
      by_kind ended_by (λ x. ((bit (is_finish x) + bit (is_failure x)) + (bit (is_expire x) + bit (is_cancel x))) + bit (is_loss x)) kinds c,
      sum_both (λ (x : Entry). (in_row is_finish x + in_row is_failure x) + (in_row is_expire x + in_row is_cancel x)) (in_row is_loss) c,
      sum_both (λ (x : Entry). in_row is_finish x + in_row is_failure x) (λ (x : Entry). in_row is_expire x + in_row is_cancel x) c,
      sum_both (in_row is_finish) (in_row is_failure) c,
      sum_both (in_row is_expire) (in_row is_cancel) c,
    )
  where
    kinds : (x : Row) → counted (ended_by x) ≡ ((bit (is_finish x) + bit (is_failure x)) + (bit (is_expire x) + bit (is_cancel x))) + bit (is_loss x)
    kinds (row.Finish r true) = omega arith
    kinds (row.Finish r false) = omega arith
    kinds (row.Expire r) = omega arith
    kinds (row.Cancel r) = omega arith
    kinds (row.LostRequest r) = omega arith
    kinds _ = omega arith

pub failed-total : (c : Trace) → length (each_row failed_by c) ≡ (totals c).failed
unfolding totals
failed-total c = by_kind failed_by (λ x. bit (is_failure x)) kinds c
  where
    kinds : (x : Row) → counted (failed_by x) ≡ bit (is_failure x)
    kinds (row.Finish r true) = omega arith
    kinds (row.Finish r false) = omega arith
    kinds _ = omega arith

pub expired-total : (c : Trace) → length (each_row expired_by c) ≡ (totals c).expired
unfolding totals
expired-total c = by_kind expired_by (λ x. bit (is_expire x)) kinds c
  where
    kinds : (x : Row) → counted (expired_by x) ≡ bit (is_expire x)
    kinds (row.Expire r) = omega arith
    kinds _ = omega arith

pub decisions-total : (c : Trace) → length (each_row decision_by c) ≡ (totals c).decisions
unfolding totals
decisions-total c = by_kind decision_by (λ x. bit (is_decision x)) kinds c
  where
    kinds : (x : Row) → counted (decision_by x) ≡ bit (is_decision x)
    kinds (row.Decided d) = omega arith
    kinds _ = omega arith
