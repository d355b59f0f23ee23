-- One more entry, and the counts of a trace.
use Rattle.std.proofs.Common.{◌≡◌, ◌+◌, ℕ, Bool, true, false, [], ◌∷◌, ◌++◌, refl, sym, ap, ◌∙◌, cond, add-zero, length, take, get_or, append_assoc, ◌<◌, ◌≤◌, List}
use Rattle.std.proofs.lemmas.List.{take_more}
use Rattle.std.proofs.lemmas.List.Sums.{sum_by_push}
use Rattle.kn_event.specs.declared.entry.Entry.{Entry}
use Rattle.kn_event.specs.declared.entry.Row.{Row}
use Rattle.kn_event.specs.declared.entry.Row.TheVariants as row
use Rattle.kn_event.specs.EntryLine.{entry_text}
use Rattle.kn_trace.specs.Trace.{Trace, entry}
use Rattle.kn_trace.specs.Report.{Totals, totals, rows_with, is_admit, is_direct, is_assign, is_finish, is_failure, is_expire, is_cancel, is_queue_full, is_overload, is_decision, is_loss}
use Rattle.kn_report.specs.Frequent.{CountsEntry, PutsRow}
use Rattle.kn_report.specs.Tally.{Counted, CountsRow, with_row}

more_where : Bool → ℕ → ℕ
more_where true n = n + 1
more_where false n = n

rows_with-push : (test : Row → Bool) (c : Trace) (e : Entry) → rows_with test (c ++ e ∷ []) ≡ more_where (test e.row) (rows_with test c)
unfolding more_where
rows_with-push test c e = by_test (test e.row) refl
  where
    by_test : (b : Bool) → test e.row ≡ b → rows_with test (c ++ e ∷ []) ≡ more_where b (rows_with test c)
    by_test true h = sum_by_push (λ (x : Entry). cond (test x.row) 1 0) c e ∙ rw h refl
    by_test false h = sum_by_push (λ (x : Entry). cond (test x.row) 1 0) c e ∙ rw h (add-zero (rows_with test c))

pub totals-push : (c : Trace) (e : Entry) → totals (c ++ e ∷ []) ≡ with_row e.row (totals c)
unfolding totals more_where
totals-push c e =
    rw (
      rows_with-push is_admit c e,
      rows_with-push is_direct c e,
      rows_with-push is_assign c e,
      rows_with-push is_finish c e,
      rows_with-push is_failure c e,
      rows_with-push is_expire c e,
      rows_with-push is_cancel c e,
      rows_with-push is_queue_full c e,
      rows_with-push is_overload c e,
      rows_with-push is_decision c e,
      rows_with-push is_loss c e,
    )
    (by_row e.row (totals c))
  where
    by_row : (x : Row) (t : Totals) → record {
      admitted = more_where (is_admit x) t.admitted;
      direct = more_where (is_direct x) t.direct;
      assigned = more_where (is_assign x) t.assigned;
      finished = more_where (is_finish x) t.finished;
      failed = more_where (is_failure x) t.failed;
      expired = more_where (is_expire x) t.expired;
      cancelled = more_where (is_cancel x) t.cancelled;
      queue_full = more_where (is_queue_full x) t.queue_full;
      overload = more_where (is_overload x) t.overload;
      decisions = more_where (is_decision x) t.decisions;
      lost = more_where (is_loss x) t.lost;
    } ≡ with_row x t
    by_row (row.Finish r true) t = refl
    by_row (row.Finish r false) t = refl
    by_row _ t = refl

-- the entries up to one, and that one
pub totals_more : (c xs : Trace) (i : ℕ) (d : Entry) → i < length xs → totals (c ++ take (i + 1) xs) ≡ with_row (get_or xs i d).row (totals (c ++ take i xs))
totals_more c xs i d h =
    ap (λ (m : Trace). totals (c ++ m)) (take_more xs i d h)
    ∙ ap totals (sym (append_assoc c (take i xs) (get_or xs i d ∷ [])))
    ∙ totals-push (c ++ take i xs) (get_or xs i d)

-- an entry that was counted, and the trace with it
pub counts_entry : (e : Entry) (old new : Counted) → CountsRow e.row old new → CountsEntry e old new
counts_entry e old new h = record {
  rows = h.rows;
  totals = λ c is. h.totals ∙ ap (with_row e.row) is ∙ sym (totals-push c e);
}

-- a row that was put, and counted
pub puts_row : (time : ℕ) (row : Row) (old new : Counted) (before after : List ℕ) → after ≡ before ++ entry_text (entry time row)
    → length after ≤ length before + 128 → CountsRow row old new → PutsRow time row old new before after
puts_row time row old new before after said short counts = record {
  text = said;
  short = short;
  counted = counts_entry (entry time row) old new counts;
}
