-- Counts, row by row.
use Rattle.std.proofs.Common.{◌≡◌, ◌+◌, ◌-◌, ◌^◌, ℕ, List, [], ◌∷◌, ◌++◌, ap, ◌∙◌, arith}
use Rattle.std.specs.Prelude.{min, max, sum}
use Rattle.std.proofs.lemmas.List.Sums.{fold-append, sum_by-append}
use Rattle.kn_event.specs.declared.entry.Entry.{Entry}
use Rattle.kn_trace.specs.Rows.{arrived_by, begun_by, decision_by, ended_by, expired_by, refused_by}
use Rattle.kn_trace.specs.Trace.{Trace}
use Rattle.kn_show_series.specs.Counting.{with_cap, with_row}
use Rattle.kn_show_series.specs.Steps.{counts_of, failed_by}
use Rattle.kn_show_series.proofs.Lists.{length-each_row_push}

cap_sum : (a b m : ℕ) → min (a + b) m ≡ min (min a m + b) m
cap_sum a b m = omega arith

capped_more : (ws v : List ℕ) (m : ℕ) → min (sum (ws ++ v)) m ≡ min (min (sum ws) m + sum v) m
capped_more ws v m = ap (λ n. min n m) (sum_by-append (λ n. n) ws v) ∙ cap_sum (sum ws) (sum v) m

-- the counts of some rows and their waits, with those of one row more
pub counts_more : (w : Trace) (ws v : List ℕ) (x : Entry) → with_cap (counts_of (w ++ x ∷ []) (ws ++ v)) ≡ with_row x.row v (with_cap (counts_of w ws))
unfolding counts_of
counts_more w ws v x =
    rw (
      length-each_row_push arrived_by w x,
      length-each_row_push refused_by w x,
      length-each_row_push ended_by w x,
      length-each_row_push failed_by w x,
      length-each_row_push expired_by w x,
      length-each_row_push decision_by w x,
      length-each_row_push begun_by w x,
      capped_more ws v (2 ^ 128 - 1),
      fold-append max 0 ws v,
    )
