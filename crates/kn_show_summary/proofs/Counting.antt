-- The counts of a trace by one more row.
use Rattle.std.proofs.Common.{◌≡◌, ℕ, suc, ◌+◌, ◌<◌, ◌≤◌, take, drop, get_or, append_assoc, Bool, true, false, cond, List, [], ◌∷◌, ◌++◌, length, length-append, refl, sym, ap, ◌∙◌, add-zero, append-nil, arith}
use Rattle.std.specs.Prelude.{Option, None, Some}
use Rattle.std.specs.List.{cons_option, filter}
use Rattle.std.proofs.Math.Seq.{drop-cons}
use Rattle.std.proofs.lemmas.List.{take_more, take-append-drop}
use Rattle.std.proofs.lemmas.List.Elements.{filter_map-append}
use Rattle.std.proofs.lemmas.List.Sums.{sum_by_push}
use Rattle.kn_event.specs.declared.entry.Decision.{Decision}
use Rattle.kn_event.specs.declared.entry.Entry.{Entry}
use Rattle.kn_event.specs.declared.entry.Row.{Row}
use Rattle.kn_event.specs.declared.entry.Row.TheVariants as row
use Rattle.kn_event.specs.declared.revision.Spec.{Spec}
use Rattle.kn_trace.specs.Report.{is_admit, is_cancel, is_decision, is_direct, is_expire, is_failure, is_finish, is_loss, is_overload, is_queue_full, rows_with}
use Rattle.kn_trace.specs.Rows.{arrived_by, decision_by}
use Rattle.kn_trace.specs.Scale.{wanted}
use Rattle.kn_trace.specs.Trace.{Trace, arrivals, each_row}
use Rattle.kn_record.specs.Facts.{Facts}
use Rattle.kn_record.specs.Rows.{want_after}
use Rattle.kn_lives.specs.Lives.{by_row}
use Rattle.kn_show_summary.specs.Counted.{Counted, counted, decisions_where, is_change, is_create, is_in_panic, is_no_data, is_wake, more_where, wakes, wanted_changes, with_row}

rows_with-push : (test : Row → Bool) (c : Trace) (e : Entry) → rows_with test (c ++ e ∷ []) ≡ more_where (test e.row) (rows_with test c)
rows_with-push test c e = by_test (test e.row) refl
  where
    by_test : (b : Bool) → test e.row ≡ b → rows_with test (c ++ e ∷ []) ≡ more_where b (rows_with test c)
    by_test true h = sum_by_push (λ (x : Entry). cond (test x.row) 1 0) c e ∙ rw h refl
    by_test false h = sum_by_push (λ (x : Entry). cond (test x.row) 1 0) c e ∙ rw h (add-zero (rows_with test c))

-- ---- decisions

-- row by row over rows in two parts
by_row-append : {X : Type 0} (f : Trace → Entry → List X) (c xs ys : Trace) → by_row f c (xs ++ ys) ≡ by_row f c xs ++ by_row f (c ++ xs) ys
unfolding by_row
by_row-append f c [] ys = ap (λ (d : Trace). by_row f d ys) (sym (append-nil c))
by_row-append f c (x ∷ xs) ys =
    ap (λ (l : List _). f c x ++ l) (by_row-append f (c ++ x ∷ []) xs ys)
    ∙ sym (append_assoc (f c x) (by_row f (c ++ x ∷ []) xs) (by_row f ((c ++ x ∷ []) ++ xs) ys))
    ∙ ap (λ (d : Trace). (f c x ++ by_row f (c ++ x ∷ []) xs) ++ by_row f d ys) (append_assoc c (x ∷ []) xs)

abbrev more_decided : (ℕ → Decision → Bool) → ℕ → Option Decision → ℕ → ℕ
more_decided test before None n = n
more_decided test before (Some d) n = more_where (test before d) n

length-decided : (test : ℕ → Decision → Bool) (before : ℕ) (o : Option Decision) (n : ℕ) → n + length (filter (test before) (cons_option o [])) ≡ more_decided test before o n
length-decided test before None n = add-zero n
length-decided test before (Some d) n = by (test before d)
  where
    by : (b : Bool) → n + length (cond b (d ∷ []) []) ≡ more_where b n
    by true = omega arith
    by false = add-zero n

decisions-push : (test : ℕ → Decision → Bool) (s : Spec) (c : Trace) (e : Entry)
    → length (by_row (decisions_where test s) [] (c ++ e ∷ [])) ≡ more_decided test (wanted s c) (decision_by e.row) (length (by_row (decisions_where test s) [] c))
unfolding by_row
decisions-push test s c e =
    ap length (by_row-append (decisions_where test s) [] c (e ∷ []))
    ∙ length-append (by_row (decisions_where test s) [] c) (decisions_where test s c e ++ [])
    ∙ ap (λ (l : List Decision). length (by_row (decisions_where test s) [] c) + length l) (append-nil (decisions_where test s c e))
    ∙ length-decided test (wanted s c) (decision_by e.row) (length (by_row (decisions_where test s) [] c))

pub with_row-admitted : (x : Row) (t : Counted) → t.admitted ≤ (with_row x t).admitted
with_row-admitted (row.Admit r tag) t = omega arith
with_row-admitted (row.Finish r true) t = omega arith
with_row-admitted (row.Finish r false) t = omega arith
with_row-admitted _ t = omega arith

-- an entry between those before it and those behind it
pub split_at : (xs : Trace) (i : ℕ) (x : Entry) → i < length xs → x ≡ get_or xs i x → xs ≡ take i xs ++ x ∷ drop (suc i) xs
split_at xs i x h is =
    sym (take-append-drop i xs) ∙ ap (λ (l : Trace). take i xs ++ l) (drop-cons xs i x h ∙ ap (λ (y : Entry). y ∷ drop (suc i) xs) (sym is))

pub one_more : (c xs : Trace) (i : ℕ) (x : Entry) → i < length xs → x ≡ get_or xs i x → (c ++ take i xs) ++ x ∷ [] ≡ c ++ take (i + 1) xs
one_more c xs i x h is =
    append_assoc c (take i xs) (x ∷ []) ∙ ap (λ (l : Trace). c ++ l) (ap (λ (y : Entry). take i xs ++ y ∷ []) is ∙ sym (take_more xs i x h))

pub arrivals_front : (a b : Trace) → arrivals a ≤ arrivals (a ++ b)
unfolding arrivals
arrivals_front a b = omega (arith, ap length (filter_map-append (λ (e : Entry). arrived_by e.row) a b) ∙ length-append (each_row arrived_by a) (each_row arrived_by b))

module _ (facts : Facts) where
  open facts use {entries.{wanted-push}}

  pub counted-push : (s : Spec) (c : Trace) (e : Entry) → counted s (c ++ e ∷ []) ≡ with_row e.row (counted s c)
  unfolding counted wakes wanted_changes
  counted-push s c e =
      rw (
        rows_with-push is_admit c e,
        rows_with-push is_direct c e,
        rows_with-push is_queue_full c e,
        rows_with-push is_overload c e,
        rows_with-push is_finish c e,
        rows_with-push is_failure c e,
        rows_with-push is_expire c e,
        rows_with-push is_cancel c e,
        rows_with-push is_loss c e,
        rows_with-push is_no_data c e,
        rows_with-push is_create c e,
        rows_with-push is_decision c e,
        rows_with-push is_in_panic c e,
        decisions-push is_wake s c e,
        decisions-push is_change s c e,
        wanted-push s c e,
      )
      (by_row_of e.row (counted s c))
    where
      by_row_of : (x : Row) (t : Counted) → record {
        admitted = more_where (is_admit x) t.admitted;
        direct = more_where (is_direct x) t.direct;
        queue_full = more_where (is_queue_full x) t.queue_full;
        overload = more_where (is_overload x) t.overload;
        ok = more_where (is_finish x) t.ok;
        failed = more_where (is_failure x) t.failed;
        expired = more_where (is_expire x) t.expired;
        cancelled = more_where (is_cancel x) t.cancelled;
        lost = more_where (is_loss x) t.lost;
        no_data = more_where (is_no_data x) t.no_data;
        pods = more_where (is_create x) t.pods;
        decisions = more_where (is_decision x) t.decisions;
        panicking = more_where (is_in_panic x) t.panicking;
        wakes = more_decided is_wake t.wanted (decision_by x) t.wakes;
        changes = more_decided is_change t.wanted (decision_by x) t.changes;
        wanted = want_after (decision_by x) t.wanted;
      } ≡ with_row x t
      by_row_of (row.Finish r true) t = refl
      by_row_of (row.Finish r false) t = refl
      by_row_of _ t = refl

  -- the rows up to one, and that one
  pub counted_more : (s : Spec) (c xs : Trace) (i : ℕ) (d : Entry) → i < length xs → counted s (c ++ take (i + 1) xs) ≡ with_row (get_or xs i d).row (counted s (c ++ take i xs))
  counted_more s c xs i d h =
      ap (λ (m : Trace). counted s (c ++ m)) (take_more xs i d h)
      ∙ ap (counted s) (sym (append_assoc c (take i xs) (get_or xs i d ∷ [])))
      ∙ counted-push s (c ++ take i xs) (get_or xs i d)
