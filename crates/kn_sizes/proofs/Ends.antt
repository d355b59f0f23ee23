-- How the live requests become fewer: each end takes one.
use Rattle.std.proofs.Common.{◌≡◌, ℕ, ◌+◌, ◌≤◌, true, [], ◌∷◌, ◌++◌, length, refl, arith, append-nil, append_assoc}
use Rattle.std.specs.Prelude.{Option, None, Some}
use Rattle.std.specs.List.{cons_option}
use Rattle.kn_event.specs.declared.entry.Entry.{Entry}
use Rattle.kn_event.specs.declared.entry.Row.{Row}
use Rattle.kn_event.specs.declared.entry.Row.TheVariants as row
use Rattle.kn_event.specs.declared.revision.Spec.{Spec}
use Rattle.kn_event.specs.Lists.{contains}
use Rattle.kn_trace.specs.Rows.{ended_by, taken_by}
use Rattle.kn_trace.specs.Trace.{Trace, entry, each_row, is_running, live, waiting}
use Rattle.kn_record.specs.Made.{Holds, IsNumbered, IsProper}
use Rattle.kn_record.specs.Rows.{counted}
use Rattle.kn_record.specs.Kept.{Kept}
use Rattle.kn_record.specs.Facts.{Facts}
use Rattle.kn_sizes.proofs.Counts.{live-fewer}

pub count-cons : (f : Row → Option ℕ) (e : Entry) (es : Trace) → length (each_row f (e ∷ es)) ≡ counted (f e.row) + length (each_row f es)
count-cons f e es = by (f e.row)
  where
    by : (o : Option ℕ) → length (cons_option o (each_row f es)) ≡ counted o + length (each_row f es)
    by None = omega arith
    by (Some r) = omega arith

module _ (facts : Facts) where
  open facts use {lists.{others-length}, views.{live-end}, members.{waiting_member, running_parts, is_live, live_distinct, at_pod_live, begun_taken}, proper.{Kept-push}}

  -- ---- by one row

  pub running_live : (c : Trace) (r : ℕ) → IsNumbered c → is_running c r ≡ true → contains r (live c) ≡ true
  running_live c r num h = let parts = running_parts c r h in is_live c r (begun_taken c r num parts.0) parts.1

  pub waiting_live : (c : Trace) (r : ℕ) → contains r (waiting c) ≡ true → contains r (live c) ≡ true
  waiting_live c r h = let parts = waiting_member c r h in is_live c r parts.0 parts.1.ended

  -- the end of a live request makes them one fewer
  end_counts : (c : Trace) (e : Entry) (r : ℕ) → IsNumbered c → contains r (live c) ≡ true → taken_by e.row ≡ None → ended_by e.row ≡ Some r → length (live (c ++ e ∷ [])) + 1 ≤ length (live c)
  end_counts c e r num there taken ends =
      let less = others-length r (live c) (live_distinct c num) there in
      rw (live-end c e r taken ends) (omega arith)

  -- a proper row adds the request that it takes in, and takes the one that it ends
  live-one : (s : Spec) (c : Trace) (t : ℕ) (x : Row) → IsNumbered c → IsProper s c x → length (live (c ++ entry t x ∷ [])) + counted (ended_by x) ≤ length (live c) + counted (taken_by x)
  live-one s c t (row.Finish r ok) num h = let less = end_counts c (entry t (row.Finish r ok)) r num (running_live c r num h) refl refl in omega arith
  live-one s c t (row.Expire r) num h = let less = end_counts c (entry t (row.Expire r)) r num (waiting_live c r h) refl refl in omega arith
  live-one s c t (row.Cancel r) num h = let less = end_counts c (entry t (row.Cancel r)) r num (waiting_live c r h) refl refl in omega arith
  live-one s c t (row.LostRequest r) num h = let less = end_counts c (entry t (row.LostRequest r)) r num (at_pod_live c h.0 r num h.1) refl refl in omega arith
  live-one s c t x num h = let less = live-fewer facts c (entry t x) in omega arith

  -- ---- by many

  -- so do many proper rows
  pub live-many : (s : Spec) (c es : Trace) → Kept s c → Holds (IsProper s) c es → length (live (c ++ es)) + length (each_row ended_by es) ≤ length (live c) + length (each_row taken_by es)
  live-many s c [] kept h = rw (append-nil c) (omega arith)
  live-many s c (e ∷ es) kept h =
      let rest = live-many s (c ++ e ∷ []) es (Kept-push s c e kept h.0) h.1 in
      let one = live-one s c e.time e.row kept.requests h.0 in
      let ends = count-cons ended_by e es in
      let takes = count-cons taken_by e es in
      let sum : length (live ((c ++ e ∷ []) ++ es)) + length (each_row ended_by (e ∷ es)) ≤ length (live c) + length (each_row taken_by (e ∷ es)) = omega arith in
      rw (append_assoc c (e ∷ []) es) at sum
