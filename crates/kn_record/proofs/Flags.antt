-- What one more entry changes of the plain tests: each reads one word of its row.
use Rattle.std.proofs.Common.{◌≡◌, ℕ, ◌+◌, Bool, ◌||◌, List, [], ◌∷◌, ◌++◌, refl, ap, length, length-append, append-nil}
use Rattle.std.specs.Prelude.{Option, None, Some, ◌==◌, unwrap_or}
use Rattle.std.specs.List.{cons_option}
use Rattle.std.proofs.lemmas.List.Elements.{filter_map-append}
use Rattle.std.proofs.lemmas.List.Folds.{list_any-append}
use Rattle.std.proofs.Math.Bool.{or-false}
use Rattle.kn_event.specs.declared.entry.Entry.{Entry}
use Rattle.kn_event.specs.declared.entry.Row.{Row}
use Rattle.kn_event.specs.Lists.{contains, or_else}
use Rattle.kn_trace.specs.Rows.{arrived_by, assigned_by, created_by, ended_by, limit_by, pod_by, run_by}
use Rattle.kn_trace.specs.Trace.{Trace, each_row, last_of, arrivals, assigned, created, ended, has_run, limit_of, pod_of}
use Rattle.kn_record.specs.Rows.{says, counted}

contains-option : (r : ℕ) (o : Option ℕ) → contains r (cons_option o []) ≡ says o r
contains-option r None = refl
contains-option r (Some q) = or-false (q == r)

-- the rows of one kind by one more entry
pub each_row-push : {X : Type 0} (f : Row → Option X) (c : Trace) (e : Entry) → each_row f (c ++ e ∷ []) ≡ each_row f c ++ cons_option (f e.row) []
each_row-push f c e = filter_map-append (λ (e : Entry). f e.row) c (e ∷ [])

-- what the rows of one kind say of r
pub contains-push : (f : Row → Option ℕ) (c : Trace) (e : Entry) (r : ℕ) → contains r (each_row f (c ++ e ∷ [])) ≡ (contains r (each_row f c) || says (f e.row) r)
contains-push f c e r =
    rw (each_row-push f c e, list_any-append (λ y. y == r) (each_row f c) (cons_option (f e.row) []))
    (ap (λ (b : Bool). contains r (each_row f c) || b) (contains-option r (f e.row)))

length-option : {X : Type 0} (o : Option X) → length (cons_option o []) ≡ counted o
length-option None = refl
length-option (Some q) = refl

-- how many rows of one kind there are
pub length-push : {X : Type 0} (f : Row → Option X) (c : Trace) (e : Entry) → length (each_row f (c ++ e ∷ [])) ≡ length (each_row f c) + counted (f e.row)
length-push f c e = rw (each_row-push f c e, length-append) (ap (λ (n : ℕ). length (each_row f c) + n) (length-option (f e.row)))

last_of-end : {X : Type 0} (y : X) (xs : List X) → last_of (xs ++ y ∷ []) ≡ Some y
last_of-end y [] = refl
last_of-end y (x ∷ xs) = rw (last_of-end y xs) refl

last_of-option : {X : Type 0} (xs : List X) (o : Option X) → last_of (xs ++ cons_option o []) ≡ or_else o (last_of xs)
last_of-option {X} xs None = ap (λ (l : List X). last_of l) (append-nil xs)
last_of-option xs (Some y) = last_of-end y xs

-- the last row of one kind
pub last_of-push : {X : Type 0} (f : Row → Option X) (c : Trace) (e : Entry) → last_of (each_row f (c ++ e ∷ [])) ≡ or_else (f e.row) (last_of (each_row f c))
last_of-push f c e = rw (each_row-push f c e) (last_of-option (each_row f c) (f e.row))

-- the pod of a request by one more entry
pub pod_of-push : (c : Trace) (e : Entry) (r : ℕ) → pod_of (c ++ e ∷ []) r ≡ or_else (pod_by r e.row) (pod_of c r)
unfolding pod_of
pod_of-push c e r = last_of-push (pod_by r) c e

-- whether a request has ended by one more entry
pub ended-push : (c : Trace) (e : Entry) (r : ℕ) → ended (c ++ e ∷ []) r ≡ (ended c r || says (ended_by e.row) r)
unfolding ended
ended-push c e r = contains-push ended_by c e r

-- whether it was assigned
pub assigned-push : (c : Trace) (e : Entry) (r : ℕ) → assigned (c ++ e ∷ []) r ≡ (assigned c r || says (assigned_by e.row) r)
unfolding assigned
assigned-push c e r = contains-push assigned_by c e r

-- whether it has a run entry
pub has_run-push : (c : Trace) (e : Entry) (r : ℕ) → has_run (c ++ e ∷ []) r ≡ (has_run c r || says (run_by e.row) r)
unfolding has_run
has_run-push c e r = contains-push run_by c e r

-- how many arrived
pub arrivals-push : (c : Trace) (e : Entry) → arrivals (c ++ e ∷ []) ≡ arrivals c + counted (arrived_by e.row)
unfolding arrivals
arrivals-push c e = length-push arrived_by c e

-- how many pods were created
pub created-push : (c : Trace) (e : Entry) → created (c ++ e ∷ []) ≡ created c + counted (created_by e.row)
unfolding created
created-push c e = length-push created_by c e

-- the limit in force: the row's, or the one before
abbrev pub limit_after : Option ℕ → ℕ → ℕ
limit_after o n = unwrap_or o n

-- the limit of a pod by one more entry
pub limit_of-push : (c : Trace) (e : Entry) (p : ℕ) → limit_of (c ++ e ∷ []) p ≡ limit_after (limit_by p e.row) (limit_of c p)
unfolding limit_of
limit_of-push c e p = rw (last_of-push (limit_by p) c e) (by (limit_by p e.row))
  where
    by : (o : Option ℕ) → unwrap_or (or_else o (last_of (each_row (limit_by p) c))) 0 ≡ unwrap_or o (unwrap_or (last_of (each_row (limit_by p) c)) 0)
    by None = refl
    by (Some n) = refl
