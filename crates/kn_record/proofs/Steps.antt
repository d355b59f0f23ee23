-- What one more entry changes of the views of requests, in their own words.
use Rattle.std.proofs.Common.{◌≡◌, ℕ, ◌≤◌, Bool, true, false, not, cond, ◌&&◌, ◌||◌, List, [], ◌∷◌, ◌++◌, length, refl, ap, ◌∙◌, arith, append-nil, length-append}
use Rattle.std.specs.Prelude.{Option, None, Some, ◌==◌}
use Rattle.std.specs.List.{filter, cons_option}
use Rattle.std.proofs.lemmas.List.Elements.{filter_agree, filter-append}
use Rattle.std.proofs.Math.Bool.{or-false}
use Rattle.kn_event.specs.declared.entry.Entry.{Entry}
use Rattle.kn_event.specs.declared.entry.Row.{Row}
use Rattle.kn_event.specs.declared.entry.Row.TheVariants as row
use Rattle.kn_trace.specs.Rows.{admitted_by, taken_by, assigned_by, brought_to, run_by, ended_by}
use Rattle.kn_trace.specs.Trace.{Trace, entry, each_row, assigned, at_pod, ended, has_begun, has_not_begun, has_run, held, is_held, is_running, queued_at, running_at, waiting}
use Rattle.kn_trace.specs.Capacity.{in_use}
use Rattle.kn_record.specs.Rows.{moved_by, says, IsQuiet}
use Rattle.kn_record.specs.Views.{others}
use Rattle.kn_record.proofs.Flags.{each_row-push, ended-push, assigned-push, has_run-push}

-- ---- lists

-- a filter by two tests
pub filter-both : (t u : ℕ → Bool) (xs : List ℕ) → filter (λ q. t q && u q) xs ≡ filter u (filter t xs)
filter-both t u [] = refl
filter-both t u (x ∷ xs) = by (t x) (u x) refl (filter-both t u xs)
  where
    by : (a b : Bool) → u x ≡ b → filter (λ q. t q && u q) xs ≡ filter u (filter t xs) → cond (a && b) (x ∷ filter (λ q. t q && u q) xs) (filter (λ q. t q && u q) xs) ≡ filter u (cond a (x ∷ filter t xs) (filter t xs))
    by true true e rest = rw e (ap (λ (l : List ℕ). x ∷ l) rest)
    by true false e rest = rw e rest
    by false b e rest = rest

pub length-filter-more : (p q : ℕ → Bool) → ((x : ℕ) → p x ≡ true → q x ≡ true) → (xs : List ℕ) → length (filter p xs) ≤ length (filter q xs)
length-filter-more p q more [] = omega arith
length-filter-more p q more (x ∷ xs) = by (p x) (q x) (more x) (length-filter-more p q more xs)
  where
    by : (a b : Bool) → (a ≡ true → b ≡ true) → length (filter p xs) ≤ length (filter q xs) → length (cond a (x ∷ filter p xs) (filter p xs)) ≤ length (cond b (x ∷ filter q xs) (filter q xs))
    by true true h le = omega arith
    by true false h le = absurd (let wrong = h refl in cc)
    by false true h le = omega arith
    by false false h le = le

-- ---- a view filters the rows of one kind: what a row does to it that is not of this kind

-- nothing of the kind, and the same test
pub view-same : (f : Row → Option ℕ) (t u : ℕ → Bool) (c : Trace) (e : Entry) → f e.row ≡ None → ((q : ℕ) → u q ≡ t q) → filter u (each_row f (c ++ e ∷ [])) ≡ filter t (each_row f c)
view-same f t u c e none same = rw (each_row-push f c e, none, append-nil (each_row f c)) (filter_agree u t same (each_row f c))

-- nothing of the kind, and the test loses one
pub view-less : (f : Row → Option ℕ) (t u : ℕ → Bool) (c : Trace) (e : Entry) (r : ℕ) → f e.row ≡ None → ((q : ℕ) → u q ≡ (t q && not (r == q))) → filter u (each_row f (c ++ e ∷ [])) ≡ others r (filter t (each_row f c))
view-less f t u c e r none less =
    rw (each_row-push f c e, none, append-nil (each_row f c)) (filter_agree u (λ q. t q && not (r == q)) less (each_row f c) ∙ filter-both t (λ q. not (r == q)) (each_row f c))

-- the test only gains
pub view-length : (f : Row → Option ℕ) (t u : ℕ → Bool) (c : Trace) (e : Entry) → ((q : ℕ) → t q ≡ true → u q ≡ true) → length (filter t (each_row f c)) ≤ length (filter u (each_row f (c ++ e ∷ [])))
view-length f t u c e more =
    let less = length-filter-more t u more (each_row f c) in
    rw (each_row-push f c e, filter-append u (each_row f c) (cons_option (f e.row) []), length-append) (omega arith)

-- ---- the tests

pub has_begun-push : (c : Trace) (e : Entry) (q : ℕ) → has_begun (c ++ e ∷ []) q ≡ ((assigned c q || says (assigned_by e.row) q) || (has_run c q || says (run_by e.row) q))
unfolding has_begun
has_begun-push c e q = rw (assigned-push c e q, has_run-push c e q) refl

pub is_held-push : (c : Trace) (e : Entry) (q : ℕ) → is_held (c ++ e ∷ []) q ≡ (not (assigned c q || says (assigned_by e.row) q) && not (ended c q || says (ended_by e.row) q))
unfolding is_held
is_held-push c e q = rw (assigned-push c e q, ended-push c e q) refl

pub has_not_begun-push : (c : Trace) (e : Entry) (q : ℕ) → has_not_begun (c ++ e ∷ []) q
    ≡ (not ((assigned c q || says (assigned_by e.row) q) || (has_run c q || says (run_by e.row) q)) && not (ended c q || says (ended_by e.row) q))
unfolding has_not_begun
has_not_begun-push c e q = rw (has_begun-push c e q, ended-push c e q) refl

pub is_running-push : (c : Trace) (e : Entry) (q : ℕ) → is_running (c ++ e ∷ []) q
    ≡ (((assigned c q || says (assigned_by e.row) q) || (has_run c q || says (run_by e.row) q)) && not (ended c q || says (ended_by e.row) q))
unfolding is_running
is_running-push c e q = rw (has_begun-push c e q, ended-push c e q) refl

-- ---- a row that neither takes in, moves, begins nor ends a request

pub is_quiet : (x : Row) → taken_by x ≡ None → moved_by x ≡ None → run_by x ≡ None → ended_by x ≡ None → IsQuiet x
is_quiet (row.Admit r tag) a b d e = absurd (cc)
is_quiet (row.Direct r p) a b d e = absurd (cc)
is_quiet (row.Assign r p) a b d e = absurd (cc)
is_quiet (row.Run r) a b d e = absurd (cc)
is_quiet (row.Finish r ok) a b d e = absurd (cc)
is_quiet (row.Expire r) a b d e = absurd (cc)
is_quiet (row.Cancel r) a b d e = absurd (cc)
is_quiet (row.LostRequest r) a b d e = absurd (cc)
is_quiet _ a b d e = record { admitted = refl; taken = refl; assigned = refl; brought = λ p. refl; run = refl; ended = refl }

pub ended-quiet : (c : Trace) (e : Entry) → IsQuiet e.row → (q : ℕ) → ended (c ++ e ∷ []) q ≡ ended c q
ended-quiet c e quiet q = ended-push c e q ∙ rw quiet.ended (or-false (ended c q))

pub is_held-quiet : (c : Trace) (e : Entry) → IsQuiet e.row → (q : ℕ) → is_held (c ++ e ∷ []) q ≡ is_held c q
unfolding is_held
is_held-quiet c e quiet q = rw (assigned-push c e q, ended-push c e q, quiet.assigned, quiet.ended, or-false (assigned c q), or-false (ended c q)) refl

pub has_begun-quiet : (c : Trace) (e : Entry) → IsQuiet e.row → (q : ℕ) → has_begun (c ++ e ∷ []) q ≡ has_begun c q
unfolding has_begun
has_begun-quiet c e quiet q = rw (assigned-push c e q, has_run-push c e q, quiet.assigned, quiet.run, or-false (assigned c q), or-false (has_run c q)) refl

pub has_not_begun-quiet : (c : Trace) (e : Entry) → IsQuiet e.row → (q : ℕ) → has_not_begun (c ++ e ∷ []) q ≡ has_not_begun c q
unfolding has_not_begun
has_not_begun-quiet c e quiet q = rw (has_begun-quiet c e quiet q, ended-quiet c e quiet q) refl

pub is_running-quiet : (c : Trace) (e : Entry) → IsQuiet e.row → (q : ℕ) → is_running (c ++ e ∷ []) q ≡ is_running c q
unfolding is_running
is_running-quiet c e quiet q = rw (has_begun-quiet c e quiet q, ended-quiet c e quiet q) refl

pub held-quiet : (c : Trace) (e : Entry) → IsQuiet e.row → held (c ++ e ∷ []) ≡ held c
unfolding held
held-quiet c e quiet = view-same admitted_by (is_held c) (is_held (c ++ e ∷ [])) c e quiet.admitted (is_held-quiet c e quiet)

pub waiting-quiet : (c : Trace) (e : Entry) → IsQuiet e.row → waiting (c ++ e ∷ []) ≡ waiting c
unfolding waiting
waiting-quiet c e quiet = view-same taken_by (has_not_begun c) (has_not_begun (c ++ e ∷ [])) c e quiet.taken (has_not_begun-quiet c e quiet)

pub queued_at-quiet : (c : Trace) (e : Entry) (p : ℕ) → IsQuiet e.row → queued_at (c ++ e ∷ []) p ≡ queued_at c p
unfolding queued_at
queued_at-quiet c e p quiet = view-same (brought_to p) (has_not_begun c) (has_not_begun (c ++ e ∷ [])) c e (quiet.brought p) (has_not_begun-quiet c e quiet)

pub running_at-quiet : (c : Trace) (e : Entry) (p : ℕ) → IsQuiet e.row → running_at (c ++ e ∷ []) p ≡ running_at c p
unfolding running_at
running_at-quiet c e p quiet = view-same (brought_to p) (is_running c) (is_running (c ++ e ∷ [])) c e (quiet.brought p) (is_running-quiet c e quiet)

pub at_pod-quiet : (c : Trace) (e : Entry) (p : ℕ) → IsQuiet e.row → at_pod (c ++ e ∷ []) p ≡ at_pod c p
unfolding at_pod
at_pod-quiet c e p quiet = view-same (brought_to p) (λ r. not (ended c r)) (λ r. not (ended (c ++ e ∷ []) r)) c e (quiet.brought p) (λ q. ap (λ (b : Bool). not b) (ended-quiet c e quiet q))

pub in_use-quiet : (c : Trace) (e : Entry) → IsQuiet e.row → in_use (c ++ e ∷ []) ≡ in_use c
unfolding in_use
in_use-quiet c e quiet = ap (λ (l : List ℕ). length l) (view-same assigned_by (λ r. not (ended c r)) (λ r. not (ended (c ++ e ∷ []) r)) c e quiet.assigned (λ q. ap (λ (b : Bool). not b) (ended-quiet c e quiet q)))

-- ---- a waiting request expires, is given up, begins to run or is assigned

-- a request ends: it waits no more
pub waiting-end : (c : Trace) (e : Entry) (r : ℕ) → taken_by e.row ≡ None → assigned_by e.row ≡ None → run_by e.row ≡ None → ended_by e.row ≡ Some r → waiting (c ++ e ∷ []) ≡ others r (waiting c)
unfolding waiting has_not_begun has_begun
waiting-end c e r taken assigned' run' ended' =
    view-less taken_by (has_not_begun c) (has_not_begun (c ++ e ∷ [])) c e r taken
    (λ q. has_not_begun-push c e q ∙ rw (assigned', run', ended') (by (assigned c q) (has_run c q) (ended c q) (r == q)))
  where
    by : (a n g m : Bool) → (not ((a || false) || (n || false)) && not (g || m)) ≡ ((not (a || n) && not g) && not m)
    by true n g m = refl
    by false true g m = refl
    by false false true m = refl
    by false false false m = refl

-- a request ends: it is at its pod no more
pub at_pod-end : (c : Trace) (e : Entry) (r p : ℕ) → brought_to p e.row ≡ None → ended_by e.row ≡ Some r → at_pod (c ++ e ∷ []) p ≡ others r (at_pod c p)
unfolding at_pod
at_pod-end c e r p brought ends =
    view-less (brought_to p) (λ q. not (ended c q)) (λ q. not (ended (c ++ e ∷ []) q)) c e r brought
    (λ q. ap (λ (b : Bool). not b) (ended-push c e q) ∙ rw ends (by (ended c q) (r == q)))
  where
    by : (g m : Bool) → not (g || m) ≡ (not g && not m)
    by true m = refl
    by false m = refl

-- a request runs: it is queued no more
pub queued_at-run : (c : Trace) (t r p : ℕ) → queued_at (c ++ entry t (row.Run r) ∷ []) p ≡ others r (queued_at c p)
unfolding queued_at has_not_begun has_begun
queued_at-run c t r p =
    view-less (brought_to p) (has_not_begun c) (has_not_begun (c ++ entry t (row.Run r) ∷ [])) c (entry t (row.Run r)) r refl
    (λ q. has_not_begun-push c (entry t (row.Run r)) q ∙ by (assigned c q) (has_run c q) (ended c q) (r == q))
  where
    by : (a n g m : Bool) → (not ((a || false) || (n || m)) && not (g || false)) ≡ ((not (a || n) && not g) && not m)
    by true n g m = refl
    by false true g m = refl
    by false false true true = refl
    by false false true false = refl
    by false false false true = refl
    by false false false false = refl

-- a request is assigned: it is held no more
pub held-assign : (c : Trace) (t r p : ℕ) → held (c ++ entry t (row.Assign r p) ∷ []) ≡ others r (held c)
unfolding held is_held
held-assign c t r p =
    view-less admitted_by (is_held c) (is_held (c ++ entry t (row.Assign r p) ∷ [])) c (entry t (row.Assign r p)) r refl
    (λ q. is_held-push c (entry t (row.Assign r p)) q ∙ by (assigned c q) (ended c q) (r == q))
  where
    by : (a g m : Bool) → (not (a || m) && not (g || false)) ≡ ((not a && not g) && not m)
    by true g m = refl
    by false true true = refl
    by false true false = refl
    by false false true = refl
    by false false false = refl
