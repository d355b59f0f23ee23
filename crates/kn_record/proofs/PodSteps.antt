-- What one more entry changes of the views of pods.
use Rattle.std.proofs.Common.{◌≡◌, ℕ, ◌+◌, Bool, true, false, not, ◌&&◌, ◌||◌, [], ◌∷◌, ◌++◌, length, refl, ◌∙◌, arith, append-nil, length-append}
use Rattle.std.specs.Prelude.{None, ◌==◌}
use Rattle.std.specs.List.{filter}
use Rattle.std.proofs.lemmas.List.{length-reverse}
use Rattle.std.proofs.lemmas.List.Elements.{filter_agree, filter-append}
use Rattle.std.proofs.Math.Bool.{or-false}
use Rattle.kn_event.specs.declared.entry.Entry.{Entry}
use Rattle.kn_event.specs.declared.entry.Row.{Row}
use Rattle.kn_event.specs.declared.entry.Row.TheVariants as row
use Rattle.kn_event.specs.Lists.{contains}
use Rattle.kn_trace.specs.Rows.{created_by, drained_by, limit_by, readied_by, gone_by}
use Rattle.kn_trace.specs.Trace.{Trace, entry, draining, each_row, is_draining, is_live_pod, is_ready, is_starting, limit_of, live_pods, ready_pods, starting_pods}
use Rattle.kn_trace.specs.Scale.{drain_order}
use Rattle.kn_record.specs.Rows.{pod_named_by, says, SaysNoPod}
use Rattle.kn_record.proofs.Flags.{each_row-push, contains-push, limit_of-push}
use Rattle.kn_record.proofs.Members.{contains-filter, contains-within}
use Rattle.kn_record.proofs.PodNumbers.{contains-drain_order, drained_named, readied_named, removed_named}
use Rattle.kn_record.proofs.Steps.{view-same}

-- ---- the tests

pub is_live_pod-push : (c : Trace) (e : Entry) (q : ℕ) → is_live_pod (c ++ e ∷ []) q ≡ not (contains q (each_row gone_by c) || says (gone_by e.row) q)
unfolding is_live_pod
is_live_pod-push c e q = rw (contains-push gone_by c e q) refl

pub is_starting-push : (c : Trace) (e : Entry) (q : ℕ) → is_starting (c ++ e ∷ []) q
    ≡ (not (contains q (each_row readied_by c) || says (readied_by e.row) q) && not (contains q (each_row drained_by c) || says (drained_by e.row) q) && not (contains q (each_row gone_by c) || says (gone_by e.row) q))
unfolding is_starting
is_starting-push c e q = rw (is_live_pod-push c e q, contains-push readied_by c e q, contains-push drained_by c e q) refl

pub is_ready-push : (c : Trace) (e : Entry) (q : ℕ) → is_ready (c ++ e ∷ []) q
    ≡ ((contains q (each_row readied_by c) || says (readied_by e.row) q) && not (contains q (each_row drained_by c) || says (drained_by e.row) q) && not (contains q (each_row gone_by c) || says (gone_by e.row) q))
unfolding is_ready
is_ready-push c e q = rw (is_live_pod-push c e q, contains-push readied_by c e q, contains-push drained_by c e q) refl

pub is_draining-push : (c : Trace) (e : Entry) (q : ℕ) → is_draining (c ++ e ∷ []) q ≡ ((contains q (each_row drained_by c) || says (drained_by e.row) q) && not (contains q (each_row gone_by c) || says (gone_by e.row) q))
unfolding is_draining
is_draining-push c e q = rw (is_live_pod-push c e q, contains-push drained_by c e q) refl

-- ---- a row that says nothing of pods

-- a row that names no pod
pub says_no_pod : (x : Row) → pod_named_by x ≡ None → SaysNoPod x
says_no_pod (row.Create p n) h = absurd (cc)
says_no_pod (row.Limit p n) h = absurd (cc)
says_no_pod (row.Ready p) h = absurd (cc)
says_no_pod (row.Drain p) h = absurd (cc)
says_no_pod (row.Remove p) h = absurd (cc)
says_no_pod (row.LostPod p) h = absurd (cc)
says_no_pod _ h = record { created = refl; readied = refl; drained = refl; removed = refl; limit = λ p. refl }

pub starting-quiet : (c : Trace) (e : Entry) → SaysNoPod e.row → starting_pods (c ++ e ∷ []) ≡ starting_pods c
unfolding starting_pods is_starting is_live_pod
starting-quiet c e none =
    view-same created_by (is_starting c) (is_starting (c ++ e ∷ [])) c e none.created
    (λ q. is_starting-push c e q ∙ rw (none.readied, none.drained, none.removed, or-false (contains q (each_row readied_by c)), or-false (contains q (each_row drained_by c)), or-false (contains q (each_row gone_by c))) refl)

pub ready-quiet : (c : Trace) (e : Entry) → SaysNoPod e.row → ready_pods (c ++ e ∷ []) ≡ ready_pods c
unfolding ready_pods is_ready is_live_pod
ready-quiet c e none =
    view-same created_by (is_ready c) (is_ready (c ++ e ∷ [])) c e none.created
    (λ q. is_ready-push c e q ∙ rw (none.readied, none.drained, none.removed, or-false (contains q (each_row readied_by c)), or-false (contains q (each_row drained_by c)), or-false (contains q (each_row gone_by c))) refl)

pub draining-quiet : (c : Trace) (e : Entry) → SaysNoPod e.row → draining (c ++ e ∷ []) ≡ draining c
unfolding draining is_draining is_live_pod
draining-quiet c e none =
    view-same created_by (is_draining c) (is_draining (c ++ e ∷ [])) c e none.created
    (λ q. is_draining-push c e q ∙ rw (none.drained, none.removed, or-false (contains q (each_row drained_by c)), or-false (contains q (each_row gone_by c))) refl)

pub live_pods-quiet : (c : Trace) (e : Entry) → SaysNoPod e.row → live_pods (c ++ e ∷ []) ≡ live_pods c
unfolding live_pods is_live_pod
live_pods-quiet c e none =
    view-same created_by (is_live_pod c) (is_live_pod (c ++ e ∷ [])) c e none.created
    (λ q. is_live_pod-push c e q ∙ rw (none.removed, or-false (contains q (each_row gone_by c))) refl)

pub drain_order-quiet : (c : Trace) (e : Entry) → SaysNoPod e.row → drain_order (c ++ e ∷ []) ≡ drain_order c
unfolding drain_order
drain_order-quiet c e none = rw (starting-quiet c e none, ready-quiet c e none) refl

pub limit-quiet : (c : Trace) (e : Entry) (q : ℕ) → limit_by q e.row ≡ None → limit_of (c ++ e ∷ []) q ≡ limit_of c q
limit-quiet c e q none = limit_of-push c e q ∙ rw none refl

-- ---- the members, by any row

pub contains-live_pods : (c : Trace) (q : ℕ) → contains q (live_pods c) ≡ (contains q (each_row created_by c) && not (contains q (each_row gone_by c)))
unfolding live_pods is_live_pod
contains-live_pods c q = contains-filter (is_live_pod c) q (each_row created_by c)

pub contains-draining : (c : Trace) (q : ℕ) → contains q (draining c) ≡ (contains q (each_row created_by c) && (contains q (each_row drained_by c) && not (contains q (each_row gone_by c))))
unfolding draining is_draining is_live_pod
contains-draining c q = contains-filter (is_draining c) q (each_row created_by c)

pub contains-ready : (c : Trace) (q : ℕ) → contains q (ready_pods c)
    ≡ (contains q (each_row created_by c) && (contains q (each_row readied_by c) && not (contains q (each_row drained_by c)) && not (contains q (each_row gone_by c))))
unfolding ready_pods is_ready is_live_pod
contains-ready c q = contains-filter (is_ready c) q (each_row created_by c)

pub contains-starting : (c : Trace) (q : ℕ) → contains q (starting_pods c)
    ≡ (contains q (each_row created_by c) && (not (contains q (each_row readied_by c)) && not (contains q (each_row drained_by c)) && not (contains q (each_row gone_by c))))
unfolding starting_pods is_starting is_live_pod
contains-starting c q = contains-filter (is_starting c) q (each_row created_by c)

-- ---- a pod drains

-- a starting pod drains
starting-drain : (c : Trace) (t p q : ℕ) → contains q (starting_pods (c ++ entry t (row.Drain p) ∷ [])) ≡ (contains q (starting_pods c) && not (p == q))
starting-drain c t p q =
    contains-starting (c ++ entry t (row.Drain p) ∷ []) q
    ∙ rw (contains-push created_by c (entry t (row.Drain p)) q, contains-push readied_by c (entry t (row.Drain p)) q, contains-push drained_by c (entry t (row.Drain p)) q, contains-push gone_by c (entry t (row.Drain p)) q, contains-starting c q)
    (by (contains q (each_row created_by c)) (contains q (each_row readied_by c)) (contains q (each_row drained_by c)) (contains q (each_row gone_by c)) (p == q))
  where
    by : (a x d g m : Bool) → ((a || false) && (not (x || false) && not (d || m) && not (g || false))) ≡ ((a && (not x && not d && not g)) && not m)
    by false x d g m = refl
    by true true d g m = refl
    by true false true g m = refl
    by true false false true true = refl
    by true false false true false = refl
    by true false false false true = refl
    by true false false false false = refl

-- a Ready pod drains
ready-drain : (c : Trace) (t p q : ℕ) → contains q (ready_pods (c ++ entry t (row.Drain p) ∷ [])) ≡ (contains q (ready_pods c) && not (p == q))
ready-drain c t p q =
    contains-ready (c ++ entry t (row.Drain p) ∷ []) q
    ∙ rw (contains-push created_by c (entry t (row.Drain p)) q, contains-push readied_by c (entry t (row.Drain p)) q, contains-push drained_by c (entry t (row.Drain p)) q, contains-push gone_by c (entry t (row.Drain p)) q, contains-ready c q)
    (by (contains q (each_row created_by c)) (contains q (each_row readied_by c)) (contains q (each_row drained_by c)) (contains q (each_row gone_by c)) (p == q))
  where
    by : (a x d g m : Bool) → ((a || false) && ((x || false) && not (d || m) && not (g || false))) ≡ ((a && (x && not d && not g)) && not m)
    by false x d g m = refl
    by true false d g m = refl
    by true true true g m = refl
    by true true false true true = refl
    by true true false true false = refl
    by true true false false true = refl
    by true true false false false = refl

-- it leaves the order of draining
pub drain_order-drain : (c : Trace) (t p q : ℕ) → contains q (drain_order (c ++ entry t (row.Drain p) ∷ [])) ≡ (contains q (drain_order c) && not (p == q))
drain_order-drain c t p q =
    contains-drain_order (c ++ entry t (row.Drain p) ∷ []) q
    ∙ rw (starting-drain c t p q, ready-drain c t p q, contains-drain_order c q) (by (contains q (starting_pods c)) (contains q (ready_pods c)) (p == q))
  where
    by : (a b m : Bool) → ((a && not m) || (b && not m)) ≡ ((a || b) && not m)
    by true true true = refl
    by true true false = refl
    by true false true = refl
    by true false false = refl
    by false b m = refl

-- ---- a pod is removed

-- a removed pod drains no more
pub draining-remove : (c : Trace) (t p q : ℕ) → contains q (draining (c ++ entry t (row.Remove p) ∷ [])) ≡ (contains q (draining c) && not (p == q))
draining-remove c t p q =
    contains-draining (c ++ entry t (row.Remove p) ∷ []) q
    ∙ rw (contains-push created_by c (entry t (row.Remove p)) q, contains-push drained_by c (entry t (row.Remove p)) q, contains-push gone_by c (entry t (row.Remove p)) q, contains-draining c q)
    (by (contains q (each_row created_by c)) (contains q (each_row drained_by c)) (contains q (each_row gone_by c)) (p == q))
  where
    by : (a d g m : Bool) → ((a || false) && ((d || false) && not (g || m))) ≡ ((a && (d && not g)) && not m)
    by false d g m = refl
    by true false g m = refl
    by true true true m = refl
    by true true false m = refl

-- ---- a new pod starts

-- a new pod starts
starting-create : (c : Trace) (t p n : ℕ) → contains p (each_row pod_named_by c) ≡ false → starting_pods (c ++ entry t (row.Create p n) ∷ []) ≡ starting_pods c ++ p ∷ []
unfolding starting_pods is_starting is_live_pod
starting-create c t p n new =
    rw (each_row-push created_by c e, filter-append (is_starting (c ++ e ∷ [])) (each_row created_by c) (p ∷ []), same, is_starting-push c e p, contains-within readied_by pod_named_by readied_named p c new, contains-within drained_by pod_named_by drained_named p c new, contains-within gone_by pod_named_by removed_named p c new) refl
  where
    e : Entry
    e = entry t (row.Create p n)

    same : filter (is_starting (c ++ e ∷ [])) (each_row created_by c) ≡ filter (is_starting c) (each_row created_by c)
    same = filter_agree (is_starting (c ++ e ∷ [])) (is_starting c) (λ q. is_starting-push c e q ∙ rw (or-false (contains q (each_row readied_by c)), or-false (contains q (each_row drained_by c)), or-false (contains q (each_row gone_by c))) refl) (each_row created_by c)

-- and is not Ready
ready-create : (c : Trace) (t p n : ℕ) → contains p (each_row pod_named_by c) ≡ false → ready_pods (c ++ entry t (row.Create p n) ∷ []) ≡ ready_pods c
unfolding ready_pods is_ready is_live_pod
ready-create c t p n new =
    rw (each_row-push created_by c e, filter-append (is_ready (c ++ e ∷ [])) (each_row created_by c) (p ∷ []), same, is_ready-push c e p, contains-within readied_by pod_named_by readied_named p c new) (append-nil _)
  where
    e : Entry
    e = entry t (row.Create p n)

    same : filter (is_ready (c ++ e ∷ [])) (each_row created_by c) ≡ filter (is_ready c) (each_row created_by c)
    same = filter_agree (is_ready (c ++ e ∷ [])) (is_ready c) (λ q. is_ready-push c e q ∙ rw (or-false (contains q (each_row readied_by c)), or-false (contains q (each_row drained_by c)), or-false (contains q (each_row gone_by c))) refl) (each_row created_by c)

pub length-drain_order : (c : Trace) → length (drain_order c) ≡ length (starting_pods c) + length (ready_pods c)
unfolding drain_order
length-drain_order c = rw (length-append, length-reverse (starting_pods c), length-reverse (ready_pods c)) refl

-- it is one more that does not drain
pub drain_order-create : (c : Trace) (t p n : ℕ) → contains p (each_row pod_named_by c) ≡ false → length (drain_order (c ++ entry t (row.Create p n) ∷ [])) ≡ length (drain_order c) + 1
drain_order-create c t p n new =
    let a = length-drain_order (c ++ entry t (row.Create p n) ∷ []) in
    let b = length-drain_order c in
    let d : length (starting_pods (c ++ entry t (row.Create p n) ∷ [])) ≡ length (starting_pods c) + 1 = rw (starting-create c t p n new, length-append) refl in
    let f : length (ready_pods (c ++ entry t (row.Create p n) ∷ [])) ≡ length (ready_pods c) = rw (ready-create c t p n new) refl in
    omega arith
