-- What the proofs of the crates above build on, by subject: each field is one fact about the definitions.
use Rattle.std.specs.Prelude.{◌≡◌, ℕ, ◌<◌, ◌≤◌, ◌+◌, Bool, true, false, not, ◌&&◌, ◌||◌, ◌⊎◌, ◌==◌, List, [], ◌∷◌, ◌++◌, length, Option, None, Some}
use Rattle.std.specs.List.{filter}
use Rattle.kn_event.specs.declared.entry.Entry.{Entry}
use Rattle.kn_event.specs.declared.entry.Row.{Row}
use Rattle.kn_event.specs.declared.entry.Row.TheVariants as row
use Rattle.kn_event.specs.declared.event.Act.{Act}
use Rattle.kn_event.specs.declared.event.Event.{Event}
use Rattle.kn_event.specs.declared.revision.Kind.{Kind}
use Rattle.kn_event.specs.declared.revision.Spec.{Spec}
use Rattle.kn_event.specs.Lists.{contains, or_else}
use Rattle.kn_trace.specs.Capacity.{capacity, in_use}
use Rattle.kn_trace.specs.Choice.{choice}
use Rattle.kn_trace.specs.Events.{act_row, activation, before_settling, departures, entries_of, expiries, opening, react, scaler_rows, trace_of, wake_where}
use Rattle.kn_trace.specs.Rows.{admitted_by, arrived_by, assigned_by, brought_to, created_by, decision_by, directed_by, drained_by, ended_by, gone_by, limit_by, outcome_by, phase_by, pod_by, readied_by, refused_by, run_by, taken_by}
use Rattle.kn_trace.specs.Scale.{drain_order, phase_of, tick_rows, wanted}
use Rattle.kn_trace.specs.Settling.{held_assignments, next_choice, promotions, promotions_at, settling}
use Rattle.kn_trace.specs.Trace.{Trace, arrivals, assigned, at_pod, created, draining, each_row, ended, entry, first_of, has_free_seat, has_not_begun, has_run, held, is_held, is_live_pod, is_ready, is_running, last_of, limit_of, live, live_pods, pod_of, queued_at, ready_pods, running_at, starting_pods, waiting}
use Rattle.kn_record.specs.Admission.{admission, pods, stepped}
use Rattle.kn_record.specs.Kept.{IsCleared, IsHeldMember, IsIdle, Kept}
use Rattle.kn_record.specs.Made.{AreDistinct, ArePodsNumbered, Holds, IsMade, IsNumbered, IsProper}
use Rattle.kn_record.specs.Order.{Ascend}
use Rattle.kn_record.specs.Rows.{IsQuiet, SaysNoPod, counted, moved_by, named_by, pod_named_by, says, want_after}
use Rattle.kn_record.specs.Views.{AreByPlace, others}

-- lists of numbers
pub record ListFacts : Type 0 where
  -- members of a filter are those that pass
  pub contains-filter : (t : ℕ → Bool) (r : ℕ) (xs : List ℕ) → contains r (filter t xs) ≡ (contains r xs && t r)
  -- a member of a filter is one of the list that passes
  pub filter_member : (t : ℕ → Bool) (r : ℕ) (xs : List ℕ) → contains r (filter t xs) ≡ true → (contains r xs ≡ true) × (t r ≡ true)
  -- and one that passes is a member
  pub in_filter : (t : ℕ → Bool) (r : ℕ) (xs : List ℕ) → contains r xs ≡ true → t r ≡ true → contains r (filter t xs) ≡ true
  -- the first of a list is a member
  pub first_member : (r : ℕ) (xs : List ℕ) → first_of xs ≡ Some r → contains r xs ≡ true
  -- taking out the first of distinct numbers leaves the rest
  pub filter-first : (r : ℕ) (rs : List ℕ) → AreDistinct (r ∷ rs) → filter (λ q. not (r == q)) (r ∷ rs) ≡ rs
  -- taking out a number that isn't there changes nothing
  pub filter-others : (r : ℕ) (xs : List ℕ) → contains r xs ≡ false → filter (λ q. not (r == q)) xs ≡ xs
  -- two tests that agree on the members
  pub filter-members : (p q : ℕ → Bool) (xs : List ℕ) → ((x : ℕ) → contains x xs ≡ true → p x ≡ q x) → filter p xs ≡ filter q xs
  -- a filter keeps a list distinct
  pub distinct-filter : (t : ℕ → Bool) (xs : List ℕ) → AreDistinct xs → AreDistinct (filter t xs)
  -- a list without a last member is empty
  pub last_of-none : (xs : List ℕ) → last_of xs ≡ None → xs ≡ []
  -- taking out a member leaves one fewer
  pub others-length : (r : ℕ) (ys : List ℕ) → AreDistinct ys → contains r ys ≡ true → length (others r ys) + 1 ≡ length ys
  -- more pass the wider test
  pub length-filter-more : (p q : ℕ → Bool) → ((x : ℕ) → p x ≡ true → q x ≡ true) → (xs : List ℕ) → length (filter p xs) ≤ length (filter q xs)

-- what a row says, whatever its kind; and what the rows of a kind say that are rows of another
pub record KindFacts : Type 0 where
  -- what a row says, where it says it of r
  pub says-true : (o : Option ℕ) (r : ℕ) → says o r ≡ true → o ≡ Some r
  -- who is admitted is taken in
  pub admitted_taken : (x : Row) → (admitted_by x ≡ None) ⊎ (admitted_by x ≡ taken_by x)
  -- so is who goes past the activator
  pub directed_taken : (x : Row) → (directed_by x ≡ None) ⊎ (directed_by x ≡ taken_by x)
  -- who comes to pod p comes to a pod
  pub brought_moved : (p : ℕ) (x : Row) → (brought_to p x ≡ None) ⊎ (brought_to p x ≡ moved_by x)
  -- a row that brings r to no pod gives it none
  pub moved_pod : (r : ℕ) (x : Row) → says (moved_by x) r ≡ false → pod_by r x ≡ None
  -- who comes to a pod was assigned there, or sent past the activator
  pub moved_parts : (x : Row) → ((assigned_by x ≡ moved_by x) × (directed_by x ≡ None)) ⊎ ((assigned_by x ≡ None) × (directed_by x ≡ moved_by x))
  -- who ends has come
  pub ended_named : (x : Row) → (ended_by x ≡ None) ⊎ (ended_by x ≡ named_by x)
  -- so has who is refused
  pub refused_named : (x : Row) → (refused_by x ≡ None) ⊎ (refused_by x ≡ named_by x)
  -- an outcome is an end or a refusal
  pub outcome_parts : (x : Row) → ((ended_by x ≡ outcome_by x) × (refused_by x ≡ None)) ⊎ ((ended_by x ≡ None) × (refused_by x ≡ outcome_by x))
  -- each row that f is of, g or h is of, and not both
  pub contains-split : (f g h : Row → Option ℕ) → ((x : Row) → ((g x ≡ f x) × (h x ≡ None)) ⊎ ((g x ≡ None) × (h x ≡ f x))) → (r : ℕ) (c : Trace)
      → contains r (each_row f c) ≡ (contains r (each_row g c) || contains r (each_row h c))
  -- each row that f is of, g is of
  pub contains-within : (f g : Row → Option ℕ) → ((x : Row) → (f x ≡ None) ⊎ (f x ≡ g x)) → (r : ℕ) (c : Trace) → contains r (each_row g c) ≡ false → contains r (each_row f c) ≡ false
  -- so who is in f's rows is in g's
  pub within-from : (f g : Row → Option ℕ) → ((x : Row) → (f x ≡ None) ⊎ (f x ≡ g x)) → (r : ℕ) (c : Trace) → contains r (each_row f c) ≡ true → contains r (each_row g c) ≡ true
  -- and is named, where g's are those that name somebody
  pub named-from : (f : Row → Option ℕ) → ((x : Row) → (f x ≡ None) ⊎ (f x ≡ named_by x)) → (r : ℕ) (c : Trace) → contains r (each_row f c) ≡ true → contains r (each_row named_by c) ≡ true

-- one more entry, by what its row says
pub record EntryFacts : Type 0 where
  -- what the rows of one kind say of r
  pub contains-push : (f : Row → Option ℕ) (c : Trace) (e : Entry) (r : ℕ) → contains r (each_row f (c ++ e ∷ [])) ≡ (contains r (each_row f c) || says (f e.row) r)
  -- how many rows of one kind there are
  pub length-push : (f : Row → Option ℕ) (c : Trace) (e : Entry) → length (each_row f (c ++ e ∷ [])) ≡ length (each_row f c) + counted (f e.row)
  -- whether a request was assigned
  pub assigned-push : (c : Trace) (e : Entry) (r : ℕ) → assigned (c ++ e ∷ []) r ≡ (assigned c r || says (assigned_by e.row) r)
  -- whether it has ended
  pub ended-push : (c : Trace) (e : Entry) (r : ℕ) → ended (c ++ e ∷ []) r ≡ (ended c r || says (ended_by e.row) r)
  -- how many arrived
  pub arrivals-push : (c : Trace) (e : Entry) → arrivals (c ++ e ∷ []) ≡ arrivals c + counted (arrived_by e.row)
  -- how many pods were created
  pub created-push : (c : Trace) (e : Entry) → created (c ++ e ∷ []) ≡ created c + counted (created_by e.row)
  -- the pod that it came to
  pub pod_of-push : (c : Trace) (e : Entry) (r : ℕ) → pod_of (c ++ e ∷ []) r ≡ or_else (pod_by r e.row) (pod_of c r)
  -- the phase
  pub phase_of-push : (c : Trace) (e : Entry) → phase_of (c ++ e ∷ []) ≡ or_else (phase_by e.row) (phase_of c)
  -- the wanted scale
  pub wanted-push : (s : Spec) (c : Trace) (e : Entry) → wanted s (c ++ e ∷ []) ≡ want_after (decision_by e.row) (wanted s c)
  -- whether a request is held, has not begun, or runs
  pub is_held-push : (c : Trace) (e : Entry) (q : ℕ) → is_held (c ++ e ∷ []) q ≡ (not (assigned c q || says (assigned_by e.row) q) && not (ended c q || says (ended_by e.row) q))
  pub has_not_begun-push : (c : Trace) (e : Entry) (q : ℕ) → has_not_begun (c ++ e ∷ []) q
      ≡ (not ((assigned c q || says (assigned_by e.row) q) || (has_run c q || says (run_by e.row) q)) && not (ended c q || says (ended_by e.row) q))
  pub is_running-push : (c : Trace) (e : Entry) (q : ℕ) → is_running (c ++ e ∷ []) q
      ≡ (((assigned c q || says (assigned_by e.row) q) || (has_run c q || says (run_by e.row) q)) && not (ended c q || says (ended_by e.row) q))
  -- whether a pod is Ready, or lives
  pub is_ready-push : (c : Trace) (e : Entry) (q : ℕ) → is_ready (c ++ e ∷ []) q
      ≡ ((contains q (each_row readied_by c) || says (readied_by e.row) q) && not (contains q (each_row drained_by c) || says (drained_by e.row) q) && not (contains q (each_row gone_by c) || says (gone_by e.row) q))
  pub is_live_pod-push : (c : Trace) (e : Entry) (q : ℕ) → is_live_pod (c ++ e ∷ []) q ≡ not (contains q (each_row gone_by c) || says (gone_by e.row) q)
  -- nothing of the kind, and the same test
  pub view-same : (f : Row → Option ℕ) (t u : ℕ → Bool) (c : Trace) (e : Entry) → f e.row ≡ None → ((q : ℕ) → u q ≡ t q) → filter u (each_row f (c ++ e ∷ [])) ≡ filter t (each_row f c)
  -- nothing of the kind, and the test loses one
  pub view-less : (f : Row → Option ℕ) (t u : ℕ → Bool) (c : Trace) (e : Entry) (r : ℕ) → f e.row ≡ None → ((q : ℕ) → u q ≡ (t q && not (r == q))) → filter u (each_row f (c ++ e ∷ [])) ≡ others r (filter t (each_row f c))
  -- the test only gains
  pub view-length : (f : Row → Option ℕ) (t u : ℕ → Bool) (c : Trace) (e : Entry) → ((q : ℕ) → t q ≡ true → u q ≡ true) → length (filter t (each_row f c)) ≤ length (filter u (each_row f (c ++ e ∷ [])))

-- the views after a row that leaves them as they are, or takes one out
pub record ViewFacts : Type 0 where
  -- a row that neither takes in, moves, begins nor ends anybody
  pub is_quiet : (x : Row) → taken_by x ≡ None → moved_by x ≡ None → run_by x ≡ None → ended_by x ≡ None → IsQuiet x
  -- a row that names no pod
  pub says_no_pod : (x : Row) → pod_named_by x ≡ None → SaysNoPod x
  -- such a row leaves who is held, waits, is queued, runs and is at a pod, and how many are in use
  pub held-quiet : (c : Trace) (e : Entry) → IsQuiet e.row → held (c ++ e ∷ []) ≡ held c
  pub waiting-quiet : (c : Trace) (e : Entry) → IsQuiet e.row → waiting (c ++ e ∷ []) ≡ waiting c
  pub queued_at-quiet : (c : Trace) (e : Entry) (p : ℕ) → IsQuiet e.row → queued_at (c ++ e ∷ []) p ≡ queued_at c p
  pub running_at-quiet : (c : Trace) (e : Entry) (p : ℕ) → IsQuiet e.row → running_at (c ++ e ∷ []) p ≡ running_at c p
  pub at_pod-quiet : (c : Trace) (e : Entry) (p : ℕ) → IsQuiet e.row → at_pod (c ++ e ∷ []) p ≡ at_pod c p
  pub in_use-quiet : (c : Trace) (e : Entry) → IsQuiet e.row → in_use (c ++ e ∷ []) ≡ in_use c
  -- a row that sets no limit of the pod leaves it
  pub limit-quiet : (c : Trace) (e : Entry) (q : ℕ) → limit_by q e.row ≡ None → limit_of (c ++ e ∷ []) q ≡ limit_of c q
  -- a row that names no pod leaves the Ready, live and draining ones
  pub ready-quiet : (c : Trace) (e : Entry) → SaysNoPod e.row → ready_pods (c ++ e ∷ []) ≡ ready_pods c
  pub live_pods-quiet : (c : Trace) (e : Entry) → SaysNoPod e.row → live_pods (c ++ e ∷ []) ≡ live_pods c
  pub draining-quiet : (c : Trace) (e : Entry) → SaysNoPod e.row → draining (c ++ e ∷ []) ≡ draining c
  -- the pods of the record
  pub pods-quiet : (c : Trace) (e : Entry) → created_by e.row ≡ None → gone_by e.row ≡ None → drained_by e.row ≡ None → readied_by e.row ≡ None → ((p : ℕ) → limit_by p e.row ≡ None) → pods (c ++ e ∷ []) ≡ pods c
  -- who ends is live no more
  pub live-end : (c : Trace) (e : Entry) (r : ℕ) → taken_by e.row ≡ None → ended_by e.row ≡ Some r → live (c ++ e ∷ []) ≡ others r (live c)
  -- a request ends: it waits no more
  pub waiting-end : (c : Trace) (e : Entry) (r : ℕ) → taken_by e.row ≡ None → assigned_by e.row ≡ None → run_by e.row ≡ None → ended_by e.row ≡ Some r → waiting (c ++ e ∷ []) ≡ others r (waiting c)
  -- a request is assigned: it is held no more
  pub held-assign : (c : Trace) (t r p : ℕ) → held (c ++ entry t (row.Assign r p) ∷ []) ≡ others r (held c)
  -- a request runs: it is queued no more
  pub queued_at-run : (c : Trace) (t r p : ℕ) → queued_at (c ++ entry t (row.Run r) ∷ []) p ≡ others r (queued_at c p)
  -- after the first queued request runs the others are queued
  pub queued-next : (c : Trace) (t p r : ℕ) (rs : List ℕ) → queued_at c p ≡ r ∷ rs → AreDistinct (r ∷ rs) → queued_at (c ++ entry t (row.Run r) ∷ []) p ≡ rs
  -- a removed pod drains no more
  pub draining-remove : (c : Trace) (t p q : ℕ) → contains q (draining (c ++ entry t (row.Remove p) ∷ [])) ≡ (contains q (draining c) && not (p == q))

-- who is in a view
pub record MemberFacts : Type 0 where
  -- a live request was taken in and has not ended
  pub live_member : (c : Trace) (r : ℕ) → contains r (live c) ≡ true → (contains r (each_row taken_by c) ≡ true) × (ended c r ≡ false)
  -- a held request is admitted, and neither assigned nor ended
  pub held_member : (c : Trace) (r : ℕ) → contains r (held c) ≡ true → IsHeldMember c r
  -- a waiting one was taken in and is idle
  pub waiting_member : (c : Trace) (r : ℕ) → contains r (waiting c) ≡ true → (contains r (each_row taken_by c) ≡ true) × IsIdle c r
  -- who is at a pod came to it, and has not ended
  pub at_pod_member : (c : Trace) (p r : ℕ) → contains r (at_pod c p) ≡ true → (contains r (each_row (brought_to p) c) ≡ true) × (ended c r ≡ false)
  -- a queued one came to its pod and is idle
  pub queued_member : (c : Trace) (p r : ℕ) → contains r (queued_at c p) ≡ true → (contains r (each_row (brought_to p) c) ≡ true) × IsIdle c r
  -- a running request has begun, and has not ended
  pub running_parts : (c : Trace) (r : ℕ) → is_running c r ≡ true → ((assigned c r || has_run c r) ≡ true) × (ended c r ≡ false)
  -- a queued request of a pod is there
  pub queued_at_pod : (c : Trace) (p r : ℕ) → contains r (queued_at c p) ≡ true → contains r (at_pod c p) ≡ true
  -- a request that was taken in and has not ended is live
  pub is_live : (c : Trace) (r : ℕ) → contains r (each_row taken_by c) ≡ true → ended c r ≡ false → contains r (live c) ≡ true
  -- a live request is live once
  pub live_distinct : (c : Trace) → IsNumbered c → AreDistinct (live c)
  -- who is at a pod is live
  pub at_pod_live : (c : Trace) (p r : ℕ) → IsNumbered c → contains r (at_pod c p) ≡ true → contains r (live c) ≡ true
  -- the views in their own words are those by place
  pub by_place : (c : Trace) → IsNumbered c → AreByPlace c
  -- a request that has begun was taken in
  pub begun_taken : (c : Trace) (r : ℕ) → IsNumbered c → (assigned c r || has_run c r) ≡ true → contains r (each_row taken_by c) ≡ true
  -- a request that came to a pod was taken in
  pub moved_taken : (c : Trace) (r : ℕ) → IsNumbered c → contains r (each_row moved_by c) ≡ true → contains r (each_row taken_by c) ≡ true
  -- a request that came to pod p and was not assigned is a direct one
  pub brought_directed : (c : Trace) (p r : ℕ) → contains r (each_row (brought_to p) c) ≡ true → assigned c r ≡ false → contains r (each_row directed_by c) ≡ true
  -- a request that was taken in has come
  pub taken_comes : (c : Trace) (r : ℕ) → IsNumbered c → contains r (each_row taken_by c) ≡ true → r < arrivals c
  -- no row is about the next request
  pub next_unnamed : (c : Trace) → IsNumbered c → contains (arrivals c) (each_row named_by c) ≡ false
  -- a request that came to no pod has none
  pub pod-none : (r : ℕ) (c : Trace) → contains r (each_row moved_by c) ≡ false → each_row (pod_by r) c ≡ []
  -- and no pod is given to one that came to none
  pub moved-none : (r : ℕ) (c : Trace) → each_row (pod_by r) c ≡ [] → contains r (each_row moved_by c) ≡ false
  -- a request that was sent to a pod is there
  pub pod_is : (c : Trace) (p r : ℕ) → IsNumbered c → contains r (each_row (brought_to p) c) ≡ true → pod_of c r ≡ Some p
  -- each is held once
  pub held_distinct : (c : Trace) → IsNumbered c → AreDistinct (held c)
  -- each is queued once
  pub queued_distinct : (c : Trace) (p : ℕ) → IsNumbered c → AreDistinct (queued_at c p)
  -- which pods live
  pub contains-live_pods : (c : Trace) (q : ℕ) → contains q (live_pods c) ≡ (contains q (each_row created_by c) && not (contains q (each_row gone_by c)))
  -- which pods start
  pub contains-starting : (c : Trace) (q : ℕ) → contains q (starting_pods c)
      ≡ (contains q (each_row created_by c) && (not (contains q (each_row readied_by c)) && not (contains q (each_row drained_by c)) && not (contains q (each_row gone_by c))))
  -- those that do not drain are the starting and the Ready ones
  pub length-drain_order : (c : Trace) → length (drain_order c) ≡ length (starting_pods c) + length (ready_pods c)
  -- a pod that was created has a number below the next one
  pub created_comes : (c : Trace) (p : ℕ) → ArePodsNumbered c → contains p (each_row created_by c) ≡ true → p < created c
  -- a live pod was created
  pub live_pod_created : (c : Trace) (p : ℕ) → contains p (live_pods c) ≡ true → contains p (each_row created_by c) ≡ true
  -- a starting pod is live
  pub starting_live : (c : Trace) (p : ℕ) → contains p (starting_pods c) ≡ true → contains p (live_pods c) ≡ true
  -- where none is chosen no Ready pod has a free seat
  pub choice-none : (s : Spec) (c : Trace) → choice s c ≡ None → (p : ℕ) → contains p (ready_pods c) ≡ true → has_free_seat c p ≡ false
  -- where an assignment comes next there is room for it
  pub next_choice-good : (s : Spec) (c : Trace) (p : ℕ) → next_choice s c ≡ Some p → (in_use c < capacity s c) × (contains p (ready_pods c) ≡ true) × (has_free_seat c p ≡ true)

-- proper rows, one after the other, and what they keep
pub record ProperFacts : Type 0 where
  -- who is taken in has the next number
  pub taken_next : (s : Spec) (c : Trace) (x : Row) (r : ℕ) → IsProper s c x → taken_by x ≡ Some r → r ≡ arrivals c
  -- and so has a new pod
  pub created_next : (s : Spec) (c : Trace) (x : Row) (p : ℕ) → IsProper s c x → created_by x ≡ Some p → p ≡ created c
  -- the starting pods are listed by ascending numbers
  pub starting_ascend : (s : Spec) (c : Trace) → IsMade s c → Ascend (starting_pods c)
  -- what is kept holds before the first row
  pub kept-nil : (s : Spec) → Kept s []
  -- a proper row keeps it
  pub Kept-push : (s : Spec) (c : Trace) (e : Entry) → Kept s c → IsProper s c e.row → Kept s (c ++ e ∷ [])
  -- so do many
  pub Holds-kept : (s : Spec) (b c : Trace) → Kept s b → Holds (IsProper s) b c → Kept s (b ++ c)
  -- proper rows after proper rows
  pub holds_both : (s : Spec) (b xs ys : Trace) → Holds (IsProper s) b xs → Holds (IsProper s) (b ++ xs) ys → Holds (IsProper s) b (xs ++ ys)
  -- so it holds of each trace that was made
  pub made_kept : (s : Spec) (c : Trace) → IsMade s c → Kept s c
  -- each row of a trace that was made was proper when it came, and what came before it was made
  pub made_at : (s : Spec) (c before : Trace) (e : Entry) (rest : Trace) → IsMade s c → c ≡ before ++ e ∷ rest → IsMade s before × IsProper s before e.row
  -- its record goes on by one step at a proper row
  pub admission_made : (s : Spec) (c : Trace) (t : ℕ) (x : Row) → IsMade s c → IsProper s c x → admission (c ++ entry t x ∷ []) ≡ stepped t x (admission c)
  -- proper rows go on a trace that was made
  pub made_more : (s : Spec) (c es : Trace) → IsMade s c → Holds (IsProper s) c es → IsMade s (c ++ es)
  -- the opening was made
  pub made_opening : (s : Spec) (start : ℕ) → IsMade s (opening s start)
  -- a trace that was made stays one at each event
  pub made_react : (s : Spec) (c : Trace) (e : Event) → IsMade s c → IsMade s (c ++ react s c e)
  -- the trace of a journal's events was made
  pub made_trace : (s : Spec) (start : ℕ) (es : List Event) → IsMade s (trace_of s start es)
  -- the expiries are proper where they come
  pub expiries-hold : (s : Spec) (t : ℕ) (c : Trace) → IsNumbered c → Holds (IsProper s) c (expiries s t c)
  -- so are all that come before the act's own row
  pub departures-hold : (s : Spec) (c : Trace) (e : Event) → Kept s c → Holds (IsProper s) c (departures s c e)
  -- after them a pod that the act loses has no request any more
  pub departures-clear : (s : Spec) (c : Trace) (e : Event) → Kept s c → IsCleared (c ++ departures s c e) e.act
  -- then the row of the act is proper, whichever it is
  pub act-holds : (s : Spec) (t : ℕ) (c : Trace) (a : Act) → IsCleared c a → Holds (IsProper s) c (entries_of t (act_row s c a))
  -- so are the autoscaler's rows: those of a tick
  pub tick-holds : (s : Spec) (t : ℕ) (c : Trace) → Kept s c → Holds (IsProper s) c (tick_rows s t c)
  -- those of an arrival while no pod is wanted
  pub wake_where-holds : (b : Bool) (s : Spec) (t : ℕ) (c : Trace) → Kept s c → Holds (IsProper s) c (wake_where b s t c)
  -- those of any act
  pub scaler-holds : (k : Kind) (s : Spec) (t : ℕ) (c : Trace) (a : Act) (did : Option Row) → Kept s c → Holds (IsProper s) c (scaler_rows k s t c a did)
  -- so is the activation
  pub activation-holds : (s : Spec) (t : ℕ) (c : Trace) → Holds (IsProper s) c (activation t c)
  -- so are the runs at one pod
  pub promotions_at-hold : (s : Spec) (t : ℕ) (c : Trace) (p : ℕ) (rs : List ℕ) → queued_at c p ≡ rs → AreDistinct rs → Holds (IsProper s) c (promotions_at t c p rs)
  -- those at each pod in turn
  pub promotions-hold : (s : Spec) (t : ℕ) (c : Trace) (ps : List ℕ) → Kept s c → Holds (IsProper s) c (promotions t c ps)
  -- and the assignments
  pub held_assignments-hold : (s : Spec) (t : ℕ) (c : Trace) → IsNumbered c → Holds (IsProper s) c (held_assignments s t c)
  -- so are all rows before the settling
  pub before-holds : (s : Spec) (c : Trace) (e : Event) → Kept s c → Holds (IsProper s) c (before_settling s c e)
  -- those of the settling
  pub settling-holds : (s : Spec) (t : ℕ) (c : Trace) → Kept s c → Holds (IsProper s) c (settling s t c)
  -- and all that an event adds
  pub react-holds : (s : Spec) (c : Trace) (e : Event) → Kept s c → Holds (IsProper s) c (react s c e)

pub record Facts : Type 0 where
  pub lists : ListFacts
  pub kinds : KindFacts
  pub entries : EntryFacts
  pub views : ViewFacts
  pub members : MemberFacts
  pub proper : ProperFacts
