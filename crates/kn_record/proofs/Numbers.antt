-- A proper row keeps the numbering of requests.
use Rattle.std.proofs.Common.{◌≡◌, ℕ, ◌+◌, ◌<◌, Bool, true, false, not, ◌||◌, ◌⊎◌, inl, inr, List, [], ◌∷◌, ◌++◌, refl, sym, ap, ◌∙◌, arith, append-nil}
use Rattle.std.specs.Prelude.{Option, None, Some, ◌==◌}
use Rattle.std.specs.Bool.{then_some}
use Rattle.std.specs.List.{filter, cons_option}
use Rattle.std.proofs.lemmas.Bool.{eqb-true, eq-eqb, or_cases, or_parts, and_parts, not-true, false_from_ne_true, true_from_ne_false}
use Rattle.kn_event.specs.declared.entry.Entry.{Entry}
use Rattle.kn_event.specs.declared.entry.Row.{Row}
use Rattle.kn_event.specs.declared.entry.Row.TheVariants as row
use Rattle.kn_event.specs.declared.revision.Spec.{Spec}
use Rattle.kn_event.specs.Lists.{contains}
use Rattle.kn_trace.specs.Rows.{arrived_by, admitted_by, taken_by, assigned_by, brought_to, directed_by, run_by, ended_by, refused_by, outcome_by, pod_by}
use Rattle.kn_trace.specs.Trace.{Trace, each_row, first_of, last_of, arrivals, assigned, at_pod, ended, has_begun, has_not_begun, has_run, held, is_held, is_running, live, pod_of, queued_at, waiting}
use Rattle.kn_record.specs.Rows.{named_by, moved_by, says, counted}
use Rattle.kn_record.specs.Made.{AreDistinct, IsNumbered, IsProper}
use Rattle.kn_record.specs.Kept.{IsIdle, IsHeldMember}
use Rattle.kn_record.proofs.Flags.{each_row-push, contains-push, assigned-push, has_run-push, arrivals-push}
use Rattle.kn_record.proofs.Members.{contains-filter, contains-split, contains-within, distinct-push}
use Rattle.kn_record.proofs.Requests.{IsNew}

-- ---- which rows a word is of: the kinds of rows are gone through here

pub ended_named : (x : Row) → (ended_by x ≡ None) ⊎ (ended_by x ≡ named_by x)
ended_named (row.Finish r ok) = inr refl
ended_named (row.Expire r) = inr refl
ended_named (row.Cancel r) = inr refl
ended_named (row.LostRequest r) = inr refl
ended_named _ = inl refl

pub taken_named : (x : Row) → (taken_by x ≡ None) ⊎ (taken_by x ≡ named_by x)
taken_named (row.Admit r tag) = inr refl
taken_named (row.Direct r p) = inr refl
taken_named _ = inl refl

pub refused_named : (x : Row) → (refused_by x ≡ None) ⊎ (refused_by x ≡ named_by x)
refused_named (row.QueueFull r pod) = inr refl
refused_named (row.Overload r) = inr refl
refused_named _ = inl refl

pub admitted_named : (x : Row) → (admitted_by x ≡ None) ⊎ (admitted_by x ≡ named_by x)
admitted_named (row.Admit r tag) = inr refl
admitted_named _ = inl refl

pub directed_named : (x : Row) → (directed_by x ≡ None) ⊎ (directed_by x ≡ named_by x)
directed_named (row.Direct r p) = inr refl
directed_named _ = inl refl

pub assigned_named : (x : Row) → (assigned_by x ≡ None) ⊎ (assigned_by x ≡ named_by x)
assigned_named (row.Assign r p) = inr refl
assigned_named _ = inl refl

pub moved_named : (x : Row) → (moved_by x ≡ None) ⊎ (moved_by x ≡ named_by x)
moved_named (row.Assign r p) = inr refl
moved_named (row.Direct r p) = inr refl
moved_named _ = inl refl

pub run_named : (x : Row) → (run_by x ≡ None) ⊎ (run_by x ≡ named_by x)
run_named (row.Run r) = inr refl
run_named _ = inl refl

pub admitted_taken : (x : Row) → (admitted_by x ≡ None) ⊎ (admitted_by x ≡ taken_by x)
admitted_taken (row.Admit r tag) = inr refl
admitted_taken _ = inl refl

pub directed_taken : (x : Row) → (directed_by x ≡ None) ⊎ (directed_by x ≡ taken_by x)
directed_taken (row.Direct r p) = inr refl
directed_taken _ = inl refl

pub brought_moved : (p : ℕ) (x : Row) → (brought_to p x ≡ None) ⊎ (brought_to p x ≡ moved_by x)
brought_moved p (row.Assign r q) = by (q == p)
  where
    by : (b : Bool) → (then_some b r ≡ None) ⊎ (then_some b r ≡ Some r)
    by true = inr refl
    by false = inl refl
brought_moved p (row.Direct r q) = by (q == p)
  where
    by : (b : Bool) → (then_some b r ≡ None) ⊎ (then_some b r ≡ Some r)
    by true = inr refl
    by false = inl refl
brought_moved p _ = inl refl

pub taken_parts : (x : Row) → ((admitted_by x ≡ taken_by x) × (directed_by x ≡ None)) ⊎ ((admitted_by x ≡ None) × (directed_by x ≡ taken_by x))
taken_parts (row.Admit r tag) = inl (refl, refl)
taken_parts (row.Direct r p) = inr (refl, refl)
taken_parts _ = inl (refl, refl)

pub moved_parts : (x : Row) → ((assigned_by x ≡ moved_by x) × (directed_by x ≡ None)) ⊎ ((assigned_by x ≡ None) × (directed_by x ≡ moved_by x))
moved_parts (row.Assign r p) = inl (refl, refl)
moved_parts (row.Direct r p) = inr (refl, refl)
moved_parts _ = inl (refl, refl)

pub outcome_parts : (x : Row) → ((ended_by x ≡ outcome_by x) × (refused_by x ≡ None)) ⊎ ((ended_by x ≡ None) × (refused_by x ≡ outcome_by x))
outcome_parts (row.Finish r ok) = inl (refl, refl)
outcome_parts (row.Expire r) = inl (refl, refl)
outcome_parts (row.Cancel r) = inl (refl, refl)
outcome_parts (row.LostRequest r) = inl (refl, refl)
outcome_parts (row.QueueFull r pod) = inr (refl, refl)
outcome_parts (row.Overload r) = inr (refl, refl)
outcome_parts _ = inl (refl, refl)

-- a row that brings no request r to a pod
pub pod_moved : (r : ℕ) (x : Row) → pod_by r x ≡ None → says (moved_by x) r ≡ false
pod_moved r (row.Assign q p) h = by (q == r) h
  where
    by : (b : Bool) → then_some b p ≡ None → b ≡ false
    by true e = absurd (cc)
    by false e = refl
pod_moved r (row.Direct q p) h = by (q == r) h
  where
    by : (b : Bool) → then_some b p ≡ None → b ≡ false
    by true e = absurd (cc)
    by false e = refl
pod_moved r _ h = refl

pub moved_pod : (r : ℕ) (x : Row) → says (moved_by x) r ≡ false → pod_by r x ≡ None
moved_pod r (row.Assign q p) h = rw h refl
moved_pod r (row.Direct q p) h = rw h refl
moved_pod r _ h = refl

-- ---- members of views

pub first_member : (r : ℕ) (xs : List ℕ) → first_of xs ≡ Some r → contains r xs ≡ true
first_member r [] h = absurd (cc)
first_member r (x ∷ xs) h = let e : x ≡ r = cc in rw (e, eq-eqb r r refl) refl

pub filter_member : (t : ℕ → Bool) (r : ℕ) (xs : List ℕ) → contains r (filter t xs) ≡ true → (contains r xs ≡ true) × (t r ≡ true)
filter_member t r xs h = and_parts (contains r xs) (t r) (sym (contains-filter t r xs) ∙ h)

pub in_filter : (t : ℕ → Bool) (r : ℕ) (xs : List ℕ) → contains r xs ≡ true → t r ≡ true → contains r (filter t xs) ≡ true
in_filter t r xs h k = contains-filter t r xs ∙ rw (h, k) refl

-- f's rows are g's
pub within-from : (f g : Row → Option ℕ) → ((x : Row) → (f x ≡ None) ⊎ (f x ≡ g x)) → (r : ℕ) (c : Trace) → contains r (each_row f c) ≡ true → contains r (each_row g c) ≡ true
within-from f g part r c h = true_from_ne_false (contains r (each_row g c)) (λ e. let no = contains-within f g part r c e in absurd (cc))

pub named-from : (f : Row → Option ℕ) → ((x : Row) → (f x ≡ None) ⊎ (f x ≡ named_by x)) → (r : ℕ) (c : Trace) → contains r (each_row f c) ≡ true → contains r (each_row named_by c) ≡ true
named-from f part r c h = within-from f named_by part r c h

pub live_member : (c : Trace) (r : ℕ) → contains r (live c) ≡ true → (contains r (each_row taken_by c) ≡ true) × (ended c r ≡ false)
unfolding live
live_member c r h = let both = filter_member (λ r. not (ended c r)) r (each_row taken_by c) h in (both.0, not-true (ended c r) both.1)

-- a held request is admitted, and neither assigned nor ended
pub held_member : (c : Trace) (r : ℕ) → contains r (held c) ≡ true → IsHeldMember c r
unfolding held is_held
held_member c r h =
    let both = filter_member (is_held c) r (each_row admitted_by c) h in
    let tests = and_parts (not (assigned c r)) (not (ended c r)) both.1 in
    record { admitted = both.0; assigned = not-true (assigned c r) tests.0; ended = not-true (ended c r) tests.1 }

pub not_begun : (c : Trace) (r : ℕ) → has_not_begun c r ≡ true → IsIdle c r
unfolding has_not_begun has_begun
not_begun c r h =
    let tests = and_parts (not (assigned c r || has_run c r)) (not (ended c r)) h in
    let both = or_parts (assigned c r) (has_run c r) (not-true (assigned c r || has_run c r) tests.0) in
    record { assigned = both.0; run = both.1; ended = not-true (ended c r) tests.1 }

-- a waiting one was taken in and is idle
pub waiting_member : (c : Trace) (r : ℕ) → contains r (waiting c) ≡ true → (contains r (each_row taken_by c) ≡ true) × IsIdle c r
unfolding waiting
waiting_member c r h = let both = filter_member (has_not_begun c) r (each_row taken_by c) h in (both.0, not_begun c r both.1)

-- a queued one came to its pod and is idle
pub queued_member : (c : Trace) (p r : ℕ) → contains r (queued_at c p) ≡ true → (contains r (each_row (brought_to p) c) ≡ true) × IsIdle c r
unfolding queued_at
queued_member c p r h = let both = filter_member (has_not_begun c) r (each_row (brought_to p) c) h in (both.0, not_begun c r both.1)

-- a queued request of a pod is there
pub queued_at_pod : (c : Trace) (p r : ℕ) → contains r (queued_at c p) ≡ true → contains r (at_pod c p) ≡ true
unfolding at_pod
queued_at_pod c p r h = let both = queued_member c p r h in in_filter (λ r. not (ended c r)) r (each_row (brought_to p) c) both.0 (rw both.1.ended refl)

-- who is at a pod came to it, and has not ended
pub at_pod_member : (c : Trace) (p r : ℕ) → contains r (at_pod c p) ≡ true → (contains r (each_row (brought_to p) c) ≡ true) × (ended c r ≡ false)
unfolding at_pod
at_pod_member c p r h = let both = filter_member (λ r. not (ended c r)) r (each_row (brought_to p) c) h in (both.0, not-true (ended c r) both.1)

-- a running request has begun, and has not ended
pub running_parts : (c : Trace) (r : ℕ) → is_running c r ≡ true → ((assigned c r || has_run c r) ≡ true) × (ended c r ≡ false)
unfolding is_running has_begun
running_parts c r h = let both = and_parts (assigned c r || has_run c r) (not (ended c r)) h in (both.0, not-true (ended c r) both.1)

-- a request that has begun was taken in
pub begun_taken : (c : Trace) (r : ℕ) → IsNumbered c → (assigned c r || has_run c r) ≡ true → contains r (each_row taken_by c) ≡ true
begun_taken c r num h = by (or_cases (assigned c r) (has_run c r) h)
  where
    by : (assigned c r ≡ true) ⊎ (has_run c r ≡ true) → contains r (each_row taken_by c) ≡ true
    by (inl a) = within-from admitted_by taken_by admitted_taken r c (num.assigned r a)
    by (inr a) = within-from directed_by taken_by directed_taken r c (num.ran r a)

-- a request that came to a pod was taken in
pub moved_taken : (c : Trace) (r : ℕ) → IsNumbered c → contains r (each_row moved_by c) ≡ true → contains r (each_row taken_by c) ≡ true
unfolding assigned
moved_taken c r num h = by (or_cases (contains r (each_row assigned_by c)) (contains r (each_row directed_by c)) (sym (contains-split moved_by assigned_by directed_by moved_parts r c) ∙ h))
  where
    by : (contains r (each_row assigned_by c) ≡ true) ⊎ (contains r (each_row directed_by c) ≡ true) → contains r (each_row taken_by c) ≡ true
    by (inl a) = within-from admitted_by taken_by admitted_taken r c (num.assigned r a)
    by (inr a) = within-from directed_by taken_by directed_taken r c a

-- ---- the next number

-- a request that was taken in has come
pub taken_comes : (c : Trace) (r : ℕ) → IsNumbered c → contains r (each_row taken_by c) ≡ true → r < arrivals c
taken_comes c r num h = num.come r (named-from taken_by taken_named r c h)

-- no row is about the next request
pub next_unnamed : (c : Trace) → IsNumbered c → contains (arrivals c) (each_row named_by c) ≡ false
next_unnamed c num = false_from_ne_true (contains (arrivals c) (each_row named_by c)) (λ e. let less = num.come (arrivals c) e in absurd (omega arith))

-- a request that came to no pod has none
pub pod-none : (r : ℕ) (c : Trace) → contains r (each_row moved_by c) ≡ false → each_row (pod_by r) c ≡ []
pod-none r [] h = refl
pod-none r (e ∷ c) h = by (moved_by e.row) (moved_pod r e.row) h (pod-none r c)
  where
    by : (o : Option ℕ) → (says o r ≡ false → pod_by r e.row ≡ None) → contains r (cons_option o (each_row moved_by c)) ≡ false → (contains r (each_row moved_by c) ≡ false → each_row (pod_by r) c ≡ [])
        → cons_option (pod_by r e.row) (each_row (pod_by r) c) ≡ []
    by None none h rest = rw (none refl) (rest h)
    by (Some q) none h rest = let both = or_parts (q == r) _ h in rw (none both.0) (rest both.1)

-- a request that no row is about
pub is_new : (c : Trace) (r : ℕ) → contains r (each_row named_by c) ≡ false → IsNew c r
unfolding ended assigned has_run pod_of
is_new c r h = record {
  ended = contains-within ended_by named_by ended_named r c h;
  assigned = contains-within assigned_by named_by assigned_named r c h;
  run = contains-within run_by named_by run_named r c h;
  pod = rw (pod-none r c (contains-within moved_by named_by moved_named r c h)) refl;
}

pub last_of-none : (xs : List ℕ) → last_of xs ≡ None → xs ≡ []
last_of-none [] h = refl
last_of-none (x ∷ xs) h = absurd (cc)

-- and the other way round
pub moved-none : (r : ℕ) (c : Trace) → each_row (pod_by r) c ≡ [] → contains r (each_row moved_by c) ≡ false
moved-none r [] h = refl
moved-none r (e ∷ c) h = by (pod_by r e.row) (pod_moved r e.row) h (moved-none r c)
  where
    two : (o : Option ℕ) → says o r ≡ false → contains r (each_row moved_by c) ≡ false → contains r (cons_option o (each_row moved_by c)) ≡ false
    two None s h = h
    two (Some q) s h = rw s h

    by : (o : Option ℕ) → (o ≡ None → says (moved_by e.row) r ≡ false) → cons_option o (each_row (pod_by r) c) ≡ [] → (each_row (pod_by r) c ≡ [] → contains r (each_row moved_by c) ≡ false)
        → contains r (cons_option (moved_by e.row) (each_row moved_by c)) ≡ false
    by None none h rest = two (moved_by e.row) (none refl) (rest h)
    by (Some p) none h rest = absurd (cc)

-- a request that came to pod p and was not assigned is a direct one
pub brought_directed : (c : Trace) (p r : ℕ) → contains r (each_row (brought_to p) c) ≡ true → assigned c r ≡ false → contains r (each_row directed_by c) ≡ true
unfolding assigned
brought_directed c p r h a =
    let moved = within-from (brought_to p) moved_by (brought_moved p) r c h in
    let split = contains-split moved_by assigned_by directed_by moved_parts r c in
    second (contains r (each_row assigned_by c)) (contains r (each_row directed_by c)) a (sym split ∙ moved)
  where
    second : (a d : Bool) → a ≡ false → (a || d) ≡ true → d ≡ true
    second true d e k = absurd (cc)
    second false d e k = k

-- a held request came to no pod
pub held_unmoved : (c : Trace) (r : ℕ) → IsNumbered c → IsHeldMember c r → contains r (each_row moved_by c) ≡ false
unfolding assigned
held_unmoved c r num held' =
    contains-split moved_by assigned_by directed_by moved_parts r c
    ∙ rw (held'.assigned) (false_from_ne_true (contains r (each_row directed_by c)) (λ d. let no = num.direct r d in let yes_it_is = held'.admitted in absurd (cc)))

-- ---- one more row

pub record KeepsNumbers (c : Trace) (x : Row) : Type 0 where
  pub come : (r : ℕ) → named_by x ≡ Some r → r < arrivals c + counted (arrived_by x)
  pub fresh : (r : ℕ) → arrived_by x ≡ Some r → contains r (each_row named_by c) ≡ false
  pub assign : (r : ℕ) → assigned_by x ≡ Some r → (contains r (each_row admitted_by c) ≡ true) × (contains r (each_row moved_by c) ≡ false)
  pub run : (r : ℕ) → run_by x ≡ Some r → contains r (each_row directed_by c) ≡ true

pub says-true : (o : Option ℕ) (r : ℕ) → says o r ≡ true → o ≡ Some r
says-true None r h = absurd (cc)
says-true (Some q) r h = ap (λ (n : ℕ). Some n) (eqb-true q r h)

says-none : (o : Option ℕ) (r : ℕ) → o ≡ None → says o r ≡ false
says-none o r e = rw e refl

taken_arrived : (x : Row) (r : ℕ) → taken_by x ≡ Some r → (arrived_by x ≡ Some r) × (refused_by x ≡ None) × (assigned_by x ≡ None)
taken_arrived (row.Admit q tag) r h = (h, refl, refl)
taken_arrived (row.Direct q p) r h = (h, refl, refl)
taken_arrived _ r h = absurd (cc)

refused_arrived : (x : Row) (r : ℕ) → refused_by x ≡ Some r → (arrived_by x ≡ Some r) × (taken_by x ≡ None)
refused_arrived (row.QueueFull q pod) r h = (h, refl)
refused_arrived (row.Overload q) r h = (h, refl)
refused_arrived _ r h = absurd (cc)

directed_arrived : (x : Row) (r : ℕ) → directed_by x ≡ Some r → (arrived_by x ≡ Some r) × (admitted_by x ≡ None)
directed_arrived (row.Direct q p) r h = (h, refl)
directed_arrived _ r h = absurd (cc)

admitted_arrived : (x : Row) (r : ℕ) → admitted_by x ≡ Some r → (arrived_by x ≡ Some r) × (directed_by x ≡ None)
admitted_arrived (row.Admit q tag) r h = (h, refl)
admitted_arrived _ r h = absurd (cc)

moved_kinds : (x : Row) (r : ℕ) → moved_by x ≡ Some r → (assigned_by x ≡ Some r) ⊎ (arrived_by x ≡ Some r)
moved_kinds (row.Assign q p) r h = inl h
moved_kinds (row.Direct q p) r h = inr h
moved_kinds _ r h = absurd (cc)

-- one number more in a list of distinct ones, where there is one
pub distinct-option : (xs : List ℕ) (o : Option ℕ) → AreDistinct xs → ((r : ℕ) → o ≡ Some r → contains r xs ≡ false) → AreDistinct (xs ++ cons_option o [])
distinct-option xs None d fresh = rw (append-nil xs) d
distinct-option xs (Some r) d fresh = distinct-push xs r d (fresh r refl)

-- a row that keeps numbers keeps the numbering
pub IsNumbered-push : (c : Trace) (e : Entry) → IsNumbered c → KeepsNumbers c e.row → IsNumbered (c ++ e ∷ [])
IsNumbered-push c e num keeps = record {
  come = λ r h. rw (arrivals-push c e) (come r (or_cases _ _ (sym (contains-push named_by c e r) ∙ h)));
  once = rw (each_row-push taken_by c e) (distinct-option (each_row taken_by c) (taken_by e.row) num.once (λ r h. contains-within taken_by named_by taken_named r c (keeps.fresh r (taken_arrived e.row r h).0)));
  apart = λ r h. rw (contains-push taken_by c e r) (apart r (or_cases _ _ (sym (contains-push refused_by c e r) ∙ h)));
  direct = λ r h. rw (contains-push admitted_by c e r) (direct r (or_cases _ _ (sym (contains-push directed_by c e r) ∙ h)));
  assigned = λ r h. rw (contains-push admitted_by c e r) (assign r (or_cases _ _ (sym (assigned-push c e r) ∙ h)));
  ran = λ r h. rw (contains-push directed_by c e r) (ran r (or_cases _ _ (sym (has_run-push c e r) ∙ h)));
  moved = rw (each_row-push moved_by c e) (distinct-option (each_row moved_by c) (moved_by e.row) num.moved (λ r h. moved r (moved_kinds e.row r h)));
}
  where
    come : (r : ℕ) → (contains r (each_row named_by c) ≡ true) ⊎ (says (named_by e.row) r ≡ true) → r < arrivals c + counted (arrived_by e.row)
    come r (inl h) = let less = num.come r h in omega arith
    come r (inr h) = keeps.come r (says-true (named_by e.row) r h)

    unless : (r : ℕ) (b : Bool) → says (taken_by e.row) r ≡ b → contains r (each_row refused_by c) ≡ true → b ≡ false
    unless r true s h = absurd (let no = contains-within refused_by named_by refused_named r c (keeps.fresh r (taken_arrived e.row r (says-true _ r s)).0) in cc)
    unless r false s h = refl

    apart : (r : ℕ) → (contains r (each_row refused_by c) ≡ true) ⊎ (says (refused_by e.row) r ≡ true) → (contains r (each_row taken_by c) || says (taken_by e.row) r) ≡ false
    apart r (inl h) = rw (num.apart r h) (unless r _ refl h)
    apart r (inr h) =
        let a = refused_arrived e.row r (says-true _ r h) in
        rw (contains-within taken_by named_by taken_named r c (keeps.fresh r a.0)) (says-none _ r a.1)

    unless_direct : (r : ℕ) (b : Bool) → says (admitted_by e.row) r ≡ b → contains r (each_row directed_by c) ≡ true → b ≡ false
    unless_direct r true s h = absurd (let no = contains-within directed_by named_by directed_named r c (keeps.fresh r (admitted_arrived e.row r (says-true _ r s)).0) in cc)
    unless_direct r false s h = refl

    direct : (r : ℕ) → (contains r (each_row directed_by c) ≡ true) ⊎ (says (directed_by e.row) r ≡ true) → (contains r (each_row admitted_by c) || says (admitted_by e.row) r) ≡ false
    direct r (inl h) = rw (num.direct r h) (unless_direct r _ refl h)
    direct r (inr h) =
        let a = directed_arrived e.row r (says-true _ r h) in
        rw (contains-within admitted_by named_by admitted_named r c (keeps.fresh r a.0)) (says-none _ r a.1)

    assign : (r : ℕ) → (assigned c r ≡ true) ⊎ (says (assigned_by e.row) r ≡ true) → (contains r (each_row admitted_by c) || says (admitted_by e.row) r) ≡ true
    assign r (inl h) = rw (num.assigned r h) refl
    assign r (inr h) = rw ((keeps.assign r (says-true _ r h)).0) refl

    ran : (r : ℕ) → (has_run c r ≡ true) ⊎ (says (run_by e.row) r ≡ true) → (contains r (each_row directed_by c) || says (directed_by e.row) r) ≡ true
    ran r (inl h) = rw (num.ran r h) refl
    ran r (inr h) = rw (keeps.run r (says-true _ r h)) refl

    moved : (r : ℕ) → (assigned_by e.row ≡ Some r) ⊎ (arrived_by e.row ≡ Some r) → contains r (each_row moved_by c) ≡ false
    moved r (inl h) = (keeps.assign r h).1
    moved r (inr h) = contains-within moved_by named_by moved_named r c (keeps.fresh r h)

-- ---- a proper row

-- a row about a request that came, of none of the kinds that bring something new
keeps_known : (c : Trace) (x : Row) (r : ℕ) → r < arrivals c → named_by x ≡ Some r → arrived_by x ≡ None → assigned_by x ≡ None → run_by x ≡ None → KeepsNumbers c x
keeps_known c x r less named arrived assigned' run' = record {
  come = λ q e. let same : r ≡ q = cc in rw arrived (omega arith);
  fresh = λ q e. absurd (cc);
  assign = λ q e. absurd (cc);
  run = λ q e. absurd (cc);
}

keeps_arrival : (c : Trace) (x : Row) (r : ℕ) → IsNumbered c → r ≡ arrivals c → named_by x ≡ Some r → arrived_by x ≡ Some r → assigned_by x ≡ None → run_by x ≡ None → KeepsNumbers c x
keeps_arrival c x r num e named arrived assigned' run' = record {
  come = λ q h. let same : r ≡ q = cc in rw arrived (omega arith);
  fresh = λ q h. let same : q ≡ arrivals c = cc in rw same (next_unnamed c num);
  assign = λ q h. absurd (cc);
  run = λ q h. absurd (cc);
}

pub keeps_none : (c : Trace) (x : Row) → named_by x ≡ None → arrived_by x ≡ None → assigned_by x ≡ None → run_by x ≡ None → KeepsNumbers c x
keeps_none c x named arrived assigned' run' = record { come = λ q h. absurd (cc); fresh = λ q h. absurd (cc); assign = λ q h. absurd (cc); run = λ q h. absurd (cc) }

-- a proper row keeps numbers
pub proper_keeps : (s : Spec) (c : Trace) (x : Row) → IsNumbered c → IsProper s c x → KeepsNumbers c x
proper_keeps s c (row.Admit r tag) num p = keeps_arrival c (row.Admit r tag) r num p.0.number refl refl refl refl
proper_keeps s c (row.QueueFull r None) num p = keeps_arrival c (row.QueueFull r None) r num p.0.number refl refl refl refl
proper_keeps s c (row.QueueFull r (Some q)) num p = keeps_arrival c (row.QueueFull r (Some q)) r num p.0.number refl refl refl refl
proper_keeps s c (row.Overload r) num p = keeps_arrival c (row.Overload r) r num p.0 refl refl refl refl
proper_keeps s c (row.Direct r q) num p = keeps_arrival c (row.Direct r q) r num p.0.number refl refl refl refl
proper_keeps s c (row.Assign r q) num p =
    let member = held_member c r (first_member r (held c) p.first) in
    let less = taken_comes c r num (within-from admitted_by taken_by admitted_taken r c member.admitted) in
    record {
      come = λ u h. let same : r ≡ u = cc in omega arith;
      fresh = λ u h. absurd (cc);
      assign = λ u h. let same : r ≡ u = cc in rw (← same) (member.admitted, held_unmoved c r num member);
      run = λ u h. absurd (cc);
    }
proper_keeps s c (row.Run r) num p =
    let member = queued_member c p.0 r (first_member r (queued_at c p.0) p.1.first) in
    let direct = brought_directed c p.0 r member.0 member.1.assigned in
    let less = taken_comes c r num (within-from directed_by taken_by directed_taken r c direct) in
    record {
      come = λ u h. let same : r ≡ u = cc in omega arith;
      fresh = λ u h. absurd (cc);
      assign = λ u h. absurd (cc);
      run = λ u h. let same : r ≡ u = cc in rw (← same) direct;
    }
proper_keeps s c (row.Finish r ok) num p = keeps_known c (row.Finish r ok) r (taken_comes c r num (begun_taken c r num (running_parts c r p).0)) refl refl refl refl
proper_keeps s c (row.Expire r) num p = keeps_known c (row.Expire r) r (taken_comes c r num (waiting_member c r p).0) refl refl refl refl
proper_keeps s c (row.Cancel r) num p = keeps_known c (row.Cancel r) r (taken_comes c r num (waiting_member c r p).0) refl refl refl refl
proper_keeps s c (row.LostRequest r) num p = keeps_known c (row.LostRequest r) r (num.come r (named-from moved_by moved_named r c (within-from (brought_to p.0) moved_by (brought_moved p.0) r c (at_pod_member c p.0 r p.1).0))) refl refl refl refl
proper_keeps s c x num p = keeps_none c x refl refl refl refl
