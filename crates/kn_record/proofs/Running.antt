-- The rows of the settling are proper, and so all those of an event: a trace that events made stays one.
use Rattle.std.proofs.Common.{◌≡◌, ℕ, Bool, true, false, List, [], ◌∷◌, ◌++◌, map, refl, ap, ◌∙◌, append-nil, append_assoc}
use Rattle.std.specs.Prelude.{◌==◌}
use Rattle.std.specs.List.{filter}
use Rattle.std.proofs.lemmas.Bool.{eq-eqb, or_right}
use Rattle.kn_event.specs.declared.entry.Row.TheVariants as row
use Rattle.kn_event.specs.declared.event.Event.{Event}
use Rattle.kn_event.specs.declared.revision.Spec.{Spec}
use Rattle.kn_event.specs.Lists.{contains}
use Rattle.kn_trace.specs.Rows.{created_by}
use Rattle.kn_trace.specs.Trace.{Trace, entry, at_pod, draining, each_row, has_free_seat, held, is_draining, is_empty, live_pods, queued_at}
use Rattle.kn_trace.specs.Settling.{held_assignments, promotions, promotions_at, removals, settling, while_free}
use Rattle.kn_trace.specs.Events.{act_rows, activation, added, before_settling, departures, opening, react, trace_of}
use Rattle.kn_record.specs.Made.{AreDistinct, ArePodsNumbered, Holds, IsMade, IsNumbered, IsProper}
use Rattle.kn_record.specs.Views.{others}
use Rattle.kn_record.specs.Kept.{Kept}
use Rattle.kn_record.proofs.Members.{distinct-filter, filter-first}
use Rattle.kn_record.proofs.Numbers.{filter_member}
use Rattle.kn_record.proofs.Steps.{at_pod-quiet, is_quiet, queued_at-run}
use Rattle.kn_record.proofs.PodSteps.{draining-remove}
use Rattle.kn_record.proofs.Kept.{Holds-append, Holds-kept, made_kept}
use Rattle.kn_record.proofs.Reacting.{apart_from, assignments-hold, departures-clear, departures-hold, held_distinct, queued_distinct}
use Rattle.kn_record.proofs.Scaling.{activation-holds, acts-hold, made_opening}

-- ---- queued requests run

-- after the first queued request runs the others are queued
pub queued-next : (c : Trace) (t p r : ℕ) (rs : List ℕ) → queued_at c p ≡ r ∷ rs → AreDistinct (r ∷ rs) → queued_at (c ++ entry t (row.Run r) ∷ []) p ≡ rs
queued-next c t p r rs e d = queued_at-run c t r p ∙ ap (λ (l : List ℕ). others r l) e ∙ filter-first r rs d

pub promotions_at-hold : (s : Spec) (t : ℕ) (c : Trace) (p : ℕ) (rs : List ℕ) → queued_at c p ≡ rs → AreDistinct rs → Holds (IsProper s) c (promotions_at t c p rs)
unfolding promotions_at
promotions_at-hold s t c p [] e d = tt
promotions_at-hold s t c p (r ∷ rs) e d = by (has_free_seat c p) refl (promotions_at-hold s t (c ++ entry t (row.Run r) ∷ []) p rs (queued-next c t p r rs e d) d.1)
  where
    by : (b : Bool) → has_free_seat c p ≡ b → Holds (IsProper s) (c ++ entry t (row.Run r) ∷ []) (promotions_at t (c ++ entry t (row.Run r) ∷ []) p rs)
        → Holds (IsProper s) c (while_free b (entry t (row.Run r)) (λ x. promotions_at t (c ++ x ∷ []) p rs))
    by false h rest = tt
    by true h rest = ((p, record { first = rw e refl; free = h }), rest)

-- each run is of a pod's first queued request, while there is a free seat
pub promotions-hold : (s : Spec) (t : ℕ) (c : Trace) (ps : List ℕ) → Kept s c → Holds (IsProper s) c (promotions t c ps)
unfolding promotions
promotions-hold s t c [] kept = tt
promotions-hold s t c (p ∷ ps) kept =
    let here = promotions_at-hold s t c p (queued_at c p) refl (queued_distinct c p kept.requests) in
    Holds-append (IsProper s) c (promotions_at t c p (queued_at c p)) _ here (promotions-hold s t (c ++ promotions_at t c p (queued_at c p)) ps (Holds-kept s c (promotions_at t c p (queued_at c p)) kept here))

-- ---- empty draining pods go

removals-hold-list : (s : Spec) (t : ℕ) (c : Trace) (ps : List ℕ) → AreDistinct ps → ((p : ℕ) → contains p ps ≡ true → (contains p (draining c) ≡ true) × (at_pod c p ≡ []))
    → Holds (IsProper s) c (map (λ p. entry t (row.Remove p)) ps)
removals-hold-list s t c [] d all = tt
removals-hold-list s t c (p ∷ ps) d all = (
  all p (rw (eq-eqb p p refl) refl),
  removals-hold-list s t (c ++ entry t (row.Remove p) ∷ []) ps d.1
      (λ q h. let old = all q (or_right (p == q) (contains q ps) h) in (
        draining-remove c t p q ∙ rw (old.0) (apart_from p q ps d.0 h),
        at_pod-quiet c (entry t (row.Remove p)) q (is_quiet (row.Remove p) refl refl refl refl) ∙ old.1,
      )),
)

pub empty_list : (xs : List ℕ) → is_empty xs ≡ true → xs ≡ []
empty_list [] h = refl
empty_list (x ∷ xs) h = absurd (cc)

pub draining_distinct : (c : Trace) → ArePodsNumbered c → AreDistinct (draining c)
unfolding draining
draining_distinct c num = distinct-filter (is_draining c) (each_row created_by c) num.once

-- each removal is of an empty draining pod
pub removals-hold : (s : Spec) (t : ℕ) (c : Trace) → ArePodsNumbered c → Holds (IsProper s) c (removals t c)
unfolding removals
removals-hold s t c num =
    removals-hold-list s t c (filter (λ p. is_empty (at_pod c p)) (draining c)) (distinct-filter (λ p. is_empty (at_pod c p)) (draining c) (draining_distinct c num))
    (λ p h. let both = filter_member (λ p. is_empty (at_pod c p)) p (draining c) h in (both.0, empty_list (at_pod c p) both.1))

-- ---- the whole

pub held_assignments-hold : (s : Spec) (t : ℕ) (c : Trace) → IsNumbered c → Holds (IsProper s) c (held_assignments s t c)
unfolding held_assignments
held_assignments-hold s t c num = assignments-hold s t c (held c) refl (held_distinct c num)

-- the rows of a settling are proper
pub settling-holds : (s : Spec) (t : ℕ) (c : Trace) → Kept s c → Holds (IsProper s) c (settling s t c)
unfolding settling
settling-holds s t c kept =
    let ran = promotions t c (live_pods c) in
    let gave = held_assignments s t (c ++ ran) in
    let one = promotions-hold s t c (live_pods c) kept in
    let kept1 = Holds-kept s c ran kept one in
    let two = held_assignments-hold s t (c ++ ran) kept1.requests in
    let kept2 = Holds-kept s (c ++ ran) gave kept1 two in
    Holds-append (IsProper s) c (ran ++ gave) (removals t ((c ++ ran) ++ gave))
    (Holds-append (IsProper s) c ran gave one two)
    (rw (← append_assoc c ran gave) (removals-hold s t ((c ++ ran) ++ gave) kept2.pods))

-- so are those before it
pub before-holds : (s : Spec) (c : Trace) (e : Event) → Kept s c → Holds (IsProper s) c (before_settling s c e)
unfolding before_settling
before-holds s c e kept =
    let gone = departures s c e in
    let did = act_rows s e.time (c ++ gone) e.act in
    let one = departures-hold s c e kept in
    let kept1 = Holds-kept s c gone kept one in
    let two = acts-hold s e.time (c ++ gone) e.act kept1 (departures-clear s c e kept) in
    Holds-append (IsProper s) c (gone ++ did) (activation e.time ((c ++ gone) ++ did))
    (Holds-append (IsProper s) c gone did one two)
    (rw (← append_assoc c gone did) (activation-holds s e.time ((c ++ gone) ++ did)))

-- so are all of an event
pub react-holds : (s : Spec) (c : Trace) (e : Event) → Kept s c → Holds (IsProper s) c (react s c e)
unfolding react
react-holds s c e kept =
    let first = before_settling s c e in
    let one = before-holds s c e kept in
    Holds-append (IsProper s) c first (settling s e.time (c ++ first)) one (settling-holds s e.time (c ++ first) (Holds-kept s c first kept one))

-- proper rows go on a trace that was made
pub made_more : (s : Spec) (c es : Trace) → IsMade s c → Holds (IsProper s) c es → IsMade s (c ++ es)
made_more s c es made h = record { rows = Holds-append (IsProper s) [] c es made.rows h }

-- a trace that was made stays one at each event
pub made_react : (s : Spec) (c : Trace) (e : Event) → IsMade s c → IsMade s (c ++ react s c e)
made_react s c e made = record { rows = Holds-append (IsProper s) [] c (react s c e) made.rows (react-holds s c e (made_kept s c made)) }

pub made_added : (s : Spec) (c : Trace) (es : List Event) → IsMade s c → IsMade s (c ++ added s c es)
unfolding added
made_added s c [] made = rw (append-nil c) made
made_added s c (e ∷ es) made = rw (append_assoc c (react s c e) (added s (c ++ react s c e) es)) at (made_added s (c ++ react s c e) es (made_react s c e made))

-- the trace of a journal's events was made
pub made_trace : (s : Spec) (start : ℕ) (es : List Event) → IsMade s (trace_of s start es)
unfolding trace_of
made_trace s start es = made_added s (opening s start) es (made_opening s start)
