-- The queue of a pod, in its own words and by place: both are in the order of the requests' arrival.
use Rattle.std.proofs.Common.{◌≡◌, ℕ, Bool, true, false, not, cond, ◌&&◌, ◌||◌, List, [], ◌∷◌, refl, sym, ap, ◌∙◌}
use Rattle.std.specs.Prelude.{Option, None, Some, ◌==◌}
use Rattle.std.specs.Bool.{then_some}
use Rattle.std.specs.List.{filter, cons_option}
use Rattle.std.proofs.lemmas.Bool.{eq-eqb}
use Rattle.kn_event.specs.declared.entry.Entry.{Entry}
use Rattle.kn_event.specs.declared.entry.Row.{Row}
use Rattle.kn_event.specs.declared.entry.Row.TheVariants as row
use Rattle.kn_event.specs.Lists.{contains}
use Rattle.kn_trace.specs.Rows.{admitted_by, assigned_by, brought_to, directed_by, taken_by}
use Rattle.kn_trace.specs.Trace.{Trace, assigned, each_row, ended, has_begun, has_not_begun, has_run, pod_of, queued_at}
use Rattle.kn_record.specs.Admission.{place_at, place_of, placed, queues_at}
use Rattle.kn_record.specs.Made.{IsNumbered}
use Rattle.kn_record.proofs.Numbers.{admitted_taken, within-from}
use Rattle.kn_record.proofs.Words.{Agrees, agrees, and-none, in_first, in_rest, placed-filter, pod_is}

-- what a part d of the trace c says of its requests
record Fits (c d : Trace) : Type 0 where
  -- an assigned one has begun
  assigned : (r : ℕ) → contains r (each_row assigned_by d) ≡ true → has_not_begun c r ≡ false
  -- one that was sent to pod p is there
  sent : (r p : ℕ) → contains r (each_row (brought_to p) d) ≡ true → pod_of c r ≡ Some p
  -- an admitted one is in no queue
  admitted : (r p : ℕ) → contains r (each_row admitted_by d) ≡ true → queues_at p (place_of c r) ≡ false

fits_rest : (c d : Trace) (e : Entry) → Fits c (e ∷ d) → Fits c d
fits_rest c d e fits = record {
  assigned = λ r h. fits.assigned r (in_rest assigned_by r e d h);
  sent = λ r p h. fits.sent r p (in_rest (brought_to p) r e d h);
  admitted = λ r p h. fits.admitted r p (in_rest admitted_by r e d h);
}

-- a request that was sent to q is in the queue of p where that is q and it has neither begun nor ended
queue_by : (p q : ℕ) (s n g : Bool) → (not g && queues_at p (place_at (Some q) s n)) ≡ ((q == p) && (not (s || n) && not g))
queue_by p q true n true = sym (and-none (q == p))
queue_by p q true n false = sym (and-none (q == p))
queue_by p q false true true = sym (and-none (q == p))
queue_by p q false true false = sym (and-none (q == p))
queue_by p q false false true = sym (and-none (q == p))
queue_by p q false false false = by (q == p)
  where
    by : (b : Bool) → b ≡ (b && true)
    by true = refl
    by false = refl

queue_part : (c : Trace) (p : ℕ) (d : Trace) → Fits c d → filter (has_not_begun c) (each_row (brought_to p) d) ≡ filter (λ r. not (ended c r) && queues_at p (place_of c r)) (each_row taken_by d)
unfolding has_not_begun has_begun place_of
queue_part c p [] fits = refl
queue_part c p (e ∷ d) fits = by e.row refl (queue_part c p d (fits_rest c d e fits))
  where
    us : List ℕ
    us = each_row (brought_to p) d

    vs : List ℕ
    vs = each_row taken_by d

    assign : (r q : ℕ) (b : Bool) → has_not_begun c r ≡ false → filter (has_not_begun c) us ≡ filter (λ r. not (ended c r) && queues_at p (place_of c r)) vs
        → filter (has_not_begun c) (cons_option (then_some b r) us) ≡ filter (λ r. not (ended c r) && queues_at p (place_of c r)) vs
    assign r q true h rest = rw h rest
    assign r q false h rest = rest

    direct : (r q : ℕ) (b : Bool) → (q == p) ≡ b → pod_of c r ≡ Some q → filter (has_not_begun c) us ≡ filter (λ r. not (ended c r) && queues_at p (place_of c r)) vs
        → filter (has_not_begun c) (cons_option (then_some b r) us) ≡ filter (λ r. not (ended c r) && queues_at p (place_of c r)) (r ∷ vs)
    direct r q true m h rest =
        let raw : (not (ended c r) && queues_at p (place_of c r)) ≡ ((q == p) && has_not_begun c r) = rw h (queue_by p q (assigned c r) (has_run c r) (ended c r)) in
        two (has_not_begun c r) refl (rw m at raw)
      where
        two : (b : Bool) → has_not_begun c r ≡ b → (not (ended c r) && queues_at p (place_of c r)) ≡ b → cond b (r ∷ filter (has_not_begun c) us) (filter (has_not_begun c) us) ≡ filter (λ r. not (ended c r) && queues_at p (place_of c r)) (r ∷ vs)
        two true e k = rw k (ap (λ (l : List ℕ). r ∷ l) rest)
        two false e k = rw k rest
    direct r q false m h rest =
        let raw : (not (ended c r) && queues_at p (place_of c r)) ≡ ((q == p) && has_not_begun c r) = rw h (queue_by p q (assigned c r) (has_run c r) (ended c r)) in
        let out : (not (ended c r) && queues_at p (place_of c r)) ≡ false = rw m at raw in
        rw out rest

    admit : (r : ℕ) → queues_at p (place_of c r) ≡ false → filter (has_not_begun c) us ≡ filter (λ r. not (ended c r) && queues_at p (place_of c r)) vs
        → filter (has_not_begun c) us ≡ filter (λ r. not (ended c r) && queues_at p (place_of c r)) (r ∷ vs)
    admit r h rest = rw (h, and-none (not (ended c r))) rest

    by : (x : Row) → e.row ≡ x → filter (has_not_begun c) us ≡ filter (λ r. not (ended c r) && queues_at p (place_of c r)) vs
        → filter (has_not_begun c) (cons_option (brought_to p x) us) ≡ filter (λ r. not (ended c r) && queues_at p (place_of c r)) (cons_option (taken_by x) vs)
    by (row.Assign r q) k rest = assign r q (q == p) (fits.assigned r (in_first assigned_by r e d (ap assigned_by k))) rest
    by (row.Direct r q) k rest = direct r q (q == p) refl (fits.sent r q (in_first (brought_to q) r e d (ap (brought_to q) k ∙ rw (eq-eqb q q refl) refl))) rest
    by (row.Admit r tag) k rest = admit r (fits.admitted r p (in_first admitted_by r e d (ap admitted_by k))) rest
    by x k rest = rest

-- a whole trace fits itself
fits_whole : (c : Trace) → IsNumbered c → Fits c c
unfolding has_not_begun has_begun place_of assigned
fits_whole c num = record {
  assigned = λ r h. rw h refl;
  sent = λ r p h. pod_is c p r num h;
  admitted = λ r p h. idle p (assigned c r) (has_run c r) (contains r (each_row directed_by c)) (pod_of c r) (agrees c r num (within-from admitted_by taken_by admitted_taken r c h)) h;
}
  where
    idle : {a : Bool} (p : ℕ) (s n d : Bool) (o : Option ℕ) → Agrees a d s n o → a ≡ true → queues_at p (place_at o s n) ≡ false
    idle p s n d None x h = refl
    idle p true n d (Some q) x h = refl
    idle p false true d (Some q) x h = refl
    idle p false false true (Some q) x h = absurd (let e = x.direct refl in cc)
    idle p false false false (Some q) x h = absurd (let e = x.there refl in cc)

-- a pod's queue in its own words is that by place
pub queued_at-placed : (c : Trace) (p : ℕ) → IsNumbered c → queued_at c p ≡ placed (queues_at p) c
unfolding queued_at
queued_at-placed c p num = queue_part c p c (fits_whole c num) ∙ sym (placed-filter (queues_at p) c)
