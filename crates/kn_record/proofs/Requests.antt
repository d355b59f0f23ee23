-- What one more entry changes of the live requests, kind by kind.
use Rattle.std.proofs.Common.{◌≡◌, ℕ, Bool, true, false, not, cond, ◌||◌, List, [], ◌∷◌, ◌++◌, refl, ap, ◌∙◌, append-nil, map}
use Rattle.std.specs.Prelude.{Option, None, Some, ◌==◌}
use Rattle.std.specs.Bool.{then_some}
use Rattle.std.specs.List.{filter, filter_map, cons_option, list_any}
use Rattle.std.proofs.lemmas.List.Elements.{filter_map-append}
use Rattle.std.proofs.Math.Bool.{or-false}
use Rattle.kn_event.specs.declared.entry.Entry.{Entry}
use Rattle.kn_event.specs.declared.entry.Row.TheVariants as row
use Rattle.kn_record.specs.declared.admission.Place.{Place}
use Rattle.kn_record.specs.declared.admission.Place.TheVariants as place
use Rattle.kn_record.specs.declared.admission.Request.{Request}
use Rattle.kn_trace.specs.Rows.{ended_by, assigned_by, run_by, pod_by, taken_by}
use Rattle.kn_trace.specs.Trace.{Trace, entry, ended, assigned, has_run, pod_of}
use Rattle.kn_record.specs.Admission.{place_at, place_of, request_of, live_requests, without, moved, moved_to, begun_at, begins}
use Rattle.std.proofs.lemmas.Bool.{eqb-true, eq-eqb}
use Rattle.kn_event.specs.Lists.{or_else}
use Rattle.kn_record.specs.Rows.{says}
use Rattle.kn_record.proofs.Flags.{ended-push, assigned-push, has_run-push, pod_of-push}

-- an optional request, changed
abbrev pub changed : {X : Type 0} → (X → Option X) → Option X → Option X
changed g None = None
changed g (Some q) = g q

pub filter_map-changed : {X : Type 0} (h k : Entry → Option X) (g : X → Option X) → ((e : Entry) → k e ≡ changed g (h e)) → (d : Trace) → filter_map k d ≡ filter_map g (filter_map h d)
filter_map-changed h k g same [] = refl
filter_map-changed {X} h k g same (e ∷ d) = rw (same e) (by (h e) (filter_map-changed h k g same d))
  where
    by : (o : Option X) → filter_map k d ≡ filter_map g (filter_map h d) → cons_option (changed g o) (filter_map k d) ≡ filter_map g (cons_option o (filter_map h d))
    by None rest = rest
    by (Some q) rest = ap (λ (l : List X). cons_option (g q) l) rest

-- the flags of r after a row that says this of it
abbrev after_flags : ℕ → ℕ → Bool → Place → Option Request
after_flags t r gone where_at = then_some (not gone) (record { number = r; time = t; place = where_at })

request_of-push : (c : Trace) (e : Entry) (t r : ℕ) → request_of (c ++ e ∷ []) t (Some r)
    ≡ after_flags t r (ended c r || says (ended_by e.row) r) (place_at (or_else (pod_by r e.row) (pod_of c r)) (assigned c r || says (assigned_by e.row) r) (has_run c r || says (run_by e.row) r))
unfolding request_of place_of
request_of-push c e t r = rw (ended-push c e r, pod_of-push c e r, assigned-push c e r, has_run-push c e r) refl

-- the old part of the live requests, by what becomes of each
old_part : (c : Trace) (e : Entry) (g : Request → Option Request)
    → ((t r : ℕ) → after_flags t r (ended c r || says (ended_by e.row) r) (place_at (or_else (pod_by r e.row) (pod_of c r)) (assigned c r || says (assigned_by e.row) r) (has_run c r || says (run_by e.row) r))
    ≡ changed g (after_flags t r (ended c r) (place_at (pod_of c r) (assigned c r) (has_run c r))))
    → live_requests (c ++ e ∷ []) ≡ filter_map g (live_requests c) ++ cons_option (request_of (c ++ e ∷ []) e.time (taken_by e.row)) []
unfolding live_requests request_of place_of
old_part c e g same =
    rw (filter_map-append (λ (x : Entry). request_of (c ++ e ∷ []) x.time (taken_by x.row)) c (e ∷ []))
    (ap (λ (l : List Request). l ++ cons_option (request_of (c ++ e ∷ []) e.time (taken_by e.row)) [])
    (filter_map-changed (λ (x : Entry). request_of c x.time (taken_by x.row)) (λ (x : Entry). request_of (c ++ e ∷ []) x.time (taken_by x.row)) g (λ x. by x.time (taken_by x.row)) c))
  where
    by : (t : ℕ) (o : Option ℕ) → request_of (c ++ e ∷ []) t o ≡ changed g (request_of c t o)
    by t None = refl
    by t (Some r) = request_of-push c e t r ∙ same t r

pub filter_map-some : {X : Type 0} (xs : List X) → filter_map (λ (x : X). Some x) xs ≡ xs
filter_map-some [] = refl
filter_map-some {X} (x ∷ xs) = ap (λ (l : List X). x ∷ l) (filter_map-some xs)

pub filter_map-filter : {X : Type 0} (test : X → Bool) (xs : List X) → filter_map (λ (x : X). then_some (test x) x) xs ≡ filter test xs
filter_map-filter test [] = refl
filter_map-filter {X} test (x ∷ xs) = by (test x) (filter_map-filter test xs)
  where
    by : (b : Bool) → filter_map (λ (x : X). then_some (test x) x) xs ≡ filter test xs → cons_option (then_some b x) (filter_map (λ (x : X). then_some (test x) x) xs) ≡ cond b (x ∷ filter test xs) (filter test xs)
    by true e = ap (λ (l : List X). x ∷ l) e
    by false e = e

pub filter_map-map : {X : Type 0} (f : X → X) (xs : List X) → filter_map (λ (x : X). Some (f x)) xs ≡ map f xs
filter_map-map f [] = refl
filter_map-map {X} f (x ∷ xs) = ap (λ (l : List X). f x ∷ l) (filter_map-map f xs)

-- ---- one lemma a kind

-- a row that says nothing of requests
pub live_requests-quiet : (c : Trace) (e : Entry) → taken_by e.row ≡ None → ended_by e.row ≡ None → assigned_by e.row ≡ None → run_by e.row ≡ None → ((r : ℕ) → pod_by r e.row ≡ None)
    → live_requests (c ++ e ∷ []) ≡ live_requests c
unfolding request_of
live_requests-quiet c e taken ended' assigned' run' pod =
    old_part c e (λ q. Some q) (λ t r. rw (ended', assigned', run', pod r) (by t r (ended c r) (pod_of c r) (assigned c r) (has_run c r)))
    ∙ rw taken (append-nil (filter_map (λ (q : Request). Some q) (live_requests c)) ∙ filter_map-some (live_requests c))
  where
    by : (t r : ℕ) (g : Bool) (p : Option ℕ) (a n : Bool) → after_flags t r (g || false) (place_at p (a || false) (n || false)) ≡ changed (λ q. Some q) (after_flags t r g (place_at p a n))
    by t r true p a n = refl
    by t r false p a n = rw (or-false a, or-false n) refl

-- a request ends
pub live_requests-end : (c : Trace) (e : Entry) (r : ℕ) → taken_by e.row ≡ None → ended_by e.row ≡ Some r → assigned_by e.row ≡ None → run_by e.row ≡ None → ((q : ℕ) → pod_by q e.row ≡ None)
    → live_requests (c ++ e ∷ []) ≡ without r (live_requests c)
unfolding request_of
live_requests-end c e r taken ended' assigned' run' pod =
    old_part c e (λ q. then_some (not (r == q.number)) q) (λ t q. rw (ended', assigned', run', pod q) (by t q (ended c q) (r == q) (pod_of c q) (assigned c q) (has_run c q) refl))
    ∙ rw taken (append-nil (filter_map (λ (q : Request). then_some (not (r == q.number)) q) (live_requests c)) ∙ filter_map-filter (λ (q : Request). not (r == q.number)) (live_requests c))
  where
    by : (t q : ℕ) (g m : Bool) (p : Option ℕ) (a n : Bool) → (r == q) ≡ m → after_flags t q (g || m) (place_at p (a || false) (n || false)) ≡ changed (λ x. then_some (not (r == x.number)) x) (after_flags t q g (place_at p a n))
    by t q true m p a n h = refl
    by t q false m p a n h = rw (or-false a, or-false n, h) refl

-- a request is assigned
pub live_requests-assign : (c : Trace) (t r p : ℕ) → live_requests (c ++ entry t (row.Assign r p) ∷ []) ≡ moved r (place.Running p true) (live_requests c)
unfolding request_of
live_requests-assign c t r p =
    old_part c (entry t (row.Assign r p)) (λ q. Some (moved_to r (place.Running p true) q)) (λ u q. by u q (ended c q) (r == q) (pod_of c q) (assigned c q) (has_run c q) refl)
    ∙ append-nil _ ∙ filter_map-map (moved_to r (place.Running p true)) (live_requests c)
  where
    by : (u q : ℕ) (g m : Bool) (o : Option ℕ) (a n : Bool) → (r == q) ≡ m → after_flags u q (g || false) (place_at (or_else (then_some (r == q) p) o) (a || (r == q)) (n || false))
        ≡ changed (λ x. Some (moved_to r (place.Running p true) x)) (after_flags u q g (place_at o a n))
    by u q true m o a n h = refl
    by u q false true o true n h = rw h refl
    by u q false true o false n h = rw h refl
    by u q false false o a n h = rw (h, or-false a, or-false n) refl

-- a direct request begins to run
pub live_requests-run : (c : Trace) (t r : ℕ) → live_requests (c ++ entry t (row.Run r) ∷ []) ≡ begins r (live_requests c)
unfolding request_of
live_requests-run c t r =
    old_part c (entry t (row.Run r)) (λ q. Some (begun_at r q)) (λ u q. by u q (ended c q) (r == q) (pod_of c q) (assigned c q) (has_run c q) refl)
    ∙ append-nil _ ∙ filter_map-map (begun_at r) (live_requests c)
  where
    by : (u q : ℕ) (g m : Bool) (o : Option ℕ) (a n : Bool) → (r == q) ≡ m → after_flags u q (g || false) (place_at o (a || false) (n || (r == q)))
        ≡ changed (λ x. Some (begun_at r x)) (after_flags u q g (place_at o a n))
    by u q true m o a n h = refl
    by u q false true None a n h = rw h refl
    by u q false true (Some p) true n h = rw h refl
    by u q false true (Some p) false true h = rw h refl
    by u q false true (Some p) false false h = rw h refl
    by u q false false o a n h = rw (h, or-false a, or-false n) refl

-- a request that no row has named yet
pub record IsNew (c : Trace) (r : ℕ) : Type 0 where
  pub ended : ended c r ≡ false
  pub assigned : assigned c r ≡ false
  pub run : has_run c r ≡ false
  pub pod : pod_of c r ≡ None

-- a request is admitted: it is held
pub live_requests-admit : (c : Trace) (t r tag : ℕ) → IsNew c r → live_requests (c ++ entry t (row.Admit r tag) ∷ []) ≡ live_requests c ++ record { number = r; time = t; place = place.Held } ∷ []
unfolding request_of place_of
live_requests-admit c t r tag new =
    old_part c (entry t (row.Admit r tag)) (λ q. Some q) (λ u q. by u q (ended c q) (pod_of c q) (assigned c q) (has_run c q))
    ∙ rw (filter_map-some (live_requests c), ended-push c (entry t (row.Admit r tag)) r, pod_of-push c (entry t (row.Admit r tag)) r, new.ended, new.pod) refl
  where
    by : (t r : ℕ) (g : Bool) (p : Option ℕ) (a n : Bool) → after_flags t r (g || false) (place_at p (a || false) (n || false)) ≡ changed (λ q. Some q) (after_flags t r g (place_at p a n))
    by t r true p a n = refl
    by t r false p a n = rw (or-false a, or-false n) refl

moved_to-none : (r : ℕ) (x : Place) (live : List Request) → list_any (λ (q : Request). r == q.number) live ≡ false → map (moved_to r x) live ≡ live
moved_to-none r x [] h = refl
moved_to-none r x (q ∷ live) h = by (r == q.number) refl (moved_to-none r x live) h
  where
    by : (b : Bool) → (r == q.number) ≡ b → (list_any (λ (q : Request). r == q.number) live ≡ false → map (moved_to r x) live ≡ live) → (b || list_any (λ (q : Request). r == q.number) live) ≡ false
        → moved_to r x q ∷ map (moved_to r x) live ≡ q ∷ live
    by true e rest h = absurd (cc)
    by false e rest h = rw e (ap (λ (l : List Request). q ∷ l) (rest h))

-- a request goes straight to a pod: it is queued there
pub live_requests-direct : (c : Trace) (t r p : ℕ) → IsNew c r → list_any (λ (q : Request). r == q.number) (live_requests c) ≡ false
    → live_requests (c ++ entry t (row.Direct r p) ∷ []) ≡ live_requests c ++ record { number = r; time = t; place = place.Queued p } ∷ []
unfolding request_of place_of
live_requests-direct c t r p new none =
    old_part c (entry t (row.Direct r p)) (λ q. Some (moved_to r (place.Queued p) q)) (λ u q. by u q (ended c q) (r == q) (pod_of c q) (assigned c q) (has_run c q) refl (λ h. rw (← eqb-true r q h) new.assigned) (λ h. rw (← eqb-true r q h) new.run))
    ∙ rw (
      filter_map-map (moved_to r (place.Queued p)) (live_requests c),
      moved_to-none r (place.Queued p) (live_requests c) none,
      ended-push c (entry t (row.Direct r p)) r,
      pod_of-push c (entry t (row.Direct r p)) r,
      assigned-push c (entry t (row.Direct r p)) r,
      has_run-push c (entry t (row.Direct r p)) r,
      new.ended,
      new.assigned,
      new.run,
      eq-eqb r r refl,
    ) refl
  where
    by : (u q : ℕ) (g m : Bool) (o : Option ℕ) (a n : Bool) → (r == q) ≡ m → (m ≡ true → a ≡ false) → (m ≡ true → n ≡ false) → after_flags u q (g || false) (place_at (or_else (then_some (r == q) p) o) (a || false) (n || false))
        ≡ changed (λ x. Some (moved_to r (place.Queued p) x)) (after_flags u q g (place_at o a n))
    by u q true m o a n h s z = refl
    by u q false true o a n h s z = rw (h, s refl, z refl) refl
    by u q false false o a n h s z = rw (h, or-false a, or-false n) refl
