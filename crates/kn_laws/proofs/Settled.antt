-- After the settling nothing is left to do.
use Rattle.std.proofs.Common.{◌≡◌, ℕ, ◌<◌, ◌≤◌, Bool, true, false, not, cond, ◌&&◌, ◌||◌, ◌⊎◌, inl, inr, List, [], ◌∷◌, ◌++◌, length, refl, sym, ap, subst, ◌∙◌, arith, map, append-nil, append_assoc, nat_lt}
use Rattle.std.specs.Prelude.{Option, None, Some, ◌==◌}
use Rattle.std.specs.Bool.{then_some}
use Rattle.std.specs.List.{filter, sum_by}
use Rattle.std.proofs.lemmas.Bool.{eqb-true, eq-eqb, or_cases, and_parts, not-true, or_right}
use Rattle.std.proofs.lemmas.Bool.Decides.{nat_tests}
use Rattle.std.proofs.lemmas.List.Sums.{sum_by-cons}
use Rattle.std.proofs.Math.Bool.{or-false}
use Rattle.kn_event.specs.declared.entry.Entry.{Entry}
use Rattle.kn_event.specs.declared.entry.Row.TheVariants as row
use Rattle.kn_event.specs.declared.revision.Spec.{Spec}
use Rattle.kn_event.specs.Lists.{contains}
use Rattle.kn_trace.specs.Rows.{brought_to, created_by, drained_by, limit_by, readied_by, gone_by}
use Rattle.kn_trace.specs.Trace.{Trace, entry, assigned, at_pod, draining, each_row, ended, has_begun, has_free_seat, has_not_begun, has_run, held, is_draining, is_empty, is_live_pod, is_ready, is_running, limit_of, live_pods, queued_at, ready_pods, running_at}
use Rattle.kn_trace.specs.Capacity.{capacity, in_use, seats_of}
use Rattle.kn_trace.specs.Choice.{choice}
use Rattle.kn_trace.specs.Settling.{assignments_of, next_choice, promotions, promotions_at, while_chosen, while_free}
use Rattle.kn_record.specs.Made.{AreDistinct}
use Rattle.kn_record.specs.Rows.{says, IsQuiet}
use Rattle.kn_record.specs.Views.{others}
use Rattle.kn_record.specs.Kept.{Kept}
use Rattle.kn_record.specs.Facts.{Facts}

pub record Busier (c d : Trace) : Type 0 where
  pub queued : (q r : ℕ) → contains r (queued_at d q) ≡ true → contains r (queued_at c q) ≡ true
  pub free : (q : ℕ) → has_free_seat d q ≡ true → has_free_seat c q ≡ true
  pub pods : (q : ℕ) → contains q (live_pods d) ≡ true → contains q (live_pods c) ≡ true

pub busier-same : (c : Trace) → Busier c c
busier-same c = record { queued = λ q r h. h; free = λ q h. h; pods = λ q h. h }

pub busier-then : (c d e : Trace) → Busier c d → Busier d e → Busier c e
busier-then c d e x y = record { queued = λ q r h. x.queued q r (y.queued q r h); free = λ q h. x.free q (y.free q h); pods = λ q h. x.pods q (y.pods q h) }

abbrev pub QueuesFull : Trace → ℕ → Type 0
QueuesFull c p = (r : ℕ) → contains r (queued_at c p) ≡ true → has_free_seat c p ≡ false

-- a pod whose queue is done stays so
pub full-busier : (c d : Trace) (p : ℕ) → Busier c d → QueuesFull c p → QueuesFull d p
full-busier c d p busy full r h = by (has_free_seat d p) refl
  where
    by : (b : Bool) → has_free_seat d p ≡ b → b ≡ false
    by true e = absurd (let a = busy.free p e in let b = full r (busy.queued p r h) in cc)
    by false e = refl

-- where a request is held, as many are in use as the capacity allows, or no Ready pod has a free seat
abbrev pub Filled : Spec → Trace → Type 0
Filled s c = (r p : ℕ) → contains r (held c) ≡ true → in_use c < capacity s c → contains p (ready_pods c) ≡ true → has_free_seat c p ≡ false

pub record SameSeats (c d : Trace) : Type 0 where
  pub held : held d ≡ held c
  pub in_use : in_use d ≡ in_use c
  pub ready : ready_pods d ≡ ready_pods c
  pub limit : (p : ℕ) → limit_of d p ≡ limit_of c p
  pub running : (p : ℕ) → running_at d p ≡ running_at c p
  pub at_pod : (p : ℕ) → at_pod d p ≡ at_pod c p

same-seats : (c : Trace) → SameSeats c c
same-seats c = record { held = refl; in_use = refl; ready = refl; limit = λ p. refl; running = λ p. refl; at_pod = λ p. refl }

seats-then : (c d e : Trace) → SameSeats c d → SameSeats d e → SameSeats c e
seats-then c d e x y = record { held = y.held ∙ x.held; in_use = y.in_use ∙ x.in_use; ready = y.ready ∙ x.ready; limit = λ p. y.limit p ∙ x.limit p; running = λ p. y.running p ∙ x.running p; at_pod = λ p. y.at_pod p ∙ x.at_pod p }

pub sum_by-agree : (f g : ℕ → ℕ) → ((x : ℕ) → f x ≡ g x) → (xs : List ℕ) → sum_by f xs ≡ sum_by g xs
sum_by-agree f g same [] = refl
sum_by-agree f g same (x ∷ xs) =
    let a = same x in let rest = sum_by-agree f g same xs in let e = sum_by-cons f x xs in let h = sum_by-cons g x xs in omega arith

-- the capacity is that of the Ready pods and their limits
pub capacity-same : (s : Spec) (c d : Trace) → ready_pods d ≡ ready_pods c → ((p : ℕ) → limit_of d p ≡ limit_of c p) → capacity s d ≡ capacity s c
unfolding capacity
capacity-same s c d ready limit =
    rw (ready, sum_by-agree (λ p. seats_of s.slots.max (limit_of d p)) (λ p. seats_of s.slots.max (limit_of c p)) (λ p. ap (λ (n : ℕ). seats_of s.slots.max n) (limit p)) (ready_pods c)) refl

-- the seats stay filled
pub filled-same : (s : Spec) (c d : Trace) → SameSeats c d → Filled s c → Filled s d
unfolding has_free_seat
filled-same s c d same filled r p h less ready =
    rw (same.limit p, same.running p) (filled r p (rw same.held at h) (rw (same.in_use, capacity-same s c d same.ready same.limit) at less) (rw same.ready at ready))

module _ (facts : Facts) where
  open facts use {lists.{contains-filter, filter_member, in_filter, filter-first}, entries.{contains-push, has_not_begun-push, is_running-push, is_ready-push, view-same, view-length}, views.{is_quiet, says_no_pod, held-quiet, queued_at-quiet, running_at-quiet, at_pod-quiet, in_use-quiet, limit-quiet, live_pods-quiet, held-assign, queued_at-run, queued-next, draining-remove}, members.{queued_distinct, contains-live_pods, choice-none}, proper.{Holds-kept, promotions_at-hold}}

  -- ---- d has no more queued, no more free pods and no more pods than c

  -- nobody ends: as many run as before, or more
  running-more : (c : Trace) (e : Entry) (q : ℕ) → ((x : ℕ) → is_running c x ≡ true → is_running (c ++ e ∷ []) x ≡ true) → length (running_at c q) ≤ length (running_at (c ++ e ∷ []) q)
  unfolding running_at
  running-more c e q more = view-length (brought_to q) (is_running c) (is_running (c ++ e ∷ [])) c e more

  free-less : (c : Trace) (e : Entry) (q : ℕ) → limit_by q e.row ≡ None → length (running_at c q) ≤ length (running_at (c ++ e ∷ []) q) → has_free_seat (c ++ e ∷ []) q ≡ true → has_free_seat c q ≡ true
  unfolding has_free_seat
  free-less c e q l more h =
      by (limit_of c q == 0) (nat_lt (length (running_at c q)) (limit_of c q)) (nat_lt (length (running_at (c ++ e ∷ []) q)) (limit_of c q)) (grows (length (running_at c q)) (length (running_at (c ++ e ∷ []) q)) (limit_of c q) more)
      (rw (limit-quiet c e q l) at h)
    where
      grows : (a b n : ℕ) → a ≤ b → nat_lt b n ≡ true → nat_lt a n ≡ true
      grows a b n le h = grind (arith, nat_tests)

      by : (z a b : Bool) → (b ≡ true → a ≡ true) → (z || b) ≡ true → (z || a) ≡ true
      by true a b f h = refl
      by false a b f h = f h

  -- a run
  busier-run : (c : Trace) (t r : ℕ) → Busier c (c ++ entry t (row.Run r) ∷ [])
  unfolding is_running has_begun
  busier-run c t r = record {
    queued = λ q x h. (filter_member (λ (y : ℕ). not (r == y)) x (queued_at c q) (rw (queued_at-run c t r q) at h)).0;
    free = λ q. free-less c (entry t (row.Run r)) q refl (running-more c (entry t (row.Run r)) q (λ x h. is_running-push c (entry t (row.Run r)) x ∙ still (assigned c x) (has_run c x) (ended c x) (r == x) h));
    pods = λ q h. rw (live_pods-quiet c (entry t (row.Run r)) (says_no_pod (row.Run r) refl)) at h;
  }
    where
      still : (a n g m : Bool) → ((a || n) && not g) ≡ true → (((a || false) || (n || m)) && not (g || false)) ≡ true
      still true n true m h = absurd (cc)
      still true n false m h = refl
      still false true true m h = absurd (cc)
      still false true false m h = refl
      still false false g m h = absurd (cc)

  -- an assignment
  busier-assign : (c : Trace) (t r p : ℕ) → Busier c (c ++ entry t (row.Assign r p) ∷ [])
  unfolding is_running has_begun has_not_begun queued_at
  busier-assign c t r p = record {
    queued = λ q x h.
        let both = filter_member (has_not_begun (c ++ e ∷ [])) x (each_row (brought_to q) (c ++ e ∷ [])) h in
        let parts = idle (assigned c x) (has_run c x) (ended c x) (r == x) (sym (has_not_begun-push c e x) ∙ both.1) in
        in_filter (has_not_begun c) x (each_row (brought_to q) c) (old q x parts.0 (or_cases _ _ (sym (contains-push (brought_to q) c e x) ∙ both.0))) parts.1;
    free = λ q. free-less c e q refl (running-more c e q (λ x h. is_running-push c e x ∙ still (assigned c x) (has_run c x) (ended c x) (r == x) h));
    pods = λ q h. rw (live_pods-quiet c e (says_no_pod (row.Assign r p) refl)) at h;
  }
    where
      e : Entry
      e = entry t (row.Assign r p)

      idle : (a n g m : Bool) → (not ((a || m) || (n || false)) && not (g || false)) ≡ true → (m ≡ false) × ((not (a || n) && not g) ≡ true)
      idle true n g m h = absurd (cc)
      idle false n g true h = absurd (cc)
      idle false true g false h = absurd (cc)
      idle false false true false h = absurd (cc)
      idle false false false false h = (refl, refl)

      old : (q x : ℕ) → (r == x) ≡ false → (contains x (each_row (brought_to q) c) ≡ true) ⊎ (says (brought_to q (row.Assign r p)) x ≡ true) → contains x (each_row (brought_to q) c) ≡ true
      old q x apart (inl h) = h
      old q x apart (inr h) = by (p == q) h
        where
          by : (b : Bool) → says (then_some b r) x ≡ true → contains x (each_row (brought_to q) c) ≡ true
          by true k = absurd (cc)
          by false k = absurd (cc)

      still : (a n g m : Bool) → ((a || n) && not g) ≡ true → (((a || m) || (n || false)) && not (g || false)) ≡ true
      still true n true m h = absurd (cc)
      still true n false m h = refl
      still false true true m h = absurd (cc)
      still false true false true h = refl
      still false true false false h = refl
      still false false g m h = absurd (cc)

  -- a removal
  busier-remove : (c : Trace) (t p : ℕ) → Busier c (c ++ entry t (row.Remove p) ∷ [])
  busier-remove c t p = record {
    queued = λ q x k. rw (queued_at-quiet c e q quiet) at k;
    free = λ q. free-less c e q refl (rw (running_at-quiet c e q quiet) (omega arith));
    pods = λ q h. contains-live_pods c q ∙ by (contains q (each_row created_by c)) (contains q (each_row gone_by c)) (p == q) (sym (contains-live_pods (c ++ e ∷ []) q ∙ rw (contains-push created_by c e q, contains-push gone_by c e q) refl) ∙ h);
  }
    where
      e : Entry
      e = entry t (row.Remove p)

      quiet : IsQuiet (row.Remove p)
      quiet = is_quiet (row.Remove p) refl refl refl refl

      by : (a g m : Bool) → ((a || false) && not (g || m)) ≡ true → (a && not g) ≡ true
      by true true m h = absurd (cc)
      by true false m h = refl
      by false g m h = absurd (cc)

  -- ---- the settling's lists

  promotions_at-busy : (t : ℕ) (c : Trace) (p : ℕ) (rs : List ℕ) → Busier c (c ++ promotions_at t c p rs)
  unfolding promotions_at
  promotions_at-busy t c p [] = rw (append-nil c) (busier-same c)
  promotions_at-busy t c p (r ∷ rs) =
      by (has_free_seat c p) (busier-then c (c ++ entry t (row.Run r) ∷ []) _ (busier-run c t r) (promotions_at-busy t (c ++ entry t (row.Run r) ∷ []) p rs))
    where
      by : (b : Bool) → Busier c ((c ++ entry t (row.Run r) ∷ []) ++ promotions_at t (c ++ entry t (row.Run r) ∷ []) p rs)
          → Busier c (c ++ while_free b (entry t (row.Run r)) (λ x. promotions_at t (c ++ x ∷ []) p rs))
      by false h = rw (append-nil c) (busier-same c)
      by true h = rw (append_assoc c (entry t (row.Run r) ∷ []) (promotions_at t (c ++ entry t (row.Run r) ∷ []) p rs)) at h

  -- so the promotions
  pub promotions-busy : (t : ℕ) (c : Trace) (ps : List ℕ) → Busier c (c ++ promotions t c ps)
  unfolding promotions
  promotions-busy t c [] = rw (append-nil c) (busier-same c)
  promotions-busy t c (p ∷ ps) =
      let here = promotions_at t c p (queued_at c p) in
      rw (append_assoc c here (promotions t (c ++ here) ps)) at (busier-then c (c ++ here) ((c ++ here) ++ promotions t (c ++ here) ps) (promotions_at-busy t c p (queued_at c p)) (promotions-busy t (c ++ here) ps))

  -- the assignments
  pub assignments-busy : (s : Spec) (t : ℕ) (c : Trace) (rs : List ℕ) → Busier c (c ++ assignments_of s t c rs)
  unfolding assignments_of
  assignments-busy s t c [] = rw (append-nil c) (busier-same c)
  assignments-busy s t c (r ∷ rs) =
      by (next_choice s c) (λ p. busier-then c (c ++ entry t (row.Assign r p) ∷ []) _ (busier-assign c t r p) (assignments-busy s t (c ++ entry t (row.Assign r p) ∷ []) rs))
    where
      by : (o : Option ℕ) → ((p : ℕ) → Busier c ((c ++ entry t (row.Assign r p) ∷ []) ++ assignments_of s t (c ++ entry t (row.Assign r p) ∷ []) rs))
          → Busier c (c ++ while_chosen o (λ p. entry t (row.Assign r p)) (λ x. assignments_of s t (c ++ x ∷ []) rs))
      by None h = rw (append-nil c) (busier-same c)
      by (Some p) h = rw (append_assoc c (entry t (row.Assign r p) ∷ []) (assignments_of s t (c ++ entry t (row.Assign r p) ∷ []) rs)) at (h p)

  -- and the removals
  pub removed-busy : (t : ℕ) (c : Trace) (ps : List ℕ) → Busier c (c ++ map (λ p. entry t (row.Remove p)) ps)
  removed-busy t c [] = rw (append-nil c) (busier-same c)
  removed-busy t c (p ∷ ps) =
      rw (append_assoc c (entry t (row.Remove p) ∷ []) (map (λ p. entry t (row.Remove p)) ps)) at
      (busier-then c (c ++ entry t (row.Remove p) ∷ []) ((c ++ entry t (row.Remove p) ∷ []) ++ map (λ p. entry t (row.Remove p)) ps) (busier-remove c t p) (removed-busy t (c ++ entry t (row.Remove p) ∷ []) ps))

  -- ---- queues

  promotions_at-full : (t : ℕ) (c : Trace) (p : ℕ) (rs : List ℕ) → queued_at c p ≡ rs → AreDistinct rs → QueuesFull (c ++ promotions_at t c p rs) p
  unfolding promotions_at
  promotions_at-full t c p [] e d = rw (append-nil c) (λ r h. absurd (let no_one : contains r (queued_at c p) ≡ false = rw e refl in cc))
  promotions_at-full t c p (r ∷ rs) e d = by (has_free_seat c p) refl (promotions_at-full t (c ++ entry t (row.Run r) ∷ []) p rs (queued-next c t p r rs e d) d.1)
    where
      by : (b : Bool) → has_free_seat c p ≡ b → QueuesFull ((c ++ entry t (row.Run r) ∷ []) ++ promotions_at t (c ++ entry t (row.Run r) ∷ []) p rs) p
          → QueuesFull (c ++ while_free b (entry t (row.Run r)) (λ x. promotions_at t (c ++ x ∷ []) p rs)) p
      by false f h = rw (append-nil c) (λ q k. f)
      by true f h = rw (append_assoc c (entry t (row.Run r) ∷ []) (promotions_at t (c ++ entry t (row.Run r) ∷ []) p rs)) at h

  -- after the promotions each pod's queue is done
  pub promotions-full : (s : Spec) (t : ℕ) (c : Trace) (ps : List ℕ) → Kept s c → (p : ℕ) → contains p ps ≡ true → QueuesFull (c ++ promotions t c ps) p
  unfolding promotions
  promotions-full s t c [] kept p h = absurd (cc)
  promotions-full s t c (q ∷ ps) kept p h =
      let here = promotions_at t c q (queued_at c q) in
      let distinct = queued_distinct c q kept.requests in
      let one = promotions_at-full t c q (queued_at c q) refl distinct in
      let kept1 = Holds-kept s c here kept (promotions_at-hold s t c q (queued_at c q) refl distinct) in
      rw (append_assoc c here (promotions t (c ++ here) ps)) at
      (by (q == p) refl h (full-busier (c ++ here) ((c ++ here) ++ promotions t (c ++ here) ps) q (promotions-busy t (c ++ here) ps) one) (promotions-full s t (c ++ here) ps kept1 p))
    where
      by : (b : Bool) → (q == p) ≡ b → (b || contains p ps) ≡ true → QueuesFull ((c ++ promotions_at t c q (queued_at c q)) ++ promotions t (c ++ promotions_at t c q (queued_at c q)) ps) q
          → (contains p ps ≡ true → QueuesFull ((c ++ promotions_at t c q (queued_at c q)) ++ promotions t (c ++ promotions_at t c q (queued_at c q)) ps) p)
          → QueuesFull ((c ++ promotions_at t c q (queued_at c q)) ++ promotions t (c ++ promotions_at t c q (queued_at c q)) ps) p
      by true e h first rest = subst (λ (x : ℕ). QueuesFull ((c ++ promotions_at t c q (queued_at c q)) ++ promotions t (c ++ promotions_at t c q (queued_at c q)) ps) x) (eqb-true q p e) first
      by false e h first rest = rest h

  -- ---- seats

  -- where no assignment comes next the seats are filled
  filled-none : (s : Spec) (c : Trace) → next_choice s c ≡ None → Filled s c
  unfolding next_choice
  filled-none s c n r p h less ready = by (nat_lt (in_use c) (capacity s c)) refl n
    where
      by : (b : Bool) → nat_lt (in_use c) (capacity s c) ≡ b → cond b (choice s c) None ≡ None → has_free_seat c p ≡ false
      by true e n = choice-none s c n p ready
      by false e n = absurd (let yes_it_is : nat_lt (in_use c) (capacity s c) ≡ true = grind (arith, nat_tests) in cc)

  -- so they are after the assignments
  pub assignments-filled : (s : Spec) (t : ℕ) (c : Trace) (rs : List ℕ) → held c ≡ rs → AreDistinct rs → Filled s (c ++ assignments_of s t c rs)
  unfolding assignments_of
  assignments-filled s t c [] e d = rw (append-nil c) (λ r p h less ready. absurd (let no_one : contains r (held c) ≡ false = rw e refl in cc))
  assignments-filled s t c (r ∷ rs) e d =
      by (next_choice s c) refl (λ p. assignments-filled s t (c ++ entry t (row.Assign r p) ∷ []) rs (held-assign c t r p ∙ ap (λ (l : List ℕ). others r l) e ∙ filter-first r rs d) d.1)
    where
      by : (o : Option ℕ) → next_choice s c ≡ o → ((p : ℕ) → Filled s ((c ++ entry t (row.Assign r p) ∷ []) ++ assignments_of s t (c ++ entry t (row.Assign r p) ∷ []) rs))
          → Filled s (c ++ while_chosen o (λ p. entry t (row.Assign r p)) (λ x. assignments_of s t (c ++ x ∷ []) rs))
      by None n h = rw (append-nil c) (filled-none s c n)
      by (Some p) n h = rw (append_assoc c (entry t (row.Assign r p) ∷ []) (assignments_of s t (c ++ entry t (row.Assign r p) ∷ []) rs)) at (h p)

  -- ---- removals leave the seats as they are

  -- a draining pod that goes was not Ready
  pub ready-remove : (c : Trace) (t p : ℕ) → contains p (each_row drained_by c) ≡ true → ready_pods (c ++ entry t (row.Remove p) ∷ []) ≡ ready_pods c
  unfolding ready_pods is_ready is_live_pod
  ready-remove c t p drained =
      view-same created_by (is_ready c) (is_ready (c ++ entry t (row.Remove p) ∷ [])) c (entry t (row.Remove p)) refl
      (λ q. is_ready-push c (entry t (row.Remove p)) q
      ∙ by (contains q (each_row readied_by c)) (contains q (each_row drained_by c)) (contains q (each_row gone_by c)) (p == q) (λ e. subst (λ (x : ℕ). contains x (each_row drained_by c) ≡ true) (eqb-true p q e) drained))
    where
      by : (a d g m : Bool) → (m ≡ true → d ≡ true) → ((a || false) && not (d || false) && not (g || m)) ≡ (a && not d && not g)
      by false d g m h = refl
      by true true g m h = refl
      by true false g true h = absurd (let wrong = h refl in cc)
      by true false true false h = refl
      by true false false false h = refl

  seats-remove : (c : Trace) (t p : ℕ) → contains p (each_row drained_by c) ≡ true → SameSeats c (c ++ entry t (row.Remove p) ∷ [])
  seats-remove c t p drained = record {
    held = held-quiet c e quiet;
    in_use = in_use-quiet c e quiet;
    ready = ready-remove c t p drained;
    limit = λ q. limit-quiet c e q refl;
    running = λ q. running_at-quiet c e q quiet;
    at_pod = λ q. at_pod-quiet c e q quiet;
  }
    where
      e : Entry
      e = entry t (row.Remove p)

      quiet : IsQuiet (row.Remove p)
      quiet = is_quiet (row.Remove p) refl refl refl refl

  pub removed-seats : (t : ℕ) (c : Trace) (ps : List ℕ) → ((p : ℕ) → contains p ps ≡ true → contains p (each_row drained_by c) ≡ true) → SameSeats c (c ++ map (λ p. entry t (row.Remove p)) ps)
  removed-seats t c [] h = rw (append-nil c) (same-seats c)
  removed-seats t c (p ∷ ps) h =
      rw (append_assoc c (entry t (row.Remove p) ∷ []) (map (λ p. entry t (row.Remove p)) ps)) at
      (seats-then c (c ++ entry t (row.Remove p) ∷ []) ((c ++ entry t (row.Remove p) ∷ []) ++ map (λ p. entry t (row.Remove p)) ps)
      (seats-remove c t p (h p (rw (eq-eqb p p refl) refl)))
      (removed-seats t (c ++ entry t (row.Remove p) ∷ []) ps (λ q k. contains-push drained_by c (entry t (row.Remove p)) q ∙ or-false _ ∙ h q (or_right (p == q) (contains q ps) k))))

  -- ---- draining pods

  draining-removed : (t : ℕ) (c : Trace) (ps : List ℕ) (q : ℕ) → contains q (draining (c ++ map (λ p. entry t (row.Remove p)) ps)) ≡ true → (contains q (draining c) ≡ true) × (contains q ps ≡ false)
  draining-removed t c [] q h = (rw (append-nil c) at h, refl)
  draining-removed t c (p ∷ ps) q h =
      let rest = draining-removed t (c ++ entry t (row.Remove p) ∷ []) ps q (rw (append_assoc c (entry t (row.Remove p) ∷ []) (map (λ p. entry t (row.Remove p)) ps)) h) in
      let both = and_parts (contains q (draining c)) (not (p == q)) (sym (draining-remove c t p q) ∙ rest.0) in
      (both.0, rw (not-true (p == q) both.1) rest.1)

  pub draining_drained : (c : Trace) (p : ℕ) → contains p (draining c) ≡ true → contains p (each_row drained_by c) ≡ true
  unfolding draining is_draining
  draining_drained c p h = (and_parts _ _ (filter_member (is_draining c) p (each_row created_by c) h).1).0

  -- after the removals each draining pod has a request
  pub removals-drained : (t : ℕ) (c : Trace) (p : ℕ) → SameSeats c (c ++ map (λ p. entry t (row.Remove p)) (filter (λ p. is_empty (at_pod c p)) (draining c)))
      → contains p (draining (c ++ map (λ p. entry t (row.Remove p)) (filter (λ p. is_empty (at_pod c p)) (draining c)))) ≡ true
      → is_empty (at_pod (c ++ map (λ p. entry t (row.Remove p)) (filter (λ p. is_empty (at_pod c p)) (draining c))) p) ≡ false
  removals-drained t c p same h =
      let both = draining-removed t c (filter (λ p. is_empty (at_pod c p)) (draining c)) p h in
      rw (same.at_pod p) (second (contains p (draining c)) (is_empty (at_pod c p)) both.0 (sym (contains-filter (λ p. is_empty (at_pod c p)) p (draining c)) ∙ both.1))
    where
      second : (a b : Bool) → a ≡ true → (a && b) ≡ false → b ≡ false
      second true b e h = h
      second false b e h = absurd (cc)
