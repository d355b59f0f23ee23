-- A refused event leaves nothing to do.
use Rattle.std.proofs.Common.{◌≡◌, ℕ, ◌<◌, Bool, true, false, not, cond, ◌&&◌, ◌||◌, List, [], ◌∷◌, ◌++◌, length, refl, sym, ap, subst, ◌∙◌, arith, map, append-nil, append_assoc, nat_lt}
use Rattle.std.specs.Prelude.{Option, None, Some, ◌==◌}
use Rattle.std.specs.List.{filter}
use Rattle.std.proofs.lemmas.Bool.{eqb-true, eq-eqb, or_right}
use Rattle.std.proofs.lemmas.Bool.Decides.{nat_tests}
use Rattle.kn_event.specs.declared.entry.Entry.{Entry}
use Rattle.kn_event.specs.declared.entry.Row.{Row}
use Rattle.kn_event.specs.declared.entry.Row.TheVariants as row
use Rattle.kn_event.specs.declared.entry.Phase.TheVariants as phase
use Rattle.kn_event.specs.declared.event.Act.{Act}
use Rattle.kn_event.specs.declared.event.Act.TheVariants as act
use Rattle.kn_event.specs.declared.event.Event.{Event}
use Rattle.kn_event.specs.declared.revision.Kind.{Kind}
use Rattle.kn_event.specs.declared.revision.Kind.TheVariants as kind
use Rattle.kn_event.specs.declared.revision.Spec.{Spec}
use Rattle.kn_event.specs.Lists.{contains}
use Rattle.kn_trace.specs.Rows.{admitted_by, assigned_by, brought_to, phase_by}
use Rattle.kn_trace.specs.Trace.{Trace, entry, assigned, at_pod, draining, each_row, ended, has_begun, has_free_seat, has_not_begun, has_run, held, is_empty, is_held, is_running, limit_of, live_pods, queued_at, ready_pods, running_at, waiting}
use Rattle.kn_trace.specs.Capacity.{capacity, in_use}
use Rattle.kn_trace.specs.Scale.{is_in_phase, phase_of, where_true}
use Rattle.kn_trace.specs.Settling.{assignments_of, held_assignments, next_choice, promotions, promotions_at, removals, settling}
use Rattle.kn_trace.specs.Events.{act_row, act_rows, activation, before_settling, departures, due, expiries, losses, losses_at, react, scaler_rows}
use Rattle.kn_trace.specs.Laws.{IsInert, IsSettled, is_refusal}
use Rattle.kn_record.specs.Made.{Holds, IsMade, IsNumbered, IsProper}
use Rattle.kn_record.specs.Rows.{IsQuiet, SaysNoPod}
use Rattle.kn_record.specs.Kept.{IsIdle}
use Rattle.kn_record.specs.Facts.{Facts}
use Rattle.kn_laws.proofs.Settled.{capacity-same}

-- d is c with fewer that wait
pub record Waned (c d : Trace) : Type 0 where
  pub held : (r : ℕ) → contains r (held d) ≡ true → contains r (held c) ≡ true
  pub queued : (p r : ℕ) → contains r (queued_at d p) ≡ true → contains r (queued_at c p) ≡ true
  pub in_use : in_use d ≡ in_use c
  pub running : (p : ℕ) → running_at d p ≡ running_at c p
  pub limit : (p : ℕ) → limit_of d p ≡ limit_of c p
  pub ready : ready_pods d ≡ ready_pods c
  pub draining : draining d ≡ draining c
  pub phase : phase_of d ≡ phase_of c

waned-same : (c : Trace) → Waned c c
waned-same c = record { held = λ r h. h; queued = λ p r h. h; in_use = refl; running = λ p. refl; limit = λ p. refl; ready = refl; draining = refl; phase = refl }

waned-then : (c d e : Trace) → Waned c d → Waned d e → Waned c e
waned-then c d e x y = record {
  held = λ r h. x.held r (y.held r h);
  queued = λ p r h. x.queued p r (y.queued p r h);
  in_use = y.in_use ∙ x.in_use;
  running = λ p. y.running p ∙ x.running p;
  limit = λ p. y.limit p ∙ x.limit p;
  ready = y.ready ∙ x.ready;
  draining = y.draining ∙ x.draining;
  phase = y.phase ∙ x.phase;
}

free-same : (c d : Trace) (p : ℕ) → Waned c d → has_free_seat d p ≡ has_free_seat c p
unfolding has_free_seat
free-same c d p w = rw (w.limit p, w.running p) refl

promotions_at-none : (t : ℕ) (c : Trace) (p : ℕ) (rs : List ℕ) → ((r : ℕ) → contains r rs ≡ true → has_free_seat c p ≡ false) → promotions_at t c p rs ≡ []
unfolding promotions_at
promotions_at-none t c p [] h = refl
promotions_at-none t c p (r ∷ rs) h = rw (h r (rw (eq-eqb r r refl) refl)) refl

promotions-none : (t : ℕ) (c : Trace) (ps : List ℕ) → ((p r : ℕ) → contains r (queued_at c p) ≡ true → has_free_seat c p ≡ false) → promotions t c ps ≡ []
unfolding promotions
promotions-none t c [] h = refl
promotions-none t c (p ∷ ps) h =
    let one = promotions_at-none t c p (queued_at c p) (λ r k. h p r k) in
    rw (one, append-nil c) (promotions-none t c ps h)

filter-none : (t : ℕ → Bool) (xs : List ℕ) → ((x : ℕ) → contains x xs ≡ true → t x ≡ false) → filter t xs ≡ []
filter-none t [] h = refl
filter-none t (x ∷ xs) h = rw (h x (rw (eq-eqb x x refl) refl)) (filter-none t xs (λ y k. h y (or_right (x == y) (contains y xs) k)))

pub not_empty : (r : ℕ) (xs : List ℕ) → contains r xs ≡ true → is_empty xs ≡ false
not_empty r [] h = absurd (cc)
not_empty r (x ∷ xs) h = refl

-- a pod without a free seat runs something
runs_some : (c : Trace) (p : ℕ) → has_free_seat c p ≡ false → running_at c p ≡ [] → ⊥
unfolding has_free_seat
runs_some c p h e = shut (limit_of c p) (rw e at h)
  where
    shut : (n : ℕ) → ((n == 0) || nat_lt 0 n) ≡ false → ⊥
    shut n k = grind (arith, nat_tests)

-- nor does the phase change
activation-none : (s : Spec) (t : ℕ) (c d : Trace) → IsSettled s c → Waned c d → activation t d ≡ []
unfolding activation
activation-none s t c d settled w = rw (w.ready, w.phase) (by (ready_pods c) refl (is_in_phase phase.Activating (phase_of c)) refl)
  where
    by : (l : List ℕ) → ready_pods c ≡ l → (b : Bool) → is_in_phase phase.Activating (phase_of c) ≡ b → where_true (b && not (is_empty l)) (entry t (row.Phase phase.Active) ∷ []) ≡ []
    by l e false f = refl
    by [] e true f = refl
    by (p ∷ l) e true f = absurd (let calm = settled.active p (rw (e, eq-eqb p p refl) refl) in cc)

-- a refused act makes no decision
no_decision : (k : Kind) (s : Spec) (t : ℕ) (c d : Trace) (a : Act) (x : Row) → act_row s c a ≡ Some x → is_refusal x ≡ true → scaler_rows k s t d a (Some x) ≡ []
unfolding act_row
no_decision kind.Kpa s t c d act.Tick x is h = absurd (cc)
no_decision kind.Kpa s t c d (act.Arrive tag) (row.Admit r g) is h = absurd (cc)
no_decision k s t c d a x is h = refl

-- nobody is lost by an act that is refused
pub no_loss : (s : Spec) (t : ℕ) (c : Trace) (a : Act) (x : Row) → act_row s c a ≡ Some x → is_refusal x ≡ true → losses t c a ≡ []
unfolding act_row losses
no_loss s t c (act.Lost p) x is h = by (contains p (live_pods c)) is
  where
    by : (b : Bool) → Some (cond b (row.LostPod p) (row.NoPod p)) ≡ Some x → losses_at b t c p ≡ []
    by true e = absurd (let same : row.LostPod p ≡ x = cc in let no : false ≡ true = subst (λ (y : Row). is_refusal y ≡ true) (sym same) h in cc)
    by false e = refl
no_loss s t c a x is h = refl

module _ (facts : Facts) where
  open facts use {lists.{contains-filter, filter_member, in_filter, first_member, filter-others}, entries.{ended-push, phase_of-push, is_held-push, has_not_begun-push, is_running-push, view-same, view-less}, views.{is_quiet, says_no_pod, held-quiet, queued_at-quiet, running_at-quiet, in_use-quiet, limit-quiet, ready-quiet, draining-quiet}, members.{waiting_member, running_parts, next_choice-good}, proper.{made_kept, expiries-hold}}

  -- a row that says nothing of requests, pods and the phase
  waned-quiet : (c : Trace) (e : Entry) → SaysNoPod e.row → IsQuiet e.row → phase_by e.row ≡ None → Waned c (c ++ e ∷ [])
  waned-quiet c e none quiet phase' = record {
    held = λ r h. rw (held-quiet c e quiet) at h;
    queued = λ p r h. rw (queued_at-quiet c e p quiet) at h;
    in_use = in_use-quiet c e quiet;
    running = λ p. running_at-quiet c e p quiet;
    limit = λ p. limit-quiet c e p (none.limit p);
    ready = ready-quiet c e none;
    draining = draining-quiet c e none;
    phase = phase_of-push c e ∙ rw phase' refl;
  }

  -- ---- a waiting request expires

  -- it is none of those that run
  expire_same : (c : Trace) (t r : ℕ) → IsIdle c r → (q : ℕ) → is_running (c ++ entry t (row.Expire r) ∷ []) q ≡ is_running c q
  unfolding is_running has_begun
  expire_same c t r idle q =
      is_running-push c (entry t (row.Expire r)) q
      ∙ by (assigned c q) (has_run c q) (ended c q) (r == q) (λ e. rw (← eqb-true r q e) idle.assigned) (λ e. rw (← eqb-true r q e) idle.run)
    where
      by : (a n g m : Bool) → (m ≡ true → a ≡ false) → (m ≡ true → n ≡ false) → (((a || false) || (n || false)) && not (g || m)) ≡ ((a || n) && not g)
      by true n g true x y = absurd (let e = x refl in cc)
      by true n true false x y = refl
      by true n false false x y = refl
      by false true g true x y = absurd (let e = y refl in cc)
      by false true true false x y = refl
      by false true false false x y = refl
      by false false g m x y = refl

  -- an expiry leaves all but who waits as it is
  waned-expire : (c : Trace) (t r : ℕ) → contains r (waiting c) ≡ true → Waned c (c ++ entry t (row.Expire r) ∷ [])
  unfolding held is_held queued_at has_not_begun has_begun running_at in_use assigned
  waned-expire c t r h = record {
    held = λ x k. (filter_member (λ (y : ℕ). not (r == y)) x (held c) (rw (view-less admitted_by (is_held c) (is_held (c ++ e ∷ [])) c e r refl (λ q. is_held-push c e q ∙ held_less (assigned c q) (ended c q) (r == q))) at k)).0;
    queued = λ p x k. (filter_member (λ (y : ℕ). not (r == y)) x (queued_at c p)
        (rw (view-less (brought_to p) (has_not_begun c) (has_not_begun (c ++ e ∷ [])) c e r refl (λ q. has_not_begun-push c e q ∙ queue_less (assigned c q) (has_run c q) (ended c q) (r == q))) at k)).0;
    in_use = used;
    running = λ p. view-same (brought_to p) (is_running c) (is_running (c ++ e ∷ [])) c e refl (expire_same c t r idle);
    limit = λ p. limit-quiet c e p refl;
    ready = ready-quiet c e none;
    draining = draining-quiet c e none;
    phase = phase_of-push c e;
  }
    where
      e : Entry
      e = entry t (row.Expire r)

      idle : IsIdle c r
      idle = (waiting_member c r h).1

      none : SaysNoPod (row.Expire r)
      none = says_no_pod (row.Expire r) refl

      held_less : (a g m : Bool) → (not (a || false) && not (g || m)) ≡ ((not a && not g) && not m)
      held_less true g m = refl
      held_less false true m = refl
      held_less false false m = refl

      queue_less : (a n g m : Bool) → (not ((a || false) || (n || false)) && not (g || m)) ≡ ((not (a || n) && not g) && not m)
      queue_less true n g m = refl
      queue_less false true g m = refl
      queue_less false false true m = refl
      queue_less false false false m = refl

      -- a request that was not assigned is not in use
      absent : contains r (filter (λ q. not (ended c q)) (each_row assigned_by c)) ≡ false
      absent = contains-filter (λ q. not (ended c q)) r (each_row assigned_by c) ∙ rw (idle.assigned) refl

      used : in_use (c ++ e ∷ []) ≡ in_use c
      used = ap (λ (l : List ℕ). length l)
          (view-less assigned_by (λ q. not (ended c q)) (λ q. not (ended (c ++ e ∷ []) q)) c e r refl (λ q. ap (λ (b : Bool). not b) (ended-push c e q) ∙ not_or (ended c q) (r == q))
          ∙ filter-others r (filter (λ q. not (ended c q)) (each_row assigned_by c)) absent)
        where
          not_or : (a b : Bool) → not (a || b) ≡ (not a && not b)
          not_or true b = refl
          not_or false b = refl

  -- rows that are all proper expiries
  waned-expired : (s : Spec) (t : ℕ) (c : Trace) (rs : List ℕ) → Holds (IsProper s) c (map (λ r. entry t (row.Expire r)) rs) → Waned c (c ++ map (λ r. entry t (row.Expire r)) rs)
  waned-expired s t c [] h = rw (append-nil c) (waned-same c)
  waned-expired s t c (r ∷ rs) h =
      rw (append_assoc c (entry t (row.Expire r) ∷ []) (map (λ r. entry t (row.Expire r)) rs)) at
      (waned-then c (c ++ entry t (row.Expire r) ∷ []) ((c ++ entry t (row.Expire r) ∷ []) ++ map (λ r. entry t (row.Expire r)) rs) (waned-expire c t r h.0) (waned-expired s t (c ++ entry t (row.Expire r) ∷ []) rs h.1))

  -- so do all that come at once
  pub waned-expiries : (s : Spec) (t : ℕ) (c : Trace) → IsNumbered c → Waned c (c ++ expiries s t c)
  unfolding expiries
  waned-expiries s t c num = waned-expired s t c (due s t c) (expiries-hold s t c num)

  -- a refusal changes nothing of this
  waned-refusal : (c : Trace) (t : ℕ) (x : Row) → is_refusal x ≡ true → Waned c (c ++ entry t x ∷ [])
  waned-refusal c t (row.QueueFull r pod) h = waned-quiet c (entry t (row.QueueFull r pod)) (says_no_pod (row.QueueFull r pod) refl) (is_quiet (row.QueueFull r pod) refl refl refl refl) refl
  waned-refusal c t (row.Overload r) h = waned-quiet c (entry t (row.Overload r)) (says_no_pod (row.Overload r) refl) (is_quiet (row.Overload r) refl refl refl refl) refl
  waned-refusal c t (row.NotRunning r) h = waned-quiet c (entry t (row.NotRunning r)) (says_no_pod (row.NotRunning r) refl) (is_quiet (row.NotRunning r) refl refl refl refl) refl
  waned-refusal c t (row.NotWaiting r) h = waned-quiet c (entry t (row.NotWaiting r)) (says_no_pod (row.NotWaiting r) refl) (is_quiet (row.NotWaiting r) refl refl refl refl) refl
  waned-refusal c t (row.NotStarting p) h = waned-quiet c (entry t (row.NotStarting p)) (says_no_pod (row.NotStarting p) refl) (is_quiet (row.NotStarting p) refl refl refl refl) refl
  waned-refusal c t (row.NoPod p) h = waned-quiet c (entry t (row.NoPod p)) (says_no_pod (row.NoPod p) refl) (is_quiet (row.NoPod p) refl refl refl refl) refl
  waned-refusal c t _ h = absurd (cc)

  -- ---- a settled trace that has waned has nothing to settle

  next-none : (s : Spec) (c : Trace) (r : ℕ) → contains r (held c) ≡ true
      → ((r p : ℕ) → contains r (held c) ≡ true → in_use c < capacity s c → contains p (ready_pods c) ≡ true → has_free_seat c p ≡ false) → next_choice s c ≡ None
  next-none s c r h filled = by (next_choice s c) refl
    where
      by : (o : Option ℕ) → next_choice s c ≡ o → o ≡ None
      by None e = refl
      by (Some p) e = absurd (let good = next_choice-good s c p e in let shut = filled r p h good.0 good.1 in let open_pod = good.2 in cc)

  assignments-none : (s : Spec) (t : ℕ) (c : Trace) (rs : List ℕ) → held c ≡ rs
      → ((r p : ℕ) → contains r (held c) ≡ true → in_use c < capacity s c → contains p (ready_pods c) ≡ true → has_free_seat c p ≡ false) → assignments_of s t c rs ≡ []
  unfolding assignments_of
  assignments-none s t c [] e filled = refl
  assignments-none s t c (r ∷ rs) e filled = rw (next-none s c r (first_member r (held c) (rw e refl)) filled) refl

  -- a draining pod runs a request where all is settled: one that is queued there would run otherwise
  pub draining_runs : (s : Spec) (c : Trace) (p : ℕ) → IsSettled s c → contains p (draining c) ≡ true → running_at c p ≡ [] → ⊥
  unfolding at_pod running_at queued_at is_running has_not_begun
  draining_runs s c p settled h e = settled.draining p h (by (at_pod c p) refl)
    where
      one : (r : ℕ) → contains r (at_pod c p) ≡ true → ⊥
      one r k =
          let both = filter_member (λ r. not (ended c r)) r (each_row (brought_to p) c) k in
          two (has_begun c r) refl both.0 both.1
        where
          two : (b : Bool) → has_begun c r ≡ b → contains r (each_row (brought_to p) c) ≡ true → not (ended c r) ≡ true → ⊥
          two true f there live = absurd (let found : contains r (running_at c p) ≡ true = in_filter (is_running c) r (each_row (brought_to p) c) there (rw (f, live) refl) in let lost : contains r (running_at c p) ≡ false = rw e refl in cc)
          two false f there live = runs_some c p (settled.queued p r (in_filter (has_not_begun c) r (each_row (brought_to p) c) there (rw (f, live) refl))) e

      by : (l : List ℕ) → at_pod c p ≡ l → at_pod c p ≡ []
      by [] k = k
      by (r ∷ l) k = absurd (one r (rw (k, eq-eqb r r refl) refl))

  running_there : (c : Trace) (p r : ℕ) → contains r (running_at c p) ≡ true → contains r (at_pod c p) ≡ true
  unfolding at_pod running_at
  running_there c p r h =
      let both = filter_member (is_running c) r (each_row (brought_to p) c) h in
      in_filter (λ r. not (ended c r)) r (each_row (brought_to p) c) both.0 (rw (running_parts c r both.1).1 refl)

  -- a draining pod with a request still has one
  keeps_one : (s : Spec) (c d : Trace) (p : ℕ) → IsSettled s c → Waned c d → contains p (draining c) ≡ true → is_empty (at_pod d p) ≡ false
  keeps_one s c d p settled w h = by (running_at c p) refl
    where
      by : (l : List ℕ) → running_at c p ≡ l → is_empty (at_pod d p) ≡ false
      by [] e = absurd (draining_runs s c p settled h e)
      by (r ∷ l) e = not_empty r (at_pod d p) (running_there d p r (rw (w.running p, e, eq-eqb r r refl) refl))

  -- where all was settled and fewer wait, nothing is left to settle
  pub settling-none : (s : Spec) (t : ℕ) (c d : Trace) → IsSettled s c → Waned c d → settling s t d ≡ []
  unfolding settling held_assignments removals
  settling-none s t c d settled w =
      let one = promotions-none t d (live_pods d) (λ p r b. free-same c d p w ∙ settled.queued p r (w.queued p r b)) in
      let two = assignments-none s t d (held d) refl (λ r p a less ready. free-same c d p w ∙ settled.held r p (w.held r a) (rw (w.in_use, capacity-same s c d w.ready w.limit) at less) (rw w.ready at ready)) in
      rw (one, append-nil d, two, append-nil d)
      (ap (λ (l : List ℕ). map (λ p. entry t (row.Remove p)) l) (filter-none (λ p. is_empty (at_pod d p)) (draining d) (λ p k. keeps_one s c d p settled w (rw w.draining at k))))

  -- a refused event adds its expiries and its refusal alone
  pub refusals_inert : (s : Spec) (c : Trace) (e : Event) → IsMade s c → IsSettled s c → IsInert s c e
  unfolding react before_settling departures act_rows
  refusals_inert s c e made settled x is h =
      let gone = expiries s e.time c in
      let none = no_loss s e.time (c ++ gone) e.act x is h in
      let w1 = waned-expiries s e.time c (made_kept s c made).requests in
      let d = (c ++ gone) ++ entry e.time x ∷ [] in
      let w = waned-then c (c ++ gone) d w1 (waned-refusal (c ++ gone) e.time x h) in
      let all : (c ++ (gone ++ entry e.time x ∷ [])) ≡ d = sym (append_assoc c gone (entry e.time x ∷ [])) in
      rw (none, append-nil gone, is, no_decision s.kind s e.time (c ++ gone) d e.act x is h, activation-none s e.time c d settled w, append-nil (gone ++ entry e.time x ∷ []), all, settling-none s e.time c d settled w) (append-nil (gone ++ entry e.time x ∷ []))
