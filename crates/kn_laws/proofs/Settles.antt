-- An event leaves a settled trace, and so does the opening.
use Rattle.std.proofs.Common.{◌≡◌, ℕ, Bool, true, false, not, ◌&&◌, List, [], ◌∷◌, ◌++◌, refl, sym, ap, subst, ◌∙◌, map, append-nil, append_assoc}
use Rattle.std.specs.Prelude.{Option, None}
use Rattle.std.specs.List.{filter, range_with_len}
use Rattle.kn_event.specs.declared.entry.Entry.{Entry}
use Rattle.kn_event.specs.declared.entry.Row.{Row}
use Rattle.kn_event.specs.declared.entry.Row.TheVariants as row
use Rattle.kn_event.specs.declared.entry.Phase.{Phase}
use Rattle.kn_event.specs.declared.entry.Phase.TheVariants as phase
use Rattle.kn_event.specs.declared.event.Event.{Event}
use Rattle.kn_event.specs.declared.revision.Kind.{Kind}
use Rattle.kn_event.specs.declared.revision.Kind.TheVariants as kind
use Rattle.kn_event.specs.declared.revision.Spec.{Spec}
use Rattle.kn_event.specs.Lists.{contains}
use Rattle.kn_scaling.specs.Zero.{opening_phase}
use Rattle.kn_trace.specs.Rows.{admitted_by, brought_to, created_by, drained_by, phase_by, readied_by}
use Rattle.kn_trace.specs.Trace.{Trace, entry, at_pod, draining, each_row, held, is_empty, is_ready, live_pods, queued_at, ready_pods}
use Rattle.kn_trace.specs.Scale.{creations, is_in_phase, opening_scale, phase_of, where_true}
use Rattle.kn_trace.specs.Settling.{assignments_of, held_assignments, promotions, removals, settling}
use Rattle.kn_trace.specs.Events.{act_rows, activation, added, before_settling, departures, opening, opening_of, react, trace_of}
use Rattle.kn_trace.specs.Laws.{IsSettled}
use Rattle.kn_trace.specs.Report.{is_assign}
use Rattle.kn_record.specs.Made.{IsMade}
use Rattle.kn_record.specs.Kept.{Kept}
use Rattle.kn_record.specs.Facts.{Facts}
use Rattle.kn_laws.specs.Kinds.{is_remove_row, is_run_row}
use Rattle.kn_laws.proofs.Rows.{assign_pods, run_pods, assignments-rows, phase-each, promotions-rows, ready-each, removed-rows}
use Rattle.kn_laws.proofs.Settled.{assignments-busy, assignments-filled, busier-then, draining_drained, filled-same, full-busier, promotions-busy, promotions-full, removals-drained, removed-busy, removed-seats}

-- no pod is Ready while the phase is activating
abbrev pub IsActive : Trace → Type 0
IsActive c = (p : ℕ) → contains p (ready_pods c) ≡ true → is_in_phase phase.Activating (phase_of c) ≡ false

run_phase : (x : Row) → is_run_row x ≡ true → phase_by x ≡ None
run_phase (row.Run r) h = refl
run_phase _ h = absurd (cc)

assign_phase : (x : Row) → is_assign x ≡ true → phase_by x ≡ None
assign_phase (row.Assign r p) h = refl
assign_phase _ h = absurd (cc)

remove_phase : (x : Row) → is_remove_row x ≡ true → phase_by x ≡ None
remove_phase (row.Remove p) h = refl
remove_phase _ h = absurd (cc)

-- rows that create pods, after whatever else stood there
creates_none : {X : Type 0} (f : Row → Option X) → ((p n : ℕ) → f (row.Create p n) ≡ None) → (s : Spec) (t i k : ℕ) → each_row f (creations s t i k) ≡ []
creates_none f none s t i k = from (range_with_len i k)
  where
    from : (ps : List ℕ) → each_row f (map (λ p. entry t (row.Create p s.cc)) ps) ≡ []
    from [] = refl
    from (p ∷ ps) = rw (none p s.cc) (from ps)

-- none of these rows is of the kind
pub opening_none : (f : Row → Option ℕ) → ((p n : ℕ) → f (row.Create p n) ≡ None) → ((x : Phase) → f (row.Phase x) ≡ None) → (s : Spec) (start : ℕ) → each_row f (opening s start) ≡ []
unfolding opening
opening_none f create phase' s start = by s.kind
  where
    by : (k : Kind) → each_row f (opening_of k s start) ≡ []
    by (kind.Fixed n) = creates_none f create s start 0 n
    by kind.Kpa = rw (phase' (opening_phase (opening_scale s))) (creates_none f create s start 0 (opening_scale s))

module _ (facts : Facts) where
  open facts use {lists.{contains-filter, filter_member}, entries.{phase_of-push}, members.{queued_at_pod, held_distinct}, proper.{Holds-kept, made_kept, made_opening, made_react, promotions-hold, before-holds, settling-holds}}

  -- ---- the phase

  -- after the activation it is so
  pub activation-active : (t : ℕ) (c : Trace) → IsActive (c ++ activation t c)
  unfolding activation
  activation-active t c p = by (is_in_phase phase.Activating (phase_of c)) refl (ready_pods c) refl
    where
      x : Entry
      x = entry t (row.Phase phase.Active)

      by : (b : Bool) → is_in_phase phase.Activating (phase_of c) ≡ b → (l : List ℕ) → ready_pods c ≡ l
          → contains p (ready_pods (c ++ where_true (b && not (is_empty l)) (x ∷ []))) ≡ true → is_in_phase phase.Activating (phase_of (c ++ where_true (b && not (is_empty l)) (x ∷ []))) ≡ false
      by false e l f h = rw (append-nil c) e
      by true e [] f h = absurd (let none : contains p (ready_pods c) ≡ false = rw f refl in let some : contains p (ready_pods c) ≡ true = rw (append-nil c) at h in cc)
      by true e (q ∷ l) f h = rw (phase_of-push c x) refl

  -- ---- all of it

  -- a settling settles
  pub settling-settles : (s : Spec) (t : ℕ) (c : Trace) → Kept s c → IsActive c → IsSettled s (c ++ settling s t c)
  unfolding settling held_assignments removals
  settling-settles s t c kept active =
      let ran = promotions t c (live_pods c) in
      let gave = assignments_of s t (c ++ ran) (held (c ++ ran)) in
      let c2 = (c ++ ran) ++ gave in
      let gone = filter (λ p. is_empty (at_pod c2 p)) (draining c2) in
      let rows = map (λ p. entry t (row.Remove p)) gone in
      let kept1 = Holds-kept s c ran kept (promotions-hold s t c (live_pods c) kept) in
      let whole = Holds-kept s c ((ran ++ gave) ++ rows) kept (settling-holds s t c kept) in
      let distinct = held_distinct (c ++ ran) kept1.requests in
      let same = removed-seats facts t c2 gone (λ p h. draining_drained facts c2 p (filter_member (λ p. is_empty (at_pod c2 p)) p (draining c2) h).0) in
      let filled = filled-same s c2 (c2 ++ rows) same (assignments-filled facts s t (c ++ ran) (held (c ++ ran)) refl distinct) in
      let busy2 = busier-then (c ++ ran) c2 (c2 ++ rows) (assignments-busy facts s t (c ++ ran) (held (c ++ ran))) (removed-busy facts t c2 gone) in
      let busy = busier-then c (c ++ ran) (c2 ++ rows) (promotions-busy facts t c (live_pods c)) busy2 in
      let all : (c2 ++ rows) ≡ c ++ ((ran ++ gave) ++ rows) = append_assoc (c ++ ran) gave rows ∙ append_assoc c ran (gave ++ rows) ∙ ap (λ (l : Trace). c ++ l) (sym (append_assoc ran gave rows)) in
      let homes = subst (λ (d : Trace). (p r : ℕ) → contains r (at_pod d p) ≡ true → contains p (live_pods d) ≡ true) (sym all) whole.homes in
      let phases : phase_of (c2 ++ rows) ≡ phase_of c =
      phase-each facts is_remove_row remove_phase c2 rows (removed-rows t gone)
      ∙ phase-each facts is_assign assign_phase (c ++ ran) gave (assignments-rows s t (c ++ ran) (held (c ++ ran)))
      ∙ phase-each facts is_run_row run_phase c ran (promotions-rows t c (live_pods c)) in
      let pods : ready_pods (c2 ++ rows) ≡ ready_pods c =
      same.ready
      ∙ ready-each facts is_assign (assign_pods facts) (c ++ ran) gave (assignments-rows s t (c ++ ran) (held (c ++ ran)))
      ∙ ready-each facts is_run_row (run_pods facts) c ran (promotions-rows t c (live_pods c)) in
      subst (λ (d : Trace). IsSettled s d) all (record {
        held = filled;
        queued = λ p r h. full-busier (c ++ ran) (c2 ++ rows) p busy2 (promotions-full facts s t c (live_pods c) kept p (busy.pods p (homes p r (queued_at_pod (c2 ++ rows) p r h)))) r h;
        draining = λ p h e. absurd (let some = removals-drained facts t c2 p same h in let none : is_empty (at_pod (c2 ++ rows) p) ≡ true = rw e refl in cc);
        active = λ p h. rw phases (active p (rw pods at h));
      })

  -- an event leaves a settled trace
  pub react-settles : (s : Spec) (c : Trace) (e : Event) → IsMade s c → IsSettled s (c ++ react s c e)
  unfolding react before_settling
  react-settles s c e made =
      let gone = departures s c e in
      let did = act_rows s e.time (c ++ gone) e.act in
      let c1 = (c ++ gone) ++ did in
      let first = before_settling s c e in
      let kept = Holds-kept s c first (made_kept s c made) (before-holds s c e (made_kept s c made)) in
      let all : (c1 ++ activation e.time c1) ≡ c ++ first = append_assoc (c ++ gone) did (activation e.time c1) ∙ append_assoc c gone (did ++ activation e.time c1) ∙ ap (λ (l : Trace). c ++ l) (sym (append_assoc gone did (activation e.time c1))) in
      let active = subst (λ (d : Trace). IsActive d) all (activation-active e.time c1) in
      rw (append_assoc c first (settling s e.time (c ++ first))) at (settling-settles s e.time (c ++ first) kept active)

  -- ---- the opening: nobody waits, and no pod is Ready

  -- so does the opening
  pub opening-settled : (s : Spec) (start : ℕ) → IsSettled s (opening s start)
  unfolding held queued_at draining ready_pods is_ready
  opening-settled s start = record {
    held = λ r p h. absurd (let none : contains r (held c) ≡ false = rw (opening_none admitted_by (λ p n. refl) (λ x. refl) s start) refl in cc);
    queued = λ p r h. absurd (let none : contains r (queued_at c p) ≡ false = rw (opening_none (brought_to p) (λ p n. refl) (λ x. refl) s start) refl in cc);
    draining = λ p h. absurd (let some = draining_drained facts c p h in let none : contains p (each_row drained_by c) ≡ false = rw (opening_none drained_by (λ p n. refl) (λ x. refl) s start) refl in cc);
    active = λ p h. absurd (no_ready p (contains p (each_row created_by c)) (contains-filter (is_ready c) p (each_row created_by c)) h);
  }
    where
      c : Trace
      c = opening s start

      no_ready : (p : ℕ) (a : Bool) → contains p (ready_pods c) ≡ (a && is_ready c p) → contains p (ready_pods c) ≡ true → ⊥
      no_ready p a e h =
          let none : contains p (each_row readied_by c) ≡ false = rw (opening_none readied_by (λ p n. refl) (λ x. refl) s start) refl in
          let out : is_ready c p ≡ false = rw none refl in
          by a (is_ready c p) out (sym e ∙ h)
        where
          by : (a b : Bool) → b ≡ false → (a && b) ≡ true → ⊥
          by true true e h = absurd (cc)
          by true false e h = absurd (cc)
          by false b e h = absurd (cc)

  -- ---- whole runs

  settled_added : (s : Spec) (c : Trace) (es : List Event) → IsMade s c → IsSettled s c → IsSettled s (c ++ added s c es)
  unfolding added
  settled_added s c [] made settled = rw (append-nil c) settled
  settled_added s c (e ∷ es) made settled = rw (append_assoc c (react s c e) (added s (c ++ react s c e) es)) at (settled_added s (c ++ react s c e) es (made_react s c e made) (react-settles s c e made))

  -- so is the trace of a journal's events
  pub settled_trace : (s : Spec) (start : ℕ) (es : List Event) → IsSettled s (trace_of s start es)
  unfolding trace_of
  settled_trace s start es = settled_added s (opening s start) es (made_opening s start) (opening-settled s start)
