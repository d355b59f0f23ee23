-- How many pods start: only an arrival or a tick creates any, and one that is ready starts no more.
use Rattle.std.proofs.Common.{◌≡◌, ℕ, ◌+◌, ◌≤◌, Bool, true, false, not, ◌&&◌, [], ◌∷◌, ◌++◌, length, refl, sym, ap, ◌∙◌, arith}
use Rattle.std.specs.Prelude.{Option, None, Some}
use Rattle.std.proofs.lemmas.Bool.{eq-eqb}
use Rattle.kn_event.specs.declared.entry.Phase.TheVariants as phase
use Rattle.kn_event.specs.declared.entry.Row.{Row}
use Rattle.kn_event.specs.declared.entry.Row.TheVariants as row
use Rattle.kn_event.specs.declared.event.Act.{Act}
use Rattle.kn_event.specs.declared.event.Act.TheVariants as act
use Rattle.kn_event.specs.declared.event.Event.{Event}
use Rattle.kn_event.specs.declared.revision.Kind.{Kind}
use Rattle.kn_event.specs.declared.revision.Kind.TheVariants as kind
use Rattle.kn_event.specs.declared.revision.Spec.{Spec}
use Rattle.kn_event.specs.Lists.{contains}
use Rattle.kn_trace.specs.Rows.{created_by, drained_by, gone_by, readied_by}
use Rattle.kn_trace.specs.Scale.{drain_order, is_in_phase, phase_of, where_true}
use Rattle.kn_trace.specs.Trace.{Trace, each_row, entry, is_empty, is_live_pod, is_starting, live_pods, ready_pods, starting_pods}
use Rattle.kn_trace.specs.Events.{act_row, act_rows, activation, before_settling, departures, entries_of, react, scaler_rows}
use Rattle.kn_trace.specs.Settling.{held_assignments, promotions, removals, settling}
use Rattle.kn_trace.specs.Report.{is_assign}
use Rattle.kn_record.specs.Facts.{Facts}
use Rattle.kn_laws.specs.ByAct.{IsArrival}
use Rattle.kn_laws.specs.Facts.{PartFacts}
use Rattle.kn_laws.specs.Kinds.{Each, is_act_row, is_departure_row, is_remove_row, is_run_row}
use Rattle.kn_agenda.proofs.Fewer.{filter-fewer}
use Rattle.kn_agenda.proofs.Said.{none_both, said_less, said_more, said_new, said_same}

-- ---- rows that create no pod, and those that say nothing of one

departure_creates : (x : Row) → is_departure_row x ≡ true → created_by x ≡ None
departure_creates (row.Create p n) h = absurd (cc)
departure_creates _ h = refl

act_creates : (x : Row) → is_act_row x ≡ true → created_by x ≡ None
act_creates (row.Create p n) h = absurd (cc)
act_creates _ h = refl

run_creates : (x : Row) → is_run_row x ≡ true → created_by x ≡ None
run_creates (row.Create p n) h = absurd (cc)
run_creates _ h = refl

assign_creates : (x : Row) → is_assign x ≡ true → created_by x ≡ None
assign_creates (row.Create p n) h = absurd (cc)
assign_creates _ h = refl

remove_creates : (x : Row) → is_remove_row x ≡ true → created_by x ≡ None
remove_creates (row.Create p n) h = absurd (cc)
remove_creates _ h = refl

departure_readies : (x : Row) → is_departure_row x ≡ true → readied_by x ≡ None
departure_readies (row.Ready p) h = absurd (cc)
departure_readies _ h = refl

departure_drains : (x : Row) → is_departure_row x ≡ true → drained_by x ≡ None
departure_drains (row.Drain p) h = absurd (cc)
departure_drains _ h = refl

departure_goes : (x : Row) → is_departure_row x ≡ true → gone_by x ≡ None
departure_goes (row.Remove p) h = absurd (cc)
departure_goes (row.LostPod p) h = absurd (cc)
departure_goes _ h = refl

-- ---- what the autoscaler adds

-- no pods but at an arrival or a tick
abbrev pub IsNoScaling : Act → Type 0
IsNoScaling a = (IsArrival a → ⊥) × (a ≡ act.Tick → ⊥)

no_scaling : (k : Kind) (s : Spec) (t : ℕ) (c : Trace) (a : Act) (did : Option Row) → IsNoScaling a → scaler_rows k s t c a did ≡ []
no_scaling k s t c act.Tick did h = absurd (h.1 refl)
no_scaling k s t c (act.Arrive tag) did h = absurd (h.0 (tag, refl))
no_scaling kind.Kpa s t c (act.Finish r ok) did h = refl
no_scaling kind.Kpa s t c (act.Cancel r) did h = refl
no_scaling kind.Kpa s t c act.Pass did h = refl
no_scaling kind.Kpa s t c (act.Ready p) did h = refl
no_scaling kind.Kpa s t c (act.Limit p n) did h = refl
no_scaling kind.Kpa s t c (act.Lost p) did h = refl
no_scaling (kind.Fixed n) s t c _ did h = refl

activation_creates : (t : ℕ) (c : Trace) → each_row created_by (activation t c) ≡ []
unfolding activation
activation_creates t c = by (is_in_phase phase.Activating (phase_of c) && not (is_empty (ready_pods c)))
  where
    by : (b : Bool) → each_row created_by (where_true b (entry t (row.Phase phase.Active) ∷ [])) ≡ []
    by true = refl
    by false = refl

starts-less : (c es : Trace) (q : ℕ) → is_starting (c ++ es) q ≡ true → is_starting c q ≡ true
unfolding is_starting is_live_pod
starts-less c es q h =
    by (contains q (each_row readied_by (c ++ es))) (contains q (each_row drained_by (c ++ es))) (contains q (each_row gone_by (c ++ es))) refl refl refl h
  where
    by : (a b d : Bool) → contains q (each_row readied_by (c ++ es)) ≡ a → contains q (each_row drained_by (c ++ es)) ≡ b → contains q (each_row gone_by (c ++ es)) ≡ d → (not a && not b && not d) ≡ true
        → (not (contains q (each_row readied_by c)) && not (contains q (each_row drained_by c)) && not (contains q (each_row gone_by c))) ≡ true
    by true b d ha hb hd k = absurd (cc)
    by false true d ha hb hd k = absurd (cc)
    by false false true ha hb hd k = absurd (cc)
    by false false false ha hb hd k = rw (said_less readied_by c es q ha, said_less drained_by c es q hb, said_less gone_by c es q hd) refl

starts_no_more : (c es : Trace) (p : ℕ) → contains p (each_row readied_by es) ≡ true → is_starting (c ++ es) p ≡ false
unfolding is_starting is_live_pod
starts_no_more c es p h = rw (said_new readied_by c es p h) refl

module _ (facts : Facts) (parts : PartFacts) where
  open facts use {lists.{filter_member, length-filter-more}, members.{contains-starting, length-drain_order, starting_live}}
  open parts use {each.{none-rows}, rows.{act-rows, assignments-rows, departures-rows, promotions-rows, removals-rows}}

  settling_creates : (s : Spec) (t : ℕ) (c : Trace) → each_row created_by (settling s t c) ≡ []
  unfolding settling held_assignments
  settling_creates s t c =
      let ran = promotions t c (live_pods c) in
      let gave = held_assignments s t (c ++ ran) in
      none_both created_by (ran ++ gave) (removals t ((c ++ ran) ++ gave))
      (none_both created_by ran gave (none-rows created_by is_run_row run_creates ran (promotions-rows t c (live_pods c))) (none-rows created_by is_assign assign_creates gave (assignments-rows s t (c ++ ran) _)))
      (none-rows created_by is_remove_row remove_creates (removals t ((c ++ ran) ++ gave)) (removals-rows t ((c ++ ran) ++ gave)))

  -- an event that is no arrival and no tick creates no pod
  pub nothing_created : (s : Spec) (c : Trace) (e : Event) → IsNoScaling e.act → each_row created_by (react s c e) ≡ []
  unfolding react before_settling act_rows
  nothing_created s c e plain =
      let gone = departures s c e in
      let own = act_row s (c ++ gone) e.act in
      let did = entries_of e.time own ++ scaler_rows s.kind s e.time ((c ++ gone) ++ entries_of e.time own) e.act own in
      let active = activation e.time ((c ++ gone) ++ did) in
      let none : each_row created_by (scaler_rows s.kind s e.time ((c ++ gone) ++ entries_of e.time own) e.act own) ≡ [] = rw (no_scaling s.kind s e.time ((c ++ gone) ++ entries_of e.time own) e.act own plain) refl in
      none_both created_by ((gone ++ did) ++ active) (settling s e.time (c ++ ((gone ++ did) ++ active)))
      (none_both created_by (gone ++ did) active
      (none_both created_by gone did (none-rows created_by is_departure_row departure_creates gone (departures-rows s c e))
      (none_both created_by (entries_of e.time own) _ (none-rows created_by is_act_row act_creates (entries_of e.time own) (act-rows s e.time (c ++ gone) e.act)) none))
      (activation_creates e.time ((c ++ gone) ++ did)))
      (settling_creates s e.time (c ++ ((gone ++ did) ++ active)))

  -- so no more pods start
  pub starting-same : (s : Spec) (c : Trace) (e : Event) → IsNoScaling e.act → length (starting_pods (c ++ react s c e)) ≤ length (starting_pods c)
  unfolding starting_pods
  starting-same s c e plain =
      let same = said_same created_by c (react s c e) (nothing_created s c e plain) in
      rw same (length-filter-more (is_starting (c ++ react s c e)) (is_starting c) (λ q h. starts-less c (react s c e) q h) (each_row created_by c))

  -- those that end before the act's own row leave the pods as they are
  starts_still : (c es : Trace) (p : ℕ) → Each is_departure_row es → contains p (starting_pods c) ≡ true → contains p (starting_pods (c ++ es)) ≡ true
  starts_still c es p kind h =
      let a = said_same created_by c es (none-rows created_by is_departure_row departure_creates es kind) in
      let b = said_same readied_by c es (none-rows readied_by is_departure_row departure_readies es kind) in
      let d = said_same drained_by c es (none-rows drained_by is_departure_row departure_drains es kind) in
      let g = said_same gone_by c es (none-rows gone_by is_departure_row departure_goes es kind) in
      contains-starting (c ++ es) p ∙ rw (a, b, d, g) (sym (contains-starting c p) ∙ h)

  starting_is : (c : Trace) (p : ℕ) → contains p (starting_pods c) ≡ true → is_starting c p ≡ true
  unfolding starting_pods
  starting_is c p h = (filter_member (is_starting c) p (each_row created_by c) h).1

  ready_row : (s : Spec) (c : Trace) (p : ℕ) → contains p (starting_pods c) ≡ true → act_row s c (act.Ready p) ≡ Some (row.Ready p)
  unfolding act_row
  ready_row s c p h = rw (starting_live c p h, starting_is c p h) refl

  -- a starting pod that is ready was made so by the event
  pub readied : (s : Spec) (c : Trace) (e : Event) (p : ℕ) → e.act ≡ act.Ready p → contains p (starting_pods c) ≡ true → contains p (each_row readied_by (react s c e)) ≡ true
  unfolding react before_settling act_rows
  readied s c e p is h =
      let gone = departures s c e in
      let own = act_row s (c ++ gone) e.act in
      let more = scaler_rows s.kind s e.time ((c ++ gone) ++ entries_of e.time own) e.act own in
      let did = entries_of e.time own ++ more in
      let active = activation e.time ((c ++ gone) ++ did) in
      let mine : own ≡ Some (row.Ready p) = ap (λ (a : Act). act_row s (c ++ gone) a) is ∙ ready_row s (c ++ gone) p (starts_still c gone p (departures-rows s c e) h) in
      let here : contains p (each_row readied_by (entries_of e.time own)) ≡ true = rw mine (same p) in
      said_more readied_by ((gone ++ did) ++ active) (settling s e.time (c ++ ((gone ++ did) ++ active))) p
      (said_more readied_by (gone ++ did) active p (said_new readied_by gone did p (said_more readied_by (entries_of e.time own) more p here)))
    where
      same : (n : ℕ) → contains n (n ∷ []) ≡ true
      same n = rw (eq-eqb n n refl) refl

  -- so fewer start
  pub starting-fewer : (s : Spec) (c : Trace) (e : Event) (p : ℕ) → e.act ≡ act.Ready p → contains p (starting_pods c) ≡ true → length (starting_pods (c ++ react s c e)) + 1 ≤ length (starting_pods c)
  unfolding starting_pods
  starting-fewer s c e p is h =
      let plain : IsNoScaling e.act = ((λ arrival. (let other : act.Ready p ≡ act.Arrive arrival.0 = sym is ∙ arrival.1 in cc)), (λ tick. (let other : act.Ready p ≡ act.Tick = sym is ∙ tick in cc))) in
      let same = said_same created_by c (react s c e) (nothing_created s c e plain) in
      let parts' = filter_member (is_starting c) p (each_row created_by c) h in
      rw same (filter-fewer facts (is_starting c) (is_starting (c ++ react s c e)) p (λ q k. starts-less c (react s c e) q k) parts'.1
      (starts_no_more c (react s c e) p (readied s c e p is h)) (each_row created_by c) parts'.0)

  -- at most 500 start
  pub starting-most : (c : Trace) → length (drain_order c) ≤ 500 → length (starting_pods c) ≤ 500
  starting-most c most = let parts' = length-drain_order c in omega arith
