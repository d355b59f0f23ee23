-- What an act's own row is, and that no other row of its event is of an act.
use Rattle.std.proofs.Common.{◌≡◌, ℕ, Bool, true, false, cond, List, [], ◌∷◌, ◌++◌, inl, inr, nat_le, length, map, refl}
use Rattle.std.specs.Prelude.{Option, None, Some, slice_index, ◌%◌}
use Rattle.kn_event.specs.declared.entry.Entry.{Entry}
use Rattle.kn_event.specs.declared.entry.Row.{Row}
use Rattle.kn_event.specs.declared.entry.Row.TheVariants as row
use Rattle.kn_event.specs.declared.entry.Mode.{Mode}
use Rattle.kn_event.specs.declared.entry.Mode.TheVariants as mode
use Rattle.kn_event.specs.declared.event.Act.{Act}
use Rattle.kn_event.specs.declared.event.Act.TheVariants as act
use Rattle.kn_event.specs.declared.event.Event.{Event}
use Rattle.kn_event.specs.declared.revision.Spec.{Spec}
use Rattle.kn_event.specs.Lists.{contains}
use Rattle.kn_trace.specs.Trace.{Trace, entry, arrivals, direct_turn, held, is_running, is_starting, live, live_pods, ready_pods, waiting}
use Rattle.kn_trace.specs.Capacity.{breaker_full, pod_full}
use Rattle.kn_trace.specs.Scale.{mode_of}
use Rattle.kn_trace.specs.Settling.{assignments_of, held_assignments, promotions, removals, settling}
use Rattle.kn_trace.specs.Events.{act_row, act_rows, activation, admission_row, arrival_row, before_settling, departures, direct_row, entries_of, expiries, live_most, losses, losses_at, lost_with, react, scaler_rows}
use Rattle.kn_trace.specs.Report.{is_assign, is_expire}
use Rattle.kn_laws.specs.ByAct.{AreByAct, IsByAct}
use Rattle.kn_laws.specs.Kinds.{Each, is_remove_row, is_run_row, is_scaler_row, is_act_row, IsActRow, EachIs}
use Rattle.kn_laws.proofs.Rows.{activation-rows, assignments-rows, expiries-rows, promotions-rows, removed-rows, scaler-rows}

direct-facts : (c : Trace) (ps : List ℕ) (tag : ℕ) → IsActRow (act.Arrive tag) (Some (direct_row c ps))
direct-facts c ps tag = by (pod_full c (slice_index ps (direct_turn c % length ps)))
  where
    by : (b : Bool) → IsActRow (act.Arrive tag) (Some (cond b (row.QueueFull (arrivals c) (Some (slice_index ps (direct_turn c % length ps)))) (row.Direct (arrivals c) (slice_index ps (direct_turn c % length ps)))))
    by true = (refl, (tag, refl))
    by false = (refl, (tag, refl))

admission-facts : (s : Spec) (c : Trace) (tag : ℕ) → IsActRow (act.Arrive tag) (Some (admission_row s c tag))
admission-facts s c tag = by (breaker_full s c)
  where
    by : (b : Bool) → IsActRow (act.Arrive tag) (Some (cond b (row.QueueFull (arrivals c) None) (row.Admit (arrivals c) tag)))
    by true = (refl, (tag, refl))
    by false = (refl, refl)

arrival-facts : (m : Mode) (s : Spec) (c : Trace) (ps : List ℕ) (tag : ℕ) → IsActRow (act.Arrive tag) (Some (arrival_row m s c ps tag))
arrival-facts mode.Serve s c (p ∷ ps) tag = direct-facts c (p ∷ ps) tag
arrival-facts mode.Serve s c [] tag = admission-facts s c tag
arrival-facts mode.Proxy s c ps tag = admission-facts s c tag

-- the row of an act, where it has one, is of its kind and names what the act names
pub act-facts : (s : Spec) (c : Trace) (a : Act) → IsActRow a (act_row s c a)
unfolding act_row
act-facts s c (act.Arrive tag) = by (nat_le live_most (length (live c)))
  where
    by : (b : Bool) → IsActRow (act.Arrive tag) (Some (cond b (row.Overload (arrivals c)) (arrival_row (mode_of c) s c (ready_pods c) tag)))
    by true = (refl, (tag, refl))
    by false = arrival-facts (mode_of c) s c (ready_pods c) tag
act-facts s c (act.Finish r ok) = by (is_running c r)
  where
    by : (b : Bool) → IsActRow (act.Finish r ok) (Some (cond b (row.Finish r ok) (row.NotRunning r)))
    by true = (refl, refl)
    by false = (refl, (ok, refl))
act-facts s c (act.Cancel r) = by (contains r (waiting c))
  where
    by : (b : Bool) → IsActRow (act.Cancel r) (Some (cond b (row.Cancel r) (row.NotWaiting r)))
    by true = (refl, refl)
    by false = (refl, refl)
act-facts s c act.Pass = tt
act-facts s c (act.Ready p) = by (contains p (live_pods c)) (is_starting c p)
  where
    by : (a b : Bool) → IsActRow (act.Ready p) (Some (cond a (cond b (row.Ready p) (row.NotStarting p)) (row.NoPod p)))
    by true true = (refl, refl)
    by true false = (refl, refl)
    by false b = (refl, inl refl)
act-facts s c (act.Limit p n) = by (contains p (live_pods c))
  where
    by : (b : Bool) → IsActRow (act.Limit p n) (Some (cond b (row.Limit p n) (row.NoPod p)))
    by true = (refl, refl)
    by false = (refl, inr (inl (n, refl)))
act-facts s c (act.Lost p) = by (contains p (live_pods c))
  where
    by : (b : Bool) → IsActRow (act.Lost p) (Some (cond b (row.LostPod p) (row.NoPod p)))
    by true = (refl, refl)
    by false = (refl, inr (inr refl))
act-facts s c act.Tick = tt

-- the same as a list
pub act-rows : (s : Spec) (t : ℕ) (c : Trace) (a : Act) → Each is_act_row (entries_of t (act_row s c a))
act-rows s t c a = by (act_row s c a) (act-facts s c a)
  where
    by : (o : Option Row) → IsActRow a o → Each is_act_row (entries_of t o)
    by None h = tt
    by (Some x) h = (h.0, tt)

-- ---- each row of an event is of its act, or of no act

-- a list after another
pub EachIs-append : (P : Row → Type 0) (xs ys : Trace) → EachIs P xs → EachIs P ys → EachIs P (xs ++ ys)
EachIs-append P [] ys h k = k
EachIs-append P (e ∷ xs) ys h k = (h.0, EachIs-append P xs ys h.1 k)

pub EachIs-at : (P : Row → Type 0) (es before : Trace) (x : Entry) (rest : Trace) → es ≡ before ++ x ∷ rest → EachIs P es → P x.row
EachIs-at P [] [] x rest eq h = absurd (cc)
EachIs-at P (e ∷ es) [] x rest eq h = let same : e ≡ x = cc in rw same at h.0
EachIs-at P [] (y ∷ before) x rest eq h = absurd (cc)
EachIs-at P (e ∷ es) (y ∷ before) x rest eq h = let less : es ≡ before ++ x ∷ rest = cc in EachIs-at P es before x rest less h.1

by-rows : (a : Act) (test : Row → Bool) → ((x : Row) → test x ≡ true → IsByAct a x) → (es : Trace) → Each test es → EachIs (IsByAct a) es
by-rows a test is [] h = tt
by-rows a test is (e ∷ es) h = (is e.row h.0, by-rows a test is es h.1)

expire_by : (a : Act) (x : Row) → is_expire x ≡ true → IsByAct a x
expire_by a (row.Expire r) h = tt
expire_by a _ h = absurd (cc)

run_by_act : (a : Act) (x : Row) → is_run_row x ≡ true → IsByAct a x
run_by_act a (row.Run r) h = tt
run_by_act a _ h = absurd (cc)

assign_by : (a : Act) (x : Row) → is_assign x ≡ true → IsByAct a x
assign_by a (row.Assign r p) h = tt
assign_by a _ h = absurd (cc)

remove_by : (a : Act) (x : Row) → is_remove_row x ≡ true → IsByAct a x
remove_by a (row.Remove p) h = tt
remove_by a _ h = absurd (cc)

scaler_by : (a : Act) (x : Row) → is_scaler_row x ≡ true → IsByAct a x
scaler_by a (row.Decided d) h = tt
scaler_by a row.NoData h = tt
scaler_by a (row.Phase x) h = tt
scaler_by a (row.Mode m) h = tt
scaler_by a (row.Create p n) h = tt
scaler_by a (row.Drain p) h = tt
scaler_by a _ h = absurd (cc)

-- the act's own row names what the act names
own_by : (s : Spec) (t : ℕ) (c : Trace) (a : Act) → EachIs (IsByAct a) (entries_of t (act_row s c a))
own_by s t c a = by (act_row s c a) (act-facts s c a)
  where
    by : (o : Option Row) → IsActRow a o → EachIs (IsByAct a) (entries_of t o)
    by None h = tt
    by (Some x) h = (h.1, tt)

-- who is lost with a pod is lost by the act that names it
losses_by : (t : ℕ) (c : Trace) (a : Act) → EachIs (IsByAct a) (losses t c a)
unfolding losses
losses_by t c (act.Lost p) = by (contains p (live_pods c))
  where
    each : (rs : List ℕ) → EachIs (IsByAct (act.Lost p)) (map (λ r. entry t (row.LostRequest r)) rs)
    each [] = tt
    each (r ∷ rs) = ((p, refl), each rs)

    by : (b : Bool) → EachIs (IsByAct (act.Lost p)) (losses_at b t c p)
    by true = each (lost_with c p)
    by false = tt
losses_by t c a = tt

-- the removals are removals
pub removals-rows : (t : ℕ) (c : Trace) → Each is_remove_row (removals t c)
unfolding removals
removals-rows t c = removed-rows t _

-- each row that an event adds is of its act, or of none
pub react-by : (s : Spec) (c : Trace) (e : Event) → EachIs (IsByAct e.act) (react s c e)
unfolding react before_settling departures act_rows settling held_assignments
react-by s c e =
    let late = expiries s e.time c in
    let lost = losses e.time (c ++ late) e.act in
    let gone = late ++ lost in
    let own = entries_of e.time (act_row s (c ++ gone) e.act) in
    let more = scaler_rows s.kind s e.time ((c ++ gone) ++ own) e.act (act_row s (c ++ gone) e.act) in
    let did = own ++ more in
    let active = activation e.time ((c ++ gone) ++ did) in
    let d = c ++ ((gone ++ did) ++ active) in
    let ran = promotions e.time d (live_pods d) in
    let gave = assignments_of s e.time (d ++ ran) (held (d ++ ran)) in
    let P = IsByAct e.act in
    EachIs-append P ((gone ++ did) ++ active) ((ran ++ gave) ++ removals e.time ((d ++ ran) ++ gave))
    (EachIs-append P (gone ++ did) active
    (EachIs-append P gone did (EachIs-append P late lost (by-rows e.act is_expire (expire_by e.act) late (expiries-rows s e.time c)) (losses_by e.time (c ++ late) e.act))
    (EachIs-append P own more (own_by s e.time (c ++ gone) e.act) (by-rows e.act is_scaler_row (scaler_by e.act) more (scaler-rows s.kind s e.time ((c ++ gone) ++ own) e.act (act_row s (c ++ gone) e.act)))))
    (by-rows e.act is_scaler_row (scaler_by e.act) active (activation-rows e.time ((c ++ gone) ++ did))))
    (EachIs-append P (ran ++ gave) (removals e.time ((d ++ ran) ++ gave))
    (EachIs-append P ran gave (by-rows e.act is_run_row (run_by_act e.act) ran (promotions-rows e.time d (live_pods d)))
    (by-rows e.act is_assign (assign_by e.act) gave (assignments-rows s e.time (d ++ ran) (held (d ++ ran)))))
    (by-rows e.act is_remove_row (remove_by e.act) (removals e.time ((d ++ ran) ++ gave)) (removals-rows e.time ((d ++ ran) ++ gave))))

pub are_by_act : (s : Spec) (c : Trace) (e : Event) → AreByAct s c e
are_by_act s c e before x rest eq = EachIs-at (IsByAct e.act) (react s c e) before x rest eq (react-by s c e)
