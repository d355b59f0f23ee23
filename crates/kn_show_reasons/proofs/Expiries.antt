-- Before an event expires anybody, as many pods are ready as before it.
use Rattle.std.proofs.Common.{◌≡◌, refl, sym, ap, ◌∙◌, subst, ℕ, Bool, true, false, List, [], ◌∷◌, ◌++◌, map, append_assoc, append-nil}
use Rattle.kn_event.specs.declared.entry.Entry.{Entry}
use Rattle.kn_event.specs.declared.entry.Row.{Row}
use Rattle.kn_event.specs.declared.entry.Row.TheVariants as row
use Rattle.kn_event.specs.declared.event.Act.{Act}
use Rattle.kn_event.specs.declared.event.Act.TheVariants as act
use Rattle.kn_event.specs.declared.event.Event.{Event}
use Rattle.kn_event.specs.declared.revision.Spec.{Spec}
use Rattle.kn_event.specs.Lists.{contains}
use Rattle.kn_trace.specs.Events.{act_row, act_rows, activation, before_settling, departures, entries_of, expiries, losses, losses_at, lost_with, react}
use Rattle.kn_trace.specs.Scale.{count_ready}
use Rattle.kn_trace.specs.Settling.{assignments_of, held_assignments, promotions, removals, settling}
use Rattle.kn_trace.specs.Trace.{Trace, entry, held, live_pods}
use Rattle.kn_trace.specs.Report.{is_assign, is_expire}
use Rattle.kn_laws.specs.Facts.{PartFacts}
use Rattle.kn_laws.specs.Kinds.{Each, is_act_row, is_remove_row, is_run_row, is_scaler_row}
use Rattle.kn_past.specs.Changes.{leaves_pods}

abbrev is_other : Row → Bool
is_other (row.Expire r) = false
is_other _ = true

both : (x : Row) → is_other x ≡ true → is_expire x ≡ true → ⊥
both (row.Expire r) h k = absurd (cc)
both _ h k = absurd (cc)

expires_leaves : (x : Row) → is_expire x ≡ true → leaves_pods x ≡ true
expires_leaves (row.Expire r) h = refl
expires_leaves _ h = absurd (cc)

-- rows of a kind that has no expiry
other_by : (p : Row → Bool) → ((r : ℕ) → p (row.Expire r) ≡ false) → (x : Row) → p x ≡ true → is_other x ≡ true
other_by p none (row.Expire r) h = absurd (let e : false ≡ true = sym (none r) ∙ h in cc)
other_by p none _ h = refl

-- a row among others is another
other_in : (before rest : Trace) (x : Entry) → Each is_other (before ++ x ∷ rest) → is_other x.row ≡ true
other_in [] rest x h = h.0
other_in (y ∷ before) rest x h = other_in before rest x h.1

-- of expiries and then others, only expiries stand before one of them
before_expiry : (a b : Trace) → Each is_expire a → Each is_other b → (before rest : Trace) (x : Entry) → a ++ b ≡ before ++ x ∷ rest → is_expire x.row ≡ true → Each is_expire before
before_expiry a b ha hb [] rest x is expire = tt
before_expiry [] b ha hb (y ∷ before) rest x is expire =
    let all : Each is_other ((y ∷ before) ++ x ∷ rest) = subst (Each is_other) is hb in absurd (both x.row (other_in (y ∷ before) rest x all) expire)
before_expiry (z ∷ a) b ha hb (y ∷ before) rest x is expire =
    let same : z ≡ y = cc in
    let tail : a ++ b ≡ before ++ x ∷ rest = cc in
    (subst (λ (w : Entry). is_expire w.row ≡ true) same ha.0, before_expiry a b ha.1 hb before rest x tail expire)

lost_others : (t : ℕ) (rs : List ℕ) → Each is_other (map (λ r. entry t (row.LostRequest r)) rs)
lost_others t [] = tt
lost_others t (r ∷ rs) = (refl, lost_others t rs)

losses_others : (t : ℕ) (c : Trace) (a : Act) → Each is_other (losses t c a)
unfolding losses
losses_others t c (act.Lost p) = by (contains p (live_pods c))
  where
    by : (b : Bool) → Each is_other (losses_at b t c p)
    by true = lost_others t (lost_with c p)
    by false = tt
losses_others t c a = tt

regroup : (a b d f g : Trace) → (((a ++ b) ++ d) ++ f) ++ g ≡ a ++ (((b ++ d) ++ f) ++ g)
regroup a b d f g = simp append_assoc

module _ (facts : PartFacts) (same : (c : Trace) (e : Entry) → leaves_pods e.row ≡ true → count_ready (c ++ e ∷ []) ≡ count_ready c) where
  open facts use {each.{Each-append, Each-weaken}, rows.{act-rows, activation-rows, assignments-rows, expiries-rows, promotions-rows, removals-rows, scaler-rows}}

  still_ready : (c before : Trace) → Each is_expire before → count_ready (c ++ before) ≡ count_ready c
  still_ready c [] h = ap count_ready (append-nil c)
  still_ready c (x ∷ before) h =
      ap count_ready (sym (append_assoc c (x ∷ []) before)) ∙ still_ready (c ++ x ∷ []) before h.1 ∙ same c x (expires_leaves x.row h.0)

  acts_others : (s : Spec) (t : ℕ) (c : Trace) (a : Act) → Each is_other (act_rows s t c a)
  unfolding act_rows
  acts_others s t c a =
      let did = act_row s c a in
      Each-append is_other (entries_of t did) _ (Each-weaken is_act_row is_other (other_by is_act_row (λ r. refl)) (entries_of t did) (act-rows s t c a))
      (Each-weaken is_scaler_row is_other (other_by is_scaler_row (λ r. refl)) _ (scaler-rows s.kind s t (c ++ entries_of t did) a did))

  settling_others : (s : Spec) (t : ℕ) (c : Trace) → Each is_other (settling s t c)
  unfolding settling held_assignments
  settling_others s t c =
      let ran = promotions t c (live_pods c) in
      let gave = assignments_of s t (c ++ ran) (held (c ++ ran)) in
      Each-append is_other (ran ++ gave) (removals t ((c ++ ran) ++ gave))
      (Each-append is_other ran gave (Each-weaken is_run_row is_other (other_by is_run_row (λ r. refl)) ran (promotions-rows t c (live_pods c)))
      (Each-weaken is_assign is_other (other_by is_assign (λ r. refl)) gave (assignments-rows s t (c ++ ran) (held (c ++ ran)))))
      (Each-weaken is_remove_row is_other (other_by is_remove_row (λ r. refl)) _ (removals-rows t ((c ++ ran) ++ gave)))

  pub ready_before : (s : Spec) (c : Trace) (e : Event) (before rest : Trace) (x : Entry) → react s c e ≡ before ++ x ∷ rest → is_expire x.row ≡ true → count_ready (c ++ before) ≡ count_ready c
  unfolding react before_settling departures
  ready_before s c e before rest x is expire =
      let late = expiries s e.time c in
      let lost = losses e.time (c ++ late) e.act in
      let did = act_rows s e.time (c ++ (late ++ lost)) e.act in
      let active = activation e.time ((c ++ (late ++ lost)) ++ did) in
      let last = settling s e.time (c ++ (((late ++ lost) ++ did) ++ active)) in
      let others =
      Each-append is_other ((lost ++ did) ++ active) last
      (Each-append is_other (lost ++ did) active (Each-append is_other lost did (losses_others e.time (c ++ late) e.act) (acts_others s e.time (c ++ (late ++ lost)) e.act))
      (Each-weaken is_scaler_row is_other (other_by is_scaler_row (λ r. refl)) active (activation-rows e.time ((c ++ (late ++ lost)) ++ did))))
      (settling_others s e.time (c ++ (((late ++ lost) ++ did) ++ active))) in
      still_ready c before (before_expiry late (((lost ++ did) ++ active) ++ last) (expiries-rows s e.time c) others before rest x (sym (regroup late lost did active last) ∙ is) expire)
