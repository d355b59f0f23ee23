-- The limits and the pods of a fixed revision over the rows of one event.
use Rattle.std.proofs.Common.{◌≡◌, ℕ, Bool, true, false, not, cond, List, [], ◌∷◌, ◌++◌, map, filter, refl, ap, ◌∙◌, sym, subst, Option, None, Some, ◌||◌, ◌&&◌, append_assoc, eq-eqb}
use Rattle.std.specs.Prelude.{◌==◌, unwrap_or}
use Rattle.std.specs.List.{cons_option}
use Rattle.std.specs.Bool.{then_some}
use Rattle.std.proofs.lemmas.List.Elements.{filter_map-append}
use Rattle.std.proofs.lemmas.Bool.{eqb-true}
use Rattle.std.proofs.lemmas.List.{append-nil}
use Rattle.kn_event.specs.declared.entry.Entry.{Entry}
use Rattle.kn_event.specs.declared.entry.Row.{Row}
use Rattle.kn_event.specs.declared.entry.Row.TheVariants as row
use Rattle.kn_event.specs.declared.entry.Phase.TheVariants as phase
use Rattle.kn_event.specs.declared.event.Act.{Act}
use Rattle.kn_event.specs.declared.event.Act.TheVariants as act
use Rattle.kn_event.specs.declared.event.Event.{Event}
use Rattle.kn_event.specs.declared.revision.Kind.{Kind}
use Rattle.kn_event.specs.declared.revision.Kind.TheVariants as kind
use Rattle.kn_event.specs.declared.revision.Spec.{Spec}
use Rattle.kn_event.specs.Lists.{contains}
use Rattle.kn_trace.specs.Events.{activation, act_row, act_rows, before_settling, departures, entries_of, react, scaler_rows}
use Rattle.kn_trace.specs.Rows.{created_by, drained_by, gone_by, limit_by}
use Rattle.kn_trace.specs.Scale.{is_in_phase, phase_of, where_true}
use Rattle.kn_trace.specs.Settling.{assignments_of, held_assignments, promotions, removals, settling}
use Rattle.kn_trace.specs.Trace.{Trace, at_pod, draining, each_row, entry, held, is_draining, is_live_pod, is_empty, last_of, limit_of, live_pods, ready_pods}
use Rattle.kn_trace.specs.Report.{is_assign}
use Rattle.kn_record.specs.Facts.{Facts}
use Rattle.kn_record.specs.Rows.{says}
use Rattle.kn_laws.specs.Facts.{PartFacts}
use Rattle.kn_laws.specs.Kinds.{Each, EachIs, IsActRow, is_departure_row, is_remove_row, is_run_row}
use Rattle.kn_limits.specs.Limits.{StaysPods}
use Rattle.kn_limits.proofs.Counting.{false-true}

-- the row leaves the limit of q
abbrev Quiet : ℕ → Row → Type 0
Quiet q x = limit_by q x ≡ None

-- the row creates no pod, drains none and takes none away
record Still (x : Row) : Type 0 where
  created : created_by x ≡ None
  drained : drained_by x ≡ None
  gone : gone_by x ≡ None

each_is : (P : Row → Type 0) (test : Row → Bool) → ((x : Row) → test x ≡ true → P x) → (es : Trace) → Each test es → EachIs P es
each_is P test h [] each = tt
each_is P test h (e ∷ es) each = (h e.row each.0, each_is P test h es each.1)

each_both : (P : Row → Type 0) (xs ys : Trace) → EachIs P xs → EachIs P ys → EachIs P (xs ++ ys)
each_both P [] ys a b = b
each_both P (x ∷ xs) ys a b = (a.0, each_both P xs ys a.1 b)

-- ---- kinds

quiet_departure : (q : ℕ) (x : Row) → is_departure_row x ≡ true → Quiet q x
quiet_departure q (row.Create p n) e = absurd (false-true e)
quiet_departure q (row.Limit p n) e = absurd (false-true e)
quiet_departure q _ e = refl

quiet_run : (q : ℕ) (x : Row) → is_run_row x ≡ true → Quiet q x
quiet_run q (row.Create p n) e = absurd (false-true e)
quiet_run q (row.Limit p n) e = absurd (false-true e)
quiet_run q _ e = refl

quiet_assign : (q : ℕ) (x : Row) → is_assign x ≡ true → Quiet q x
quiet_assign q (row.Create p n) e = absurd (false-true e)
quiet_assign q (row.Limit p n) e = absurd (false-true e)
quiet_assign q _ e = refl

quiet_remove : (q : ℕ) (x : Row) → is_remove_row x ≡ true → Quiet q x
quiet_remove q (row.Create p n) e = absurd (false-true e)
quiet_remove q (row.Limit p n) e = absurd (false-true e)
quiet_remove q _ e = refl

-- the row of an act that sets no limit of q
quiet_own : (q : ℕ) (a : Act) (x : Row) → ((n : ℕ) → a ≡ act.Limit q n → ⊥) → IsActRow a (Some x) → Quiet q x
quiet_own q a (row.Create p n) other is = absurd (false-true is.0)
quiet_own q a (row.Limit p n) other is = by (p == q) refl
  where
    by : (b : Bool) → (p == q) ≡ b → Quiet q (row.Limit p n)
    by true t = absurd (other n (is.1 ∙ ap (λ z. act.Limit z n) (eqb-true p q t)))
    by false t = rw t refl
quiet_own q a _ other is = refl

quiet_owns : (q : ℕ) (t : ℕ) (a : Act) (o : Option Row) → ((n : ℕ) → a ≡ act.Limit q n → ⊥) → IsActRow a o → EachIs (Quiet q) (entries_of t o)
quiet_owns q t a None other is = tt
quiet_owns q t a (Some x) other is = (quiet_own q a x other is, tt)

quiet_active : (q : ℕ) (t : ℕ) (c : Trace) → EachIs (Quiet q) (activation t c)
unfolding activation
quiet_active q t c = by (is_in_phase phase.Activating (phase_of c) && not (is_empty (ready_pods c)))
  where
    by : (b : Bool) → EachIs (Quiet q) (where_true b (entry t (row.Phase phase.Active) ∷ []))
    by true = (refl, tt)
    by false = tt

scaler_none : (k : Kind) (s : Spec) (t : ℕ) (c : Trace) (a : Act) (did : Option Row) (pods : ℕ) → k ≡ kind.Fixed pods → scaler_rows k s t c a did ≡ []
scaler_none (kind.Fixed n) s t c act.Tick did pods fixed = refl
scaler_none (kind.Fixed n) s t c (act.Arrive tag) did pods fixed = refl
scaler_none (kind.Fixed n) s t c _ did pods fixed = refl
scaler_none kind.Kpa s t c a did pods fixed = absurd (cc)

module _ (facts : Facts) (parts : PartFacts) where
  quiet_all : (q : ℕ) (c es : Trace) → EachIs (Quiet q) es → limit_of (c ++ es) q ≡ limit_of c q
  quiet_all q c [] each = ap (λ (d : Trace). limit_of d q) (append-nil c)
  quiet_all q c (e ∷ es) each = ap (λ (d : Trace). limit_of d q) (sym (append_assoc c (e ∷ []) es)) ∙ (quiet_all q (c ++ e ∷ []) es each.1 ∙ facts.views.limit-quiet c e q each.0)

  quiet_settling : (q : ℕ) (s : Spec) (t : ℕ) (c : Trace) → EachIs (Quiet q) (settling s t c)
  unfolding settling held_assignments
  quiet_settling q s t c =
      let ran = promotions t c (live_pods c) in
      let gave = assignments_of s t (c ++ ran) (held (c ++ ran)) in
      let left = removals t ((c ++ ran) ++ gave) in
      each_both (Quiet q) (ran ++ gave) left (each_both (Quiet q) ran gave
      (each_is (Quiet q) is_run_row (quiet_run q) ran (parts.rows.promotions-rows t c (live_pods c)))
      (each_is (Quiet q) is_assign (quiet_assign q) gave (parts.rows.assignments-rows s t (c ++ ran) (held (c ++ ran)))))
      (each_is (Quiet q) is_remove_row (quiet_remove q) left (parts.rows.removals-rows t ((c ++ ran) ++ gave)))

  quiet_before : (q : ℕ) (s : Spec) (c : Trace) (e : Event) → (pods : ℕ) → s.kind ≡ kind.Fixed pods → ((n : ℕ) → e.act ≡ act.Limit q n → ⊥) → EachIs (Quiet q) (before_settling s c e)
  unfolding before_settling act_rows
  quiet_before q s c e pods fixed other =
      let gone = departures s c e in
      let did = act_row s (c ++ gone) e.act in
      let own = entries_of e.time did in
      let scaled = scaler_rows s.kind s e.time ((c ++ gone) ++ own) e.act did in
      let none : scaled ≡ [] = scaler_none s.kind s e.time ((c ++ gone) ++ own) e.act did pods fixed in
      each_both (Quiet q) (gone ++ (own ++ scaled)) (activation e.time ((c ++ gone) ++ (own ++ scaled)))
      (each_both (Quiet q) gone (own ++ scaled) (each_is (Quiet q) is_departure_row (quiet_departure q) gone (parts.rows.departures-rows s c e))
      (each_both (Quiet q) own scaled (quiet_owns q e.time e.act did other (parts.rows.act-facts s (c ++ gone) e.act)) (subst (λ (xs : Trace). EachIs (Quiet q) xs) (sym none) tt)))
      (quiet_active q e.time ((c ++ gone) ++ (own ++ scaled)))

  pub limits : (s : Spec) (c : Trace) (e : Event) (q : ℕ) → (pods : ℕ) → s.kind ≡ kind.Fixed pods → ((n : ℕ) → e.act ≡ act.Limit q n → ⊥) → limit_of (c ++ react s c e) q ≡ limit_of c q
  unfolding react
  limits s c e q pods fixed other = quiet_all q c (before_settling s c e ++ settling s e.time (c ++ before_settling s c e))
      (each_both (Quiet q) (before_settling s c e) (settling s e.time (c ++ before_settling s c e)) (quiet_before q s c e pods fixed other) (quiet_settling q s e.time (c ++ before_settling s c e)))

  -- ---- pods

  still_live : (c : Trace) (e : Entry) → Still e.row → live_pods (c ++ e ∷ []) ≡ live_pods c
  unfolding live_pods is_live_pod
  still_live c e still = facts.entries.view-same created_by (is_live_pod c) (is_live_pod (c ++ e ∷ [])) c e still.created (λ q. facts.entries.is_live_pod-push c e q ∙ (ap (λ o. not (contains q (each_row gone_by c) || says o q)) still.gone ∙ same (contains q (each_row gone_by c))))
    where
      same : (b : Bool) → not (b || false) ≡ not b
      same true = refl
      same false = refl

  still_draining : (c : Trace) (e : Entry) → Still e.row → draining (c ++ e ∷ []) ≡ draining c
  unfolding draining is_draining is_live_pod
  still_draining c e still = facts.entries.view-same created_by (is_draining c) (is_draining (c ++ e ∷ [])) c e still.created
      (λ q. both (contains q (each_row drained_by (c ++ e ∷ []))) (contains q (each_row drained_by c)) (is_live_pod (c ++ e ∷ []) q) (is_live_pod c q)
      (facts.entries.contains-push drained_by c e q ∙ (ap (λ o. contains q (each_row drained_by c) || says o q) still.drained ∙ none (contains q (each_row drained_by c))))
      (facts.entries.is_live_pod-push c e q ∙ (ap (λ o. not (contains q (each_row gone_by c) || says o q)) still.gone ∙ same (contains q (each_row gone_by c)))))
    where
      same : (b : Bool) → not (b || false) ≡ not b
      same true = refl
      same false = refl

      none : (b : Bool) → (b || false) ≡ b
      none true = refl
      none false = refl

      both : (a b x y : Bool) → a ≡ b → x ≡ y → (a && x) ≡ (b && y)
      both a b x y e f = cc

  still_all : (c es : Trace) → EachIs Still es → (live_pods (c ++ es) ≡ live_pods c) × (draining (c ++ es) ≡ draining c)
  still_all c [] each = (ap live_pods (append-nil c), ap draining (append-nil c))
  still_all c (e ∷ es) each =
      let (live, drain) = still_all (c ++ e ∷ []) es each.1 in
      let whole = sym (append_assoc c (e ∷ []) es) in
      (ap live_pods whole ∙ (live ∙ still_live c e each.0), ap draining whole ∙ (drain ∙ still_draining c e each.0))

  still_departure : (x : Row) → is_departure_row x ≡ true → Still x
  still_departure (row.Expire r) e = record { created = refl; drained = refl; gone = refl }
  still_departure (row.LostRequest r) e = record { created = refl; drained = refl; gone = refl }
  still_departure _ e = absurd (false-true e)

  still_run : (x : Row) → is_run_row x ≡ true → Still x
  still_run (row.Run r) e = record { created = refl; drained = refl; gone = refl }
  still_run _ e = absurd (false-true e)

  still_assign : (x : Row) → is_assign x ≡ true → Still x
  still_assign (row.Assign r p) e = record { created = refl; drained = refl; gone = refl }
  still_assign _ e = absurd (false-true e)

  still_own : (a : Act) (x : Row) → ((p : ℕ) → a ≡ act.Lost p → ⊥) → IsActRow a (Some x) → Still x
  still_own a (row.Create p n) other is = absurd (false-true is.0)
  still_own a (row.Drain p) other is = absurd (false-true is.0)
  still_own a (row.Remove p) other is = absurd (false-true is.0)
  still_own a (row.LostPod p) other is = absurd (other p is.1)
  still_own a _ other is = record { created = refl; drained = refl; gone = refl }

  still_owns : (t : ℕ) (a : Act) (o : Option Row) → ((p : ℕ) → a ≡ act.Lost p → ⊥) → IsActRow a o → EachIs Still (entries_of t o)
  still_owns t a None other is = tt
  still_owns t a (Some x) other is = (still_own a x other is, tt)

  still_active : (t : ℕ) (c : Trace) → EachIs Still (activation t c)
  unfolding activation
  still_active t c = by (is_in_phase phase.Activating (phase_of c) && not (is_empty (ready_pods c)))
    where
      by : (b : Bool) → EachIs Still (where_true b (entry t (row.Phase phase.Active) ∷ []))
      by true = (record { created = refl; drained = refl; gone = refl }, tt)
      by false = tt

  still_before : (s : Spec) (c : Trace) (e : Event) → (pods : ℕ) → s.kind ≡ kind.Fixed pods → ((p : ℕ) → e.act ≡ act.Lost p → ⊥) → EachIs Still (before_settling s c e)
  unfolding before_settling act_rows
  still_before s c e pods fixed other =
      let gone = departures s c e in
      let did = act_row s (c ++ gone) e.act in
      let own = entries_of e.time did in
      let scaled = scaler_rows s.kind s e.time ((c ++ gone) ++ own) e.act did in
      let none : scaled ≡ [] = scaler_none s.kind s e.time ((c ++ gone) ++ own) e.act did pods fixed in
      each_both Still (gone ++ (own ++ scaled)) (activation e.time ((c ++ gone) ++ (own ++ scaled)))
      (each_both Still gone (own ++ scaled) (each_is Still is_departure_row still_departure gone (parts.rows.departures-rows s c e))
      (each_both Still own scaled (still_owns e.time e.act did other (parts.rows.act-facts s (c ++ gone) e.act)) (subst (λ (xs : Trace). EachIs Still xs) (sym none) tt)))
      (still_active e.time ((c ++ gone) ++ (own ++ scaled)))

  pub pods_stay : (s : Spec) (c : Trace) (e : Event) → (pods : ℕ) → s.kind ≡ kind.Fixed pods → ((p : ℕ) → e.act ≡ act.Lost p → ⊥) → draining c ≡ [] → StaysPods c (c ++ react s c e)
  unfolding react settling held_assignments removals
  pods_stay s c e pods fixed other none =
      let first = before_settling s c e in
      let d = c ++ first in
      let ran = promotions e.time d (live_pods d) in
      let gave = assignments_of s e.time (d ++ ran) (held (d ++ ran)) in
      let last = (d ++ ran) ++ gave in
      let left = removals e.time last in
      let (live0, drain0) = still_all c first (still_before s c e pods fixed other) in
      let (live1, drain1) = still_all d ran (each_is Still is_run_row still_run ran (parts.rows.promotions-rows e.time d (live_pods d))) in
      let (live2, drain2) = still_all (d ++ ran) gave (each_is Still is_assign still_assign gave (parts.rows.assignments-rows s e.time (d ++ ran) (held (d ++ ran)))) in
      let empty : draining last ≡ [] = drain2 ∙ (drain1 ∙ (drain0 ∙ none)) in
      let gone : left ≡ [] = ap (λ ps. map (λ p. entry e.time (row.Remove p)) (filter (λ p. is_empty (at_pod last p)) ps)) empty in
      let whole : c ++ (first ++ ((ran ++ gave) ++ left)) ≡ last = regroup c first ran gave left gone in
      record { live = ap live_pods whole ∙ (live2 ∙ (live1 ∙ live0)); none = ap draining whole ∙ empty }
    where
      regroup : (c a b d e : Trace) → e ≡ [] → c ++ (a ++ ((b ++ d) ++ e)) ≡ ((c ++ a) ++ b) ++ d
      regroup c a b d e none = ap (λ (z : Trace). c ++ (a ++ ((b ++ d) ++ z))) none ∙ simp (append_assoc, append-nil) refl

  -- ---- the limit that is set

  last_snoc : (n : ℕ) (xs : List ℕ) → last_of (xs ++ n ∷ []) ≡ Some n
  last_snoc n [] = refl
  last_snoc n (x ∷ xs) = ap (λ o. Some (unwrap_or o x)) (last_snoc n xs)

  set_last : (q n t : ℕ) (c : Trace) → limit_of (c ++ entry t (row.Limit q n) ∷ []) q ≡ n
  unfolding limit_of
  set_last q n t c =
      let one : each_row (limit_by q) (entry t (row.Limit q n) ∷ []) ≡ n ∷ [] = single (q == q) (eq-eqb q q refl) in
      ap (λ (xs : List ℕ). unwrap_or (last_of xs) 0) (filter_map-append (λ (e : Entry). limit_by q e.row) c (entry t (row.Limit q n) ∷ []) ∙ ap (λ (xs : List ℕ). each_row (limit_by q) c ++ xs) one) ∙ ap (λ o. unwrap_or o 0) (last_snoc n (each_row (limit_by q) c))
    where
      single : (b : Bool) → b ≡ true → cons_option (then_some b n) [] ≡ n ∷ []
      single true e = refl
      single false e = absurd (false-true e)

  own_is : (s : Spec) (d : Trace) (a : Act) (q n : ℕ) → a ≡ act.Limit q n → contains q (live_pods d) ≡ true → act_row s d a ≡ Some (row.Limit q n)
  unfolding act_row
  own_is s d a q n is live = ap (act_row s d) is ∙ ap (λ b. Some (cond b (row.Limit q n) (row.NoPod q))) live

  pub limit_set : (s : Spec) (c : Trace) (e : Event) (q n : ℕ) → (pods : ℕ) → s.kind ≡ kind.Fixed pods → e.act ≡ act.Limit q n → contains q (live_pods c) ≡ true → limit_of (c ++ react s c e) q ≡ n
  unfolding react before_settling act_rows
  limit_set s c e q n pods fixed is live =
      let gone = departures s c e in
      let d = c ++ gone in
      let did = act_row s d e.act in
      let own = entries_of e.time did in
      let scaled = scaler_rows s.kind s e.time (d ++ own) e.act did in
      let active = activation e.time (d ++ (own ++ scaled)) in
      let first = (gone ++ (own ++ scaled)) ++ active in
      let last = settling s e.time (c ++ first) in
      let (same, _) = still_all c gone (each_is Still is_departure_row still_departure gone (parts.rows.departures-rows s c e)) in
      let here : contains q (live_pods d) ≡ true = ap (contains q) same ∙ live in
      let did_is : did ≡ Some (row.Limit q n) = own_is s d e.act q n is here in
      let own_is' : own ≡ entry e.time (row.Limit q n) ∷ [] = ap (entries_of e.time) did_is in
      let none : scaled ≡ [] = scaler_none s.kind s e.time (d ++ own) e.act did pods fixed in
      let whole : c ++ (((gone ++ (own ++ scaled)) ++ active) ++ last) ≡ (d ++ entry e.time (row.Limit q n) ∷ []) ++ (active ++ last) = regroup' c gone own scaled active last (entry e.time (row.Limit q n) ∷ []) own_is' none in
      ap (λ (z : Trace). limit_of z q) whole
      ∙ (quiet_all q (d ++ entry e.time (row.Limit q n) ∷ []) (active ++ last) (each_both (Quiet q) active last (quiet_active q e.time (d ++ (own ++ scaled))) (quiet_settling q s e.time (c ++ first)))
      ∙ set_last q n e.time d)
    where
      regroup' : (c a b k f l o : Trace) → b ≡ o → k ≡ [] → c ++ (((a ++ (b ++ k)) ++ f) ++ l) ≡ ((c ++ a) ++ o) ++ (f ++ l)
      regroup' c a b k f l o e none = ap (λ (z : Trace). c ++ (((a ++ (z ++ k)) ++ f) ++ l)) e ∙ (ap (λ (z : Trace). c ++ (((a ++ (o ++ z)) ++ f) ++ l)) none ∙ simp (append_assoc, append-nil) refl)
