-- One event: where its rows stand, and that no further row makes it active.
use Rattle.std.proofs.Common.{◌≡◌, ℕ, Bool, true, false, List, [], ◌∷◌, ◌++◌, refl, sym, ap, ◌∙◌, subst, append-nil, append_assoc, Option, None, Some}
use Rattle.std.specs.Option.{option_or}
use Rattle.kn_event.specs.declared.entry.Entry.{Entry}
use Rattle.kn_event.specs.declared.entry.Phase.TheVariants as phase
use Rattle.kn_event.specs.declared.entry.Row.{Row}
use Rattle.kn_event.specs.declared.entry.Row.TheVariants as row
use Rattle.kn_event.specs.declared.event.Act.{Act}
use Rattle.kn_event.specs.declared.event.Act.TheVariants as act
use Rattle.kn_event.specs.declared.event.Event.{Event}
use Rattle.kn_event.specs.declared.revision.Kind.{Kind}
use Rattle.kn_event.specs.declared.revision.Kind.TheVariants as kind
use Rattle.kn_event.specs.declared.revision.Spec.{Spec}
use Rattle.kn_trace.specs.Events.{act_row, act_rows, activation, before_settling, departures, entries_of, react, row_of, scaler_rows, told_of, told_row}
use Rattle.kn_trace.specs.Laws.{IsSettled}
use Rattle.kn_trace.specs.Rows.{phase_by}
use Rattle.kn_trace.specs.Scale.{is_in_phase, phase_of, scale_rows, where_true}
use Rattle.kn_trace.specs.Settling.{settling}
use Rattle.kn_trace.specs.Trace.{Trace, entry, first_of, is_empty, ready_pods}
use Rattle.std.specs.Prelude.{not, ◌&&◌}
use Rattle.kn_event.specs.Lists.{or_else}
use Rattle.kn_record.specs.Made.{Holds, IsMade, IsProper}
use Rattle.kn_record.specs.Walks.{ArePartsProper, gone_after}
use Rattle.kn_laws.specs.Facts.{RowFacts}
use Rattle.kn_laws.specs.Kinds.{Each, IsActRow, is_act_row, is_departure_row}
use Rattle.kn_pods.specs.Pods.{PodsState, ArePodsOf, after_row}
use Rattle.kn_scaler.specs.Rows.{is_quiet}
use Rattle.kn_core.specs.Changes.{woken}
use Rattle.kn_core.proofs.Active.{DrainFew, IsAwake, awake_rows, awake_settled, drains_none, each_weaker, few_rows, is_calm, none_activated, scaler_awake}
use Rattle.kn_core.proofs.Scaled.{holds_behind, holds_front, made_behind}
use Rattle.kn_core.proofs.Traces.{rows_made}

-- the trace after the act's own row, after what a first Ready pod makes active, and after what the autoscaler adds
abbrev pub own_after : Spec → Trace → Event → Option Row → Trace
own_after s c e own = gone_after s c e ++ entries_of e.time own

abbrev pub woken_after : Spec → Trace → Event → Option Row → Trace
woken_after s c e own = own_after s c e own ++ woken own e.time (own_after s c e own)

abbrev pub ruled_rows : Spec → Trace → Event → Option Row → List Entry
ruled_rows s c e own = scaler_rows s.kind s e.time (woken_after s c e own) e.act own

abbrev pub ruled_after : Spec → Trace → Event → Option Row → Trace
ruled_after s c e own = woken_after s c e own ++ ruled_rows s c e own

-- ---- an act's own row is one of a Ready pod, or not

abbrev is_ready_own : Option Row → Bool
is_ready_own (Some (row.Ready p)) = true
is_ready_own _ = false

none_woken : (own : Option Row) (t : ℕ) (c : Trace) → is_ready_own own ≡ false → woken own t c ≡ []
none_woken (Some (row.Ready p)) t c h = absurd (cc)
none_woken _ t c h = refl

all_woken : (own : Option Row) (t : ℕ) (c : Trace) → is_ready_own own ≡ true → woken own t c ≡ activation t c
all_woken (Some (row.Ready p)) t c h = refl
all_woken _ t c h = absurd (cc)

ready_none : (k : Kind) (s : Spec) (t : ℕ) (c : Trace) (a : Act) (p : ℕ) (own : Option Row) → a ≡ act.Ready p → scaler_rows k s t c a own ≡ []
ready_none (kind.Fixed n) s t c a p own e = refl
ready_none kind.Kpa s t c a p own e = subst (λ (b : Act). scaler_rows kind.Kpa s t c b own ≡ []) (sym e) refl

ready_rules_none : (own : Option Row) (k : Kind) (s : Spec) (t : ℕ) (c : Trace) (a : Act) → IsActRow a own → is_ready_own own ≡ true → scaler_rows k s t c a own ≡ []
ready_rules_none (Some (row.Ready p)) k s t c a is_act h = ready_none k s t c a p (Some (row.Ready p)) is_act.1
ready_rules_none _ k s t c a is_act h = absurd (cc)

calm_act : (x : Row) → is_act_row x ≡ true → is_ready_own (Some x) ≡ false → is_calm x ≡ true
calm_act (row.Ready p) h other = absurd (cc)
calm_act (row.Phase x) h other = absurd (cc)
calm_act _ h other = refl

calm_own : (own : Option Row) (t : ℕ) (a : Act) → IsActRow a own → is_ready_own own ≡ false → Each is_calm (entries_of t own)
calm_own None t a h other = tt
calm_own (Some x) t a h other = (calm_act x h.0 other, tt)

calm_departure : (x : Row) → is_departure_row x ≡ true → is_calm x ≡ true
calm_departure (row.Ready p) h = absurd (cc)
calm_departure (row.Phase x) h = absurd (cc)
calm_departure _ h = refl

departs_none : (x : Row) → is_departure_row x ≡ true → drains_none x ≡ true
departs_none (row.Drain p) h = absurd (cc)
departs_none _ h = refl

act_drains_none : (x : Row) → is_act_row x ≡ true → drains_none x ≡ true
act_drains_none (row.Drain p) h = absurd (cc)
act_drains_none _ h = refl

own_drains_none : (own : Option Row) (t : ℕ) (a : Act) → IsActRow a own → Each drains_none (entries_of t own)
own_drains_none None t a h = tt
own_drains_none (Some x) t a h = (act_drains_none x h.0, tt)

activation_drains_none : (t : ℕ) (c : Trace) → Each drains_none (activation t c)
unfolding activation
activation_drains_none t c = by (is_in_phase phase.Activating (phase_of c) && not (is_empty (ready_pods c)))
  where
    by : (b : Bool) → Each drains_none (where_true b (entry t (row.Phase phase.Active) ∷ []))
    by true = (refl, tt)
    by false = tt

woken_drains_none : (own : Option Row) (t : ℕ) (c : Trace) → Each drains_none (woken own t c)
woken_drains_none (Some (row.Ready p)) t c = activation_drains_none t c
woken_drains_none _ t c = tt

apart_four : (c g o w r : List Entry) → (((c ++ g) ++ o) ++ w) ++ r ≡ c ++ ((g ++ (o ++ w)) ++ r)
apart_four c g o w r =
    ap (λ (x : List Entry). (x ++ w) ++ r) (append_assoc c g o)
    ∙ ap (λ (x : List Entry). x ++ r) (append_assoc c (g ++ o) w)
    ∙ append_assoc c ((g ++ o) ++ w) r
    ∙ ap (λ (x : List Entry). c ++ (x ++ r)) (append_assoc g o w)

-- the rows before settling, each where it comes
pub record Course (s : Spec) (c : Trace) (e : Event) (own : Option Row) : Type 0 where
  pub did : Holds (IsProper s) (gone_after s c e) (entries_of e.time own)
  pub ruled : Holds (IsProper s) (woken_after s c e own) (ruled_rows s c e own)
  pub before : before_settling s c e ≡ (departures s c e ++ (entries_of e.time own ++ woken own e.time (own_after s c e own))) ++ ruled_rows s c e own

-- so they are, with those of the settling
pub record Whole (s : Spec) (c : Trace) (e : Event) (own : Option Row) : Type 0 where
  pub acts : act_rows s e.time (gone_after s c e) e.act ≡ entries_of e.time own ++ scaler_rows s.kind s e.time (own_after s c e own) e.act own
  pub did : Holds (IsProper s) (gone_after s c e) (entries_of e.time own)
  pub ruled : Holds (IsProper s) (woken_after s c e own) (ruled_rows s c e own)
  pub before : before_settling s c e ≡ (departures s c e ++ (entries_of e.time own ++ woken own e.time (own_after s c e own))) ++ ruled_rows s c e own
  pub same : ruled_after s c e own ≡ c ++ before_settling s c e
  pub settles : Holds (IsProper s) (ruled_after s c e own) (settling s e.time (ruled_after s c e own))
  pub reacts : react s c e ≡ before_settling s c e ++ settling s e.time (ruled_after s c e own)
  pub trace : ruled_after s c e own ++ settling s e.time (ruled_after s c e own) ≡ c ++ react s c e

module _ (makes : (s : Spec) (c : Trace) (t : ℕ) (x : Row) → IsMade s c → IsProper s c x → IsMade s (c ++ entry t x ∷ []))
    (goes : (s : Spec) (c : Trace) (t : ℕ) (x : Row) (pods : PodsState) → IsMade s c → IsProper s c x → ArePodsOf pods c → ArePodsOf (after_row x pods) (c ++ entry t x ∷ []))
    (rows : RowFacts) (s : Spec) (c : Trace) (e : Event) (own : Option Row) (made_gone : IsMade s (gone_after s c e)) (proper : ArePartsProper s c e) (by_act : act_row s (gone_after s c e) e.act ≡ own) where
  acts : act_rows s e.time (gone_after s c e) e.act ≡ entries_of e.time own ++ scaler_rows s.kind s e.time (own_after s c e own) e.act own
  unfolding act_rows
  acts = rw by_act refl

  all_proper : Holds (IsProper s) (gone_after s c e) (entries_of e.time own ++ scaler_rows s.kind s e.time (own_after s c e own) e.act own)
  all_proper = subst (Holds (IsProper s) (gone_after s c e)) acts proper.acts

  pub own_proper : Holds (IsProper s) (gone_after s c e) (entries_of e.time own)
  own_proper = holds_front (IsProper s) (gone_after s c e) (entries_of e.time own) (scaler_rows s.kind s e.time (own_after s c e own) e.act own) all_proper

  own_made : IsMade s (own_after s c e own)
  own_made = rows_made makes goes s (gone_after s c e) (entries_of e.time own) made_gone own_proper

  is_act : IsActRow e.act own
  is_act = subst (IsActRow e.act) by_act (rows.act-facts s (gone_after s c e) e.act)

  -- still few pods drain
  pub few_drain : IsMade s c → IsMade s (woken_after s c e own) → DrainFew c → DrainFew (woken_after s c e own)
  few_drain made made_woken few =
      let gone = few_rows makes goes s c (departures s c e) (each_weaker is_departure_row drains_none departs_none (departures s c e) (rows.departures-rows s c e)) made (made_behind s c (departures s c e) made_gone) few in
      let did = few_rows makes goes s (gone_after s c e) (entries_of e.time own) (own_drains_none own e.time e.act is_act) made_gone own_proper gone in
      few_rows makes goes s (own_after s c e own) (woken own e.time (own_after s c e own)) (woken_drains_none own e.time (own_after s c e own)) own_made
      (made_behind s (own_after s c e own) (woken own e.time (own_after s c e own)) made_woken) did

  module _ (push : (c : Trace) (x : Entry) → phase_of (c ++ x ∷ []) ≡ or_else (phase_by x.row) (phase_of c)) (quiet : (s : Spec) (t : ℕ) (c : Trace) (want : ℕ) → Each is_quiet (scale_rows s t c want)) (made : IsMade s c) (settled : IsSettled s c) where
    ready_course : is_ready_own own ≡ true → Course s c e own
    unfolding before_settling
    ready_course h =
        let g = departures s c e in
        let o = entries_of e.time own in
        let d = own_after s c e own in
        let w = woken own e.time d in
        let none = ready_rules_none own s.kind s e.time (woken_after s c e own) e.act is_act h in
        let did : act_rows s e.time (gone_after s c e) e.act ≡ o = acts ∙ ap (λ (es : List Entry). o ++ es) (ready_rules_none own s.kind s e.time d e.act is_act h) ∙ append-nil o in
        record {
          did = own_proper;
          ruled = rw none tt;
          before = rw did
              (ap (λ (es : List Entry). (g ++ o) ++ es) (sym (all_woken own e.time d h)) ∙ append_assoc g o w ∙ sym (ap (λ (es : List Entry). (g ++ (o ++ w)) ++ es) none ∙ append-nil (g ++ (o ++ w))));
        }

    other_course : is_ready_own own ≡ false → Course s c e own
    unfolding before_settling
    other_course h =
        let g = departures s c e in
        let o = entries_of e.time own in
        let d = own_after s c e own in
        let w = woken own e.time d in
        let r = scaler_rows s.kind s e.time d e.act own in
        let none = none_woken own e.time d h in
        let same : woken_after s c e own ≡ d = ap (λ (es : List Entry). d ++ es) none ∙ append-nil d in
        let ruled : Holds (IsProper s) d r = holds_behind (IsProper s) (gone_after s c e) o r all_proper in
        let gone_awake = awake_rows makes goes s c g (each_weaker is_departure_row is_calm calm_departure g (rows.departures-rows s c e)) made (made_behind s c g made_gone) (awake_settled s c settled) in
        let own_awake = awake_rows makes goes s (gone_after s c e) o (calm_own own e.time e.act is_act h) made_gone own_proper gone_awake in
        let awake = scaler_awake makes goes push quiet s.kind s d e.time e.act own own_made ruled own_awake in
        let active = none_activated e.time (gone_after s c e ++ (o ++ r)) (subst IsAwake (append_assoc (gone_after s c e) o r) awake) in
        let rest : (g ++ (o ++ w)) ++ scaler_rows s.kind s e.time (d ++ w) e.act own ≡ (g ++ o) ++ r =
        ap (λ (es : List Entry). (g ++ (o ++ es)) ++ scaler_rows s.kind s e.time (d ++ es) e.act own) none
        ∙ ap (λ (es : List Entry). (g ++ es) ++ scaler_rows s.kind s e.time (d ++ []) e.act own) (append-nil o)
        ∙ ap (λ (x : Trace). (g ++ o) ++ scaler_rows s.kind s e.time x e.act own) (append-nil d) in
        record {
          did = own_proper;
          ruled = subst (λ (x : Trace). Holds (IsProper s) x (scaler_rows s.kind s e.time x e.act own)) (sym same) ruled;
          before = rw acts (ap (λ (es : List Entry). (g ++ (o ++ r)) ++ es) active ∙ append-nil (g ++ (o ++ r)) ∙ sym (append_assoc g o r) ∙ sym rest);
        }

    pub course : Course s c e own
    course = by (is_ready_own own) refl
      where
        by : (b : Bool) → is_ready_own own ≡ b → Course s c e own
        by true h = ready_course h
        by false h = other_course h

    pub whole : Whole s c e own
    unfolding react
    whole =
        let same : ruled_after s c e own ≡ c ++ before_settling s c e =
        apart_four c (departures s c e) (entries_of e.time own) (woken own e.time (own_after s c e own)) (ruled_rows s c e own)
        ∙ ap (λ (es : List Entry). c ++ es) (sym course.before) in
        let all : react s c e ≡ before_settling s c e ++ settling s e.time (ruled_after s c e own) = ap (λ (d : Trace). before_settling s c e ++ settling s e.time d) (sym same) in
        record {
          acts = acts;
          did = course.did;
          ruled = course.ruled;
          before = course.before;
          same = same;
          settles = subst (λ (d : Trace). Holds (IsProper s) d (settling s e.time d)) (sym same) proper.settling;
          reacts = all;
          trace =
              ap (λ (d : Trace). d ++ settling s e.time (ruled_after s c e own)) same
              ∙ append_assoc c (before_settling s c e) (settling s e.time (ruled_after s c e own))
              ∙ ap (λ (es : List Entry). c ++ es) (sym all);
        }

module _ (s : Spec) (c : Trace) (e : Event) (own : Option Row) (w : Whole s c e own) where
  -- the log, part by part
  pub log_before : (none one two three : List Entry) → none ≡ [] → one ≡ none ++ departures s c e → two ≡ one ++ (entries_of e.time own ++ woken own e.time (own_after s c e own)) → three ≡ two ++ ruled_rows s c e own
      → three ≡ before_settling s c e
  log_before none one two three a b d f = rw (f, d, b, a) (sym w.before)

  -- the first row of the act
  said : (decided : Option Row) → (own ≡ None → decided ≡ row_of (first_of (ruled_rows s c e own))) → row_of (first_of (act_rows s e.time (gone_after s c e) e.act)) ≡ option_or own decided
  said decided so = rw w.acts (by own so)
    where
      by : (o : Option Row) → (o ≡ None → decided ≡ row_of (first_of (ruled_rows s c e o))) → row_of (first_of (entries_of e.time o ++ scaler_rows s.kind s e.time (own_after s c e o) e.act o)) ≡ option_or o decided
      by None h = sym (h refl ∙ ap (λ (x : Trace). row_of (first_of (scaler_rows s.kind s e.time x e.act None))) (append-nil (own_after s c e None)))
      by (Some x) h = refl

  pub told_same : (decided : Option Row) → (own ≡ None → decided ≡ row_of (first_of (ruled_rows s c e own))) → told_of s c e ≡ told_row (c ++ react s c e) (option_or own decided)
  unfolding told_of
  told_same decided so = ap (told_row (c ++ react s c e)) (said decided so)
