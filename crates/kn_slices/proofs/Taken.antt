-- What one activator's event leaves of a group, in the words of its contracts.
use Rattle.std.proofs.Common.{◌≡◌, ◌≤◌, ◌<◌, ℕ, ◌+◌, ◌-◌, ◌++◌, List, length, get_or, refl, ap, ◌∙◌, sym, subst, arith, inl, inr, Some, []}
use Rattle.std.specs.Prelude.{slice_set}
use Rattle.std.proofs.lemmas.List.{length-set, get_or-set_other, get_or-set_same}
use Rattle.std.proofs.lemmas.Bool.{cases_eq}
use Rattle.kn_event.specs.declared.entry.Entry.{Entry}
use Rattle.kn_event.specs.declared.event.Act.TheVariants as act
use Rattle.kn_event.specs.declared.event.Event.{Event}
use Rattle.kn_event.specs.declared.revision.Spec.{Spec}
use Rattle.kn_trace.specs.Events.{react}
use Rattle.kn_trace.specs.Laws.{IsInert, IsLawful, IsSettled}
use Rattle.kn_trace.specs.Trace.{Trace}
use Rattle.kn_laws.specs.History.{IsMadeBy}
use Rattle.kn_record.specs.Admission.{Admission}
use Rattle.kn_record.specs.Made as made
use Rattle.kn_record.specs.Views.{AreViews}
use Rattle.kn_core.specs.State.{RevisionState, StandsFor}
use Rattle.kn_slices.specs.Activators.{AreMarked, AreOpened, IsGroupOf, Takes, limit_at, running_at}
use Rattle.kn_slices.specs.Calls.{AddsToTrace, AreForcesAfter, HoldsRules, KeepsWanted, MakesDue, StepsGroup}
use Rattle.kn_slices.specs.Group.{IsDue}
use Rattle.kn_slices.specs.Slices.{force_after, slice_of, unset}
use Rattle.kn_slices.specs.declared.change.Change.{Change}
use Rattle.kn_slices.specs.Traces.{AreTraces, GroupState, clocks_of, counts_of, due_of, limit_by, made_at, running_by, specs_of, trace_at}
use Rattle.kn_slices.proofs.Activators.{limits_apart}
use Rattle.kn_slices.proofs.Alike.{hold_traces, safe, traces_set}
use Rattle.kn_slices.proofs.Due.{some_same}
use Rattle.kn_slices.proofs.Forces.{forces_all}
use Rattle.kn_slices.proofs.Steps.{map-set, map-set_same, marks_keep, marks_set, one_less, one_set, opened_keeps, unset_keeps}

module _ (parts new : List RevisionState) (pods i : ℕ) (e : Event) (low : i < length parts) (t : Takes pods i e parts new) where
  pub taken_length : length new ≡ length parts
  taken_length = ap length t.changed ∙ length-set parts i t.part

  pub taken_clocks : clocks_of new ≡ slice_set (clocks_of parts) i e.time
  taken_clocks = ap clocks_of t.changed ∙ (map-set (λ (x : RevisionState). x.clock) parts i t.part ∙ ap (λ n. slice_set (clocks_of parts) i n) t.clock)

  pub taken_counts : (d : RevisionState) → counts_of new ≡ slice_set (counts_of parts) i ((get_or parts i d).events + 1)
  taken_counts d = ap counts_of t.changed ∙ (map-set (λ (x : RevisionState). x.events) parts i t.part ∙ ap (λ n. slice_set (counts_of parts) i n) (t.events d))

  pub taken_specs : specs_of new ≡ specs_of parts
  taken_specs = ap specs_of t.changed ∙ map-set_same (λ (x : RevisionState). x.spec) parts i t.part low t.spec

  pub taken_opened : (limit start : ℕ) → AreOpened limit start parts → AreOpened limit start new
  taken_opened limit start opened = subst (AreOpened limit start) (sym t.changed) (opened_keeps parts [] i t.part low limit start t.spec t.start opened)

  pub taken_stands : (cs : List Trace) (d : RevisionState) → AreTraces parts cs
      → ((c : Trace) → StandsFor (get_or parts i d) c → StandsFor (get_or new i d) (c ++ react (get_or parts i d).spec c e))
      → AreTraces new (slice_set cs i (trace_at cs i ++ react (get_or parts i d).spec (trace_at cs i) e))
  taken_stands cs d traces stands =
      let c = trace_at cs i ++ react (get_or parts i d).spec (trace_at cs i) e in
      let at : get_or new i d ≡ t.part = ap (λ (xs : List RevisionState). get_or xs i d) t.changed ∙ get_or-set_same parts i t.part d low in
      let here : StandsFor t.part c = subst (λ x. StandsFor x c) at (stands (trace_at cs i) (traces.each i d low)) in
      subst (λ (xs : List RevisionState). AreTraces xs (slice_set cs i c)) (sym t.changed) (traces_set parts cs i t.part c traces low here)

  -- an event that sets no limit
  module _ (none : (q n : ℕ) → e.act ≡ act.Limit q n → ⊥) where
    same_limits : (p : ℕ) (d : RevisionState) → p < pods → limit_at p t.part ≡ limit_at p (get_or parts i d)
    same_limits p d inside = (t.goes d).others p inside (none p)

    pub plain_marks : (wanted marks : List ℕ) → pods ≡ length wanted → AreMarked parts wanted marks → AreMarked new wanted marks
    plain_marks wanted marks many marked =
        subst (λ (xs : List RevisionState). AreMarked xs wanted marks) (sym t.changed) (marks_keep parts wanted i t.part low marks (λ p d inside. same_limits p d (omega (arith, inside, many))) marked)

    pub plain_unset : (wanted : List ℕ) → pods ≡ length wanted → (j : ℕ) (d : RevisionState) → j < length parts → unset limit_at (length new) j wanted (get_or new j d) ≡ unset limit_at (length parts) j wanted (get_or parts j d)
    plain_unset wanted many j d inside =
        ap (λ (xs : List RevisionState). unset limit_at (length xs) j wanted (get_or xs j d)) t.changed ∙ unset_keeps parts wanted i t.part low (λ p d inside. same_limits p d (omega (arith, inside, many))) j d inside

-- ---- a group, in the words of what its activators stand for

-- the laws that are used
pub record RuleLaws : Type 0 where
  pub views : (s : Spec) (a : Admission) (c : Trace) → made.IsRecordOf a c → AreViews s a c
  pub lawful : (s : Spec) (start clock count : ℕ) (c : Trace) → IsMadeBy s start clock count c → IsLawful s c
  pub settled : (s : Spec) (start clock count : ℕ) (c : Trace) → IsMadeBy s start clock count c → IsSettled s c
  pub inert : (s : Spec) (start clock count : ℕ) (c : Trace) (e : Event) → IsMadeBy s start clock count c → IsInert s c e

pub holds_rules : RuleLaws → (g : GroupState) → IsGroupOf g.parts g.wanted g.force → HoldsRules g
holds_rules laws g group = record {
  safe = λ cs p traces inside. safe laws.views g.parts g.wanted g.force cs p group traces inside;
  lawful = λ cs i d traces low.
      let from = (traces.each i d low).events in
      (laws.lawful _ _ _ _ (trace_at cs i) from, laws.settled _ _ _ _ (trace_at cs i) from, λ e. laws.inert _ _ _ _ (trace_at cs i) e from);
}

module _ (g h : GroupState) (i : ℕ) (e : Event) (low : i < length g.parts) (t : Takes (length g.wanted) i e g.parts h.parts) where
  pub steps_group : (rows : List Entry) → AddsToTrace g.parts h.parts i e rows → StepsGroup g h i e rows
  steps_group rows adds = record {
    logged = λ cs d traces. adds.logged d (trace_at cs i) (traces.each i d low);
    stands = λ cs d traces. taken_stands g.parts h.parts (length g.wanted) i e low t cs d traces (adds.stands d);
    clocks = taken_clocks g.parts h.parts (length g.wanted) i e low t;
    counts = taken_counts g.parts h.parts (length g.wanted) i e low t;
  }

  pub keeps_wanted : RuleLaws → h.limit ≡ g.limit → h.start ≡ g.start → h.wanted ≡ g.wanted → IsGroupOf g.parts g.wanted g.force → IsGroupOf h.parts g.wanted h.force
      → AreForcesAfter h.parts g.wanted g.force h.force → KeepsWanted g h
  keeps_wanted laws limit start wanted was is after = record {
    same = record { limit = limit; start = start; specs = taken_specs g.parts h.parts (length g.wanted) i e low t };
    wanted = wanted;
    force = λ cs traces. forces_all limit_by running_by cs g.wanted g.force h.force was.group.many (after.many ∙ was.group.many) (λ p inside.
        after.each p inside ∙ ap (λ n. force_after n (get_or g.wanted p 0) (get_or g.force p 0)) (hold_traces laws.views h.parts g.wanted h.force cs p is traces inside));
  }

-- the due change is made
module _ (parts new : List RevisionState) (wanted : List ℕ) (x : Change) (time : ℕ) (due : (d : RevisionState) → IsDue limit_at running_at parts wanted x d)
    (low : x.activator < length parts) (there : x.pod < length wanted) (t : Takes (length wanted) x.activator (made_at time x) parts new) (d : RevisionState) where
  here : limit_at x.pod t.part ≡ x.limit
  here = (t.goes d).here x.pod x.limit there refl

  others : (q : ℕ) (d : RevisionState) → q < length wanted → (q ≡ x.pod → ⊥) → limit_at q t.part ≡ limit_at q (get_or parts x.activator d)
  others q d inside apart = (t.goes d).others q inside (λ n e. limits_apart x.pod q x.limit n apart e)

  value : x.limit ≡ slice_of (get_or wanted x.pod 0) x.activator (length parts)
  value = (due d).value

  pub due_marked : (marks : List ℕ) → AreMarked parts wanted marks → 1 ≤ get_or marks x.pod 0
  due_marked marks marked =
      let one = one_set parts wanted x.pod x.activator x.limit t.part low there value (λ d. (due d).other) here others d in
      let was = marked.each x.pod there in
      omega (arith, one, was)

  pub due_marks : (marks : List ℕ) → AreMarked parts wanted marks → AreMarked new wanted (slice_set marks x.pod (get_or marks x.pod 0 - 1))
  due_marks marks marked =
      subst (λ (xs : List RevisionState). AreMarked xs wanted (slice_set marks x.pod (get_or marks x.pod 0 - 1))) (sym t.changed)
      (marks_set parts wanted x.pod x.activator x.limit t.part low there value (λ d. (due d).other) here others marks d marked)

  pub due_load : (j : ℕ) (d : RevisionState) → j < length parts
      → (get_or new j d).events + unset limit_at (length new) j wanted (get_or new j d) ≡ (get_or parts j d).events + unset limit_at (length parts) j wanted (get_or parts j d)
  due_load j d inside = elim (cases_eq j x.activator) [
    | inl same ↦ subst (λ k. (get_or new k d).events + unset limit_at (length new) k wanted (get_or new k d) ≡ (get_or parts k d).events + unset limit_at (length parts) k wanted (get_or parts k d)) (sym same)
        (let less = one_less parts wanted x.pod x.activator x.limit t.part low there value (λ d. (due d).other) here others d in
        let unset_is = ap (λ (xs : List RevisionState). unset limit_at (length xs) x.activator wanted (get_or xs x.activator d)) t.changed in
        let events_are = ap (λ (xs : List RevisionState). (get_or xs x.activator d).events) t.changed ∙ (ap (λ (z : RevisionState). z.events) (get_or-set_same parts x.activator t.part d low) ∙ t.events d) in
        omega (arith, less, unset_is, events_are))
    | inr apart ↦
        let at : get_or new j d ≡ get_or parts j d = ap (λ (xs : List RevisionState). get_or xs j d) t.changed ∙ get_or-set_other parts x.activator j t.part d apart in
        let count : length new ≡ length parts = ap length t.changed ∙ length-set parts x.activator t.part in
        rw (at, count) refl
  ]

-- whichever change that is
pub makes_due : (g h : GroupState) (x : Change) (time : ℕ) (rows : List Entry) → due_of g ≡ Some x → StepsGroup g h x.activator (made_at time x) rows → MakesDue g h time rows
makes_due g h x time rows due steps y is = subst (λ (z : Change). StepsGroup g h z.activator (made_at time z) rows) (some_same x y (sym due ∙ is)) steps
