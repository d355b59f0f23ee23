use Rattle.std.proofs.Common.{◌≡◌, ◌∙◌, ◌++◌, ◌∷◌, [], refl, sym, ap, subst, arith, Some}
use Rattle.std.proofs.Math.Bridge.{le_prop}
use Rattle.std.proofs.Math.Logic.{∥∥₁_elim, ∥∥₁_map}
use Rattle.std.proofs.Common.{List}
use Rattle.kn_event.specs.Revision.{AreInRange}
use Rattle.kn_event.specs.declared.entry.Entry.{Entry}
use Rattle.kn_event.specs.declared.revision.Spec.{Spec}
use Rattle.kn_trace.specs.Events.{act_row, before_settling, departures, entries_of, scaler_rows}
use Rattle.kn_trace.specs.Settling.{settling}
use Rattle.kn_trace.specs.Trace.{entry}
use Rattle.kn_record.specs.Made.{Holds, IsProper}
use Rattle.kn_record.specs.Order.{AreTimed}
use Rattle.kn_record.specs.Walks.{gone_after}
use Rattle.kn_laws.specs.Kinds.{IsActRow}
use Rattle.kn_throttle.specs.State as throttle
use Rattle.kn_core.specs.Firsts.{own_row}
use Rattle.kn_core.specs.State.{ArePartsOf}
use Rattle.kn_core.proofs.Events.{log_before, ruled_after, ruled_rows, woken_after}
use Rattle.kn_core.proofs.Live.{bool_prop}
use Rattle.kn_core.proofs.Ruling.{own_fits}
use Rattle.kn_core.proofs.Reacting.{few_settled, own_ready, pods_same, settled_mid, some_of_settled, went}
use Rattle.kn_core.proofs.Usual.{stays_parts}
use Rattle.kn_core.proofs.parts.Parts.react_usual.Goals as goal

pub advance-requires-clause-some : goal.advance-requires-clause-some
advance-requires-clause-some c = some_of_settled c.args.self.now c.requires.can.some

pub take_usual-own-requires-clause-some : goal.take_usual-own-requires-clause-some
take_usual-own-requires-clause-some c =
    ∥∥₁_map c.requires.can.some
    (λ some.
    let s = c.args.self.now.throttle.spec in
    let d = some.0 in
    let e = c.args.e.now in
    let h = c.advance.ensures.stands s d some.1 in
    let left = stays_parts s d e c.advance.new.self (subst (λ (z : Spec). departures z d e ≡ []) some.1.spec (c.requires.usual.stays d some.1.admission)) h in
    let gone = gone_after s d e in (
      gone,
      subst (λ (z : Spec). ArePartsOf z c.advance.new.self gone) (sym left.spec) left,
      subst (λ (z : Spec). Holds (IsProper z) gone (entries_of e.time (act_row z gone e.act))) (sym left.spec)
          (own_ready c.row_laws.ensures.made c.row_laws.ensures.stands c.part_laws.ensures.rows s d e c.advance.new.self (c.walk_laws.ensures.parts s d e h.made) left),
    ))

pub take_usual-own-requires-clause-order : goal.take_usual-own-requires-clause-order
take_usual-own-requires-clause-order c = record {
  timed = subst (λ (y : throttle.State). AreTimed c.args.e.now.time y.admission) (sym c.advance.ensures.throttle) c.requires.can.timed;
  few =
      few_settled c.append_laws.ensures.views c.size_laws.ensures.pods c.advance.new.self (subst (λ (y : throttle.State). AreInRange y.spec) (sym c.advance.ensures.throttle) c.requires.can.ranges)
      (settled_mid c.args.self.now c.advance.new.self c.advance.ensures.stands c.requires.can.some);
  measured = c.advance.ensures.measured;
}

pub decide_usual-requires-clause-some : goal.decide_usual-requires-clause-some
decide_usual-requires-clause-some c =
    ∥∥₁_map c.requires.can.some
    (λ some.
    let s = c.args.self.now.throttle.spec in
    let d = some.0 in
    let e = c.args.e.now in
    let own = Some (own_row c.take_usual-own.result) in
    let h = c.advance.ensures.stands s d some.1 in
    let left = stays_parts s d e c.advance.new.self (subst (λ (z : Spec). departures z d e ≡ []) some.1.spec (c.requires.usual.stays d some.1.admission)) h in
    let w = went c.row_laws.ensures.made c.row_laws.ensures.stands c.part_laws.ensures.rows c.fact_laws.ensures.entries.phase_of-push c.kind_laws.ensures.scale s d e own c.advance.new.self c.take_usual-own.new.self h.made some.2
    (c.walk_laws.ensures.parts s d e h.made) left (c.take_usual-own.ensures.row s (gone_after s d e)) (c.take_usual-own.ensures.adds.stands s (gone_after s d e)) in
    let here = woken_after s d e own in (
      here,
      subst (λ (z : Spec). ArePartsOf z c.take_usual-own.new.self here) (sym w.stands.spec) w.stands,
      subst (λ (z : Spec). Holds (IsProper z) here (scaler_rows z.kind z e.time here e.act own)) (sym w.stands.spec) w.rows.ruled,
    ))

pub decide_usual-requires-clause-own : goal.decide_usual-requires-clause-own
decide_usual-requires-clause-own c =
    ∥∥₁_elim c.requires.can.some (bool_prop _ _)
    (λ some.
    let s = c.args.self.now.throttle.spec in
    let d = some.0 in
    let e = c.args.e.now in
    let own = Some (own_row c.take_usual-own.result) in
    let h = c.advance.ensures.stands s d some.1 in
    let left = stays_parts s d e c.advance.new.self (subst (λ (z : Spec). departures z d e ≡ []) some.1.spec (c.requires.usual.stays d some.1.admission)) h in
    let gone = gone_after s d e in
    own_fits e.act own (subst (IsActRow e.act) (c.take_usual-own.ensures.row s gone left) (c.part_laws.ensures.rows.act-facts s gone e.act)))

pub decide_usual-requires-clause-can : goal.decide_usual-requires-clause-can
decide_usual-requires-clause-can c = record {
  limit = c.requires.can.limit ∙ sym (ap (λ (s : Spec). s.cc) (c.take_usual-own.ensures.spec ∙ ap (λ (y : throttle.State). y.spec) c.advance.ensures.throttle));
  draining =
      ∥∥₁_elim c.requires.can.some le_prop
      (λ some.
      let s = c.args.self.now.throttle.spec in
      let d = some.0 in
      let e = c.args.e.now in
      let own = Some (own_row c.take_usual-own.result) in
      let h = c.advance.ensures.stands s d some.1 in
      let left = stays_parts s d e c.advance.new.self (subst (λ (z : Spec). departures z d e ≡ []) some.1.spec (c.requires.usual.stays d some.1.admission)) h in
      let w = went c.row_laws.ensures.made c.row_laws.ensures.stands c.part_laws.ensures.rows c.fact_laws.ensures.entries.phase_of-push c.kind_laws.ensures.scale s d e own c.advance.new.self c.take_usual-own.new.self h.made some.2
      (c.walk_laws.ensures.parts s d e h.made) left (c.take_usual-own.ensures.row s (gone_after s d e)) (c.take_usual-own.ensures.adds.stands s (gone_after s d e)) in
      rw w.stands.pods.draining (w.few (c.size_laws.ensures.draining s d h.made some.2)));
  created = rw (c.take_usual-own.ensures.created, c.advance.ensures.pods) c.requires.can.created;
  measured = c.take_usual-own.ensures.order.measured;
}

pub settle_first-requires-clause-some : goal.settle_first-requires-clause-some
settle_first-requires-clause-some c =
    ∥∥₁_map c.requires.can.some
    (λ some.
    let s = c.args.self.now.throttle.spec in
    let d = some.0 in
    let e = c.args.e.now in
    let own = Some (own_row c.take_usual-own.result) in
    let h = c.advance.ensures.stands s d some.1 in
    let left = stays_parts s d e c.advance.new.self (subst (λ (z : Spec). departures z d e ≡ []) some.1.spec (c.requires.usual.stays d some.1.admission)) h in
    let w = went c.row_laws.ensures.made c.row_laws.ensures.stands c.part_laws.ensures.rows c.fact_laws.ensures.entries.phase_of-push c.kind_laws.ensures.scale s d e own c.advance.new.self c.take_usual-own.new.self h.made some.2
    (c.walk_laws.ensures.parts s d e h.made) left (c.take_usual-own.ensures.row s (gone_after s d e)) (c.take_usual-own.ensures.adds.stands s (gone_after s d e)) in
    let k = c.decide_usual.ensures.adds.stands s (woken_after s d e own) w.stands w.rows.ruled in
    let here = ruled_after s d e own in
    (here, subst (λ (z : Spec). ArePartsOf z c.decide_usual.new.self here) (sym k.spec) k, subst (λ (z : Spec). Holds (IsProper z) here (settling z e.time here)) (sym k.spec) w.rows.settles))

pub settle_first-requires-clause-few : goal.settle_first-requires-clause-few
settle_first-requires-clause-few c =
    ∥∥₁_elim c.requires.can.some le_prop
    (λ some.
    let s = c.args.self.now.throttle.spec in
    let d = some.0 in
    let e = c.args.e.now in
    let own = Some (own_row c.take_usual-own.result) in
    let h = c.advance.ensures.stands s d some.1 in
    let left = stays_parts s d e c.advance.new.self (subst (λ (z : Spec). departures z d e ≡ []) some.1.spec (c.requires.usual.stays d some.1.admission)) h in
    let w = went c.row_laws.ensures.made c.row_laws.ensures.stands c.part_laws.ensures.rows c.fact_laws.ensures.entries.phase_of-push c.kind_laws.ensures.scale s d e own c.advance.new.self c.take_usual-own.new.self h.made some.2
    (c.walk_laws.ensures.parts s d e h.made) left (c.take_usual-own.ensures.row s (gone_after s d e)) (c.take_usual-own.ensures.adds.stands s (gone_after s d e)) in
    let k = c.decide_usual.ensures.adds.stands s (woken_after s d e own) w.stands w.rows.ruled in
    let few = c.size_laws.ensures.pods_before s d e c.requires.can.ranges h.made some.2 in
    let same = pods_same c.append_laws.ensures.views c.decide_usual.new.self s (d ++ before_settling s d e) (subst (ArePartsOf s c.decide_usual.new.self) w.rows.same k) in
    omega (arith, few, same))

pub returns-in-None-clause-adds : goal.returns-in-None-clause-adds
returns-in-None-clause-adds c = record {
  logged = λ s d parts settled.
      let e = c.args.e.now in
      let own = Some (own_row c.take_usual-own.result) in
      let h = c.advance.ensures.stands s d parts in
      let none : departures s d e ≡ [] = subst (λ (z : Spec). departures z d e ≡ []) parts.spec (c.requires.usual.stays d parts.admission) in
      let left = stays_parts s d e c.advance.new.self none h in
      let w = went c.row_laws.ensures.made c.row_laws.ensures.stands c.part_laws.ensures.rows c.fact_laws.ensures.entries.phase_of-push c.kind_laws.ensures.scale s d e own c.advance.new.self c.take_usual-own.new.self h.made settled
      (c.walk_laws.ensures.parts s d e h.made) left (c.take_usual-own.ensures.row s (gone_after s d e)) (c.take_usual-own.ensures.adds.stands s (gone_after s d e)) in
      let k = c.decide_usual.ensures.adds.stands s (woken_after s d e own) w.stands w.rows.ruled in
      let x = entry e.time (own_row c.take_usual-own.result) in
      let ruled = c.decide_usual.ensures.adds.logged s (woken_after s d e own) w.stands w.rows.ruled ∙ ap (λ (es : List Entry). es ++ ruled_rows s d e own) c.requires.empty in
      let before = log_before s d e own w.rows [] [] (x ∷ []) (x ∷ c.decide_usual.new.log) refl (sym none) (c.take_usual-own.ensures.adds.logged s (gone_after s d e) left w.rows.did) (ap (λ (es : List Entry). x ∷ es) ruled) in
      let last = rw c.in-None.is at (c.settle_first.ensures.adds.logged s (ruled_after s d e own) k w.rows.settles) in
      ap (λ (es : List Entry). x ∷ es) last ∙ ap (λ (es : List Entry). es ++ settling s e.time (ruled_after s d e own)) before ∙ sym w.rows.reacts;
  stands = λ s d parts settled.
      let e = c.args.e.now in
      let own = Some (own_row c.take_usual-own.result) in
      let h = c.advance.ensures.stands s d parts in
      let none : departures s d e ≡ [] = subst (λ (z : Spec). departures z d e ≡ []) parts.spec (c.requires.usual.stays d parts.admission) in
      let left = stays_parts s d e c.advance.new.self none h in
      let w = went c.row_laws.ensures.made c.row_laws.ensures.stands c.part_laws.ensures.rows c.fact_laws.ensures.entries.phase_of-push c.kind_laws.ensures.scale s d e own c.advance.new.self c.take_usual-own.new.self h.made settled
      (c.walk_laws.ensures.parts s d e h.made) left (c.take_usual-own.ensures.row s (gone_after s d e)) (c.take_usual-own.ensures.adds.stands s (gone_after s d e)) in
      let k = c.decide_usual.ensures.adds.stands s (woken_after s d e own) w.stands w.rows.ruled in
      subst (ArePartsOf s c.settle_first.new.self) w.rows.trace (c.settle_first.ensures.adds.stands s (ruled_after s d e own) k w.rows.settles);
}

pub returns-in-Some-clause-adds : goal.returns-in-Some-clause-adds
returns-in-Some-clause-adds c = record {
  logged = λ s d parts settled.
      let e = c.args.e.now in
      let own = Some (own_row c.take_usual-own.result) in
      let h = c.advance.ensures.stands s d parts in
      let none : departures s d e ≡ [] = subst (λ (z : Spec). departures z d e ≡ []) parts.spec (c.requires.usual.stays d parts.admission) in
      let left = stays_parts s d e c.advance.new.self none h in
      let w = went c.row_laws.ensures.made c.row_laws.ensures.stands c.part_laws.ensures.rows c.fact_laws.ensures.entries.phase_of-push c.kind_laws.ensures.scale s d e own c.advance.new.self c.take_usual-own.new.self h.made settled
      (c.walk_laws.ensures.parts s d e h.made) left (c.take_usual-own.ensures.row s (gone_after s d e)) (c.take_usual-own.ensures.adds.stands s (gone_after s d e)) in
      let k = c.decide_usual.ensures.adds.stands s (woken_after s d e own) w.stands w.rows.ruled in
      let x = entry e.time (own_row c.take_usual-own.result) in
      let ruled = c.decide_usual.ensures.adds.logged s (woken_after s d e own) w.stands w.rows.ruled ∙ ap (λ (es : List Entry). es ++ ruled_rows s d e own) c.requires.empty in
      let before = log_before s d e own w.rows [] [] (x ∷ []) (x ∷ c.decide_usual.new.log) refl (sym none) (c.take_usual-own.ensures.adds.logged s (gone_after s d e) left w.rows.did) (ap (λ (es : List Entry). x ∷ es) ruled) in
      let last = rw c.in-Some.is at (c.settle_first.ensures.adds.logged s (ruled_after s d e own) k w.rows.settles) in
      ap (λ (es : List Entry). x ∷ es) last ∙ ap (λ (es : List Entry). es ++ settling s e.time (ruled_after s d e own)) before ∙ sym w.rows.reacts;
  stands = λ s d parts settled.
      let e = c.args.e.now in
      let own = Some (own_row c.take_usual-own.result) in
      let h = c.advance.ensures.stands s d parts in
      let none : departures s d e ≡ [] = subst (λ (z : Spec). departures z d e ≡ []) parts.spec (c.requires.usual.stays d parts.admission) in
      let left = stays_parts s d e c.advance.new.self none h in
      let w = went c.row_laws.ensures.made c.row_laws.ensures.stands c.part_laws.ensures.rows c.fact_laws.ensures.entries.phase_of-push c.kind_laws.ensures.scale s d e own c.advance.new.self c.take_usual-own.new.self h.made settled
      (c.walk_laws.ensures.parts s d e h.made) left (c.take_usual-own.ensures.row s (gone_after s d e)) (c.take_usual-own.ensures.adds.stands s (gone_after s d e)) in
      let k = c.decide_usual.ensures.adds.stands s (woken_after s d e own) w.stands w.rows.ruled in
      subst (ArePartsOf s c.settle_first.new.self) w.rows.trace (c.settle_first.ensures.adds.stands s (ruled_after s d e own) k w.rows.settles);
}
