use Rattle.std.proofs.Common.{◌∙◌, ◌++◌, sym, ap, subst, arith, length}
use Rattle.std.proofs.Math.Bridge.{le_prop}
use Rattle.std.proofs.Math.Logic.{∥∥₁_elim, ∥∥₁_map}
use Rattle.std.proofs.Common.{List}
use Rattle.kn_event.specs.Revision.{AreInRange}
use Rattle.kn_event.specs.declared.entry.Entry.{Entry}
use Rattle.kn_event.specs.declared.revision.Spec.{Spec}
use Rattle.kn_trace.specs.Events.{act_row, before_settling, departures, entries_of, react, scaler_rows}
use Rattle.kn_trace.specs.Settling.{settling}
use Rattle.kn_record.specs.Made.{Holds, IsProper}
use Rattle.kn_record.specs.Order.{AreTimed}
use Rattle.kn_record.specs.Walks.{gone_after}
use Rattle.kn_laws.specs.Kinds.{IsActRow}
use Rattle.kn_throttle.specs.State as throttle
use Rattle.kn_core.specs.State.{ArePartsOf}
use Rattle.kn_core.proofs.After.{ready_more}
use Rattle.kn_core.proofs.Events.{log_before, ruled_after, told_same, woken_after}
use Rattle.kn_core.proofs.Live.{bool_prop}
use Rattle.kn_core.proofs.Ruling.{own_fits, own_says}
use Rattle.kn_core.proofs.Reacting.{few_settled, own_ready, pods_same, settled_mid, some_of_settled, went}
use Rattle.kn_core.proofs.parts.Parts.react.Goals as goal

pub advance-requires-clause-some : goal.advance-requires-clause-some
advance-requires-clause-some c = some_of_settled c.args.self.now c.requires.can.some

pub depart-requires-clause-some : goal.depart-requires-clause-some
depart-requires-clause-some c = some_of_settled c.advance.new.self (settled_mid c.args.self.now c.advance.new.self c.advance.ensures.stands c.requires.can.some)

pub depart-requires-clause-can : goal.depart-requires-clause-can
depart-requires-clause-can c = record {
  few =
      few_settled c.append_laws.ensures.views c.size_laws.ensures.pods c.advance.new.self (subst (λ (y : throttle.State). AreInRange y.spec) (sym c.advance.ensures.throttle) c.requires.can.ranges)
      (settled_mid c.args.self.now c.advance.new.self c.advance.ensures.stands c.requires.can.some);
  measured = c.advance.ensures.measured;
  room =
      let few = c.requires.can.few in
      let none = ap length c.requires.empty in
      let same = ap (λ (y : throttle.State). length y.admission.live) c.advance.ensures.throttle in
      omega (arith, few, none, same);
}

pub take-own-requires-clause-room : goal.take-own-requires-clause-room
take-own-requires-clause-room c =
    let few = c.requires.can.few in
    let none = ap length c.requires.empty in
    let same = ap (λ (y : throttle.State). length y.admission.live) c.advance.ensures.throttle in
    omega (arith, few, none, same, c.depart.ensures.ends.room)

pub take-own-requires-clause-some : goal.take-own-requires-clause-some
take-own-requires-clause-some c =
    let e = c.args.e.now in
    ready_more (λ s d. entries_of e.time (act_row s d e.act)) (λ s d. departures s d e) c.advance.new.self c.depart.new.self
    (λ s d h. c.depart.ensures.adds.stands s d h tt)
    (λ s d h. own_ready c.row_laws.ensures.made c.row_laws.ensures.stands c.part_laws.ensures.rows s d e c.depart.new.self (c.walk_laws.ensures.parts s d e h.made) (c.depart.ensures.adds.stands s d h tt))
    (some_of_settled c.advance.new.self (settled_mid c.args.self.now c.advance.new.self c.advance.ensures.stands c.requires.can.some))

pub take-own-requires-clause-arrivals : goal.take-own-requires-clause-arrivals
take-own-requires-clause-arrivals c = rw (c.depart.ensures.ends.nobody.arrivals, c.advance.ensures.throttle) c.requires.can.arrivals

pub take-own-requires-clause-order : goal.take-own-requires-clause-order
take-own-requires-clause-order c = record {
  timed = c.depart.ensures.ends.nobody.timed (subst (λ (y : throttle.State). AreTimed c.args.e.now.time y.admission) (sym c.advance.ensures.throttle) c.requires.can.timed);
  few = c.depart.ensures.few;
  measured = c.depart.ensures.ends.measured;
}

pub decide-decided-requires-clause-ranges : goal.decide-decided-requires-clause-ranges
decide-decided-requires-clause-ranges c = subst AreInRange (sym (c.take-own.ensures.spec ∙ c.depart.ensures.ends.nobody.spec ∙ ap (λ (y : throttle.State). y.spec) c.advance.ensures.throttle)) c.requires.can.ranges

pub decide-decided-requires-clause-some : goal.decide-decided-requires-clause-some
decide-decided-requires-clause-some c =
    ∥∥₁_map c.requires.can.some
    (λ some.
    let s = c.args.self.now.throttle.spec in
    let d = some.0 in
    let e = c.args.e.now in
    let h = c.advance.ensures.stands s d some.1 in
    let w = went c.row_laws.ensures.made c.row_laws.ensures.stands c.part_laws.ensures.rows c.fact_laws.ensures.entries.phase_of-push c.kind_laws.ensures.scale s d e c.take-own.result c.depart.new.self c.take-own.new.self h.made some.2
    (c.walk_laws.ensures.parts s d e h.made) (c.depart.ensures.adds.stands s d h tt) (c.take-own.ensures.row s (gone_after s d e)) (c.take-own.ensures.adds.stands s (gone_after s d e)) in (
      woken_after s d e c.take-own.result,
      subst (λ (z : Spec). ArePartsOf z c.take-own.new.self (woken_after s d e c.take-own.result)) (sym w.stands.spec) w.stands,
      subst (λ (z : Spec). Holds (IsProper z) (woken_after s d e c.take-own.result) (scaler_rows z.kind z e.time (woken_after s d e c.take-own.result) e.act c.take-own.result)) (sym w.stands.spec) w.rows.ruled,
    ))

pub decide-decided-requires-clause-own : goal.decide-decided-requires-clause-own
decide-decided-requires-clause-own c =
    ∥∥₁_elim c.requires.can.some (bool_prop _ _)
    (λ some.
    let s = c.args.self.now.throttle.spec in
    let d = some.0 in
    let e = c.args.e.now in
    let gone = gone_after s d e in
    let h = c.advance.ensures.stands s d some.1 in
    own_fits e.act c.take-own.result (subst (IsActRow e.act) (c.take-own.ensures.row s gone (c.depart.ensures.adds.stands s d h tt)) (c.part_laws.ensures.rows.act-facts s gone e.act)))

pub tell-requires-clause-act : goal.tell-requires-clause-act
tell-requires-clause-act c =
    ∥∥₁_elim c.requires.can.some (bool_prop _ _)
    (λ some.
    let s = c.args.self.now.throttle.spec in
    let d = some.0 in
    let e = c.args.e.now in
    let gone = gone_after s d e in
    let h = c.advance.ensures.stands s d some.1 in
    own_says e.act c.take-own.result (subst (IsActRow e.act) (c.take-own.ensures.row s gone (c.depart.ensures.adds.stands s d h tt)) (c.part_laws.ensures.rows.act-facts s gone e.act)))

pub decide-decided-requires-clause-can : goal.decide-decided-requires-clause-can
decide-decided-requires-clause-can c = record {
  limit = c.requires.can.limit ∙ sym (ap (λ (s : Spec). s.cc) (c.take-own.ensures.spec ∙ c.depart.ensures.ends.nobody.spec ∙ ap (λ (y : throttle.State). y.spec) c.advance.ensures.throttle));
  draining =
      ∥∥₁_elim c.requires.can.some le_prop
      (λ some.
      let s = c.args.self.now.throttle.spec in
      let d = some.0 in
      let e = c.args.e.now in
      let h = c.advance.ensures.stands s d some.1 in
      let w = went c.row_laws.ensures.made c.row_laws.ensures.stands c.part_laws.ensures.rows c.fact_laws.ensures.entries.phase_of-push c.kind_laws.ensures.scale s d e c.take-own.result c.depart.new.self c.take-own.new.self h.made some.2
      (c.walk_laws.ensures.parts s d e h.made) (c.depart.ensures.adds.stands s d h tt) (c.take-own.ensures.row s (gone_after s d e)) (c.take-own.ensures.adds.stands s (gone_after s d e)) in
      rw w.stands.pods.draining (w.few (c.size_laws.ensures.draining s d h.made some.2)));
  created = rw (c.take-own.ensures.created, c.depart.ensures.ends.created, c.advance.ensures.pods) c.requires.can.created;
  measured = c.take-own.ensures.order.measured;
}

pub decide-decided-requires-clause-room : goal.decide-decided-requires-clause-room
decide-decided-requires-clause-room c =
    let few = c.requires.can.few in
    let none = ap length c.requires.empty in
    let same = ap (λ (y : throttle.State). length y.admission.live) c.advance.ensures.throttle in
    omega (arith, few, none, same, c.depart.ensures.ends.room, c.take-own.ensures.most)

pub settle-requires-clause-some : goal.settle-requires-clause-some
settle-requires-clause-some c =
    ∥∥₁_map c.requires.can.some
    (λ some.
    let s = c.args.self.now.throttle.spec in
    let d = some.0 in
    let e = c.args.e.now in
    let h = c.advance.ensures.stands s d some.1 in
    let w = went c.row_laws.ensures.made c.row_laws.ensures.stands c.part_laws.ensures.rows c.fact_laws.ensures.entries.phase_of-push c.kind_laws.ensures.scale s d e c.take-own.result c.depart.new.self c.take-own.new.self h.made some.2
    (c.walk_laws.ensures.parts s d e h.made) (c.depart.ensures.adds.stands s d h tt) (c.take-own.ensures.row s (gone_after s d e)) (c.take-own.ensures.adds.stands s (gone_after s d e)) in
    let k = c.decide-decided.ensures.adds.stands s (woken_after s d e c.take-own.result) w.stands w.rows.ruled in
    let here = ruled_after s d e c.take-own.result in
    (here, subst (λ (z : Spec). ArePartsOf z c.decide-decided.new.self here) (sym k.spec) k, subst (λ (z : Spec). Holds (IsProper z) here (settling z e.time here)) (sym k.spec) w.rows.settles))

pub settle-requires-clause-few : goal.settle-requires-clause-few
settle-requires-clause-few c =
    ∥∥₁_elim c.requires.can.some le_prop
    (λ some.
    let s = c.args.self.now.throttle.spec in
    let d = some.0 in
    let e = c.args.e.now in
    let h = c.advance.ensures.stands s d some.1 in
    let w = went c.row_laws.ensures.made c.row_laws.ensures.stands c.part_laws.ensures.rows c.fact_laws.ensures.entries.phase_of-push c.kind_laws.ensures.scale s d e c.take-own.result c.depart.new.self c.take-own.new.self h.made some.2
    (c.walk_laws.ensures.parts s d e h.made) (c.depart.ensures.adds.stands s d h tt) (c.take-own.ensures.row s (gone_after s d e)) (c.take-own.ensures.adds.stands s (gone_after s d e)) in
    let k = c.decide-decided.ensures.adds.stands s (woken_after s d e c.take-own.result) w.stands w.rows.ruled in
    let few = c.size_laws.ensures.pods_before s d e c.requires.can.ranges h.made some.2 in
    let same = pods_same c.append_laws.ensures.views c.decide-decided.new.self s (d ++ before_settling s d e) (subst (ArePartsOf s c.decide-decided.new.self) w.rows.same k) in
    omega (arith, few, same))

pub settle-requires-clause-room : goal.settle-requires-clause-room
settle-requires-clause-room c =
    ∥∥₁_elim c.requires.can.some le_prop
    (λ some.
    let s = c.args.self.now.throttle.spec in
    let d = some.0 in
    let e = c.args.e.now in
    let h = c.advance.ensures.stands s d some.1 in
    let w = went c.row_laws.ensures.made c.row_laws.ensures.stands c.part_laws.ensures.rows c.fact_laws.ensures.entries.phase_of-push c.kind_laws.ensures.scale s d e c.take-own.result c.depart.new.self c.take-own.new.self h.made some.2
    (c.walk_laws.ensures.parts s d e h.made) (c.depart.ensures.adds.stands s d h tt) (c.take-own.ensures.row s (gone_after s d e)) (c.take-own.ensures.adds.stands s (gone_after s d e)) in
    let log = log_before s d e c.take-own.result w.rows _ _ _ _ c.requires.empty (c.depart.ensures.adds.logged s d h tt) (c.take-own.ensures.adds.logged s (gone_after s d e) w.left w.rows.did)
    (c.decide-decided.ensures.adds.logged s (woken_after s d e c.take-own.result) w.stands w.rows.ruled) in
    let few = c.entry_laws.ensures.before s d e c.requires.can.ranges h.made in
    let same = ap length log in
    omega (arith, few, same))

pub returns-clause-adds : goal.returns-clause-adds
returns-clause-adds c = record {
  logged = λ s d parts settled.
      let e = c.args.e.now in
      let h = c.advance.ensures.stands s d parts in
      let w = went c.row_laws.ensures.made c.row_laws.ensures.stands c.part_laws.ensures.rows c.fact_laws.ensures.entries.phase_of-push c.kind_laws.ensures.scale s d e c.take-own.result c.depart.new.self c.take-own.new.self h.made settled
      (c.walk_laws.ensures.parts s d e h.made) (c.depart.ensures.adds.stands s d h tt) (c.take-own.ensures.row s (gone_after s d e)) (c.take-own.ensures.adds.stands s (gone_after s d e)) in
      let k = c.decide-decided.ensures.adds.stands s (woken_after s d e c.take-own.result) w.stands w.rows.ruled in
      let log = log_before s d e c.take-own.result w.rows _ _ _ _ c.requires.empty (c.depart.ensures.adds.logged s d h tt) (c.take-own.ensures.adds.logged s (gone_after s d e) w.left w.rows.did)
      (c.decide-decided.ensures.adds.logged s (woken_after s d e c.take-own.result) w.stands w.rows.ruled) in
      c.settle.ensures.logged s (ruled_after s d e c.take-own.result) k
      ∙ ap (λ (es : List Entry). es ++ settling s e.time (ruled_after s d e c.take-own.result)) log
      ∙ sym w.rows.reacts;
  stands = λ s d parts settled.
      let e = c.args.e.now in
      let h = c.advance.ensures.stands s d parts in
      let w = went c.row_laws.ensures.made c.row_laws.ensures.stands c.part_laws.ensures.rows c.fact_laws.ensures.entries.phase_of-push c.kind_laws.ensures.scale s d e c.take-own.result c.depart.new.self c.take-own.new.self h.made settled
      (c.walk_laws.ensures.parts s d e h.made) (c.depart.ensures.adds.stands s d h tt) (c.take-own.ensures.row s (gone_after s d e)) (c.take-own.ensures.adds.stands s (gone_after s d e)) in
      let k = c.decide-decided.ensures.adds.stands s (woken_after s d e c.take-own.result) w.stands w.rows.ruled in
      subst (ArePartsOf s c.settle.new.self) w.rows.trace (c.settle.ensures.adds.stands s (ruled_after s d e c.take-own.result) k w.rows.settles);
}

pub returns-clause-told : goal.returns-clause-told
returns-clause-told c = λ s d parts settled.
    let e = c.args.e.now in
    let h = c.advance.ensures.stands s d parts in
    let w = went c.row_laws.ensures.made c.row_laws.ensures.stands c.part_laws.ensures.rows c.fact_laws.ensures.entries.phase_of-push c.kind_laws.ensures.scale s d e c.take-own.result c.depart.new.self c.take-own.new.self h.made settled
    (c.walk_laws.ensures.parts s d e h.made) (c.depart.ensures.adds.stands s d h tt) (c.take-own.ensures.row s (gone_after s d e)) (c.take-own.ensures.adds.stands s (gone_after s d e)) in
    let k = c.decide-decided.ensures.adds.stands s (woken_after s d e c.take-own.result) w.stands w.rows.ruled in
    let all = subst (ArePartsOf s c.settle.new.self) w.rows.trace (c.settle.ensures.adds.stands s (ruled_after s d e c.take-own.result) k w.rows.settles) in
    c.tell.ensures s (d ++ react s d e) all
    ∙ sym (told_same s d e c.take-own.result w.rows c.decide-decided.result (λ none. c.decide-decided.ensures.row none s (woken_after s d e c.take-own.result) w.stands))

pub returns-clause-spec : goal.returns-clause-spec
returns-clause-spec c = c.settle.ensures.nobody.spec ∙ c.decide-decided.ensures.scales.nobody.spec ∙ c.take-own.ensures.spec ∙ c.depart.ensures.ends.nobody.spec ∙ ap (λ (y : throttle.State). y.spec) c.advance.ensures.throttle

pub returns-clause-timed : goal.returns-clause-timed
returns-clause-timed c = c.settle.ensures.nobody.timed (c.decide-decided.ensures.scales.nobody.timed c.take-own.ensures.order.timed)

pub returns-clause-created : goal.returns-clause-created
returns-clause-created c =
    let before = c.take-own.ensures.created ∙ c.depart.ensures.ends.created ∙ ap (λ p. p.created) c.advance.ensures.pods in
    let after = c.settle.ensures.created in
    omega (arith, before, after, c.decide-decided.ensures.scales.created)
