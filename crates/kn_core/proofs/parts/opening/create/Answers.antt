use Rattle.std.proofs.Common.{◌+◌, ◌^◌, ◌≤◌, ◌++◌, ◌∙◌, sym, ap, subst, arith, List, length, length-append}
use Rattle.std.proofs.Math.Bridge.{le_prop}
use Rattle.std.proofs.Math.Logic.{∥∥₁_elim, ∥∥₁_map}
use Rattle.kn_event.specs.declared.entry.Entry.{Entry}
use Rattle.kn_trace.specs.Scale.{scale_rows}
use Rattle.kn_record.specs.Admission.{is_draining_now, pods_in}
use Rattle.kn_record.specs.Made.{IsRecordOf}
use Rattle.kn_record.specs.Walks.{stepped_by}
use Rattle.kn_throttle.specs.State as throttle
use Rattle.kn_core.specs.Following.{CanFollow, after_scale}
use Rattle.kn_core.proofs.Lists.{behind}
use Rattle.kn_core.proofs.Scaled.{made_behind, scale_few, scale_follows, stepped_created}
use Rattle.kn_core.proofs.parts.opening.create.Goals as goal

pub follow_behind-requires-clause-first : goal.follow_behind-requires-clause-first
follow_behind-requires-clause-first c =
    rw c.entries-before.ensures
    (∥∥₁_elim c.requires.some le_prop
    (λ h.
    let logged = c.apply.ensures.logged h.0 h.1 h.2.made h.2.pods h.2.cc in
    rw logged (omega (arith, length-append c.args.log.now (scale_rows h.0 c.args.time h.1 c.args.count)))))

pub follow_behind-requires-clause-can : goal.follow_behind-requires-clause-can
follow_behind-requires-clause-can c =
    rw c.entries-before.ensures
    (∥∥₁_map c.requires.some
    (λ h.
    let s = h.0 in
    let t = c.args.time in
    let a = c.args.throttle.now.admission in
    let v = c.append_laws.ensures.views s a h.1 h.2.admission in
    let proper = made_behind s h.1 (scale_rows s t h.1 c.args.count) (c.apply.ensures.made s h.1 h.2.made h.2.pods h.2.cc) in
    let added = behind c.args.log.now (scale_rows s t h.1 c.args.count) c.apply.new.log (c.apply.ensures.logged s h.1 h.2.made h.2.pods h.2.cc) in
    let numbers : a.created + 500 ≤ 2 ^ 63 = rw (sym v.created, sym h.2.pods.created) c.requires.created in
    let draining : length (pods_in is_draining_now a.pods) ≤ 20000 = rw (sym v.draining, sym h.2.pods.draining) c.requires.draining in
    subst (CanFollow a) (sym added)
    (scale_follows c.row_laws.ensures.made c.append_laws.ensures.append c.append_laws.ensures.views s h.2.ranges (c.walk_laws.ensures.rows s) a h.1 t c.args.count c.requires.count numbers draining h.2.admission proper)))

pub returns-clause-created : goal.returns-clause-created
returns-clause-created c =
    ∥∥₁_elim c.requires.some le_prop
    (λ h.
    let s = h.0 in
    let a = c.args.throttle.now.admission in
    let es : List Entry = scale_rows s c.args.time h.1 c.args.count in
    let proper = made_behind s h.1 es (c.apply.ensures.made s h.1 h.2.made h.2.pods h.2.cc) in
    let after = (c.apply.ensures.stands s h.1 h.2.made h.2.pods h.2.cc).created ∙ (c.append_laws.ensures.views s (stepped_by es a) (h.1 ++ es) (c.walk_laws.ensures.rows s a h.1 es h.2.admission proper)).created in
    let before = h.2.pods.created ∙ (c.append_laws.ensures.views s a h.1 h.2.admission).created in
    let few = scale_few s c.args.time h.1 c.args.count c.requires.count (c.size_laws.ensures.standing s h.1 h.2.ranges h.2.made) in
    omega (arith, after, before, few, stepped_created es a))

pub returns-clause-nobody : goal.returns-clause-nobody
returns-clause-nobody c = c.follow_behind.ensures.nobody c.args.time

pub returns-clause-creates : goal.returns-clause-creates
returns-clause-creates c = record {
  logged = λ s d h. c.apply.ensures.logged s d h.made h.pods h.cc;
  admission = λ s d h.
      let es = scale_rows s c.args.time d c.args.count in
      let proper = made_behind s d es (c.apply.ensures.made s d h.made h.pods h.cc) in
      let gone = rw c.entries-before.ensures at c.follow_behind.ensures.all in
      let added = behind c.args.log.now es c.apply.new.log (c.apply.ensures.logged s d h.made h.pods h.cc) in
      let threw = gone ∙ ap (λ (l : List Entry). after_scale l c.args.throttle.now) added in
      subst (λ (y : throttle.State). IsRecordOf y.admission (d ++ es)) (sym threw) (c.walk_laws.ensures.rows s c.args.throttle.now.admission d es h.admission proper);
  pods = λ s d h. c.apply.ensures.stands s d h.made h.pods h.cc;
}
