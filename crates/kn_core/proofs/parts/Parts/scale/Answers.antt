use Rattle.std.proofs.Common.{◌+◌, ◌^◌, ◌≤◌, ◌++◌, ◌∙◌, sym, ap, subst, arith, List, length, length-append}
use Rattle.std.proofs.Math.Bridge.{le_prop}
use Rattle.std.proofs.Math.Logic.{∥∥₁_elim, ∥∥₁_map}
use Rattle.kn_event.specs.declared.entry.Entry.{Entry}
use Rattle.kn_event.specs.declared.revision.Spec.{Spec}
use Rattle.kn_trace.specs.Scale.{scale_rows}
use Rattle.kn_record.specs.Admission.{is_draining_now, pods_in}
use Rattle.kn_record.specs.Made.{IsRecordOf}
use Rattle.kn_record.specs.Walks.{stepped_by}
use Rattle.kn_throttle.specs.State as throttle
use Rattle.kn_core.specs.Following.{CanFollow, after_scale}
use Rattle.kn_core.proofs.Lists.{behind}
use Rattle.kn_core.proofs.Scaled.{made_behind, scale_few, scale_follows, scaler_quiet, stepped_created}
use Rattle.kn_core.proofs.parts.Parts.scale.Goals as goal

pub follow_behind-requires-clause-first : goal.follow_behind-requires-clause-first
follow_behind-requires-clause-first c =
    rw c.entries-before.ensures
    (∥∥₁_elim (rw (← c.self.view_is) at c.requires.some) le_prop
    (λ h.
    let logged = c.apply.ensures.logged c.self.inside.throttle.spec h.0 h.2.made h.2.pods (sym (rw (← c.self.view_is) at c.requires.can.limit)) in
    rw logged (omega (arith, length-append c.args.log.now (scale_rows c.self.inside.throttle.spec c.args.time h.0 c.args.want)))))

pub follow_behind-requires-clause-can : goal.follow_behind-requires-clause-can
follow_behind-requires-clause-can c =
    rw c.entries-before.ensures
    (∥∥₁_map (rw (← c.self.view_is) at c.requires.some)
    (λ h.
    let s = c.self.inside.throttle.spec in
    let t = c.args.time in
    let a = c.self.inside.throttle.admission in
    let cc = sym (rw (← c.self.view_is) at c.requires.can.limit) in
    let v = c.append_laws.ensures.views s a h.0 h.2.admission in
    let proper = made_behind s h.0 (scale_rows s t h.0 c.args.want) (c.apply.ensures.made s h.0 h.2.made h.2.pods cc) in
    let added = behind c.args.log.now (scale_rows s t h.0 c.args.want) c.apply.new.log (c.apply.ensures.logged s h.0 h.2.made h.2.pods cc) in
    let numbers : a.created + 500 ≤ 2 ^ 63 = rw (sym v.created, sym h.2.pods.created) (rw (← c.self.view_is) at c.requires.can.created) in
    let draining : length (pods_in is_draining_now a.pods) ≤ 20000 = rw (sym v.draining, sym h.2.pods.draining) (rw (← c.self.view_is) at c.requires.can.draining) in
    subst (CanFollow a) (sym added)
    (scale_follows c.row_laws.ensures.made c.append_laws.ensures.append c.append_laws.ensures.views s h.1 (c.walk_laws.ensures.rows s) a h.0 t c.args.want c.requires.want numbers draining h.2.admission proper)))

pub returns-clause-scales : goal.returns-clause-scales
returns-clause-scales c = record {
  nobody = rw (← c.self.view_is) (c.follow_behind.ensures.nobody c.args.time);
  created =
      rw (← c.self.view_is)
      (∥∥₁_elim (rw (← c.self.view_is) at c.requires.some) le_prop
      (λ h.
      let s = c.self.inside.throttle.spec in
      let a = c.self.inside.throttle.admission in
      let es : List Entry = scale_rows s c.args.time h.0 c.args.want in
      let cc = sym (rw (← c.self.view_is) at c.requires.can.limit) in
      let proper = made_behind s h.0 es (c.apply.ensures.made s h.0 h.2.made h.2.pods cc) in
      let after = (c.apply.ensures.stands s h.0 h.2.made h.2.pods cc).created ∙ (c.append_laws.ensures.views s (stepped_by es a) (h.0 ++ es) (c.walk_laws.ensures.rows s a h.0 es h.2.admission proper)).created in
      let before = h.2.pods.created ∙ (c.append_laws.ensures.views s a h.0 h.2.admission).created in
      let few = scale_few s c.args.time h.0 c.args.want c.requires.want (c.size_laws.ensures.standing s h.0 h.1 h.2.made) in
      omega (arith, after, before, few, stepped_created es a)));
  most =
      ∥∥₁_elim (rw (← c.self.view_is) at c.requires.some) le_prop
      (λ h.
      let s = c.self.inside.throttle.spec in
      let logged = c.apply.ensures.logged s h.0 h.2.made h.2.pods (sym (rw (← c.self.view_is) at c.requires.can.limit)) in
      let few = scale_few s c.args.time h.0 c.args.want c.requires.want (c.size_laws.ensures.standing s h.0 h.1 h.2.made) in
      rw logged (omega (arith, few, length-append c.args.log.now (scale_rows s c.args.time h.0 c.args.want))));
}

pub returns-clause-adds : goal.returns-clause-adds
returns-clause-adds c = rw (← c.self.view_is) (record {
  logged = λ s d h is. c.apply.ensures.logged s d h.made h.pods (ap (λ (z : Spec). z.cc) (sym h.spec) ∙ sym (rw (← c.self.view_is) at c.requires.can.limit));
  stands = λ s d h is.
      let t = c.args.time in
      let cc = ap (λ (z : Spec). z.cc) (sym h.spec) ∙ sym (rw (← c.self.view_is) at c.requires.can.limit) in
      let made = c.apply.ensures.made s d h.made h.pods cc in
      let proper = made_behind s d (scale_rows s t d c.args.want) made in
      let logged = c.apply.ensures.logged s d h.made h.pods cc in
      let gone = rw c.entries-before.ensures at c.follow_behind.ensures.all in
      let added = behind c.args.log.now (scale_rows s t d c.args.want) c.apply.new.log logged in
      let threw = gone ∙ ap (λ (es : List Entry). after_scale es c.self.inside.throttle) added in
      record {
        spec = ap (λ (y : throttle.State). y.spec) threw ∙ h.spec;
        made = made;
        admission = subst (λ (y : throttle.State). IsRecordOf y.admission (d ++ scale_rows s t d c.args.want)) (sym threw) (c.walk_laws.ensures.rows s c.self.inside.throttle.admission d (scale_rows s t d c.args.want) h.admission proper);
        pods = c.apply.ensures.stands s d h.made h.pods cc;
        scaler = scaler_quiet c.quiet_laws.ensures s c.self.inside.scaler t d (scale_rows s t d c.args.want) (rw (← c.self.view_is) at c.requires.can.measured) h.made proper (c.kind_laws.ensures.scale_at s t d c.args.want) (c.kind_laws.ensures.scale s t d c.args.want) h.scaler;
      };
})
