use Rattle.std.proofs.Common.{◌≡◌, ℕ, ◌∙◌, refl, sym, ap, subst, ◌∷◌, [], length, length-append, arith, Option, Some, None, IfSome}
use Rattle.kn_event.specs.declared.entry.Row.TheVariants as row
use Rattle.kn_event.specs.declared.revision.Spec.{Spec}
use Rattle.kn_trace.specs.Events.{expiries}
use Rattle.kn_trace.specs.Trace.{entry, first_of}
use Rattle.kn_record.specs.Views.{due_in, is_due}
use Rattle.kn_pods.specs.Pods.{PodsState}
use Rattle.kn_throttle.specs.State.{State, with_row}
use Rattle.kn_core.specs.State.{PartsState}
use Rattle.kn_core.proofs.Adding.{ends_none}
use Rattle.kn_core.proofs.Ends.{live_by, nobody_by, pods_by}
use Rattle.kn_core.proofs.Lists.{first_ends}
use Rattle.kn_core.proofs.After.{Measured, ended_more, leaves_adds, leaves_all, ready_row}
use Rattle.kn_core.proofs.parts.Parts.expire.Goals as goal

pub loop-r-init : goal.loop-r-init
loop-r-init c = record {
  on = λ s d h proper. leaves_all s (expiries s c.args.time) d _ _ h proper;
  ends = ends_none c.args.time c.args.self.now c.args.log.now c.requires.can.measured;
}

pub measure-requires-clause-ends : goal.measure-requires-clause-ends
measure-requires-clause-ends c = λ q e. (cc)

pub measure-requires-clause-some : goal.measure-requires-clause-some
measure-requires-clause-some c =
    let t = c.args.time in
    let here = c.loop-r.self in
    let first : first_of (due_in here.throttle.spec.timeout_ms t here.throttle.admission.live) ≡ Some c.in-Some.r = sym (ap (λ (x : PartsState). first_of (due_in x.throttle.spec.timeout_ms t x.throttle.admission.live)) c.self.view_is) ∙ sym c.in-Some.ensures.value in
    ready_row (λ s. expiries s c.args.time) c.args.self.now here c.args.log.now c.loop-r.log t (row.Expire c.in-Some.r) c.loop-r.invariant.ends.nobody.spec c.loop-r.invariant.on
    (λ s h parts. (c.walk_laws.ensures.expire s here.throttle.admission h t c.in-Some.r parts.admission (subst (λ (z : Spec). first_of (due_in z.timeout_ms t here.throttle.admission.live) ≡ Some c.in-Some.r) parts.spec first)).0) c.requires.some

pub measure-requires-clause-few : goal.measure-requires-clause-few
measure-requires-clause-few c = rw c.loop-r.invariant.ends.pods c.requires.can.few

pub loop-r-preserved : goal.loop-r-preserved
loop-r-preserved c =
    let t = c.args.time in
    let x = row.Expire c.in-Some.r in
    let here = c.loop-r.self in
    let k = c.loop-r.invariant in
    let first : first_of (due_in here.throttle.spec.timeout_ms t here.throttle.admission.live) ≡ Some c.in-Some.r = sym (ap (λ (x : PartsState). first_of (due_in x.throttle.spec.timeout_ms t x.throttle.admission.live)) c.self.view_is) ∙ sym c.in-Some.ensures.value in
    let m = subst (Measured t x here) (sym c.self-in-Some.view_is) (record {
      throttle = c.measure.ensures.throttle;
      pods = c.measure.ensures.pods;
      measured = c.measure.ensures.measured t k.ends.measured;
      scaler = λ s d h proper. c.measure.ensures.scaler s d t k.ends.measured refl h proper;
    }) in
    let is : c.expire_next.result ≡ Some c.in-Some.r = c.expire_next.ensures.value ∙ ap (λ (y : State). first_of (due_in y.spec.timeout_ms t y.admission.live)) m.throttle ∙ first in
    let threw = subst (λ (o : Option ℕ). IfSome o (λ (q : ℕ). c.expire_next.new.self ≡ with_row t (row.Expire q) c.self-in-Some.inside.throttle)) is c.expire_next.ensures.after ∙ ap (with_row t x) m.throttle in
    let fewer = first_ends (is_due here.throttle.spec.timeout_ms t) c.in-Some.r here.throttle.admission.live first in
    let ended = ap length (live_by t x here.throttle _ threw) in
    record {
      on = λ s d h proper.
          let l = k.on s d h proper in
          rw c.put.ensures
          (ended_more c.row_laws.ensures.made c.row_laws.ensures.stands s (expiries s c.args.time) (expiries s c.args.time) d here _ _ c.args.log.now c.loop-r.log t x refl l (c.walk_laws.ensures.expire s here.throttle.admission l.here t c.in-Some.r l.parts.admission (subst (λ (z : Spec). first_of (due_in z.timeout_ms t here.throttle.admission.live) ≡ Some c.in-Some.r) l.parts.spec first)) m threw refl refl);
      ends = record {
        nobody = nobody_by c.time_laws.ensures.step t x c.args.self.now.throttle here.throttle _ refl k.ends.nobody threw;
        created = ap (λ (p : PodsState). p.created) m.pods ∙ k.ends.created;
        pods = pods_by t x here.throttle _ threw ∙ k.ends.pods;
        measured = m.measured;
        room = let room = k.ends.room in rw c.put.ensures (omega (arith, length-append c.loop-r.log (entry t x ∷ []), fewer, ended, room));
      };
    }

pub loop-r-smaller : goal.loop-r-smaller
loop-r-smaller c =
    let t = c.args.time in
    let x = row.Expire c.in-Some.r in
    let here = c.loop-r.self in
    let first : first_of (due_in here.throttle.spec.timeout_ms t here.throttle.admission.live) ≡ Some c.in-Some.r = sym (ap (λ (x : PartsState). first_of (due_in x.throttle.spec.timeout_ms t x.throttle.admission.live)) c.self.view_is) ∙ sym c.in-Some.ensures.value in
    let same = ap (λ (y : PartsState). y.throttle) c.self-in-Some.view_is ∙ c.measure.ensures.throttle in
    let is : c.expire_next.result ≡ Some c.in-Some.r = c.expire_next.ensures.value ∙ ap (λ (y : State). first_of (due_in y.spec.timeout_ms t y.admission.live)) same ∙ first in
    let threw = subst (λ (o : Option ℕ). IfSome o (λ (q : ℕ). c.expire_next.new.self ≡ with_row t (row.Expire q) c.self-in-Some.inside.throttle)) is c.expire_next.ensures.after ∙ ap (with_row t x) same in
    let fewer = first_ends (is_due here.throttle.spec.timeout_ms t) c.in-Some.r here.throttle.admission.live first in
    let ended = ap length (live_by t x here.throttle _ threw) in
    omega (arith, fewer, ended)

pub returns-clause-adds : goal.returns-clause-adds
returns-clause-adds c =
    let here = c.loop-r.self in
    let first : first_of (due_in here.throttle.spec.timeout_ms c.args.time here.throttle.admission.live) ≡ None = sym (ap (λ (x : PartsState). first_of (due_in x.throttle.spec.timeout_ms c.args.time x.throttle.admission.live)) c.self.view_is) ∙ sym c.in_default.ensures.value in
    leaves_adds (λ s. expiries s c.args.time) c.args.self.now here c.args.log.now c.loop-r.log c.loop-r.invariant.on
    (λ s h parts. c.walk_laws.ensures.expired s here.throttle.admission h c.args.time parts.admission (subst (λ (z : Spec). first_of (due_in z.timeout_ms c.args.time here.throttle.admission.live) ≡ None) parts.spec first))
