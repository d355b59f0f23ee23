use Rattle.std.proofs.Common.{◌≡◌, ◌∙◌, refl, sym, ap, subst, ◌∷◌, [], length, length-append, arith, Some, None, true}
use Rattle.kn_event.specs.declared.entry.Row.TheVariants as row
use Rattle.kn_event.specs.Lists.{contains}
use Rattle.kn_trace.specs.Trace.{entry, first_of}
use Rattle.kn_record.specs.declared.admission.Request.{Request}
use Rattle.kn_record.specs.Admission.{is_at, placed_in}
use Rattle.kn_record.specs.Views.{pod_numbers}
use Rattle.kn_record.specs.Walks.{losing}
use Rattle.kn_pods.specs.Pods.{PodsState}
use Rattle.kn_throttle.specs.State.{State, with_row}
use Rattle.kn_core.specs.State.{PartsState}
use Rattle.kn_core.proofs.Adding.{ends_none}
use Rattle.kn_core.proofs.Ends.{live_by, nobody_by, pods_by}
use Rattle.kn_core.proofs.Lists.{first_ends, first_is_there, none_first}
use Rattle.kn_core.proofs.After.{Measured, ended_more, leaves_adds, leaves_all, ready_row}
use Rattle.kn_core.proofs.parts.Parts.lose_all.Goals as goal

pub loop-r-init : goal.loop-r-init
loop-r-init c = record {
  on = λ s d h proper. leaves_all s (losing c.args.time c.args.p) d _ _ h proper;
  ends = ends_none c.args.time c.args.self.now c.args.log.now c.requires.can.measured;
}

pub measure-requires-clause-ends : goal.measure-requires-clause-ends
measure-requires-clause-ends c = λ q e. (cc)

pub measure-requires-clause-some : goal.measure-requires-clause-some
measure-requires-clause-some c =
    let t = c.args.time in
    let here = c.loop-r.self in
    let first : first_of (placed_in (is_at c.args.p) here.throttle.admission.live) ≡ Some c.in-Some.r = sym (ap (λ (x : PartsState). first_of (placed_in (is_at c.args.p) x.throttle.admission.live)) c.self.view_is) ∙ sym c.in-Some.ensures.value in
    ready_row (λ s. losing c.args.time c.args.p) c.args.self.now here c.args.log.now c.loop-r.log t (row.LostRequest c.in-Some.r) c.loop-r.invariant.ends.nobody.spec c.loop-r.invariant.on
    (λ s h parts. (c.walk_laws.ensures.lose s here.throttle.admission h t c.args.p c.in-Some.r parts.admission first).0) c.requires.some

pub measure-requires-clause-few : goal.measure-requires-clause-few
measure-requires-clause-few c = rw c.loop-r.invariant.ends.pods c.requires.can.few

pub loop-r-preserved : goal.loop-r-preserved
loop-r-preserved c =
    let t = c.args.time in
    let x = row.LostRequest c.in-Some.r in
    let here = c.loop-r.self in
    let k = c.loop-r.invariant in
    let first : first_of (placed_in (is_at c.args.p) here.throttle.admission.live) ≡ Some c.in-Some.r = sym (ap (λ (x : PartsState). first_of (placed_in (is_at c.args.p) x.throttle.admission.live)) c.self.view_is) ∙ sym c.in-Some.ensures.value in
    let m = subst (Measured t x here) (sym c.self-in-Some.view_is) (record {
      throttle = c.measure.ensures.throttle;
      pods = c.measure.ensures.pods;
      measured = c.measure.ensures.measured t k.ends.measured;
      scaler = λ s d h proper. c.measure.ensures.scaler s d t k.ends.measured refl h proper;
    }) in
    let threw = c.lose.ensures.after t ∙ ap (with_row t x) m.throttle in
    let fewer = first_ends (λ (q : Request). is_at c.args.p q.place) c.in-Some.r here.throttle.admission.live first in
    let ended = ap length (live_by t x here.throttle _ threw) in
    record {
      on = λ s d h proper.
          let l = k.on s d h proper in
          rw c.put.ensures
          (ended_more c.row_laws.ensures.made c.row_laws.ensures.stands s (losing c.args.time c.args.p) (losing c.args.time c.args.p) d here _ _ c.args.log.now c.loop-r.log t x refl l (c.walk_laws.ensures.lose s here.throttle.admission l.here t c.args.p c.in-Some.r l.parts.admission first) m threw refl refl);
      ends = record {
        nobody = nobody_by c.time_laws.ensures.step t x c.args.self.now.throttle here.throttle _ refl k.ends.nobody threw;
        created = ap (λ (p : PodsState). p.created) m.pods ∙ k.ends.created;
        pods = pods_by t x here.throttle _ threw ∙ k.ends.pods;
        measured = m.measured;
        room = let room = k.ends.room in rw c.put.ensures (omega (arith, length-append c.loop-r.log (entry t x ∷ []), fewer, ended, room));
      };
    }

pub loop-r-smaller : goal.loop-r-smaller
loop-r-smaller c =
    let t = c.args.time in
    let x = row.LostRequest c.in-Some.r in
    let here = c.loop-r.self in
    let first : first_of (placed_in (is_at c.args.p) here.throttle.admission.live) ≡ Some c.in-Some.r = sym (ap (λ (x : PartsState). first_of (placed_in (is_at c.args.p) x.throttle.admission.live)) c.self.view_is) ∙ sym c.in-Some.ensures.value in
    let same = ap (λ (y : PartsState). y.throttle) c.self-in-Some.view_is ∙ c.measure.ensures.throttle in
    let threw = c.lose.ensures.after t ∙ ap (with_row t x) same in
    let fewer = first_ends (λ (q : Request). is_at c.args.p q.place) c.in-Some.r here.throttle.admission.live first in
    let ended = ap length (live_by t x here.throttle _ threw) in
    omega (arith, fewer, ended)

pub returns-clause-adds : goal.returns-clause-adds
returns-clause-adds c =
    let here = c.loop-r.self in
    let first : first_of (placed_in (is_at c.args.p) here.throttle.admission.live) ≡ None = sym (ap (λ (x : PartsState). first_of (placed_in (is_at c.args.p) x.throttle.admission.live)) c.self.view_is) ∙ sym c.in_default.ensures.value in
    leaves_adds (λ s. losing c.args.time c.args.p) c.args.self.now here c.args.log.now c.loop-r.log c.loop-r.invariant.on
    (λ s h parts. c.walk_laws.ensures.lost here.throttle.admission h c.args.time c.args.p parts.admission first)

pub returns-clause-none : goal.returns-clause-none
returns-clause-none c =
    let first : first_of (placed_in (is_at c.args.p) c.loop-r.self.throttle.admission.live) ≡ None = sym (ap (λ (x : PartsState). first_of (placed_in (is_at c.args.p) x.throttle.admission.live)) c.self.view_is) ∙ sym c.in_default.ensures.value in
    none_first _ first

pub lose-requires : goal.lose-requires
lose-requires c =
    let here = c.loop-r.self in
    let first : first_of (placed_in (is_at c.args.p) here.throttle.admission.live) ≡ Some c.in-Some.r = sym (ap (λ (x : PartsState). first_of (placed_in (is_at c.args.p) x.throttle.admission.live)) c.self.view_is) ∙ sym c.in-Some.ensures.value in
    let same = ap (λ (y : PartsState). y.throttle) c.self-in-Some.view_is ∙ c.measure.ensures.throttle in
    (c.args.p, subst (λ (y : State). contains c.in-Some.r (placed_in (is_at c.args.p) y.admission.live) ≡ true) (sym same) (first_is_there c.in-Some.r _ first))

pub first_at-requires : goal.first_at-requires
first_at-requires c = subst (λ (x : PartsState). contains c.args.p (pod_numbers x.throttle.admission.pods) ≡ true) (sym c.self.view_is) (rw c.loop-r.invariant.ends.pods c.requires.there)
