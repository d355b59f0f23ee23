use Rattle.std.proofs.Common.{◌∙◌, refl, List, ◌∷◌, [], length-append, subst, ap, arith}
use Rattle.kn_event.specs.declared.entry.Row.TheVariants as row
use Rattle.kn_trace.specs.Trace.{entry}
use Rattle.kn_record.specs.Admission.{stepped}
use Rattle.kn_throttle.specs.State.{State}
use Rattle.kn_record.specs.Views.{pod_numbers}
use Rattle.kn_record.specs.Walks.{BeginsWith, promoting}
use Rattle.kn_record.specs.declared.admission.Pod.{Pod}
use Rattle.kn_throttle.proofs.Walking.{nobody_by}
use Rattle.kn_throttle.proofs.Steps.{steps_more}
use Rattle.kn_throttle.proofs.throttle.Throttle.run_all.Goals as goal

pub loop-r-preserved : goal.loop-r-preserved
unfolding stepped
loop-r-preserved c =
    let t = c.args.time in
    let x = row.Run c.in-Some.r in
    record {
      on = λ d h.
          let l = c.loop-r.invariant.on d h in
          rw (c.in-Some.ensures.after t, c.put.ensures) (c.loop_laws.ensures.more _ _ d c.loop-r.self.admission c.args.log.now c.loop-r.log t x l (subst (λ (all : List Pod). BeginsWith (promoting t (pod_numbers all)) t x c.loop-r.self.admission l.here) c.loop-r.invariant.pods (c.in-Some.ensures.begins l.here t l.stands)));
      pods = ap (λ (y : State). y.admission.pods) (c.in-Some.ensures.after t) ∙ c.loop-r.invariant.pods;
      steps = steps_more t x _ c.loop-r.self.admission _ _ c.loop-r.log _ c.loop-r.invariant.steps (ap (λ (y : State). y.admission) (c.in-Some.ensures.after t)) c.put.ensures;
      nobody = nobody_by c.time_laws.ensures.step c.args.self.now.admission c.loop-r.self.admission _ x refl refl c.loop-r.invariant.nobody (λ u. ap (λ (y : State). y.admission) (c.in-Some.ensures.after u));
      spec = ap (λ (y : State). y.spec) (c.in-Some.ensures.after t) ∙ c.loop-r.invariant.spec;
      room = rw c.put.ensures (omega (arith, length-append c.loop-r.log (entry t x ∷ []), c.in-Some.ensures.fewer));
    }

pub returns-clause-logged : goal.returns-clause-logged
unfolding promoting
returns-clause-logged c = λ d h.
    let views = c.append_laws.ensures.views c.args.self.now.spec c.args.self.now.admission d h in
    let l = c.loop-r.invariant.on d h in
    rw views.pods (c.loop_laws.ensures.logged _ _ d c.loop-r.self.admission c.args.log.now c.loop-r.log l (rw c.loop-r.invariant.pods at (c.in_default.ensures.ends l.here c.args.time l.stands)))

pub returns-clause-stands : goal.returns-clause-stands
unfolding promoting
returns-clause-stands c = λ d h.
    let views = c.append_laws.ensures.views c.args.self.now.spec c.args.self.now.admission d h in
    let l = c.loop-r.invariant.on d h in
    rw (views.pods, c.in_default.ensures.unchanged) (c.loop_laws.ensures.stands _ _ d c.loop-r.self.admission c.args.log.now c.loop-r.log l (rw c.loop-r.invariant.pods at (c.in_default.ensures.ends l.here c.args.time l.stands)))
