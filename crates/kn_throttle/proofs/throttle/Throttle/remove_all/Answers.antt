use Rattle.std.proofs.Common.{◌∙◌, refl, ◌∷◌, [], length-append, ap, arith}
use Rattle.kn_event.specs.declared.entry.Row.TheVariants as row
use Rattle.kn_trace.specs.Trace.{entry}
use Rattle.kn_throttle.specs.State.{State}
use Rattle.kn_throttle.proofs.Walking.{nobody_by}
use Rattle.kn_throttle.proofs.Steps.{steps_more}
use Rattle.kn_throttle.proofs.throttle.Throttle.remove_all.Goals as goal

pub loop-p-preserved : goal.loop-p-preserved
loop-p-preserved c =
    let t = c.args.time in
    let x = row.Remove c.in-Some.p in
    record {
      on = λ d h.
          let l = c.loop-p.invariant.on d h in
          rw (c.in-Some.ensures.after t, c.put.ensures) (c.loop_laws.ensures.more _ _ d c.loop-p.self.admission c.args.log.now c.loop-p.log t x l (c.in-Some.ensures.begins l.here t l.stands));
      steps = steps_more t x _ c.loop-p.self.admission _ _ c.loop-p.log _ c.loop-p.invariant.steps (ap (λ (y : State). y.admission) (c.in-Some.ensures.after t)) c.put.ensures;
      nobody = nobody_by c.time_laws.ensures.step c.args.self.now.admission c.loop-p.self.admission _ x refl refl c.loop-p.invariant.nobody (λ u. ap (λ (y : State). y.admission) (c.in-Some.ensures.after u));
      spec = ap (λ (y : State). y.spec) (c.in-Some.ensures.after t) ∙ c.loop-p.invariant.spec;
      room = rw c.put.ensures (omega (arith, length-append c.loop-p.log (entry t x ∷ []), c.in-Some.ensures.fewer));
    }
