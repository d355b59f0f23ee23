-- One pod more.
use Rattle.std.proofs.Common.{◌+◌, ◌<◌, ◌++◌, ◌∙◌, ℕ, List, [], drop, get_or, length, append_assoc, append-nil, refl, arith, ap, sym, subst}
use Rattle.std.proofs.lemmas.Grind.{common_steps}
use Rattle.kn_activators.specs.Sharing.{force_change, force_lines}
use Rattle.kn_report.specs.Waiting.{Adds}
use Rattle.kn_io.specs.Prefix.{AppendsPrefix}
use Rattle.kn_activators.proofs.Pieces.{forces_end, forces_more}
use Rattle.kn_activators.proofs.forces.add_forces.Goals as goal

pub loop-p-init : goal.loop-p-init
loop-p-init g c = record { on = ([], c.adding_laws.ensures.laws.nothing, refl); later = omega arith }

pub loop-p-preserved : goal.loop-p-preserved
loop-p-preserved g c =
    let on = c.loop-p.invariant.on in
    let p = c.loop-p.p in
    let before = c.args.before.now in
    let forces = c.args.forces.now in
    let low : p < length before = grind (arith, common_steps) in
    let split = forces_more c.args.time p before forces low c.requires in
    let change = force_change c.args.time p (get_or before p 0) (get_or forces p 0) in
    let wrote : Adds (g.O.Sink.held c.loop-p.out) (g.O.Sink.held c.add_force.new.out) c.loop-p.waiting c.add_force.new.waiting change = grind (arith, common_steps) in
    record {
      on = (
        on.0 ++ change,
        c.adding_laws.ensures.laws.more on.1 wrote refl,
        append_assoc on.0 change (force_lines c.args.time (p + 1) (drop (p + 1) before) (drop (p + 1) forces)) ∙ (ap (λ (z : List ℕ). on.0 ++ z) (sym split) ∙ on.2),
      );
      later = omega (arith, c.loop-p.invariant.later, c.add_force.ensures.cause.never_falls);
    }

pub returns-in-Err-clause-err : goal.returns-in-Err-clause-err
returns-in-Err-clause-err g c =
    let on = c.loop-p.invariant.on in
    let p = c.loop-p.p in
    let before = c.args.before.now in
    let forces = c.args.forces.now in
    let low : p < length before = grind (arith, common_steps) in
    let split = forces_more c.args.time p before forces low c.requires in
    let change = force_change c.args.time p (get_or before p 0) (get_or forces p 0) in
    let rest = force_lines c.args.time (p + 1) (drop (p + 1) before) (drop (p + 1) forces) in
    let some : AppendsPrefix (g.O.Sink.held c.loop-p.out) (g.O.Sink.held c.add_force.new.out) (c.loop-p.waiting ++ change) = grind (arith, common_steps) in
    subst (λ (z : List ℕ). AppendsPrefix (g.O.Sink.held c.args.out.now) (g.O.Sink.held c.add_force.new.out) (c.args.waiting.now ++ z)) (ap (λ (z : List ℕ). on.0 ++ z) (sym split) ∙ on.2)
    (c.adding_laws.ensures.laws.some (g.O.Sink.held c.add_force.new.out) change rest on.1 some)

pub returns-clause-ok : goal.returns-clause-ok
returns-clause-ok g c =
    let on = c.loop-p.invariant.on in
    let end = forces_end c.args.time c.loop-p.p c.args.before.now c.args.forces.now (grind (arith, common_steps)) in
    let all = sym (append-nil on.0) ∙ (ap (λ (z : List ℕ). on.0 ++ z) (sym end) ∙ on.2) in
    subst (Adds (g.O.Sink.held c.args.out.now) (g.O.Sink.held c.loop-p.out) c.args.waiting.now c.loop-p.waiting) all on.1
