use Rattle.std.proofs.Common.{◌≡◌, rules, sym, subst, ◌++◌, ◌∷◌, []}
use Rattle.kn_event.specs.declared.entry.Row.TheVariants as row
use Rattle.kn_trace.specs.Trace.{entry}
use Rattle.kn_pods.specs.Pods.{PodsState, ArePodsOf, after_row}
use Rattle.kn_pods.proofs.pods.Pods.removed.Goals as goal

pub returns-clause-stands : goal.returns-clause-stands
returns-clause-stands c = λ s d t made proper stands.
    let new : PodsState = record { created = c.self.inside.created; starting = c.self.inside.starting.items; ready = c.self.inside.ready.items; draining = c.remove.new.self.items } in
    let e : new ≡ after_row (row.Remove c.args.p) c.args.self.now = search rules in
    subst (λ (pods : PodsState). ArePodsOf pods (d ++ entry t (row.Remove c.args.p) ∷ [])) (sym e) (c.row_laws.ensures.stands s d t (row.Remove c.args.p) c.args.self.now made proper stands)
