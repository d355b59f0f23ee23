use Rattle.std.proofs.Common.{◌≡◌, rules, sym, ap, ◌∙◌, subst, ◌++◌, ◌∷◌, [], Some, Bool}
use Rattle.kn_trace.specs.Trace.{entry}
use Rattle.kn_pods.specs.Pods.{PodsState, ArePodsOf, after_row, is_live, lost_row}
use Rattle.kn_pods.proofs.pods.Pods.lost.Goals as goal

pub returns-clause-act : goal.returns-clause-act
returns-clause-act c = λ s d made stands.
    let h : c.if-ready.result ≡ is_live c.args.p c.args.self.now = search rules in
    c.row_laws.ensures.lost s d c.args.p c.args.self.now made stands ∙ ap (λ (b : Bool). Some (lost_row c.args.p b)) (sym h)

pub returns-clause-stands : goal.returns-clause-stands
returns-clause-stands c = λ s d t made proper stands.
    let new : PodsState = record { created = c.self.inside.created; starting = c.remove-starting.new.self.items; ready = c.remove-ready.new.self.items; draining = c.remove-draining.new.self.items } in
    let x = lost_row c.args.p c.if-ready.result in
    let e : new ≡ after_row x c.args.self.now = search rules in
    subst (λ (pods : PodsState). ArePodsOf pods (d ++ entry t x ∷ [])) (sym e) (c.row_laws.ensures.stands s d t x c.args.self.now made proper stands)
