use Rattle.std.proofs.Common.{◌≡◌, rules, sym, ◌∙◌}
use Rattle.kn_pods.specs.Pods.{is_live}
use Rattle.kn_pods.proofs.pods.Pods.live.Goals as goal

pub returns-then-contains-2-clause-trace : goal.returns-then-contains-2-clause-trace
returns-then-contains-2-clause-trace c = λ s d made stands.
    let h : c.if-contains.value ≡ is_live c.args.p c.args.self.now = search rules in h ∙ sym (c.row_laws.ensures.live s d c.args.p c.args.self.now made stands)

pub returns-else-contains-2-clause-trace : goal.returns-else-contains-2-clause-trace
returns-else-contains-2-clause-trace c = λ s d made stands.
    let h : c.contains-else-contains-2.result ≡ is_live c.args.p c.args.self.now = search rules in h ∙ sym (c.row_laws.ensures.live s d c.args.p c.args.self.now made stands)
