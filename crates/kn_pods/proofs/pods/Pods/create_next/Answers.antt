use Rattle.std.proofs.Common.{◌≡◌, ◌+◌, rules}
use Rattle.kn_event.specs.declared.entry.Row.TheVariants as row
use Rattle.kn_pods.specs.Pods.{PodsState, after_row}
use Rattle.kn_pods.proofs.Steps.{create_proper, goes_by}
use Rattle.kn_pods.proofs.pods.Pods.create_next.Goals as goal

pub returns-clause-goes : goal.returns-clause-goes
returns-clause-goes c = λ t limit.
    let new : PodsState = record { created = c.self.inside.created + 1; starting = c.push.new.self.items; ready = c.self.inside.ready.items; draining = c.self.inside.draining.items } in
    let e : new ≡ after_row (row.Create c.self.inside.created limit) c.args.self.now = search rules in
    goes_by c.row_laws.ensures.made c.row_laws.ensures.stands c.args.self.now new t (row.Create c.self.inside.created limit) e
    (λ s d made stands. let h = create_proper c.args.self.now s d limit c.requires.few stands in rw (← c.self.view_is) at h)
