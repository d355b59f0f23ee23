use Rattle.std.proofs.Common.{◌≡◌, rules, sym, ap, ◌∙◌, subst, ◌++◌, ◌∷◌, [], Some, true}
use Rattle.kn_event.specs.declared.entry.Row.TheVariants as row
use Rattle.kn_event.specs.Lists.{contains}
use Rattle.kn_trace.specs.Trace.{entry}
use Rattle.kn_pods.specs.Pods.{PodsState, ArePodsOf, after_row, ready_row}
use Rattle.kn_pods.proofs.pods.Pods.ready.Goals as goal

pub returns-then-remove-clause-act : goal.returns-then-remove-clause-act
returns-then-remove-clause-act c = λ s d made stands.
    let h : row.Ready c.args.p ≡ ready_row c.args.p c.args.self.now = search rules in c.row_laws.ensures.ready s d c.args.p c.args.self.now made stands ∙ ap Some (sym h)

pub returns-then-remove-clause-stands : goal.returns-then-remove-clause-stands
returns-then-remove-clause-stands c = λ s d t made stands.
    let new : PodsState = record { created = c.self.inside.created; starting = c.remove.new.self.items; ready = c.insert.new.self.items; draining = c.self.inside.draining.items } in
    let e : new ≡ after_row (row.Ready c.args.p) c.args.self.now = search rules in
    let there : contains c.args.p c.args.self.now.starting ≡ true = search rules in
    subst (λ (pods : PodsState). ArePodsOf pods (d ++ entry t (row.Ready c.args.p) ∷ [])) (sym e)
    (c.row_laws.ensures.stands s d t (row.Ready c.args.p) c.args.self.now made (ap (contains c.args.p) (sym stands.starting) ∙ there) stands)

pub returns-then-live-clause-act : goal.returns-then-live-clause-act
returns-then-live-clause-act c = λ s d made stands.
    let h : row.NotStarting c.args.p ≡ ready_row c.args.p c.args.self.now = search rules in c.row_laws.ensures.ready s d c.args.p c.args.self.now made stands ∙ ap Some (sym h)

pub returns-then-live-clause-stands : goal.returns-then-live-clause-stands
returns-then-live-clause-stands c = λ s d t made stands.
    let new : PodsState = record { created = c.self.inside.created; starting = c.remove.new.self.items; ready = c.self.inside.ready.items; draining = c.self.inside.draining.items } in
    let e : new ≡ c.args.self.now = search rules in
    subst (λ (pods : PodsState). ArePodsOf pods (d ++ entry t (row.NotStarting c.args.p) ∷ [])) (sym e) (c.row_laws.ensures.stands s d t (row.NotStarting c.args.p) c.args.self.now made tt stands)

pub returns-else-live-clause-act : goal.returns-else-live-clause-act
returns-else-live-clause-act c = λ s d made stands.
    let h : row.NoPod c.args.p ≡ ready_row c.args.p c.args.self.now = search rules in c.row_laws.ensures.ready s d c.args.p c.args.self.now made stands ∙ ap Some (sym h)

pub returns-else-live-clause-stands : goal.returns-else-live-clause-stands
returns-else-live-clause-stands c = λ s d t made stands.
    let new : PodsState = record { created = c.self.inside.created; starting = c.remove.new.self.items; ready = c.self.inside.ready.items; draining = c.self.inside.draining.items } in
    let e : new ≡ c.args.self.now = search rules in
    subst (λ (pods : PodsState). ArePodsOf pods (d ++ entry t (row.NoPod c.args.p) ∷ [])) (sym e) (c.row_laws.ensures.stands s d t (row.NoPod c.args.p) c.args.self.now made tt stands)
