use Rattle.std.proofs.Common.{◌++◌, ◌∷◌, [], sym, subst, OnErr, OnOk}
use Rattle.kn_io.specs.Prefix.{AppendsPrefix}
use Rattle.kn_report.specs.Waiting.{Adds}
use Rattle.kn_teller.specs.Run.{later, trace}
use Rattle.kn_lives.specs.Lives.{AreLives}
use Rattle.kn_show_requests.proofs.Runs.{event_rows, rows_come}
use Rattle.kn_show_requests.proofs.requests.RequestsTeller.tell.Goals as goal

pub returns-clause-ok : goal.returns-clause-ok
returns-clause-ok g c r knows step =
    let e = c.args.e.now in
    let come = rows_come r e _ _ _ (c.lives_laws.ensures.next r.spec r.start r.events e) c.arrival_tag.ensures step in
    let lives = subst (λ l. AreLives l (later r e).events (trace r)) (sym c.self.view_is) (c.lives_laws.ensures.later r.spec r.start r.events (e ∷ []) _ knows) in
    subst (λ m. OnOk c.add_rows.result (Adds (g.O.Sink.held c.args.out.now) (g.O.Sink.held c.add_rows.new.out) c.args.waiting.now c.add_rows.new.waiting m))
    (event_rows r e _ _ step) (c.add_rows.ensures.ok r.spec (later r e).events (trace r) come lives)

pub returns-clause-err : goal.returns-clause-err
returns-clause-err g c r knows step =
    let e = c.args.e.now in
    let come = rows_come r e _ _ _ (c.lives_laws.ensures.next r.spec r.start r.events e) c.arrival_tag.ensures step in
    let lives = subst (λ l. AreLives l (later r e).events (trace r)) (sym c.self.view_is) (c.lives_laws.ensures.later r.spec r.start r.events (e ∷ []) _ knows) in
    subst (λ m. OnErr c.add_rows.result (AppendsPrefix (g.O.Sink.held c.args.out.now) (g.O.Sink.held c.add_rows.new.out) (c.args.waiting.now ++ m)))
    (event_rows r e _ _ step) (c.add_rows.ensures.err r.spec (later r e).events (trace r) come lives)

pub returns-clause-knows : goal.returns-clause-knows
returns-clause-knows g c r knows step =
    let e = c.args.e.now in
    let come = rows_come r e _ _ _ (c.lives_laws.ensures.next r.spec r.start r.events e) c.arrival_tag.ensures step in
    let lives = subst (λ l. AreLives l (later r e).events (trace r)) (sym c.self.view_is) (c.lives_laws.ensures.later r.spec r.start r.events (e ∷ []) _ knows) in
    subst (λ d. OnOk c.add_rows.result (AreLives c.add_rows.new.lives (later r e).events d)) (sym step.trace_is) (c.add_rows.ensures.lives r.spec (later r e).events (trace r) come lives)
