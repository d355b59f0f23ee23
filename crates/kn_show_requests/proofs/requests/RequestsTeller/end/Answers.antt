use Rattle.std.proofs.Common.{◌++◌, sym, subst, OnErr, OnOk}
use Rattle.kn_io.specs.Prefix.{AppendsPrefix}
use Rattle.kn_report.specs.Waiting.{Adds}
use Rattle.kn_teller.specs.Run.{trace}
use Rattle.kn_lives.specs.Lives.{AreLives}
use Rattle.kn_show_requests.proofs.Runs.{end_rows}
use Rattle.kn_show_requests.proofs.requests.RequestsTeller.end.Goals as goal

pub returns-clause-ok : goal.returns-clause-ok
returns-clause-ok g c r knows count =
    let lives = subst (λ l. AreLives l r.events (trace r)) (sym c.self.view_is) knows in
    subst (λ m. OnOk c.add_live.result (Adds (g.O.Sink.held c.args.out.now) (g.O.Sink.held c.add_live.new.out) c.args.waiting.now c.add_live.new.waiting m))
    (end_rows c.fact_laws.ensures r c.args.events (c.lives_laws.ensures.count r.spec r.start r.events) count) (c.add_live.ensures.ok r.events (trace r) lives)

pub returns-clause-err : goal.returns-clause-err
returns-clause-err g c r knows count =
    let lives = subst (λ l. AreLives l r.events (trace r)) (sym c.self.view_is) knows in
    subst (λ m. OnErr c.add_live.result (AppendsPrefix (g.O.Sink.held c.args.out.now) (g.O.Sink.held c.add_live.new.out) (c.args.waiting.now ++ m)))
    (end_rows c.fact_laws.ensures r c.args.events (c.lives_laws.ensures.count r.spec r.start r.events) count) (c.add_live.ensures.err r.events (trace r) lives)
