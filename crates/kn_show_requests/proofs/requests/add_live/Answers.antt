use Rattle.std.proofs.Common.{◌∙◌, ◌<◌, ◌≡◌, ◌++◌, ap, arith, sym, subst}
use Rattle.std.proofs.lemmas.Grind.{common_steps}
use Rattle.kn_io.specs.Prefix.{AppendsPrefix}
use Rattle.kn_report.specs.Waiting.{Adds}
use Rattle.kn_show_requests.specs.Requests.{live_below}
use Rattle.kn_show_requests.specs.Texts.{line_where}
use Rattle.kn_show_requests.proofs.Lives.{live_around, live_first, live_last, live_more}
use Rattle.kn_show_requests.proofs.requests.add_live.Goals as goal

pub loop-r-init : goal.loop-r-init
loop-r-init g c = record {
  held = λ es t are. subst (Adds (g.O.Sink.held c.args.out.now) (g.O.Sink.held c.args.out.now) c.args.waiting.now c.args.waiting.now) (sym (live_first es t c.args.lives.now _ _ are c.least.ensures (omega arith))) c.adding_laws.ensures.laws.nothing;
  later = omega arith;
}

pub loop-r-preserved : goal.loop-r-preserved
loop-r-preserved g c = record {
  held = λ es t are.
      c.adding_laws.ensures.laws.more (c.loop-r.invariant.held es t are) c.in-Ok.ensures.ok
      (ap (λ m. live_below es t c.loop-r.r ++ line_where m) c.live.ensures ∙ live_more es t c.args.lives.now c.loop-r.r are);
  later = grind (arith, common_steps);
}

pub returns-in-Err-clause-err : goal.returns-in-Err-clause-err
returns-in-Err-clause-err g c es t are =
    let test = c.loop-r-test.true in
    let inside : c.loop-r.r < c.args.below = omega (arith, test) in
    let around = live_around es t c.args.lives.now c.loop-r.r c.args.below inside are in
    let some = c.adding_laws.ensures.laws.some _ _ around.0 (c.loop-r.invariant.held es t are) c.in-Err.ensures.err in
    subst (λ m. AppendsPrefix (g.O.Sink.held c.args.out.now) (g.O.Sink.held c.add_line.new.out) (c.args.waiting.now ++ m))
    (ap (λ m. live_below es t c.loop-r.r ++ (line_where m ++ around.0)) c.live.ensures ∙ around.1) some

pub returns-clause-ok : goal.returns-clause-ok
returns-clause-ok g c es t are =
    let over = c.loop-r-test.false in
    let ends = c.loop-r.auto.r-end in
    let at : c.loop-r.r ≡ c.min-end.result = omega (arith, over, ends) in
    let last = live_last es t c.args.lives.now c.min-end.result c.args.below c.greatest.result are c.greatest.ensures (omega arith) (omega arith) in
    subst (Adds (g.O.Sink.held c.args.out.now) (g.O.Sink.held c.loop-r.out) c.args.waiting.now c.loop-r.waiting)
    (ap (λ k. live_below es t k) at ∙ last) (c.loop-r.invariant.held es t are)
