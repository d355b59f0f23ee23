-- One journal more.
use Rattle.std.proofs.Common.{◌≡◌, ◌<◌, ◌∙◌, [], arith, get_or, length, rules, subst, sym}
use Rattle.std.proofs.lemmas.List.{get_or_default}
use Rattle.kn_report.specs.Waiting.{Adds}
use Rattle.kn_print.proofs.Journals.{added_all, added_more, added_some, small_upto}
use Rattle.kn_print.proofs.Pieces.{on_err, on_ok}
use Rattle.kn_print.proofs.prints.print_journals.Goals as goal

pub loop-i-init : goal.loop-i-init
loop-i-init g c = record {
  held = subst (λ t. Adds (g.O.Sink.held c.args.out.now) (g.O.Sink.held c.args.out.now) [] t []) (sym c.new-text.ensures) c.adding_laws.ensures.laws.nothing;
  small = search rules;
  later = search rules;
}

pub loop-i-preserved : goal.loop-i-preserved
loop-i-preserved g c =
    let h = c.items-rows.result.now in
    let low : c.loop-i.i < length c.args.histories.now = omega (arith, c.requires, c.loop-i-test.true) in
    let is : h ≡ get_or c.args.histories.now c.loop-i.i h = c.items-rows.ensures ∙ c.index-histories-i.is ∙ get_or_default c.args.histories.now c.loop-i.i c.index-histories-i.result h low in
    record {
      held = added_more c.adding_laws.ensures.laws (g.O.Sink.held c.args.out.now) (g.O.Sink.held c.loop-i.out) (g.O.Sink.held c.add_journal.new.out) [] c.loop-i.text c.add_journal.new.text c.args.setups.now c.args.start c.args.histories.now c.loop-i.i
          c.index-setups-i.result h c.loop-i-test.true c.requires c.index-setups-i.is is c.loop-i.invariant.held c.in-Ok.ensures.ok;
      small = small_upto c.args.histories.now c.loop-i.i h low is c.loop-i.invariant.small c.in-Ok.ensures.small;
      later = search rules;
    }

pub returns-in-Err-clause-err : goal.returns-in-Err-clause-err
returns-in-Err-clause-err g c =
    let h = c.items-rows.result.now in
    let low : c.loop-i.i < length c.args.histories.now = omega (arith, c.requires, c.loop-i-test.true) in
    let is : h ≡ get_or c.args.histories.now c.loop-i.i h = c.items-rows.ensures ∙ c.index-histories-i.is ∙ get_or_default c.args.histories.now c.loop-i.i c.index-histories-i.result h low in
    added_some c.adding_laws.ensures.laws (g.O.Sink.held c.args.out.now) (g.O.Sink.held c.loop-i.out) (g.O.Sink.held c.add_journal.new.out) [] c.loop-i.text c.args.setups.now c.args.start c.args.histories.now c.loop-i.i c.index-setups-i.result h
    c.loop-i-test.true c.requires c.index-setups-i.is is c.loop-i.invariant.held c.in-Err.ensures.err

pub returns-clause-ok : goal.returns-clause-ok
returns-clause-ok g c =
    let all = added_all (g.O.Sink.held c.args.out.now) (g.O.Sink.held c.loop-i.out) [] c.loop-i.text c.args.setups.now c.args.start c.args.histories.now c.loop-i.i (search rules) c.requires c.loop-i.invariant.held in
    on_ok c.flush.result (λ rest. c.adding_laws.ensures.laws.done (c.adding_laws.ensures.laws.on all rest) c.flush.ensures.empty) c.flush.ensures.ok

pub returns-clause-err : goal.returns-clause-err
returns-clause-err g c =
    let all = added_all (g.O.Sink.held c.args.out.now) (g.O.Sink.held c.loop-i.out) [] c.loop-i.text c.args.setups.now c.args.start c.args.histories.now c.loop-i.i (search rules) c.requires c.loop-i.invariant.held in
    on_err c.flush.result (λ rest. c.adding_laws.ensures.laws.stop _ all rest) c.flush.ensures.err
