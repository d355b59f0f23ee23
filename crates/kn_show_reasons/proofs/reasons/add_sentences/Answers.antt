use Rattle.std.proofs.Common.{◌++◌, ◌+◌, arith, sym, subst, drop}
use Rattle.std.proofs.lemmas.Grind.{common_steps}
use Rattle.std.proofs.lemmas.List.{take_all}
use Rattle.kn_io.specs.Prefix.{AppendsPrefix}
use Rattle.kn_report.specs.Waiting.{Adds}
use Rattle.kn_reason.specs.Texts.{sentences_text}
use Rattle.kn_show_reasons.proofs.Several.{sentences_around, sentences_more, sentences_nothing}
use Rattle.kn_show_reasons.proofs.reasons.add_sentences.Goals as goal

pub loop-sentence-init : goal.loop-sentence-init
loop-sentence-init g c = record {
  held = subst (Adds (g.O.Sink.held c.args.out.now) (g.O.Sink.held c.args.out.now) c.args.waiting.now c.args.waiting.now) (sym (sentences_nothing c.args.time)) c.adding_laws.ensures.laws.nothing;
  later = omega arith;
}

pub loop-sentence-preserved : goal.loop-sentence-preserved
loop-sentence-preserved g c = record {
  held = c.adding_laws.ensures.laws.more c.loop-sentence.invariant.held c.in-Ok.ensures.ok
      (sym (sentences_more c.args.time c.args.sentences.now c.loop-sentence.sentence-index c.sentence-item.result c.loop-sentence-test.true c.sentence-item.is));
  later = grind (arith, common_steps);
}

pub returns-in-Err-clause-err : goal.returns-in-Err-clause-err
returns-in-Err-clause-err g c =
    let t = c.args.time in
    let xs = c.args.sentences.now in
    let i = c.loop-sentence.sentence-index in
    let rest = sentences_text t (drop (i + 1) xs) in
    let some = c.adding_laws.ensures.laws.some _ _ rest c.loop-sentence.invariant.held c.in-Err.ensures.err in
    subst (λ m. AppendsPrefix (g.O.Sink.held c.args.out.now) (g.O.Sink.held c.add_sentence.new.out) (c.args.waiting.now ++ m))
    (sym (sentences_around t xs i c.sentence-item.result c.loop-sentence-test.true c.sentence-item.is)) some

pub returns-clause-ok : goal.returns-clause-ok
returns-clause-ok g c =
    subst (λ l. Adds (g.O.Sink.held c.args.out.now) (g.O.Sink.held c.loop-sentence.out) c.args.waiting.now c.loop-sentence.waiting (sentences_text c.args.time l))
    (take_all c.loop-sentence.sentence-index c.args.sentences.now c.loop-sentence-test.false) c.loop-sentence.invariant.held
