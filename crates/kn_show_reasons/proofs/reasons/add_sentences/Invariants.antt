use Rattle.std.proofs.Common.{◌≤◌, take}
use Rattle.kn_report.specs.Waiting.{Adds}
use Rattle.kn_reason.specs.Texts.{sentences_text}
use Rattle.kn_show_reasons.proofs.reasons.add_sentences.Given as goal

abbrev pub invariant-loop-sentence : goal.invariant-loop-sentence
invariant-loop-sentence g l = record {
  held : Adds (g.O.Sink.held l.fn.out) (g.O.Sink.held l.out) l.fn.waiting l.waiting (sentences_text l.time (take l.sentence-index l.sentences));
  later : g.O.Faulty.faults l.fn.out ≤ g.O.Faulty.faults l.out;
}
