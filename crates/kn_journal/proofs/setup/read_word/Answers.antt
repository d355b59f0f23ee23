-- The word's line was read and judged, or no line was there.
use Rattle.kn_journal.specs.Reading.{unread}
use Rattle.kn_journal.specs.Setup.{word_in}
use Rattle.kn_journal.proofs.Drawings.{draws_in, draws_well, judged-no_fault}
use Rattle.kn_journal.proofs.Blocks.{word-none, word-refuses, word-tells}
use Rattle.kn_journal.proofs.SetupRests.{word-rest}
use Rattle.kn_journal.proofs.Texts.{on_ok-any}
use Rattle.kn_journal.proofs.setup.read_word.Goals as goal

pub returns-in-Ok-clause-tells : goal.returns-in-Ok-clause-tells
returns-in-Ok-clause-tells g c =
    word-tells c.args.word.now c.args.lines.now.number c.next_line.new.self.number (unread c.args.lines.now.input (g.S.Source.left c.args.source.now))
    (unread c.next_line.new.self.input (g.S.Source.left c.next_line.new.source)) c.next_line.new.self.line c.judge_word.result
    c.in-Ok.ensures.taken.line c.in-Ok.ensures.taken.fits c.in-Ok.ensures.taken.number (rw (c.line.ensures, c.number.ensures) at c.judge_word.ensures)

pub returns-in-Err-clause-tells : goal.returns-in-Err-clause-tells
returns-in-Err-clause-tells g c = word-refuses c.args.word.now c.args.lines.now.number c.in-Err.e (unread c.args.lines.now.input (g.S.Source.left c.args.source.now)) c.in-Err.ensures.none

pub returns-in-Err-clause-source : goal.returns-in-Err-clause-source
returns-in-Err-clause-source g c =
    draws_in c.in-Err.ensures.source (λ h.
    word-none c.args.word.now c.args.lines.now.number (unread c.args.lines.now.input (g.S.Source.left c.args.source.now))
    (unread c.next_line.new.self.input (g.S.Source.left c.next_line.new.source)) h)

pub returns-in-Ok-clause-rest : goal.returns-in-Ok-clause-rest
returns-in-Ok-clause-rest g c =
    word-rest c.args.word.now c.args.lines.now.number c.next_line.new.self.number (unread c.args.lines.now.input (g.S.Source.left c.args.source.now)) (unread c.next_line.new.self.input (g.S.Source.left c.next_line.new.source)) c.next_line.new.self.line c.judge_word.result
    c.in-Ok.ensures.taken.line c.in-Ok.ensures.taken.fits c.in-Ok.ensures.taken.number (rw (c.line.ensures, c.number.ensures) at c.judge_word.ensures)

pub returns-in-Ok-clause-source : goal.returns-in-Ok-clause-source
returns-in-Ok-clause-source g c =
    draws_well (judged-no_fault (word_in c.args.word.now) c.number.result c.line.result.now c.judge_word.result c.judge_word.ensures) c.in-Ok.ensures.source

pub returns-in-Ok-clause-text : goal.returns-in-Ok-clause-text
returns-in-Ok-clause-text g c = on_ok-any c.judge_word.result c.in-Ok.ensures.taken.text
