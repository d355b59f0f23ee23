-- The line ahead, which is printable, is the first one of what is unread.
use Rattle.std.proofs.Common.{◌≡◌, ◌+◌, ◌∙◌, take, drop, ap}
use Rattle.kn_journal.specs.Telling.{LinesState}
use Rattle.kn_journal.proofs.Aheads.{lines_split}
use Rattle.kn_journal.proofs.LineTexts.{printable-plain}
use Rattle.kn_journal.proofs.parts.Lines.take_line.Goals as goal

pub returns-clause-lines : goal.returns-clause-lines
returns-clause-lines c later =
    let hay = c.args.self.now.input.ahead in
    let len = c.args.len in
    let rest : c.skip.new.self.ahead ≡ drop (len + 1) hay = c.skip.ensures.ahead ∙ ap (λ (r : LinesState). drop (len + 1) r.input.ahead) c.self.view_is in
    rw rest (lines_split len hay later c.requires.lf (printable-plain (take len hay) c.requires.printable))
