-- The input ends there, or a line follows.
use Rattle.std.proofs.Common.{◌≡◌, ◌+◌, sym, ap}
use Rattle.kn_journal.specs.Reading.{unread}
use Rattle.kn_journal.specs.Telling.{LinesState}
use Rattle.kn_journal.proofs.Drawings.{draws_well}
use Rattle.kn_journal.proofs.Rests.{end-rest}
use Rattle.kn_journal.proofs.Tellings.{end-long, end-more, end-none, short-fits}
use Rattle.kn_journal.proofs.parts.Lines.end.Goals as goal

pub returns-in-Ok-true-clause-tells : goal.returns-in-Ok-true-clause-tells
returns-in-Ok-true-clause-tells g c =
    let input : c.self.inside.input ≡ c.args.self.now.input = ap (λ (r : LinesState). r.input) c.self.view_is in
    let number : c.self.inside.number + 1 ≡ c.args.self.now.number + 1 = ap (λ (r : LinesState). r.number + 1) c.self.view_is in
    end-more c.args.self.now.number (c.self.inside.number + 1) (unread c.args.self.now.input (g.S.Source.left c.args.source.now)) (unread c.read_line.new.input (g.S.Source.left c.read_line.new.source))
    c.read_line.new.line.items number (rw (input, c.in-Ok-true.field-0-test) at c.in-Ok-true.ensures.taken) (short-fits c.read_line.new.line.items c.in-Ok-true.ensures.content.fits)

pub returns-in-Err-TooLong-clause-tells : goal.returns-in-Err-TooLong-clause-tells
returns-in-Err-TooLong-clause-tells g c =
    let input : c.self.inside.input ≡ c.args.self.now.input = ap (λ (r : LinesState). r.input) c.self.view_is in
    let number : c.self.inside.number + 1 ≡ c.args.self.now.number + 1 = ap (λ (r : LinesState). r.number + 1) c.self.view_is in
    end-long c.args.self.now.number (c.self.inside.number + 1) (unread c.args.self.now.input (g.S.Source.left c.args.source.now)) number (rw input at (c.in-Err-TooLong.ensures.long (cc)))

pub returns-clause-tells : goal.returns-clause-tells
returns-clause-tells g c =
    let input : c.self.inside.input ≡ c.args.self.now.input = ap (λ (r : LinesState). r.input) c.self.view_is in
    let number : c.args.self.now.number ≡ c.self.inside.number = sym (ap (λ (r : LinesState). r.number) c.self.view_is) in
    end-none c.args.self.now.number c.self.inside.number c.args.self.now.input.taken c.read_line.new.input.taken (unread c.args.self.now.input (g.S.Source.left c.args.source.now))
    (unread c.read_line.new.input (g.S.Source.left c.read_line.new.source)) c.read_line.new.line.items number (rw (input, c.in-Ok-false.field-0-test) at c.in-Ok-false.ensures.taken)
    (rw input at c.in-Ok-false.ensures.exact) (rw input at c.in-Ok-false.ensures.source).grows

pub returns-in-Ok-true-clause-source : goal.returns-in-Ok-true-clause-source
returns-in-Ok-true-clause-source g c =
    let input : c.self.inside.input ≡ c.args.self.now.input = ap (λ (r : LinesState). r.input) c.self.view_is in
    draws_well tt (rw input at c.in-Ok-true.ensures.source)

pub returns-in-Err-TooLong-clause-source : goal.returns-in-Err-TooLong-clause-source
returns-in-Err-TooLong-clause-source g c =
    let input : c.self.inside.input ≡ c.args.self.now.input = ap (λ (r : LinesState). r.input) c.self.view_is in
    draws_well tt (rw (input, c.in-Err-TooLong.field-0-is) at c.in-Err-TooLong.ensures.source)

pub returns-clause-source : goal.returns-clause-source
returns-clause-source g c =
    let input : c.self.inside.input ≡ c.args.self.now.input = ap (λ (r : LinesState). r.input) c.self.view_is in
    rw input at c.in-Ok-false.ensures.source

pub returns-in-Ok-true-clause-rest : goal.returns-in-Ok-true-clause-rest
returns-in-Ok-true-clause-rest g c is =
    let input : c.self.inside.input ≡ c.args.self.now.input = ap (λ (r : LinesState). r.input) c.self.view_is in
    let number : c.self.inside.number + 1 ≡ c.args.self.now.number + 1 = ap (λ (r : LinesState). r.number + 1) c.self.view_is in
    end-rest c.args.self.now.number (c.self.inside.number + 1) (unread c.args.self.now.input (g.S.Source.left c.args.source.now)) (unread c.read_line.new.input (g.S.Source.left c.read_line.new.source))
    c.read_line.new.line.items number (rw (input, c.in-Ok-true.field-0-test) at c.in-Ok-true.ensures.taken) (short-fits c.read_line.new.line.items c.in-Ok-true.ensures.content.fits)
