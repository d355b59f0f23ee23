-- A line was read, or none was there.
use Rattle.std.proofs.Common.{◌≡◌, ◌+◌, ap, sym}
use Rattle.kn_journal.specs.Reading.{unread}
use Rattle.kn_journal.specs.Telling.{LinesState}
use Rattle.kn_journal.proofs.Drawings.{draws_well}
use Rattle.kn_journal.proofs.Tellings.{end-none, lacks_end, lacks_fault, lacks_long, short-fits}
use Rattle.kn_journal.proofs.parts.Lines.next_line.Goals as goal

pub returns-in-Ok-true-clause-source : goal.returns-in-Ok-true-clause-source
returns-in-Ok-true-clause-source g c =
    let input : c.self.inside.input ≡ c.args.self.now.input = ap (λ (r : LinesState). r.input) c.self.view_is in
    rw input at c.in-Ok-true.ensures.source

pub returns-in-Ok-true-clause-taken : goal.returns-in-Ok-true-clause-taken
returns-in-Ok-true-clause-taken g c =
    let input : c.self.inside.input ≡ c.args.self.now.input = ap (λ (r : LinesState). r.input) c.self.view_is in
    record {
      line = rw (input, c.in-Ok-true.field-0-test) at c.in-Ok-true.ensures.taken;
      text = rw input at (c.in-Ok-true.ensures.text (cc));
      number = ap (λ (r : LinesState). r.number + 1) c.self.view_is;
      fits = short-fits c.read_line.new.line.items c.in-Ok-true.ensures.content.fits;
      no_lf = c.in-Ok-true.ensures.content.no_lf;
      count = rw input at c.in-Ok-true.ensures.count;
      strict = rw input at (c.in-Ok-true.ensures.strict (cc));
    }

pub returns-in-Ok-false-clause-source : goal.returns-in-Ok-false-clause-source
returns-in-Ok-false-clause-source g c =
    let input : c.self.inside.input ≡ c.args.self.now.input = ap (λ (r : LinesState). r.input) c.self.view_is in
    draws_well tt (rw input at c.in-Ok-false.ensures.source)

pub returns-in-Err-TooLong-clause-source : goal.returns-in-Err-TooLong-clause-source
returns-in-Err-TooLong-clause-source g c =
    let input : c.self.inside.input ≡ c.args.self.now.input = ap (λ (r : LinesState). r.input) c.self.view_is in
    draws_well tt (rw (input, c.in-Err-TooLong.field-0-is) at c.in-Err-TooLong.ensures.source)

pub returns-in-Err-Fault-clause-source : goal.returns-in-Err-Fault-clause-source
returns-in-Err-Fault-clause-source g c =
    let input : c.self.inside.input ≡ c.args.self.now.input = ap (λ (r : LinesState). r.input) c.self.view_is in
    rw (input, c.in-Err-Fault.field-0-is) at c.in-Err-Fault.ensures.source

pub returns-in-Ok-false-clause-none : goal.returns-in-Ok-false-clause-none
returns-in-Ok-false-clause-none g c =
    let input : c.self.inside.input ≡ c.args.self.now.input = ap (λ (r : LinesState). r.input) c.self.view_is in
    lacks_end c.args.self.now.number (unread c.args.self.now.input (g.S.Source.left c.args.source.now)) (unread c.read_line.new.input (g.S.Source.left c.read_line.new.source))
    c.read_line.new.line.items (rw (input, c.in-Ok-false.field-0-test) at c.in-Ok-false.ensures.taken)

pub returns-in-Err-TooLong-clause-none : goal.returns-in-Err-TooLong-clause-none
returns-in-Err-TooLong-clause-none g c =
    let input : c.self.inside.input ≡ c.args.self.now.input = ap (λ (r : LinesState). r.input) c.self.view_is in
    let number : c.self.inside.number + 1 ≡ c.args.self.now.number + 1 = ap (λ (r : LinesState). r.number + 1) c.self.view_is in
    lacks_long c.args.self.now.number (c.self.inside.number + 1) (unread c.args.self.now.input (g.S.Source.left c.args.source.now)) number (rw input at (c.in-Err-TooLong.ensures.long (cc)))

pub returns-in-Err-Fault-clause-none : goal.returns-in-Err-Fault-clause-none
returns-in-Err-Fault-clause-none g c = lacks_fault c.args.self.now.number (unread c.args.self.now.input (g.S.Source.left c.args.source.now))

pub returns-in-Ok-false-clause-over : goal.returns-in-Ok-false-clause-over
returns-in-Ok-false-clause-over g c none =
    let input : c.self.inside.input ≡ c.args.self.now.input = ap (λ (r : LinesState). r.input) c.self.view_is in
    let number : c.args.self.now.number ≡ c.self.inside.number = sym (ap (λ (r : LinesState). r.number) c.self.view_is) in
    end-none c.args.self.now.number c.self.inside.number c.args.self.now.input.taken c.read_line.new.input.taken (unread c.args.self.now.input (g.S.Source.left c.args.source.now))
    (unread c.read_line.new.input (g.S.Source.left c.read_line.new.source)) c.read_line.new.line.items number (rw (input, c.in-Ok-false.field-0-test) at c.in-Ok-false.ensures.taken)
    (rw input at c.in-Ok-false.ensures.exact) (rw input at c.in-Ok-false.ensures.source).grows
