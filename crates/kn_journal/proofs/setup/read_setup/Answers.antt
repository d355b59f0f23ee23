-- The setup's first line and what follows it, or where it ended.
use Rattle.kn_journal.specs.Reading.{unread}
use Rattle.kn_journal.proofs.Drawings.{draws_in, draws_more, draws_well}
use Rattle.kn_journal.proofs.Pieces.{on_ok}
use Rattle.kn_journal.proofs.ReadBack.{setup-kept_if}
use Rattle.kn_journal.proofs.Setups.{setup-bad, setup-lacks, setup-none, setup-stops, setup-tells}
use Rattle.kn_journal.proofs.SetupRests.{setup-bad_rest, setup-rest}
use Rattle.kn_journal.specs.Setup.{setup_part}
use Rattle.kn_journal.proofs.Tellings.{memory-refuses}
use Rattle.kn_journal.proofs.setup.read_setup.Goals as goal

pub returns-in-Err-clause-tells : goal.returns-in-Err-clause-tells
returns-in-Err-clause-tells g c = setup-lacks c.args.lines.now.number c.in-Err.e (unread c.args.lines.now.input (g.S.Source.left c.args.source.now)) c.in-Err.ensures.none

pub returns-in-Err-clause-source : goal.returns-in-Err-clause-source
returns-in-Err-clause-source g c =
    draws_in c.in-Err.ensures.source (λ h.
    setup-none c.args.lines.now.number (unread c.args.lines.now.input (g.S.Source.left c.args.source.now))
    (unread c.next_line.new.self.input (g.S.Source.left c.next_line.new.source)) h)

pub returns-in-Err-read_setup_line-clause-tells : goal.returns-in-Err-read_setup_line-clause-tells
returns-in-Err-read_setup_line-clause-tells g c =
    rw c.number.ensures (setup-bad c.args.lines.now.number c.next_line.new.self.number (unread c.args.lines.now.input (g.S.Source.left c.args.source.now))
    (unread c.next_line.new.self.input (g.S.Source.left c.next_line.new.source)) c.next_line.new.self.line c.in-Err-read_setup_line.why
    c.in-Ok.ensures.taken.line c.in-Ok.ensures.taken.fits c.in-Ok.ensures.taken.number (rw c.line.ensures at c.in-Err-read_setup_line.ensures.value))

pub returns-in-Ok-line_text-clause-tells : goal.returns-in-Ok-line_text-clause-tells
returns-in-Ok-line_text-clause-tells g c =
    setup-tells c.args.lines.now.number c.next_line.new.self.number c.read_behind.new.lines.number (unread c.args.lines.now.input (g.S.Source.left c.args.source.now))
    (unread c.next_line.new.self.input (g.S.Source.left c.next_line.new.source)) (unread c.read_behind.new.lines.input (g.S.Source.left c.read_behind.new.source))
    c.next_line.new.self.line c.in-Ok-line_text.text.items c.in-Ok-read_setup_line.said c.read_behind.result c.in-Ok.ensures.taken.line c.in-Ok.ensures.taken.fits c.in-Ok.ensures.taken.number
    (rw c.line.ensures at c.in-Ok-read_setup_line.ensures.value) (rw c.line-2.ensures at c.in-Ok-line_text.ensures) c.read_behind.ensures.tells

pub returns-in-Ok-line_text-clause-source : goal.returns-in-Ok-line_text-clause-source
returns-in-Ok-line_text-clause-source g c =
    draws_more c.in-Ok.ensures.source c.read_behind.ensures.source (λ h.
    setup-stops c.args.lines.now.number c.next_line.new.self.number c.next_line.new.self.cut (unread c.args.lines.now.input (g.S.Source.left c.args.source.now))
    (unread c.next_line.new.self.input (g.S.Source.left c.next_line.new.source)) (unread c.read_behind.new.lines.input (g.S.Source.left c.read_behind.new.source))
    c.next_line.new.self.line c.in-Ok-line_text.text.items c.in-Ok-read_setup_line.said c.in-Ok.ensures.taken.line c.in-Ok.ensures.taken.text c.in-Ok.ensures.taken.fits c.in-Ok.ensures.taken.number
    (rw c.line.ensures at c.in-Ok-read_setup_line.ensures.value) (rw c.line-2.ensures at c.in-Ok-line_text.ensures) (c.read_behind.ensures.source.amid h))

pub returns-in-Ok-line_text-clause-kept : goal.returns-in-Ok-line_text-clause-kept
returns-in-Ok-line_text-clause-kept g c =
    setup-kept_if c.next_line.new.self.line c.in-Ok-line_text.text.items c.in-Ok-read_setup_line.said c.read_behind.result c.in-Ok.ensures.taken.fits
    (rw c.line.ensures at c.in-Ok-read_setup_line.ensures.value) (rw c.line-2.ensures at c.in-Ok-line_text.ensures) c.read_behind.ensures.kept

pub returns-in-Err-read_setup_line-clause-rest : goal.returns-in-Err-read_setup_line-clause-rest
returns-in-Err-read_setup_line-clause-rest g c =
    rw c.number.ensures (λ is. setup-bad_rest c.args.lines.now.number c.next_line.new.self.number (unread c.args.lines.now.input (g.S.Source.left c.args.source.now))
    (unread c.next_line.new.self.input (g.S.Source.left c.next_line.new.source)) c.next_line.new.self.line c.in-Err-read_setup_line.why
    c.in-Ok.ensures.taken.line c.in-Ok.ensures.taken.fits c.in-Ok.ensures.taken.number (rw c.line.ensures at c.in-Err-read_setup_line.ensures.value))

pub returns-in-Ok-line_text-clause-rest : goal.returns-in-Ok-line_text-clause-rest
returns-in-Ok-line_text-clause-rest g c =
    setup-rest c.args.lines.now.number c.next_line.new.self.number (unread c.args.lines.now.input (g.S.Source.left c.args.source.now))
    (unread c.next_line.new.self.input (g.S.Source.left c.next_line.new.source)) (unread c.read_behind.new.lines.input (g.S.Source.left c.read_behind.new.source))
    c.next_line.new.self.line c.in-Ok-line_text.text.items c.in-Ok-read_setup_line.said c.read_behind.result c.in-Ok.ensures.taken.line c.in-Ok.ensures.taken.fits c.in-Ok.ensures.taken.number
    (rw c.line.ensures at c.in-Ok-read_setup_line.ensures.value) (rw c.line-2.ensures at c.in-Ok-line_text.ensures) c.read_behind.ensures.rest

pub returns-in-Err-read_setup_line-clause-source : goal.returns-in-Err-read_setup_line-clause-source
returns-in-Err-read_setup_line-clause-source g c = draws_well tt c.in-Ok.ensures.source

pub returns-in-Err-line_text-clause-source : goal.returns-in-Err-line_text-clause-source
returns-in-Err-line_text-clause-source g c = draws_well tt c.in-Ok.ensures.source

pub returns-in-Err-line_text-clause-tells : goal.returns-in-Err-line_text-clause-tells
returns-in-Err-line_text-clause-tells g c = memory-refuses (setup_part c.args.lines.now.number) (unread c.args.lines.now.input (g.S.Source.left c.args.source.now))

pub returns-in-Ok-line_text-clause-text : goal.returns-in-Ok-line_text-clause-text
returns-in-Ok-line_text-clause-text g c =
    on_ok c.read_behind.result (λ more. more (unread c.args.lines.now.input (g.S.Source.left c.args.source.now)) c.in-Ok.ensures.taken.text) c.read_behind.ensures.text
