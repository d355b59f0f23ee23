-- The text of a fixed revision's setup is its line alone.
use Rattle.kn_journal.specs.Reading.{TakesPart, unread}
use Rattle.kn_journal.proofs.Drawings.{draws_none, draws_well, memory-no_fault}
use Rattle.kn_journal.proofs.Pieces.{on_ok}
use Rattle.kn_journal.proofs.ReadBack.{fixed-kept_if}
use Rattle.kn_journal.proofs.Texts.{on_ok-any, text-more}
use Rattle.kn_journal.proofs.setup.read_behind.Goals as goal

pub returns-in-Fixed-clause-kept : goal.returns-in-Fixed-clause-kept
returns-in-Fixed-clause-kept g c =
    rw c.in-Fixed.is (fixed-kept_if c.args.text.items c.in-Fixed.limit c.in-Fixed.pods c.in-Fixed.timeout_s c.in-Fixed.slots c.fixed_setup.result c.fixed_setup.ensures.ok)

pub returns-in-Fixed-clause-source : goal.returns-in-Fixed-clause-source
returns-in-Fixed-clause-source g c = draws_well {A = TakesPart} (memory-no_fault c.fixed_setup.result c.fixed_setup.ensures.err) (draws_none c.args.lines.now.input c.args.source.now)

pub returns-in-Fixed-clause-text : goal.returns-in-Fixed-clause-text
returns-in-Fixed-clause-text g c = on_ok-any c.fixed_setup.result (λ before h. h)

pub returns-in-Kpa-clause-text : goal.returns-in-Kpa-clause-text
returns-in-Kpa-clause-text g c =
    on_ok c.read_blocks.result
    (λ text before h. text-more c.args.lines.now.cut c.read_blocks.new.lines.cut before (unread c.args.lines.now.input (g.S.Source.left c.args.source.now)) (unread c.read_blocks.new.lines.input (g.S.Source.left c.read_blocks.new.source)) h text)
    c.read_blocks.ensures.text
