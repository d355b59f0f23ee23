-- A line that was ahead, or one that is read byte by byte.
use Rattle.std.proofs.Common.{sym, arith}
use Rattle.kn_journal.proofs.Drawings.{draws_ahead}
use Rattle.kn_journal.proofs.lines.read_line.Goals as goal

pub returns-then-take_ahead-clause-source : goal.returns-then-take_ahead-clause-source
returns-then-take_ahead-clause-source g c =
    let took = c.if-take_ahead.true in
    draws_ahead c.args.input.now c.take_ahead.new.input c.args.source.now (omega (arith, c.take_ahead.ensures.strict took)) (sym (c.take_ahead.ensures.exact took))

pub returns-then-take_ahead-clause-text : goal.returns-then-take_ahead-clause-text
returns-then-take_ahead-clause-text g c _ = c.take_ahead.ensures.text c.if-take_ahead.true (g.S.Source.left c.args.source.now)

pub returns-clause-text : goal.returns-clause-text
returns-clause-text g c = rw (c.take_ahead.ensures.stays c.if-take_ahead.false) at c.read_by_bytes.ensures.text

pub returns-clause-source : goal.returns-clause-source
returns-clause-source g c = rw (c.take_ahead.ensures.stays c.if-take_ahead.false) at c.read_by_bytes.ensures.source

pub returns-clause-taken : goal.returns-clause-taken
returns-clause-taken g c = rw (c.take_ahead.ensures.stays c.if-take_ahead.false) at c.read_by_bytes.ensures.taken

pub returns-clause-long : goal.returns-clause-long
returns-clause-long g c = rw (c.take_ahead.ensures.stays c.if-take_ahead.false) at c.read_by_bytes.ensures.long

pub returns-clause-ready : goal.returns-clause-ready
returns-clause-ready g c = rw (c.take_ahead.ensures.stays c.if-take_ahead.false) at c.read_by_bytes.ensures.ready

pub returns-clause-count : goal.returns-clause-count
returns-clause-count g c = rw (c.take_ahead.ensures.stays c.if-take_ahead.false) at c.read_by_bytes.ensures.count

pub returns-clause-exact : goal.returns-clause-exact
returns-clause-exact g c = rw (c.take_ahead.ensures.stays c.if-take_ahead.false) at c.read_by_bytes.ensures.exact

pub returns-clause-strict : goal.returns-clause-strict
returns-clause-strict g c = rw (c.take_ahead.ensures.stays c.if-take_ahead.false) at c.read_by_bytes.ensures.strict
