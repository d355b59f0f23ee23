-- A block, line by line.
use Rattle.std.proofs.Common.{◌≡◌, ◌+◌, ◌<◌, ◌≤◌, ◌∙◌, ◌++◌, ◌∷◌, [], true, false, length, arith}
use Rattle.std.specs.Prelude.{codes}
use Rattle.std.specs.Str.{bytes_eq}
use Rattle.std.proofs.lemmas.Grind.{common_steps}
use Rattle.kn_journal.specs.Reading.{unread}
use Rattle.kn_journal.specs.Lines.{ends_with_cr}
use Rattle.kn_journal.specs.Setup.{block_most, block_part}
use Rattle.kn_journal.proofs.Drawings.{draws_both, draws_more, draws_none, draws_well}
use Rattle.kn_journal.proofs.Blocks.{block-begin, block-cut, block-lacks, block-long, block-more, block-point, block-stops, block-text}
use Rattle.kn_journal.proofs.ReadBack.{keeps-begin, keeps-more, keeps-point}
use Rattle.kn_journal.proofs.SetupRests.{block-rest}
use Rattle.kn_journal.proofs.Tellings.{memory-refuses}
use Rattle.kn_journal.proofs.setup.read_block.Goals as goal

pub loop-init : goal.loop-init
loop-init g c = record {
  block = rw c.new-text.ensures.items (block-begin c.args.lines.now.number (unread c.args.lines.now.input (g.S.Source.left c.args.source.now)));
  kept = rw c.new-text.ensures.items keeps-begin;
  turns = grind (arith, common_steps);
  short = grind (arith, common_steps);
  source = draws_none _ _;
}

pub returns-in-Err-clause-tells : goal.returns-in-Err-clause-tells
returns-in-Err-clause-tells g c =
    block-lacks c.args.lines.now.number c.loop.text.items c.loop.lines.number c.in-Err.e (unread c.args.lines.now.input (g.S.Source.left c.args.source.now))
    (unread c.loop.lines.input (g.S.Source.left c.loop.source)) c.loop.invariant.block c.in-Err.ensures.none

pub returns-in-Err-clause-source : goal.returns-in-Err-clause-source
returns-in-Err-clause-source g c =
    draws_more c.loop.invariant.source c.in-Err.ensures.source (λ h.
    block-stops c.args.lines.now.number c.loop.text.items c.loop.lines.number (unread c.args.lines.now.input (g.S.Source.left c.args.source.now))
    (unread c.loop.lines.input (g.S.Source.left c.loop.source)) (unread c.next_line.new.self.input (g.S.Source.left c.next_line.new.source))
    c.loop.invariant.block (c.in-Err.ensures.source.amid h))

pub returns-then-eq-clause-tells : goal.returns-then-eq-clause-tells
returns-then-eq-clause-tells g c =
    let point : bytes_eq c.next_line.new.self.line (codes ".") ≡ true = grind (arith, common_steps) in
    rw c.new.ensures (block-point c.args.lines.now.number c.loop.text.items c.loop.lines.number c.next_line.new.self.number (unread c.args.lines.now.input (g.S.Source.left c.args.source.now))
    (unread c.loop.lines.input (g.S.Source.left c.loop.source)) (unread c.next_line.new.self.input (g.S.Source.left c.next_line.new.source)) c.next_line.new.self.line
    c.loop.invariant.block c.in-Ok.ensures.taken.line c.in-Ok.ensures.taken.fits c.in-Ok.ensures.taken.number point)

pub returns-then-len-line-ge-BLOCK_MOST-clause-tells : goal.returns-then-len-line-ge-BLOCK_MOST-clause-tells
returns-then-len-line-ge-BLOCK_MOST-clause-tells g c =
    let other : bytes_eq c.next_line.new.self.line (codes ".") ≡ false = grind (arith, common_steps) in
    let long : block_most ≤ length c.loop.text.items + length c.next_line.new.self.line = grind (arith, common_steps) in
    block-long c.args.lines.now.number c.loop.text.items c.loop.lines.number c.number.result (unread c.args.lines.now.input (g.S.Source.left c.args.source.now))
    (unread c.loop.lines.input (g.S.Source.left c.loop.source)) (unread c.next_line.new.self.input (g.S.Source.left c.next_line.new.source)) c.next_line.new.self.line
    c.loop.invariant.block c.in-Ok.ensures.taken.line c.in-Ok.ensures.taken.fits (c.number.ensures ∙ c.in-Ok.ensures.taken.number) other long

pub loop-preserved : goal.loop-preserved
loop-preserved g c =
    let other : bytes_eq c.next_line.new.self.line (codes ".") ≡ false = grind (arith, common_steps) in
    let short : length c.loop.text.items + length c.next_line.new.self.line < block_most = grind (arith, common_steps) in
    let added : c.push.new.self.items ≡ (c.loop.text.items ++ c.next_line.new.self.line) ++ 10 ∷ [] = grind (arith, common_steps) in
    let cr : ends_with_cr c.next_line.new.self.line ≡ false = grind (arith, common_steps) in
    record {
      block = block-more c.args.lines.now.number c.loop.text.items c.push.new.self.items c.loop.lines.number c.next_line.new.self.number c.next_line.new.self.cut (unread c.args.lines.now.input (g.S.Source.left c.args.source.now))
          (unread c.loop.lines.input (g.S.Source.left c.loop.source)) (unread c.next_line.new.self.input (g.S.Source.left c.next_line.new.source)) c.next_line.new.self.line
          c.loop.invariant.block c.in-Ok.ensures.taken.line c.in-Ok.ensures.taken.text c.in-Ok.ensures.taken.fits c.in-Ok.ensures.taken.number other short added;
      kept = keeps-more c.loop.text.items c.next_line.new.self.line c.push.new.self.items c.loop.invariant.kept c.in-Ok.ensures.taken.no_lf cr c.in-Ok.ensures.taken.fits other short added;
      turns = grind (arith, common_steps);
      short = grind (arith, common_steps);
      source = draws_both c.loop.invariant.source c.in-Ok.ensures.source;
    }

pub returns-then-eq-clause-text : goal.returns-then-eq-clause-text
returns-then-eq-clause-text g c =
    block-text c.args.lines.now.number c.loop.text.items c.loop.lines.number c.next_line.new.self.cut (unread c.args.lines.now.input (g.S.Source.left c.args.source.now))
    (unread c.loop.lines.input (g.S.Source.left c.loop.source)) (unread c.next_line.new.self.input (g.S.Source.left c.next_line.new.source)) c.loop.invariant.block c.in-Ok.ensures.taken.text

pub returns-then-eq-clause-kept : goal.returns-then-eq-clause-kept
returns-then-eq-clause-kept g c = rw c.new.ensures (keeps-point c.loop.text.items c.loop.invariant.kept)

pub returns-then-ends_with_cr-clause-tells : goal.returns-then-ends_with_cr-clause-tells
returns-then-ends_with_cr-clause-tells g c =
    let other : bytes_eq c.next_line.new.self.line (codes ".") ≡ false = grind (arith, common_steps) in
    let short : length c.loop.text.items + length c.next_line.new.self.line < block_most = grind (arith, common_steps) in
    let cr : ends_with_cr c.next_line.new.self.line ≡ true = grind (arith, common_steps) in
    block-cut c.args.lines.now.number c.loop.text.items c.loop.lines.number (unread c.args.lines.now.input (g.S.Source.left c.args.source.now))
    (unread c.loop.lines.input (g.S.Source.left c.loop.source)) (unread c.next_line.new.self.input (g.S.Source.left c.next_line.new.source)) c.next_line.new.self.line
    c.loop.invariant.block c.in-Ok.ensures.taken.line c.in-Ok.ensures.taken.fits other short cr

pub returns-then-len-line-ge-BLOCK_MOST-clause-rest : goal.returns-then-len-line-ge-BLOCK_MOST-clause-rest
returns-then-len-line-ge-BLOCK_MOST-clause-rest g c is =
    let other : bytes_eq c.next_line.new.self.line (codes ".") ≡ false = grind (arith, common_steps) in
    let long : block_most ≤ length c.loop.text.items + length c.next_line.new.self.line = grind (arith, common_steps) in
    block-rest c.args.lines.now.number c.loop.text.items c.loop.lines.number c.number.result (unread c.args.lines.now.input (g.S.Source.left c.args.source.now))
    (unread c.loop.lines.input (g.S.Source.left c.loop.source)) (unread c.next_line.new.self.input (g.S.Source.left c.next_line.new.source)) c.next_line.new.self.line
    c.loop.invariant.block c.in-Ok.ensures.taken.line c.in-Ok.ensures.taken.fits (c.number.ensures ∙ c.in-Ok.ensures.taken.number) other long

pub returns-then-eq-clause-source : goal.returns-then-eq-clause-source
returns-then-eq-clause-source g c = draws_well tt (draws_both c.loop.invariant.source c.in-Ok.ensures.source)

pub returns-then-len-line-ge-BLOCK_MOST-clause-source : goal.returns-then-len-line-ge-BLOCK_MOST-clause-source
returns-then-len-line-ge-BLOCK_MOST-clause-source g c = draws_well tt (draws_both c.loop.invariant.source c.in-Ok.ensures.source)

pub returns-then-ends_with_cr-clause-source : goal.returns-then-ends_with_cr-clause-source
returns-then-ends_with_cr-clause-source g c = draws_well tt (draws_both c.loop.invariant.source c.in-Ok.ensures.source)

pub returns-clause-source : goal.returns-clause-source
returns-clause-source g c = draws_well tt c.loop.invariant.source

pub returns-then-is_err-clause-source : goal.returns-then-is_err-clause-source
returns-then-is_err-clause-source g c = draws_well tt (draws_both c.loop.invariant.source c.in-Ok.ensures.source)

pub returns-then-is_err-clause-tells : goal.returns-then-is_err-clause-tells
returns-then-is_err-clause-tells g c = memory-refuses (block_part [] c.args.lines.now.number) (unread c.args.lines.now.input (g.S.Source.left c.args.source.now))
