-- What was written piece by piece is the text.
use Rattle.std.proofs.Common.{take}
use Rattle.std.specs.Prelude.{codes}
use Rattle.std.specs.Fmt.{decimal, signed_decimal}
use Rattle.kn_event.specs.EntryLine.{labelled, scale_text}
use Rattle.kn_report.proofs.Pieces.{four_pieces}
use Rattle.kn_report.proofs.decision.put_scale.Goals as goal

pub returns-clause-text : goal.returns-clause-text
unfolding scale_text
returns-clause-text c =
    let d = c.args.d.now in
    four_pieces (take c.args.at c.args.room.now) (labelled (codes " undelayed=") (decimal d.undelayed)) (labelled (codes " delayed=") (decimal d.delayed))
    (labelled (codes " excess=") (signed_decimal d.excess)) (labelled (codes " bounded=") (decimal d.bounded))
    (take c.put_count-at.result c.put_count-at.new.room) (take c.put_count-at-2.result c.put_count-at-2.new.room) (take c.put_excess-at.result c.put_excess-at.new.room)
    (take c.put_count.result c.put_count.new.room)
    c.put_count-at.ensures.text c.put_count-at-2.ensures.text c.put_excess-at.ensures.text c.put_count.ensures.text
