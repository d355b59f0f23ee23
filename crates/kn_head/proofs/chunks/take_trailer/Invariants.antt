use Rattle.std.proofs.Common.{◌-◌, length}
use Rattle.std.specs.Io.KnownBytes.{Keeps}
use Rattle.kn_head.specs.Told.{unread, Draws}
use Rattle.kn_head.specs.Heads.{limit}
use Rattle.kn_head.proofs.chunks.take_trailer.Given as goal

abbrev pub invariant-pieces : goal.invariant-pieces
invariant-pieces g l = record {
  stays : Keeps (unread l.fn.window (g.S.Source.left l.fn.source)) (unread l.window (g.S.Source.left l.source));
  source : Draws (g.S.Source.left l.fn.source) (g.S.Source.left l.source) (g.S.Source.apart l.fn.source) (g.S.Source.apart l.source)
      (g.S.Faulty.faults l.fn.source) (g.S.Faulty.faults l.source);
}

abbrev pub decreases-pieces : goal.decreases-pieces
decreases-pieces g l = limit - length l.window
