use Rattle.std.proofs.Common.{◌≤◌, ◌-◌, vec_len}
use Rattle.kn_head.specs.Told.{unread, IfTold, Draws}
use Rattle.kn_head.specs.Rules.{body_limit}
use Rattle.kn_head.proofs.Taking.{GoesOn}
use Rattle.kn_head.proofs.chunks.take_chunks.Given as goal

abbrev pub invariant-chunks : goal.invariant-chunks
invariant-chunks g l = record {
  short : vec_len l.body ≤ body_limit;
  goes_on : IfTold (unread l.fn.window (g.S.Source.left l.fn.source)) (unread l.window (g.S.Source.left l.source)) (GoesOn l.body.items);
  source : Draws (g.S.Source.left l.fn.source) (g.S.Source.left l.source) (g.S.Source.apart l.fn.source) (g.S.Source.apart l.source)
      (g.S.Faulty.faults l.fn.source) (g.S.Faulty.faults l.source);
}

abbrev pub decreases-chunks : goal.decreases-chunks
decreases-chunks g l = body_limit - vec_len l.body
