use Rattle.std.proofs.Common.{◌≤◌, length, arith, ◌∙◌}
use Rattle.kn_head.proofs.Pieces.{fill_keeps}
use Rattle.kn_head.proofs.window.Window.fill.Goals as goal

pub returns-in-Ok-clause-stays : goal.returns-in-Ok-clause-stays
returns-in-Ok-clause-stays g c =
    let fits : c.in-Ok.n ≤ length c.read.new.buf = omega (arith, c.in-Ok.ensures.bound, c.read.auto.buf) in
    fill_keeps _ _ _ c.pack-self-inside.new.buffer c.read.new.buf c.pack-self-inside.result _ c.in-Ok.n
    (omega arith) fits (c.pack-self-inside.ensures.bytes ∙ c.self.view_is) c.in-Ok.ensures.moved
