use Rattle.std.proofs.Common.{arith, take, length-drop, length-take, length-take-le, ◌∙◌}
use Rattle.kn_page.specs.Asking.{no_head}
use Rattle.kn_page.proofs.Heads.{full_asks, known_asks, more_consumed}
use Rattle.kn_page.proofs.read.read_asked.Goals as goal

pub returns-in-Some-clause-asked : goal.returns-in-Some-clause-asked
returns-in-Some-clause-asked g c =
    known_asks (g.S.Source.left c.args.source.now) (g.S.Source.left c.pieces.source) (take c.pieces.len c.pieces.buffer) c.in-Some.asked c.pieces.invariant.consumed c.in-Some.ensures

pub returns-then-len-eq8192-clause-asked : goal.returns-then-len-eq8192-clause-asked
returns-then-len-eq8192-clause-asked g c =
    known_asks (g.S.Source.left c.args.source.now) (g.S.Source.left c.pieces.source) (take c.pieces.len c.pieces.buffer) no_head c.pieces.invariant.consumed
    (λ more. full_asks (take c.pieces.len c.pieces.buffer) more (length-take-le c.pieces.len c.pieces.buffer (omega arith) ∙ c.if-len-eq8192.true) c.in_default.ensures)

pub pieces-preserved : goal.pieces-preserved
pieces-preserved g c =
    let i = c.pieces.invariant in
    let bound = c.in-Ok.ensures.bound in
    let kept = c.read.auto.buf in
    record {
      consumed = more_consumed (g.S.Source.left c.args.source.now) (g.S.Source.left c.pieces.source) (g.S.Source.left c.read.new.self) c.pieces.buffer c.read.new.buf c.pieces.len _ c.in-Ok.n (omega arith) (omega (arith, bound, kept)) i.consumed c.in-Ok.ensures.moved;
      apart = c.read.ensures.apart_stays ∙ i.apart;
      never_falls = omega (arith, i.never_falls, c.read.ensures.cause.never_falls);
      within = let fits = simp (length-take, length-drop) at bound in omega arith;
    }
