use Rattle.std.specs.Io.KnownBytes.{Keeps}
use Rattle.kn_io.proofs.adapters.write_at_last.Given as goal

-- writes that pass move nothing
abbrev pub invariant-loop : goal.invariant-loop
invariant-loop g l = Keeps (g.W.Write.contents l.fn.writer) (g.W.Write.contents l.writer)
