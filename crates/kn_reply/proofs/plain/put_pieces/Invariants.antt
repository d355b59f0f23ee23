use Rattle.std.proofs.Common.{◌≡◌, ◌≤◌, take}
use Rattle.std.specs.List.{flat_map}
use Rattle.std.specs.Io.KnownBytes.{Appends}
use Rattle.kn_reply.proofs.plain.put_pieces.Given as goal

abbrev pub invariant-loop-piece : goal.invariant-loop-piece
invariant-loop-piece g l = record {
  held : Appends (g.O.Sink.held l.initial.out) (g.O.Sink.held l.out) (flat_map (λ p. p.now) (take l.piece-index l.pieces));
  kept : g.O.Sink.kept l.out ≡ g.O.Sink.kept l.initial.out;
  never_falls : g.O.Faulty.faults l.initial.out ≤ g.O.Faulty.faults l.out;
}
