use Rattle.std.proofs.Common.{◌≡◌}
use Rattle.std.specs.Io.KnownBytes.{Keeps}
use Rattle.kn_io.proofs.adapters.read_at_last.Given as goal

-- reads that pass move nothing
abbrev pub invariant-loop : goal.invariant-loop
invariant-loop g l = record {
  still : Keeps (g.R.Read.remaining l.fn.reader) (g.R.Read.remaining l.reader);
  buffer : l.buf ≡ l.fn.buf;
}
