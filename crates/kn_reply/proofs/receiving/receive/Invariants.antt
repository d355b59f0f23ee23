use Rattle.std.proofs.Common.{vec_len, ◌≤◌}
use Rattle.std.specs.Io.KnownBytes.{Consumes}
use Rattle.kn_reply.specs.Ends.{MeetsAny}
use Rattle.kn_reply.proofs.receiving.receive.Given as goal

abbrev pub invariant-loop : goal.invariant-loop
invariant-loop g l = record {
  short : vec_len l.reply ≤ 1114112;
  right : MeetsAny l.request l.reply.items l.stage;
  told : Consumes (g.R.Read.remaining l.fn.stream) (g.R.Read.remaining l.stream) l.reply.items;
}
