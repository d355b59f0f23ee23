use Rattle.std.proofs.Common.{◌≡◌, vec_len}
use Rattle.std.specs.Prelude.{All}
use Rattle.kn_serve.specs.Opening.{IsEmptyWork}
use Rattle.kn_opener.proofs.tcp_wide_opener.works.Given as goal

abbrev pub invariant-loop : goal.invariant-loop
invariant-loop l = record {
  count : vec_len l.works ≡ l.counter;
  empty : All IsEmptyWork l.works.items;
}
