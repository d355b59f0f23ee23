-- The slots so far, none of which did anything.
use Rattle.std.proofs.Common.{◌≡◌, vec_len}
use Rattle.std.specs.Prelude.{All}
use Rattle.kn_serve.specs.Opening.{IsEmptyWork}
use Rattle.kn_opener.proofs.tcp_opener.fill.Given as goal

abbrev pub invariant-loop : goal.invariant-loop
invariant-loop g l = record {
  count : vec_len l.slots ≡ l.counter;
  works : All (λ s. IsEmptyWork s.work) l.slots.items;
  reach : All (λ s. s.link.addresses ≡ l.plan.pods) l.slots.items;
}
