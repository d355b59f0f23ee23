-- The slots so far, none of which did anything.
use Rattle.std.proofs.Common.{◌≡◌, vec_len}
use Rattle.std.specs.Prelude.{All, length, map}
use Rattle.kn_many.specs.Many.{IsReadyFor}
use Rattle.kn_opener.proofs.tcp_wide_opener.fill.Given as goal

abbrev pub invariant-loop : goal.invariant-loop
invariant-loop g l = record {
  count : vec_len l.slots ≡ l.counter;
  ready : All (IsReadyFor (length l.plan.pods)) l.slots.items;
  reach : All (λ s. map (λ l. l.addresses) s.links.items ≡ l.plan.pods) l.slots.items;
}
