-- A link for each list so far, with its addresses.
use Rattle.std.proofs.Common.{◌≡◌, map, take, vec_len}
use Rattle.kn_opener.proofs.tcp_wide_opener.links.Given as goal

abbrev pub invariant-loop-hosts : goal.invariant-loop-hosts
invariant-loop-hosts g l = record {
  count : vec_len l.links ≡ l.hosts-index;
  reach : map (λ k. k.addresses) l.links.items ≡ take l.hosts-index l.pods;
}
