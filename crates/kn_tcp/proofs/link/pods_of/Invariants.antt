-- The pods so far have the first of the addresses.
use Rattle.std.proofs.Common.{◌≡◌, map, take}
use Rattle.kn_tcp.specs.declared.pod.Pod.{Pod}
use Rattle.kn_tcp.proofs.link.pods_of.Given as goal

abbrev pub invariant-loop-address : goal.invariant-loop-address
invariant-loop-address l = map (λ (p : Pod). p.name) l.pods.items ≡ take l.address-index l.addresses
