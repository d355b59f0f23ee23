use Rattle.std.proofs.Common.{rules}
use Rattle.std.specs.Prelude.{nat_le}
use Rattle.std.proofs.lemmas.Fn.{always_returns_same}
use Rattle.kn_trace.specs.declared.candidate.Cand.{Cand}
use Rattle.kn_throttle.proofs.Places.{point_behind, up_to_parts}
use Rattle.kn_throttle.proofs.candidates.place_behind.Goals as goal

pub returns-clause-place : goal.returns-clause-place
returns-clause-place c =
    let d : Cand = record { pod = 0; limit = 0; running = 0 } in
    let point = c.partition_point.ensures.partitioned (λ (k : Cand). nat_le k.pod c.args.p) (always_returns_same _ _ _ (λ a r f called. search rules)) (up_to_parts (λ (k : Cand). k.pod) c.args.cands.now c.requires c.args.p) in
    point_behind (λ (k : Cand). k.pod) d c.args.cands.now c.args.p c.partition_point.result c.partition_point.ensures.bound point
