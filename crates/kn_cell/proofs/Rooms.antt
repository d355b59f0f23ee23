-- There is a trace that the revision stands for, so what the step says of each such trace is so.
use Rattle.std.proofs.Common.{ℕ, ◌≡◌, ◌≤◌, ◌+◌, arith}
use Rattle.std.proofs.Math.Logic.{∥∥₁_elim}
use Rattle.std.proofs.Math.Bridge.{le_prop}
use Rattle.kn_event.specs.declared.event.Act.{Act}
use Rattle.kn_core.specs.State.{RevisionState, StandsFor, StandsForSome}
use Rattle.kn_trace.specs.Events.{need_of}
use Rattle.kn_trace.specs.Trace.{Trace}
use Rattle.kn_core.specs.Gauges.{count_live}
use Rattle.kn_cell.specs.State.{live_in}

pub room_left : (r : RevisionState) (act : Act) (live left : ℕ) → StandsForSome r
    → ((c : Trace) → StandsFor r c → need_of c act ≤ left) → ((c : Trace) → StandsFor r c → live + 1 ≤ live_in r + need_of c act) → live + 1 ≤ live_in r + left
room_left r act live left some fits within = ∥∥₁_elim some le_prop (λ p. let e = fits p.0 p.1 in let h = within p.0 p.1 in omega arith)

pub none_live : (r : RevisionState) (live : ℕ) → StandsForSome r → ((c : Trace) → StandsFor r c → live ≡ count_live c) → ((c : Trace) → StandsFor r c → count_live c ≡ 0) → live ≤ 0
none_live r live some is none = ∥∥₁_elim some le_prop (λ p. let e = is p.0 p.1 in let h = none p.0 p.1 in omega arith)
