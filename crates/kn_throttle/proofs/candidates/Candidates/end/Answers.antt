use Rattle.std.proofs.Common.{◌≡◌, ◌∙◌, ap, sym, get_or, set, rules}
use Rattle.kn_trace.specs.declared.candidate.Cand.{Cand}
use Rattle.kn_throttle.specs.Candidates.{ended}
use Rattle.kn_throttle.proofs.Places.{changed-at, unchanged}
use Rattle.kn_throttle.proofs.candidates.Candidates.end.Goals as goal

pub returns-in-Some : goal.returns-in-Some
returns-in-Some c =
    let x = c.index-cand.result.now in
    let same : c.deref.result.now ≡ c.args.self.now = search rules in
    let read : x ≡ get_or c.args.self.now c.in-Some.i x = search rules in
    let moved = changed-at (λ (k : Cand). k.pod) c.args.p ended c.args.self.now c.in-Some.i x c.requires (rw same at c.in-Some.ensures.inside) (rw same at (c.in-Some.ensures.there x)) in
    (rw c.saturating_sub.ensures at c.replace.ensures) ∙ ap (λ (k : Cand). set c.args.self.now c.in-Some.i (ended k)) read ∙ sym moved

pub returns-in_default : goal.returns-in_default
returns-in_default c =
    let same : c.deref.result.now ≡ c.args.self.now = search rules in
    sym (unchanged (λ (k : Cand). k.pod) c.args.p ended c.args.self.now (rw same at c.in_default.ensures.none))
