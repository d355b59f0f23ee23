use Rattle.std.proofs.Common.{◌≡◌, ◌∙◌, ap, sym, get_or, set, rules}
use Rattle.std.proofs.lemmas.List.{get_or_default}
use Rattle.kn_trace.specs.declared.candidate.Cand.{Cand}
use Rattle.kn_throttle.specs.Candidates.{begun}
use Rattle.kn_throttle.proofs.Places.{changed-at}
use Rattle.kn_throttle.proofs.candidates.Candidates.begin_at.Goals as goal

pub returns-clause-pod : goal.returns-clause-pod
returns-clause-pod c = λ d.
    let x = c.index-cand.result.now in
    let read : x ≡ get_or c.args.self.now c.args.place x = search rules in
    sym (ap (λ (k : Cand). k.pod) (read ∙ get_or_default c.args.self.now c.args.place x d c.requires.inside))

pub returns-clause-begun : goal.returns-clause-begun
returns-clause-begun c =
    let x = c.index-cand.result.now in
    let read : x ≡ get_or c.args.self.now c.args.place x = search rules in
    let moved = changed-at (λ (k : Cand). k.pod) x.pod begun c.args.self.now c.args.place x c.requires.order c.requires.inside (ap (λ (k : Cand). k.pod) (sym read)) in
    c.replace.ensures ∙ ap (λ (k : Cand). set c.args.self.now c.args.place (begun k)) read ∙ sym moved
