use Rattle.std.proofs.Common.{◌≡◌, ◌∙◌, ap, sym, get_or, set, rules}
use Rattle.kn_record.specs.declared.admission.Pod.{Pod}
use Rattle.kn_throttle.proofs.Places.{changed-at, changed-flipped, unchanged}
use Rattle.kn_throttle.proofs.pods.Pods.set_limit.Goals as goal

pub returns-in-Some : goal.returns-in-Some
returns-in-Some c =
    let change : Pod → Pod = λ q. record q { limit = c.args.n } in
    let q = c.index_mut.result.now in
    let same : c.deref.result.now ≡ c.args.self.now = search rules in
    let read : q ≡ get_or c.args.self.now c.in-Some.i q = search rules in
    let moved = changed-at (λ (q : Pod). q.number) c.args.p change c.args.self.now c.in-Some.i q c.requires (rw same at c.in-Some.ensures.inside) (rw same at (c.in-Some.ensures.there q)) in
    rw c.self.view_is (ap (λ (q : Pod). set c.args.self.now c.in-Some.i (change q)) read ∙ sym moved ∙ sym (changed-flipped (λ (q : Pod). q.number) c.args.p change c.args.self.now))

pub returns-in_default : goal.returns-in_default
returns-in_default c =
    let change : Pod → Pod = λ q. record q { limit = c.args.n } in
    let same : c.deref.result.now ≡ c.args.self.now = search rules in
    sym (changed-flipped (λ (q : Pod). q.number) c.args.p change c.args.self.now ∙ unchanged (λ (q : Pod). q.number) c.args.p change c.args.self.now (rw same at c.in_default.ensures.none))
