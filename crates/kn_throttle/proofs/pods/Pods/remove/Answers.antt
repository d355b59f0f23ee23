use Rattle.std.proofs.Common.{◌≡◌, ◌∙◌, sym, rules}
use Rattle.kn_record.specs.declared.admission.Pod.{Pod}
use Rattle.kn_throttle.proofs.Places.{others-at, others-flipped, others-none}
use Rattle.kn_throttle.proofs.pods.Pods.remove.Goals as goal

pub returns-in-Some : goal.returns-in-Some
returns-in-Some c =
    let d = c.remove.result in
    let same : c.deref.result.now ≡ c.args.self.now = search rules in
    let gone = others-at (λ (q : Pod). q.number) c.args.p c.args.self.now c.in-Some.i d c.requires (rw same at c.in-Some.ensures.inside) (rw same at (c.in-Some.ensures.there d)) in
    rw (c.remove.ensures.items, c.self.view_is) (sym (others-flipped (λ (q : Pod). q.number) c.args.p c.args.self.now ∙ gone))

pub returns-in_default : goal.returns-in_default
returns-in_default c =
    let same : c.deref.result.now ≡ c.args.self.now = search rules in
    sym (others-flipped (λ (q : Pod). q.number) c.args.p c.args.self.now ∙ others-none (λ (q : Pod). q.number) c.args.p c.args.self.now (rw same at c.in_default.ensures.none))
