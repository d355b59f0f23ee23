use Rattle.std.proofs.Common.{◌≡◌, ◌<◌, ◌∙◌, length, get_or, List, ap, refl}
use Rattle.kn_record.specs.declared.admission.Pod.{Pod}
use Rattle.kn_record.specs.Admission.{is_draining_now}
use Rattle.kn_throttle.proofs.Places.{found-at, found-none}
use Rattle.kn_throttle.proofs.pods.Pods.is_draining.Goals as goal

pub returns-in-None : goal.returns-in-None
returns-in-None c =
    let same : c.deref.result.now ≡ c.args.self.now = c.deref.ensures.value ∙ c.self.view_is in
    let none = found-none (λ (q : Pod). q.number) c.args.p c.args.self.now (rw same at c.in-None.ensures.none) in
    rw none refl

pub returns-in-Some : goal.returns-in-Some
returns-in-Some c =
    let pod = c.index.result.now in
    let same : c.deref.result.now ≡ c.args.self.now = c.deref.ensures.value ∙ c.self.view_is in
    let inside : c.in-Some.i < length c.args.self.now = rw same at c.in-Some.ensures.inside in
    let here : pod ≡ get_or c.args.self.now c.in-Some.i pod = c.index.ensures ∙ ap (λ (l : List Pod). get_or l c.in-Some.i pod) c.self.view_is in
    let found = found-at (λ (q : Pod). q.number) c.args.p c.args.self.now c.in-Some.i pod c.requires inside (rw same at (c.in-Some.ensures.there pod)) in
    rw found (c.is_draining.ensures ∙ ap (λ (q : Pod). is_draining_now q.readiness) here)
