use Rattle.std.proofs.Common.{◌≤◌, ◌∙◌, List, length, refl, sym, subst}
use Rattle.kn_event.specs.declared.revision.Spec.{Spec}
use Rattle.kn_trace.specs.Settling.{settling}
use Rattle.kn_record.specs.declared.admission.Pod.{Pod}
use Rattle.kn_record.specs.Walks.{BeginsWith}
use Rattle.kn_throttle.specs.Rows.{dispatch_row}
use Rattle.kn_core.specs.State.{PartsState}
use Rattle.kn_core.proofs.Ends.{nobody_by, nobody_yet, pods_by}
use Rattle.kn_core.proofs.Usual.{Begins, dispatch_adds, dispatch_comes, dispatch_live, dispatch_scale, dispatch_some}
use Rattle.kn_core.proofs.parts.Parts.dispatch.Goals as goal

pub dispatched-requires : goal.dispatched-requires
dispatched-requires c =
    let t = c.args.time in
    let d = c.in-Some.dispatch in
    let x : PartsState = record { throttle = c.self.inside.throttle; pods = c.self.inside.pods; scaler = c.self.inside.scaler } in
    let begins : Begins t d x = λ s e h. subst (λ (z : Spec). BeginsWith (settling z t) t (dispatch_row d) x.throttle.admission e) h.spec (c.in-Some.ensures.begins e t h.admission) in
    dispatch_some x t d begins (rw (← c.self.view_is) at c.requires.some)

pub returns-in-Some-clause-stands : goal.returns-in-Some-clause-stands
returns-in-Some-clause-stands c =
    let t = c.args.time in
    let d = c.in-Some.dispatch in
    let x : PartsState = record { throttle = c.self.inside.throttle; pods = c.self.inside.pods; scaler = c.self.inside.scaler } in
    let y : PartsState = record { throttle = c.dispatch_next-next.new.self; pods = c.self.inside.pods; scaler = c.dispatched.new.scaler } in
    let begins : Begins t d x = λ s e h. subst (λ (z : Spec). BeginsWith (settling z t) t (dispatch_row d) x.throttle.admission e) h.spec (c.in-Some.ensures.begins e t h.admission) in
    rw (← c.self.view_is)
    (dispatch_adds c.row_laws.ensures.made c.row_laws.ensures.stands t d x y begins (c.in-Some.ensures.after t) refl
    (λ s e next. c.dispatched.ensures.stands s e t (rw (← c.self.view_is) at c.requires.measured) (dispatch_scale d) next))

pub returns-in-Some-clause-few : goal.returns-in-Some-clause-few
returns-in-Some-clause-few c =
    let d = c.in-Some.dispatch in
    let same = pods_by c.args.time (dispatch_row d) c.self.inside.throttle c.dispatch_next-next.new.self (c.in-Some.ensures.after c.args.time) ∙ dispatch_live d c.self.inside.throttle.admission.pods in
    subst (λ (all : List Pod). length all ≤ 20500) (sym same) (rw (← c.self.view_is) at c.requires.few)

pub returns-in-Some-clause-nobody : goal.returns-in-Some-clause-nobody
returns-in-Some-clause-nobody c =
    let d = c.in-Some.dispatch in
    let x = c.self.inside.throttle in
    rw (← c.self.view_is) (nobody_by c.time_laws.ensures.step c.args.time (dispatch_row d) x x c.dispatch_next-next.new.self (dispatch_comes d) (nobody_yet c.args.time x) (c.in-Some.ensures.after c.args.time))

pub returns-in-Some-clause-measured : goal.returns-in-Some-clause-measured
returns-in-Some-clause-measured c = c.dispatched.ensures.measured c.args.time (rw (← c.self.view_is) at c.requires.measured)
