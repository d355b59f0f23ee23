use Rattle.std.proofs.Common.{◌≡◌, ◌-◌, ◌++◌, arith, sym, ap, ◌∙◌, subst, take}
use Rattle.kn_event.specs.declared.revision.Spec.{Spec}
use Rattle.kn_trace.specs.Scale.{scale_rows}
use Rattle.kn_trace.specs.Trace.{Trace}
use Rattle.kn_record.specs.Made.{IsMade}
use Rattle.kn_pods.specs.Pods.{ArePodsOf, after_rows, creations, drain_order_of, drains, rows_of_scale}
use Rattle.kn_pods.proofs.Steps.{rows_created, rows_drained, scale-creates, scale-drains}
use Rattle.kn_pods.proofs.pods.Pods.apply.Goals as goal

created_rows : (c : goal.After-create) (s : Spec) (d : Trace) → ArePodsOf c.args.self.now d → s.cc ≡ c.args.limit
    → creations c.args.limit c.args.time c.args.self.now.created (c.args.want - c.standing-standing.result) ≡ scale_rows s c.args.time d c.args.want
created_rows c s d stands e =
    rw c.standing-standing.ensures.count
    (sym (rows_created s c.args.time c.args.limit c.args.want c.args.self.now d stands e (let lt = c.if-standing-want.true in let n = c.standing-standing.ensures.count in omega arith)))

created_now : (c : goal.After-create) → creations c.args.limit c.args.time c.args.self.now.created (c.args.want - c.standing-standing.result) ≡ rows_of_scale c.args.want c.args.limit c.args.time c.args.self.now
created_now c = sym (scale-creates c.args.want c.args.limit c.args.time c.standing-standing.result c.args.self.now c.standing-standing.ensures.count c.if-standing-want.true)

pub returns-then-standing-want-clause-rows : goal.returns-then-standing-want-clause-rows
returns-then-standing-want-clause-rows c = c.create.ensures.logged ∙ ap (λ es. c.args.log.now ++ es) (created_now c)

pub returns-then-standing-want-clause-changed : goal.returns-then-standing-want-clause-changed
returns-then-standing-want-clause-changed c = c.create.ensures.changed ∙ ap (λ es. after_rows es c.args.self.now) (created_now c)

pub returns-then-standing-want-clause-logged : goal.returns-then-standing-want-clause-logged
returns-then-standing-want-clause-logged c = λ s d made stands e. c.create.ensures.logged ∙ ap (λ es. c.args.log.now ++ es) (created_rows c s d stands e)

pub returns-then-standing-want-clause-made : goal.returns-then-standing-want-clause-made
returns-then-standing-want-clause-made c = λ s d made stands e. subst (λ es. IsMade s (d ++ es)) (created_rows c s d stands e) (c.create.ensures.goes s d made stands).0

pub returns-then-standing-want-clause-stands : goal.returns-then-standing-want-clause-stands
returns-then-standing-want-clause-stands c = λ s d made stands e. subst (λ es. ArePodsOf c.create.new.self (d ++ es)) (created_rows c s d stands e) (c.create.ensures.goes s d made stands).1

drained_rows : (c : goal.After-drain) (s : Spec) (d : Trace) → ArePodsOf c.args.self.now d
    → drains c.args.time (take (c.standing-standing.result - c.args.want) (drain_order_of c.args.self.now)) ≡ scale_rows s c.args.time d c.args.want
drained_rows c s d stands =
    rw c.standing-standing.ensures.count
    (sym (rows_drained s c.args.time c.args.want c.args.self.now d stands (let le = c.if-standing-want.false in let n = c.standing-standing.ensures.count in omega arith)))

drained_now : (c : goal.After-drain) → drains c.args.time (take (c.standing-standing.result - c.args.want) (drain_order_of c.args.self.now)) ≡ rows_of_scale c.args.want c.args.limit c.args.time c.args.self.now
drained_now c = sym (scale-drains c.args.want c.args.limit c.args.time c.standing-standing.result c.args.self.now c.standing-standing.ensures.count c.if-standing-want.false)

pub returns-else-standing-want-clause-rows : goal.returns-else-standing-want-clause-rows
returns-else-standing-want-clause-rows c = c.drain.ensures.logged ∙ ap (λ es. c.args.log.now ++ es) (drained_now c)

pub returns-else-standing-want-clause-changed : goal.returns-else-standing-want-clause-changed
returns-else-standing-want-clause-changed c = c.drain.ensures.changed ∙ ap (λ es. after_rows es c.args.self.now) (drained_now c)

pub returns-else-standing-want-clause-logged : goal.returns-else-standing-want-clause-logged
returns-else-standing-want-clause-logged c = λ s d made stands e. c.drain.ensures.logged ∙ ap (λ es. c.args.log.now ++ es) (drained_rows c s d stands)

pub returns-else-standing-want-clause-made : goal.returns-else-standing-want-clause-made
returns-else-standing-want-clause-made c = λ s d made stands e. subst (λ es. IsMade s (d ++ es)) (drained_rows c s d stands) (c.drain.ensures.goes s d made stands).0

pub returns-else-standing-want-clause-stands : goal.returns-else-standing-want-clause-stands
returns-else-standing-want-clause-stands c = λ s d made stands e. subst (λ es. ArePodsOf c.drain.new.self (d ++ es)) (drained_rows c s d stands) (c.drain.ensures.goes s d made stands).1
