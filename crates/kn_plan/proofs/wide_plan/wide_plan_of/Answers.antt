use Rattle.std.proofs.Common.{◌≡◌, Option, sym, subst}
use Rattle.std.specs.Prelude.{Err}
use Rattle.std.proofs.lemmas.Result.{err_from_is_err_and}
use Rattle.clap.specs.Walk.{Text}
use Rattle.kn_plan.specs.declared.plan_error.PlanError.TheVariants as error
use Rattle.kn_plan.specs.Plan.{AreGivenLists, IsGivenAddress, IsGivenNumber}
use Rattle.kn_plan.proofs.wide_plan.wide_plan_of.Goals as goal

pub returns-in_err-listen-clause-usage : goal.returns-in_err-listen-clause-usage
returns-in_err-listen-clause-usage c = λ e plan asks.
    let p = err_from_is_err_and c.from_residual-in_err-listen.result c.from_residual-in_err-listen.ensures.1 in
    let is : c.address.result ≡ Err error.Usage = cc (p.1, p.2, c.in_err-listen.was, e) in
    c.address.ensures.usage is plan.listen (subst (λ (o : Option Text). IsGivenAddress o plan.listen) (sym c.in_ok-given.ensures.listen) asks.listen)

pub returns-in_err-pods-clause-usage : goal.returns-in_err-pods-clause-usage
returns-in_err-pods-clause-usage c = λ e plan asks.
    let p = err_from_is_err_and c.from_residual-in_err-pods.result c.from_residual-in_err-pods.ensures.1 in
    let is : c.lists.result ≡ Err error.Usage = cc (p.1, p.2, c.in_err-pods.was, e) in
    c.lists.ensures.usage is plan.pods (subst (λ (o : Option Text). AreGivenLists o plan.pods) (sym c.in_ok-given.ensures.pods) asks.pods)

pub returns-in_err-slots-clause-usage : goal.returns-in_err-slots-clause-usage
returns-in_err-slots-clause-usage c = λ e plan asks.
    let p = err_from_is_err_and c.from_residual-in_err-slots.result c.from_residual-in_err-slots.ensures.1 in
    let is : c.number.result ≡ Err error.Usage = cc (p.1, p.2, c.in_err-slots.was, e) in
    c.number.ensures.usage is plan.slots (subst (λ (o : Option Text). IsGivenNumber o 1 64 plan.slots) (sym c.in_ok-given.ensures.slots) asks.slots)

pub returns-in_err-rounds-clause-usage : goal.returns-in_err-rounds-clause-usage
returns-in_err-rounds-clause-usage c = λ e plan asks.
    let p = err_from_is_err_and c.from_residual-in_err-rounds.result c.from_residual-in_err-rounds.ensures.1 in
    let is : c.number-2.result ≡ Err error.Usage = cc (p.1, p.2, c.in_err-rounds.was, e) in
    c.number-2.ensures.usage is plan.rounds (subst (λ (o : Option Text). IsGivenNumber o 1 10000 plan.rounds) (sym c.in_ok-given.ensures.rounds) asks.rounds)

pub returns-in_err-room-clause-usage : goal.returns-in_err-room-clause-usage
returns-in_err-room-clause-usage c = λ e plan asks.
    let p = err_from_is_err_and c.from_residual-in_err-room.result c.from_residual-in_err-room.ensures.1 in
    let is : c.number-3.result ≡ Err error.Usage = cc (p.1, p.2, c.in_err-room.was, e) in
    c.number-3.ensures.usage is plan.room (subst (λ (o : Option Text). IsGivenNumber o 1 1000000 plan.room) (sym c.in_ok-given.ensures.room) asks.room)
