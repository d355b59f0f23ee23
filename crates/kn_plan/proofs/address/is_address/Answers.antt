use Rattle.std.proofs.Common.{Bool, sym, ap, ◌∙◌, subst}
use Rattle.std.specs.Prelude.{MatchBool}
use Rattle.kn_plan.specs.Plan.{IsAddress, is_host, is_port}
use Rattle.kn_plan.proofs.Parted.{parted, no_host, by_port, not_parted}
use Rattle.kn_plan.proofs.address.is_address.Goals as goal

pub returns-then-is_host : goal.returns-then-is_host
returns-then-is_host c =
    let w = c.in-Some.ensures.cases in
    let is = parted c.args.text.now c.in-Some.host.now c.in-Some.port.now w.0 w.1 w.2 w.3 w.4 in
    by_port _ c.args.text.now c.in-Some.host.now c.in-Some.port.now is
    (ap is_host (sym c.as_bytes.ensures.value) ∙ sym c.is_host.ensures ∙ c.if-is_host.true)
    (c.is_port.ensures ∙ ap is_port c.as_bytes-then-is_host.ensures.value)

pub returns-else-is_host : goal.returns-else-is_host
returns-else-is_host c =
    let w = c.in-Some.ensures.cases in
    let is = parted c.args.text.now c.in-Some.host.now c.in-Some.port.now w.0 w.1 w.2 w.3 w.4 in
    subst (λ (b : Bool). MatchBool b (IsAddress c.args.text.now) (IsAddress c.args.text.now → ⊥)) (sym c.if-is_host.false)
    (no_host c.args.text.now c.in-Some.host.now c.in-Some.port.now is
    (ap is_host (sym c.as_bytes.ensures.value) ∙ sym c.is_host.ensures ∙ c.if-is_host.false))

pub returns-in-None : goal.returns-in-None
returns-in-None c = not_parted c.args.text.now c.in-None.ensures.cases
