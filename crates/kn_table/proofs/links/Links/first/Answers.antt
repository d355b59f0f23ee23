-- A chain without slots has none at the pod, and its first is no later than any.
use Rattle.std.proofs.Common.{◌∙◌, ap, get_or, subst, sym}
use Rattle.kn_table.specs.Links.{AreLinked, Chains}
use Rattle.kn_table.proofs.Chains.{first_none, first_some}
use Rattle.kn_table.proofs.links.Links.first.Goals as goal

pub returns-then-self-chain-eq0 : goal.returns-then-self-chain-eq0
returns-then-self-chain-eq0 c =
    let xs = c.args.slots.now in
    let linked = subst (λ (l : Chains). AreLinked l xs) (sym c.self.view_is) c.requires in
    first_none _ c.args.p xs linked c.if-not-self.false (ap (λ k. get_or c.self.inside.ends k 0) (sym c.chain_of-chain.ensures) ∙ c.if-self-chain-eq0.true)

pub returns : goal.returns
returns c =
    let xs = c.args.slots.now in
    let linked = subst (λ (l : Chains). AreLinked l xs) (sym c.self.view_is) c.requires in
    rw c.chain_of-chain.ensures (first_some _ c.args.p xs linked c.if-not-self.false
    (λ none. c.if-self-chain-eq0.false (ap (λ k. get_or c.self.inside.ends k 0) c.chain_of-chain.ensures ∙ none)))
