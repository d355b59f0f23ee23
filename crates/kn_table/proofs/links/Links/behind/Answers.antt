-- Behind the last of a chain there is none, and behind another one none before the next.
use Rattle.std.proofs.Common.{◌∙◌, subst, sym, arith}
use Rattle.std.proofs.lemmas.List.{get_or_default}
use Rattle.kn_table.specs.Links.{AreLinked, Chains}
use Rattle.kn_table.proofs.Chains.{is_here, last_behind, next_behind, next_within}
use Rattle.kn_table.proofs.links.Links.behind.Goals as goal

pub returns-then-self-chain-clause-none : goal.returns-then-self-chain-clause-none
returns-then-self-chain-clause-none c =
    let xs = c.args.slots.now in
    let linked = subst (λ (l : Chains). AreLinked l xs) (sym c.self.view_is) c.requires.linked in
    last_behind _ c.args.chain c.args.place xs c.requires.chain linked c.if-not-self.false c.if-self-chain.true

pub returns-clause-within : goal.returns-clause-within
returns-clause-within c =
    let xs = c.args.slots.now in
    let linked = subst (λ (l : Chains). AreLinked l xs) (sym c.self.view_is) c.requires.linked in
    let here = is_here c.args.chain c.args.place xs _ c.requires.inside (sym c.is_in.ensures ∙ c.if-not-is_in.false) in
    let within = next_within _ c.args.chain c.args.place xs c.requires.chain linked c.if-not-self.false here c.if-self-chain.false in
    let read = c.index.ensures ∙ get_or_default c.self.inside.nexts.items c.args.place _ 0 (omega (arith, c.self.invariant.full, c.requires.inside, c.requires.few)) in
    omega (arith, within, read, c.max.ensures, c.requires.inside)

pub returns-clause-none : goal.returns-clause-none
returns-clause-none c j h behind =
    let xs = c.args.slots.now in
    let linked = subst (λ (l : Chains). AreLinked l xs) (sym c.self.view_is) c.requires.linked in
    let here = is_here c.args.chain c.args.place xs _ c.requires.inside (sym c.is_in.ensures ∙ c.if-not-is_in.false) in
    let next = next_behind _ c.args.chain c.args.place xs c.requires.chain linked c.if-not-self.false here j h behind in
    let read = c.index.ensures ∙ get_or_default c.self.inside.nexts.items c.args.place _ 0 (omega (arith, c.self.invariant.full, c.requires.inside, c.requires.few)) in
    omega (arith, next, read, c.max.ensures, behind)
