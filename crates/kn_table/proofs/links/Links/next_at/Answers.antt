-- Nothing of the chain is passed over.
use Rattle.std.proofs.Common.{◌<◌, ◌≤◌, ℕ, arith, subst, sym}
use Rattle.kn_table.specs.Links.{IsIn}
use Rattle.kn_record.specs.Admission.{is_at}
use Rattle.kn_table.specs.Slots.{is_placed}
use Rattle.kn_table.proofs.Chains.{first_after, first_within}
use Rattle.kn_table.proofs.Firsts.{first_beyond, first_is}
use Rattle.kn_table.proofs.links.Links.next_at.Goals as goal

pub returns-then-is_placed : goal.returns-then-is_placed
returns-then-is_placed c = first_is (is_placed (is_at c.args.p)) c.args.slots.now c.loop-place.place _ c.loop-place.invariant c.loop-place-test.true (sym c.if-is_placed.ensures)

pub loop-place-preserved : goal.loop-place-preserved
loop-place-preserved c =
    let beyond = first_beyond (is_placed (is_at c.args.p)) c.args.slots.now c.loop-place.place _ c.loop-place.invariant c.loop-place-test.true (sym c.if-is_placed.ensures) in
    first_after c.args.p c.behind-place.result c.loop-place.place c.args.slots.now c.behind-place.ensures.within (subst (λ (k : ℕ). (j : ℕ) → IsIn k c.args.slots.now j → c.loop-place.place < j → c.behind-place.result ≤ j) c.chain_of-chain.ensures c.behind-place.ensures.none) (omega (arith, beyond))

pub returns : goal.returns
returns c = omega (arith, first_within c.args.p c.args.slots.now, c.loop-place.invariant, c.loop-place-test.false)
