-- It is the first of its chain, or comes behind the last.
use Rattle.std.proofs.Common.{◌-◌, ◌<◌, ℕ, length, get_or, subst, sym, arith}
use Rattle.kn_table.specs.Links.{AreLinked, Chains, Puts}
use Rattle.kn_table.proofs.Chains.{put_behind, put_first}
use Rattle.kn_table.proofs.links.Links.link.Goals as goal
use Rattle.kn_table.proofs.links.Links.link.Goals.{then-end-eq0, else-end-eq0}

pub returns : goal.returns
returns c xs ys linked puts =
    let b = c.chain_of-chain.result in
    let at = c.args.place in
    let was = subst (λ (l : Chains). AreLinked l xs) (sym c.self.view_is) linked in
    let comes = subst (λ (k : ℕ). Puts k at xs ys) (sym c.chain_of-chain.ensures) puts in
    let low : b < 1024 = omega (arith, c.chain_of-chain.ensures) in
    let long : b < length c.self.inside.ends = omega (arith, c.chain_of-chain.ensures, c.self.told.1) in
    elim c.if-end-eq0.branch [
      | then-end-eq0 w ↦ rw w.self-inside-is (put_first _ xs ys b at low long was comes (omega (arith, c.chain_of-chain.ensures, c.self.told.0)) w.if-end-eq0.true)
      | else-end-eq0 w ↦
          let e = get_or c.self.inside.ends b 0 - 1 in
          rw w.self-inside-is (put_behind _ xs ys b at low long was comes e (omega (arith, c.self.invariant.full, c.requires, c.if-end-place.false)) (omega (arith, w.if-end-eq0.false)) (omega (arith, w.if-end-eq0.false, c.if-end-place.false)))
    ]
