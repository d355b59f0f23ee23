use Rattle.std.proofs.Common.{◌≡◌, sym, subst, ap, ◌∙◌, ◌+◌, length, arith}
use Rattle.kn_window.specs.Stands.{Holds}
use Rattle.kn_window.proofs.Rings.{holds_push, length_kept}
use Rattle.kn_window.proofs.totals.Totals.push_all.Goals as goal

pub loop-preserved : goal.loop-preserved
loop-preserved c =
    let i = c.loop.counter in
    let old = c.loop.self in
    let next = c.push.new.self in
    let at = c.args.self.now.end + i in
    record {
      holds = λ before r same.
          let pushed = holds_push old.ring.capacity old.ring.items before at old.total c.args.load (c.loop.invariant.holds before r same) (same at (omega arith) (omega (arith, c.loop-test.true))) in
          let items = subst (λ ys. Holds ys (old.total + c.args.load) before (at + 1)) (sym c.push.ensures.items) pushed in
          let whole = subst (λ t. Holds next.ring.items t before (at + 1)) (sym c.push.ensures.total) items in
          subst (Holds next.ring.items next.total before) (let e : at + 1 ≡ c.args.self.now.end + (i + 1) = omega arith in e) whole;
      length = let e = ap length c.push.ensures.items in omega (arith, e, length_kept old.ring.capacity old.ring.items old.total, c.loop.invariant.length, c.loop.invariant.capacity);
      end = omega arith;
      capacity = c.push.ensures.capacity ∙ c.loop.invariant.capacity;
    }
