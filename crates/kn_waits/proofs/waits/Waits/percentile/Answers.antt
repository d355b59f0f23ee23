use Rattle.std.proofs.Common.{◌≡◌, ◌∙◌, ◌<◌, ℕ, List, length, get_or, subst, sym, arith, below_more}
use Rattle.std.specs.Prelude.{◌==◌}
use Rattle.std.specs.List.{count_by}
use Rattle.kn_waits.specs.Waits.{AreWaits, WaitsState, count_up_to}
use Rattle.kn_waits.proofs.Counting.{all_below, below_next, below_zero, enough_below, enough_is, not_enough_is, percentile_is, percentile_none, waited_next}
use Rattle.kn_waits.proofs.waits.Waits.percentile.Goals as goal

pub returns-then-self-eq0 : goal.returns-then-self-eq0
returns-then-self-eq0 c ws are =
    let held = subst (λ (v : WaitsState). AreWaits v ws) (sym c.self.view_is) are in
    sym (percentile_none c.args.q c.args.n ws (omega (arith, held.ran, c.if-self-eq0.true)))

pub loop-w-init : goal.loop-w-init
loop-w-init c = record { waited = λ ws are. sym (below_zero ws); before = λ ws are v h. absurd (omega arith) }

pub loop-w-preserved : goal.loop-w-preserved
loop-w-preserved c =
    let w = c.loop-w.w in
    let made = c.made-made.result.now in
    let held = λ (ws : List ℕ) (are : AreWaits c.args.self.now ws). subst (λ (v : WaitsState). AreWaits v ws) (sym c.self.view_is) are in
    let inside : w < length made = omega arith in
    let waited = λ (ws : List ℕ) (are : AreWaits c.args.self.now ws).
    let here : get_or made w 0 ≡ count_by (λ v. v == w) ws = sym (c.made-made.ensures.same w inside) ∙ (held ws are).each w (omega (arith, c.made-made.ensures.short)) in
    let next = waited_next ws w c.loop-w.waited (get_or made w 0) (held ws are).few here (c.loop-w.invariant.waited ws are) in
    let is : c.saturating_add-waited.result ≡ count_up_to w ws = omega (arith, next.0, next.1, c.saturating_add-waited.ensures) in is in
    record {
      waited = λ ws are. waited ws are ∙ sym (below_next w ws);
      before = λ ws are. below_more _ w (c.loop-w.invariant.before ws are) (not_enough_is c.args.q c.args.n ws w
          (rw (c.from-in-loop-w.ensures, c.from-in-loop-w-2.ensures, waited ws are, c.from.ensures, c.from-2.ensures, (held ws are).ran) at c.if-wanted-from.false));
    }

pub returns-then-wanted-from : goal.returns-then-wanted-from
returns-then-wanted-from c ws are =
    let w = c.loop-w.w in
    let made = c.made-made.result.now in
    let held = subst (λ (v : WaitsState). AreWaits v ws) (sym c.self.view_is) are in
    let inside : w < length made = omega arith in
    let here : get_or made w 0 ≡ count_by (λ v. v == w) ws = sym (c.made-made.ensures.same w inside) ∙ held.each w (omega (arith, c.made-made.ensures.short)) in
    let next = waited_next ws w c.loop-w.waited (get_or made w 0) held.few here (c.loop-w.invariant.waited ws are) in
    let waited : c.saturating_add-waited.result ≡ count_up_to w ws = omega (arith, next.0, next.1, c.saturating_add-waited.ensures) in
    let enough = rw (c.from-in-loop-w.ensures, c.from-in-loop-w-2.ensures, waited, c.from.ensures, c.from-2.ensures, held.ran) at c.if-wanted-from.true in
    sym (percentile_is c.args.q c.args.n ws w c.requires (omega (arith, held.ran)) (enough_is c.args.q c.args.n ws w enough) (c.loop-w.invariant.before ws are))

pub returns : goal.returns
returns c ws are =
    let made = c.made-made.result.now in
    let held = subst (λ (v : WaitsState). AreWaits v ws) (sym c.self.view_is) are in
    let all = all_below _ ws (length made) held c.made-made.ensures.zeros in
    absurd (enough_below c.args.q c.args.n (length made) ws c.requires (omega (arith, held.ran)) all (λ v h. c.loop-w.invariant.before ws are v (omega arith)))
