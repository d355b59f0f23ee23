use Rattle.std.proofs.Common.{◌≡◌, ◌-◌, drop, length, take, sym, subst, ◌∙◌, List, ℕ, arith}
use Rattle.std.specs.Prelude.{false, nat_eq}
use Rattle.std.specs.List.{starts_with}
use Rattle.std.proofs.lemmas.Grind.{common_steps}
use Rattle.kn_show_settings.proofs.Places.{place_more}
use Rattle.kn_show_settings.proofs.blocks.place_of.Goals as goal

all_of : (text : List ℕ) (i : ℕ) → take (length text - i) (drop i text) ≡ drop i text
all_of text i = grind (arith, common_steps)

pub loop-i-preserved : goal.loop-i-preserved
loop-i-preserved c =
    let is = subst (λ (x : List ℕ). starts_with nat_eq x c.args.word.now ≡ false) (all_of c.args.text.now c.loop-i.i) (sym c.starts_with.ensures.value ∙ c.if-starts_with.false) in
    let more = place_more c.args.word.now c.args.text.now c.loop-i.i c.loop-i-test.true is in
    omega (arith, c.loop-i.invariant, more)
