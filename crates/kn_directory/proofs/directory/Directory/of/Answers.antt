use Rattle.std.proofs.Common.{◌≡◌, ◌+◌, ◌++◌, ◌∷◌, [], take, length, length-take-le, ◌∙◌, sym, ap, subst, arith}
use Rattle.std.proofs.lemmas.List.{take_more}
use Rattle.kn_directory.specs.Places.{Finds, with_place}
use Rattle.kn_directory.proofs.PlaceFacts.{finds_more}
use Rattle.kn_directory.proofs.directory.Directory.of.Goals as goal

pub loop-v-preserved : goal.loop-v-preserved
loop-v-preserved c =
    let specs = c.args.specs.now in
    let v = c.loop-v.v in
    let s = c.index-specs-v.result in
    let n : length (take v specs) ≡ v = length-take-le v specs (omega (arith, c.loop-v-test.true)) in
    let grown = finds_more c.loop-v.made (take v specs) s c.loop-v.invariant in
    let cut : take (v + 1) specs ≡ take v specs ++ s ∷ [] = take_more specs v s c.loop-v-test.true ∙ ap (λ x. take v specs ++ x ∷ []) (sym c.index-specs-v.is) in
    let a : c.bytes.result.now ≡ s.namespace = cc in
    let b : c.bytes-in-loop-v.result.now ≡ s.name = cc in
    let entered : c.enter.new.self ≡ with_place c.loop-v.made s.namespace s.name (length (take v specs)) =
    c.in_ok-enter.ensures ∙ (λ i. with_place c.loop-v.made (a i) (b i) (sym n i)) in
    subst (λ l. Finds c.enter.new.self l) (sym cut) (subst (λ d. Finds d (take v specs ++ s ∷ [])) (sym entered) grown)
