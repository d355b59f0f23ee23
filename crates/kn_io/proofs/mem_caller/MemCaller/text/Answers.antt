use Rattle.std.proofs.Common.{◌≡◌, ◌∙◌, ◌<◌, ◌≤◌, Some, ap, arith, length, subst, sym}
use Rattle.std.proofs.lemmas.Grind.{common_steps}
use Rattle.std.specs.Prelude.{slice_get}
use Rattle.kn_io.specs.MemCaller.{kept_of, texts}
use Rattle.kn_io.specs.Callers.{texts_of}
use Rattle.kn_io.proofs.Meetings.{length-texts, text_before, text_last}
use Rattle.kn_io.proofs.mem_caller.MemCaller.text.Goals as goal

pub returns-then-place-len : goal.returns-then-place-len
returns-then-place-len c =
    let met = c.self.inside.met.items in
    let held = c.self.inside.held.items in
    let inside : c.args.k < length met = grind (arith, common_steps) in
    let at = text_before met held c.args.k c.index.result.now inside in
    let same = c.bytes.ensures ∙ ap (λ t. t.text) c.index.ensures in
    subst (λ v. slice_get (texts v) c.args.k ≡ Some c.bytes.result.now) c.self.view_is (at ∙ ap Some (sym same))

pub returns-else-place-len : goal.returns-else-place-len
returns-else-place-len c =
    let met = c.self.inside.met.items in
    let held = c.self.inside.held.items in
    let few : c.args.k < length (texts_of (kept_of met) held) = subst (λ v. c.args.k < length (texts v)) (sym c.self.view_is) c.requires in
    let past : length met ≤ c.args.k = grind (arith, common_steps) in
    let last : c.args.k ≡ length met = omega (arith, few, past, length-texts met held) in
    let at : slice_get (texts_of (kept_of met) held) c.args.k ≡ Some held = ap (slice_get (texts_of (kept_of met) held)) last ∙ text_last met held in
    subst (λ v. slice_get (texts v) c.args.k ≡ Some c.deref.result.now) c.self.view_is (at ∙ ap Some (sym c.deref.ensures.value))
