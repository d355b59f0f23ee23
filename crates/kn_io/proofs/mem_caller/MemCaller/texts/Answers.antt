use Rattle.std.proofs.Common.{◌≡◌, ◌+◌, arith, length, subst}
use Rattle.std.proofs.lemmas.Grind.{common_steps}
use Rattle.kn_io.specs.Callers.{texts_of}
use Rattle.kn_io.specs.MemCaller.{kept_of, texts}
use Rattle.kn_io.proofs.Meetings.{length-texts}
use Rattle.kn_io.proofs.mem_caller.MemCaller.texts.Goals as goal

pub returns : goal.returns
returns c =
    let met = c.self.inside.met.items in
    let held = c.self.inside.held.items in
    let long : c.len.result ≡ length met = grind (arith, common_steps) in
    let many : c.len.result + 1 ≡ length (texts_of (kept_of met) held) = omega (arith, long, length-texts met held) in
    subst (λ v. c.len.result + 1 ≡ length (texts v)) c.self.view_is many
