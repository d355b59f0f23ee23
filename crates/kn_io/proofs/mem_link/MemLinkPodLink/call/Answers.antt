use Rattle.std.proofs.Common.{◌≡◌, ◌⊎◌, [], refl, subst, sym}
use Rattle.std.specs.Prelude.{IsNone}
use Rattle.kn_io.specs.Memory.{FailsNext}
use Rattle.kn_io.proofs.mem_link.MemLinkPodLink.call.Goals as goal

pub returns-in-None-clause-fails : goal.returns-in-None-clause-fails
returns-in-None-clause-fails c =
    let none = subst (λ r. IsNone r) (sym c.in-None.is) refl in
    let why = subst (λ v. FailsNext v.plan ⊎ (v.replies ≡ [])) c.self.view_is (c.take-reply.ensures.none.0 none) in
    (λ _. why, λ _. refl)
