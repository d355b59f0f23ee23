use Rattle.std.proofs.Common.{◌≡◌, refl, true, false, rules, sym, subst, ◌∙◌}
use Rattle.kn_core.specs.State.{ArePartsOf, ArePartsOfSome, PartsState}
use Rattle.kn_core.proofs.Acts.{limit_row}
use Rattle.kn_core.proofs.Live.{live_there}
use Rattle.kn_core.proofs.parts.Parts.limit.Goals as goal

pub set_limit-requires-clause-there : goal.set_limit-requires-clause-there
set_limit-requires-clause-there c =
    let live : c.live.result ≡ true = search rules in
    sym (live_there c.append_laws.ensures.views _ (subst ArePartsOfSome (sym c.self.view_is) c.requires.some) c.args.p c.live.result c.live.ensures.trace) ∙ live

pub returns-then-live-clause-row : goal.returns-then-live-clause-row
returns-then-live-clause-row c = λ s d h.
    let k = subst (λ (x : PartsState). ArePartsOf s x d) (sym c.self.view_is) h in
    let live : c.live.result ≡ true = search rules in
    limit_row s d c.args.p c.args.n true (sym live ∙ c.live.ensures.trace s d k.made k.pods)

pub returns-else-live-clause-row : goal.returns-else-live-clause-row
returns-else-live-clause-row c = λ s d h.
    let k = subst (λ (x : PartsState). ArePartsOf s x d) (sym c.self.view_is) h in
    let live : c.live.result ≡ false = search rules in
    limit_row s d c.args.p c.args.n false (sym live ∙ c.live.ensures.trace s d k.made k.pods)

pub returns-then-live-clause-adds : goal.returns-then-live-clause-adds
returns-then-live-clause-adds c = λ t. record { throttle = rw (c.set_limit.ensures.after t, ← c.self.view_is) refl; scaler = rw (← c.self.view_is) refl; pods = rw (← c.self.view_is) refl }
