use Rattle.std.proofs.Common.{◌≡◌, ◌∙◌, Bool, true, false, not, refl}
use Rattle.kn_throttle.proofs.Dispatched.{settling_rest}
use Rattle.kn_throttle.proofs.throttle.Throttle.is_settled.Goals as goal

pub returns : goal.returns
returns c = λ d t h e.
    let views = c.append_laws.ensures.views c.args.self.now.spec c.args.self.now.admission d h in
    settling_rest c.args.self.now.spec t d _ views.pods ((c.is_calm.ensures c.if-not-is_calm.false).rows d t h) (c.has_next_held.ensures d t h (no c.has_next_held.result e))
    ∙ c.is_complete.ensures d t h c.if-not-is_complete.false
  where
    no : (b : Bool) → not b ≡ true → b ≡ false
    no true e = absurd (cc)
    no false e = refl
