-- Times and steps.
use Rattle.std.proofs.Common.{◌≡◌, ◌≤◌, ◌<◌, ◌+◌, ◌-◌, ◌*◌, ◌/◌, ℕ, ap, ◌∙◌, arith}
use Rattle.std.proofs.Math.Nat.{div-mul-le_self, mul-add-div_right}
use Rattle.std.proofs.lemmas.Nat.{le-div}
use Rattle.kn_show_series.specs.Steps.{step_of}

-- a later time lies in a later step, or in the same
pub step_of-le : (step start t u : ℕ) → 0 < step → t ≤ u → step_of step start t ≤ step_of step start u
step_of-le step start t u pos h =
    let low = div-mul-le_self (t - start) step in
    let below : (t - start) / step * step ≤ u - start = omega (arith, low) in
    le-div ((t - start) / step) (u - start) step pos below

-- a step begins no later than each of its times
pub step_begins : (step start t : ℕ) → start ≤ t → start + step_of step start t * step ≤ t
step_begins step start t h = let low = div-mul-le_self (t - start) step in omega (arith, low)

-- a time that is so far behind the beginning of step k
pub step_of-behind : (step start k over t : ℕ) → 0 < step → t ≡ start + k * step + over → step_of step start t ≡ k + over / step
step_of-behind step start k over t pos e =
    let far : t - start ≡ k * step + over = omega arith in
    ap (λ d. d / step) far ∙ mul-add-div_right pos k over
