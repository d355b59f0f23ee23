-- What a Decider keeps of its parts.
use Rattle.std.specs.Prelude.{◌≡◌}
use Rattle.kn_scaling.specs.Average.{Samples}
use Rattle.kn_window.specs.Stands.{IsWindowOf}
use Rattle.kn_zero.specs.Zero.{settings_of}
use Rattle.kn_decider.specs.Decider.{DeciderState}

-- the parts are those of the specification, and both windows have the samples of some past
pub record IsKept (d : DeciderState) : Type 0 where
  pub stable : d.stable.seconds ≡ d.spec.stable_s
  pub panic_window : d.panic_window.seconds ≡ d.spec.panic_s
  pub end : d.panic_window.end ≡ d.stable.end
  pub delay : d.delay.seconds ≡ d.spec.delay_s
  pub settings : settings_of d.spec ≡ d.zero.settings
  pub seen : ∥ ((samples : Samples) × IsWindowOf d.stable samples × IsWindowOf d.panic_window samples) ∥₁
