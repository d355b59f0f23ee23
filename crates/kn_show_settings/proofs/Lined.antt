-- The line of a setting, by what its value and its origin are.
use Rattle.std.proofs.Common.{◌≡◌, ℕ, List, ◌++◌, ap, ◌∙◌}
use Rattle.kn_origins.specs.declared.origin.Origin.{Origin}
use Rattle.kn_origins.specs.Lines.{setting, setting_line}

pub lined : (new start name value known : List ℕ) (from origin : Origin) → new ≡ start ++ setting_line (setting name value from) → value ≡ known → from ≡ origin
    → new ≡ start ++ setting_line (setting name known origin)
lined new start name value known from origin p v f =
    p ∙ ap (λ (x : List ℕ). start ++ setting_line (setting name x from)) v ∙ ap (λ (x : Origin). start ++ setting_line (setting name known x)) f
