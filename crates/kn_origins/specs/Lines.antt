-- The lines of settings.
use Rattle.std.specs.Prelude.{ℕ, Bool, true, false, ◌++◌, List, [], ◌∷◌, codes}
use Rattle.kn_origins.specs.declared.origin.Origin.{Origin}
use Rattle.kn_origins.specs.Origins.{origin_text}

-- a setting: its name, its value, and where that comes from
pub record Setting : Type 0 where
  pub name : List ℕ
  pub value : List ℕ
  pub from : Origin

abbrev pub setting : List ℕ → List ℕ → Origin → Setting
setting name value from = record { name = name; value = value; from = from }

-- the three, parted by a space, and an LF
unfoldable pub setting_line : Setting → List ℕ
setting_line s = s.name ++ (codes " " ++ (s.value ++ (codes " " ++ (origin_text s.from ++ codes "\n"))))

-- a line for each
abbrev pub setting_lines : List Setting → List ℕ
setting_lines [] = []
setting_lines (s ∷ more) = setting_line s ++ setting_lines more

-- ---- values

abbrev pub flag_text : Bool → List ℕ
flag_text true = codes "true"
flag_text false = codes "false"
