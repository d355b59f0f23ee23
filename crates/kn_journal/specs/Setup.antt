-- A setup: its first line, and for a revision that scales a configuration and a Revision.
use Rattle.std.specs.Prelude.{◌≡◌, ℕ, Bool, ◌+◌, ◌++◌, nat_le, List, [], ◌∷◌, length, Result, Ok, Err, codes, if◌then◌else◌, ⊤}
use Rattle.std.specs.Str.{bytes_eq}
use Rattle.kn_event.specs.declared.revision.Slots.{Slots}
use Rattle.kn_event.specs.declared.revision.Spec.{Spec}
use Rattle.kn_event.specs.FixedSpec.{fixed_spec}
use Rattle.kn_config.specs.declared.config.Config.{Config}
use Rattle.kn_config.specs.declared.config.ConfigError.{ConfigError}
use Rattle.kn_config.specs.Config.{config_of}
use Rattle.kn_revision.specs.declared.error.SpecError.{SpecError}
use Rattle.kn_revision.specs.Revision.{spec_of}
use Rattle.kn_preamble.specs.declared.error.SetupError.{SetupError}
use Rattle.kn_preamble.specs.declared.error.SetupError.TheVariants as setup_error
use Rattle.kn_preamble.specs.declared.setting.SetupLine.{SetupLine}
use Rattle.kn_preamble.specs.declared.setting.SetupLine.TheVariants.{Fixed, Kpa}
use Rattle.kn_preamble.specs.SetupLine.{setup_line}
use Rattle.kn_journal.specs.declared.journal.Setup.{Setup}
use Rattle.kn_journal.specs.Causes.{Cause, bad_setup, line_too_long, no_end}
use Rattle.kn_journal.specs.Lines.{fits, lines}
use Rattle.kn_journal.specs.Parts.{Part, part, then_part, with_line}

-- this word alone on a line
abbrev pub word_in : List ℕ → ℕ → List ℕ → List (List ℕ) → Result (Part ⊤) Cause
word_in word number line left = if bytes_eq line word then Ok (part tt number left) else Err (bad_setup number setup_error.BadWord)

unfoldable pub word_part : List ℕ → ℕ → List (List ℕ) → Result (Part ⊤) Cause
word_part word n lines = with_line n lines (word_in word)

-- how long a block's text may be
abbrev pub block_most : ℕ
block_most = 1048576

abbrev pub longer : List ℕ → List ℕ → List ℕ
longer text line = text ++ (line ++ 10 ∷ [])

abbrev pub fits_block : List ℕ → Bool
fits_block text = nat_le (length text) block_most

-- a single point ends a block; any other line makes it longer
abbrev pub block_in : List ℕ → ℕ → List ℕ → List (List ℕ) → Result (Part (List ℕ)) Cause → Result (Part (List ℕ)) Cause
block_in text number line left further =
    if bytes_eq line (codes ".") then Ok (part text number left)
    else (if fits_block (longer text line) then further else Err (bad_setup number setup_error.BlockTooLong))

-- the lines up to a single point, each with an LF, behind this text
unfoldable pub block_part : List ℕ → ℕ → List (List ℕ) → Result (Part (List ℕ)) Cause
block_part text n [] = Err no_end
block_part text n (line ∷ more) =
    if fits line then block_in text (n + 1) line more (block_part (longer text line) (n + 1) more) else Err (line_too_long (n + 1))

abbrev pub setup_of : Spec → List ℕ → Setup
setup_of spec text = record { spec = spec; text = text }

-- a block is judged at its point, whose line this is
abbrev pub config_in : ℕ → Result Config ConfigError → (Config → Result (Part Setup) Cause) → Result (Part Setup) Cause
config_in number (Ok config) next = next config
config_in number (Err why) next = Err (bad_setup number (setup_error.Config why))

abbrev pub spec_in : ℕ → List (List ℕ) → List ℕ → Result Spec SpecError → Result (Part Setup) Cause
spec_in number left text (Ok spec) = Ok (part (setup_of spec text) number left)
spec_in number left text (Err why) = Err (bad_setup number (setup_error.Revision why))

-- the text of a setup with blocks
abbrev pub blocks_text : List ℕ → List ℕ → List ℕ → List ℕ
blocks_text line config revision = (line ++ (codes "config\n" ++ (config ++ codes ".\n"))) ++ (codes "revision\n" ++ (revision ++ codes ".\n"))

-- the configuration and the Revision over it, behind a first line with its LF
unfoldable pub revision_part : List ℕ → List ℕ → Slots → Config → ℕ → List (List ℕ) → Result (Part Setup) Cause
revision_part line block slots config n lines =
    then_part (word_part (codes "revision") n lines) (λ _ n lines.
    then_part (block_part [] n lines) (λ revision n left.
    spec_in n left (blocks_text line block revision) (spec_of config revision slots)))

unfoldable pub blocks_part : List ℕ → Slots → ℕ → List (List ℕ) → Result (Part Setup) Cause
blocks_part line slots n lines =
    then_part (word_part (codes "config") n lines) (λ _ n lines.
    then_part (block_part [] n lines) (λ block n lines.
    config_in n (config_of block) (λ config. revision_part line block slots config n lines)))

-- what follows a first line that says this
abbrev pub behind_line : List ℕ → Result SetupLine SetupError → ℕ → List (List ℕ) → Result (Part Setup) Cause
behind_line line (Ok (Fixed limit pods timeout slots)) n left = Ok (part (setup_of (fixed_spec limit pods timeout slots) line) n left)
behind_line line (Ok (Kpa slots)) n left = blocks_part line slots n left
behind_line line (Err why) n left = Err (bad_setup n why)

abbrev pub setup_in : ℕ → List ℕ → List (List ℕ) → Result (Part Setup) Cause
setup_in number line left = behind_line (line ++ 10 ∷ []) (setup_line line) number left

-- a setup, after line n
unfoldable pub setup_part : ℕ → List (List ℕ) → Result (Part Setup) Cause
setup_part n lines = with_line n lines setup_in

-- ---- a text that reads as what it is the text of

-- with a single point behind it, and whatever follows that, it reads as a block
pub record IsBlockText (text : List ℕ) : Type 0 where
  pub read : (n : ℕ) (rest : List ℕ) → (m : ℕ) × (block_part [] n (lines (text ++ (codes ".\n" ++ rest))) ≡ Ok (part text m (lines rest)))

-- the setup's text is these bytes, and then what is read as this setup, with nothing left
pub record ReadsBack (reads : ℕ → List (List ℕ) → Result (Part Setup) Cause) (before : List ℕ) (s : Setup) : Type 0 where
  pub rest : List ℕ
  pub text : s.text ≡ before ++ rest
  pub read : (n : ℕ) → (m : ℕ) × (reads n (lines rest) ≡ Ok (part s m []))
