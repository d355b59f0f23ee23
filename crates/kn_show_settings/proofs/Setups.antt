-- A setup that was read: its text, and the two blocks that it was read from.
use Rattle.std.proofs.Common.{◌≡◌, ℕ, ◌+◌, Bool, true, false, List, [], ◌∷◌, ◌++◌, refl, sym, ap, ◌∙◌, subst, append_assoc, append-nil}
use Rattle.std.specs.Prelude.{codes, Result, Ok, Err, ⊤, if◌then◌else◌}
use Rattle.std.specs.Str.{bytes_eq}
use Rattle.kn_event.specs.FixedSpec.{fixed_spec}
use Rattle.kn_event.specs.declared.revision.Kind.TheVariants as kind
use Rattle.kn_event.specs.declared.revision.Slots.{Slots}
use Rattle.kn_event.specs.declared.revision.Spec.{Spec}
use Rattle.kn_config.specs.declared.config.Config.{Config}
use Rattle.kn_config.specs.declared.config.ConfigError.{ConfigError}
use Rattle.kn_config.specs.Config.{config_of}
use Rattle.kn_revision.specs.declared.error.SpecError.{SpecError}
use Rattle.kn_revision.specs.Revision.{spec_of}
use Rattle.kn_preamble.specs.declared.error.SetupError.{SetupError}
use Rattle.kn_journal.specs.declared.journal.Setup.{Setup}
use Rattle.kn_preamble.specs.declared.setting.SetupLine.{SetupLine}
use Rattle.kn_preamble.specs.declared.setting.SetupLine.TheVariants.{Fixed, Kpa}
use Rattle.kn_preamble.specs.SetupLine.{setup_line}
use Rattle.kn_journal.specs.Causes.{Cause, line_too_long}
use Rattle.kn_journal.specs.Lines.{fits, text_of}
use Rattle.kn_journal.specs.Parts.{Part, part, then_part, with_line}
use Rattle.kn_journal.specs.Setup.{behind_line, block_part, blocks_part, blocks_text, config_in, fits_block, longer, revision_part, setup_in, setup_of, setup_part, spec_in, word_in, word_part}
use Rattle.kn_show_settings.proofs.Blocked.{AreInside, HasNoLf, HaveNoLf}

-- ---- one part, and then the next

pub then-inv : {S T : Type 0} (r : Result (Part S) Cause) (next : S → ℕ → List (List ℕ) → Result T Cause) (y : T) → then_part r next ≡ Ok y
    → (q : Part S) × (r ≡ Ok q) × (next q.value q.number q.left ≡ Ok y)
then-inv (Ok q) next y h = (q, refl, h)
then-inv (Err cause) next y h = absurd (cc)

-- a line, and what is left
pub line-inv : {T : Type 0} (n : ℕ) (ls : List (List ℕ)) (next : ℕ → List ℕ → List (List ℕ) → Result T Cause) (y : T) → with_line n ls next ≡ Ok y
    → (line : List ℕ) × (more : List (List ℕ)) × (ls ≡ line ∷ more) × (next (n + 1) line more ≡ Ok y)
line-inv n [] next y h = absurd (cc)
line-inv {T} n (line ∷ more) next y h = by (fits line) h
  where
    by : (b : Bool) → (if b then next (n + 1) line more else Err (line_too_long (n + 1))) ≡ Ok y → (l : List ℕ) × (m : List (List ℕ)) × (line ∷ more ≡ l ∷ m) × (next (n + 1) l m ≡ Ok y)
    by true h = (line, more, refl, h)
    by false h = absurd (cc)

-- a word alone on its line
word-inv : (word : List ℕ) (n : ℕ) (ls : List (List ℕ)) (q : Part ⊤) → word_part word n ls ≡ Ok q → HaveNoLf ls → HaveNoLf q.left
unfolding word_part
word-inv word n ls q h plain = first (line-inv n ls (word_in word) q h)
  where
    first : (line : List ℕ) × (more : List (List ℕ)) × (ls ≡ line ∷ more) × (word_in word (n + 1) line more ≡ Ok q) → HaveNoLf q.left
    first (line, more, is, h) = by (bytes_eq line word) _ h
      where
        by : (b : Bool) (why : Cause) → (if b then Ok (part tt (n + 1) more) else Err why) ≡ Ok q → HaveNoLf q.left
        by true why h = (let same : part tt (n + 1) more ≡ q = cc in subst (λ (p : Part ⊤). HaveNoLf p.left) same (subst HaveNoLf is plain).1)
        by false why h = absurd (cc)

-- ---- a block

-- the lines that it is of
record IsBlock (before : List ℕ) (q : Part (List ℕ)) : Type 0 where
  own : List (List ℕ)
  text : q.value ≡ before ++ text_of own
  inside : AreInside own
  left : HaveNoLf q.left

block-inv : (before : List ℕ) (n : ℕ) (ls : List (List ℕ)) (q : Part (List ℕ)) → block_part before n ls ≡ Ok q → HaveNoLf ls → IsBlock before q
unfolding block_part
block-inv before n [] q h plain = absurd (cc)
block-inv before n (line ∷ more) q h plain = fit (fits line) _ _ h (λ further. block-inv (longer before line) (n + 1) more q further plain.1)
  where
    ends : (b : Bool) (why : Cause) → bytes_eq line (codes ".") ≡ b → (if b then Ok (part before (n + 1) more) else (if fits_block (longer before line) then block_part (longer before line) (n + 1) more else Err why)) ≡ Ok q
        → (block_part (longer before line) (n + 1) more ≡ Ok q → IsBlock (longer before line) q) → IsBlock before q
    ends true why is h rest =
        let same : part before (n + 1) more ≡ q = cc in
        subst (IsBlock before) same (record { own = []; text = sym (append-nil before); inside = tt; left = plain.1 })
    ends false why is h rest = goes (fits_block (longer before line)) h
      where
        goes : (b : Bool) → (if b then block_part (longer before line) (n + 1) more else Err why) ≡ Ok q → IsBlock before q
        goes false h = absurd (cc)
        goes true h =
            let further = rest h in
            record {
              own = line ∷ further.own;
              text = further.text ∙ append_assoc before (line ++ 10 ∷ []) (text_of further.own) ∙ ap (λ (t : List ℕ). before ++ t) (append_assoc line (10 ∷ []) (text_of further.own));
              inside = ((plain.0, is), further.inside);
              left = further.left;
            }

    fit : (b : Bool) (long why : Cause) → (if b then (if bytes_eq line (codes ".") then Ok (part before (n + 1) more) else (if fits_block (longer before line) then block_part (longer before line) (n + 1) more else Err why)) else Err long) ≡ Ok q
        → (block_part (longer before line) (n + 1) more ≡ Ok q → IsBlock (longer before line) q) → IsBlock before q
    fit false long why h rest = absurd (cc)
    fit true long why h rest = ends (bytes_eq line (codes ".")) why refl h rest

-- ---- a setup

-- a setup that scales, and the blocks that it was read from
pub record IsOfBlocks (s : Setup) : Type 0 where
  pub line : List ℕ
  pub lines : List (List ℕ)
  pub further : List (List ℕ)
  pub plain : HasNoLf line
  pub inside : AreInside lines
  pub inside_further : AreInside further
  pub text : s.text ≡ blocks_text (line ++ 10 ∷ []) (text_of lines) (text_of further)
  pub config : Config
  pub slots : Slots
  pub config_is : config_of (text_of lines) ≡ Ok config
  pub spec_is : spec_of config (text_of further) slots ≡ Ok s.spec

spec-inv : (n : ℕ) (left : List (List ℕ)) (text : List ℕ) (r : Result Spec SpecError) (p : Part Setup) → spec_in n left text r ≡ Ok p → (r ≡ Ok p.value.spec) × (p.value.text ≡ text)
spec-inv n left text (Ok spec) p h =
    let same : part (setup_of spec text) n left ≡ p = cc in
    (ap (λ (q : Part Setup). Ok q.value.spec) same, ap (λ (q : Part Setup). q.value.text) (sym same))
spec-inv n left text (Err why) p h = absurd (cc)

config-inv : (n : ℕ) (r : Result Config ConfigError) (next : Config → Result (Part Setup) Cause) (p : Part Setup) → config_in n r next ≡ Ok p → (config : Config) × (r ≡ Ok config) × (next config ≡ Ok p)
config-inv n (Ok config) next p h = (config, refl, h)
config-inv n (Err why) next p h = absurd (cc)

revision-inv : (line block : List ℕ) (slots : Slots) (config : Config) (n : ℕ) (ls own : List (List ℕ)) (p : Part Setup) → revision_part (line ++ 10 ∷ []) block slots config n ls ≡ Ok p → HaveNoLf ls
    → HasNoLf line → AreInside own → block ≡ text_of own → config_of block ≡ Ok config → IsOfBlocks p.value
unfolding revision_part
revision-inv line block slots config n ls own p h plain in_line inside block_is config_is = word (then-inv (word_part (codes "revision") n ls) _ p h)
  where
    word : (q : Part ⊤) × (word_part (codes "revision") n ls ≡ Ok q)
        × (then_part (block_part [] q.number q.left) (λ revision m left. spec_in m left (blocks_text (line ++ 10 ∷ []) block revision) (spec_of config revision slots)) ≡ Ok p) → IsOfBlocks p.value
    word (q, is, h) = last (then-inv (block_part [] q.number q.left) _ p h)
      where
        last : (b : Part (List ℕ)) × (block_part [] q.number q.left ≡ Ok b) × (spec_in b.number b.left (blocks_text (line ++ 10 ∷ []) block b.value) (spec_of config b.value slots) ≡ Ok p) → IsOfBlocks p.value
        last (b, was, h) =
            let revision = block-inv [] q.number q.left b was (word-inv (codes "revision") n ls q is plain) in
            let both = spec-inv b.number b.left (blocks_text (line ++ 10 ∷ []) block b.value) (spec_of config b.value slots) p h in
            record {
              line = line;
              lines = own;
              further = revision.own;
              plain = in_line;
              inside = inside;
              inside_further = revision.inside;
              text = both.1 ∙ ap (λ (t : List ℕ). blocks_text (line ++ 10 ∷ []) t b.value) block_is ∙ ap (blocks_text (line ++ 10 ∷ []) (text_of own)) revision.text;
              config = config;
              slots = slots;
              config_is = subst (λ (t : List ℕ). config_of t ≡ Ok config) block_is config_is;
              spec_is = subst (λ (t : List ℕ). spec_of config t slots ≡ Ok p.value.spec) revision.text both.0;
            }

blocks-inv : (line : List ℕ) (slots : Slots) (n : ℕ) (ls : List (List ℕ)) (p : Part Setup) → blocks_part (line ++ 10 ∷ []) slots n ls ≡ Ok p → HaveNoLf ls → HasNoLf line → IsOfBlocks p.value
unfolding blocks_part
blocks-inv line slots n ls p h plain in_line = word (then-inv (word_part (codes "config") n ls) _ p h)
  where
    word : (q : Part ⊤) × (word_part (codes "config") n ls ≡ Ok q)
        × (then_part (block_part [] q.number q.left) (λ block m left. config_in m (config_of block) (λ config. revision_part (line ++ 10 ∷ []) block slots config m left)) ≡ Ok p) → IsOfBlocks p.value
    word (q, is, h) = first (then-inv (block_part [] q.number q.left) _ p h)
      where
        first : (b : Part (List ℕ)) × (block_part [] q.number q.left ≡ Ok b)
            × (config_in b.number (config_of b.value) (λ config. revision_part (line ++ 10 ∷ []) b.value slots config b.number b.left) ≡ Ok p) → IsOfBlocks p.value
        first (b, was, h) =
            let config = block-inv [] q.number q.left b was (word-inv (codes "config") n ls q is plain) in
            rest (config-inv b.number (config_of b.value) (λ config. revision_part (line ++ 10 ∷ []) b.value slots config b.number b.left) p h) config
          where
            rest : (config : Config) × (config_of b.value ≡ Ok config) × (revision_part (line ++ 10 ∷ []) b.value slots config b.number b.left ≡ Ok p) → IsBlock [] b → IsOfBlocks p.value
            rest (config, read, h) block = revision-inv line b.value slots config b.number b.left block.own p h block.left in_line block.inside block.text read

pub setup-inv : (n : ℕ) (ls : List (List ℕ)) (p : Part Setup) → setup_part n ls ≡ Ok p → HaveNoLf ls → p.value.spec.kind ≡ kind.Kpa → IsOfBlocks p.value
unfolding setup_part fixed_spec
setup-inv n ls p h plain scales = first (line-inv n ls setup_in p h)
  where
    first : (line : List ℕ) × (more : List (List ℕ)) × (ls ≡ line ∷ more) × (setup_in (n + 1) line more ≡ Ok p) → IsOfBlocks p.value
    first (line, more, is, h) = by (setup_line line) h
      where
        both : HaveNoLf (line ∷ more)
        both = subst HaveNoLf is plain

        by : (r : Result SetupLine SetupError) → behind_line (line ++ 10 ∷ []) r (n + 1) more ≡ Ok p → IsOfBlocks p.value
        by (Ok (Fixed limit pods timeout slots)) h =
            let same : part (setup_of (fixed_spec limit pods timeout slots) (line ++ 10 ∷ [])) (n + 1) more ≡ p = cc in
            absurd (let fixed : kind.Fixed pods ≡ kind.Kpa = ap (λ (q : Part Setup). q.value.spec.kind) same ∙ scales in cc)
        by (Ok (Kpa slots)) h = blocks-inv line slots (n + 1) more p h both.1 both.0
        by (Err why) h = absurd (cc)
