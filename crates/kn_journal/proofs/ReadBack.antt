-- The text of a setup reads as that setup.
use Rattle.std.proofs.Common.{◌≡◌, ◌+◌, ◌<◌, ◌≤◌, ℕ, true, false, List, [], ◌∷◌, ◌++◌, length, append_assoc, append-nil, refl, sym, ap, ◌∙◌, subst, arith}
use Rattle.std.specs.Prelude.{Contains, Err, IfOk, Result, Ok, codes}
use Rattle.std.specs.Str.{bytes_eq}
use Rattle.std.proofs.lemmas.Grind.{common_steps}
use Rattle.kn_event.specs.declared.revision.Slots.{Slots}
use Rattle.kn_event.specs.declared.revision.Spec.{Spec}
use Rattle.kn_event.specs.FixedSpec.{fixed_spec}
use Rattle.kn_config.specs.declared.config.Config.{Config}
use Rattle.kn_config.specs.Config.{config_of}
use Rattle.kn_revision.specs.Revision.{spec_of}
use Rattle.kn_preamble.specs.declared.error.SetupError.{SetupError}
use Rattle.kn_journal.specs.declared.journal.Setup.{Setup}
use Rattle.kn_preamble.specs.declared.setting.SetupLine.{SetupLine}
use Rattle.kn_preamble.specs.declared.setting.SetupLine.TheVariants.{Fixed}
use Rattle.kn_preamble.specs.SetupLine.{setup_line}
use Rattle.kn_journal.specs.Journal.{IsSetup}
use Rattle.kn_journal.specs.Lines.{ends_with_cr, fits, lines}
use Rattle.kn_journal.specs.Parts.{part}
use Rattle.kn_journal.specs.Setup.{IsBlockText, ReadsBack, behind_line, block_most, block_part, blocks_part, blocks_text, fits_block, longer, revision_part, setup_in, setup_of, setup_part, word_part}
use Rattle.kn_journal.proofs.Aheads.{lines-plain}
use Rattle.kn_journal.proofs.Blocks.{longer-length}
use Rattle.kn_journal.proofs.Consumed.{with_line-fits}
use Rattle.kn_journal.proofs.LineTexts.{printable-plain}
use Rattle.kn_journal.proofs.Plain.{plain-line}
use Rattle.kn_journal.proofs.SetupLines.{setup_line-printable}
use Rattle.kn_journal.proofs.Tellings.{lines-nil}

-- ---- a block

-- these lines read as this text, and what follows them goes on from there
pub record KeepsBlock (text : List ℕ) : Type 0 where
  pub read : (n : ℕ) → (m : ℕ) × ((rest : List ℕ) → block_part [] n (lines (text ++ rest)) ≡ block_part text m (lines rest))

pub keeps-begin : KeepsBlock []
keeps-begin = record { read = λ n. (n, λ rest. refl) }

pub keeps-more : (text line after : List ℕ) → KeepsBlock text → ¬ Contains line 10 → ends_with_cr line ≡ false → fits line ≡ true → bytes_eq line (codes ".") ≡ false
    → length text + length line < block_most → after ≡ (text ++ line) ++ 10 ∷ [] → KeepsBlock after
unfolding block_part
keeps-more text line after h none cr fit other short is =
    let same : longer text line ≡ after = sym (append_assoc text line (10 ∷ [])) ∙ sym is in
    let few : length (longer text line) ≤ block_most = omega (arith, longer-length text line) in
    let room : fits_block (longer text line) ≡ true = grind (arith, common_steps) in
    record {
      read = λ n.
          let before = h.read n in (
            before.0 + 1,
            λ rest.
                ap (λ (x : List ℕ). block_part [] n (lines (x ++ rest))) (sym same)
                ∙ ap (λ (x : List ℕ). block_part [] n (lines x)) (append_assoc text (line ++ 10 ∷ []) rest ∙ ap (λ (x : List ℕ). text ++ x) (append_assoc line (10 ∷ []) rest))
                ∙ before.1 (line ++ 10 ∷ rest)
                ∙ ap (block_part text before.0) (lines-plain line rest (plain-line line none cr))
                ∙ rw (fit, other, room) (ap (λ (x : List ℕ). block_part x (before.0 + 1) (lines rest)) same),
          );
    }

pub keeps-point : (text : List ℕ) → KeepsBlock text → IsBlockText text
unfolding block_part
keeps-point text h = record {
  read = λ n rest.
      let before = h.read n in
      (before.0 + 1, before.1 (codes ".\n" ++ rest) ∙ ap (block_part text before.0) (lines-plain (codes ".") rest (refl, refl)));
}

-- ---- the Revision and the configuration

word-read : (word : List ℕ) (n : ℕ) (left : List (List ℕ)) → fits word ≡ true → bytes_eq word word ≡ true → word_part word n (word ∷ left) ≡ Ok (part tt (n + 1) left)
unfolding word_part
word-read word n left fit same = rw (fit, same) refl

pub revision-kept : (line block revision : List ℕ) (slots : Slots) (config : Config) (spec : Spec) (s : Setup) → IsBlockText revision → Ok spec ≡ spec_of config revision slots
    → s ≡ setup_of spec (blocks_text line block revision) → ReadsBack (revision_part line block slots config) (line ++ (codes "config\n" ++ (block ++ codes ".\n"))) s
unfolding revision_part
revision-kept line block revision slots config spec s text said is =
    let behind = revision ++ codes ".\n" in
    record {
      rest = codes "revision\n" ++ behind;
      text = ap (λ (x : Setup). x.text) is;
      read = λ n.
          let taken = text.read (n + 1) [] in (
            taken.0,
            rw (lines-plain (codes "revision") behind (refl, (refl, (refl, (refl, (refl, (refl, (refl, (refl, refl)))))))), word-read (codes "revision") n (lines behind) refl refl)
                (rw (taken.1, ← said, lines-nil) (rw is refl)),
          );
    }

pub blocks-kept : (line block : List ℕ) (slots : Slots) (config : Config) (s : Setup) → IsBlockText block → Ok config ≡ config_of block
    → ReadsBack (revision_part line block slots config) (line ++ (codes "config\n" ++ (block ++ codes ".\n"))) s → ReadsBack (blocks_part line slots) line s
unfolding blocks_part
blocks-kept line block slots config s text said back =
    let first = codes "config\n" ++ (block ++ codes ".\n") in
    let behind = block ++ (codes ".\n" ++ back.rest) in
    let whole : first ++ back.rest ≡ codes "config\n" ++ behind = ap (λ (x : List ℕ). codes "config\n" ++ x) (append_assoc block (codes ".\n") back.rest) in
    record {
      rest = first ++ back.rest;
      text = back.text ∙ append_assoc line first back.rest;
      read = λ n.
          let taken = text.read (n + 1) back.rest in
          let more = back.read taken.0 in (
            more.0,
            rw (whole, lines-plain (codes "config") behind (refl, (refl, (refl, (refl, (refl, (refl, refl)))))), word-read (codes "config") n (lines behind) refl refl)
                (rw (taken.1, ← said) more.1),
          );
    }

-- ---- what follows the first line

fixed-kept : (text : List ℕ) (limit pods timeout : ℕ) (slots : Slots) (s : Setup) → s ≡ setup_of (fixed_spec limit pods timeout slots) text
    → ReadsBack (behind_line text (Ok (Fixed limit pods timeout slots))) text s
fixed-kept text limit pods timeout slots s is = record {
  rest = [];
  text = ap (λ (x : Setup). x.text) is ∙ sym (append-nil text);
  read = λ n. (n, rw (lines-nil, is) refl);
}

setup-kept : (line text : List ℕ) (said : SetupLine) (s : Setup) → fits line ≡ true → Ok said ≡ setup_line line → text ≡ line ++ 10 ∷ []
    → ReadsBack (behind_line text (Ok said)) text s → IsSetup s
unfolding setup_part
setup-kept line text said s fit read is back =
    let whole : s.text ≡ line ++ 10 ∷ back.rest = back.text ∙ ap (λ (x : List ℕ). x ++ back.rest) is ∙ append_assoc line (10 ∷ []) back.rest in
    let split : lines s.text ≡ line ∷ lines back.rest = ap lines whole ∙ lines-plain line back.rest (printable-plain line (setup_line-printable line said (sym read))) in
    let more = back.read 2 in
    let told = subst (λ (t : List ℕ). behind_line t (Ok said) 2 (lines back.rest) ≡ Ok (part s more.0 [])) is more.1 in
    record {
      number = more.0;
      read = ap (setup_part 1) split ∙ with_line-fits 1 line (lines back.rest) setup_in fit
          ∙ subst (λ (x : Result SetupLine SetupError). behind_line (line ++ 10 ∷ []) x 2 (lines back.rest) ≡ Ok (part s more.0 [])) read told;
    }

pub setup-kept_if : {E : Type 0} (line text : List ℕ) (said : SetupLine) (r : Result Setup E) → fits line ≡ true → Ok said ≡ setup_line line → text ≡ line ++ 10 ∷ []
    → IfOk r (ReadsBack (behind_line text (Ok said)) text) → IfOk r IsSetup
setup-kept_if line text said (Ok s) fit read is back = setup-kept line text said s fit read is back
setup-kept_if line text said (Err why) fit read is back = tt

pub fixed-kept_if : {E : Type 0} (text : List ℕ) (limit pods timeout : ℕ) (slots : Slots) (r : Result Setup E) → IfOk r (λ s. s ≡ setup_of (fixed_spec limit pods timeout slots) text)
    → IfOk r (ReadsBack (behind_line text (Ok (Fixed limit pods timeout slots))) text)
fixed-kept_if text limit pods timeout slots (Ok s) is = fixed-kept text limit pods timeout slots s is
fixed-kept_if text limit pods timeout slots (Err why) is = tt
