-- The lines that a part of a journal takes.
use Rattle.std.proofs.Common.{◌≡◌, ◌+◌, ℕ, Bool, true, false, List, [], ◌∷◌, ◌++◌, length, length-append, append_assoc, append-nil, refl, sym, ap, ◌∙◌, subst, arith}
use Rattle.std.specs.Prelude.{Result, Ok, Err, codes, if◌then◌else◌, ⊤}
use Rattle.std.specs.Str.{bytes_eq}
use Rattle.std.proofs.lemmas.Slice.Eq.{bytes_eq-Decides}
use Rattle.kn_event.specs.declared.revision.Slots.{Slots}
use Rattle.kn_event.specs.declared.revision.Spec.{Spec}
use Rattle.kn_event.specs.FixedSpec.{fixed_spec}
use Rattle.kn_config.specs.declared.config.Config.{Config}
use Rattle.kn_config.specs.declared.config.ConfigError.{ConfigError}
use Rattle.kn_config.specs.Config.{config_of}
use Rattle.kn_revision.specs.declared.error.SpecError.{SpecError}
use Rattle.kn_revision.specs.Revision.{spec_of}
use Rattle.kn_preamble.specs.declared.error.SetupError.{SetupError}
use Rattle.kn_preamble.specs.declared.error.SetupError.TheVariants as setup_error
use Rattle.kn_preamble.specs.declared.setting.SetupLine.{SetupLine}
use Rattle.kn_preamble.specs.declared.setting.SetupLine.TheVariants.{Fixed, Kpa}
use Rattle.kn_preamble.specs.SetupLine.{setup_line}
use Rattle.kn_journal.specs.declared.journal.Setup.{Setup}
use Rattle.kn_journal.specs.Causes.{Cause, bad_setup, line_too_long}
use Rattle.kn_journal.specs.Lines.{fits, text_of}
use Rattle.kn_journal.specs.Parts.{Part, part, then_part, with_line}
use Rattle.kn_journal.specs.Setup.{word_part, block_part, behind_line, blocks_part, blocks_text, config_in, fits_block, longer, revision_part, setup_in, setup_of, setup_part, spec_in, word_in}

-- the part is read from these lines alone, whatever follows them
pub record Takes {T : Type 0} (read : List (List ℕ) → Result (Part T) Cause) (lines : List (List ℕ)) (p : Part T) (own : List (List ℕ)) : Type 0 where
  pub split : lines ≡ own ++ p.left
  pub alone : (later : List (List ℕ)) → read (own ++ later) ≡ Ok (part p.value p.number later)

-- a line that was read
pub record HasLine {T : Type 0} (n : ℕ) (lines : List (List ℕ)) (next : ℕ → List ℕ → List (List ℕ) → Result T Cause) (x : T) : Type 0 where
  pub line : List ℕ
  pub more : List (List ℕ)
  pub split : lines ≡ line ∷ more
  pub fit : fits line ≡ true
  pub rest : next (n + 1) line more ≡ Ok x

pub with_line-ok : {T : Type 0} (n : ℕ) (lines : List (List ℕ)) (next : ℕ → List ℕ → List (List ℕ) → Result T Cause) (x : T) → with_line n lines next ≡ Ok x → HasLine n lines next x
with_line-ok n [] next x h = cc
with_line-ok {T} n (line ∷ more) next x h = by_fit (fits line) refl h
  where
    by_fit : (b : Bool) → fits line ≡ b → (if b then next (n + 1) line more else Err (line_too_long (n + 1))) ≡ Ok x → HasLine n (line ∷ more) next x
    by_fit true e g = record { line = line; more = more; split = refl; fit = e; rest = g }
    by_fit false e g = cc

pub with_line-fits : {T : Type 0} (n : ℕ) (line : List ℕ) (more : List (List ℕ)) (next : ℕ → List ℕ → List (List ℕ) → Result T Cause) → fits line ≡ true
    → with_line n (line ∷ more) next ≡ next (n + 1) line more
with_line-fits n line more next h = rw h refl

pub then_part-ok : {S T : Type 0} (r : Result (Part S) Cause) (next : S → ℕ → List (List ℕ) → Result T Cause) (x : T) → then_part r next ≡ Ok x
    → (p : Part S) × (r ≡ Ok p) × (next p.value p.number p.left ≡ Ok x)
then_part-ok (Ok p) next x h = (p, refl, h)
then_part-ok (Err cause) next x h = cc

pub same_bytes : (word text : List ℕ) → bytes_eq word text ≡ true → word ≡ text
same_bytes word text h = (bytes_eq-Decides word text).0 h

-- a part that is one line
pub record IsOneLine {T : Type 0} (next : ℕ → List ℕ → List (List ℕ) → Result (Part T) Cause) (number : ℕ) (line : List ℕ) (p : Part T) (left : List (List ℕ)) : Type 0 where
  pub count : number ≡ p.number
  pub all : p.left ≡ left
  pub any : (later : List (List ℕ)) → next number line later ≡ Ok (part p.value p.number later)

pub line-takes : {T : Type 0} (n : ℕ) (lines : List (List ℕ)) (next : ℕ → List ℕ → List (List ℕ) → Result (Part T) Cause) (p : Part T) (has : HasLine n lines next p)
    → IsOneLine next (n + 1) has.line p has.more → Takes (λ ls. with_line n ls next) lines p (has.line ∷ [])
line-takes n lines next p has one = record {
  split = has.split ∙ ap (λ (x : List (List ℕ)). has.line ∷ x) (sym one.all);
  alone = λ later. with_line-fits n has.line later next has.fit ∙ one.any later;
}

pub part-left : {T : Type 0} (v : T) (n : ℕ) (left : List (List ℕ)) (p : Part T) (r : Result (Part T) Cause) → r ≡ Ok p → r ≡ Ok (part v n left) → (left ≡ p.left) × (v ≡ p.value) × (n ≡ p.number)
part-left {T} v n left p r h e =
    let made : Part T = part v n left in
    let both : Result (Part T) Cause = Ok made in
    let g : both ≡ Ok p = sym e ∙ h in
    let same : made ≡ p = cc in
    (ap (λ (q : Part T). q.left) same, ap (λ (q : Part T). q.value) same, ap (λ (q : Part T). q.number) same)

-- one part after the other
pub then-takes : {S T : Type 0} (first : List (List ℕ) → Result (Part S) Cause) (second : S → ℕ → List (List ℕ) → Result (Part T) Cause) (lines : List (List ℕ)) (p : Part S) (q : Part T)
    (own more : List (List ℕ)) → Takes first lines p own → Takes (second p.value p.number) p.left q more
    → Takes (λ ls. then_part (first ls) second) lines q (own ++ more)
then-takes first second lines p q own more a b = record {
  split = a.split ∙ ap (λ (x : List (List ℕ)). own ++ x) b.split ∙ sym (append_assoc own more q.left);
  alone = λ later. rw (append_assoc own more later) (rw (a.alone (more ++ later)) (b.alone later));
}

abbrev pub ok_part : {T : Type 0} → T → ℕ → List (List ℕ) → Result (Part T) Cause
ok_part v n left = Ok (part v n left)

pub ok_part-same : {T : Type 0} (v w : T) (n m : ℕ) (left : List (List ℕ)) → v ≡ w → n ≡ m → ok_part v n left ≡ ok_part w m left
ok_part-same v w n m left e f = cc

-- ---- a word

word-one : (word : List ℕ) (number : ℕ) (line : List ℕ) (left : List (List ℕ)) (p : Part ⊤) → word_in word number line left ≡ Ok p
    → (line ≡ word) × IsOneLine (word_in word) number line p left
word-one word number line left p h = by_test (bytes_eq line word) refl h
  where
    by_test : (b : Bool) → bytes_eq line word ≡ b → (if b then Ok (part tt number left) else Err (bad_setup number setup_error.BadWord)) ≡ Ok p
        → (line ≡ word) × IsOneLine (word_in word) number line p left
    by_test true e g =
        let made : Part ⊤ = part tt number left in
        let parts = part-left tt number left p (Ok made) g refl in (
          same_bytes line word e,
          record {
            count = parts.2;
            all = sym parts.0;
            any = λ later. rw e (ap (λ (m : ℕ). Ok (part tt m later)) parts.2);
          },
        )
    by_test false e g = cc

pub word-takes : (word : List ℕ) (n : ℕ) (lines : List (List ℕ)) (p : Part ⊤) → word_part word n lines ≡ Ok p → (n + 1 ≡ p.number) × Takes (word_part word n) lines p (word ∷ [])
unfolding word_part
word-takes word n lines p h =
    let has = with_line-ok n lines (word_in word) p h in
    let one = word-one word (n + 1) has.line has.more p has.rest in
    let P : List ℕ → Type 0 = λ x. Takes (λ ls. with_line n ls (word_in word)) lines p (x ∷ []) in
    (one.1.count, subst P one.0 (line-takes n lines (word_in word) p has one.1))

-- ---- a block

pub record TakesBlock (text : List ℕ) (n : ℕ) (lines : List (List ℕ)) (p : Part (List ℕ)) : Type 0 where
  pub own : List (List ℕ)
  pub takes : Takes (block_part text n) lines p (own ++ codes "." ∷ [])
  pub count : n + length own + 1 ≡ p.number
  pub value : p.value ≡ text ++ text_of own

pub block-takes : (text : List ℕ) (n : ℕ) (lines : List (List ℕ)) (p : Part (List ℕ)) → block_part text n lines ≡ Ok p → TakesBlock text n lines p
unfolding block_part
block-takes text n [] p h = cc
block-takes text n (line ∷ more) p h = by_tests (fits line) (bytes_eq line (codes ".")) (fits_block (longer text line)) refl refl refl (block-takes (longer text line) (n + 1) more p) h
  where
    by_tests : (f d b : Bool) → fits line ≡ f → bytes_eq line (codes ".") ≡ d → fits_block (longer text line) ≡ b
        → (block_part (longer text line) (n + 1) more ≡ Ok p → TakesBlock (longer text line) (n + 1) more p)
        → (if f then (if d then Ok (part text (n + 1) more) else (if b then block_part (longer text line) (n + 1) more else Err (bad_setup (n + 1) setup_error.BlockTooLong))) else Err (line_too_long (n + 1))) ≡ Ok p
        → TakesBlock text n (line ∷ more) p
    by_tests false d b e g k later h = cc
    by_tests true true b e g k later h =
        let made : Part (List ℕ) = part text (n + 1) more in
        let parts = part-left text (n + 1) more p (Ok made) h refl in
        let is : line ≡ codes "." = same_bytes line (codes ".") g in
        record {
          own = [];
          takes = record {
            split = ap (λ (x : List ℕ). x ∷ more) is ∙ ap (λ (x : List (List ℕ)). codes "." ∷ x) parts.0;
            alone = λ after. ok_part-same text p.value (n + 1) p.number after parts.1 parts.2;
          };
          count = omega (arith, parts.2);
          value = sym parts.1 ∙ sym (append-nil text);
        }
    by_tests true false false e g k later h = cc
    by_tests true false true e g k later h =
        let rest = later h in
        record {
          own = line ∷ rest.own;
          takes = record {
            split = ap (λ (x : List (List ℕ)). line ∷ x) rest.takes.split;
            alone = λ after. rw (e, g, k) (rest.takes.alone after);
          };
          count = omega (arith, rest.count);
          value = rest.value ∙ append_assoc text (line ++ 10 ∷ []) (text_of rest.own) ∙ ap (λ (x : List ℕ). text ++ x) (append_assoc line (10 ∷ []) (text_of rest.own));
        }

-- ---- a setup

record TakesSetup (n : ℕ) (read : List (List ℕ) → Result (Part Setup) Cause) (before : List ℕ) (lines : List (List ℕ)) (p : Part Setup) : Type 0 where
  own : List (List ℕ)
  takes : Takes read lines p own
  count : n + length own ≡ p.number
  text : p.value.text ≡ before ++ text_of own

text_of-append : (xs ys : List (List ℕ)) → text_of (xs ++ ys) ≡ text_of xs ++ text_of ys
text_of-append [] ys = refl
text_of-append (x ∷ xs) ys = ap (λ (y : List ℕ). x ++ 10 ∷ y) (text_of-append xs ys) ∙ sym (append_assoc x (10 ∷ text_of xs) (text_of ys))

spec_in-ok : (number : ℕ) (left : List (List ℕ)) (text : List ℕ) (r : Result Spec SpecError) (p : Part Setup) → spec_in number left text r ≡ Ok p
    → (p.value.text ≡ text) × (left ≡ p.left) × (number ≡ p.number) × ((later : List (List ℕ)) → spec_in number later text r ≡ Ok (part p.value p.number later))
spec_in-ok number left text (Err why) p h = cc
spec_in-ok number left text (Ok spec) p h =
    let parts = part-left (setup_of spec text) number left p (Ok (part (setup_of spec text) number left)) h refl in
    (ap (λ (x : Setup). x.text) (sym parts.1), parts.0, parts.2, λ later. ok_part-same (setup_of spec text) p.value number p.number later parts.1 parts.2)

config_in-ok : (number : ℕ) (r : Result Config ConfigError) (next : Config → Result (Part Setup) Cause) (p : Part Setup) → config_in number r next ≡ Ok p
    → (config : Config) × (r ≡ Ok config) × (next config ≡ Ok p)
config_in-ok number (Ok config) next p h = (config, refl, h)
config_in-ok number (Err why) next p h = cc

config_in-same : (number : ℕ) (r : Result Config ConfigError) (config : Config) (next : Config → Result (Part Setup) Cause) (p : Part Setup) → r ≡ Ok config → next config ≡ Ok p
    → config_in number r next ≡ Ok p
config_in-same number r config next p e h = rw e h

-- the text of a block with its word and its point
block_text : (word : List ℕ) (own : List (List ℕ)) → text_of (word ∷ (own ++ codes "." ∷ [])) ≡ (word ++ 10 ∷ []) ++ (text_of own ++ codes ".\n")
block_text word own =
    ap (λ (x : List ℕ). word ++ 10 ∷ x) (text_of-append own (codes "." ∷ [])) ∙ sym (append_assoc word (10 ∷ []) (text_of own ++ codes ".\n"))

-- how many lines a word, a block with its point, and what follows them are
block_count : (n m k j : ℕ) (word : List ℕ) (own more : List (List ℕ)) → n + 1 ≡ m → m + length own + 1 ≡ k → k + length more ≡ j
    → n + length ((word ∷ []) ++ ((own ++ codes "." ∷ []) ++ more)) ≡ j
block_count n m k j word own more a b d = omega (arith, length-append (own ++ codes "." ∷ []) more, length-append own (codes "." ∷ []))

revision-takes : (line block : List ℕ) (slots : Slots) (config : Config) (n : ℕ) (lines : List (List ℕ)) (p : Part Setup) → revision_part line block slots config n lines ≡ Ok p
    → TakesSetup n (revision_part line block slots config n) (line ++ (codes "config\n" ++ (block ++ codes ".\n"))) lines p
unfolding revision_part
revision-takes line block slots config n lines p h =
    let first = then_part-ok (word_part (codes "revision") n lines) _ p h in
    let w = first.0 in
    let second = then_part-ok (block_part [] w.number w.left) _ p first.2 in
    let b = second.0 in
    let text = blocks_text line block b.value in
    let said = spec_of config b.value slots in
    let last = spec_in-ok b.number b.left text said p second.2 in
    let word = word-takes (codes "revision") n lines w first.1 in
    let body = block-takes [] w.number w.left b second.1 in
    record {
      own = (codes "revision" ∷ []) ++ ((body.own ++ codes "." ∷ []) ++ []);
      count = block_count n w.number b.number p.number (codes "revision") body.own [] word.0 body.count (omega (arith, last.2));
      takes = then-takes (word_part (codes "revision") n) (λ _ n lines. then_part (block_part [] n lines) (λ revision n left. spec_in n left (blocks_text line block revision) (spec_of config revision slots)))
          lines w p (codes "revision" ∷ []) ((body.own ++ codes "." ∷ []) ++ []) word.1
          (then-takes (block_part [] w.number) (λ revision n left. spec_in n left (blocks_text line block revision) (spec_of config revision slots))
          w.left b p (body.own ++ codes "." ∷ []) [] body.takes (record { split = last.1; alone = last.3 }));
      text = last.0 ∙ ap (λ (x : List ℕ). blocks_text line block x) body.value
          ∙ ap (λ (x : List ℕ). (line ++ (codes "config\n" ++ (block ++ codes ".\n"))) ++ x)
          (sym (block_text (codes "revision") body.own) ∙ ap (λ (x : List (List ℕ)). text_of (codes "revision" ∷ x)) (sym (append-nil (body.own ++ codes "." ∷ []))));
    }

blocks-takes : (line : List ℕ) (slots : Slots) (n : ℕ) (lines : List (List ℕ)) (p : Part Setup) → blocks_part line slots n lines ≡ Ok p
    → TakesSetup n (blocks_part line slots n) line lines p
unfolding blocks_part
blocks-takes line slots n lines p h =
    let first = then_part-ok (word_part (codes "config") n lines) _ p h in
    let w = first.0 in
    let second = then_part-ok (block_part [] w.number w.left) _ p first.2 in
    let b = second.0 in
    let judged = config_in-ok b.number (config_of b.value) (λ config. revision_part line b.value slots config b.number b.left) p second.2 in
    let rest = revision-takes line b.value slots judged.0 b.number b.left p judged.2 in
    let word = word-takes (codes "config") n lines w first.1 in
    let body = block-takes [] w.number w.left b second.1 in
    let after : Takes (λ ls. config_in b.number (config_of b.value) (λ config. revision_part line b.value slots config b.number ls)) b.left p rest.own =
    record { split = rest.takes.split; alone = λ later. config_in-same b.number (config_of b.value) judged.0 (λ config. revision_part line b.value slots config b.number (rest.own ++ later)) (part p.value p.number later) judged.1 (rest.takes.alone later) } in
    record {
      own = (codes "config" ∷ []) ++ ((body.own ++ codes "." ∷ []) ++ rest.own);
      count = block_count n w.number b.number p.number (codes "config") body.own rest.own word.0 body.count rest.count;
      takes = then-takes (word_part (codes "config") n) (λ _ n lines. then_part (block_part [] n lines) (λ block n lines. config_in n (config_of block) (λ config. revision_part line block slots config n lines)))
          lines w p (codes "config" ∷ []) ((body.own ++ codes "." ∷ []) ++ rest.own) word.1
          (then-takes (block_part [] w.number) (λ block n lines. config_in n (config_of block) (λ config. revision_part line block slots config n lines))
          w.left b p (body.own ++ codes "." ∷ []) rest.own body.takes after);
      text = rest.text ∙ ap (λ (x : List ℕ). (line ++ (codes "config\n" ++ (x ++ codes ".\n"))) ++ text_of rest.own) body.value
          ∙ append_assoc line (codes "config\n" ++ (text_of body.own ++ codes ".\n")) (text_of rest.own)
          ∙ ap (λ (x : List ℕ). line ++ (x ++ text_of rest.own)) (sym (block_text (codes "config") body.own))
          ∙ ap (λ (x : List ℕ). line ++ x) (sym (text_of-append (codes "config" ∷ (body.own ++ codes "." ∷ [])) rest.own));
    }

pub record TakesLines (n : ℕ) (read : List (List ℕ) → Result (Part Setup) Cause) (lines : List (List ℕ)) (p : Part Setup) : Type 0 where
  pub line : List ℕ
  pub more : List (List ℕ)
  pub takes : Takes read lines p (line ∷ more)
  pub count : n + length (line ∷ more) ≡ p.number
  pub text : p.value.text ≡ text_of (line ∷ more)

behind-takes : (n : ℕ) (line : List ℕ) (left : List (List ℕ)) (p : Part Setup) (r : Result SetupLine SetupError) → setup_line line ≡ r → fits line ≡ true
    → behind_line (line ++ 10 ∷ []) r (n + 1) left ≡ Ok p → TakesLines n (setup_part n) (line ∷ left) p
unfolding setup_part
behind-takes n line left p (Err why) e fit h = cc
behind-takes n line left p (Ok (Fixed limit pods timeout slots)) e fit h =
    let made = setup_of (fixed_spec limit pods timeout slots) (line ++ 10 ∷ []) in
    let parts = part-left made (n + 1) left p (Ok (part made (n + 1) left)) h refl in
    record {
      line = line;
      more = [];
      count = omega (arith, parts.2);
      takes = record {
        split = ap (λ (x : List (List ℕ)). line ∷ x) parts.0;
        alone = λ later. with_line-fits n line later setup_in fit ∙ rw e (ok_part-same made p.value (n + 1) p.number later parts.1 parts.2);
      };
      text = ap (λ (x : Setup). x.text) (sym parts.1);
    }
behind-takes n line left p (Ok (Kpa slots)) e fit h =
    let rest = blocks-takes (line ++ 10 ∷ []) slots (n + 1) left p h in
    record {
      line = line;
      more = rest.own;
      count = omega (arith, rest.count);
      takes = record {
        split = ap (λ (x : List (List ℕ)). line ∷ x) rest.takes.split;
        alone = λ later. with_line-fits n line (rest.own ++ later) setup_in fit ∙ rw e (rest.takes.alone later);
      };
      text = rest.text ∙ append_assoc line (10 ∷ []) (text_of rest.own);
    }

-- a setup takes one line or more, and its text is these lines
pub setup-takes : (n : ℕ) (lines : List (List ℕ)) (p : Part Setup) → setup_part n lines ≡ Ok p → TakesLines n (setup_part n) lines p
unfolding setup_part
setup-takes n lines p h =
    let has = with_line-ok n lines setup_in p h in
    let P : List (List ℕ) → Type 0 = λ x. TakesLines n (setup_part n) x p in
    subst P (sym has.split) (behind-takes n has.line has.more p (setup_line has.line) refl has.fit has.rest)
