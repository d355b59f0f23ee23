-- What is left behind a line of a setup that was refused.
use Rattle.std.proofs.Common.{◌≡◌, ◌+◌, ◌≤◌, ◌<◌, ℕ, Bool, true, false, List, [], ◌∷◌, ◌++◌, length, length-append, append_assoc, refl, sym, ap, ◌∙◌, subst, arith}
use Rattle.std.specs.Prelude.{Option, None, Some, Result, Ok, Err, IfErr, codes, if◌then◌else◌, ⊤}
use Rattle.std.specs.Str.{bytes_eq}
use Rattle.std.proofs.lemmas.Grind.{common_steps}
use Rattle.kn_event.specs.declared.revision.Slots.{Slots}
use Rattle.kn_event.specs.declared.revision.Spec.{Spec}
use Rattle.kn_config.specs.declared.config.Config.{Config}
use Rattle.kn_config.specs.declared.config.ConfigError.{ConfigError}
use Rattle.kn_config.specs.declared.config.ConfigError.TheVariants as config_fault
use Rattle.kn_config.specs.Config.{config_of, GivesConfig}
use Rattle.kn_revision.specs.declared.error.SpecError.{SpecError}
use Rattle.kn_revision.specs.declared.error.SpecError.TheVariants as spec_fault
use Rattle.kn_revision.specs.Revision.{spec_of, GivesSpec}
use Rattle.kn_preamble.specs.declared.first.FirstLine.{FirstLine}
use Rattle.kn_journal.specs.declared.error.JournalError.{JournalError}
use Rattle.kn_journal.specs.declared.error.JournalError.TheVariants as error
use Rattle.kn_preamble.specs.declared.error.SetupError.{SetupError}
use Rattle.kn_preamble.specs.declared.error.SetupError.TheVariants as setup_error
use Rattle.kn_journal.specs.declared.journal.Setup.{Setup}
use Rattle.kn_preamble.specs.declared.setting.SetupLine.{SetupLine}
use Rattle.kn_journal.specs.Causes.{Cause, bad_first_line, bad_setup, error_of}
use Rattle.kn_journal.specs.Journal.{first_in, first_part, opening_part, version_in}
use Rattle.kn_journal.specs.Lines.{fits, lines}
use Rattle.kn_journal.specs.Parts.{Part, part, then_part}
use Rattle.kn_journal.specs.Reading.{TakesLine}
use Rattle.kn_preamble.specs.First.{version_by}
use Rattle.kn_preamble.specs.SetupLine.{setup_line}
use Rattle.kn_journal.specs.Setup.{behind_line, block_most, block_part, blocks_part, blocks_text, config_in, fits_block, longer, revision_part, setup_in, setup_part, spec_in, word_in, word_part}
use Rattle.kn_journal.specs.Telling.{Gives, IsLineFault, Judges, LeavesRest, config_error, refused_line, revision_error}
use Rattle.kn_journal.proofs.Blocks.{IsBlock, longer-length}
use Rattle.kn_journal.proofs.Consumed.{with_line-fits}
use Rattle.kn_journal.proofs.Rests.{IsNamed, line-leaves, line-rest, refused-named}
use Rattle.kn_journal.proofs.Setups.{block-own, config_block, first-own, judge_config, judge_revision, opened, revision_block, setup_behind, word-own}
use Rattle.kn_journal.proofs.Stops.{HasOwn}

-- ---- of two parts

first-rest : {S T : Type 0} (first : List (List ℕ) → Result (Part S) Cause) (second : S → ℕ → List (List ℕ) → Result (Part T) Cause) (n : ℕ) (begin : Option ℕ) (e : JournalError) (old new : Option (List ℕ))
    → LeavesRest first n begin e old new → LeavesRest (λ ls. then_part (first ls) second) n begin e old new
first-rest first second n begin e None new h = tt
first-rest first second n begin e (Some xs) None h = absurd h
first-rest first second n begin e (Some xs) (Some ys) (own, split, named, (cause, same, refused)) = (own, split, named, (cause, same, rw refused refl))

second-rest : {S T : Type 0} (first : List (List ℕ) → Result (Part S) Cause) (second : S → ℕ → List (List ℕ) → Result (Part T) Cause) (x : S) (n m : ℕ) (begin : Option ℕ) (e : JournalError) (old mid new : Option (List ℕ))
    → HasOwn n first → Gives first x m old mid → LeavesRest (second x m) m begin e mid new → LeavesRest (λ ls. then_part (first ls) second) n begin e old new
second-rest first second x n m begin e None mid new takes g h = tt
second-rest first second x n m begin e (Some xs) None new takes g h = absurd g
second-rest first second x n m begin e (Some xs) (Some ys) None takes g h = absurd h
second-rest first second x n m begin e (Some xs) (Some ys) (Some zs) takes g (more, split, named, (cause, same, refused)) =
    let all = takes (lines xs) (part x m (lines ys)) g in
    let own = all.0 in
    let taken = all.2 in
    let count : m + length more ≡ n + length (own ++ more) = omega (arith, all.1, length-append own more) in (
      own ++ more,
      taken.split ∙ ap (λ (y : List (List ℕ)). own ++ y) split ∙ sym (append_assoc own more (lines zs)),
      named ∙ ap (λ (y : ℕ). Some y) count,
      (cause, same, rw (taken.alone more) refused),
    )

-- nothing more was taken, so that the line read last was refused
leaf-rest : {T : Type 0} (read : List (List ℕ) → Result (Part T) Cause) (n : ℕ) (e : JournalError) (cause : Cause) (new : Option (List ℕ)) → error_of cause ≡ e → refused_line None e ≡ Some n → read [] ≡ Err cause
    → LeavesRest read n None e new new
leaf-rest read n e cause None is named refused = tt
leaf-rest read n e cause (Some xs) is named refused =
    let own : List (List ℕ) = [] in
    let count : n ≡ n + length own = omega arith in
    (own, refl, named ∙ ap (λ (x : ℕ). Some x) count, (cause, is, refused))

-- ---- words, blocks and what they say

word-named : (word : List ℕ) (number : ℕ) → IsNamed None (word_in word) number
word-named word number = λ line cause h. by_test (bytes_eq line word) (part tt number []) cause h
  where
    by_test : (t : Bool) (p : Part ⊤) (cause : Cause) → (if t then Ok p else Err (bad_setup number setup_error.BadWord)) ≡ Err cause → refused_line None (error_of cause) ≡ Some number
    by_test true p cause g = cc
    by_test false p cause g =
        let other : Result (Part ⊤) Cause = Err (bad_setup number setup_error.BadWord) in
        refused-named None number (bad_setup number setup_error.BadWord) cause other g refl refl

pub word-rest : (word : List ℕ) (n number : ℕ) (old new : Option (List ℕ)) (line : List ℕ) (r : Result (Unit {0}) JournalError) → TakesLine old new true line → fits line ≡ true → number ≡ n + 1
    → Judges (word_in word) number line r → IfErr r (λ e. IsLineFault e → LeavesRest (word_part word n) n None e old new)
unfolding word_part
word-rest word n number old new line r h fit is j = line-rest n number None old new line (word_in word) r h fit is (word-named word (n + 1)) j

pub block-rest : (first : ℕ) (text : List ℕ) (n m : ℕ) (old mid new : Option (List ℕ)) (line : List ℕ) → IsBlock first text n old mid → TakesLine mid new true line → fits line ≡ true → m ≡ n + 1
    → bytes_eq line (codes ".") ≡ false → block_most ≤ length text + length line → LeavesRest (block_part [] first) first None (error.BadSetup m setup_error.BlockTooLong) old new
unfolding block_part
block-rest first text n m None mid new line h k fit e other long = tt
block-rest first text n m (Some xs) None new line h k fit e other long = absurd h
block-rest first text n m (Some xs) (Some ys) None line h k fit e other long = absurd k
block-rest first text n m (Some xs) (Some ys) (Some zs) line h k fit e other long =
    let many : block_most < length (longer text line) = omega (arith, longer-length text line) in
    let none : fits_block (longer text line) ≡ false = grind (arith, common_steps) in
    let count : m ≡ first + length (h.own ++ line ∷ []) = omega (arith, h.count, e, length-append h.own (line ∷ [])) in (
      h.own ++ line ∷ [],
      h.split ∙ ap (λ (x : List (List ℕ)). h.own ++ x) k ∙ sym (append_assoc h.own (line ∷ []) (lines zs)),
      ap (λ (x : ℕ). Some x) count,
      (bad_setup (n + 1) setup_error.BlockTooLong, ap (λ (x : ℕ). error.BadSetup x setup_error.BlockTooLong) (sym e), h.same (line ∷ []) ∙ rw (fit, other, none) refl),
    )

spec-leaf : (n : ℕ) (text : List ℕ) (why : SpecError) (r : Result Spec SpecError) (new : Option (List ℕ)) → Err why ≡ r → revision_error n why ≡ error.BadSetup n (setup_error.Revision why)
    → LeavesRest (λ ls. spec_in n ls text r) n None (revision_error n why) new new
spec-leaf n text why r new h e = leaf-rest (λ ls. spec_in n ls text r) n (revision_error n why) (bad_setup n (setup_error.Revision why)) new (sym e) (ap (refused_line None) e) (rw (sym h) refl)

pub spec-rest : (n : ℕ) (text : List ℕ) (why : SpecError) (r : Result Spec SpecError) (new : Option (List ℕ)) → GivesSpec (Err why) r → IsLineFault (revision_error n why)
    → LeavesRest (λ ls. spec_in n ls text r) n None (revision_error n why) new new
spec-rest n text spec_fault.Memory r new h is = absurd is
spec-rest n text spec_fault.NotJson r new h is = spec-leaf n text spec_fault.NotJson r new h refl
spec-rest n text (spec_fault.Missing f) r new h is = spec-leaf n text (spec_fault.Missing f) r new h refl
spec-rest n text (spec_fault.NotText k) r new h is = spec-leaf n text (spec_fault.NotText k) r new h refl
spec-rest n text (spec_fault.BadValue k e) r new h is = spec-leaf n text (spec_fault.BadValue k e) r new h refl
spec-rest n text (spec_fault.OutOfRange k) r new h is = spec-leaf n text (spec_fault.OutOfRange k) r new h refl
spec-rest n text spec_fault.ZeroInitial r new h is = spec-leaf n text spec_fault.ZeroInitial r new h refl

config-leaf : (n : ℕ) (why : ConfigError) (r : Result Config ConfigError) (next : List (List ℕ) → Config → Result (Part Setup) Cause) (new : Option (List ℕ)) → Err why ≡ r
    → config_error n why ≡ error.BadSetup n (setup_error.Config why) → LeavesRest (λ ls. config_in n r (next ls)) n None (config_error n why) new new
config-leaf n why r next new h e = leaf-rest (λ ls. config_in n r (next ls)) n (config_error n why) (bad_setup n (setup_error.Config why)) new (sym e) (ap (refused_line None) e) (rw (sym h) refl)

pub config-rest : (n : ℕ) (why : ConfigError) (r : Result Config ConfigError) (next : List (List ℕ) → Config → Result (Part Setup) Cause) (new : Option (List ℕ)) → GivesConfig (Err why) r
    → IsLineFault (config_error n why) → LeavesRest (λ ls. config_in n r (next ls)) n None (config_error n why) new new
config-rest n config_fault.Memory r next new h is = absurd is
config-rest n config_fault.NotJson r next new h is = config-leaf n config_fault.NotJson r next new h refl
config-rest n config_fault.DataShape r next new h is = config-leaf n config_fault.DataShape r next new h refl
config-rest n (config_fault.NotText k) r next new h is = config-leaf n (config_fault.NotText k) r next new h refl
config-rest n (config_fault.BadValue k e) r next new h is = config-leaf n (config_fault.BadValue k e) r next new h refl
config-rest n (config_fault.OutOfRange k) r next new h is = config-leaf n (config_fault.OutOfRange k) r next new h refl

-- ---- the Revision

pub revision-word_rest : (line block : List ℕ) (slots : Slots) (config : Config) (n : ℕ) (e : JournalError) (old new : Option (List ℕ))
    → LeavesRest (word_part (codes "revision") n) n None e old new → LeavesRest (revision_part line block slots config n) n None e old new
unfolding revision_part
revision-word_rest line block slots config n e old new h = first-rest (word_part (codes "revision") n) (revision_block line block slots config) n None e old new h

pub revision-block_rest : (line block : List ℕ) (slots : Slots) (config : Config) (n m : ℕ) (e : JournalError) (old mid new : Option (List ℕ)) (u : Unit {0})
    → Gives (word_part (codes "revision") n) u m old mid → LeavesRest (block_part [] m) m None e mid new → LeavesRest (revision_part line block slots config n) n None e old new
unfolding revision_part
revision-block_rest line block slots config n m e old mid new u w h =
    second-rest (word_part (codes "revision") n) (revision_block line block slots config) u n m None e old mid new (word-own (codes "revision") n) w
    (first-rest (block_part [] m) (judge_revision line block slots config) m None e mid new h)

pub revision-spec_rest : (line block : List ℕ) (slots : Slots) (config : Config) (n m k : ℕ) (e : JournalError) (old mid new : Option (List ℕ)) (u : Unit {0}) (text : List ℕ)
    → Gives (word_part (codes "revision") n) u m old mid → Gives (block_part [] m) text k mid new
    → LeavesRest (λ ls. spec_in k ls (blocks_text line block text) (spec_of config text slots)) k None e new new → LeavesRest (revision_part line block slots config n) n None e old new
unfolding revision_part
revision-spec_rest line block slots config n m k e old mid new u text w b h =
    second-rest (word_part (codes "revision") n) (revision_block line block slots config) u n m None e old mid new (word-own (codes "revision") n) w
    (second-rest (block_part [] m) (judge_revision line block slots config) text m k None e mid new new (block-own m) b h)

-- ---- the configuration, and then the Revision

pub blocks-word_rest : (line : List ℕ) (slots : Slots) (n : ℕ) (e : JournalError) (old new : Option (List ℕ)) → LeavesRest (word_part (codes "config") n) n None e old new → LeavesRest (blocks_part line slots n) n None e old new
unfolding blocks_part
blocks-word_rest line slots n e old new h = first-rest (word_part (codes "config") n) (config_block line slots) n None e old new h

pub blocks-block_rest : (line : List ℕ) (slots : Slots) (n m : ℕ) (e : JournalError) (old mid new : Option (List ℕ)) (u : Unit {0})
    → Gives (word_part (codes "config") n) u m old mid → LeavesRest (block_part [] m) m None e mid new → LeavesRest (blocks_part line slots n) n None e old new
unfolding blocks_part
blocks-block_rest line slots n m e old mid new u w h =
    second-rest (word_part (codes "config") n) (config_block line slots) u n m None e old mid new (word-own (codes "config") n) w
    (first-rest (block_part [] m) (judge_config line slots) m None e mid new h)

pub blocks-config_rest : (line : List ℕ) (slots : Slots) (n m k : ℕ) (e : JournalError) (old mid after new : Option (List ℕ)) (u : Unit {0}) (block : List ℕ)
    → Gives (word_part (codes "config") n) u m old mid → Gives (block_part [] m) block k mid after
    → LeavesRest (λ ls. config_in k (config_of block) (λ config. revision_part line block slots config k ls)) k None e after new → LeavesRest (blocks_part line slots n) n None e old new
unfolding blocks_part
blocks-config_rest line slots n m k e old mid after new u block w b h =
    second-rest (word_part (codes "config") n) (config_block line slots) u n m None e old mid new (word-own (codes "config") n) w
    (second-rest (block_part [] m) (judge_config line slots) block m k None e mid after new (block-own m) b h)

pub config-on_rest : (n : ℕ) (e : JournalError) (config : Config) (r : Result Config ConfigError) (next : List (List ℕ) → Config → Result (Part Setup) Cause) (mid new : Option (List ℕ))
    → Ok config ≡ r → LeavesRest (λ ls. next ls config) n None e mid new → LeavesRest (λ ls. config_in n r (next ls)) n None e mid new
config-on_rest n e config r next mid new h t = subst (λ (x : Result Config ConfigError). LeavesRest (λ ls. config_in n x (next ls)) n None e mid new) h t

-- ---- a setup

pub setup-bad_rest : (n number : ℕ) (old mid : Option (List ℕ)) (line : List ℕ) (why : SetupError) → TakesLine old mid true line → fits line ≡ true → number ≡ n + 1 → Err why ≡ setup_line line
    → LeavesRest (setup_part n) n None (error.BadSetup number why) old mid
unfolding setup_part
setup-bad_rest n number old mid line why h fit e is =
    line-leaves n None old mid line setup_in (error.BadSetup number why) (bad_setup (n + 1) why) h fit (ap (λ (x : ℕ). error.BadSetup x why) (sym e)) (ap (λ (x : ℕ). Some x) e) (rw (sym is) refl)

-- what follows the first line was refused
pub behind-rest : (n number : ℕ) (e : JournalError) (old mid new : Option (List ℕ)) (line text : List ℕ) (said : SetupLine) → TakesLine old mid true line → fits line ≡ true
    → number ≡ n + 1 → Ok said ≡ setup_line line → text ≡ line ++ 10 ∷ [] → LeavesRest (behind_line text (Ok said) number) number None e mid new → LeavesRest (setup_part n) n None e old new
unfolding setup_part
behind-rest n number e None mid new line text said h fit is read whole t = tt
behind-rest n number e (Some xs) None new line text said h fit is read whole t = absurd h
behind-rest n number e (Some xs) (Some ys) None line text said h fit is read whole t = absurd t
behind-rest n number e (Some xs) (Some ys) (Some zs) line text said h fit is read whole (own, split, named, (cause, same, refused)) =
    let count : number + length own ≡ n + length (line ∷ own) = omega (arith, is) in
    let counted = subst (λ (m : ℕ). behind_line text (Ok said) m own ≡ Err cause) is refused in
    let told = subst (λ (t : List ℕ). behind_line t (Ok said) (n + 1) own ≡ Err cause) whole counted in
    let judged = subst (λ (x : Result SetupLine SetupError). behind_line (line ++ 10 ∷ []) x (n + 1) own ≡ Err cause) read told in
    (line ∷ own, h ∙ ap (λ (x : List (List ℕ)). line ∷ x) split, named ∙ ap (λ (x : ℕ). Some x) count, (cause, same, with_line-fits n line own setup_in fit ∙ judged))

pub setup-rest : (n number : ℕ) (old mid new : Option (List ℕ)) (line text : List ℕ) (said : SetupLine) (r : Result Setup JournalError) → TakesLine old mid true line → fits line ≡ true
    → number ≡ n + 1 → Ok said ≡ setup_line line → text ≡ line ++ 10 ∷ [] → IfErr r (λ e. IsLineFault e → LeavesRest (behind_line text (Ok said) number) number None e mid new)
    → IfErr r (λ e. IsLineFault e → LeavesRest (setup_part n) n None e old new)
setup-rest n number old mid new line text said (Ok s) h fit is read whole t = tt
setup-rest n number old mid new line text said (Err e) h fit is read whole t = λ k. behind-rest n number e old mid new line text said h fit is read whole (t k)

-- ---- a first line, and then a setup

first-named : (due : FirstLine) (number : ℕ) → IsNamed (Some number) (first_in due) number
first-named due number = λ line cause h. by_version (version_by due line) cause h
  where
    by_version : (v : Option ℕ) (cause : Cause) → version_in due number [] v ≡ Err cause → refused_line (Some number) (error_of cause) ≡ Some number
    by_version (Some version) cause g = cc
    by_version None cause g = refused-named (Some number) number (bad_first_line due) cause (version_in due number [] None) g refl refl

pub version-rest : (due : FirstLine) (n number : ℕ) (old new : Option (List ℕ)) (line : List ℕ) (r : Result ℕ JournalError) → TakesLine old new true line → fits line ≡ true → number ≡ n + 1
    → Judges (first_in due) number line r → IfErr r (λ e. IsLineFault e → LeavesRest (first_part due n) n (Some (n + 1)) e old new)
unfolding first_part
version-rest due n number old new line r h fit is j = line-rest n number (Some (n + 1)) old new line (first_in due) r h fit is (first-named due (n + 1)) j

pub opening-first_rest : (due : FirstLine) (n : ℕ) (e : JournalError) (old new : Option (List ℕ)) → LeavesRest (first_part due n) n (Some (n + 1)) e old new
    → LeavesRest (opening_part due n) n (Some (n + 1)) e old new
unfolding opening_part
opening-first_rest due n e old new h = first-rest (first_part due n) setup_behind n (Some (n + 1)) e old new h

-- an error that names a line is no bad first line
still-named : (begin : Option ℕ) (k : ℕ) (e : JournalError) → refused_line None e ≡ Some k → refused_line begin e ≡ Some k
still-named begin k error.ReadFault h = h
still-named begin k (error.LineTooLong n) h = h
still-named begin k (error.BadFirstLine due) h = cc
still-named begin k (error.BadSetup n why) h = h
still-named begin k (error.BadLine n why) h = h
still-named begin k (error.TimeBack n before own) h = h
still-named begin k (error.TimeTooLarge n) h = h
still-named begin k error.NoEnd h = h
still-named begin k (error.AfterEnd n) h = h
still-named begin k (error.TooMany n) h = h
still-named begin k error.Memory h = h

still-rest : {T : Type 0} (read : List (List ℕ) → Result (Part T) Cause) (n : ℕ) (begin : Option ℕ) (e : JournalError) (old new : Option (List ℕ)) → LeavesRest read n None e old new → LeavesRest read n begin e old new
still-rest read n begin e None new h = tt
still-rest read n begin e (Some xs) None h = absurd h
still-rest read n begin e (Some xs) (Some ys) (own, split, named, why) = (own, split, still-named begin (n + length own) e named, why)

pub opening-setup_rest : (due : FirstLine) (n m version : ℕ) (e : JournalError) (old mid new : Option (List ℕ)) → Gives (first_part due n) version m old mid → LeavesRest (setup_part m) m None e mid new
    → LeavesRest (opening_part due n) n (Some (n + 1)) e old new
unfolding opening_part
opening-setup_rest due n m version e old mid new f h =
    second-rest (first_part due n) setup_behind version n m (Some (n + 1)) e old mid new (first-own due n) f
    (first-rest (setup_part m) (opened version) m (Some (n + 1)) e mid new (still-rest (setup_part m) m (Some (n + 1)) e mid new h))
