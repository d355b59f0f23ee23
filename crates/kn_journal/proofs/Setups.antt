-- A setup, part by part.
use Rattle.std.proofs.Common.{◌≡◌, ◌+◌, ℕ, Bool, true, List, [], ◌∷◌, ◌++◌, length-append, refl, sym, ap, subst, arith}
use Rattle.std.specs.Prelude.{Option, None, Some, Result, Ok, Err, codes}
use Rattle.kn_event.specs.declared.revision.Slots.{Slots}
use Rattle.kn_event.specs.declared.revision.Spec.{Spec}
use Rattle.kn_config.specs.declared.config.Config.{Config}
use Rattle.kn_config.specs.declared.config.ConfigError.{ConfigError}
use Rattle.kn_config.specs.declared.config.ConfigError.TheVariants as config_fault
use Rattle.kn_config.specs.Config.{config_of, GivesConfig}
use Rattle.kn_revision.specs.declared.error.SpecError.{SpecError}
use Rattle.kn_revision.specs.declared.error.SpecError.TheVariants as spec_fault
use Rattle.kn_revision.specs.Revision.{spec_of, GivesSpec}
use Rattle.kn_preamble.specs.declared.first.FirstLine.{FirstLine}
use Rattle.kn_journal.specs.declared.error.JournalError.{JournalError}
use Rattle.kn_journal.specs.declared.error.JournalError.TheVariants as error
use Rattle.kn_preamble.specs.declared.error.SetupError.TheVariants as setup_error
use Rattle.kn_journal.specs.declared.journal.Setup.{Setup}
use Rattle.kn_journal.specs.Causes.{Cause, bad_setup}
use Rattle.kn_preamble.specs.declared.error.SetupError.{SetupError}
use Rattle.kn_journal.specs.declared.journal.Opening.{Opening}
use Rattle.kn_preamble.specs.declared.setting.SetupLine.{SetupLine}
use Rattle.kn_journal.specs.Journal.{first_in, first_part, opening_in, opening_part, version_in}
use Rattle.kn_journal.specs.Lines.{fits}
use Rattle.kn_journal.specs.Reading.{TakesLine, TakesPart, TakesText}
use Rattle.kn_journal.specs.Parts.{Part, part, then_part}
use Rattle.kn_journal.specs.Setup.{behind_line, block_part, blocks_part, blocks_text, config_in, revision_part, setup_in, setup_of, setup_part, spec_in, word_part}
use Rattle.kn_preamble.specs.First.{version_by}
use Rattle.kn_preamble.specs.SetupLine.{setup_line}
use Rattle.kn_journal.specs.Telling.{Gives, Lacks, Refuses, StopsAmid, Tells, config_error, revision_error}
use Rattle.kn_journal.proofs.Tellings.{lacks_refuses, line-refuses, line-then, then-gives, then-refuses}
use Rattle.kn_journal.proofs.Consumed.{IsOneLine, block-takes, line-takes, ok_part-same, part-left, with_line-ok, word-takes}
use Rattle.kn_journal.proofs.Stops.{HasOwn, first-stops, line-stops, part-stops, second-stops}

-- ---- what a block said

pub spec-good : (n : ℕ) (text : List ℕ) (spec : Spec) (r : Result Spec SpecError) (s : Setup) (new : Option (List ℕ)) → Ok spec ≡ r → s ≡ setup_of spec text
    → Gives (λ ls. spec_in n ls text r) s n new new
spec-good n text spec r s None h e = tt
spec-good n text spec r s (Some xs) h e = rw (sym h, e) refl

memory-refuses : {T : Type 0} (read : List (List ℕ) → Result (Part T) Cause) (old : Option (List ℕ)) → Refuses read error.Memory old
memory-refuses read None = tt
memory-refuses read (Some xs) = tt

pub is_memory : {T : Type 0} (read : List (List ℕ) → Result (Part T) Cause) (e : JournalError) (old : Option (List ℕ)) → e ≡ error.Memory → Refuses read e old
is_memory read e old h = rw h (memory-refuses read old)

spec-fault : (n : ℕ) (text : List ℕ) (why : SpecError) (r : Result Spec SpecError) (new : Option (List ℕ)) → Err why ≡ r → revision_error n why ≡ error.BadSetup n (setup_error.Revision why)
    → Refuses (λ ls. spec_in n ls text r) (revision_error n why) new
spec-fault n text why r None h e = tt
spec-fault n text why r (Some xs) h e = rw e (bad_setup n (setup_error.Revision why), refl, rw (sym h) refl)

pub spec-bad : (n : ℕ) (text : List ℕ) (why : SpecError) (r : Result Spec SpecError) (new : Option (List ℕ)) → GivesSpec (Err why) r → Refuses (λ ls. spec_in n ls text r) (revision_error n why) new
spec-bad n text spec_fault.Memory r new h = memory-refuses (λ ls. spec_in n ls text r) new
spec-bad n text spec_fault.NotJson r new h = spec-fault n text spec_fault.NotJson r new h refl
spec-bad n text (spec_fault.Missing f) r new h = spec-fault n text (spec_fault.Missing f) r new h refl
spec-bad n text (spec_fault.NotText k) r new h = spec-fault n text (spec_fault.NotText k) r new h refl
spec-bad n text (spec_fault.BadValue k e) r new h = spec-fault n text (spec_fault.BadValue k e) r new h refl
spec-bad n text (spec_fault.OutOfRange k) r new h = spec-fault n text (spec_fault.OutOfRange k) r new h refl
spec-bad n text spec_fault.ZeroInitial r new h = spec-fault n text spec_fault.ZeroInitial r new h refl

config-fault : (n : ℕ) (why : ConfigError) (r : Result Config ConfigError) (next : List (List ℕ) → Config → Result (Part Setup) Cause) (new : Option (List ℕ)) → Err why ≡ r
    → config_error n why ≡ error.BadSetup n (setup_error.Config why) → Refuses (λ ls. config_in n r (next ls)) (config_error n why) new
config-fault n why r next None h e = tt
config-fault n why r next (Some xs) h e = rw e (bad_setup n (setup_error.Config why), refl, rw (sym h) refl)

pub config-bad : (n : ℕ) (why : ConfigError) (r : Result Config ConfigError) (next : List (List ℕ) → Config → Result (Part Setup) Cause) (new : Option (List ℕ)) → GivesConfig (Err why) r
    → Refuses (λ ls. config_in n r (next ls)) (config_error n why) new
config-bad n config_fault.Memory r next new h = memory-refuses (λ ls. config_in n r (next ls)) new
config-bad n config_fault.NotJson r next new h = config-fault n config_fault.NotJson r next new h refl
config-bad n config_fault.DataShape r next new h = config-fault n config_fault.DataShape r next new h refl
config-bad n (config_fault.NotText k) r next new h = config-fault n (config_fault.NotText k) r next new h refl
config-bad n (config_fault.BadValue k e) r next new h = config-fault n (config_fault.BadValue k e) r next new h refl
config-bad n (config_fault.OutOfRange k) r next new h = config-fault n (config_fault.OutOfRange k) r next new h refl

-- a configuration that was read, and what follows it
config-on : (m n : ℕ) (config : Config) (r : Result Config ConfigError) (next : List (List ℕ) → Config → Result (Part Setup) Cause) (mid new : Option (List ℕ)) (x : Result Setup JournalError)
    → Ok config ≡ r → Tells (λ ls. next ls config) n mid new x → Tells (λ ls. config_in m r (next ls)) n mid new x
config-on m n config r next None new (Ok s) h t = tt
config-on m n config r next (Some xs) None (Ok s) h t = t
config-on m n config r next (Some xs) (Some ys) (Ok s) h t = rw (sym h) t
config-on m n config r next None new (Err e) h t = tt
config-on m n config r next (Some xs) new (Err e) h t = rw (sym h) t

config-stops : (n : ℕ) (config : Config) (r : Result Config ConfigError) (next : List (List ℕ) → Config → Result (Part Setup) Cause) (mid new : Option (List ℕ))
    → Ok config ≡ r → StopsAmid (λ ls. next ls config) mid new → StopsAmid (λ ls. config_in n r (next ls)) mid new
config-stops n config r next mid new h t = subst (λ (x : Result Config ConfigError). StopsAmid (λ ls. config_in n x (next ls)) mid new) h t

-- ---- the Revision

-- its block, judged
abbrev pub judge_revision : List ℕ → List ℕ → Slots → Config → List ℕ → ℕ → List (List ℕ) → Result (Part Setup) Cause
judge_revision line block slots config text n left = spec_in n left (blocks_text line block text) (spec_of config text slots)

abbrev pub revision_block : List ℕ → List ℕ → Slots → Config → Unit {0} → ℕ → List (List ℕ) → Result (Part Setup) Cause
revision_block line block slots config u n ls = then_part (block_part [] n ls) (judge_revision line block slots config)

pub word-own : (word : List ℕ) (n : ℕ) → HasOwn n (word_part word n)
word-own word n = λ ls p h. let w = word-takes word n ls p h in (word ∷ [], omega (arith, w.0), w.1)

pub block-own : (n : ℕ) → HasOwn n (block_part [] n)
block-own n = λ ls p h.
    let b = block-takes [] n ls p h in
    (b.own ++ codes "." ∷ [], omega (arith, b.count, length-append b.own (codes "." ∷ [])), b.takes)

pub revision-tells : (line block : List ℕ) (slots : Slots) (config : Config) (n m k : ℕ) (old mid new : Option (List ℕ)) (u : Unit {0}) (text : List ℕ) (r : Result Setup JournalError)
    → Gives (word_part (codes "revision") n) u m old mid → Gives (block_part [] m) text k mid new
    → Tells (λ ls. spec_in k ls (blocks_text line block text) (spec_of config text slots)) k new new r → Tells (revision_part line block slots config n) k old new r
unfolding revision_part
revision-tells line block slots config n m k old mid new u text r w b s =
    then-gives (word_part (codes "revision") n) (revision_block line block slots config) u m k old mid new r w
    (then-gives (block_part [] m) (judge_revision line block slots config) text k k mid new new r b s)

pub revision-no_word : (line block : List ℕ) (slots : Slots) (config : Config) (n : ℕ) (old : Option (List ℕ)) (e : JournalError)
    → Refuses (word_part (codes "revision") n) e old → Refuses (revision_part line block slots config n) e old
unfolding revision_part
revision-no_word line block slots config n old e h =
    then-refuses (word_part (codes "revision") n) (revision_block line block slots config) e old h

pub revision-no_block : (line block : List ℕ) (slots : Slots) (config : Config) (n m : ℕ) (old mid : Option (List ℕ)) (u : Unit {0}) (e : JournalError)
    → Gives (word_part (codes "revision") n) u m old mid → Refuses (block_part [] m) e mid → Refuses (revision_part line block slots config n) e old
unfolding revision_part
revision-no_block line block slots config n m old mid u e w h =
    then-gives (word_part (codes "revision") n) (revision_block line block slots config) u m m old mid mid (Err e) w
    (then-refuses (block_part [] m) (judge_revision line block slots config) e mid h)

pub revision-word_stops : (line block : List ℕ) (slots : Slots) (config : Config) (n : ℕ) (old new : Option (List ℕ))
    → StopsAmid (word_part (codes "revision") n) old new → StopsAmid (revision_part line block slots config n) old new
unfolding revision_part
revision-word_stops line block slots config n old new h =
    first-stops (word_part (codes "revision") n) (revision_block line block slots config) old new h

pub revision-block_stops : (line block : List ℕ) (slots : Slots) (config : Config) (n m : ℕ) (c : Bool) (old mid new : Option (List ℕ)) (u : Unit {0})
    → Gives (word_part (codes "revision") n) u m old mid → TakesText c old mid → StopsAmid (block_part [] m) mid new → StopsAmid (revision_part line block slots config n) old new
unfolding revision_part
revision-block_stops line block slots config n m c old mid new u w t h =
    second-stops (word_part (codes "revision") n) (revision_block line block slots config) u n m c old mid new (word-own (codes "revision") n) w t
    (first-stops (block_part [] m) (judge_revision line block slots config) mid new h)

-- ---- the configuration, and then the Revision

abbrev pub judge_config : List ℕ → Slots → List ℕ → ℕ → List (List ℕ) → Result (Part Setup) Cause
judge_config line slots block n ls = config_in n (config_of block) (λ config. revision_part line block slots config n ls)

abbrev pub config_block : List ℕ → Slots → Unit {0} → ℕ → List (List ℕ) → Result (Part Setup) Cause
config_block line slots u n ls = then_part (block_part [] n ls) (judge_config line slots)

pub blocks-tells : (line : List ℕ) (slots : Slots) (n m k j : ℕ) (old mid after new : Option (List ℕ)) (u : Unit {0}) (block : List ℕ) (config : Config) (r : Result Setup JournalError)
    → Gives (word_part (codes "config") n) u m old mid → Gives (block_part [] m) block k mid after → Ok config ≡ config_of block
    → Tells (revision_part line block slots config k) j after new r → Tells (blocks_part line slots n) j old new r
unfolding blocks_part
blocks-tells line slots n m k j old mid after new u block config r w b c t =
    then-gives (word_part (codes "config") n) (config_block line slots) u m j old mid new r w
    (then-gives (block_part [] m) (judge_config line slots) block k j mid after new r b
    (config-on k j config (config_of block) (λ ls config. revision_part line block slots config k ls) after new r c t))

pub blocks-no_word : (line : List ℕ) (slots : Slots) (n : ℕ) (old : Option (List ℕ)) (e : JournalError) → Refuses (word_part (codes "config") n) e old → Refuses (blocks_part line slots n) e old
unfolding blocks_part
blocks-no_word line slots n old e h = then-refuses (word_part (codes "config") n) (config_block line slots) e old h

pub blocks-no_block : (line : List ℕ) (slots : Slots) (n m : ℕ) (old mid : Option (List ℕ)) (u : Unit {0}) (e : JournalError)
    → Gives (word_part (codes "config") n) u m old mid → Refuses (block_part [] m) e mid → Refuses (blocks_part line slots n) e old
unfolding blocks_part
blocks-no_block line slots n m old mid u e w h =
    then-gives (word_part (codes "config") n) (config_block line slots) u m m old mid mid (Err e) w
    (then-refuses (block_part [] m) (judge_config line slots) e mid h)

pub blocks-bad : (line : List ℕ) (slots : Slots) (n m k : ℕ) (old mid after : Option (List ℕ)) (u : Unit {0}) (block : List ℕ) (e : JournalError)
    → Gives (word_part (codes "config") n) u m old mid → Gives (block_part [] m) block k mid after
    → Refuses (λ ls. config_in k (config_of block) (λ config. revision_part line block slots config k ls)) e after → Refuses (blocks_part line slots n) e old
unfolding blocks_part
blocks-bad line slots n m k old mid after u block e w b h =
    then-gives (word_part (codes "config") n) (config_block line slots) u m m old mid mid (Err e) w
    (then-gives (block_part [] m) (judge_config line slots) block k k mid after after (Err e) b h)

pub blocks-word_stops : (line : List ℕ) (slots : Slots) (n : ℕ) (old new : Option (List ℕ)) → StopsAmid (word_part (codes "config") n) old new → StopsAmid (blocks_part line slots n) old new
unfolding blocks_part
blocks-word_stops line slots n old new h = first-stops (word_part (codes "config") n) (config_block line slots) old new h

pub blocks-block_stops : (line : List ℕ) (slots : Slots) (n m : ℕ) (c : Bool) (old mid new : Option (List ℕ)) (u : Unit {0})
    → Gives (word_part (codes "config") n) u m old mid → TakesText c old mid → StopsAmid (block_part [] m) mid new → StopsAmid (blocks_part line slots n) old new
unfolding blocks_part
blocks-block_stops line slots n m c old mid new u w t h =
    second-stops (word_part (codes "config") n) (config_block line slots) u n m c old mid new (word-own (codes "config") n) w t
    (first-stops (block_part [] m) (judge_config line slots) mid new h)

pub blocks-revision_stops : (line : List ℕ) (slots : Slots) (n m k : ℕ) (cut cut_after : Bool) (old mid after new : Option (List ℕ)) (u : Unit {0}) (block : List ℕ) (config : Config)
    → Gives (word_part (codes "config") n) u m old mid → TakesText cut old mid → Gives (block_part [] m) block k mid after → TakesText cut_after mid after → Ok config ≡ config_of block
    → StopsAmid (revision_part line block slots config k) after new → StopsAmid (blocks_part line slots n) old new
unfolding blocks_part
blocks-revision_stops line slots n m k cut cut_after old mid after new u block config w t b d c h =
    second-stops (word_part (codes "config") n) (config_block line slots) u n m cut old mid new (word-own (codes "config") n) w t
    (second-stops (block_part [] m) (judge_config line slots) block m k cut_after mid after new (block-own m) b d
    (config-stops k config (config_of block) (λ ls config. revision_part line block slots config k ls) after new c h))

-- ---- a setup

pub setup-tells : (n number k : ℕ) (old mid new : Option (List ℕ)) (line text : List ℕ) (said : SetupLine) (r : Result Setup JournalError) → TakesLine old mid true line → fits line ≡ true
    → number ≡ n + 1 → Ok said ≡ setup_line line → text ≡ line ++ 10 ∷ [] → Tells (behind_line text (Ok said) number) k mid new r → Tells (setup_part n) k old new r
unfolding setup_part
setup-tells n number k old mid new line text said r h fit e is whole t =
    let told : Tells (behind_line (line ++ 10 ∷ []) (Ok said) (n + 1)) k mid new r = rw (e, whole) at t in
    line-then n k old mid new line setup_in r h fit (subst (λ (x : Result SetupLine SetupError). Tells (behind_line (line ++ 10 ∷ []) x (n + 1)) k mid new r) is told)

pub setup-stops : (n number : ℕ) (c : Bool) (old mid new : Option (List ℕ)) (line text : List ℕ) (said : SetupLine) → TakesLine old mid true line → TakesText c old mid → fits line ≡ true
    → number ≡ n + 1 → Ok said ≡ setup_line line → text ≡ line ++ 10 ∷ [] → StopsAmid (behind_line text (Ok said) number) mid new → StopsAmid (setup_part n) old new
unfolding setup_part
setup-stops n number c old mid new line text said h taken fit e is whole t =
    let told : StopsAmid (behind_line (line ++ 10 ∷ []) (Ok said) (n + 1)) mid new = rw (e, whole) at t in
    line-stops n c old mid new line setup_in h taken fit (subst (λ (x : Result SetupLine SetupError). StopsAmid (behind_line (line ++ 10 ∷ []) x (n + 1)) mid new) is told)

pub setup-bad : (n number : ℕ) (old mid : Option (List ℕ)) (line : List ℕ) (why : SetupError) → TakesLine old mid true line → fits line ≡ true → number ≡ n + 1 → Err why ≡ setup_line line
    → Refuses (setup_part n) (error.BadSetup number why) old
unfolding setup_part
setup-bad n number old mid line why h fit e is =
    line-refuses n old mid line setup_in (error.BadSetup number why) h fit (bad_setup (n + 1) why) (ap (λ (x : ℕ). error.BadSetup x why) (sym e)) (λ left. rw (sym is) refl)

pub setup-lacks : (n : ℕ) (e : JournalError) (old : Option (List ℕ)) → Lacks n e old → Refuses (setup_part n) e old
unfolding setup_part
setup-lacks n e old h = lacks_refuses n e old setup_in h

pub setup-none : (n : ℕ) (old new : Option (List ℕ)) → TakesPart old new → StopsAmid (setup_part n) old new
unfolding setup_part
setup-none n old new h = part-stops (setup_part n) old new refl h

-- ---- a first line, and then a setup

first-one : (due : FirstLine) (number : ℕ) (line : List ℕ) (left : List (List ℕ)) (p : Part ℕ) → first_in due number line left ≡ Ok p → IsOneLine (first_in due) number line p left
first-one due number line left p h = by_version (version_by due line) refl h
  where
    by_version : (v : Option ℕ) → version_by due line ≡ v → version_in due number left v ≡ Ok p → IsOneLine (first_in due) number line p left
    by_version None e g = cc
    by_version (Some version) e g =
        let made : Part ℕ = part version number left in
        let parts = part-left version number left p (Ok made) g refl in
        record { count = parts.2; all = sym parts.0; any = λ later. rw e (ok_part-same version p.value number p.number later parts.1 parts.2) }

pub first-own : (due : FirstLine) (n : ℕ) → HasOwn n (first_part due n)
unfolding first_part
first-own due n = λ ls p h.
    let has = with_line-ok n ls (first_in due) p h in
    let one = first-one due (n + 1) has.line has.more p has.rest in
    (has.line ∷ [], omega (arith, one.count), line-takes n ls (first_in due) p has one)

pub first-none : (due : FirstLine) (n : ℕ) (old new : Option (List ℕ)) → TakesPart old new → StopsAmid (first_part due n) old new
unfolding first_part
first-none due n old new h = part-stops (first_part due n) old new refl h

abbrev pub opened : ℕ → Setup → ℕ → List (List ℕ) → Result (Part Opening) Cause
opened version setup n left = opening_in version n left setup

abbrev pub setup_behind : ℕ → ℕ → List (List ℕ) → Result (Part Opening) Cause
setup_behind version n ls = then_part (setup_part n ls) (opened version)

opened-gives : (version : ℕ) (setup : Setup) (n : ℕ) (new : Option (List ℕ)) → Gives (opened version setup n) (record { version = version; setup = setup }) n new new
opened-gives version setup n None = tt
opened-gives version setup n (Some xs) = refl

pub opening-gives : (due : FirstLine) (n m k version : ℕ) (setup : Setup) (old mid new : Option (List ℕ)) → Gives (first_part due n) version m old mid → Gives (setup_part m) setup k mid new
    → Gives (opening_part due n) (record { version = version; setup = setup }) k old new
unfolding opening_part
opening-gives due n m k version setup old mid new f s =
    let both : Opening = record { version = version; setup = setup } in
    then-gives (first_part due n) setup_behind version m k old mid new (Ok both) f
    (then-gives (setup_part m) (opened version) setup k k mid new new (Ok both) s (opened-gives version setup k new))

pub opening-no_first : (due : FirstLine) (n : ℕ) (old : Option (List ℕ)) (e : JournalError) → Refuses (first_part due n) e old → Refuses (opening_part due n) e old
unfolding opening_part
opening-no_first due n old e h = then-refuses (first_part due n) setup_behind e old h

pub opening-no_setup : (due : FirstLine) (n m version : ℕ) (old mid : Option (List ℕ)) (e : JournalError) → Gives (first_part due n) version m old mid → Refuses (setup_part m) e mid
    → Refuses (opening_part due n) e old
unfolding opening_part
opening-no_setup due n m version old mid e f h =
    then-gives (first_part due n) setup_behind version m m old mid mid (Err e) f (then-refuses (setup_part m) (opened version) e mid h)

pub opening-first_stops : (due : FirstLine) (n : ℕ) (old new : Option (List ℕ)) → StopsAmid (first_part due n) old new → StopsAmid (opening_part due n) old new
unfolding opening_part
opening-first_stops due n old new h = first-stops (first_part due n) setup_behind old new h

pub opening-setup_stops : (due : FirstLine) (n m version : ℕ) (c : Bool) (old mid new : Option (List ℕ)) → Gives (first_part due n) version m old mid → TakesText c old mid
    → StopsAmid (setup_part m) mid new → StopsAmid (opening_part due n) old new
unfolding opening_part
opening-setup_stops due n m version c old mid new f t h =
    second-stops (first_part due n) setup_behind version n m c old mid new (first-own due n) f t (first-stops (setup_part m) (opened version) mid new h)
