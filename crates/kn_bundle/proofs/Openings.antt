-- A setup and a start behind a first line, and why there are none.
use Rattle.std.proofs.Common.{◌≡◌, ℕ, Bool, true, List, [], ◌++◌, append-nil, refl, sym, ap, ◌∙◌}
use Rattle.std.specs.Prelude.{Option, None, Some, Ok, Err}
use Rattle.kn_journal.specs.declared.error.JournalError.{JournalError}
use Rattle.kn_journal.specs.declared.error.JournalError.TheVariants as error
use Rattle.kn_journal.specs.declared.journal.Opening.{Opening}
use Rattle.kn_journal.specs.declared.journal.Setup.{Setup}
use Rattle.kn_journal.specs.Bundle.{opening_by}
use Rattle.kn_journal.specs.Causes.{Cause, no_end}
use Rattle.kn_journal.specs.Journal.{start_part}
use Rattle.kn_journal.specs.Lines.{lines}
use Rattle.kn_journal.specs.Parts.{part}
use Rattle.kn_journal.specs.Reading.{IsCutOff, TakesPart, TakesText}
use Rattle.kn_journal.specs.Telling.{Gives, Refuses, StopsAmid}
use Rattle.kn_journal.specs.Texts.{TextLaws}
use Rattle.kn_bundle.specs.Bundle.{course, from_course, journal_in, stopped}
use Rattle.kn_bundle.specs.Stages.{BreaksAt, OpensStage}
use Rattle.kn_bundle.proofs.Parts.{AreSetups, opening-whole}

pub unopened : (version n : ℕ) (ls : List (List ℕ)) (cause : Cause) → opening_by true version n ls ≡ Err cause → journal_in version n ls ≡ stopped None cause
unfolding journal_in
unopened version n ls cause h = rw h refl

pub unstarted : (version n : ℕ) (ls : List (List ℕ)) (o : Opening) (at : ℕ) (left : List (List ℕ)) (cause : Cause) → opening_by true version n ls ≡ Ok (part o at left) → start_part at left ≡ Err cause
    → journal_in version n ls ≡ stopped None cause
unfolding journal_in
unstarted version n ls o at left cause h k = rw h (rw k refl)

pub behind_start : (version n : ℕ) (ls : List (List ℕ)) (o : Opening) (at : ℕ) (after : List (List ℕ)) (start number : ℕ) (left : List (List ℕ)) → opening_by true version n ls ≡ Ok (part o at after)
    → start_part at after ≡ Ok (part start number left) → journal_in version n ls ≡ from_course o.version o.setup start (course o.version start number left)
unfolding journal_in
behind_start version n ls o at after start number left h k = rw h (rw k refl)

amid_opening : (version n : ℕ) (xs : List ℕ) (left : Option (List ℕ)) → StopsAmid (opening_by true version n) (Some xs) left → BreaksAt version n xs left None
amid_opening version n xs None h = absurd h
amid_opening version n xs (Some ys) (text, mid, split, whole, none, rest) =
    record { bytes = text; mid = mid; split = split; whole = whole; reads = unopened version n (lines text) no_end none; rest = rest }

pub setup_fails : (version n : ℕ) (known new : Option (List ℕ)) (same number : ℕ) (e : JournalError) → Refuses (opening_by true version n) e known
    → (e ≡ error.ReadFault → StopsAmid (opening_by true version n) known new) → OpensStage version n known new same number (Err e)
setup_fails version n None new same number e h amid = tt
setup_fails version n (Some xs) new same number error.ReadFault h amid = amid_opening version n xs new (amid refl)
setup_fails version n (Some xs) new same number error.Memory h amid = tt
setup_fails version n (Some xs) new same number (error.BadFirstLine due) (cause, is, h) amid = (cause, is, unopened version n (lines xs) cause h)
setup_fails version n (Some xs) new same number (error.BadSetup line why) (cause, is, h) amid = (cause, is, unopened version n (lines xs) cause h)
setup_fails version n (Some xs) new same number (error.LineTooLong line) (cause, is, h) amid = (cause, is, unopened version n (lines xs) cause h)
setup_fails version n (Some xs) new same number (error.BadLine line why) (cause, is, h) amid = (cause, is, unopened version n (lines xs) cause h)
setup_fails version n (Some xs) new same number (error.TimeBack line before own) (cause, is, h) amid = (cause, is, unopened version n (lines xs) cause h)
setup_fails version n (Some xs) new same number (error.TimeTooLarge line) (cause, is, h) amid = (cause, is, unopened version n (lines xs) cause h)
setup_fails version n (Some xs) new same number error.NoEnd (cause, is, h) amid = (cause, is, unopened version n (lines xs) cause h)
setup_fails version n (Some xs) new same number (error.AfterEnd line) (cause, is, h) amid = (cause, is, unopened version n (lines xs) cause h)
setup_fails version n (Some xs) new same number (error.TooMany line) (cause, is, h) amid = (cause, is, unopened version n (lines xs) cause h)

no_start : (n : ℕ) → start_part n [] ≡ Err no_end
unfolding start_part
no_start n = refl

-- a setup was read, and behind it no line
behind_setup : (laws : TextLaws) (version n : ℕ) (xs text ys : List ℕ) (cut : Bool) (left : Option (List ℕ)) (o : Opening) (at : ℕ) → AreSetups → opening_by true version n (lines xs) ≡ Ok (part o at (lines ys))
    → xs ≡ text ++ ys → IsCutOff cut text ys → TakesPart (Some ys) left → BreaksAt version n xs left None
behind_setup laws version n xs text ys cut left o at are gives split off rest =
    let w = opening-whole are version n (lines xs) (lines ys) o at gives in
    let whole = laws.whole cut text ys off in
    let own : lines text ≡ w.own ++ [] = laws.own xs text ys w.own split whole w.split ∙ sym (append-nil w.own) in
    let read : opening_by true version n (lines text) ≡ Ok (part o at []) = ap (opening_by true version n) own ∙ w.alone [] in
    record { bytes = text; mid = ys; split = split; whole = whole; reads = unstarted version n (lines text) o at [] no_end read (no_start at); rest = rest }

pub start_fails : (laws : TextLaws) (version n : ℕ) (known mid new : Option (List ℕ)) (cut : Bool) (o : Opening) (at same number : ℕ) (e : JournalError) → AreSetups → Gives (opening_by true version n) o at known mid → TakesText cut known mid
    → Refuses (start_part at) e mid → (e ≡ error.ReadFault → TakesPart mid new) → OpensStage version n known new same number (Err e)
start_fails laws version n None mid new cut o at same number e are g text h amid = tt
start_fails laws version n (Some xs) None new cut o at same number e are g text h amid = absurd g
start_fails laws version n (Some xs) (Some ys) new cut o at same number error.ReadFault are g (text, split, off) h amid = behind_setup laws version n xs text ys cut new o at are g split off (amid refl)
start_fails laws version n (Some xs) (Some ys) new cut o at same number error.Memory are g text h amid = tt
start_fails laws version n (Some xs) (Some ys) new cut o at same number (error.BadFirstLine due) are g text (cause, is, h) amid = (cause, is, unstarted version n (lines xs) o at (lines ys) cause g h)
start_fails laws version n (Some xs) (Some ys) new cut o at same number (error.BadSetup line why) are g text (cause, is, h) amid = (cause, is, unstarted version n (lines xs) o at (lines ys) cause g h)
start_fails laws version n (Some xs) (Some ys) new cut o at same number (error.LineTooLong line) are g text (cause, is, h) amid = (cause, is, unstarted version n (lines xs) o at (lines ys) cause g h)
start_fails laws version n (Some xs) (Some ys) new cut o at same number (error.BadLine line why) are g text (cause, is, h) amid = (cause, is, unstarted version n (lines xs) o at (lines ys) cause g h)
start_fails laws version n (Some xs) (Some ys) new cut o at same number (error.TimeBack line before own) are g text (cause, is, h) amid = (cause, is, unstarted version n (lines xs) o at (lines ys) cause g h)
start_fails laws version n (Some xs) (Some ys) new cut o at same number (error.TimeTooLarge line) are g text (cause, is, h) amid = (cause, is, unstarted version n (lines xs) o at (lines ys) cause g h)
start_fails laws version n (Some xs) (Some ys) new cut o at same number error.NoEnd are g text (cause, is, h) amid = (cause, is, unstarted version n (lines xs) o at (lines ys) cause g h)
start_fails laws version n (Some xs) (Some ys) new cut o at same number (error.AfterEnd line) are g text (cause, is, h) amid = (cause, is, unstarted version n (lines xs) o at (lines ys) cause g h)
start_fails laws version n (Some xs) (Some ys) new cut o at same number (error.TooMany line) are g text (cause, is, h) amid = (cause, is, unstarted version n (lines xs) o at (lines ys) cause g h)

pub opens_well : (version n : ℕ) (known mid new : Option (List ℕ)) (same : ℕ) (setup : Setup) (at start number : ℕ) → Gives (opening_by true version n) (record { version = same; setup = setup }) at known mid
    → Gives (start_part at) start number mid new → OpensStage version n known new same number (Ok (setup, start))
opens_well version n None mid new same setup at start number g k = tt
opens_well version n (Some xs) None new same setup at start number g k = absurd g
opens_well version n (Some xs) (Some ys) None same setup at start number g k = absurd k
opens_well version n (Some xs) (Some ys) (Some zs) same setup at start number g k = record { at = at; after = lines ys; opening = g; begins = k }
