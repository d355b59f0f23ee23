-- One journal of a bundle: its opening, its events, and what is written of both.
use Rattle.std.proofs.Common.{◌≡◌, ◌+◌, ℕ, Bool, true, false, List, [], ◌++◌, length, length-append, append_assoc, append-nil, refl, sym, ap, ap₂, ◌∙◌, subst, arith}
use Rattle.std.specs.Prelude.{Option, None, Some, Result, Ok, Err, ⊤}
use Rattle.std.specs.Io.KnownBytes.{Appends}
use Rattle.std.proofs.KnownBytes.{Appends-nil, Appends-trans}
use Rattle.kn_event.specs.declared.event.Event.{Event}
use Rattle.kn_io.specs.Prefix.{AppendsPrefix}
use Rattle.kn_journal.specs.declared.error.JournalError.{JournalError}
use Rattle.kn_journal.specs.declared.error.JournalError.TheVariants as error
use Rattle.kn_journal.specs.declared.journal.Journal.{Journal}
use Rattle.kn_journal.specs.declared.journal.Opening.{Opening}
use Rattle.kn_journal.specs.declared.journal.Setup.{Setup}
use Rattle.kn_journal.specs.declared.status.Status.{Status}
use Rattle.kn_journal.specs.declared.status.Status.TheVariants as status
use Rattle.kn_journal.specs.Causes.{Cause, error_of}
use Rattle.kn_journal.specs.Journal.{journal_of}
use Rattle.kn_journal.specs.Lines.{lines}
use Rattle.kn_journal.specs.Parts.{Part}
use Rattle.kn_journal.specs.Reading.{IsCutOff, IsOver, TakesText}
use Rattle.kn_journal.specs.Texts.{TextLaws}
use Rattle.kn_teller.specs.Manner.{Manner, told}
use Rattle.kn_teller.specs.Run.{begun}
use Rattle.kn_follow.specs.Account.{Account, account_of}
use Rattle.kn_follow.specs.Endings.{IsFollowed, status_of}
use Rattle.kn_follow.specs.Following.{ran}
use Rattle.kn_report.specs.AddingLaws.{AddingLaws}
use Rattle.kn_bundle.specs.Bundle.{Course, Stage, course, from_course, journal_in, stage_on, stopped}
use Rattle.kn_bundle.specs.Following.{text_of_opened}
use Rattle.kn_bundle.specs.Stages.{BreaksAt, BreaksCourse, EndsCourse, FollowsCourse, FollowsStage, IsWholeJournal, OpenedBehind, OpensStage, StopsCourse, close_by, course_text, nothing, text_of_stage}
use Rattle.kn_bundle.proofs.Alongs.{split-behind, whole-behind}
use Rattle.kn_bundle.proofs.Openings.{behind_start}
use Rattle.kn_bundle.proofs.Parts.{AreSetups, AreStarts, opening-whole}

-- what an account says of a journal's events, behind what was written of its start
pub record IsTold (a : Account) (version : ℕ) (setup : Setup) (start : ℕ) (written : List ℕ) (body close : List Event → List ℕ) : Type 0 where
  pub bodies : (es : List Event) → a.body (journal_of version setup start es) ≡ written ++ body es
  pub closes : (es : List Event) → a.close (journal_of version setup start es) ≡ close es

pub nothing_told : (version : ℕ) (setup : Setup) (start : ℕ) → IsTold nothing version setup start [] (λ es. []) (λ es. [])
nothing_told version setup start = record { bodies = λ es. refl; closes = λ es. refl }

pub manner_told : (w : Manner) (version : ℕ) (setup : Setup) (start : ℕ) (written waiting : List ℕ) → w.opens (begun setup.spec start) ≡ written ++ waiting
    → IsTold (account_of w) version setup start written (λ es. waiting ++ told w (begun setup.spec start) es) (λ es. w.ends version (ran (begun setup.spec start) es))
manner_told w version setup start written waiting is = record {
  bodies = λ es. ap (λ (z : List ℕ). z ++ told w (begun setup.spec start) es) is ∙ append_assoc written waiting (told w (begun setup.spec start) es);
  closes = λ es. refl;
}

text_is : (a : Account) (version : ℕ) (setup : Setup) (start : ℕ) (written : List ℕ) (body close : List Event → List ℕ) (c : Course) → IsTold a version setup start written body close
    → text_of_stage a (from_course version setup start c) ≡ written ++ course_text body close c
text_is a version setup start written body close c h = by_end c.ends
  where
    by_end : (r : Result (Part ⊤) Cause) → text_of_stage a (stage_on (journal_of version setup start c.events) r) ≡ written ++ (body c.events ++ close_by (close c.events) r)
    by_end (Ok p) = ap₂ (λ (x y : List ℕ). x ++ y) (h.bodies c.events) (h.closes c.events) ∙ append_assoc written (body c.events) (close c.events)
    by_end (Err cause) = h.bodies c.events ∙ ap (λ (z : List ℕ). written ++ z) (sym (append-nil (body c.events)))

-- ---- an opening was read

opened_is : (version n : ℕ) (all : List (List ℕ)) (same : ℕ) (setup : Setup) (start number : ℕ) (left : List (List ℕ)) → OpenedBehind version n all same setup start number left
    → journal_in version n all ≡ from_course same setup start (course same start number left)
opened_is version n all same setup start number left h = behind_start version n all (record { version = same; setup = setup }) h.at h.after start number left h.opening h.begins

-- its lines, whatever follows them
record Begins (version n : ℕ) (all : List (List ℕ)) (same : ℕ) (setup : Setup) (start number : ℕ) (left : List (List ℕ)) : Type 0 where
  own : List (List ℕ)
  split : all ≡ own ++ left
  count : n + length own ≡ number
  alone : (later : List (List ℕ)) → journal_in version n (own ++ later) ≡ from_course same setup start (course same start number later)

begins_of : AreSetups → AreStarts → (version n : ℕ) (all : List (List ℕ)) (same : ℕ) (setup : Setup) (start number : ℕ) (left : List (List ℕ)) → OpenedBehind version n all same setup start number left
    → Begins version n all same setup start number left
begins_of are begin version n all same setup start number left h =
    let o : Opening = record { version = same; setup = setup } in
    let a = opening-whole are version n all h.after o h.at h.opening in
    let b = begin h.at h.after left start number h.begins in
    record {
      own = a.own ++ b.own;
      split = a.split ∙ ap (λ (x : List (List ℕ)). a.own ++ x) b.split ∙ sym (append_assoc a.own b.own left);
      count = omega (arith, a.count, b.count, length-append a.own b.own);
      alone = λ later.
          ap (λ (x : List (List ℕ)). journal_in version n x) (append_assoc a.own b.own later)
          ∙ behind_start version n (a.own ++ (b.own ++ later)) o h.at (b.own ++ later) start number later (a.alone (b.own ++ later)) (b.alone later);
    }

stage_whole : (version n : ℕ) (all : List (List ℕ)) (same : ℕ) (setup : Setup) (start number m : ℕ) (left after : List (List ℕ)) (body close : List Event → List ℕ) (old new : Option (List ℕ))
    → Begins version n all same setup start number left → (e : EndsCourse body close same start number left m after old new)
    → IsWholeJournal version n all (journal_of same setup start e.events) m after
stage_whole version n all same setup start number m left after body close old new h e = record {
  own = h.own ++ e.own;
  split = h.split ∙ ap (λ (x : List (List ℕ)). h.own ++ x) e.split ∙ sym (append_assoc h.own e.own after);
  count = omega (arith, h.count, e.count, length-append h.own e.own);
  alone = λ later.
      ap (λ (x : List (List ℕ)). journal_in version n x) (append_assoc h.own e.own later)
      ∙ h.alone (e.own ++ later) ∙ ap (from_course same setup start) (e.alone later);
}

stage_breaks : (laws : TextLaws) (version n : ℕ) (xs text ys : List ℕ) (cut : Bool) (same : ℕ) (setup : Setup) (start number : ℕ) (left : Option (List ℕ)) (body : List Event → List ℕ) (old new : Option (List ℕ))
    → Begins version n (lines xs) same setup start number (lines ys) → xs ≡ text ++ ys → IsCutOff cut text ys → (b : BreaksCourse body same start number ys left old new)
    → BreaksAt version n xs left (Some (journal_of same setup start b.events))
stage_breaks laws version n xs text ys cut same setup start number left body old new h split off b =
    let whole = laws.whole cut text ys off in
    let all : lines (text ++ b.bytes) ≡ h.own ++ lines b.bytes =
    laws.behind text ys b.bytes b.mid whole b.split ∙ ap (λ (x : List (List ℕ)). x ++ lines b.bytes) (laws.own xs text ys h.own split whole h.split) in
    record {
      bytes = text ++ b.bytes;
      mid = b.mid;
      split = split-behind xs text ys b.bytes b.mid split b.split;
      whole = whole-behind laws text ys b.bytes b.mid whole b.split b.whole;
      reads = ap (λ (x : List (List ℕ)). journal_in version n x) all ∙ h.alone (lines b.bytes) ∙ ap (from_course same setup start) b.reads;
      rest = b.rest;
    }

stage_stops : (a : Account) (version n : ℕ) (xs : List ℕ) (same : ℕ) (setup : Setup) (start number m : ℕ) (left : Option (List ℕ)) (lefts : List (List ℕ)) (written : List ℕ) (body close : List Event → List ℕ) (first old new : Option (List ℕ)) (result : Status)
    → journal_in version n (lines xs) ≡ from_course same setup start (course same start number lefts) → IsTold a same setup start written body close → Appends first old written
    → (s : StopsCourse body same start number lefts old new result) → (journal_in version n (lines xs) ≡ stopped (Some (journal_of same setup start s.events)) s.cause) × Appends first new (a.body (journal_of same setup start s.events))
stage_stops a version n xs same setup start number m left lefts written body close first old new result is told wrote s = (
  is ∙ ap (from_course same setup start) s.reads,
  subst (Appends first new) (sym (told.bodies s.events)) (Appends-trans first old new written (body s.events) wrote s.held),
)

pub stage_follows : (laws : TextLaws) (adding : AddingLaws) (a : Account) (version n : ℕ) (known rest left : Option (List ℕ)) (cut : Bool) (same : ℕ) (setup : Setup) (start number m : ℕ) (written : List ℕ) (body close : List Event → List ℕ) (first old new : Option (List ℕ)) (result : Status)
    → AreSetups → AreStarts → OpensStage version n known rest same number (Ok (setup, start)) → TakesText cut known rest → IsTold a same setup start written body close → Appends first old written
    → (IsOver cut rest → FollowsCourse body close same start number m rest left old new result) → IsFollowed result → FollowsStage a version n m known left first new result
stage_follows laws adding a version n None rest left cut same setup start number m written body close first old new result are begin h text told wrote follows followed = tt
stage_follows laws adding a version n (Some xs) None left cut same setup start number m written body close first old new result are begin h text told wrote follows followed = absurd h
stage_follows laws adding a version n (Some xs) (Some ys) left cut same setup start number m written body close first old new result are begin h (text, split, off) told wrote follows followed =
    by_result result followed (follows (over cut off))
  where
    over : (c : Bool) → IsCutOff c text ys → IsOver c (Some ys)
    over true k = k
    over false k = tt

    begun-lines : Begins version n (lines xs) same setup start number (lines ys)
    begun-lines = begins_of are begin version n (lines xs) same setup start number (lines ys) h

    is : journal_in version n (lines xs) ≡ from_course same setup start (course same start number (lines ys))
    is = opened_is version n (lines xs) same setup start number (lines ys) h

    stops : (r : Status) → StopsCourse body same start number (lines ys) old new r
        → (opened : Option Journal) × (cause : Cause) × (journal_in version n (lines xs) ≡ stopped opened cause) × (r ≡ status_of (error_of cause)) × Appends first new (text_of_opened a opened)
    stops r s =
        let k = stage_stops a version n xs same setup start number m left (lines ys) written body close first old new r is told wrote s in
        (Some (journal_of same setup start s.events), s.cause, k.0, s.status, k.1)

    ends : (z : Option (List ℕ)) → FollowsCourse body close same start number m (Some ys) z old new status.Ok → FollowsStage a version n m (Some xs) z first new status.Ok
    ends None e = absurd e
    ends (Some zs) e =
        let wrote_all = Appends-trans first old new written (body e.events ++ close e.events) wrote e.held in
        let text : written ++ (body e.events ++ close e.events) ≡ a.body (journal_of same setup start e.events) ++ a.close (journal_of same setup start e.events) =
        sym (append_assoc written (body e.events) (close e.events)) ∙ ap₂ (λ (x y : List ℕ). x ++ y) (sym (told.bodies e.events)) (sym (told.closes e.events)) in
        (journal_of same setup start e.events, stage_whole version n (lines xs) same setup start number m (lines ys) (lines zs) body close old new begun-lines e, subst (Appends first new) text wrote_all)

    by_result : (r : Status) → IsFollowed r → FollowsCourse body close same start number m (Some ys) left old new r → FollowsStage a version n m (Some xs) left first new r
    by_result status.Ok f c = ends left c
    by_result status.ReadFault f c = (
      Some (journal_of same setup start c.events),
      stage_breaks laws version n xs text ys cut same setup start number left body old new begun-lines split off c,
      subst (Appends first new) (sym (told.bodies c.events)) (Appends-trans first old new written (body c.events) wrote c.held),
    )
    by_result status.WriteFault f c =
        subst (λ (s : Stage). AppendsPrefix first new (text_of_stage a s)) (sym is)
        (subst (AppendsPrefix first new) (sym (text_is a same setup start written body close (course same start number (lines ys)) told))
        (adding.after first old new written (course_text body close (course same start number (lines ys))) wrote c))
    by_result (status.BadInput e) f c = stops (status.BadInput e) c
    by_result (status.BadSetup e) f c = stops (status.BadSetup e) c
    by_result status.Memory f c = absurd f
    by_result status.Usage f c = absurd f
    by_result (status.SlotFault slot) f c = absurd f
    by_result status.ListenFault f c = absurd f

-- what is written of the start was not all written
pub stage_cut : (adding : AddingLaws) (w : Manner) (version n : ℕ) (known rest left : Option (List ℕ)) (same : ℕ) (setup : Setup) (start number m : ℕ) (old new : Option (List ℕ))
    → OpensStage version n known rest same number (Ok (setup, start)) → AppendsPrefix old new (w.opens (begun setup.spec start)) → FollowsStage (account_of w) version n m known left old new status.WriteFault
stage_cut adding w version n None rest left same setup start number m old new h some = tt
stage_cut adding w version n (Some xs) None left same setup start number m old new h some = absurd h
stage_cut adding w version n (Some xs) (Some ys) left same setup start number m old new h some =
    let b = begun setup.spec start in
    let c = course same start number (lines ys) in
    let says = manner_told w same setup start (w.opens b) [] (sym (append-nil (w.opens b))) in
    let close : List Event → List ℕ = λ es. w.ends same (ran b es) in
    subst (λ (s : Stage). AppendsPrefix old new (text_of_stage (account_of w) s)) (sym (opened_is version n (lines xs) same setup start number (lines ys) h))
    (subst (AppendsPrefix old new) (sym (text_is (account_of w) same setup start (w.opens b) (λ es. [] ++ told w b es) close c says))
    (adding.front old new (w.opens b) (course_text (λ es. [] ++ told w b es) close c) some))

pub stage_memory : (a : Account) (version n m : ℕ) (known left out : Option (List ℕ)) → FollowsStage a version n m known left out out status.Memory
stage_memory a version n m None left out = tt
stage_memory a version n m (Some xs) left out = Appends-nil out

-- ---- none was read

pub stage_fails : (a : Account) (version n : ℕ) (known left : Option (List ℕ)) (same number m : ℕ) (e : JournalError) (out : Option (List ℕ)) → OpensStage version n known left same number (Err e)
    → FollowsStage a version n m known left out out (status_of e)
stage_fails a version n None left same number m e out h = tt
stage_fails a version n (Some xs) left same number m error.ReadFault out h = (None, h, Appends-nil out)
stage_fails a version n (Some xs) left same number m error.Memory out h = Appends-nil out
stage_fails a version n (Some xs) left same number m (error.BadFirstLine due) out (cause, is, h) = (None, cause, h, ap status_of (sym is), Appends-nil out)
stage_fails a version n (Some xs) left same number m (error.BadSetup line why) out (cause, is, h) = (None, cause, h, ap status_of (sym is), Appends-nil out)
stage_fails a version n (Some xs) left same number m (error.LineTooLong line) out (cause, is, h) = (None, cause, h, ap status_of (sym is), Appends-nil out)
stage_fails a version n (Some xs) left same number m (error.BadLine line why) out (cause, is, h) = (None, cause, h, ap status_of (sym is), Appends-nil out)
stage_fails a version n (Some xs) left same number m (error.TimeBack line before own) out (cause, is, h) = (None, cause, h, ap status_of (sym is), Appends-nil out)
stage_fails a version n (Some xs) left same number m (error.TimeTooLarge line) out (cause, is, h) = (None, cause, h, ap status_of (sym is), Appends-nil out)
stage_fails a version n (Some xs) left same number m error.NoEnd out (cause, is, h) = (None, cause, h, ap status_of (sym is), Appends-nil out)
stage_fails a version n (Some xs) left same number m (error.AfterEnd line) out (cause, is, h) = (None, cause, h, ap status_of (sym is), Appends-nil out)
stage_fails a version n (Some xs) left same number m (error.TooMany line) out (cause, is, h) = (None, cause, h, ap status_of (sym is), Appends-nil out)
