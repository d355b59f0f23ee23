-- How following the events of a journal in a bundle ends.
use Rattle.std.proofs.Common.{◌≡◌, ℕ, Bool, List, [], ◌∷◌, ◌++◌, append_assoc, refl, sym, ap, ◌∙◌, subst, inl, inr}
use Rattle.std.specs.Prelude.{Option, None, Some, Err}
use Rattle.std.specs.Io.KnownBytes.{Appends}
use Rattle.kn_event.specs.declared.event.Event.{Event}
use Rattle.kn_io.specs.Prefix.{AppendsPrefix}
use Rattle.kn_journal.specs.declared.error.JournalError.{JournalError}
use Rattle.kn_journal.specs.declared.error.JournalError.TheVariants as error
use Rattle.kn_journal.specs.declared.status.Status.{Status}
use Rattle.kn_journal.specs.declared.status.Status.TheVariants as status
use Rattle.kn_journal.specs.Bundle.{next_of_part}
use Rattle.kn_journal.specs.Causes.{Cause, error_of}
use Rattle.kn_journal.specs.Lines.{lines}
use Rattle.kn_journal.specs.Reading.{IsOver, TakesPart}
use Rattle.kn_journal.specs.Telling.{Gives, Refuses}
use Rattle.kn_journal.specs.Texts.{TextLaws}
use Rattle.kn_follow.specs.Endings.{Stops, status_of}
use Rattle.kn_report.specs.Waiting.{Adds}
use Rattle.kn_teller.specs.Manner.{Manner, told}
use Rattle.kn_teller.specs.Run.{Run}
use Rattle.kn_follow.specs.Following.{ran}
use Rattle.kn_follow.specs.Laws.{TellingLaws}
use Rattle.kn_report.specs.AddingLaws.{AddingLaws}
use Rattle.kn_bundle.specs.Bundle.{Course, course}
use Rattle.kn_bundle.specs.Stages.{BreaksCourse, FollowsCourse, StopsCourse, close_by, course_text}
use Rattle.kn_bundle.proofs.Alongs.{IsAlong, along_over, along_taken}
use Rattle.kn_bundle.proofs.Courses.{GoesOn, reads_all, reads_end, reads_none, reads_refused, with_events}

-- more events, more text
abbrev pub IsGrowing : (List Event → List ℕ) → Type 0
IsGrowing body = (es more : List Event) → (rest : List ℕ) × (body (es ++ more) ≡ body es ++ rest)

pub told-grows : (tells : TellingLaws) (w : Manner) (run : Run) (waiting : List ℕ) → IsGrowing (λ es. waiting ++ told w run es)
told-grows tells w run waiting es more =
    let rest = told w (ran run es) more in
    (rest, ap (λ (z : List ℕ). waiting ++ z) (tells.more w run es more) ∙ sym (append_assoc waiting (told w run es) rest))

-- what is told of one more event was not all written
pub some_told : (adding : AddingLaws) (tells : TellingLaws) (w : Manner) (run : Run) (es : List Event) (e : Event) (a b d : Option (List ℕ)) (p q : List ℕ) → Adds a b p q (told w run es) → AppendsPrefix b d (q ++ w.tells (ran run es) e)
    → AppendsPrefix a d (p ++ told w run (es ++ e ∷ []))
some_told adding tells w run es e a b d p q h k =
    subst (λ (z : List ℕ). AppendsPrefix a d (p ++ z)) (sym (tells.next w run es e)) (adding.last d (w.tells (ran run es) e) h k)

-- some of what is written of these events was written
pub goes_cut : (adding : AddingLaws) (body close : List Event → List ℕ) (version last number n : ℕ) (known left old new : Option (List ℕ)) (es : List Event) (time m : ℕ) (rest : Option (List ℕ))
    → GoesOn version last number known es time m rest → IsGrowing body → AppendsPrefix old new (body es) → FollowsCourse body close version last number n known left old new status.WriteFault
goes_cut adding body close version last number n None left old new es time m rest h grows some = tt
goes_cut adding body close version last number n (Some xs) left old new es time m None h grows some = absurd h
goes_cut adding body close version last number n (Some xs) left old new es time m (Some ys) h grows some =
    let c = course version time m (lines ys) in
    let more = grows es c.events in
    let end = close_by (close (es ++ c.events)) c.ends in
    let text : body es ++ (more.0 ++ end) ≡ course_text body close (with_events es c) = sym (append_assoc (body es) more.0 end) ∙ ap (λ (z : List ℕ). z ++ end) (sym more.1) in
    subst (λ (x : Course). AppendsPrefix old new (course_text body close x)) (sym (reads_all version last number (lines xs) es time m (lines ys) h))
    (subst (AppendsPrefix old new) text (adding.front old new (body es) (more.0 ++ end) some))

-- `end` was read
pub goes_end : (body close : List Event → List ℕ) (version last number n : ℕ) (known left old new : Option (List ℕ)) (es : List Event) (time m : ℕ) (rest : Option (List ℕ)) (result : Status)
    → GoesOn version last number known es time m rest → Gives (next_of_part version time m) None n rest left → Stops (body es ++ close es) old new status.Ok result
    → FollowsCourse body close version last number n known left old new result
goes_end body close version last number n None left old new es time m rest result h g stops = tt
goes_end body close version last number n (Some xs) left old new es time m None result h g stops = absurd h
goes_end body close version last number n (Some xs) None old new es time m (Some ys) result h g stops = absurd g
goes_end body close version last number n (Some xs) (Some zs) old new es time m (Some ys) result h g stops = by_stop stops
  where
    by_stop : Stops (body es ++ close es) old new status.Ok result → FollowsCourse body close version last number n (Some xs) (Some zs) old new result
    by_stop (inl (is, held)) =
        let k = reads_end version last number (lines xs) es time m (lines ys) n (lines zs) h g in
        subst (λ (x : Status). FollowsCourse body close version last number n (Some xs) (Some zs) old new x) (sym is)
        (record { events = es; own = k.own; split = k.split; count = k.count; alone = k.alone; held = held })
    by_stop (inr (is, some)) =
        let k = reads_end version last number (lines xs) es time m (lines ys) n (lines zs) h g in
        let all = ap (λ (x : List (List ℕ)). course version last number x) k.split ∙ k.alone (lines zs) in
        subst (λ (x : Status). FollowsCourse body close version last number n (Some xs) (Some zs) old new x) (sym is)
        (subst (λ (x : Course). AppendsPrefix old new (course_text body close x)) (sym all) some)

-- reading stopped
pub goes_stop : (laws : TextLaws) (adding : AddingLaws) (body close : List Event → List ℕ) (first cut : Bool) (version last number n : ℕ) (known left old new : Option (List ℕ)) (es : List Event) (time m : ℕ) (rest : Option (List ℕ)) (e : JournalError) (result : Status)
    → GoesOn version last number known es time m rest → IsGrowing body → IsOver first known → IsAlong first cut known rest
    → (IsOver cut rest → Refuses (next_of_part version time m) e rest) → (e ≡ error.ReadFault → TakesPart rest left) → (e ≡ error.Memory → ⊥) → Stops (body es) old new (status_of e) result
    → FollowsCourse body close version last number n known left old new result
goes_stop laws adding body close first cut version last number n None left old new es time m rest e result h grows over along refuses amid none stops = tt
goes_stop laws adding body close first cut version last number n (Some xs) left old new es time m None e result h grows over along refuses amid none stops = absurd h
goes_stop laws adding body close first cut version last number n (Some xs) left old new es time m (Some ys) e result h grows over along refuses amid none stops = by_stop stops
  where
    refused : (x : JournalError) (cause : Cause) → error_of cause ≡ x → next_of_part version time m (lines ys) ≡ Err cause → Appends old new (body es) → StopsCourse body version last number (lines xs) old new (status_of x)
    refused x cause is g held =
        record { events = es; cause = cause; reads = reads_refused version last number (lines xs) es time m (lines ys) cause h g; status = ap status_of (sym is); held = held }

    breaks : TakesPart (Some ys) left → Appends old new (body es) → BreaksCourse body version last number xs left old new
    breaks part held =
        let t = along_taken laws first cut xs ys along in
        record {
          events = es;
          bytes = t.text;
          mid = ys;
          split = t.split;
          whole = t.whole;
          reads = ap (λ (x : List (List ℕ)). course version last number x) (laws.own xs t.text ys h.own t.split t.whole h.split) ∙ reads_none version last number (lines xs) es time m (lines ys) h;
          rest = part;
          held = held;
        }

    by_error : (x : JournalError) → Refuses (next_of_part version time m) x (Some ys) → (x ≡ error.ReadFault → TakesPart (Some ys) left) → (x ≡ error.Memory → ⊥) → Appends old new (body es)
        → FollowsCourse body close version last number n (Some xs) left old new (status_of x)
    by_error error.ReadFault r at never held = breaks (at refl) held
    by_error error.Memory r at never held = absurd (never refl)
    by_error (error.BadFirstLine due) (cause, is, g) at never held = refused (error.BadFirstLine due) cause is g held
    by_error (error.BadSetup line why) (cause, is, g) at never held = refused (error.BadSetup line why) cause is g held
    by_error (error.LineTooLong line) (cause, is, g) at never held = refused (error.LineTooLong line) cause is g held
    by_error (error.BadLine line why) (cause, is, g) at never held = refused (error.BadLine line why) cause is g held
    by_error (error.TimeBack line before own) (cause, is, g) at never held = refused (error.TimeBack line before own) cause is g held
    by_error (error.TimeTooLarge line) (cause, is, g) at never held = refused (error.TimeTooLarge line) cause is g held
    by_error error.NoEnd (cause, is, g) at never held = refused error.NoEnd cause is g held
    by_error (error.AfterEnd line) (cause, is, g) at never held = refused (error.AfterEnd line) cause is g held
    by_error (error.TooMany line) (cause, is, g) at never held = refused (error.TooMany line) cause is g held

    by_stop : Stops (body es) old new (status_of e) result → FollowsCourse body close version last number n (Some xs) left old new result
    by_stop (inl (is, held)) =
        subst (λ (x : Status). FollowsCourse body close version last number n (Some xs) left old new x) (sym is)
        (by_error e (refuses (along_over first cut xs ys over along)) amid none held)
    by_stop (inr (is, some)) =
        subst (λ (x : Status). FollowsCourse body close version last number n (Some xs) left old new x) (sym is)
        (goes_cut adding body close version last number n (Some xs) left old new es time m (Some ys) h grows some)
