-- A journal whose source failed.
use Rattle.std.proofs.Common.{◌≡◌, ◌-◌, ℕ, Bool, true, false, List, [], ◌∷◌, ◌++◌, length, append_assoc, append-nil, refl, sym, ap, ◌∙◌, subst, inl, inr}
use Rattle.std.specs.Prelude.{◌⊎◌, Option, None, Some, Err, Ok, codes, ⊤}
use Rattle.std.specs.Io.KnownBytes.{Appends, prepend_known}
use Rattle.kn_event.specs.declared.event.Event.{Event}
use Rattle.kn_io.specs.Prefix.{AppendsPrefix}
use Rattle.kn_journal.specs.declared.error.JournalError.{JournalError}
use Rattle.kn_journal.specs.declared.error.JournalError.TheVariants as error
use Rattle.kn_preamble.specs.declared.first.FirstLine.TheVariants.{Journal as JournalLine}
use Rattle.kn_journal.specs.declared.journal.Journal.{Journal}
use Rattle.kn_journal.specs.declared.journal.Opening.{Opening}
use Rattle.kn_journal.specs.declared.journal.Setup.{Setup}
use Rattle.kn_journal.specs.declared.status.Status.{Status}
use Rattle.kn_journal.specs.declared.status.Status.TheVariants as status
use Rattle.kn_journal.specs.Causes.{Cause, error_of, no_end}
use Rattle.kn_journal.specs.Lines.{lines}
use Rattle.kn_journal.specs.Parts.{part}
use Rattle.kn_journal.specs.Journal.{Verdict, bad, from_read, journal_of, next_part, opening_part, read_events, start_part, verdict, verdict_of_lines}
use Rattle.kn_journal.specs.Series.{Read}
use Rattle.kn_journal.specs.Reading.{AreWhole, EndsWithLf, IsCutOff, IsOver, TakesPart, TakesText, most_taken}
use Rattle.kn_journal.specs.Telling.{Gives, Refuses, StopsAmid, TakesEnd}
use Rattle.kn_journal.specs.Texts.{TextLaws}
use Rattle.kn_follow.specs.Endings.{IsFollowed, Stops, Writes, refusal_of, status_by, status_of}
use Rattle.kn_follow.specs.Following.{BreaksAmid, BreaksBefore, BreaksBeyond, BreaksFollowing, BreaksIn, Follows, FollowsInput, Opened, Opens, rest_of_text}
use Rattle.kn_follow.specs.Account.{account_of, text_of}
use Rattle.kn_teller.specs.Manner.{Manner, told}
use Rattle.kn_teller.specs.Run.{Run, begun}
use Rattle.kn_report.specs.AddingLaws.{AddingLaws}
use Rattle.kn_report.specs.Waiting.{Adds}
use Rattle.kn_follow.proofs.Behind.{AreOpenings, AreStarts, lines_read, lines_unopened, lines_unstarted}
use Rattle.kn_follow.proofs.Lines.{end_line, no_line, with_events}
use Rattle.kn_follow.proofs.Follows.{GoesOn, Reads, cut, goes_refused, none_more, reads_all}
use Rattle.kn_follow.proofs.Journals.{opened_verdict, text_is, verdict_unopened, verdict_unstarted, writes_after}
use Rattle.kn_follow.proofs.Statuses.{status_is}

split-behind : (xs text ys more zs : List ℕ) → xs ≡ text ++ ys → ys ≡ more ++ zs → xs ≡ (text ++ more) ++ zs
split-behind xs text ys more zs h k = h ∙ ap (λ (m : List ℕ). text ++ m) k ∙ sym (append_assoc text more zs)

-- behind the end of the input no event is
pub over_refuses : (laws : TextLaws) (version last n : ℕ) (old : Option (List ℕ)) → IsOver true old → Refuses (next_part version last n) error.NoEnd old
unfolding next_part
over_refuses laws version last n None h = tt
over_refuses laws version last n (Some xs) h =
    let P : List ℕ → Type 0 = λ zs. (cause : Cause) × (error_of cause ≡ error.NoEnd) × (next_part version last n (lines zs) ≡ Err cause) in
    subst P (sym h) (no_end, refl, ap (λ (ls : List (List ℕ)). next_part version last n ls) laws.none)

-- ---- the bytes of the events so far

-- the input said its end; or these bytes end with LF, or there are none behind a line that wasn't cut
abbrev pub IsSoFar : Bool → Bool → List ℕ → List ℕ → Type 0
IsSoFar first true text ys = ys ≡ []
IsSoFar first false text ys = ((text ≡ []) × (first ≡ false)) ⊎ EndsWithLf text

abbrev pub HasRead : Bool → Bool → Option (List ℕ) → Option (List ℕ) → Type 0
HasRead first over None rest = ⊤
HasRead first over (Some xs) None = ⊥
HasRead first over (Some xs) (Some ys) = (text : List ℕ) × (xs ≡ text ++ ys) × IsSoFar first over text ys

pub read_begin : (over : Bool) (known : Option (List ℕ)) → IsOver over known → HasRead over over known known
read_begin over None h = tt
read_begin true (Some xs) h = ([], refl, h)
read_begin false (Some xs) h = ([], refl, inl (refl, refl))

so_far : (laws : TextLaws) (first over : Bool) (text more ys : List ℕ) → IsCutOff over more ys → IsSoFar first over (text ++ more) ys
so_far laws first true text more ys h = h
so_far laws first false text more ys h = inr (laws.ends text more h)

pub read_more : (laws : TextLaws) (first over now : Bool) (known rest left : Option (List ℕ)) → HasRead first over known rest → TakesText now rest left → HasRead first now known left
read_more laws first over now None rest left h t = tt
read_more laws first over now (Some xs) None left h t = absurd h
read_more laws first over now (Some xs) (Some ys) None h t = absurd t
read_more laws first over now (Some xs) (Some ys) (Some zs) (text, split, so) (more, behind, cut) =
    (text ++ more, split-behind xs text ys more zs split behind, so_far laws first now text more zs cut)

pub is_over : (first over : Bool) (text ys : List ℕ) → IsSoFar first over text ys → IsOver over (Some ys)
is_over first true text ys h = h
is_over first false text ys h = tt

whole_so_far : (first : Bool) (text ys : List ℕ) → IsSoFar first false text ys → AreWhole text ys
whole_so_far first text ys (inl none) = inl none.0
whole_so_far first text ys (inr ends) = inr (inl ends)

-- a line that was cut ends the input
pub over_of : (over : Bool) (text ys : List ℕ) → IsCutOff over text ys → IsOver over (Some ys)
over_of true text ys h = h
over_of false text ys h = tt

-- ---- the source failed

fault_ends : AddingLaws → (first : Bool) (version : ℕ) (w : Manner) (run : Run) (last number : ℕ) (xs : List ℕ) (left : Option (List ℕ)) (waiting now : List ℕ) (old mid new : Option (List ℕ)) (es : List Event) (r : Read Event) (refused : Option Cause) (result : Status)
    → read_events version last number (lines xs) ≡ with_events es r
    → BreaksIn first version last number xs left (record { events = es; refused = refused })
    → Adds old mid waiting now (told w run es) → Stops now mid new status.ReadFault result
    → Follows first version w run last number (Some xs) left waiting old new result
fault_ends adding first version w run last number xs left waiting now old mid new es r refused result all breaks adds (inl (is, held)) =
    let text = told w run es in
    let whole : Appends old new (waiting ++ text) =
    subst (Appends old new) (append-nil (waiting ++ text)) (adding.all new [] adds (subst (Appends mid new) (sym (append-nil now)) held)) in
    subst (λ (x : Status). Follows first version w run last number (Some xs) left waiting old new x) (sym is)
    (waiting ++ text, whole, (record { events = es; refused = refused }, breaks, refl))
fault_ends adding first version w run last number xs left waiting now old mid new es r refused result all breaks adds (inr (is, some)) =
    subst (λ (x : Status). Follows first version w run last number (Some xs) left waiting old new x) (sym is)
    (cut adding version w run es r _ waiting [] old new all (adding.stop new adds some))

-- within a line
breaks_within : (laws : TextLaws) (first : Bool) (version last number : ℕ) (xs : List ℕ) (es : List Event) (time m : ℕ) (ys text : List ℕ) (left : Option (List ℕ))
    → Reads version last number (lines xs) es time m (lines ys) → xs ≡ text ++ ys → IsSoFar first false text ys → TakesPart (Some ys) left
    → BreaksIn first version last number xs left (record { events = es; refused = Some no_end })
breaks_within laws first version last number xs es time m ys text left h split so part =
    let own : lines text ≡ h.own ++ [] = laws.own xs text ys h.own split (whole_so_far first text ys so) h.split ∙ sym (append-nil h.own) in
    record {
      bytes = text;
      mid = ys;
      split = split;
      ended = so;
      events = ap (λ (x : List (List ℕ)). read_events version last number x) own ∙ h.reads [] ∙ ap (with_events es) (no_line version time m) ∙ none_more es (Some no_end);
      good = refl;
      rest = part;
    }

-- behind `end`
breaks_behind : (laws : TextLaws) (first : Bool) (version last number : ℕ) (xs : List ℕ) (es : List Event) (time m : ℕ) (ys text more mid : List ℕ) (left : Option (List ℕ))
    → Reads version last number (lines xs) es time m (lines ys) → xs ≡ text ++ ys → IsSoFar first false text ys
    → ys ≡ more ++ mid → EndsWithLf more → lines more ≡ codes "end" ∷ [] → TakesPart (Some mid) left
    → BreaksIn first version last number xs left (record { events = es; refused = None })
breaks_behind laws first version last number xs es time m ys text more mid left h split so behind ends line part =
    let whole = whole_so_far first text ys so in
    let all : lines (text ++ more) ≡ h.own ++ codes "end" ∷ [] =
    laws.behind text ys more mid whole behind
    ∙ ap (λ (x : List (List ℕ)). x ++ lines more) (laws.own xs text ys h.own split whole h.split) ∙ ap (λ (x : List (List ℕ)). h.own ++ x) line in
    record {
      bytes = text ++ more;
      mid = mid;
      split = split-behind xs text ys more mid split behind;
      ended = inr (laws.ends text more ends);
      events = ap (λ (x : List (List ℕ)). read_events version last number x) all ∙ h.reads (codes "end" ∷ []) ∙ ap (with_events es) (end_line version time m) ∙ none_more es None;
      good = tt;
      rest = part;
    }

fault_at : AddingLaws → (laws : TextLaws) (first : Bool) (version : ℕ) (w : Manner) (run : Run) (last number : ℕ) (xs : List ℕ) (waiting now : List ℕ) (old mid new : Option (List ℕ)) (es : List Event) (time m : ℕ) (ys text : List ℕ) (left : Option (List ℕ)) (result : Status)
    → Reads version last number (lines xs) es time m (lines ys) → xs ≡ text ++ ys → IsSoFar first false text ys → TakesPart (Some ys) left ⊎ TakesEnd (Some ys) left
    → Adds old mid waiting now (told w run es) → Stops now mid new status.ReadFault result
    → Follows first version w run last number (Some xs) left waiting old new result
fault_at adding laws first version w run last number xs waiting now old mid new es time m ys text left result h split so (inl part) adds stops =
    fault_ends adding first version w run last number xs left waiting now old mid new es (read_events version time m (lines ys)) (Some no_end) result
    (reads_all version last number (lines xs) es time m (lines ys) h) (breaks_within laws first version last number xs es time m ys text left h split so part) adds stops
fault_at adding laws first version w run last number xs waiting now old mid new es time m ys text None result h split so (inr ends) adds stops = absurd ends
fault_at adding laws first version w run last number xs waiting now old mid new es time m ys text (Some zs) result h split so (inr (more, between, behind, ends, line, part)) adds stops =
    fault_ends adding first version w run last number xs (Some zs) waiting now old mid new es (read_events version time m (lines ys)) None result
    (reads_all version last number (lines xs) es time m (lines ys) h) (breaks_behind laws first version last number xs es time m ys text more between (Some zs) h split so behind ends line part) adds stops

-- an error of the reader
pub goes_stop : AddingLaws → (laws : TextLaws) (first over : Bool) (version : ℕ) (w : Manner) (run : Run) (last number : ℕ) (known : Option (List ℕ)) (waiting now : List ℕ) (old mid new : Option (List ℕ)) (es : List Event) (time m : ℕ) (rest left : Option (List ℕ)) (e : JournalError) (result : Status)
    → GoesOn version last number known es time m rest → HasRead first over known rest → (IsOver over rest → Refuses (next_part version time m) e rest)
    → (e ≡ error.ReadFault → TakesPart rest left ⊎ TakesEnd rest left) → (e ≡ error.ReadFault → over ≡ false) → (e ≡ error.Memory → ⊥)
    → Adds old mid waiting now (told w run es) → Stops now mid new (status_of e) result
    → Follows first version w run last number known left waiting old new result
goes_stop adding laws first over version w run last number None waiting now old mid new es time m rest left e result h read g amid uncut memory adds stops = tt
goes_stop adding laws first over version w run last number (Some xs) waiting now old mid new es time m None left e result h read g amid uncut memory adds stops = absurd h
goes_stop adding laws first over version w run last number (Some xs) waiting now old mid new es time m (Some ys) left e result h (text, split, so) g amid uncut memory adds stops =
    by_error e (g (is_over first over text ys so)) amid uncut memory stops
  where
    refuses : (d : JournalError) → (cause : Cause) × (error_of cause ≡ d) × (next_part version time m (lines ys) ≡ Err cause) → Stops now mid new (status_of d) result
        → Follows first version w run last number (Some xs) left waiting old new result
    refuses d (cause, is, refused) stopped = goes_refused adding first version w run last number xs waiting now old mid new es time m ys left cause d result h is refused adds stopped

    by_error : (d : JournalError) → Refuses (next_part version time m) d (Some ys) → (d ≡ error.ReadFault → TakesPart (Some ys) left ⊎ TakesEnd (Some ys) left) → (d ≡ error.ReadFault → over ≡ false)
        → (d ≡ error.Memory → ⊥) → Stops now mid new (status_of d) result → Follows first version w run last number (Some xs) left waiting old new result
    by_error error.ReadFault r at is_uncut none stopped =
        fault_at adding laws first version w run last number xs waiting now old mid new es time m ys text left result h split (subst (λ (b : Bool). IsSoFar first b text ys) (is_uncut refl) so) (at refl) adds stopped
    by_error error.Memory r at is_uncut none stopped = absurd (none refl)
    by_error (error.BadFirstLine due) r at is_uncut none stopped = refuses (error.BadFirstLine due) r stopped
    by_error (error.BadSetup line why) r at is_uncut none stopped = refuses (error.BadSetup line why) r stopped
    by_error (error.LineTooLong line) r at is_uncut none stopped = refuses (error.LineTooLong line) r stopped
    by_error (error.BadLine line why) r at is_uncut none stopped = refuses (error.BadLine line why) r stopped
    by_error (error.TimeBack line before own) r at is_uncut none stopped = refuses (error.TimeBack line before own) r stopped
    by_error (error.TimeTooLarge line) r at is_uncut none stopped = refuses (error.TimeTooLarge line) r stopped
    by_error error.NoEnd r at is_uncut none stopped = refuses error.NoEnd r stopped
    by_error (error.AfterEnd line) r at is_uncut none stopped = refuses (error.AfterEnd line) r stopped
    by_error (error.TooMany line) r at is_uncut none stopped = refuses (error.TooMany line) r stopped

-- what waited couldn't be written
pub goes_unwritten : AddingLaws → (first : Bool) (version : ℕ) (w : Manner) (run : Run) (last number : ℕ) (known : Option (List ℕ)) (waiting now : List ℕ) (old mid new : Option (List ℕ)) (es : List Event) (time m : ℕ) (rest : Option (List ℕ))
    → GoesOn version last number known es time m rest → Adds old mid waiting now (told w run es) → AppendsPrefix mid new now
    → Follows first version w run last number known rest waiting old new status.WriteFault
goes_unwritten adding first version w run last number None waiting now old mid new es time m rest h adds some = tt
goes_unwritten adding first version w run last number (Some xs) waiting now old mid new es time m None h adds some = absurd h
goes_unwritten adding first version w run last number (Some xs) waiting now old mid new es time m (Some ys) h adds some =
    cut adding version w run es (read_events version time m (lines ys)) _ waiting [] old new (reads_all version last number (lines xs) es time m (lines ys) h)
    (adding.stop new adds some)

-- ---- before the start

of_lines : (bytes : List ℕ) (v : Verdict) → verdict_of_lines (lines bytes) ≡ v → verdict bytes ≡ v
unfolding verdict
of_lines bytes v h = h

amid_opening : (xs : List ℕ) (left : Option (List ℕ)) → StopsAmid (opening_part JournalLine 0) (Some xs) left → BreaksBefore xs left
amid_opening xs None h = absurd h
amid_opening xs (Some ys) (text, mid, split, whole, none, rest) =
    record { bytes = text; mid = mid; split = split; whole = whole; reads = of_lines text (bad None no_end) (lines_unopened (lines text) no_end none); rest = rest }

pub setup_fails : (known new : Option (List ℕ)) (version number : ℕ) (e : JournalError) → Refuses (opening_part JournalLine 0) e known
    → (e ≡ error.ReadFault → StopsAmid (opening_part JournalLine 0) known new) → Opens known new version number (Err e)
setup_fails None new version number e h amid = tt
setup_fails (Some xs) new version number error.ReadFault h amid = amid_opening xs new (amid refl)
setup_fails (Some xs) new version number error.Memory h amid = tt
setup_fails (Some xs) new version number (error.BadFirstLine due) (cause, is, h) amid = (cause, is, verdict_unopened xs cause h)
setup_fails (Some xs) new version number (error.BadSetup line why) (cause, is, h) amid = (cause, is, verdict_unopened xs cause h)
setup_fails (Some xs) new version number (error.LineTooLong line) (cause, is, h) amid = (cause, is, verdict_unopened xs cause h)
setup_fails (Some xs) new version number (error.BadLine line why) (cause, is, h) amid = (cause, is, verdict_unopened xs cause h)
setup_fails (Some xs) new version number (error.TimeBack line before own) (cause, is, h) amid = (cause, is, verdict_unopened xs cause h)
setup_fails (Some xs) new version number (error.TimeTooLarge line) (cause, is, h) amid = (cause, is, verdict_unopened xs cause h)
setup_fails (Some xs) new version number error.NoEnd (cause, is, h) amid = (cause, is, verdict_unopened xs cause h)
setup_fails (Some xs) new version number (error.AfterEnd line) (cause, is, h) amid = (cause, is, verdict_unopened xs cause h)
setup_fails (Some xs) new version number (error.TooMany line) (cause, is, h) amid = (cause, is, verdict_unopened xs cause h)

no_start : (n : ℕ) → start_part n [] ≡ Err no_end
unfolding start_part
no_start n = refl

-- a setup was read, and behind it no line
behind_setup : (laws : TextLaws) (xs text ys : List ℕ) (over : Bool) (left : Option (List ℕ)) (opening : Opening) (n : ℕ) → AreOpenings → opening_part JournalLine 0 (lines xs) ≡ Ok (part opening n (lines ys))
    → xs ≡ text ++ ys → IsCutOff over text ys → TakesPart (Some ys) left → BreaksBefore xs left
behind_setup laws xs text ys over left opening n are gives split cut rest =
    let w = are (lines xs) (lines ys) opening n gives in
    let whole = laws.whole over text ys cut in
    let own : lines text ≡ w.own ++ [] = laws.own xs text ys w.own split whole w.split ∙ sym (append-nil w.own) in
    let read : opening_part JournalLine 0 (lines text) ≡ Ok (part opening n []) = ap (opening_part JournalLine 0) own ∙ w.alone [] in
    record { bytes = text; mid = ys; split = split; whole = whole; reads = of_lines text (bad None no_end) (lines_unstarted (lines text) opening n [] no_end read (no_start n)); rest = rest }

pub start_fails : (laws : TextLaws) (known mid new : Option (List ℕ)) (over : Bool) (opening : Opening) (n version number : ℕ) (e : JournalError) → AreOpenings → Gives (opening_part JournalLine 0) opening n known mid → TakesText over known mid
    → Refuses (start_part n) e mid → (e ≡ error.ReadFault → TakesPart mid new) → Opens known new version number (Err e)
start_fails laws None mid new over opening n version number e are g text h amid = tt
start_fails laws (Some xs) None new over opening n version number e are g text h amid = absurd g
start_fails laws (Some xs) (Some ys) new over opening n version number error.ReadFault are g (text, split, cut) h amid = behind_setup laws xs text ys over new opening n are g split cut (amid refl)
start_fails laws (Some xs) (Some ys) new over opening n version number error.Memory are g text h amid = tt
start_fails laws (Some xs) (Some ys) new over opening n version number (error.BadFirstLine due) are g text (cause, is, h) amid = (cause, is, verdict_unstarted xs opening n (lines ys) cause g h)
start_fails laws (Some xs) (Some ys) new over opening n version number (error.BadSetup line why) are g text (cause, is, h) amid = (cause, is, verdict_unstarted xs opening n (lines ys) cause g h)
start_fails laws (Some xs) (Some ys) new over opening n version number (error.LineTooLong line) are g text (cause, is, h) amid = (cause, is, verdict_unstarted xs opening n (lines ys) cause g h)
start_fails laws (Some xs) (Some ys) new over opening n version number (error.BadLine line why) are g text (cause, is, h) amid = (cause, is, verdict_unstarted xs opening n (lines ys) cause g h)
start_fails laws (Some xs) (Some ys) new over opening n version number (error.TimeBack line before own) are g text (cause, is, h) amid = (cause, is, verdict_unstarted xs opening n (lines ys) cause g h)
start_fails laws (Some xs) (Some ys) new over opening n version number (error.TimeTooLarge line) are g text (cause, is, h) amid = (cause, is, verdict_unstarted xs opening n (lines ys) cause g h)
start_fails laws (Some xs) (Some ys) new over opening n version number error.NoEnd are g text (cause, is, h) amid = (cause, is, verdict_unstarted xs opening n (lines ys) cause g h)
start_fails laws (Some xs) (Some ys) new over opening n version number (error.AfterEnd line) are g text (cause, is, h) amid = (cause, is, verdict_unstarted xs opening n (lines ys) cause g h)
start_fails laws (Some xs) (Some ys) new over opening n version number (error.TooMany line) are g text (cause, is, h) amid = (cause, is, verdict_unstarted xs opening n (lines ys) cause g h)

-- a setup and a start were read
pub opens_well : (known mid new : Option (List ℕ)) (version : ℕ) (setup : Setup) (n start number : ℕ) → Gives (opening_part JournalLine 0) (record { version = version; setup = setup }) n known mid
    → Gives (start_part n) start number mid new → Opens known new version number (Ok (setup, start))
opens_well None mid new version setup n start number g k = tt
opens_well (Some xs) None new version setup n start number g k = absurd g
opens_well (Some xs) (Some ys) None version setup n start number g k = absurd k
opens_well (Some xs) (Some ys) (Some zs) version setup n start number g k = record { at = n; after = lines ys; opening = g; begins = k }

-- ---- the whole

ended_after : (laws : TextLaws) (over : Bool) (text ys more : List ℕ) → IsCutOff over text ys → ((more ≡ []) × (over ≡ false)) ⊎ EndsWithLf more → EndsWithLf (text ++ more)
ended_after laws over text ys more cut (inl (none, uncut)) = laws.ends_still text more (subst (λ (b : Bool). IsCutOff b text ys) uncut cut) none
ended_after laws over text ys more cut (inr ends) = laws.ends text more ends

-- what was read behind a start is read of the whole
breaks_amid : (laws : TextLaws) (xs text ys : List ℕ) (over : Bool) (version : ℕ) (setup : Setup) (start number : ℕ) (left : Option (List ℕ)) (read : Read Event) → AreOpenings → AreStarts
    → Opened (lines xs) version setup start number (lines ys) → xs ≡ text ++ ys → IsCutOff over text ys → BreaksIn over version start number ys left read
    → BreaksAmid xs left (journal_of version setup start read.events)
breaks_amid laws xs text ys over version setup start number left read are begin h split cut breaks =
    let o : Opening = record { version = version; setup = setup } in
    let a = are (lines xs) h.after o h.at h.opening in
    let b = begin h.at h.after (lines ys) start number h.begins in
    let whole = laws.whole over text ys cut in
    let more = lines breaks.bytes in
    let taken : lines xs ≡ (a.own ++ b.own) ++ lines ys = a.split ∙ ap (λ (x : List (List ℕ)). a.own ++ x) b.split ∙ sym (append_assoc a.own b.own (lines ys)) in
    let all : lines (text ++ breaks.bytes) ≡ a.own ++ (b.own ++ more) =
    laws.behind text ys breaks.bytes breaks.mid whole breaks.split
    ∙ ap (λ (x : List (List ℕ)). x ++ more) (laws.own xs text ys (a.own ++ b.own) split whole taken) ∙ append_assoc a.own b.own more in
    record {
      bytes = text ++ breaks.bytes;
      mid = breaks.mid;
      split = split-behind xs text ys breaks.bytes breaks.mid split breaks.split;
      ended = ended_after laws over text ys breaks.bytes cut breaks.ended;
      refused = read.refused;
      reads = of_lines (text ++ breaks.bytes) (from_read version setup start read)
          (ap verdict_of_lines all ∙ lines_read (a.own ++ (b.own ++ more)) version setup start h.at number (b.own ++ more) more (a.alone (b.own ++ more)) (b.alone more)
          ∙ ap (from_read version setup start) breaks.events);
      good = breaks.good;
      rest = breaks.rest;
    }

breaks_after : (laws : TextLaws) (w : Manner) (xs text ys : List ℕ) (over : Bool) (version : ℕ) (setup : Setup) (start number : ℕ) (ahead : List ℕ) (left : Option (List ℕ)) (given : ℕ) (written waiting front : List ℕ) → AreOpenings → AreStarts
    → Opened (lines xs) version setup start number (lines ys) → xs ≡ text ++ ys → IsCutOff over text ys → w.opens (begun setup.spec start) ≡ written ++ waiting → length ahead ≡ given - most_taken
    → BreaksFollowing over version w (begun setup.spec start) start number ys (prepend_known ahead left) waiting front
    → BreaksBeyond (account_of w) xs left given (written ++ front)
breaks_after laws w xs text ys over version setup start number ahead left given written waiting front are begin h split cut opens beyond (read, breaks, is) =
    let j : Journal = journal_of version setup start read.events in
    let amid = breaks_amid laws xs text ys over version setup start number (prepend_known ahead left) read are begin h split cut breaks in
    let more = told w (begun setup.spec start) read.events in
    let wrote : written ++ front ≡ w.opens (begun setup.spec start) ++ more =
    ap (λ (z : List ℕ). written ++ z) is ∙ sym (append_assoc written waiting more) ∙ ap (λ (z : List ℕ). z ++ more) (sym opens) in
    (ahead, beyond, inl (j, amid, wrote))

pub journal_follows : AddingLaws → (laws : TextLaws) (w : Manner) (known rest left : Option (List ℕ)) (over : Bool) (ahead : List ℕ) (given version : ℕ) (setup : Setup) (start number : ℕ) (old mid new : Option (List ℕ)) (waiting : List ℕ) (result : Status) → AreOpenings → AreStarts
    → Opens known rest version number (Ok (setup, start)) → TakesText over known rest → Adds old mid [] waiting (w.opens (begun setup.spec start))
    → (IsOver over rest → Follows over version w (begun setup.spec start) start number rest (prepend_known ahead left) waiting mid new result) → IsFollowed result
    → (result ≡ status.ReadFault → length ahead ≡ given - most_taken) → FollowsInput (account_of w) known left given old new result
journal_follows adding laws w None rest left over ahead given version setup start number old mid new waiting result are begin h text adds follows followed beyond = tt
journal_follows adding laws w (Some xs) None left over ahead given version setup start number old mid new waiting result are begin h text adds follows followed beyond = absurd h
journal_follows adding laws w (Some xs) (Some ys) left over ahead given version setup start number old mid new waiting result are begin h (text, split, cut) adds follows followed beyond =
    let run = begun setup.spec start in
    let r = read_events version start number (lines ys) in
    let a = account_of w in
    let P : Verdict → Type 0 = λ v. Writes (text_of a v) (status_by (refusal_of v)) (BreaksBeyond a xs left given) old new result in
    let whole : adds.written ++ (waiting ++ rest_of_text version w run r) ≡ text_of a (from_read version setup start r) =
    sym (append_assoc adds.written waiting (rest_of_text version w run r)) ∙ ap (λ (z : List ℕ). z ++ rest_of_text version w run r) (sym adds.all) ∙ sym (text_is w version setup start r) in
    let end : status_by r.refused ≡ status_by (refusal_of (from_read version setup start r)) = sym (status_is (journal_of version setup start r.events) r.refused) in
    let all = writes_after adding adds.written _ _ _ (BreaksBeyond a xs left given) old mid new result adds.held
    (λ fault front breaks. breaks_after laws w xs text ys over version setup start number ahead left given adds.written waiting front are begin h split cut adds.all (beyond fault) breaks) followed (follows (over_of over text ys cut)) in
    subst P (sym (opened_verdict xs version setup start number (lines ys) h))
    (subst (λ (z : List ℕ). Writes z (status_by (refusal_of (from_read version setup start r))) (BreaksBeyond a xs left given) old new result) whole
    (subst (λ (x : Status). Writes (adds.written ++ (waiting ++ rest_of_text version w run r)) x (BreaksBeyond a xs left given) old new result) end all))
