-- What is left behind a refused line.
use Rattle.std.proofs.Common.{◌≡◌, ◌+◌, ℕ, List, ◌++◌, length, length-append, append_assoc, arith, refl, sym, ap, ◌∙◌, subst, inl, inr}
use Rattle.std.specs.Prelude.{Option, None, Some, Ok, Err}
use Rattle.kn_event.specs.declared.event.Event.{Event}
use Rattle.kn_preamble.specs.declared.first.FirstLine.TheVariants.{Journal as JournalLine}
use Rattle.kn_journal.specs.declared.error.JournalError.{JournalError}
use Rattle.kn_journal.specs.declared.error.JournalError.TheVariants as error
use Rattle.kn_journal.specs.declared.journal.Opening.{Opening}
use Rattle.kn_journal.specs.declared.journal.Setup.{Setup}
use Rattle.kn_journal.specs.declared.status.Status.{Status}
use Rattle.kn_journal.specs.Causes.{Cause}
use Rattle.kn_journal.specs.Lines.{lines}
use Rattle.kn_journal.specs.Parts.{IsWhole, part}
use Rattle.kn_journal.specs.Journal.{Verdict, bad, from_read, journal_of, next_part, opening_part, read_events, start_part, verdict_of_lines}
use Rattle.kn_journal.specs.Series.{Read, none_read}
use Rattle.kn_journal.specs.Telling.{Gives, IsLineFault, LeavesRest, refused_line}
use Rattle.kn_follow.specs.Endings.{IsBehind, IsRefusal, Stops, line_of, refusal_of, status_by, status_of}
use Rattle.kn_follow.specs.Following.{FollowsBehind, Opens}
use Rattle.kn_follow.proofs.Lines.{next_refused, with_events}
use Rattle.kn_follow.proofs.Follows.{GoesOn}
use Rattle.kn_follow.proofs.Statuses.{status_is}

-- ---- statuses

is_refused : (e : JournalError) → IsRefusal (status_of e) → IsLineFault e
is_refused error.ReadFault h = absurd h
is_refused error.Memory h = absurd h
is_refused (error.BadFirstLine due) h = h
is_refused (error.BadSetup line why) h = h
is_refused (error.LineTooLong line) h = h
is_refused (error.BadLine line why) h = h
is_refused (error.TimeBack line before own) h = h
is_refused (error.TimeTooLarge line) h = h
is_refused error.NoEnd h = h
is_refused (error.AfterEnd line) h = h
is_refused (error.TooMany line) h = h

pub stop_refused : (waiting : List ℕ) (old new : Option (List ℕ)) (e : JournalError) (result : Status) → Stops waiting old new (status_of e) result → IsRefusal result → (result ≡ status_of e) × IsLineFault e
stop_refused waiting old new e result (inl (is, all)) h = (is, is_refused e (subst IsRefusal is h))
stop_refused waiting old new e result (inr (is, some)) h = absurd (subst IsRefusal is h)

pub stop_unrefused : (waiting : List ℕ) (old new : Option (List ℕ)) (end result : Status) → Stops waiting old new end result → (IsRefusal end → ⊥) → IsRefusal result → ⊥
stop_unrefused waiting old new end result (inl (is, all)) other h = other (subst IsRefusal is h)
stop_unrefused waiting old new end result (inr (is, some)) other h = subst IsRefusal is h

no_first : (k : ℕ) → ◌≡◌ {A = Option ℕ} None (Some k) → ◌≡◌ {A = Option ℕ} (Some 1) (Some k)
no_first k h = cc

-- a status names the line that its error names
line_named : (first : Option ℕ) (k : ℕ) (e : JournalError) → (first ≡ Some k → Some 1 ≡ Some k) → refused_line first e ≡ Some k → line_of (status_of e) ≡ Some k
line_named first k error.ReadFault one h = h
line_named first k error.Memory one h = h
line_named first k (error.BadFirstLine due) one h = one h
line_named first k (error.BadSetup line why) one h = h
line_named first k (error.LineTooLong line) one h = h
line_named first k (error.BadLine line why) one h = h
line_named first k (error.TimeBack line before own) one h = h
line_named first k (error.TimeTooLarge line) one h = h
line_named first k error.NoEnd one h = h
line_named first k (error.AfterEnd line) one h = h
line_named first k (error.TooMany line) one h = h

status_on : (own : List (List ℕ)) (v : Verdict) → verdict_of_lines own ≡ v → status_by (refusal_of (verdict_of_lines own)) ≡ status_by (refusal_of v)
status_on own v h = ap (λ (x : Verdict). status_by (refusal_of x)) h

-- ---- before the events

pub lines_unopened : (own : List (List ℕ)) (cause : Cause) → opening_part JournalLine 0 own ≡ Err cause → verdict_of_lines own ≡ bad None cause
unfolding verdict_of_lines
lines_unopened own cause h = rw h refl

pub lines_unstarted : (own : List (List ℕ)) (opening : Opening) (n : ℕ) (left : List (List ℕ)) (cause : Cause) → opening_part JournalLine 0 own ≡ Ok (part opening n left) → start_part n left ≡ Err cause
    → verdict_of_lines own ≡ bad None cause
unfolding verdict_of_lines
lines_unstarted own opening n left cause h k = rw h (rw k refl)

pub setup_behind : (known new : Option (List ℕ)) (e : JournalError) → (IsLineFault e → LeavesRest (opening_part JournalLine 0) 0 (Some 1) e known new) → IsRefusal (status_of e) → IsBehind (status_of e) known new
setup_behind known new e h refused = by_known known new (h (is_refused e refused))
  where
    by_known : (a b : Option (List ℕ)) → LeavesRest (opening_part JournalLine 0) 0 (Some 1) e a b → IsBehind (status_of e) a b
    by_known None b k = tt
    by_known (Some xs) None k = absurd k
    by_known (Some xs) (Some ys) (own, split, named, (cause, is, none)) =
        let count : 0 + length own ≡ length own = omega arith in
        (own, split, line_named (Some 1) (length own) e (λ h. h) (named ∙ ap (λ (x : ℕ). Some x) count), status_on own (bad None cause) (lines_unopened own cause none) ∙ ap status_of is)

-- an opening is read by itself, and so is a start
abbrev pub AreOpenings : Type 0
AreOpenings = (ls left : List (List ℕ)) (o : Opening) (n : ℕ) → opening_part JournalLine 0 ls ≡ Ok (part o n left) → IsWhole 0 (opening_part JournalLine 0) ls o n left

abbrev pub AreStarts : Type 0
AreStarts = (m : ℕ) (ls left : List (List ℕ)) (time n : ℕ) → start_part m ls ≡ Ok (part time n left) → IsWhole m (start_part m) ls time n left

pub start_behind : (known mid new : Option (List ℕ)) (opening : Opening) (n : ℕ) (e : JournalError) → AreOpenings → Gives (opening_part JournalLine 0) opening n known mid
    → (IsLineFault e → LeavesRest (start_part n) n None e mid new) → IsRefusal (status_of e) → IsBehind (status_of e) known new
start_behind known mid new opening n e whole gives h refused = by_known known mid new gives (h (is_refused e refused))
  where
    by_known : (a b d : Option (List ℕ)) → Gives (opening_part JournalLine 0) opening n a b → LeavesRest (start_part n) n None e b d → IsBehind (status_of e) a d
    by_known None b d g k = tt
    by_known (Some xs) None d g k = absurd g
    by_known (Some xs) (Some ys) None g k = absurd k
    by_known (Some xs) (Some ys) (Some zs) g (more, split, named, (cause, is, none)) =
        let w = whole (lines xs) (lines ys) opening n g in
        let own = w.own ++ more in
        let count : n + length more ≡ length own = omega (arith, w.count, length-append w.own more) in (
          own,
          w.split ∙ ap (λ (y : List (List ℕ)). w.own ++ y) split ∙ sym (append_assoc w.own more (lines zs)),
          line_named None (length own) e (no_first (length own)) (named ∙ ap (λ (x : ℕ). Some x) count),
          status_on own (bad None cause) (lines_unstarted own opening n more cause (w.alone more) none) ∙ ap status_of is,
        )

-- ---- the events

pub goes_behind : (version last number : ℕ) (known : Option (List ℕ)) (es : List Event) (time m : ℕ) (rest left : Option (List ℕ)) (e : JournalError) (result : Status)
    → GoesOn version last number known es time m rest → LeavesRest (next_part version time m) m None e rest left → result ≡ status_of e → FollowsBehind version last number result known left
goes_behind version last number None es time m rest left e result h k same = tt
goes_behind version last number (Some xs) es time m None left e result h k same = absurd h
goes_behind version last number (Some xs) es time m (Some ys) None e result h k same = absurd k
goes_behind version last number (Some xs) es time m (Some ys) (Some zs) e result h (more, split, named, (cause, is, none)) same =
    let own = h.own ++ more in
    let read : read_events version last number own ≡ with_events es (none_read (Some cause)) = h.reads more ∙ ap (with_events es) (next_refused version time m more cause none) in
    let count : m + length more ≡ number + length own = omega (arith, h.count, length-append h.own more) in (
      own,
      h.split ∙ ap (λ (y : List (List ℕ)). h.own ++ y) split ∙ sym (append_assoc h.own more (lines zs)),
      ap line_of same ∙ line_named None (number + length own) e (no_first (number + length own)) (named ∙ ap (λ (x : ℕ). Some x) count),
      ap (λ (r : Read Event). status_by r.refused) read ∙ ap status_of is ∙ sym same,
    )

-- ---- the whole

pub lines_read : (own : List (List ℕ)) (version : ℕ) (setup : Setup) (start at number : ℕ) (after left : List (List ℕ)) → opening_part JournalLine 0 own ≡ Ok (part (record { version = version; setup = setup }) at after)
    → start_part at after ≡ Ok (part start number left) → verdict_of_lines own ≡ from_read version setup start (read_events version start number left)
unfolding verdict_of_lines
lines_read own version setup start at number after left h k = rw h (rw k refl)

pub journal_behind : (known rest left : Option (List ℕ)) (version : ℕ) (setup : Setup) (start number : ℕ) (result : Status) → AreOpenings → AreStarts
    → Opens known rest version number (Ok (setup, start)) → FollowsBehind version start number result rest left → IsBehind result known left
journal_behind None rest left version setup start number result whole begin h k = tt
journal_behind (Some xs) None left version setup start number result whole begin h k = absurd h
journal_behind (Some xs) (Some ys) None version setup start number result whole begin h k = absurd k
journal_behind (Some xs) (Some ys) (Some zs) version setup start number result whole begin h (more, split, named, is) =
    let o : Opening = record { version = version; setup = setup } in
    let a = whole (lines xs) h.after o h.at h.opening in
    let b = begin h.at h.after (lines ys) start number h.begins in
    let rest = b.own ++ more in
    let own = a.own ++ rest in
    let after : h.after ≡ rest ++ lines zs = b.split ∙ ap (λ (y : List (List ℕ)). b.own ++ y) split ∙ sym (append_assoc b.own more (lines zs)) in
    let read = read_events version start number more in
    let verdict = lines_read own version setup start h.at number rest more (a.alone rest) (b.alone more) in
    let count : number + length more ≡ length own = omega (arith, a.count, b.count, length-append a.own rest, length-append b.own more) in (
      own,
      a.split ∙ ap (λ (y : List (List ℕ)). a.own ++ y) after ∙ sym (append_assoc a.own rest (lines zs)),
      named ∙ ap (λ (x : ℕ). Some x) count,
      status_on own (from_read version setup start read) verdict ∙ status_is (journal_of version setup start read.events) read.refused ∙ is,
    )
