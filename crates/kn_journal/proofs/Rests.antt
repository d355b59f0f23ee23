-- What is left behind a line that was refused.
use Rattle.std.proofs.Common.{◌≡◌, ◌+◌, ℕ, Bool, true, false, List, [], ◌∷◌, length, refl, sym, ap, ◌∙◌, subst, arith}
use Rattle.std.specs.Prelude.{Option, None, Some, Result, Ok, Err, IfErr, codes, nat_le, if◌then◌else◌}
use Rattle.std.specs.Str.{bytes_eq}
use Rattle.kn_event.specs.declared.event.Event.{Event}
use Rattle.kn_event.specs.declared.fault.LineError.{LineError}
use Rattle.kn_event.specs.EventLine.{event_of}
use Rattle.kn_journal.specs.declared.error.JournalError.{JournalError}
use Rattle.kn_journal.specs.declared.error.JournalError.TheVariants as error
use Rattle.kn_journal.specs.Causes.{Cause, after_end, bad_line, error_of, time_back, time_too_large}
use Rattle.kn_journal.specs.Bundle.{next_by, next_of_in, next_of_part}
use Rattle.kn_journal.specs.Journal.{in_time, next_in, next_part, start_in, start_line_in, start_of, start_part, time_most}
use Rattle.kn_journal.specs.Series.{nothing_part}
use Rattle.kn_journal.specs.Lines.{fits}
use Rattle.kn_journal.specs.Parts.{Part, part, with_line}
use Rattle.kn_journal.specs.Reading.{TakesLine}
use Rattle.kn_journal.specs.Telling.{IsCauseOf, IsLineFault, Judges, LeavesRest, refused_line}
use Rattle.kn_journal.proofs.Consumed.{with_line-fits}

-- ---- a cause names the line that it refuses

pub refused-named : {T : Type 0} (first : Option ℕ) (number : ℕ) (x cause : Cause) (r : Result T Cause) → r ≡ Err cause → r ≡ Err x → refused_line first (error_of x) ≡ Some number
    → refused_line first (error_of cause) ≡ Some number
refused-named first number x cause r h e named =
    let same : x ≡ cause = cc in
    subst (λ (y : Cause). refused_line first (error_of y) ≡ Some number) same named

-- each line that is refused at this number
abbrev pub IsNamed : {T : Type 0} → Option ℕ → (ℕ → List ℕ → List (List ℕ) → Result T Cause) → ℕ → Type 0
IsNamed first next number = (line : List ℕ) (cause : Cause) → next number line [] ≡ Err cause → refused_line first (error_of cause) ≡ Some number

start_in-named : (number : ℕ) (r : Result ℕ LineError) (cause : Cause) → start_in number [] r ≡ Err cause → refused_line None (error_of cause) ≡ Some number
start_in-named number (Err why) cause h = refused-named None number (bad_line number why) cause (start_in number [] (Err why)) h refl refl
start_in-named number (Ok time) cause h = by_test (nat_le time time_most) refl h
  where
    by_test : (t : Bool) → nat_le time time_most ≡ t → (if t then Ok (part time number []) else Err (time_too_large number)) ≡ Err cause → refused_line None (error_of cause) ≡ Some number
    by_test true e g = cc
    by_test false e g =
        let late : Result (Part ℕ) Cause = Err (time_too_large number) in
        refused-named None number (time_too_large number) cause late g refl refl

start-named : (number : ℕ) → IsNamed None start_line_in number
start-named number = λ line cause h. start_in-named number (start_of line) cause h

event-named : (number last : ℕ) (r : Result Event LineError) (cause : Cause) → in_time number last r ≡ Err cause → refused_line None (error_of cause) ≡ Some number
event-named number last (Err why) cause h = refused-named None number (bad_line number why) cause (in_time number last (Err why)) h refl refl
event-named number last (Ok e) cause h = by_tests (nat_le e.time time_most) (nat_le last e.time) h
  where
    by_tests : (t u : Bool) → (if t then (if u then Ok e else Err (time_back number last e.time)) else Err (time_too_large number)) ≡ Err cause → refused_line None (error_of cause) ≡ Some number
    by_tests true true g = cc
    by_tests true false g =
        let back : Result Event Cause = Err (time_back number last e.time) in
        refused-named None number (time_back number last e.time) cause back g refl refl
    by_tests false u g =
        let late : Result Event Cause = Err (time_too_large number) in
        refused-named None number (time_too_large number) cause late g refl refl

-- ---- one line

pub line-leaves : {T : Type 0} (n : ℕ) (first : Option ℕ) (old new : Option (List ℕ)) (line : List ℕ) (next : ℕ → List ℕ → List (List ℕ) → Result (Part T) Cause) (e : JournalError) (cause : Cause)
    → TakesLine old new true line → fits line ≡ true → error_of cause ≡ e → refused_line first e ≡ Some (n + 1) → next (n + 1) line [] ≡ Err cause → LeavesRest (λ ls. with_line n ls next) n first e old new
line-leaves n first None new line next e cause h fit is named refused = tt
line-leaves n first (Some xs) None line next e cause h fit is named refused = absurd h
line-leaves n first (Some xs) (Some ys) line next e cause h fit is named refused = (line ∷ [], h, named, (cause, is, with_line-fits n line [] next fit ∙ refused))

pub line-rest : {T : Type 0} (n number : ℕ) (first : Option ℕ) (old new : Option (List ℕ)) (line : List ℕ) (next : ℕ → List ℕ → List (List ℕ) → Result (Part T) Cause) (r : Result T JournalError)
    → TakesLine old new true line → fits line ≡ true → number ≡ n + 1 → IsNamed first next (n + 1) → Judges next number line r
    → IfErr r (λ e. IsLineFault e → LeavesRest (λ ls. with_line n ls next) n first e old new)
line-rest n number first old new line next (Ok x) h fit is named j = tt
line-rest n number first old new line next (Err e) h fit is named (cause, same, refused) = λ k.
    let told : next (n + 1) line [] ≡ Err cause = subst (λ (m : ℕ). next m line [] ≡ Err cause) is (refused []) in
    line-leaves n first old new line next e cause h fit same (subst (λ (x : JournalError). refused_line first x ≡ Some (n + 1)) same (named line cause told)) told

-- ---- the start

pub start-rest : (n number : ℕ) (old new : Option (List ℕ)) (line : List ℕ) (r : Result ℕ JournalError) → TakesLine old new true line → fits line ≡ true → number ≡ n + 1
    → Judges start_line_in number line r → IfErr r (λ e. IsLineFault e → LeavesRest (start_part n) n None e old new)
unfolding start_part
start-rest n number old new line r h fit is j = line-rest n number None old new line start_line_in r h fit is (start-named (n + 1)) j

-- ---- an event, and the end

pub event-rest : (bundle : Bool) (version last n number : ℕ) (old new : Option (List ℕ)) (line : List ℕ) (e : JournalError) → TakesLine old new true line → fits line ≡ true → number ≡ n + 1
    → bytes_eq line (codes "end") ≡ false → IsCauseOf e (in_time number last (event_of version line)) → LeavesRest (next_by bundle version last n) n None e old new
unfolding next_part next_of_part
event-rest true version last n number old new line e h fit is other (cause, same, read) =
    let read_as : in_time (n + 1) last (event_of version line) ≡ Err cause = subst (λ (m : ℕ). in_time m last (event_of version line) ≡ Err cause) is read in
    let named : refused_line None e ≡ Some (n + 1) = subst (λ (x : JournalError). refused_line None x ≡ Some (n + 1)) same (event-named (n + 1) last (event_of version line) cause read_as) in
    line-leaves n None old new line (next_of_in version last) e cause h fit same named (rw (other, read_as) refl)
event-rest false version last n number old new line e h fit is other (cause, same, read) =
    let read_as : in_time (n + 1) last (event_of version line) ≡ Err cause = subst (λ (m : ℕ). in_time m last (event_of version line) ≡ Err cause) is read in
    let named : refused_line None e ≡ Some (n + 1) = subst (λ (x : JournalError). refused_line None x ≡ Some (n + 1)) same (event-named (n + 1) last (event_of version line) cause read_as) in
    line-leaves n None old new line (next_in version last) e cause h fit same named (rw (other, read_as) refl)

pub end-rest : (n m : ℕ) (old new : Option (List ℕ)) (line : List ℕ) → m ≡ n + 1 → TakesLine old new true line → fits line ≡ true
    → LeavesRest (nothing_part n) n None (error.AfterEnd m) old new
end-rest n m None new line is h fit = tt
end-rest n m (Some xs) None line is h fit = absurd h
end-rest n m (Some xs) (Some ys) line is h fit = (line ∷ [], h, ap (λ (x : ℕ). Some x) is, (after_end (n + 1), ap error.AfterEnd (sym is), rw fit refl))

-- the line `end`, and then one that is refused
pub ended-rest : (version last n number : ℕ) (old mid new : Option (List ℕ)) (line : List ℕ) (e : JournalError) → TakesLine old mid true line → fits line ≡ true → number ≡ n + 1
    → bytes_eq line (codes "end") ≡ true → LeavesRest (nothing_part number) number None e mid new → LeavesRest (next_part version last n) n None e old new
unfolding next_part
ended-rest version last n number None mid new line e h fit is ends t = tt
ended-rest version last n number (Some xs) None new line e h fit is ends t = absurd h
ended-rest version last n number (Some xs) (Some ys) None line e h fit is ends t = absurd t
ended-rest version last n number (Some xs) (Some ys) (Some zs) line e h fit is ends (own, split, named, (cause, same, refused)) =
    let count : number + length own ≡ n + length (line ∷ own) = omega (arith, is) in (
      line ∷ own,
      h ∙ ap (λ (x : List (List ℕ)). line ∷ x) split,
      named ∙ ap (λ (x : ℕ). Some x) count,
      (cause, same, with_line-fits n line own (next_in version last) fit ∙ rw (ends, ← is) (rw refused refl)),
    )
