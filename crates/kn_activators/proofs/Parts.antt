-- The parts of an input of several activators, each line by itself.
use Rattle.std.proofs.Common.{◌≡◌, ◌+◌, ◌<◌, ◌≤◌, ℕ, true, false, List, refl, sym, subst, arith}
use Rattle.std.specs.Prelude.{Option, None, Some, Result, Ok, Err, codes, nat_le}
use Rattle.std.specs.Str.{bytes_eq}
use Rattle.std.proofs.lemmas.Grind.{common_steps}
use Rattle.kn_event.specs.declared.fault.LineError.{LineError}
use Rattle.kn_journal.specs.declared.error.JournalError.{JournalError}
use Rattle.kn_journal.specs.declared.error.JournalError.TheVariants as error
use Rattle.kn_preamble.specs.declared.error.SetupError.{SetupError}
use Rattle.kn_preamble.specs.declared.first.FirstLine.TheVariants.{Slices as SlicesLine}
use Rattle.kn_preamble.specs.declared.setting.FixedLine.{FixedLine}
use Rattle.kn_preamble.specs.SetupLine.{fixed_line}
use Rattle.kn_journal.specs.Causes.{bad_line, bad_setup, time_back, time_too_large}
use Rattle.kn_journal.specs.Journal.{first_part, time_most}
use Rattle.kn_journal.specs.Series.{nothing_part}
use Rattle.kn_journal.specs.Lines.{fits, lines}
use Rattle.kn_journal.specs.Parts.{with_line}
use Rattle.kn_journal.specs.Reading.{TakesLine}
use Rattle.kn_journal.specs.Telling.{Gives, IsCauseOf, Judges, Lacks, Refuses, Tells}
use Rattle.kn_activators.specs.declared.event.GroupEvent.{GroupEvent}
use Rattle.kn_activators.specs.declared.setup.GroupSetup.{GroupSetup}
use Rattle.kn_activators.specs.Reading.{group_event_of}
use Rattle.kn_activators.specs.Sharing.{time_of}
use Rattle.kn_activators.specs.Verdict.{in_time, next_in, next_part, opening_part, setup_line_in, setup_part, setup_with}
use Rattle.kn_activators.proofs.Tellings.{lacks_refuses, line-gives, line-refuses, line-tells, refused-on, then-gives, then-refuses}

-- ---- the setup

pub setup-good : (many number : ℕ) (f : FixedLine) (line : List ℕ) → Ok f ≡ fixed_line many line → Judges (setup_line_in many) number line (Ok (setup_with many f))
setup-good many number f line h = λ left. rw (sym h) refl

pub setup-bad : (many number : ℕ) (line : List ℕ) (why : SetupError) → Err why ≡ fixed_line many line → Judges (setup_line_in many) number line (Err (error.BadSetup number why))
setup-bad many number line why h = (bad_setup number why, refl, λ left. rw (sym h) refl)

pub opening-tells : (many n m number : ℕ) (old mid new : Option (List ℕ)) (line : List ℕ) (r : Result GroupSetup JournalError) → Gives (first_part SlicesLine n) many m old mid → TakesLine mid new true line → fits line ≡ true
    → number ≡ m + 1 → Judges (setup_line_in many) number line r → Tells (opening_part n) number old new r
unfolding opening_part setup_part
opening-tells many n m number old mid new line r first h fit is j =
    then-gives (first_part SlicesLine n) setup_part many m number old mid new r first (line-tells m number mid new line (setup_line_in many) r h fit is j)

pub opening-lacks : (many n m : ℕ) (e : JournalError) (old mid : Option (List ℕ)) → Gives (first_part SlicesLine n) many m old mid → Lacks m e mid → Refuses (opening_part n) e old
unfolding opening_part setup_part
opening-lacks many n m e old mid first h =
    then-gives (first_part SlicesLine n) setup_part many m m old mid mid (Err e) first (lacks_refuses m e mid (setup_line_in many) h)

pub opening-no_first : (n : ℕ) (e : JournalError) (old : Option (List ℕ)) → Refuses (first_part SlicesLine n) e old → Refuses (opening_part n) e old
unfolding opening_part
opening-no_first n e old h = then-refuses (first_part SlicesLine n) setup_part e old h

-- ---- an event's line

pub event-good : (last n : ℕ) (e : GroupEvent) (r : Result GroupEvent LineError) → Ok e ≡ r → time_of e ≤ time_most → last ≤ time_of e → in_time n last r ≡ Ok e
event-good last n e r h soon order =
    let within : nat_le (time_of e) time_most ≡ true = grind (arith, common_steps) in
    let after : nat_le last (time_of e) ≡ true = grind (arith, common_steps) in
    rw (sym h, within, after) refl

pub event-late : (last n : ℕ) (e : GroupEvent) (r : Result GroupEvent LineError) → Ok e ≡ r → time_most < time_of e → IsCauseOf (error.TimeTooLarge n) (in_time n last r)
event-late last n e r h late =
    let within : nat_le (time_of e) time_most ≡ false = grind (arith, common_steps) in
    (time_too_large n, refl, rw (sym h, within) refl)

pub event-back : (last n : ℕ) (e : GroupEvent) (r : Result GroupEvent LineError) → Ok e ≡ r → time_of e ≤ time_most → time_of e < last → IsCauseOf (error.TimeBack n last (time_of e)) (in_time n last r)
event-back last n e r h soon back =
    let within : nat_le (time_of e) time_most ≡ true = grind (arith, common_steps) in
    let after : nat_le last (time_of e) ≡ false = grind (arith, common_steps) in
    (time_back n last (time_of e), refl, rw (sym h, within, after) refl)

pub event-bad : (last n : ℕ) (why : LineError) (r : Result GroupEvent LineError) → Err why ≡ r → IsCauseOf (error.BadLine n why) (in_time n last r)
event-bad last n why r h = (bad_line n why, refl, rw (sym h) refl)

-- ---- the next event, or the end

pub event-next : (s : GroupSetup) (last n number : ℕ) (old new : Option (List ℕ)) (line : List ℕ) (e : GroupEvent) → TakesLine old new true line → fits line ≡ true → number ≡ n + 1
    → bytes_eq line (codes "end") ≡ false → in_time number last (group_event_of s.activators s.pods line) ≡ Ok e → Tells (next_part s last n) number old new (Ok (Some e))
unfolding next_part
event-next s last n number old new line e h fit is other read =
    let read_as : in_time (n + 1) last (group_event_of s.activators s.pods line) ≡ Ok e = subst (λ (m : ℕ). in_time m last (group_event_of s.activators s.pods line) ≡ Ok e) is read in
    let P : ℕ → Type 0 = λ m. Gives (λ ls. with_line n ls (next_in s last)) (Some e) m old new in
    subst P (sym is) (line-gives n old new line (next_in s last) (Some e) h fit (λ left. rw (other, read_as) refl))

pub event-refused : (s : GroupSetup) (last n number : ℕ) (old new : Option (List ℕ)) (line : List ℕ) (e : JournalError) → TakesLine old new true line → fits line ≡ true → number ≡ n + 1
    → bytes_eq line (codes "end") ≡ false → IsCauseOf e (in_time number last (group_event_of s.activators s.pods line)) → Refuses (next_part s last n) e old
unfolding next_part
event-refused s last n number old new line e h fit is other (cause, error, read) =
    let read_as : in_time (n + 1) last (group_event_of s.activators s.pods line) ≡ Err cause = subst (λ (m : ℕ). in_time m last (group_event_of s.activators s.pods line) ≡ Err cause) is read in
    line-refuses n old new line (next_in s last) e h fit cause error (λ left. rw (other, read_as) refl)

pub event-lacks : (s : GroupSetup) (last n : ℕ) (e : JournalError) (old : Option (List ℕ)) → Lacks n e old → Refuses (next_part s last n) e old
unfolding next_part
event-lacks s last n e old h = lacks_refuses n e old (next_in s last) h

-- the line `end`, and then the end of the input
pub events-ended : (u : Unit {0}) (s : GroupSetup) (last n number k : ℕ) (old mid new : Option (List ℕ)) (line : List ℕ) → TakesLine old mid true line → fits line ≡ true
    → number ≡ n + 1 → bytes_eq line (codes "end") ≡ true → Gives (nothing_part number) u k mid new → Gives (next_part s last n) None k old new
unfolding next_part
events-ended u s last n number k None mid new line h fit is ends t = tt
events-ended u s last n number k (Some xs) None new line h fit is ends t = absurd h
events-ended u s last n number k (Some xs) (Some ys) None line h fit is ends t = absurd t
events-ended u s last n number k (Some xs) (Some ys) (Some zs) line h fit is ends t = rw (h, fit, ends, ← is) (rw t refl)

pub events-more : (s : GroupSetup) (last n number : ℕ) (old mid : Option (List ℕ)) (line : List ℕ) (e : JournalError) → TakesLine old mid true line → fits line ≡ true
    → number ≡ n + 1 → bytes_eq line (codes "end") ≡ true → Refuses (nothing_part number) e mid → Refuses (next_part s last n) e old
unfolding next_part
events-more s last n number None mid line e h fit is ends t = tt
events-more s last n number (Some xs) None line e h fit is ends t = absurd h
events-more s last n number (Some xs) (Some ys) line e h fit is ends t =
    refused-on e (nothing_part number (lines ys)) _ (λ cause g. rw (h, fit, ends, ← is) (rw g refl)) t
