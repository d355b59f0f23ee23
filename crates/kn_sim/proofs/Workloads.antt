-- The parts of a workload, each line by itself, and one part after the other.
use Rattle.std.proofs.Common.{◌≡◌, ◌+◌, ◌<◌, ◌≤◌, ℕ, true, false, List, [], length, refl, sym, ap, subst, arith, inl, inr}
use Rattle.std.specs.Prelude.{Option, None, Some, Result, Ok, Err, codes, nat_le, ◌⊎◌}
use Rattle.std.specs.Str.{bytes_eq}
use Rattle.std.proofs.lemmas.Grind.{common_steps}
use Rattle.kn_event.specs.declared.fault.LineError.{LineError}
use Rattle.kn_agenda.specs.declared.job.Job.{Job}
use Rattle.kn_io.specs.Causes.{Rose}
use Rattle.kn_io.specs.declared.traits.Source.{Ghosts}
use Rattle.kn_io.specs.declared.traits.Faulty.{Ghosts as Counted}
use Rattle.kn_journal.specs.declared.error.JournalError.{JournalError}
use Rattle.kn_journal.specs.declared.error.JournalError.TheVariants as error
use Rattle.kn_preamble.specs.declared.first.FirstLine.TheVariants.{Workload as WorkloadLine}
use Rattle.kn_journal.specs.declared.journal.Opening.{Opening}
use Rattle.kn_journal.specs.declared.journal.Setup.{Setup}
use Rattle.kn_journal.specs.Causes.{Cause, bad_line, time_back, time_too_large, too_many}
use Rattle.kn_journal.specs.Drawing.{Draws, error_in}
use Rattle.kn_journal.specs.Journal.{opening_part, start_part}
use Rattle.kn_journal.specs.Series.{nothing_part}
use Rattle.kn_journal.specs.Lines.{fits, lines}
use Rattle.kn_journal.specs.Parts.{Part, part, then_part, with_line}
use Rattle.kn_journal.specs.Reading.{Ahead, TakesLine, most_taken, unread}
use Rattle.kn_journal.specs.Telling.{Gives, IsCauseOf, Judges, Lacks, Refuses, Tells}
use Rattle.kn_journal.specs.LineCalls.{Anywhere}
use Rattle.kn_sim.specs.declared.workload.Workload.{Workload}
use Rattle.kn_sim.specs.Reading.{TellsWorkload, boot_most, course_part, in_turn, job_of, jobs_most, jobs_part, named_line_in, named_of, named_part, next_job_in, next_job_part, until_most, workload_of, workload_part, workload_with}
use Rattle.kn_sim.proofs.Tellings.{lacks_refuses, line-gives, line-refuses, line-tells, refused-on, then-gives, then-refuses}

-- ---- a line of a word and a number

pub named-good : (word : List ℕ) (least most number n : ℕ) (line : List ℕ) → Ok n ≡ named_of word least most line → Judges (named_line_in word least most) number line (Ok n)
named-good word least most number n line h = λ left. rw (sym h) refl

pub named-bad : (word : List ℕ) (least most number : ℕ) (line : List ℕ) (why : LineError) → Err why ≡ named_of word least most line
    → Judges (named_line_in word least most) number line (Err (error.BadLine number why))
named-bad word least most number line why h = (bad_line number why, refl, λ left. rw (sym h) refl)

pub named-tells : (word : List ℕ) (least most n number : ℕ) (old new : Option (List ℕ)) (line : List ℕ) (r : Result ℕ JournalError) → TakesLine old new true line → fits line ≡ true → number ≡ n + 1
    → Judges (named_line_in word least most) number line r → Tells (named_part word least most n) number old new r
unfolding named_part
named-tells word least most n number old new line r h fit is j = line-tells n number old new line (named_line_in word least most) r h fit is j

pub named-lacks : (word : List ℕ) (least most n : ℕ) (e : JournalError) (old : Option (List ℕ)) → Lacks n e old → Refuses (named_part word least most n) e old
unfolding named_part
named-lacks word least most n e old h = lacks_refuses n e old (named_line_in word least most) h

-- ---- a job's line

pub job-good : (until last count n : ℕ) (j : Job) (r : Result Job LineError) → Ok j ≡ r → count < jobs_most → j.time ≤ until → last ≤ j.time → in_turn until last count n r ≡ Ok j
job-good until last count n j r h few soon order =
    let room : nat_le jobs_most count ≡ false = grind (arith, common_steps) in
    let within : nat_le j.time until ≡ true = grind (arith, common_steps) in
    let after : nat_le last j.time ≡ true = grind (arith, common_steps) in
    rw (sym h, room, within, after) refl

pub job-many : (until last count n : ℕ) (j : Job) (r : Result Job LineError) → Ok j ≡ r → jobs_most ≤ count → IsCauseOf (error.TooMany n) (in_turn until last count n r)
job-many until last count n j r h full =
    let room : nat_le jobs_most count ≡ true = grind (arith, common_steps) in
    (too_many n, refl, rw (sym h, room) refl)

pub job-late : (until last count n : ℕ) (j : Job) (r : Result Job LineError) → Ok j ≡ r → count < jobs_most → until < j.time → IsCauseOf (error.TimeTooLarge n) (in_turn until last count n r)
job-late until last count n j r h few late =
    let room : nat_le jobs_most count ≡ false = grind (arith, common_steps) in
    let within : nat_le j.time until ≡ false = grind (arith, common_steps) in
    (time_too_large n, refl, rw (sym h, room, within) refl)

pub job-back : (until last count n : ℕ) (j : Job) (r : Result Job LineError) → Ok j ≡ r → count < jobs_most → j.time ≤ until → j.time < last → IsCauseOf (error.TimeBack n last j.time) (in_turn until last count n r)
job-back until last count n j r h few soon back =
    let room : nat_le jobs_most count ≡ false = grind (arith, common_steps) in
    let within : nat_le j.time until ≡ true = grind (arith, common_steps) in
    let after : nat_le last j.time ≡ false = grind (arith, common_steps) in
    (time_back n last j.time, refl, rw (sym h, room, within, after) refl)

pub job-bad : (until last count n : ℕ) (why : LineError) (r : Result Job LineError) → Err why ≡ r → IsCauseOf (error.BadLine n why) (in_turn until last count n r)
job-bad until last count n why r h = (bad_line n why, refl, rw (sym h) refl)

-- ---- the next job, or the end

pub job-next : (until last count n number : ℕ) (old new : Option (List ℕ)) (line : List ℕ) (j : Job) → TakesLine old new true line → fits line ≡ true → number ≡ n + 1
    → bytes_eq line (codes "end") ≡ false → in_turn until last count number (job_of line) ≡ Ok j → Tells (next_job_part until last count n) number old new (Ok (Some j))
unfolding next_job_part
job-next until last count n number old new line j h fit is other read =
    let read_as : in_turn until last count (n + 1) (job_of line) ≡ Ok j = subst (λ (m : ℕ). in_turn until last count m (job_of line) ≡ Ok j) is read in
    let P : ℕ → Type 0 = λ m. Gives (λ ls. with_line n ls (next_job_in until last count)) (Some j) m old new in
    subst P (sym is) (line-gives n old new line (next_job_in until last count) (Some j) h fit (λ left. rw (other, read_as) refl))

pub job-refused : (until last count n number : ℕ) (old new : Option (List ℕ)) (line : List ℕ) (e : JournalError) → TakesLine old new true line → fits line ≡ true → number ≡ n + 1
    → bytes_eq line (codes "end") ≡ false → IsCauseOf e (in_turn until last count number (job_of line)) → Refuses (next_job_part until last count n) e old
unfolding next_job_part
job-refused until last count n number old new line e h fit is other (cause, error, read) =
    let read_as : in_turn until last count (n + 1) (job_of line) ≡ Err cause = subst (λ (m : ℕ). in_turn until last count m (job_of line) ≡ Err cause) is read in
    line-refuses n old new line (next_job_in until last count) e h fit cause error (λ left. rw (other, read_as) refl)

pub job-lacks : (until last count n : ℕ) (e : JournalError) (old : Option (List ℕ)) → Lacks n e old → Refuses (next_job_part until last count n) e old
unfolding next_job_part
job-lacks until last count n e old h = lacks_refuses n e old (next_job_in until last count) h

-- the line `end`, and then the end of the input
pub jobs-ended : (u : Unit {0}) (until last count n number k : ℕ) (old mid new : Option (List ℕ)) (line : List ℕ) → TakesLine old mid true line → fits line ≡ true
    → number ≡ n + 1 → bytes_eq line (codes "end") ≡ true → Gives (nothing_part number) u k mid new → Gives (next_job_part until last count n) None k old new
unfolding next_job_part
jobs-ended u until last count n number k None mid new line h fit is ends t = tt
jobs-ended u until last count n number k (Some xs) None new line h fit is ends t = absurd h
jobs-ended u until last count n number k (Some xs) (Some ys) None line h fit is ends t = absurd t
jobs-ended u until last count n number k (Some xs) (Some ys) (Some zs) line h fit is ends t = rw (h, fit, ends, ← is) (rw t refl)

pub jobs-more : (until last count n number : ℕ) (old mid : Option (List ℕ)) (line : List ℕ) (e : JournalError) → TakesLine old mid true line → fits line ≡ true
    → number ≡ n + 1 → bytes_eq line (codes "end") ≡ true → Refuses (nothing_part number) e mid → Refuses (next_job_part until last count n) e old
unfolding next_job_part
jobs-more until last count n number None mid line e h fit is ends t = tt
jobs-more until last count n number (Some xs) None line e h fit is ends t = absurd h
jobs-more until last count n number (Some xs) (Some ys) line e h fit is ends t =
    refused-on e (nothing_part number (lines ys)) _ (λ cause g. rw (h, fit, ends, ← is) (rw g refl)) t

-- ---- the end and the jobs

whole-gives : (w : Workload) (n : ℕ) (new : Option (List ℕ)) → Gives (λ ls. Ok (part w n ls)) w n new new
whole-gives w n None = tt
whole-gives w n (Some xs) = refl

abbrev jobs_read : Setup → ℕ → ℕ → ℕ → List Job → ℕ → List (List ℕ) → Result (Part Workload) Cause
jobs_read setup start boot until jobs n left = Ok (part (workload_with setup start boot until jobs) n left)

abbrev until_read : Setup → ℕ → ℕ → ℕ → ℕ → List (List ℕ) → Result (Part Workload) Cause
until_read setup start boot until n ls = then_part (jobs_part until start 0 n ls) (jobs_read setup start boot until)

pub course-gives : (setup : Setup) (start boot until : ℕ) (jobs : List Job) (n m k : ℕ) (old mid new : Option (List ℕ)) → Gives (named_part (codes "until") start (until_most start) n) until m old mid
    → Gives (jobs_part until start 0 m) jobs k mid new → Gives (course_part setup start boot n) (workload_with setup start boot until jobs) k old new
unfolding course_part
course-gives setup start boot until jobs n m k old mid new u j =
    let w = workload_with setup start boot until jobs in
    then-gives (named_part (codes "until") start (until_most start) n) (until_read setup start boot) until m k old mid new (Ok w) u
    (then-gives (jobs_part until start 0 m) (jobs_read setup start boot until) jobs k k mid new new (Ok w) j (whole-gives w k new))

pub course-no_until : (setup : Setup) (start boot n : ℕ) (e : JournalError) (old : Option (List ℕ)) → Refuses (named_part (codes "until") start (until_most start) n) e old → Refuses (course_part setup start boot n) e old
unfolding course_part
course-no_until setup start boot n e old h = then-refuses (named_part (codes "until") start (until_most start) n) (until_read setup start boot) e old h

pub course-no_jobs : (setup : Setup) (start boot until n m : ℕ) (e : JournalError) (old mid : Option (List ℕ)) → Gives (named_part (codes "until") start (until_most start) n) until m old mid
    → Refuses (jobs_part until start 0 m) e mid → Refuses (course_part setup start boot n) e old
unfolding course_part
course-no_jobs setup start boot until n m e old mid u h =
    then-gives (named_part (codes "until") start (until_most start) n) (until_read setup start boot) until m m old mid mid (Err e) u
    (then-refuses (jobs_part until start 0 m) (jobs_read setup start boot until) e mid h)

-- ---- all of it

abbrev boot_read : Setup → ℕ → ℕ → ℕ → List (List ℕ) → Result (Part Workload) Cause
boot_read setup start boot n ls = course_part setup start boot n ls

abbrev start_read : Setup → ℕ → ℕ → List (List ℕ) → Result (Part Workload) Cause
start_read setup start n ls = then_part (named_part (codes "boot") 0 boot_most n ls) (boot_read setup start)

abbrev opening_read : Opening → ℕ → List (List ℕ) → Result (Part Workload) Cause
opening_read opening n ls = then_part (start_part n ls) (start_read opening.setup)

pub workload-tells : (opening : Opening) (start boot n m k l p : ℕ) (old a b c new : Option (List ℕ)) (r : Result Workload JournalError) → Gives (opening_part WorkloadLine n) opening m old a
    → Gives (start_part m) start k a b → Gives (named_part (codes "boot") 0 boot_most k) boot l b c → Tells (course_part opening.setup start boot l) p c new r → Tells (workload_part n) p old new r
unfolding workload_part
workload-tells opening start boot n m k l p old a b c new r f g h t =
    then-gives (opening_part WorkloadLine n) opening_read opening m p old a new r f
    (then-gives (start_part m) (start_read opening.setup) start k p a b new r g
    (then-gives (named_part (codes "boot") 0 boot_most k) (boot_read opening.setup start) boot l p b c new r h t))

pub workload-no_opening : (n : ℕ) (e : JournalError) (old : Option (List ℕ)) → Refuses (opening_part WorkloadLine n) e old → Refuses (workload_part n) e old
unfolding workload_part
workload-no_opening n e old h = then-refuses (opening_part WorkloadLine n) opening_read e old h

pub workload-no_start : (opening : Opening) (n m : ℕ) (e : JournalError) (old a : Option (List ℕ)) → Gives (opening_part WorkloadLine n) opening m old a → Refuses (start_part m) e a → Refuses (workload_part n) e old
unfolding workload_part
workload-no_start opening n m e old a f h =
    then-gives (opening_part WorkloadLine n) opening_read opening m m old a a (Err e) f (then-refuses (start_part m) (start_read opening.setup) e a h)

pub workload-no_boot : (opening : Opening) (start n m k : ℕ) (e : JournalError) (old a b : Option (List ℕ)) → Gives (opening_part WorkloadLine n) opening m old a → Gives (start_part m) start k a b
    → Refuses (named_part (codes "boot") 0 boot_most k) e b → Refuses (workload_part n) e old
unfolding workload_part
workload-no_boot opening start n m k e old a b f g h =
    then-gives (opening_part WorkloadLine n) opening_read opening m k old a b (Err e) f
    (then-gives (start_part m) (start_read opening.setup) start k k a b b (Err e) g (then-refuses (named_part (codes "boot") 0 boot_most k) (boot_read opening.setup start) e b h))

-- ---- from the first byte on

pub told : (number k : ℕ) (x : Ahead) (left new : Option (List ℕ)) (r : Result Workload JournalError) → number ≡ 0 → x.ahead ≡ [] → Tells (workload_part number) k (unread x left) new r → TellsWorkload left r
unfolding workload_of
told number k x None new (Ok w) first none h = tt
told number k x None new (Err e) first none h = tt
told number k x (Some xs) None (Ok w) first none h = absurd h
told number k x (Some xs) (Some ys) (Ok w) first none h = (k, lines ys, rw (first, none) at h)
told number k x (Some xs) new (Err e) first none h = rw (first, none) at h

all_given : (given now taken ahead before waits most : ℕ) → before ≡ 0 → waits ≡ 0 → taken ≡ most → given + (taken + ahead) ≡ now + (before + waits) → given + most ≤ now
all_given given now taken ahead before waits most none empty full balance = omega arith

pub at_fault : {X : Type 0} {own : Ghosts X} {faulty : Counted X} (x y : Ahead) (s t : X) (r : Result Workload JournalError) → x.taken ≡ 0 → x.ahead ≡ [] → Draws Anywhere (error_in r) x y own faulty s t
    → r ≡ Err error.ReadFault → Rose (faulty.faults s) (faulty.faults t) ⊎ (own.given s + most_taken ≤ own.given t)
at_fault {X} {own} {faulty} x y s t r none empty d is = by (d.fault (ap error_in is))
  where
    by : Rose (faulty.faults s) (faulty.faults t) ⊎ (y.taken ≡ most_taken) → Rose (faulty.faults s) (faulty.faults t) ⊎ (own.given s + most_taken ≤ own.given t)
    by (inl rose) = inl rose
    by (inr full) = inr (all_given (own.given s) (own.given t) y.taken (length y.ahead) x.taken (length x.ahead) most_taken none (ap length empty) full d.balance)
