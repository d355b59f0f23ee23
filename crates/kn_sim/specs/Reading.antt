-- What the bytes of an input say: a workload, or why it is refused.
use Rattle.std.specs.Prelude.{◌≡◌, ℕ, ◌+◌, ◌&&◌, nat_le, min, List, [], ◌∷◌, length, Option, None, Some, Result, Ok, Err, codes, if◌then◌else◌, ⊤}
use Rattle.std.specs.Str.{bytes_eq}
use Rattle.kn_event.specs.declared.fault.LineError.{LineError}
use Rattle.kn_event.specs.declared.fault.LineError.TheVariants as fault
use Rattle.kn_event.specs.EventLine.{Taken, end_due, number_due, or_else_fault, taken_or, then_due}
use Rattle.kn_event.specs.Fields.{fields}
use Rattle.kn_event.specs.Numbers.{number_of}
use Rattle.kn_agenda.specs.declared.job.Job.{Job}
use Rattle.kn_journal.specs.declared.error.JournalError.{JournalError}
use Rattle.kn_preamble.specs.declared.first.FirstLine.TheVariants.{Workload as WorkloadLine}
use Rattle.kn_journal.specs.declared.journal.Setup.{Setup}
use Rattle.kn_journal.specs.Causes.{Cause, bad_line, no_end, time_back, time_too_large, too_many}
use Rattle.kn_journal.specs.Journal.{opening_part, start_part, time_most}
use Rattle.kn_journal.specs.Lines.{lines}
use Rattle.kn_journal.specs.Parts.{Part, part, then_part, with_line}
use Rattle.kn_journal.specs.Telling.{Refused}
use Rattle.kn_sim.specs.declared.workload.Workload.{Workload}
use Rattle.kn_journal.specs.Series.{end_part, item_in}

-- ---- a line of a word and a number

-- a number from the least to the most
abbrev pub within : ℕ → ℕ → Option ℕ → Option ℕ
within least most None = None
within least most (Some n) = if nat_le least n && nat_le n most then Some n else None

abbrev pub within_due : ℕ → ℕ → ℕ → List (List ℕ) → Result (Taken ℕ) LineError
within_due least most at [] = Err (fault.BadNumber at)
within_due least most at (field ∷ more) = taken_or (fault.BadNumber (at + 1)) (within least most (number_of field)) (at + 1 + length field) more

abbrev pub last_within : ℕ → ℕ → ℕ → List (List ℕ) → Result ℕ LineError
last_within least most at more = then_due (within_due least most at more) (λ n end left. end_due end left n)

abbrev pub named_of_fields : List ℕ → ℕ → ℕ → List (List ℕ) → Result ℕ LineError
named_of_fields word least most [] = Err fault.BadWord
named_of_fields word least most (first ∷ more) = if bytes_eq first word then last_within least most (length first) more else Err fault.BadWord

-- the number of `WORD N`, or its first fault
unfoldable pub named_of : List ℕ → ℕ → ℕ → List ℕ → Result ℕ LineError
named_of word least most line = named_of_fields word least most (fields line)

abbrev pub named_in : ℕ → List (List ℕ) → Result ℕ LineError → Result (Part ℕ) Cause
named_in n left (Ok x) = Ok (part x n left)
named_in n left (Err why) = Err (bad_line n why)

abbrev pub named_line_in : List ℕ → ℕ → ℕ → ℕ → List ℕ → List (List ℕ) → Result (Part ℕ) Cause
named_line_in word least most number line left = named_in number left (named_of word least most line)

-- such a line, after line n
unfoldable pub named_part : List ℕ → ℕ → ℕ → ℕ → List (List ℕ) → Result (Part ℕ) Cause
named_part word least most n lines = with_line n lines (named_line_in word least most)

-- ---- a job

abbrev pub service_most : ℕ
service_most = 3600000

abbrev pub job_with : ℕ → ℕ → ℕ → Job
job_with time tag service = record { time = time; tag = tag; service = service }

-- what follows the word: the tag and the service
abbrev pub job_behind : ℕ → ℕ → List (List ℕ) → Result Job LineError
job_behind time at more = then_due (number_due at more) (λ tag end left. or_else_fault (job_with time tag) (last_within 0 service_most end left))

abbrev pub job_from : Option ℕ → ℕ → List (List ℕ) → Result Job LineError
job_from None at more = Err fault.BadTime
job_from (Some time) at [] = Err fault.BadWord
job_from (Some time) at (word ∷ more) = if bytes_eq word (codes "job") then job_behind time (at + 1 + length word) more else Err fault.BadWord

abbrev pub job_of_fields : List (List ℕ) → Result Job LineError
job_of_fields [] = Err fault.BadTime
job_of_fields (time ∷ more) = job_from (number_of time) (length time) more

-- the job of `T job TAG SERVICE`, or its first fault
unfoldable pub job_of : List ℕ → Result Job LineError
job_of line = job_of_fields (fields line)

abbrev pub jobs_most : ℕ
jobs_most = 100000

-- a job is judged by its line first, then by how many came before it, then by the workload's end, then by the last time
abbrev pub in_turn : ℕ → ℕ → ℕ → ℕ → Result Job LineError → Result Job Cause
in_turn until last count n (Ok j) =
    if nat_le jobs_most count then Err (too_many n)
    else (if nat_le j.time until then (if nat_le last j.time then Ok j else Err (time_back n last j.time)) else Err (time_too_large n))
in_turn until last count n (Err why) = Err (bad_line n why)

abbrev pub next_job_in : ℕ → ℕ → ℕ → ℕ → List ℕ → List (List ℕ) → Result (Part (Option Job)) Cause
next_job_in until last count number line left =
    if bytes_eq line (codes "end") then end_part number left else item_in number left (in_turn until last count number (job_of line))

-- the next job after line n, this time and so many jobs, or none where `end` ends the input
unfoldable pub next_job_part : ℕ → ℕ → ℕ → ℕ → List (List ℕ) → Result (Part (Option Job)) Cause
next_job_part until last count n lines = with_line n lines (next_job_in until last count)

-- ---- all jobs

abbrev pub with_job : Job → Result (Part (List Job)) Cause → Result (Part (List Job)) Cause
with_job j (Ok p) = Ok (part (j ∷ p.value) p.number p.left)
with_job j (Err cause) = Err cause

abbrev pub onward : Option Job → ℕ → List (List ℕ) → (Job → Result (Part (List Job)) Cause) → Result (Part (List Job)) Cause
onward None n left next = Ok (part [] n left)
onward (Some j) n left next = with_job j (next j)

abbrev pub then_jobs : Result (Part (Option Job)) Cause → (Job → ℕ → Result (Part (List Job)) Cause) → Result (Part (List Job)) Cause
then_jobs (Err cause) next = Err cause
then_jobs (Ok p) next = onward p.value p.number p.left (λ j. next j p.number)

-- all jobs after line n, this time and so many jobs
unfoldable pub jobs_part : ℕ → ℕ → ℕ → ℕ → List (List ℕ) → Result (Part (List Job)) Cause
jobs_part until last count n [] = Err no_end
jobs_part until last count n (line ∷ more) = then_jobs (next_job_part until last count n (line ∷ more)) (λ j number. jobs_part until j.time (count + 1) number more)

-- ---- the whole

abbrev pub boot_most : ℕ
boot_most = 600000

-- a day after the start, and not past the greatest time
abbrev pub until_most : ℕ → ℕ
until_most start = min time_most (start + 86400000)

abbrev pub workload_with : Setup → ℕ → ℕ → ℕ → List Job → Workload
workload_with setup start boot until jobs = record { setup = setup; start = start; boot = boot; until = until; jobs = jobs }

-- the end and the jobs, behind what was read before
unfoldable pub course_part : Setup → ℕ → ℕ → ℕ → List (List ℕ) → Result (Part Workload) Cause
course_part setup start boot n lines =
    then_part (named_part (codes "until") start (until_most start) n lines) (λ until n lines.
    then_part (jobs_part until start 0 n lines) (λ jobs n left. Ok (part (workload_with setup start boot until jobs) n left)))

-- line 1 is `kact workload 1`; then come the setup, the start, `boot B`, `until U`, the jobs and `end`, and then the end of the input
unfoldable pub workload_part : ℕ → List (List ℕ) → Result (Part Workload) Cause
workload_part n lines =
    then_part (opening_part WorkloadLine n lines) (λ opening n lines.
    then_part (start_part n lines) (λ start n lines.
    then_part (named_part (codes "boot") 0 boot_most n lines) (λ boot n lines. course_part opening.setup start boot n lines)))

unfoldable pub workload_of : List ℕ → Result (Part Workload) Cause
workload_of bytes = workload_part 0 (lines bytes)

-- a call that reads a workload to the end of these bytes; of bytes that aren't known nothing is said
abbrev pub TellsWorkload : Option (List ℕ) → Result Workload JournalError → Type 0
TellsWorkload None r = ⊤
TellsWorkload (Some xs) (Ok w) = (n : ℕ) × (left : List (List ℕ)) × (workload_of xs ≡ Ok (part w n left))
TellsWorkload (Some xs) (Err e) = Refused e (workload_of xs)

-- what is said of a job that was read
abbrev pub OnJob : Result (Option Job) JournalError → (Job → Type 0) → Type 0
OnJob (Ok (Some j)) P = P j
OnJob _ P = ⊤
