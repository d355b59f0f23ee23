-- Jobs that are read one after the other.
use Rattle.std.proofs.Common.{◌≡◌, ◌+◌, ◌<◌, ◌≤◌, ◌^◌, ℕ, Bool, true, false, List, [], ◌∷◌, ◌++◌, length, length-append, refl, sym, ap, subst}
use Rattle.std.specs.Prelude.{Option, None, Some, Result, Ok, Err, codes, if◌then◌else◌}
use Rattle.std.specs.Str.{bytes_eq}
use Rattle.kn_agenda.specs.declared.job.Job.{Job}
use Rattle.kn_agenda.specs.Workload.{AreJobs}
use Rattle.kn_journal.specs.declared.error.JournalError.{JournalError}
use Rattle.kn_journal.specs.Causes.{Cause, line_too_long, no_end}
use Rattle.kn_journal.specs.Lines.{fits, lines}
use Rattle.kn_journal.specs.Parts.{Part, part, then_part}
use Rattle.kn_journal.specs.Telling.{Gives, Refuses}
use Rattle.kn_sim.specs.Reading.{in_turn, job_of, jobs_part, next_job_in, next_job_part, with_job}
use Rattle.kn_journal.specs.Series.{end_part, item_in, nothing_part}
use Rattle.kn_sim.proofs.Tellings.{refused-on}

-- ---- what one line leaves

record IsOneLine (ls : List (List ℕ)) (m : ℕ) (p : Part (Option Job)) : Type 0 where
  line : List ℕ
  more : List (List ℕ)
  split : ls ≡ line ∷ more
  left : p.left ≡ more

abbrev good : {T : Type 0} → Part T → Result (Part T) Cause
good p = Ok p

abbrev refused : (T : Type 0) → Cause → Result (Part T) Cause
refused T cause = Err cause

made_is : {T : Type 0} (x : T) (n : ℕ) (left : List (List ℕ)) (p : Part T) → good (part x n left) ≡ good p → (p.value ≡ x) × (p.left ≡ left)
made_is x n left p h = let same : part x n left ≡ p = cc in (ap (λ (q : Part _). q.value) (sym same), ap (λ (q : Part _). q.left) (sym same))

-- a job was read of one line
job-left : (until last count m : ℕ) (ls : List (List ℕ)) (p : Part (Option Job)) (j : Job) → next_job_part until last count m ls ≡ Ok p → p.value ≡ Some j → IsOneLine ls m p
unfolding next_job_part
job-left until last count m [] p j h is = absurd (cc)
job-left until last count m (line ∷ more) p j h is = by_fit (fits line) h
  where
    by_job : (r : Result Job Cause) → item_in (m + 1) more r ≡ Ok p → IsOneLine (line ∷ more) m p
    by_job (Ok k) g = record { line = line; more = more; split = refl; left = (made_is (Some k) (m + 1) more p g).1 }
    by_job (Err cause) g = absurd (cc)

    by_end : (r : Result (Part (Unit {0})) Cause) → then_part r (λ _ n left. Ok (part None n left)) ≡ Ok p → IsOneLine (line ∷ more) m p
    by_end (Ok q) g = let none = (made_is None q.number q.left p g).0 in absurd (cc)
    by_end (Err cause) g = absurd (cc)

    by_word : (b : Bool) → (if b then end_part (m + 1) more else item_in (m + 1) more (in_turn until last count (m + 1) (job_of line))) ≡ Ok p → IsOneLine (line ∷ more) m p
    by_word true g = by_end (nothing_part (m + 1) more) g
    by_word false g = by_job (in_turn until last count (m + 1) (job_of line)) g

    by_fit : (b : Bool) → (if b then next_job_in until last count (m + 1) line more else Err (line_too_long (m + 1))) ≡ Ok p → IsOneLine (line ∷ more) m p
    by_fit true g = by_word (bytes_eq line (codes "end")) g
    by_fit false g = absurd (cc)

-- ---- jobs so far

abbrev pub with_jobs : List Job → Result (Part (List Job)) Cause → Result (Part (List Job)) Cause
with_jobs [] r = r
with_jobs (j ∷ js) r = with_job j (with_jobs js r)

with_jobs-more : (js : List Job) (j : Job) (r : Result (Part (List Job)) Cause) → with_jobs (js ++ j ∷ []) r ≡ with_jobs js (with_job j r)
with_jobs-more [] j r = refl
with_jobs-more (k ∷ js) j r = ap (with_job k) (with_jobs-more js j r)

with_jobs-end : (js : List Job) (n : ℕ) (left : List (List ℕ)) → with_jobs js (Ok (part [] n left)) ≡ Ok (part js n left)
with_jobs-end [] n left = refl
with_jobs-end (j ∷ js) n left = ap (with_job j) (with_jobs-end js n left)

with_jobs-refused : (js : List Job) (cause : Cause) → with_jobs js (Err cause) ≡ Err cause
with_jobs-refused [] cause = refl
with_jobs-refused (j ∷ js) cause = ap (with_job j) (with_jobs-refused js cause)

-- these jobs were read of the old bytes, up to line m and this time; the new ones are left
abbrev pub AreRead : ℕ → ℕ → ℕ → List Job → ℕ → ℕ → Option (List ℕ) → Option (List ℕ) → Type 0
AreRead until start n js last m None new = Unit {0}
AreRead until start n js last m (Some xs) None = ⊥
AreRead until start n js last m (Some xs) (Some ys) = jobs_part until start 0 n (lines xs) ≡ with_jobs js (jobs_part until last (length js) m (lines ys))

pub read-none : (until start n : ℕ) (old : Option (List ℕ)) → AreRead until start n [] start n old old
read-none until start n None = tt
read-none until start n (Some xs) = refl

one-more : (until last count m k : ℕ) (j : Job) (ls left : List (List ℕ)) → next_job_part until last count m ls ≡ Ok (part (Some j) k left) → jobs_part until last count m ls ≡ with_job j (jobs_part until j.time (count + 1) k left)
unfolding jobs_part
one-more until last count m k j ls left h = by (job-left until last count m ls (part (Some j) k left) j h refl)
  where
    by : IsOneLine ls m (part (Some j) k left) → jobs_part until last count m ls ≡ with_job j (jobs_part until j.time (count + 1) k left)
    by one =
        let same : left ≡ one.more = one.left in
        let told : next_job_part until last count m (one.line ∷ one.more) ≡ Ok (part (Some j) k left) = subst (λ xs. next_job_part until last count m xs ≡ Ok (part (Some j) k left)) one.split h in
        rw one.split (rw (told, same) refl)

pub read-more : (until start n : ℕ) (js : List Job) (last m k : ℕ) (j : Job) (old mid new : Option (List ℕ)) → AreRead until start n js last m old mid → Gives (next_job_part until last (length js) m) (Some j) k mid new
    → AreRead until start n (js ++ j ∷ []) j.time k old new
read-more until start n js last m k j None mid new a g = tt
read-more until start n js last m k j (Some xs) None new a g = absurd a
read-more until start n js last m k j (Some xs) (Some ys) None a g = absurd g
read-more until start n js last m k j (Some xs) (Some ys) (Some zs) a g =
    let one = one-more until last (length js) m k j (lines ys) (lines zs) g in
    let count : length (js ++ j ∷ []) ≡ length js + 1 = length-append js (j ∷ []) in
    rw (a, one, count) (sym (with_jobs-more js j (jobs_part until j.time (length js + 1) k (lines zs))))

no-more : (until last count m k : ℕ) (ls left : List (List ℕ)) → next_job_part until last count m ls ≡ Ok (part None k left) → jobs_part until last count m ls ≡ Ok (part [] k left)
unfolding jobs_part next_job_part
no-more until last count m k [] left h = absurd (cc)
no-more until last count m k (line ∷ more) left h = rw h refl

pub read-all : (until start n : ℕ) (js : List Job) (last m k : ℕ) (old mid new : Option (List ℕ)) → AreRead until start n js last m old mid → Gives (next_job_part until last (length js) m) None k mid new
    → Gives (jobs_part until start 0 n) js k old new
read-all until start n js last m k None mid new a g = tt
read-all until start n js last m k (Some xs) None new a g = absurd a
read-all until start n js last m k (Some xs) (Some ys) None a g = absurd g
read-all until start n js last m k (Some xs) (Some ys) (Some zs) a g = rw (a, no-more until last (length js) m k (lines ys) (lines zs) g) (with_jobs-end js k (lines zs))

refused_same : (a b : Cause) → refused (Option Job) a ≡ refused (Option Job) b → refused (List Job) a ≡ refused (List Job) b
refused_same a b h = let same : a ≡ b = cc in ap (refused (List Job)) same

refused-more : (until last count m : ℕ) (ls : List (List ℕ)) (cause : Cause) → next_job_part until last count m ls ≡ Err cause → jobs_part until last count m ls ≡ Err cause
unfolding jobs_part next_job_part
refused-more until last count m [] cause h = refused_same no_end cause h
refused-more until last count m (line ∷ more) cause h = rw h refl

pub read-refused : (until start n : ℕ) (js : List Job) (last m : ℕ) (e : JournalError) (old mid : Option (List ℕ)) → AreRead until start n js last m old mid → Refuses (next_job_part until last (length js) m) e mid
    → Refuses (jobs_part until start 0 n) e old
read-refused until start n js last m e None mid a h = tt
read-refused until start n js last m e (Some xs) None a h = absurd a
read-refused until start n js last m e (Some xs) (Some ys) a h =
    refused-on e (next_job_part until last (length js) m (lines ys)) (jobs_part until start 0 n (lines xs)) (λ cause k. rw (a, refused-more until last (length js) m (lines ys) cause k) (with_jobs-refused js cause)) h

-- ---- in order

abbrev pub last_of_jobs : ℕ → List Job → ℕ
last_of_jobs last [] = last
last_of_jobs last (j ∷ js) = last_of_jobs j.time js

pub jobs-more : (last until : ℕ) (js : List Job) (j : Job) → AreJobs last until js → last_of_jobs last js ≤ j.time → j.time ≤ until → j.tag < 2 ^ 64 → j.service ≤ 3600000 → AreJobs last until (js ++ j ∷ [])
jobs-more last until [] j h order soon tag service = (order, soon, tag, service, tt)
jobs-more last until (k ∷ js) j h order soon tag service = (h.0, h.1, h.2, h.3, jobs-more k.time until js j h.4 order soon tag service)

pub last-more : (last : ℕ) (js : List Job) (j : Job) → last_of_jobs last (js ++ j ∷ []) ≡ j.time
last-more last [] j = refl
last-more last (k ∷ js) j = last-more k.time js j
