-- Who waits expires in the order of arrival, which is that of the jobs.
use Rattle.std.proofs.Common.{◌≡◌, ℕ, zero, suc, ◌+◌, ◌<◌, ◌≤◌, Bool, true, false, ◌||◌, List, [], ◌∷◌, length, nat_lt, refl, sym, ap, ◌∙◌, arith}
use Rattle.std.specs.Prelude.{Option, None, Some, ◌==◌, slice_get}
use Rattle.std.specs.List.{filter_map}
use Rattle.std.proofs.lemmas.Bool.Decides.{nat_tests}
use Rattle.kn_event.specs.declared.entry.Row.{Row}
use Rattle.kn_event.specs.Lists.{contains}
use Rattle.kn_trace.specs.Rows.{taken_by}
use Rattle.kn_trace.specs.Trace.{Trace, arrivals, each_row, first_of, waiting}
use Rattle.kn_record.specs.Facts.{Facts}
use Rattle.kn_record.specs.Made.{IsNumbered}
use Rattle.kn_record.specs.Rows.{says}
use Rattle.kn_agenda.specs.declared.item.Kind.TheVariants.{Passes}
use Rattle.kn_agenda.specs.declared.job.Job.{Job}
use Rattle.kn_agenda.specs.Workload.{AreJobs, Workload}
use Rattle.kn_agenda.specs.Runs.{ComeByJobs}
use Rattle.kn_agenda.specs.Due.{IsAfter, first_time, is_before, taken_at, time_where}
use Rattle.kn_agenda.specs.Kinds.{IsFirstOf}

-- what has happened has a time
pub time-some : (said : Row → Option ℕ) (c : Trace) (n : ℕ) → contains n (each_row said c) ≡ true → (b : ℕ) × (first_time said c n ≡ Some b)
unfolding first_time
time-some said [] n h = absurd (cc)
time-some said (e ∷ c) n h = by (said e.row) refl h (λ k. time-some said c n k)
  where
    by : (o : Option ℕ) → said e.row ≡ o → contains n (each_row said (e ∷ c)) ≡ true → (contains n (each_row said c) ≡ true → (b : ℕ) × (first_of (filter_map (λ e. time_where (says (said e.row) n) e) c) ≡ Some b)) → (b : ℕ) × (first_of (filter_map (λ e. time_where (says (said e.row) n) e) (e ∷ c)) ≡ Some b)
    by None k h rest = let more = rest (rw k at h) in (more.0, rw k more.1)
    by (Some q) k h rest = at (q == n) refl (rw k at h)
      where
        at : (b : Bool) → (q == n) ≡ b → ((q == n) || contains n (each_row said c)) ≡ true → (b : ℕ) × (first_of (filter_map (λ e. time_where (says (said e.row) n) e) (e ∷ c)) ≡ Some b)
        at true m g = (e.time, rw (k, m) refl)
        at false m g = let more = rest (rw m at g) in (more.0, rw (k, m) more.1)

pub jobs_from : (last until : ℕ) (jobs : List Job) (q : ℕ) (j : Job) → AreJobs last until jobs → slice_get jobs q ≡ Some j → last ≤ j.time
jobs_from last until [] q j h is = absurd (cc)
jobs_from last until (x ∷ jobs) zero j h is = let same : x ≡ j = cc in rw (← same) h.0
jobs_from last until (x ∷ jobs) (suc q) j h is = let more = jobs_from x.time until jobs q j h.4 is in let first = h.0 in omega arith

-- and up to the end
pub jobs_until : (last until : ℕ) (jobs : List Job) (q : ℕ) (j : Job) → AreJobs last until jobs → slice_get jobs q ≡ Some j → j.time ≤ until
jobs_until last until [] q j h is = absurd (cc)
jobs_until last until (x ∷ jobs) zero j h is = let same : x ≡ j = cc in rw (← same) h.1
jobs_until last until (x ∷ jobs) (suc q) j h is = jobs_until x.time until jobs q j h.4 is

-- where no job has this number, all have lesser ones
pub jobs_end : (jobs : List Job) (r : ℕ) → None ≡ slice_get jobs r → length jobs ≤ r
jobs_end [] r h = omega arith
jobs_end (j ∷ jobs) zero h = absurd (cc)
jobs_end (j ∷ jobs) (suc r) h = let more = jobs_end jobs r h in omega arith

-- a later job comes later
pub jobs_rise : (last until : ℕ) (jobs : List Job) (r q : ℕ) (i j : Job) → AreJobs last until jobs → slice_get jobs r ≡ Some i → slice_get jobs q ≡ Some j → r ≤ q → i.time ≤ j.time
jobs_rise last until [] r q i j h is at less = absurd (cc)
jobs_rise last until (x ∷ jobs) zero zero i j h is at less = let same : i ≡ j = cc in rw same (omega arith)
jobs_rise last until (x ∷ jobs) zero (suc q) i j h is at less = let same : x ≡ i = cc in rw (← same) (jobs_from x.time until jobs q j h.4 at)
jobs_rise last until (x ∷ jobs) (suc r) zero i j h is at less = absurd (omega (arith, less))
jobs_rise last until (x ∷ jobs) (suc r) (suc q) i j h is at less = jobs_rise x.time until jobs r q i j h.4 is at (omega (arith, less))

-- not before
pub not_before : (t u : ℕ) (n r : ℕ) → u ≤ t → r ≤ n → is_before t u (nat_lt n r) ≡ false
not_before t u n r later after = grind (arith, nat_tests)

module _ (facts : Facts) where
  open facts use {members.{taken_comes, waiting_member}}

  pub pass_first : (w : Workload) (c : Trace) (ticks r : ℕ) (j : Job) → IsNumbered c → AreJobs w.start w.until w.jobs → ComeByJobs w.jobs c → slice_get w.jobs r ≡ Some j → contains r (waiting c) ≡ true → ((n : ℕ) → n < r → contains n (waiting c) ≡ false)
      → IsFirstOf w c ticks Passes (Some (record { time = j.time + w.spec.timeout_ms; kind = Passes; number = r }))
  pass_first w c ticks r j num jobs come job waits before =
      let taken = time-some taken_by c r (waiting_member c r waits).0 in
      let own = come r taken.0 taken.1 in
      let same : own.0 ≡ j = let e : Some own.0 ≡ Some j = sym own.1 ∙ job in cc in
      let time : taken.0 ≡ j.time = own.2 ∙ ap (λ (x : Job). x.time) same in
      (refl, (waits, (taken.0, taken.1, ap (λ (b : ℕ). b + w.spec.timeout_ms) (sym time))), λ n t due. first n t due)
    where
      first : (n t : ℕ) → (contains n (waiting c) ≡ true) × IsAfter w.spec.timeout_ms (taken_at c n) t → is_before t (j.time + w.spec.timeout_ms) (nat_lt n r) ≡ false
      first n t (on, (b, is, sum)) =
          let own = come n b is in
          let after : r ≤ n = later (nat_lt n r) refl in
          let rise = jobs_rise w.start w.until w.jobs r n j own.0 jobs job own.1 after in
          let time = own.2 in
          not_before t (j.time + w.spec.timeout_ms) n r (omega arith) after
        where
          later : (x : Bool) → nat_lt n r ≡ x → r ≤ n
          later true h = absurd (let less : n < r = grind (arith, nat_tests) in let off = before n less in cc)
          later false h = grind (arith, nat_tests)

  pub pass_none : (w : Workload) (c : Trace) (ticks r : ℕ) → IsNumbered c → arrivals c ≤ r → ((n : ℕ) → n < r → contains n (waiting c) ≡ false) → IsFirstOf w c ticks Passes None
  pass_none w c ticks r num all before = λ n t due. (let come : n < arrivals c = taken_comes c n num (waiting_member c n due.0).0 in let off = before n (omega arith) in let on = due.0 in cc)

-- from two stretches
pub both_below : (c : Trace) (from r : ℕ) → ((n : ℕ) → n < from → contains n (waiting c) ≡ false) → ((n : ℕ) → from ≤ n → n < r → contains n (waiting c) ≡ false) → (n : ℕ) → n < r → contains n (waiting c) ≡ false
both_below c from r low high n less = by (nat_lt n from) refl
  where
    by : (x : Bool) → nat_lt n from ≡ x → contains n (waiting c) ≡ false
    by true h = low n (grind (arith, nat_tests))
    by false h = high n (grind (arith, nat_tests)) less
