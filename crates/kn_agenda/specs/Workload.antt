-- A load on a revision: its requests to come, how long a pod takes to become ready, and up to when events are made.
use Rattle.std.specs.Prelude.{ℕ, ◌+◌, ◌<◌, ◌≤◌, ◌^◌, List, [], ◌∷◌, length}
use Rattle.kn_event.specs.Revision.{AreInRange}
use Rattle.kn_event.specs.declared.revision.Spec.{Spec}
use Rattle.kn_agenda.specs.declared.job.Job.{Job}

-- times are in milliseconds
pub record Workload : Type 0 where
  pub spec : Spec
  pub start : ℕ
  -- from a pod's creation until it is ready
  pub boot : ℕ
  -- no event comes later
  pub until : ℕ
  pub jobs : List Job

-- the times of jobs never fall, from this one on up to the end, and their services are in range
abbrev pub AreJobs : ℕ → ℕ → List Job → Type 0
AreJobs last until [] = Unit {0}
AreJobs last until (j ∷ jobs) = (last ≤ j.time) × (j.time ≤ until) × (j.tag < 2 ^ 64) × (j.service ≤ 3600000) × AreJobs j.time until jobs

-- a workload in range
pub record IsWorkload (w : Workload) : Type 0 where
  pub ranges : AreInRange w.spec
  pub start : w.start ≤ w.until
  pub boot : w.boot ≤ 600000
  pub until : w.until ≤ 2 ^ 42
  pub long : w.until ≤ w.start + 86400000
  pub jobs : AreJobs w.start w.until w.jobs
  pub few : length w.jobs ≤ 100000
