-- What an agenda keeps of a trace.
use Rattle.std.specs.Prelude.{◌≡◌, ℕ, ◌+◌, ◌≤◌, ◌++◌, true, false, nat_lt, List, map, length, Contains, Some}
use Rattle.std.specs.List.{All}
use Rattle.kn_event.specs.Revision.{AreInRange}
use Rattle.kn_event.specs.declared.revision.Spec.{Spec}
use Rattle.kn_trace.specs.Trace.{Trace, arrivals, is_running, starting_pods, waiting}
use Rattle.kn_record.specs.Made.{Holds, IsMade, IsProper}
use Rattle.kn_core.specs.State.{RevisionState, StandsFor}
use Rattle.kn_agenda.specs.declared.job.Job.{Job}
use Rattle.kn_agenda.specs.declared.agenda.Start.{Start}
use Rattle.kn_agenda.specs.Agenda.{AgendaState}
use Rattle.kn_agenda.specs.Due.{IsDone, created_at, is_before}
use Rattle.kn_agenda.specs.Finishes.{Finish, finish}

-- a request that has begun, and its time
abbrev pub IsFinish : List Job → Trace → Finish → Type 0
IsFinish jobs c f = IsDone jobs c f.0.1 f.0.0

-- a running request is among those that finish
abbrev pub IsKept : List Job → Trace → List Finish → ℕ → Type 0
IsKept jobs c fs r = (t : ℕ) × Contains fs (finish t r) × IsDone jobs c r t

pub record Keeps (jobs : List Job) (c : Trace) (fs : List Finish) (ss : List Start) : Type 0 where
  pub begun : All (IsFinish jobs c) fs
  pub running : (r : ℕ) → is_running c r ≡ true → IsKept jobs c fs r
  -- each request begins once, so that there is room for all
  pub few : length fs + length (waiting c) ≤ arrivals c
  pub starting : map (λ (x : Start). x.pod) ss ≡ starting_pods c
  pub created : All (λ (x : Start). created_at c x.pod ≡ Some x.time) ss

-- what was kept of a trace that the revision stands for is still kept of it
abbrev pub KeepsBy : RevisionState → AgendaState → AgendaState → Type 0
KeepsBy x old new = (jobs : List Job) (c : Trace) → StandsFor x c → Keeps jobs c old.finishes old.starting → Keeps jobs c new.finishes new.starting

-- what was kept of a trace is kept of it with these entries, each of which was proper when it came
abbrev pub Hears : List Job → Trace → AgendaState → AgendaState → Type 0
Hears jobs es old new = (s : Spec) (c : Trace) → AreInRange s → IsMade s c → Holds (IsProper s) c es → arrivals (c ++ es) ≤ length jobs → length jobs ≤ old.room
    → Keeps jobs c old.finishes old.starting → Keeps jobs (c ++ es) new.finishes new.starting

-- a running request that finishes at this time; no other finishes before it, nor then with a lesser number
pub record FinishesFirst (jobs : List Job) (c : Trace) (t r : ℕ) : Type 0 where
  pub runs : is_running c r ≡ true
  pub done : IsDone jobs c r t
  pub first : (q u : ℕ) → is_running c q ≡ true → IsDone jobs c q u → is_before u t (nat_lt q r) ≡ false
