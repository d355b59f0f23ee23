-- What happens to a workload's requests and pods by its events, and which events are whose.
use Rattle.std.specs.Prelude.{ℕ, Bool, true, false, Option}
use Rattle.kn_event.specs.declared.event.Act.{Act}
use Rattle.kn_event.specs.declared.event.Act.TheVariants as act
use Rattle.kn_event.specs.declared.event.Event.{Event}
use Rattle.kn_trace.specs.Rows.{ended_by, expired_by, readied_by}
use Rattle.kn_trace.specs.Trace.{Trace}
use Rattle.kn_agenda.specs.declared.job.Job.{Job}
use Rattle.kn_agenda.specs.Due.{first_time}

-- ---- when it happened

abbrev pub ended_at : Trace → ℕ → Option ℕ
ended_at c r = first_time ended_by c r

abbrev pub expired_at : Trace → ℕ → Option ℕ
expired_at c r = first_time expired_by c r

abbrev pub readied_at : Trace → ℕ → Option ℕ
readied_at c p = first_time readied_by c p

-- ---- which events

abbrev pub is_arrival : Event → Bool
is_arrival e = is_arrival_act e.act
  where
    is_arrival_act : Act → Bool
    is_arrival_act (act.Arrive tag) = true
    is_arrival_act _ = false

abbrev pub is_pass : Event → Bool
is_pass e = is_pass_act e.act
  where
    is_pass_act : Act → Bool
    is_pass_act act.Pass = true
    is_pass_act _ = false

-- the arrival of a job, at its time
abbrev pub arrive_of : Job → Event
arrive_of j = record { time = j.time; act = act.Arrive j.tag }
