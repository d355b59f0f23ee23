-- The jobs so far were read one after the other.
use Rattle.std.proofs.Common.{◌≡◌, ◌-◌, ◌≤◌, None, vec_len}
use Rattle.kn_agenda.specs.Workload.{AreJobs}
use Rattle.kn_journal.specs.Drawing.{Draws}
use Rattle.kn_journal.specs.Reading.{unread}
use Rattle.kn_journal.specs.LineCalls.{Anywhere}
use Rattle.kn_sim.specs.Reading.{jobs_most}
use Rattle.kn_sim.proofs.JobLines.{AreRead, last_of_jobs}
use Rattle.kn_sim.proofs.read.read_jobs.Given as goal

abbrev pub invariant-each : goal.invariant-each
invariant-each g l = record {
  read : AreRead l.until l.start l.fn.lines.number l.jobs.items l.last l.lines.number (unread l.fn.lines.input (g.S.Source.left l.fn.source)) (unread l.lines.input (g.S.Source.left l.source));
  jobs : AreJobs l.start l.until l.jobs.items;
  last : last_of_jobs l.start l.jobs.items ≡ l.last;
  few : vec_len l.jobs ≤ jobs_most;
  source : Draws Anywhere None l.fn.lines.input l.lines.input g.S.Source g.S.Faulty l.fn.source l.source;
}

-- each job is one more, and there are only so many
abbrev pub decreases-each : goal.decreases-each
decreases-each g l = jobs_most - vec_len l.jobs
