-- One job more, or the end.
use Rattle.std.proofs.Common.{◌≡◌, ◌<◌, ◌++◌, ◌∷◌, [], length, arith}
use Rattle.std.proofs.lemmas.Grind.{common_steps}
use Rattle.kn_journal.specs.Reading.{unread}
use Rattle.kn_sim.specs.Reading.{jobs_most}
use Rattle.kn_sim.proofs.Drawings.{draws_more, draws_none}
use Rattle.kn_sim.proofs.JobLines.{jobs-more, last-more, read-all, read-more, read-none, read-refused}
use Rattle.kn_sim.proofs.read.read_jobs.Goals as goal

pub each-init : goal.each-init
each-init g c = record {
  read = rw c.new-jobs.ensures.items (read-none c.args.until c.args.start c.args.lines.now.number (unread c.args.lines.now.input (g.S.Source.left c.args.source.now)));
  jobs = rw c.new-jobs.ensures.items tt;
  last = grind (arith, common_steps);
  few = grind (arith, common_steps);
  source = draws_none _ _;
}

pub each-preserved : goal.each-preserved
each-preserved g c =
    let some = c.in-Ok-Some.field-0-is in
    let count : c.len.result ≡ length c.each.jobs.items = grind (arith, common_steps) in
    let added : c.push.new.self.items ≡ c.each.jobs.items ++ c.in-Ok-Some.job ∷ [] = grind (arith, common_steps) in
    let few : c.len.result < jobs_most = rw some at c.in-Ok-Some.ensures.few in
    record {
      read = rw added (read-more c.args.until c.args.start c.args.lines.now.number c.each.jobs.items c.each.last c.each.lines.number c.next_job.new.lines.number c.in-Ok-Some.job (unread c.args.lines.now.input (g.S.Source.left c.args.source.now))
          (unread c.each.lines.input (g.S.Source.left c.each.source)) (unread c.next_job.new.lines.input (g.S.Source.left c.next_job.new.source)) c.each.invariant.read (rw (some, count) at c.in-Ok-Some.ensures.tells));
      jobs = rw added (jobs-more c.args.start c.args.until c.each.jobs.items c.in-Ok-Some.job c.each.invariant.jobs (rw c.each.invariant.last (rw some at c.in-Ok-Some.ensures.order))
          (rw some at c.in-Ok-Some.ensures.until) c.number_range.ensures (rw some at c.in-Ok-Some.ensures.service));
      last = rw added (last-more c.args.start c.each.jobs.items c.in-Ok-Some.job);
      few = grind (arith, common_steps);
      source = draws_more c.each.invariant.source c.in-Ok-Some.ensures.source;
    }

pub each-smaller : goal.each-smaller
each-smaller g c =
    let few : c.len.result < jobs_most = rw c.in-Ok-Some.field-0-is at c.in-Ok-Some.ensures.few in
    grind (arith, common_steps)

pub returns-in-Ok-None-clause-tells : goal.returns-in-Ok-None-clause-tells
returns-in-Ok-None-clause-tells g c =
    let count : c.len.result ≡ length c.each.jobs.items = grind (arith, common_steps) in
    rw c.new.ensures (read-all c.args.until c.args.start c.args.lines.now.number c.each.jobs.items c.each.last c.each.lines.number c.next_job.new.lines.number (unread c.args.lines.now.input (g.S.Source.left c.args.source.now))
    (unread c.each.lines.input (g.S.Source.left c.each.source)) (unread c.next_job.new.lines.input (g.S.Source.left c.next_job.new.source)) c.each.invariant.read (rw (c.in-Ok-None.field-0-is, count) at c.in-Ok-None.ensures.tells))

pub returns-in-Err-clause-tells : goal.returns-in-Err-clause-tells
returns-in-Err-clause-tells g c =
    let count : c.len.result ≡ length c.each.jobs.items = grind (arith, common_steps) in
    read-refused c.args.until c.args.start c.args.lines.now.number c.each.jobs.items c.each.last c.each.lines.number c.in-Err.e (unread c.args.lines.now.input (g.S.Source.left c.args.source.now))
    (unread c.each.lines.input (g.S.Source.left c.each.source)) c.each.invariant.read (rw count at c.in-Err.ensures.tells)
