use Rattle.kn_record.specs.declared.admission.Place.TheVariants as place
use Rattle.kn_throttle.proofs.Parts.{cands_ascend}
use Rattle.kn_throttle.proofs.Ended.{assigned_runs, home_at, kept_left, kept_unqueued, leaves_from, left_running, pod_there, queued_once, runs_there}
use Rattle.kn_throttle.proofs.Freed.{kept_freed}
use Rattle.kn_throttle.proofs.throttle.ending.free.Goals as goal

pub leave-requires : goal.leave-requires
leave-requires c =
    let z = c.requires in
    left_running _ _ _ _ _ _ _ _ c.args.r z.new z.kept (leaves_from _ _ _ _ _ z.left.leaves c.in-Held.is)

pub returns-in-Held : goal.returns-in-Held
returns-in-Held c = λ z. rw c.leave.ensures (kept_left _ _ _ _ _ _ _ _ c.args.r z.new z.kept z.left.order z.left.len (leaves_from _ _ _ _ _ z.left.leaves c.in-Held.is))

pub unlink-requires-clause-there : goal.unlink-requires-clause-there
unlink-requires-clause-there c =
    let z = c.requires in
    pod_there _ _ _ _ _ _ _ _ c.in-Queued.p z.kept (home_at _ _ (place.Queued c.in-Queued.p) z.left.home c.in-Queued.is)

pub unlink-requires-clause-once : goal.unlink-requires-clause-once
unlink-requires-clause-once c =
    let z = c.requires in
    queued_once _ _ _ _ _ _ _ _ c.args.r c.in-Queued.p z.new z.kept (home_at _ _ (place.Queued c.in-Queued.p) z.left.home c.in-Queued.is) (leaves_from _ _ _ _ _ z.left.leaves c.in-Queued.is)

pub returns-in-Queued : goal.returns-in-Queued
returns-in-Queued c = λ z.
    rw c.with.ensures (kept_unqueued _ _ _ _ _ _ _ _ _ c.args.r c.in-Queued.p z.new z.kept z.left.order z.left.len
    (leaves_from _ _ _ _ _ z.left.leaves c.in-Queued.is) (home_at _ _ (place.Queued c.in-Queued.p) z.left.home c.in-Queued.is) c.unlink.ensures.changed c.unlink.ensures.counted)

pub release-requires : goal.release-requires
release-requires c =
    let z = c.requires in
    assigned_runs _ _ _ _ _ _ _ _ c.args.r c.in-Running.p c.in-Running.assigned z.new z.kept (leaves_from _ _ _ _ _ z.left.leaves c.in-Running.is)

pub give_back-freed-requires-clause-there : goal.give_back-freed-requires-clause-there
give_back-freed-requires-clause-there c =
    let z = c.requires in
    pod_there _ _ _ _ _ _ _ _ c.in-Running.p z.kept (home_at _ _ (place.Running c.in-Running.p c.in-Running.assigned) z.left.home c.in-Running.is)

pub give_back-freed-requires-clause-running : goal.give_back-freed-requires-clause-running
give_back-freed-requires-clause-running c =
    let z = c.requires in
    runs_there _ _ _ _ _ _ _ _ c.args.r c.in-Running.p c.in-Running.assigned z.new z.kept (home_at _ _ (place.Running c.in-Running.p c.in-Running.assigned) z.left.home c.in-Running.is)
    (leaves_from _ _ _ _ _ z.left.leaves c.in-Running.is)

pub end-requires : goal.end-requires
end-requires c =
    let k = c.requires.kept in
    rw k.candidates (cands_ascend c.requires.admission.live c.requires.admission.pods k.sound.order.pods)

pub returns-in-Running : goal.returns-in-Running
returns-in-Running c = λ z.
    rw (c.add_if.ensures, c.add_if-in-Running.ensures, c.end.ensures)
    (kept_freed _ _ _ _ _ _ _ _ _ _ c.args.r c.in-Running.p c.in-Running.assigned c.give_back-freed.result.next c.give_back-freed.result.draining z.new z.kept z.left.order z.left.len
    (leaves_from _ _ _ _ _ z.left.leaves c.in-Running.is) (home_at _ _ (place.Running c.in-Running.p c.in-Running.assigned) z.left.home c.in-Running.is)
    c.release.ensures c.give_back-freed.ensures.changed c.give_back-freed.ensures.counted c.give_back-freed.ensures.next c.give_back-freed.ensures.draining)
