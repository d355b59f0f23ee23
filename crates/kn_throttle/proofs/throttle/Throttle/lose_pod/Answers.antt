use Rattle.std.proofs.Common.{◌∙◌, ap, length}
use Rattle.kn_event.specs.declared.entry.Row.TheVariants as row
use Rattle.kn_record.specs.Admission.{stepped}
use Rattle.kn_throttle.proofs.Coming.{empty_from}
use Rattle.kn_throttle.proofs.throttle.Throttle.lose_pod.Goals as goal

pub returns-clause-stands : goal.returns-clause-stands
unfolding stepped
returns-clause-stands c = λ d t h.
    let s = c.args.self.now.spec in
    let views = c.append_laws.ensures.views s c.args.self.now.admission d h in
    rw c.take_away.ensures.after (c.append_laws.ensures.append s _ d t (row.LostPod c.args.p) h (rw views.pods c.requires.there, empty_from _ (views.count_at_pod c.args.p ∙ ap length c.requires.none)))
