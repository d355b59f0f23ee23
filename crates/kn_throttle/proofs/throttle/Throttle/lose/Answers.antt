use Rattle.kn_event.specs.declared.entry.Row.TheVariants as row
use Rattle.kn_record.specs.Admission.{is_at, stepped}
use Rattle.kn_throttle.proofs.Answering.{placed_live}
use Rattle.kn_throttle.proofs.throttle.Throttle.lose.Goals as goal

pub end-requires : goal.end-requires
end-requires c = placed_live c.args.r (is_at c.requires.0) c.args.self.now.admission.live c.requires.1

pub returns-clause-stands : goal.returns-clause-stands
unfolding stepped
returns-clause-stands c = λ d t h.
    let s = c.args.self.now.spec in
    let views = c.append_laws.ensures.views s c.args.self.now.admission d h in
    rw c.end.ensures (c.append_laws.ensures.append s _ d t (row.LostRequest c.args.r) h (c.requires.0, rw (views.is_at_pod c.requires.0 c.args.r) c.requires.1))
