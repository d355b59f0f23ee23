use Rattle.kn_decider.proofs.Samples.{closed_stands}
use Rattle.kn_decider.proofs.decider.Decider.closed.Goals as goal

pub returns-clause-stands : goal.returns-clause-stands
returns-clause-stands c =
    closed_stands c.sample_laws.ensures.same c.args.self.now c.record.new.self c.record-2.new.self c.args.c.now
    (record { stable = c.record.ensures.stable; panic_window = c.record.ensures.panic_window; kept = c.record.ensures.kept })
    (record { stable = c.record-2.ensures.stable; panic_window = c.record-2.ensures.panic_window; kept = c.record-2.ensures.kept })
