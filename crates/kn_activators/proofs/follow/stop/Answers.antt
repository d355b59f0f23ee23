-- What waits was written, or some of it.
use Rattle.std.proofs.Common.{append-nil, refl, subst, inl, inr}
use Rattle.std.specs.Io.KnownBytes.{Appends}
use Rattle.kn_activators.proofs.follow.stop.Goals as goal

pub returns-in-Ok-clause-stops : goal.returns-in-Ok-clause-stops
returns-in-Ok-clause-stops g c =
    inl (refl, subst (Appends (g.O.Sink.held c.args.out.now) (g.O.Sink.held c.flush.new.out)) (append-nil c.args.replay.now.waiting) (c.adding_laws.ensures.laws.done c.in-Ok.ensures.ok c.flush.ensures.empty))

pub returns-in-Err-clause-stops : goal.returns-in-Err-clause-stops
returns-in-Err-clause-stops g c = inr (refl, c.in-Err.ensures.err)
