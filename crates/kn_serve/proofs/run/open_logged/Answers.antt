-- Nothing lives at an opening.
use Rattle.std.proofs.Common.{length, ap, ◌∙◌}
use Rattle.kn_trace.specs.Events.{opening}
use Rattle.kn_serve.proofs.SessionFacts.{live-opening}
use Rattle.kn_serve.proofs.run.open_logged.Goals as goal

pub prove-unreachable-requires : goal.prove-unreachable-requires
prove-unreachable-requires c =
    c.if-prove.true (c.live-live.ensures.live (opening c.in_ok-spec.spec c.args.start) c.in_ok-revision.ensures.stands ∙ ap length (live-opening c.in_ok-spec.spec c.args.start))
