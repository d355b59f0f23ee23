use Rattle.std.proofs.Common.{[], refl, sym, ◌∙◌, subst}
use Rattle.kn_core.specs.State.{StandsFor}
use Rattle.kn_follow.proofs.Runs.{trace_begun}
use Rattle.kn_follow.proofs.follower.Follower.new.Goals as goal

pub returns-clause-opened : goal.returns-clause-opened
returns-clause-opened c = record {
  none = refl;
  stands = subst (StandsFor c.in_ok-revision.revision) (sym (trace_begun c.args.spec c.args.start)) c.in_ok-revision.ensures.stands;
  spec = c.in_ok-revision.ensures.spec;
  clock = c.in_ok-revision.ensures.clock;
  rows = c.in_ok-revision.ensures.logged;
  trace_is = trace_begun c.args.spec c.args.start ∙ sym c.in_ok-revision.ensures.logged;
  made = c.trace_laws.ensures.made c.args.spec c.args.start [];
  times = c.requires.times;
}
