use Rattle.std.proofs.Common.{◌∙◌, ap, sym, subst}
use Rattle.kn_event.specs.declared.revision.Spec.{Spec}
use Rattle.kn_event.specs.Revision.{AreInRange}
use Rattle.kn_waits.specs.Waits.{AreWaits}
use Rattle.kn_show_summary.proofs.rows.Rows.new.Goals as goal

pub returns-clause-kept : goal.returns-clause-kept
returns-clause-kept c = record {
  counted = c.new-3.ensures.counted;
  waits = let said = c.in_ok-waits.ensures in subst (AreWaits c.in_ok-waits.waits) (sym c.begin_laws.ensures.first) said.waits;
  limit = let said = c.in_ok-waits.ensures in said.limit ∙ ap (λ (s : Spec). s.timeout_ms) c.spec.view_is;
  lives = c.in_ok-lives.ensures;
}

pub returns-clause-ranges : goal.returns-clause-ranges
returns-clause-ranges c = subst AreInRange c.spec.view_is c.spec.invariant.ranges
