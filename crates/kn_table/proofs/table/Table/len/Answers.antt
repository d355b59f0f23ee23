use Rattle.std.proofs.Common.{subst, ◌≤◌}
use Rattle.kn_table.specs.Order.{IsOrdered}
use Rattle.kn_table.proofs.Marks.{ordered}
use Rattle.kn_trace.specs.Events.{live_most}
use Rattle.kn_table.proofs.table.Table.len.Goals as goal

pub returns-clause-order : goal.returns-clause-order
returns-clause-order c =
    let kept = c.self.invariant.kept in
    subst IsOrdered c.self.view_is (ordered c.self.inside.slots.items kept.order (subst (λ n. n ≤ live_most) kept.counted kept.few))
