use Rattle.kn_event.specs.declared.entry.Row.TheVariants as row
use Rattle.kn_report.proofs.Tallies.{puts_row}
use Rattle.kn_report.proofs.frequent.put_assign.Goals as goal

pub returns : goal.returns
returns c = puts_row c.args.time (row.Assign c.args.request c.args.pod) _ _ _ _ c.put_assign.ensures.text c.put_assign.ensures.short (c.count_assign.ensures.counted c.args.request c.args.pod)
