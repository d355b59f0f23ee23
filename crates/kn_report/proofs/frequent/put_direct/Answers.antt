use Rattle.kn_event.specs.declared.entry.Row.TheVariants as row
use Rattle.kn_report.proofs.Tallies.{puts_row}
use Rattle.kn_report.proofs.frequent.put_direct.Goals as goal

pub returns : goal.returns
returns c = puts_row c.args.time (row.Direct c.args.request c.args.pod) _ _ _ _ c.put_direct.ensures.text c.put_direct.ensures.short (c.count_direct.ensures.counted c.args.request c.args.pod)
