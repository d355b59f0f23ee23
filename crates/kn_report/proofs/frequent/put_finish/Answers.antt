use Rattle.kn_event.specs.declared.entry.Row.TheVariants as row
use Rattle.kn_report.proofs.Tallies.{puts_row}
use Rattle.kn_report.proofs.frequent.put_finish.Goals as goal

pub returns : goal.returns
returns c = puts_row c.args.time (row.Finish c.args.request c.args.ok) _ _ _ _ c.put_finish.ensures.text c.put_finish.ensures.short (c.count_finish.ensures.counted c.args.request)
