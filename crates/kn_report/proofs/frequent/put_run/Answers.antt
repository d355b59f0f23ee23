use Rattle.kn_event.specs.declared.entry.Row.TheVariants as row
use Rattle.kn_report.proofs.Tallies.{puts_row}
use Rattle.kn_report.proofs.frequent.put_run.Goals as goal

pub returns : goal.returns
returns c = puts_row c.args.time (row.Run c.args.request) _ _ _ _ c.put_run.ensures.text c.put_run.ensures.short (c.count_run.ensures.counted c.args.request)
