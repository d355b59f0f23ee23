use Rattle.kn_event.specs.declared.entry.Row.TheVariants as row
use Rattle.kn_report.proofs.Tallies.{puts_row}
use Rattle.kn_report.proofs.frequent.put_overload.Goals as goal

pub returns : goal.returns
returns c = puts_row c.args.time (row.Overload c.args.request) _ _ _ _ c.put_overload.ensures.text c.put_overload.ensures.short c.add.ensures.counted
