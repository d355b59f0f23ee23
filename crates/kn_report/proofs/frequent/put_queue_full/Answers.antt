use Rattle.std.specs.Prelude.{None}
use Rattle.kn_event.specs.declared.entry.Row.TheVariants as row
use Rattle.kn_report.proofs.Tallies.{puts_row}
use Rattle.kn_report.proofs.frequent.put_queue_full.Goals as goal

pub returns : goal.returns
returns c = puts_row c.args.time (row.QueueFull c.args.request None) _ _ _ _ c.put_queue_full.ensures.text c.put_queue_full.ensures.short c.add.ensures.counted
