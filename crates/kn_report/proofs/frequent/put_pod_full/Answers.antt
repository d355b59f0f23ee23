use Rattle.std.specs.Prelude.{Some}
use Rattle.kn_event.specs.declared.entry.Row.TheVariants as row
use Rattle.kn_report.proofs.Tallies.{puts_row}
use Rattle.kn_report.proofs.frequent.put_pod_full.Goals as goal

pub returns : goal.returns
returns c = puts_row c.args.time (row.QueueFull c.args.request (Some c.args.pod)) _ _ _ _ c.put_queue_full.ensures.text c.put_queue_full.ensures.short c.add.ensures.counted
