use Rattle.kn_event.specs.declared.entry.Row.TheVariants as row
use Rattle.kn_report.proofs.Tallies.{puts_row}
use Rattle.kn_report.proofs.frequent.put_admit.Goals as goal

pub returns : goal.returns
returns c = puts_row c.args.time (row.Admit c.args.request c.args.tag) _ _ _ _ c.put_admit.ensures.text c.put_admit.ensures.short (c.count_admit.ensures.counted c.args.request c.args.tag)
