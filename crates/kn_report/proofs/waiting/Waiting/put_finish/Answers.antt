use Rattle.std.proofs.Common.{◌++◌, ◌∙◌, List, ℕ, take, ap}
use Rattle.std.specs.Fmt.{decimal}
use Rattle.kn_event.specs.declared.entry.Row.TheVariants as row
use Rattle.kn_trace.specs.Trace.{entry}
use Rattle.kn_report.proofs.InPlace.{behind_time}
use Rattle.kn_report.proofs.waiting.Waiting.put_finish.Goals as goal

pub returns-clause-text : goal.returns-clause-text
returns-clause-text c =
    behind_time c.args.self.now (take c.put-at.result c.put-at.new.room) _ (entry c.args.time (row.Finish c.args.request c.args.ok))
    (c.put-at.ensures.text ∙ ap (λ (m : List ℕ). m ++ decimal c.args.time) c.self.view_is) c.put_finish-self-inside.ensures.text
