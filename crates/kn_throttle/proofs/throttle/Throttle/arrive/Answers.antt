use Rattle.std.proofs.Common.{◌∙◌, ap}
use Rattle.kn_event.specs.declared.entry.Mode.{Mode}
use Rattle.kn_event.specs.declared.event.Act.TheVariants as act
use Rattle.kn_record.specs.Acting.{row_in}
use Rattle.kn_throttle.proofs.throttle.Throttle.arrive.Goals as goal

pub returns-clause-stands : goal.returns-clause-stands
returns-clause-stands c = λ d tag h m.
    let s = c.args.self.now.spec in
    let a = c.args.self.now.admission in
    let row = c.append_laws.ensures.row s a d (act.Arrive tag) h ∙ ap (λ (x : Mode). row_in s x a (act.Arrive tag)) m ∙ c.enter.ensures.value tag in
    rw (c.requires.number, c.enter.ensures.after tag) (c.append_laws.ensures.act s a d c.args.time (act.Arrive tag) _ h row)
