use Rattle.std.proofs.Common.{Bool, ◌∙◌, sym, subst}
use Rattle.kn_journal.specs.Bundle.{next_by}
use Rattle.kn_journal.specs.Reading.{unread}
use Rattle.kn_journal.specs.Telling.{AmidNext, Tells}
use Rattle.kn_bundle.proofs.Nexts.{SaysNext, cut_stops, next_is}
use Rattle.kn_bundle.proofs.events.next_event.Goals as goal

pub returns-then-is_cut-clause-next : goal.returns-then-is_cut-clause-next
returns-then-is_cut-clause-next g c =
    let now = unread c.args.reader.now.input (g.S.Source.left c.args.source.now) in
    let faults = g.S.Faulty.faults c.args.source.now in
    cut_stops c.text_laws.ensures.laws c.args.reader.now c.args.reader.now now now faults faults (sym c.is_cut.ensures ∙ c.if-is_cut.true)

pub returns-clause-next : goal.returns-clause-next
returns-clause-next g c =
    let left = g.S.Source.left c.args.source.now in
    let before = c.args.reader.now in
    let old = unread before.input left in
    let new = unread c.next.new.self.input (g.S.Source.left c.next.new.source) in
    let good = c.requires.within.good in
    let said = c.next.ensures in
    let says : SaysNext before c.next.new.self old new (g.S.Faulty.faults c.args.source.now) (g.S.Faulty.faults c.next.new.source) c.next.result = record {
      tells = subst (λ (b : Bool). Tells (next_by b before.version before.last before.number) c.next.new.self.number old new c.next.result) c.requires.within.bundle (said.reads.tells good);
      text = said.reads.closes c.requires.within.bundle;
      event = said.event;
      last = said.last;
      bytes = said.bytes;
      good = said.fails.good;
      few = said.few good;
      bundle = said.journal.bundle ∙ c.requires.within.bundle;
      memory = said.memory good;
      amid = λ is. subst (λ (b : Bool). AmidNext b old new) c.requires.within.bundle (said.source.amid good is);
      spent = said.source.spent good;
      fault = said.source.fault good;
    } in
    next_is before c.next.new.self old new (g.S.Faulty.faults c.args.source.now) (g.S.Faulty.faults c.next.new.source) c.next.result says
