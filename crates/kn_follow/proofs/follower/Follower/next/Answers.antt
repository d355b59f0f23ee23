-- An event that is ahead, the end of the input, or what the reader answers over the source.
use Rattle.std.proofs.Common.{◌≡◌, ◌∙◌, Bool, None, true, sym, subst}
use Rattle.std.specs.Prelude.{Err, IfErr}
use Rattle.kn_journal.specs.declared.error.JournalError.TheVariants as error
use Rattle.kn_journal.specs.Bundle.{next_by}
use Rattle.kn_journal.specs.Reading.{IsOver, unread}
use Rattle.kn_journal.specs.Telling.{AmidNext, IsLineFault, LeavesRest, Tells}
use Rattle.kn_follow.proofs.Faults.{over_refuses}
use Rattle.kn_follow.proofs.Nexts.{OfError, OfEvent, next_is, no_end_stops}
use Rattle.kn_follow.proofs.follower.Follower.next.Goals as goal

pub returns-then-is_cut-clause-next : goal.returns-then-is_cut-clause-next
returns-then-is_cut-clause-next g c =
    let old = unread c.args.reader.now.input (g.S.Source.left c.args.source.now) in
    let cut : c.args.reader.now.cut ≡ true = sym c.is_cut.ensures ∙ c.if-is_cut.true in
    no_end_stops c.args.reader.now c.args.reader.now old old (g.S.Faulty.faults c.args.source.now) (g.S.Faulty.faults c.args.source.now)
    (λ over. over_refuses c.text_laws.ensures.laws c.args.reader.now.version c.args.reader.now.last c.args.reader.now.number old (subst (λ (b : Bool). IsOver b old) cut over))

pub returns-clause-next : goal.returns-clause-next
returns-clause-next g c =
    let left = g.S.Source.left c.args.source.now in
    let new = unread c.next.new.self.input (g.S.Source.left c.next.new.source) in
    let faults = g.S.Faulty.faults c.args.source.now in
    let faults_now = g.S.Faulty.faults c.next.new.source in
    let before = c.args.reader.now in
    let good = c.requires.sound.good in
    let alone = c.requires.sound.alone in
    let old = unread before.input left in
    let said = c.next.ensures in
    let event : OfEvent before c.next.new.self (unread before.input left) new c.next.result = record {
      text = said.reads.text;
      event = said.event;
      last = said.last;
      bytes = said.bytes;
      good = said.fails.good;
      alone = said.journal.bundle ∙ alone;
      few = said.few good;
    } in
    let stop : OfError before c.next.new.self (unread before.input left) new faults faults_now c.next.result = record {
      rest = subst (λ (b : Bool). IfErr c.next.result (λ e. IsLineFault e → LeavesRest (next_by b before.version before.last before.number) before.number None e old new)) alone (said.reads.rest good);
      memory = said.memory good;
      uncut = sym c.is_cut.ensures ∙ c.if-is_cut.false;
      amid = subst (λ (b : Bool). c.next.result ≡ Err error.ReadFault → AmidNext b old new) alone (said.source.amid good);
      spent = said.source.spent good;
      fault = said.source.fault good;
    } in
    next_is before c.next.new.self (unread before.input left) new faults faults_now c.next.result
    (subst (λ (b : Bool). Tells (next_by b before.version before.last before.number) c.next.new.self.number old new c.next.result) alone (said.reads.tells good)) event stop
