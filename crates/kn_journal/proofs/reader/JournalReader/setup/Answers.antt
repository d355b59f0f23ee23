-- A reader that had not failed read an opening, or stopped in one.
use Rattle.std.proofs.Common.{◌+◌, ◌≤◌, subst}
use Rattle.std.specs.Prelude.{Some}
use Rattle.kn_journal.specs.Bundle.{opening_by}
use Rattle.kn_journal.specs.Reading.{IsBalanced, TakesText, unread}
use Rattle.kn_journal.specs.Telling.{Gives, LeavesRest, ReaderState, Refuses, StopsAmid}
use Rattle.kn_journal.proofs.reader.JournalReader.setup.Goals as goal

pub returns-in-Ok-clause-reads : goal.returns-in-Ok-clause-reads
returns-in-Ok-clause-reads g c =
    let left = g.S.Source.left c.args.source.now in
    let new = unread c.read_opening_by.new.lines.input (g.S.Source.left c.read_opening_by.new.source) in
    record {
      tells = λ good.
          subst (λ (r : ReaderState). Gives (opening_by r.begun r.version r.number) c.in-Ok.opening c.read_opening_by.new.lines.number (unread r.input left) new)
          c.self.view_is c.in-Ok.ensures.tells;
      rest = λ good. tt;
      text = subst (λ (r : ReaderState). TakesText c.read_opening_by.new.lines.cut (unread r.input left) new) c.self.view_is c.in-Ok.ensures.text;
    }

pub returns-in-Err-clause-reads : goal.returns-in-Err-clause-reads
returns-in-Err-clause-reads g c =
    let left = g.S.Source.left c.args.source.now in
    let new = unread c.read_opening_by.new.lines.input (g.S.Source.left c.read_opening_by.new.source) in
    record {
      tells = λ good. subst (λ (r : ReaderState). Refuses (opening_by r.begun r.version r.number) c.in-Err.e (unread r.input left)) c.self.view_is c.in-Err.ensures.tells;
      rest = λ good is.
          subst (λ (r : ReaderState). LeavesRest (opening_by r.begun r.version r.number) r.number (Some (r.number + 1)) c.in-Err.e (unread r.input left) new)
          c.self.view_is (c.in-Err.ensures.rest is);
      text = tt;
    }

pub returns-in-Err-clause-source : goal.returns-in-Err-clause-source
returns-in-Err-clause-source g c =
    let left = g.S.Source.left c.args.source.now in
    let input = c.read_opening_by.new.lines.input in
    let drew = c.in-Err.ensures.source in
    record {
      amid = λ good is.
          subst (λ (r : ReaderState). StopsAmid (opening_by r.begun r.version r.number) (unread r.input left) (unread input (g.S.Source.left c.read_opening_by.new.source)))
          c.self.view_is (drew.amid cc);
      spent = λ good is. drew.spent cc;
      fault = λ good is. drew.fault cc;
      grows = subst (λ (r : ReaderState). r.input.taken ≤ input.taken) c.self.view_is drew.grows;
      balance = subst (λ (r : ReaderState). IsBalanced r.input input (g.S.Source.given c.args.source.now) (g.S.Source.given c.read_opening_by.new.source)) c.self.view_is drew.balance;
      never_falls = drew.never_falls;
      apart = drew.apart_stays;
    }
