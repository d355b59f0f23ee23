-- Where the input said its end, no journal follows.
use Rattle.std.proofs.Common.{◌≡◌, ◌∙◌, None, ap, subst, sym, true}
use Rattle.kn_journal.specs.Bundle.{first_of_part}
use Rattle.kn_journal.specs.Reading.{unread}
use Rattle.kn_journal.specs.Telling.{Gives, ReaderState}
use Rattle.kn_journal.proofs.Bundles.{first_of-over}
use Rattle.kn_journal.proofs.reader.JournalReader.part.Goals as goal

pub returns-then-is_cut-clause-reads : goal.returns-then-is_cut-clause-reads
returns-then-is_cut-clause-reads g c =
    let old = unread c.args.self.now.input (g.S.Source.left c.args.source.now) in
    let cut : c.args.self.now.cut ≡ true = ap (λ (r : ReaderState). r.cut) (sym c.self.view_is) ∙ sym c.is_cut.ensures ∙ c.if-is_cut.true in
    record {
      tells = λ good over.
          subst (λ (r : ReaderState). Gives (first_of_part c.args.self.now.number) None r.number old (unread r.input (g.S.Source.left c.args.source.now))) (sym c.self.view_is)
          (first_of-over c.args.self.now.number c.args.self.now.cut old cut over);
      rest = λ good. tt;
      text = λ is. absurd (cc);
      bytes = λ is. absurd (cc);
    }
