-- The law, over what kn_event says of spellings.
use Rattle.kn_journal.proofs.Kept.{journal-kept}
use Rattle.kn_journal.proofs.Printed.{AreSpelled, journal-read}
use Rattle.kn_journal.proofs.laws.journals_are_read.Goals as goal

pub returns : goal.returns
returns c =
    let said = c.spellings_are_read.ensures in
    let spelled : AreSpelled = record {
      number = said.number;
      decimal = said.decimal;
      event = said.event;
      text = said.text;
      printable = said.printable;
      least = said.least;
      most = said.most;
    } in
    record { read = journal-read spelled; kept = journal-kept spelled }
