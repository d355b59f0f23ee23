-- Each law of spellings.
use Rattle.kn_event.proofs.Numerals.{number_of-decimal, number_of-spelling}
use Rattle.kn_event.proofs.Spelling.{event_of-spells, Spells-event_of}
use Rattle.kn_event.proofs.Texts.{line-least, line-most, line-printable}
use Rattle.kn_event.proofs.laws.spellings_are_read.Goals as goal

pub returns : goal.returns
returns c = record {
  number = number_of-spelling;
  decimal = number_of-decimal;
  event = event_of-spells;
  text = Spells-event_of;
  printable = line-printable;
  least = line-least;
  most = line-most;
}
