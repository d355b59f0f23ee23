use Rattle.kn_event.specs.EntryLine.{row_text, with_number, with_numbers}
use Rattle.kn_report.proofs.rows.put_direct.Goals as goal

pub returns-clause-text : goal.returns-clause-text
unfolding row_text with_number with_numbers
returns-clause-text c = c.put_two.ensures.text
