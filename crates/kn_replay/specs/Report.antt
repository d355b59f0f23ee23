-- The report of a journal, and of bytes.
use Rattle.std.specs.Prelude.{ℕ, List, None, Some, Option, length}
use Rattle.kn_trace.specs.Report.{last_line, rows_text, totals}
use Rattle.kn_trace.specs.Trace.{Trace}
use Rattle.kn_trace.specs.Events.{opening, react, trace_of}
use Rattle.kn_journal.specs.declared.journal.Journal.{Journal}
use Rattle.kn_journal.specs.Journal.{Verdict, bad, good, verdict}
use Rattle.kn_teller.specs.Manner.{Manner}
use Rattle.kn_teller.specs.Run.{trace}
use Rattle.kn_follow.specs.Account.{Account, text_of}

abbrev pub trace_of_journal : Journal → Trace
trace_of_journal j = trace_of j.setup.spec j.start j.events

unfoldable pub journal_rows : Journal → List ℕ
journal_rows j = rows_text (trace_of_journal j)

unfoldable pub journal_last_line : Journal → List ℕ
journal_last_line j = last_line j.version (length j.events) (totals (trace_of_journal j))

-- the rows of a journal, and the last line where all lines are good
abbrev pub report : Account
report = record { body = journal_rows; close = journal_last_line }

-- the report of a good journal; else the rows of the journal before the first refused line, or nothing
abbrev pub report_of : Verdict → List ℕ
report_of v = text_of report v

-- the same, told event after event: the rows of each, and the last line
abbrev pub row_by_row : Manner
row_by_row = record {
  opens = λ r. rows_text (opening r.spec r.start);
  tells = λ r e. rows_text (react r.spec (trace r) e);
  ends = λ version r. last_line version (length r.events) (totals (trace r));
}

-- what is said of the journal, where a start was read
abbrev pub OnJournal : Verdict → (Journal → Type 0) → Type 0
OnJournal (good j) P = P j
OnJournal (bad None cause) P = Unit {0}
OnJournal (bad (Some j) cause) P = P j

abbrev pub OnJournalOf : Option (List ℕ) → (Journal → Type 0) → Type 0
OnJournalOf None P = Unit {0}
OnJournalOf (Some xs) P = OnJournal (verdict xs) P
