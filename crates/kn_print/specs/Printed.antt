-- The journal that a session prints.
use Rattle.std.specs.Prelude.{◌≡◌, ℕ, ◌<◌, ◌^◌, ◌++◌, List, [], ◌∷◌, Option, codes, map}
use Rattle.std.specs.Fmt.{decimal}
use Rattle.std.specs.List.{flat_map}
use Rattle.std.specs.Simd.Lanes.{zip2}
use Rattle.kn_event.specs.declared.event.Act.{Act}
use Rattle.kn_event.specs.declared.event.Act.TheVariants as act
use Rattle.kn_event.specs.declared.event.Event.{Event}
use Rattle.kn_cell.specs.declared.past.Past.{Past}
use Rattle.kn_io.specs.Prefix.{AppendsPrefix}
use Rattle.kn_preamble.specs.First.{first_line}
use Rattle.kn_journal.specs.declared.journal.Journal.{Journal}
use Rattle.kn_journal.specs.declared.journal.Setup.{Setup}
use Rattle.kn_journal.specs.Journal.{events_text, journal_text}

abbrev pub events_of : List Past → List Event
events_of h = map (λ p. p.event) h

-- a journal 1 of the setup, the start and the events of the history
abbrev pub printed_journal : Setup → ℕ → List Past → Journal
printed_journal setup start h = record { version = 1; setup = setup; start = start; events = events_of h }

-- the journals of these setups and histories, one for each revision
abbrev pub printed_journals : List Setup → ℕ → List (List Past) → List Journal
printed_journals setups start hs = zip2 (λ setup h. printed_journal setup start h) setups hs

-- the texts one after the other
abbrev pub journals_text : List Journal → List ℕ
journals_text js = flat_map journal_text js

-- the parts of a journal's text: line 1, the setup and the start; of rows a line each; and these and `end`
unfoldable pub preface : Setup → ℕ → List ℕ
preface setup start = (first_line 1 ++ 10 ∷ []) ++ (setup.text ++ ((codes "start " ++ decimal start) ++ 10 ∷ []))

abbrev pub lines_of : List Past → List ℕ
lines_of h = events_text (events_of h)

abbrev pub lines_to_end : List Past → List ℕ
lines_to_end h = lines_of h ++ codes "end\n"

-- .. and all of it
abbrev pub printed : Setup → ℕ → List Past → List ℕ
printed setup start h = journal_text (printed_journal setup start h)

-- A printed journal is its preface, the lines of its rows and `end`. The lines of rows and of others behind them are those
-- of both
pub record PrintedLaws : Type 0 where
  pub whole : (setup : Setup) (start : ℕ) (h : List Past) → printed setup start h ≡ preface setup start ++ lines_to_end h
  pub more : (xs ys : List Past) → lines_of (xs ++ ys) ≡ lines_of xs ++ lines_of ys

-- some first bytes of a text that waited and of one behind it were written
abbrev pub AddsPrefix : Option (List ℕ) → Option (List ℕ) → List ℕ → List ℕ → Type 0
AddsPrefix old new before text = AppendsPrefix old new (before ++ text)

-- its numbers fit a line of a journal
abbrev pub HasSmall : Act → Type 0
HasSmall (act.Arrive tag) = tag < 2 ^ 64
HasSmall (act.Finish r ok) = r < 2 ^ 64
HasSmall (act.Cancel r) = r < 2 ^ 64
HasSmall act.Pass = Unit {0}
HasSmall (act.Ready p) = p < 2 ^ 64
HasSmall (act.Limit p n) = p < 2 ^ 64
HasSmall (act.Lost p) = p < 2 ^ 64
HasSmall act.Tick = Unit {0}
