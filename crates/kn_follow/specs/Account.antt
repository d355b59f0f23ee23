-- What is written of a journal.
use Rattle.std.specs.Prelude.{◌≡◌, ℕ, ◌++◌, List, [], None, Some}
use Rattle.kn_journal.specs.declared.journal.Journal.{Journal}
use Rattle.kn_journal.specs.Journal.{Verdict, bad, good}
use Rattle.kn_teller.specs.Manner.{Manner, told}
use Rattle.kn_teller.specs.Run.{Run, begun}

-- of its start and its events, and behind these where all lines are good
pub record Account : Type 0 where
  pub body : Journal → List ℕ
  pub close : Journal → List ℕ

-- they write the same of each journal
pub record SaysSame (a b : Account) : Type 0 where
  pub body : (j : Journal) → a.body j ≡ b.body j
  pub close : (j : Journal) → a.close j ≡ b.close j

-- the run of a journal, before its first event and after its last one
abbrev pub begun_of : Journal → Run
begun_of j = begun j.setup.spec j.start

abbrev pub run_of : Journal → Run
run_of j = record { spec = j.setup.spec; start = j.start; events = j.events }

-- what a manner tells of a journal's run
abbrev pub account_of : Manner → Account
account_of m = record {
  body = λ j. m.opens (begun_of j) ++ told m (begun_of j) j.events;
  close = λ j. m.ends j.version (run_of j);
}

-- all of a good journal; else of the journal before the first refused line, or nothing
abbrev pub text_of : Account → Verdict → List ℕ
text_of a (good j) = a.body j ++ a.close j
text_of a (bad None cause) = []
text_of a (bad (Some j) cause) = a.body j
