-- What stepping through a generated journal writes, and how it ends.
use Rattle.std.specs.Prelude.{ℕ, List, [], Option, codes}
use Rattle.std.specs.Io.KnownBytes.{Appends}
use Rattle.kn_io.specs.Prefix.{AppendsPrefix}
use Rattle.kn_generate.specs.Generated.{generated_events, generated_spec}
use Rattle.kn_journal.specs.declared.journal.Journal.{Journal}
use Rattle.kn_journal.specs.declared.status.Status.{Status}
use Rattle.kn_journal.specs.declared.status.Status.TheVariants as status
use Rattle.kn_replay.specs.Report.{journal_last_line}

-- the journal of a seed and so many events
unfoldable pub generated_journal : ℕ → ℕ → Journal
generated_journal seed count = record {
  version = 1;
  setup = record { spec = generated_spec; text = codes "fixed limit=4 depth=100 max=20 pods=5 timeout=2 seed=0\n" };
  start = 0;
  events = generated_events seed count;
}

-- the last line of its report, and nothing else
abbrev pub Generates : ℕ → ℕ → Option (List ℕ) → Option (List ℕ) → Status → Type 0
Generates seed count old new status.Ok = Appends old new (journal_last_line (generated_journal seed count))
Generates seed count old new status.WriteFault = AppendsPrefix old new (journal_last_line (generated_journal seed count))
Generates seed count old new status.Memory = Appends old new []
Generates seed count old new _ = ⊥
