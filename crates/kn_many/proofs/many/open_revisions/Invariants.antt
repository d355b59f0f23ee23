use Rattle.std.proofs.Common.{◌≡◌, ◌<◌, ℕ, length}
use Rattle.std.specs.Prelude.{slice_index_or}
use Rattle.kn_core.specs.State.{RevisionState}
use Rattle.kn_journal.specs.declared.journal.Setup.{Setup}
use Rattle.kn_many.specs.Many.{IsOpenedAt}
use Rattle.kn_many.proofs.many.open_revisions.Given as goal

abbrev pub invariant-loop-setup : goal.invariant-loop-setup
invariant-loop-setup l = record {
  many : length l.revisions.items ≡ l.setup-index;
  opened : (v : ℕ) (b : RevisionState) (s : Setup) → v < l.setup-index → IsOpenedAt (slice_index_or l.setups v s).spec l.start (slice_index_or l.revisions.items v b);
}
