use Rattle.std.proofs.Common.{◌≡◌, length}
use Rattle.kn_tests_cell.specs.Workers.{AreLeaves}
use Rattle.kn_tests_cell.proofs.cells.play.Given as goal

abbrev pub invariant-loop-words : goal.invariant-loop-words
invariant-loop-words g l = record { len : length l.workers ≡ length l.fn.workers; each : AreLeaves l.cell (length l.fn.workers) l.workers }
