use Rattle.kn_past.proofs.Reached.{reached-append}
use Rattle.kn_past.proofs.Views.{decisions-append, mode-append, mode_since-append, phase-append, phase_since-append, start-append, wanted-append}
use Rattle.kn_past.proofs.changes.list_laws.Goals as goal

pub returns : goal.returns
returns c = record {
  phase = phase-append;
  mode = mode-append;
  wanted = wanted-append;
  start = start-append;
  phase_since = phase_since-append;
  mode_since = mode_since-append;
  decisions = decisions-append;
  reached = reached-append;
}
