use Rattle.kn_past.proofs.Reached.{count_ready-push, reached-now, reached-push, reached-stays, ready-push}
use Rattle.kn_past.proofs.Views.{decisions-push, first-entry, mode-push, mode_since-push, phase-push, phase_since-push, start-append, wanted-push}
use Rattle.std.specs.Prelude.{[], ◌∷◌}
use Rattle.kn_past.proofs.changes.entry_laws.Goals as goal

pub returns : goal.returns
returns c = record {
  phase = phase-push;
  mode = mode-push;
  wanted = wanted-push;
  first = first-entry;
  start = λ d e. start-append d (e ∷ []);
  phase_since = phase_since-push;
  mode_since = mode_since-push;
  decisions = decisions-push;
  reached = reached-push;
  reached_now = reached-now;
  ready = ready-push;
  count_ready = count_ready-push;
  reached_stays = reached-stays;
}
