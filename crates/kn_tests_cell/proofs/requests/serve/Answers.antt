use Rattle.kn_tests_cell.proofs.Stills.{maybe_still}
use Rattle.kn_tests_cell.proofs.requests.serve.Goals as goal

pub returns-then-alone : goal.returns-then-alone
returns-then-alone g c = maybe_still _ _ c.serve_one.ensures.looks

pub returns : goal.returns
returns g c = maybe_still _ _ c.serve_guest.ensures.looks
