use Rattle.kn_tests_cell.proofs.Stills.{tries_still}
use Rattle.kn_tests_cell.proofs.calls.try_on.Goals as goal

pub returns-in-Ok : goal.returns-in-Ok
returns-in-Ok c = tries_still _ _ _ _ _ c.try_on.ensures

pub returns-in-Err-Busy : goal.returns-in-Err-Busy
returns-in-Err-Busy c = tries_still _ _ _ _ _ c.try_on.ensures

pub returns-in-Err-Full : goal.returns-in-Err-Full
returns-in-Err-Full c = tries_still _ _ _ _ _ c.try_on.ensures
