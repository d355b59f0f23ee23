use Rattle.kn_io.specs.MemCaller.{kept_of}
use Rattle.kn_tests_cell.proofs.Fresh.{fresh}
use Rattle.kn_tests_cell.proofs.slots.slot.Goals as goal

pub returns : goal.returns
returns c = fresh (kept_of c.args.caller.caller.met) c.args.caller.caller.held c.args.link c.new-work.result
    c.requires.kept c.requires.held c.requires.told
    (record { pass = c.new-work.ensures.pass; fault = c.new-work.ensures.fault; memory = c.new-work.ensures.memory })
