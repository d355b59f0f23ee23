use Rattle.std.proofs.Common.{◌++◌, take}
use Rattle.kn_trace.specs.Trace.{Trace}
use Rattle.kn_figures.specs.Tallies.{IsTallyOf}
use Rattle.kn_figures.proofs.tally.Tally.apply.Given as goal

abbrev pub invariant-loop-entry : goal.invariant-loop-entry
invariant-loop-entry l = (c : Trace) → IsTallyOf l.fn.self c → IsTallyOf l.self (c ++ take l.entry-index l.entries)
