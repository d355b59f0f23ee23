use Rattle.std.proofs.Common.{◌∙◌, ap, length, sym}
use Rattle.kn_waits.proofs.Made.{length-with_zeros}
use Rattle.kn_waits.proofs.counters.Counters.len.Goals as goal

pub returns : goal.returns
returns c = sym (length-with_zeros c.self.inside.count c.self.inside.made.items c.self.invariant.short) ∙ ap length c.self.view_is
