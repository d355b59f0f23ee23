use Rattle.std.proofs.Common.{◌≤◌, ◌-◌, length, drop}
use Rattle.kn_reply.specs.Ends.{SameChunks}
use Rattle.kn_reply.proofs.chunks.follow.Given as goal

abbrev pub invariant-chunks : goal.invariant-chunks
invariant-chunks l = record { within : l.at ≤ length l.reply; same : SameChunks (drop l.start l.reply) (drop l.at l.reply) }

abbrev pub decreases-chunks : goal.decreases-chunks
decreases-chunks l = length l.reply - l.at
