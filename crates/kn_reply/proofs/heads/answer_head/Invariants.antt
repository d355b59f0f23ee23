use Rattle.std.proofs.Common.{◌-◌, ◌≤◌, ◌≡◌, length, drop}
use Rattle.kn_reply.specs.Ends.{most_fields, SameHeads}
use Rattle.kn_reply.proofs.heads.answer_head.Given as goal

abbrev pub invariant-heads : goal.invariant-heads
invariant-heads l = record {
  within : l.at ≤ length l.reply;
  spans : length l.spans ≡ most_fields;
  same : SameHeads l.seen l.reply (drop l.at l.reply);
}

abbrev pub decreases-heads : goal.decreases-heads
decreases-heads l = 16 - l.seen
