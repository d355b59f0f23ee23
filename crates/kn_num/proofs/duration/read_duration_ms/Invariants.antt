use Rattle.std.proofs.Common.{◌≡◌, ◌-◌, ◌≤◌, length, drop}
use Rattle.kn_num.specs.Duration.{parts_ms}
use Rattle.kn_num.proofs.Durations.{judged_after}
use Rattle.kn_num.proofs.duration.read_duration_ms.Given as goal

-- what the parts so far and those that are left come to is what all come to
abbrev pub invariant-loop-place : goal.invariant-loop-place
invariant-loop-place l = record {
  within : l.place ≤ length l.text;
  total : l.total ≤ 4398046511105;
  judged : judged_after l.total (parts_ms l.place 0 (drop l.place l.text)) ≡ judged_after 0 (parts_ms 0 0 l.text);
}

abbrev pub decreases-loop-place : goal.decreases-loop-place
decreases-loop-place l = length l.text - l.place
