use Rattle.std.proofs.Common.{◌≡◌, ◌∙◌, sym, rules, length}
use Rattle.std.specs.List.{sum}
use Rattle.kn_policy.proofs.Counting.{all_marked}
use Rattle.kn_policy.proofs.marks.place_among_free.Goals as goal

pub returns-then-free-marks : goal.returns-then-free-marks
returns-then-free-marks c =
    let all : sum c.args.marks.now ≡ length c.args.marks.now = sym c.requires.free ∙ search rules in
    all_marked c.args.n c.args.marks.now c.requires.marks all (rw (← c.requires.free) c.requires.inside)
