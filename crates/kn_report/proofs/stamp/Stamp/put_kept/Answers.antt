use Rattle.std.proofs.Common.{◌+◌, ◌-◌, ◌++◌, length, take, arith, ap, ◌∙◌, List, ℕ}
use Rattle.std.specs.Fmt.{decimal}
use Rattle.std.proofs.lemmas.Slice.{take-put_mid}
use Rattle.kn_report.proofs.InPlace.{front_of}
use Rattle.kn_report.proofs.stamp.Stamp.put_kept.Goals as goal

pub returns-clause-text : goal.returns-clause-text
returns-clause-text c =
    let kept = c.copy_from_slice.new.self in
    let whole = take-put_mid c.args.at (c.args.at + 24 - c.args.at) c.args.room.now kept (c.args.at + 24) (omega (arith, ap length c.copy_from_slice.ensures.after, c.self.told)) (omega arith) in
    front_of c.args.room.now _ kept c.args.at c.self.inside.len 24 (omega arith) (omega (arith, c.self.invariant.short)) whole
    ∙ ap (λ (m : List ℕ). take c.args.at c.args.room.now ++ m) (ap (take c.self.inside.len) c.copy_from_slice.ensures.after ∙ c.self.invariant.text ∙ ap decimal c.self.view_is)
