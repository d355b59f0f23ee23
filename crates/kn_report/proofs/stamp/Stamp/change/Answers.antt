use Rattle.std.proofs.Common.{◌≡◌, ◌*◌, ◌/◌, ◌∙◌, sym, arith, ap, ℕ}
use Rattle.kn_report.proofs.Threes.{digits_changed, thousands_text}
use Rattle.kn_report.proofs.stamp.Stamp.change.Goals as goal

pub overflow_sub-self-inside : goal.overflow_sub-self-inside
overflow_sub-self-inside c =
    let s = c.self.inside in
    (thousands_text s.text s.len s.time c.self.invariant.late (omega (arith, c.self.view_is)) (omega (arith, c.self.told)) c.self.invariant.text).0

pub invariant_of-self : goal.invariant_of-self
invariant_of-self c =
    let s = c.self.inside in
    let same : c.args.time / 1000 ≡ s.time / 1000 = c.requires ∙ ap (λ (t : ℕ). t / 1000) (sym c.self.view_is) in
    record {
      late = omega (arith, same);
      begin = c.self.invariant.begin ∙ ap (λ (t : ℕ). t * 1000) (sym same);
      short = c.self.invariant.short;
      text =
          digits_changed s.text c.put_three.new.room s.len c.put_three.result s.time c.args.time c.self.invariant.late (omega (arith, c.self.view_is)) (omega arith) same
          (omega (arith, c.self.told)) c.self.invariant.text c.put_three.ensures.end (rw c.self.invariant.begin at c.put_three.ensures.text);
    }
