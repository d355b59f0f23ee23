use Rattle.std.proofs.Common.{◌≡◌, ◌∙◌, ◌+◌, ◌-◌, ◌<◌, ◌^◌, ◌++◌, ℕ, ap, arith, length, length-set, min, replicate, set}
use Rattle.kn_waits.proofs.Made.{grown, length-with_zeros, raised}
use Rattle.kn_waits.proofs.counters.Counters.raise.Goals as goal

pub overflow_add-w : goal.overflow_add-w
overflow_add-w c =
    let x = c.self.inside in
    omega (arith, ap length c.self.view_is, length-with_zeros x.count x.made.items c.self.invariant.short)

pub make_up_to-requires : goal.make_up_to-requires
make_up_to-requires c =
    let x = c.self.inside in
    omega (arith, ap length c.self.view_is, length-with_zeros x.count x.made.items c.self.invariant.short, c.self.invariant.room)

pub returns : goal.returns
returns c =
    let x = c.self.inside in
    let w = c.args.w in
    let more = c.make_up_to.new.made.items in
    let is : more ≡ x.made.items ++ replicate (w + 1 - length x.made.items) 0 =
    c.make_up_to.ensures.items ∙ ap (λ (n : ℕ). x.made.items ++ replicate (w + 1 - n) 0) x.made.ok.0 in
    let all = raised x.count w c.index.result.now c.saturating_add.result x.made.items more c.args.self.now c.self.invariant.short c.self.view_is c.requires is c.index.ensures in
    all.0 ∙ ap (λ (n : ℕ). set c.args.self.now w n) (c.saturating_add.ensures ∙ ap (λ (n : ℕ). min (n + 1) (2 ^ 64 - 1)) all.1)

pub invariant_of-self : goal.invariant_of-self
invariant_of-self c =
    let x = c.self.inside in
    let more = c.make_up_to.new.made.items in
    let w = c.args.w in
    let below : w < x.count = omega (arith, ap length c.self.view_is, length-with_zeros x.count x.made.items c.self.invariant.short) in
    let is : more ≡ x.made.items ++ replicate (w + 1 - length x.made.items) 0 =
    c.make_up_to.ensures.items ∙ ap (λ (n : ℕ). x.made.items ++ replicate (w + 1 - n) 0) x.made.ok.0 in
    let all = grown x.count w x.made.items more c.self.invariant.short below is in
    record {
      short = omega (arith, all.1, length-set more w c.saturating_add.result);
      room = omega (arith, c.make_up_to.ensures.room, c.self.invariant.room);
    }
