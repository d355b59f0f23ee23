use Rattle.std.proofs.Common.{◌≡◌, ◌∙◌, ap, arith, drop, length, sym, take}
use Rattle.std.proofs.lemmas.Grind.{common_steps}
use Rattle.kn_io.specs.MemCaller.{last_input}
use Rattle.kn_io.proofs.Moved.{moved}
use Rattle.kn_io.proofs.mem_caller.MemCallerSource.read.Goals as goal

pub returns-clause-moved : goal.returns-clause-moved
returns-clause-moved c =
    let n = c.min-n.result in
    let input = last_input c.self.inside.met.items in
    let front : c.copy_from_slice.new.self ≡ take n (drop c.self.inside.read input) = grind (arith, common_steps) in
    let long : length c.copy_from_slice.new.self ≡ n = grind (arith, common_steps) in
    let all = moved input c.copy_from_slice.new.self (drop n c.args.buf.now) c.self.inside.read n front long in
    sym (all ∙ ap (λ v. v.left) c.self.view_is)
