use Rattle.std.proofs.Common.{arith}
use Rattle.kn_show_series.proofs.Passing.{added_none, added_one, added_two, cut_in_first, cut_in_second, later_is, next_is, no_line, size_of-begun, stays_kept}
use Rattle.kn_show_series.proofs.current.OpenStep.pass.Goals as goal

pub returns-then-over-step-clause-ok : goal.returns-then-over-step-clause-ok
returns-then-over-step-clause-ok g c = λ r h. added_none c.adding_laws.ensures.laws _ _ _ (no_line _ _ _ _ c.requires h (omega arith))

pub returns-then-over-step-clause-step : goal.returns-then-over-step-clause-step
returns-then-over-step-clause-step g c = λ r h. stays_kept _ _ _ _ c.requires h (omega arith)

pub returns-in-Err-clause-err : goal.returns-in-Err-clause-err
returns-in-Err-clause-err g c = λ r h. cut_in_first c.adding_laws.ensures.laws c.args.step r c.args.time c.args.self.now (g.O.Sink.held c.args.out.now) (g.O.Sink.held c.write_told.new.out) c.args.waiting.now c.requires h (omega arith) c.in-Err.ensures.err

pub returns-then-over-step-2-clause-ok : goal.returns-then-over-step-2-clause-ok
returns-then-over-step-2-clause-ok g c = λ r h.
    added_one c.args.step r c.args.time c.args.self.now (g.O.Sink.held c.args.out.now) (g.O.Sink.held c.write_told.new.out) c.args.waiting.now c.write_told.new.waiting c.requires h (omega arith) (omega arith) c.in-Ok.ensures.ok

pub returns-then-over-step-2-clause-step : goal.returns-then-over-step-2-clause-step
returns-then-over-step-2-clause-step g c = λ r h.
    next_is c.args.step r c.args.time c.args.self.now c.later.result c.requires h (omega arith) (omega arith) c.later.ensures

pub returns-then-over-step-2-clause-few : goal.returns-then-over-step-2-clause-few
returns-then-over-step-2-clause-few g c = omega (arith, size_of-begun _ _ _ _ c.later.ensures)

pub returns-in-Err-write_told-clause-err : goal.returns-in-Err-write_told-clause-err
returns-in-Err-write_told-clause-err g c = λ r h.
    cut_in_second c.adding_laws.ensures.laws c.args.step r c.args.time c.args.self.now c.later.result (g.O.Sink.held c.args.out.now) (g.O.Sink.held c.write_told.new.out) (g.O.Sink.held c.write_told-2.new.out) c.args.waiting.now c.write_told.new.waiting c.requires h (omega arith) (omega arith) c.later.ensures c.in-Ok.ensures.ok c.in-Err-write_told.ensures.err

pub returns-clause-ok : goal.returns-clause-ok
returns-clause-ok g c = λ r h.
    added_two c.adding_laws.ensures.laws c.args.step r c.args.time c.args.self.now c.later.result (g.O.Sink.held c.args.out.now) (g.O.Sink.held c.write_told.new.out) (g.O.Sink.held c.write_told-2.new.out) c.args.waiting.now c.write_told.new.waiting c.write_told-2.new.waiting c.requires h (omega arith) (omega arith) c.later.ensures c.in-Ok.ensures.ok c.in-Ok-write_told.ensures.ok

pub returns-clause-step : goal.returns-clause-step
returns-clause-step g c = λ r h.
    later_is c.args.step r c.args.time c.saturating_sub-over.result c.args.self.now c.later.result c.later-2.result c.requires h c.saturating_sub-over.ensures (omega arith) (omega arith) c.later.ensures c.later-2.ensures

pub returns-clause-few : goal.returns-clause-few
returns-clause-few g c = omega (arith, size_of-begun _ _ _ _ c.later-2.ensures)
