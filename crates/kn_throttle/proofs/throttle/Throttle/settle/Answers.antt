use Rattle.std.proofs.Common.{◌≤◌, ◌+◌, ◌++◌, List, length, arith}
use Rattle.kn_event.specs.declared.entry.Entry.{Entry}
use Rattle.kn_trace.specs.Trace.{live_pods}
use Rattle.kn_trace.specs.Settling.{held_assignments, promotions, removals, settling}
use Rattle.kn_throttle.specs.Settling.{rows_left}
use Rattle.kn_throttle.proofs.Walking.{nobody_more, rows_few, settled_logged, settled_whole}
use Rattle.kn_throttle.proofs.Steps.{steps_join}
use Rattle.kn_throttle.proofs.throttle.Throttle.settle.Goals as goal

pub run_all-requires : goal.run_all-requires
run_all-requires c = rw (← c.self.view_is) (omega (arith, rows_few _ _ _ _ _ _ _ _ c.self.invariant))

pub assign_all-requires : goal.assign_all-requires
assign_all-requires c =
    let first : length c.args.log.now + rows_left c.args.self.now.admission ≤ 61100 = rw (← c.self.view_is) (omega (arith, rows_few _ _ _ _ _ _ _ _ c.self.invariant)) in
    omega (arith, c.run_all.ensures.room)

pub remove_all-requires : goal.remove_all-requires
remove_all-requires c =
    let first : length c.args.log.now + rows_left c.args.self.now.admission ≤ 61100 = rw (← c.self.view_is) (omega (arith, rows_few _ _ _ _ _ _ _ _ c.self.invariant)) in
    omega (arith, c.run_all.ensures.room, c.assign_all.ensures.room)

pub returns-clause-logged : goal.returns-clause-logged
unfolding settling
returns-clause-logged c = λ d h.
    let t = c.args.time in
    let s = c.args.self.now.spec in
    let ran : List Entry = promotions t d (live_pods d) in
    let gave : List Entry = held_assignments s t (d ++ ran) in
    let one = c.run_all.ensures.stands d h in
    let two = rw c.run_all.ensures.spec at (c.assign_all.ensures.stands (d ++ ran) one) in
    settled_logged c.args.log.now ran gave (removals t ((d ++ ran) ++ gave)) c.run_all.new.log c.assign_all.new.log c.remove_all.new.log
    (c.run_all.ensures.logged d h) (rw c.run_all.ensures.spec at (c.assign_all.ensures.logged (d ++ ran) one)) (c.remove_all.ensures.logged ((d ++ ran) ++ gave) two)

pub returns-clause-stands : goal.returns-clause-stands
unfolding settling
returns-clause-stands c = λ d h.
    let t = c.args.time in
    let s = c.args.self.now.spec in
    let ran : List Entry = promotions t d (live_pods d) in
    let gave : List Entry = held_assignments s t (d ++ ran) in
    let one = c.run_all.ensures.stands d h in
    let two = rw c.run_all.ensures.spec at (c.assign_all.ensures.stands (d ++ ran) one) in
    rw (← settled_whole d ran gave (removals t ((d ++ ran) ++ gave))) (c.remove_all.ensures.stands ((d ++ ran) ++ gave) two)

pub returns-clause-few : goal.returns-clause-few
returns-clause-few c =
    let most : rows_left c.args.self.now.admission ≤ 40500 = rw (← c.self.view_is) (rows_few _ _ _ _ _ _ _ _ c.self.invariant) in
    omega (arith, c.run_all.ensures.room, c.assign_all.ensures.room, c.remove_all.ensures.room)

pub returns-clause-nobody : goal.returns-clause-nobody
returns-clause-nobody c = nobody_more _ _ _ (nobody_more _ _ _ c.run_all.ensures.nobody c.assign_all.ensures.nobody) c.remove_all.ensures.nobody

pub returns-clause-steps : goal.returns-clause-steps
returns-clause-steps c = steps_join _ _ _ _ _ _ (steps_join _ _ _ _ _ _ c.run_all.ensures.steps c.assign_all.ensures.steps) c.remove_all.ensures.steps
