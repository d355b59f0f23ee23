use Rattle.kn_event.specs.declared.entry.Row.TheVariants as row
use Rattle.kn_trace.specs.Trace.{entry}
use Rattle.kn_record.specs.Admission.{stepped}
use Rattle.kn_record.specs.Views.{pod_numbers}
use Rattle.kn_throttle.proofs.Dispatched.{settling_assign, settling_rest, settling_run}
use Rattle.kn_throttle.proofs.throttle.Throttle.dispatch_next.Goals as goal

pub returns-in-Some-clause-begins : goal.returns-in-Some-clause-begins
unfolding stepped
returns-in-Some-clause-begins c = λ d t h.
    let a = c.args.self.now.admission in
    let s = c.args.self.now.spec in
    let x = row.Run c.in-Some.r in
    let begins = c.in-Some.ensures.begins d t h in
    let views = c.append_laws.ensures.views s a d h in
    let after = c.append_laws.ensures.views s (stepped t x a) _ begins.1 in
    (settling_run s t (entry t x) d (pod_numbers a.pods) views.pods after.pods begins.0, begins.1)

pub returns-in-Some-assign_next-clause-begins : goal.returns-in-Some-assign_next-clause-begins
unfolding stepped
returns-in-Some-assign_next-clause-begins c = λ d t h.
    let a = c.args.self.now.admission in
    let s = c.args.self.now.spec in
    let x = row.Assign c.in-Some-assign_next.r c.in-Some-assign_next.p in
    let begins = rw c.in_default.ensures.unchanged at (c.in-Some-assign_next.ensures.begins d t (rw c.in_default.ensures.unchanged h)) in
    let views = c.append_laws.ensures.views s a d h in
    let after = c.append_laws.ensures.views s (stepped t x a) _ begins.1 in
    let still = rw (c.in-Some-assign_next.ensures.after t, c.in_default.ensures.unchanged) at (c.in-Some-assign_next.ensures.calm (rw c.in_default.ensures.unchanged c.in_default.ensures.calm)) in
    (settling_assign s t (entry t x) d (pod_numbers a.pods) views.pods after.pods (c.in_default.ensures.calm.rows d t h) (still.rows _ t begins.1) begins.0, begins.1)

pub returns-in-None-clause-ends : goal.returns-in-None-clause-ends
returns-in-None-clause-ends c = λ d t h.
    let a = c.args.self.now.admission in
    let s = c.args.self.now.spec in
    let views = c.append_laws.ensures.views s a d h in
    let none = rw c.in_default.ensures.unchanged at (c.in-None.ensures.ends d t (rw c.in_default.ensures.unchanged h)) in
    settling_rest s t d (pod_numbers a.pods) views.pods (c.in_default.ensures.calm.rows d t h) none
