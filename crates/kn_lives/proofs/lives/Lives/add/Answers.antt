use Rattle.std.proofs.Common.{Some, None, true, false, refl, sym, ap, ◌∙◌}
use Rattle.std.proofs.lemmas.Bool.{eq-eqb}
use Rattle.kn_trace.specs.Rows.{directed_by, pod_by, taken_by}
use Rattle.kn_record.specs.Rows.{says}
use Rattle.kn_lives.proofs.Rows.{plain, row_assigned, row_other, row_ran, row_taken}
use Rattle.kn_lives.proofs.lives.Lives.add.Goals as goal

pub returns-in-Admit : goal.returns-in-Admit
returns-in-Admit c s es t next are =
    let r = c.in-Admit.r in
    let is = c.in-Admit.is in
    row_taken c.fact_laws.ensures s es c.args.tag t c.args.e.now next c.args.self.now c.take_in.new.self are r false None (ap taken_by is) (sym (ap (λ x. says (directed_by x) r) is)) (sym (ap (pod_by r) is)) c.take_in.ensures

pub returns-in-Direct : goal.returns-in-Direct
returns-in-Direct c s es t next are =
    let r = c.in-Direct.r in
    let p = c.in-Direct.p in
    let is = c.in-Direct.is in
    row_taken c.fact_laws.ensures s es c.args.tag t c.args.e.now next c.args.self.now c.take_in-in-Direct.new.self are r true (Some p) (ap taken_by is)
    (sym (ap (λ x. says (directed_by x) r) is ∙ eq-eqb r r refl)) (sym (ap (pod_by r) is ∙ rw (eq-eqb r r refl) refl)) c.take_in-in-Direct.ensures

pub returns-in-Assign : goal.returns-in-Assign
returns-in-Assign c s es t next are =
    row_assigned c.fact_laws.ensures s es c.args.tag t c.args.e.now next c.args.self.now c.assign.new.self are c.in-Assign.r c.in-Assign.p c.in-Assign.is c.assign.ensures

pub returns-in-Run : goal.returns-in-Run
returns-in-Run c s es t next are =
    row_ran c.fact_laws.ensures s es c.args.tag t c.args.e.now next c.args.self.now c.run.new.self are c.in-Run.r c.in-Run.is c.run.ensures

pub returns-in_default : goal.returns-in_default
returns-in_default c s es t next are =
    row_other c.fact_laws.ensures s es c.args.tag t c.args.e.now next c.args.self.now c.end_by.new.self are
    (plain c.args.e.now.row c.in_default.not-Admit c.in_default.not-Direct c.in_default.not-Assign c.in_default.not-Run) c.end_by.ensures.none c.end_by.ensures.gone c.end_by.ensures.fewer
