use Rattle.std.proofs.Common.{sym, ap, ◌∙◌, arith}
use Rattle.kn_sizes.specs.Course.{runs_by}
use Rattle.kn_trace.specs.Events.{need_of}
use Rattle.kn_cell.proofs.Needs.{none_if, not_running, not_waiting, waits_either, arrive_need, other_need, finish_need, cancel_need}
use Rattle.kn_cell.proofs.desk.need.Goals as goal

pub returns-in-Arrive-clause-value : goal.returns-in-Arrive-clause-value
returns-in-Arrive-clause-value c t s = arrive_need t c.in-Arrive.field-0 ∙ ap (need_of t) (sym c.in-Arrive.is)

pub returns-in-Running-clause-value : goal.returns-in-Running-clause-value
returns-in-Running-clause-value c t s =
    ap (λ x. none_if (runs_by x)) (sym c.in-Running.is)
    ∙ (finish_need c.history_laws.ensures.made c.request_laws.ensures.stands c.args.revision.now c.in-Finish.r c.stand.result c.stand.ensures.stand c.in-Finish.field-1 t s
    ∙ ap (need_of t) (sym c.in-Finish.is))

pub returns-in_default-stand : goal.returns-in_default-stand
returns-in_default-stand c = record {
  value = λ t s.
      ap none_if (sym (not_running c.stand.result c.in_default-stand.not-Running))
      ∙ (finish_need c.history_laws.ensures.made c.request_laws.ensures.stands c.args.revision.now c.in-Finish.r c.stand.result c.stand.ensures.stand c.in-Finish.field-1 t s
      ∙ ap (need_of t) (sym c.in-Finish.is));
  small = omega arith;
}

pub returns-in-Held-clause-value : goal.returns-in-Held-clause-value
returns-in-Held-clause-value c t s =
    ap none_if (sym (waits_either c.stand-in-Cancel.result c.in-Held.is))
    ∙ (cancel_need c.history_laws.ensures.made c.request_laws.ensures.stands c.args.revision.now c.in-Cancel.r c.stand-in-Cancel.result c.stand-in-Cancel.ensures.stand t s
    ∙ ap (need_of t) (sym c.in-Cancel.is))

pub returns-in_default-stand-2 : goal.returns-in_default-stand-2
returns-in_default-stand-2 c = record {
  value = λ t s.
      ap none_if (sym (not_waiting c.stand-in-Cancel.result c.in_default-stand-2.not-Held c.in_default-stand-2.not-Queued))
      ∙ (cancel_need c.history_laws.ensures.made c.request_laws.ensures.stands c.args.revision.now c.in-Cancel.r c.stand-in-Cancel.result c.stand-in-Cancel.ensures.stand t s
      ∙ ap (need_of t) (sym c.in-Cancel.is));
  small = omega arith;
}

pub returns-in_default : goal.returns-in_default
returns-in_default c = record {
  value = λ t s. other_need t c.args.act.now c.in_default.not-Arrive c.in_default.not-Finish c.in_default.not-Cancel;
  small = omega arith;
}
