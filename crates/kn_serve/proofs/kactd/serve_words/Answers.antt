use Rattle.std.proofs.Common.{List, ap, arith, inl, length, inr, map, refl, string_bytes, subst, sym, ◌∙◌}
use Rattle.std.specs.Prelude.{Err, Some}
use Rattle.kn_event.specs.Lists.{EachIs}
use Rattle.kn_request.specs.declared.slot.Slot.{Slot}
use Rattle.kn_serve.specs.Opening.{IsEmptyWork}
use Rattle.kn_io.specs.Causes.{Rose}
use Rattle.kn_plan.specs.declared.plan_error.PlanError.{PlanError}
use Rattle.kn_plan.specs.Plan.{AsksFor}
use Rattle.kn_serve.specs.declared.open_error.OpenError.{OpenError}
use Rattle.kn_serve.specs.Shut.{IsShutWhere}
use Rattle.kn_serve.proofs.ShutFacts.{course_more, shut_by_opening, shut_by_plan, written_back}
use Rattle.kn_serve.proofs.kactd.serve_words.Goals as goal

pub returns-in-Err-clause-course : goal.returns-in-Err-clause-course
returns-in-Err-clause-course g c =
    let asks = AsksFor (map string_bytes c.args.words.now) in
    let rises = Rose (g.W.Faulty.faults c.args.opener.now) (g.W.Faulty.faults c.args.opener.now) in
    let why = shut_by_plan asks rises c.in-Err.error (λ is. c.plan_of.ensures.usage (c.in-Err.is ∙ ap (λ (e : PlanError). Err e) is)) in
    inl (record { why = subst (IsShutWhere asks rises) (sym c.refused.ensures) why; same = (refl, refl, c.requires.slots, c.requires.keeper) })

pub returns-in-Err-open-clause-course : goal.returns-in-Err-open-clause-course
returns-in-Err-open-clause-course g c =
    let asks = AsksFor (map string_bytes c.args.words.now) in
    let rises = Rose (g.W.Faulty.faults c.args.opener.now) (g.W.Faulty.faults c.open.new.self) in
    let why = shut_by_opening asks rises c.in-Err-open.error c.in-Ok.plan c.in-Ok.ensures.plan (λ is. c.open.ensures.failed (c.in-Err-open.is ∙ ap (λ (e : OpenError). Err e) is)) in
    inl (record { why = subst (IsShutWhere asks rises) (sym c.unopened.ensures) why; same = (refl, refl, c.in-Err-open.ensures.no_slots, c.in-Err-open.ensures.no_keeper) })

pub serve-requires-clause-works : goal.serve-requires-clause-works
serve-requires-clause-works g c κs within =
    let empties : EachIs (λ (s : Slot g.row.C.Denot g.row.L.Denot). IsEmptyWork s.work) c.open.new.slots.items = λ i d low. (c.in-Ok-open.ensures.opened.each i d low).empty in
    λ i d low. subst (λ (zs : List (Slot g.row.C.Denot g.row.L.Denot)). EachIs (λ (s : Slot g.row.C.Denot g.row.L.Denot). IsEmptyWork s.work) zs) (sym c.deref_mut.ensures.value) empties i d low

pub returns-clause-course : goal.returns-clause-course
returns-clause-course g c =
    let back = written_back c.open.new.slots.len c.serve.new.slots c.open.new.slots.items (c.serve.auto.slots ∙ ap length c.deref_mut.ensures.value) (omega (arith, c.deref_mut.ensures.len, ap length c.deref_mut.ensures.value)) in
    rw back (inr (record {
      plan = c.in-Ok.plan;
      asks = c.in-Ok.ensures.plan;
      slots = c.open.new.slots.items;
      keeper = c.in-Some.keeper;
      opened = (rw c.in-Some.is at c.in-Ok-open.ensures.opened, rw c.in-Some.is at c.in-Ok-open.ensures.given);
      course = course_more _ _ _ _ _ _ _ _ _ _ _ _ (rw c.deref_mut.ensures.value at c.serve.ensures.course) (λ x t. (c.serve.new.keeper, refl, t)) (λ same. (same.0, ap (λ (l : g.row.L.Denot). Some l) same.1, same.2));
    }))

pub returns-clause-works : goal.returns-clause-works
returns-clause-works g c =
    let back = written_back c.open.new.slots.len c.serve.new.slots c.open.new.slots.items (c.serve.auto.slots ∙ ap length c.deref_mut.ensures.value) (omega (arith, c.deref_mut.ensures.len, ap length c.deref_mut.ensures.value)) in
    rw back c.serve.ensures.works
