use Rattle.std.proofs.Common.{◌∙◌, ap, arith, drop, inl, inr, length, map, refl, string_bytes, subst, sym}
use Rattle.std.specs.Prelude.{Err}
use Rattle.kn_io.specs.Causes.{Rose}
use Rattle.kn_plan.specs.Plan.{AsksForMany}
use Rattle.kn_serve.specs.declared.open_error.OpenError.{OpenError}
use Rattle.kn_serve.specs.Shut.{IsShutWhere}
use Rattle.kn_many.proofs.WideFacts.{in_wide_range, opened_ready, taken_all}
use Rattle.kn_many.proofs.kactd_many.serve_words.Goals as goal

pub returns-in-Err-open-clause-course : goal.returns-in-Err-open-clause-course
returns-in-Err-open-clause-course g c =
    let asks = AsksForMany (map string_bytes c.args.words.now) in
    let rises = Rose (g.W.Faulty.faults c.args.opener.now) (g.W.Faulty.faults c.open.new.self) in
    let why = c.wide_laws.ensures.shut (map string_bytes c.args.words.now) c.in-Ok.plan (g.W.Faulty.faults c.args.opener.now) (g.W.Faulty.faults c.open.new.self) c.in-Err-open.error c.in-Ok.ensures.plan
    (λ is. c.open.ensures.failed (c.in-Err-open.is ∙ ap (λ (e : OpenError). Err e) is)) in
    inl (record { why = subst (IsShutWhere asks rises) (sym c.unopened.ensures) why; same = (refl, refl, c.in-Err-open.ensures.no_slots, c.in-Err-open.ensures.no_keepers) })

pub serve_all-requires-clause-plan : goal.serve_all-requires-clause-plan
serve_all-requires-clause-plan g c κs within = in_wide_range (map string_bytes c.args.words.now) c.in-Ok.plan c.in-Ok.ensures.plan

pub serve_all-requires-clause-slots : goal.serve_all-requires-clause-slots
serve_all-requires-clause-slots g c κs within = opened_ready _ _ c.in-Ok.plan c.open.new.slots.items c.deref_mut.result.now c.open.new.keepers.items c.in-Ok-open.ensures.opened (λ s fresh. fresh.empty) c.deref_mut.ensures.value

pub returns-clause-course : goal.returns-clause-course
returns-clause-course g c =
    let back = taken_all c.open.new.slots.len c.serve_all.new.slots (drop (length c.serve_all.new.slots) c.open.new.slots.items) (omega (arith, c.serve_all.auto.slots, c.deref_mut.ensures.len, ap length c.deref_mut.ensures.value)) in
    let back' = taken_all c.open.new.keepers.len c.serve_all.new.keepers (drop (length c.serve_all.new.keepers) c.open.new.keepers.items) (omega (arith, c.serve_all.auto.keepers, c.deref_mut-2.ensures.len, ap length c.deref_mut-2.ensures.value)) in
    rw (back, back') (inr (record {
      plan = c.in-Ok.plan;
      asks = c.in-Ok.ensures.plan;
      slots = c.open.new.slots.items;
      keeper = c.open.new.keepers.items;
      opened = (c.in-Ok-open.ensures.opened, c.in-Ok-open.ensures.given);
      course = rw c.deref_mut-2.ensures.value at (rw c.deref_mut.ensures.value at c.serve_all.ensures.course);
    }))

pub returns-clause-works : goal.returns-clause-works
returns-clause-works g c =
    let back = taken_all c.open.new.slots.len c.serve_all.new.slots (drop (length c.serve_all.new.slots) c.open.new.slots.items) (omega (arith, c.serve_all.auto.slots, c.deref_mut.ensures.len, ap length c.deref_mut.ensures.value)) in
    rw back (λ i d low. (c.serve_all.ensures.slots i d low).empty)
