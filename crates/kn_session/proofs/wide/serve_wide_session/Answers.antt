use Rattle.std.proofs.Common.{◌+◌, ap, subst, ◌∙◌, arith, length}
use Rattle.std.specs.Prelude.{slice_index_or}
use Rattle.kn_session.specs.Session.{IsOneHistory}
use Rattle.kn_session.specs.Wide.{at_history}
use Rattle.kn_session.specs.WidePasses.{MayCloseAll}
use Rattle.kn_session.proofs.PlaceFacts.{lent}
use Rattle.kn_session.proofs.SeenFacts.{one_history, seen_ticked, ticked_as}
use Rattle.kn_session.proofs.WideCourse.{come_back, course_of, course_seen, open_may, open_ticks, way_closes, way_of}
use Rattle.kn_session.proofs.WideEnds.{course_fine, course_slots, taken_empty}
use Rattle.kn_session.proofs.wide.serve_wide_session.Goals as goal

pub run_all-requires-clause-may : goal.run_all-requires-clause-may
run_all-requires-clause-may g c κs within =
    let o = c.in_ok-opened.opened in
    rw (c.deref.ensures.value, c.deref_mut.ensures.value) (open_may c.args.revisions.items c.args.setting.now.room (length c.args.slots.now) o.cells.items o.firsts.items o.ticks.items c.in_ok-opened.ensures.opened)

pub run_all-requires-clause-ticks : goal.run_all-requires-clause-ticks
run_all-requires-clause-ticks g c κs within =
    let o = c.in_ok-opened.opened in
    rw (c.deref.ensures.value, c.deref_mut-2.ensures.value) (open_ticks c.args.revisions.items c.args.setting.now.room (length c.args.slots.now + 2) o.cells.items o.firsts.items o.ticks.items c.in_ok-opened.ensures.opened)

pub close_cells-requires-clause-may : goal.close_cells-requires-clause-may
close_cells-requires-clause-may g c =
    let o = c.in_ok-opened.opened in
    let x = c.run_all in
    let way =
    way_of c.deref.result.now o.cells.items c.deref_mut.result.now o.firsts.items c.deref_mut-2.result.now o.ticks.items x.new.firsts x.new.ticks c.in_ok-opened.ensures.opened c.deref.ensures.value c.deref_mut.ensures.value
    c.deref_mut-2.ensures.value x.ensures.ran x.ensures.ticks c.requires.count.of_each c.requires.count.least (λ s t e. let a = e.0 in let b = e.1 in cc) in
    let back = come_back c.deref.result.now c.deref_mut.result.now o.firsts.items c.deref_mut-2.result.now x.new.firsts o.firsts.len way.opened c.deref_mut.ensures.len x.ensures.firsts in
    let back' = lent o.ticks.len x.new.ticks o.ticks.items (x.ensures.ticks.passes ∙ c.deref_mut-2.ensures.len) in
    let may = way_closes _ _ _ _ _ _ _ _ _ _ _ _ _ way x.ensures.firsts in
    rw (back, back') (subst (λ l. MayCloseAll l x.new.firsts x.new.ticks) c.deref.ensures.value may)

pub returns-clause-histories : goal.returns-clause-histories
returns-clause-histories g c =
    let o = c.in_ok-opened.opened in
    let x = c.run_all in
    let way =
    way_of c.deref.result.now o.cells.items c.deref_mut.result.now o.firsts.items c.deref_mut-2.result.now o.ticks.items x.new.firsts x.new.ticks c.in_ok-opened.ensures.opened c.deref.ensures.value c.deref_mut.ensures.value
    c.deref_mut-2.ensures.value x.ensures.ran x.ensures.ticks c.requires.count.of_each c.requires.count.least (λ s t e. let a = e.0 in let b = e.1 in cc) in
    let back = come_back c.deref.result.now c.deref_mut.result.now o.firsts.items c.deref_mut-2.result.now x.new.firsts o.firsts.len way.opened c.deref_mut.ensures.len x.ensures.firsts in
    let back' = lent o.ticks.len x.new.ticks o.ticks.items (x.ensures.ticks.passes ∙ c.deref_mut-2.ensures.len) in
    let course = course_of c.close_cells.result.items o.cells.items _ _ c.session_laws.ensures way c.deref.ensures.value back back' c.close_cells.ensures.closed in
    let n = c.requires.count.of_each in
    record {
      many = (let n1 = c.close_cells.ensures.count in let n2 = way.opened.cell_count in let n3 = ap length c.deref.ensures.value in omega arith);
      each = λ v b low.
          let h = at_history c.close_cells.result.items v in
          let seen = course_seen _ _ _ _ _ _ _ _ _ _ _ _ _ _ course v b (omega arith) in
          subst (λ k. IsOneHistory k (slice_index_or c.args.revisions.items v b) h) way.run.ran.0 (one_history _ way.run.mids _ _ _ _ _ _ _ h seen course.laws);
    }

pub returns-clause-slots : goal.returns-clause-slots
returns-clause-slots g c =
    let o = c.in_ok-opened.opened in
    let x = c.run_all in
    let way =
    way_of c.deref.result.now o.cells.items c.deref_mut.result.now o.firsts.items c.deref_mut-2.result.now o.ticks.items x.new.firsts x.new.ticks c.in_ok-opened.ensures.opened c.deref.ensures.value c.deref_mut.ensures.value
    c.deref_mut-2.ensures.value x.ensures.ran x.ensures.ticks c.requires.count.of_each c.requires.count.least (λ s t e. let a = e.0 in let b = e.1 in cc) in
    let back = come_back c.deref.result.now c.deref_mut.result.now o.firsts.items c.deref_mut-2.result.now x.new.firsts o.firsts.len way.opened c.deref_mut.ensures.len x.ensures.firsts in
    let back' = lent o.ticks.len x.new.ticks o.ticks.items (x.ensures.ticks.passes ∙ c.deref_mut-2.ensures.len) in
    let course = course_of c.close_cells.result.items o.cells.items _ _ c.session_laws.ensures way c.deref.ensures.value back back' c.close_cells.ensures.closed in
    (way.run.out.0 ∙ way.run.ran.0, λ i d low. course_slots _ _ _ _ _ _ _ _ _ _ _ _ _ _ course i d low)

pub returns-clause-kept : goal.returns-clause-kept
returns-clause-kept g c =
    let o = c.in_ok-opened.opened in
    let x = c.run_all in
    let way =
    way_of c.deref.result.now o.cells.items c.deref_mut.result.now o.firsts.items c.deref_mut-2.result.now o.ticks.items x.new.firsts x.new.ticks c.in_ok-opened.ensures.opened c.deref.ensures.value c.deref_mut.ensures.value
    c.deref_mut-2.ensures.value x.ensures.ran x.ensures.ticks c.requires.count.of_each c.requires.count.least (λ s t e. let a = e.0 in let b = e.1 in cc) in
    let n5 = way.run.ran.0 in
    let n6 = way.run.out.0 in
    record {
      slots_kept = (
        n6 ∙ n5,
        λ i d low.
            let r = way.run.ran.1 i d low in
            let out = way.run.out.1 i d (omega arith) in
            let links = ap (λ l. length l.items) out.1.1 in
            let linked = r.done.linked in
            let worked = r.done.worked in
            let given = r.given_is.0 in
            let out' = out.0.0 in
            let was = (c.requires.slots i d low).1 in
            let firsts = way.opened.first_count in
            let many = way.count in
            (links ∙ linked, omega arith),
      );
      keepers_kept = x.auto.keepers;
    }

pub returns-clause-keepers : goal.returns-clause-keepers
returns-clause-keepers g c v b inside =
    let o = c.in_ok-opened.opened in
    let x = c.run_all in
    let way =
    way_of c.deref.result.now o.cells.items c.deref_mut.result.now o.firsts.items c.deref_mut-2.result.now o.ticks.items x.new.firsts x.new.ticks c.in_ok-opened.ensures.opened c.deref.ensures.value c.deref_mut.ensures.value
    c.deref_mut-2.ensures.value x.ensures.ran x.ensures.ticks c.requires.count.of_each c.requires.count.least (λ s t e. let a = e.0 in let b = e.1 in cc) in
    let back = come_back c.deref.result.now c.deref_mut.result.now o.firsts.items c.deref_mut-2.result.now x.new.firsts o.firsts.len way.opened c.deref_mut.ensures.len x.ensures.firsts in
    let back' = lent o.ticks.len x.new.ticks o.ticks.items (x.ensures.ticks.passes ∙ c.deref_mut-2.ensures.len) in
    let course = course_of c.close_cells.result.items o.cells.items _ _ c.session_laws.ensures way c.deref.ensures.value back back' c.close_cells.ensures.closed in
    ticked_as course.laws _ _ _ _ _ _ _ _ _ (seen_ticked _ way.run.mids _ _ _ _ _ _ _ (at_history c.close_cells.result.items v) (course_seen _ _ _ _ _ _ _ _ _ _ _ _ _ _ course v b inside) course.laws)

pub returns-clause-fine : goal.returns-clause-fine
returns-clause-fine g c v inside flags =
    let o = c.in_ok-opened.opened in
    let x = c.run_all in
    let way =
    way_of c.deref.result.now o.cells.items c.deref_mut.result.now o.firsts.items c.deref_mut-2.result.now o.ticks.items x.new.firsts x.new.ticks c.in_ok-opened.ensures.opened c.deref.ensures.value c.deref_mut.ensures.value
    c.deref_mut-2.ensures.value x.ensures.ran x.ensures.ticks c.requires.count.of_each c.requires.count.least (λ s t e. let a = e.0 in let b = e.1 in cc) in
    let back = come_back c.deref.result.now c.deref_mut.result.now o.firsts.items c.deref_mut-2.result.now x.new.firsts o.firsts.len way.opened c.deref_mut.ensures.len x.ensures.firsts in
    let back' = lent o.ticks.len x.new.ticks o.ticks.items (x.ensures.ticks.passes ∙ c.deref_mut-2.ensures.len) in
    let course = course_of c.close_cells.result.items o.cells.items _ _ c.session_laws.ensures way c.deref.ensures.value back back' c.close_cells.ensures.closed in
    course_fine _ _ _ _ _ _ _ _ _ _ _ _ _ _ course v inside flags

pub returns-clause-empty : goal.returns-clause-empty
returns-clause-empty g c i d low =
    let o = c.in_ok-opened.opened in
    let x = c.run_all in
    let way =
    way_of c.deref.result.now o.cells.items c.deref_mut.result.now o.firsts.items c.deref_mut-2.result.now o.ticks.items x.new.firsts x.new.ticks c.in_ok-opened.ensures.opened c.deref.ensures.value c.deref_mut.ensures.value
    c.deref_mut-2.ensures.value x.ensures.ran x.ensures.ticks c.requires.count.of_each c.requires.count.least (λ s t e. let a = e.0 in let b = e.1 in cc) in
    let n6 = way.run.out.0 in
    taken_empty (slice_index_or way.run.mids i d).works.items (slice_index_or x.new.slots i d).works.items (way.run.out.1 i d (omega arith)).0
