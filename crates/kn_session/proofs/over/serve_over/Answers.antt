use Rattle.std.proofs.Common.{◌≡◌, ◌+◌, ◌-◌, ◌*◌, ◌++◌, ap, arith, inr, subst, ◌∙◌, length}
use Rattle.std.specs.Prelude.{slice_index_or}
use Rattle.kn_cell.specs.Lists.{StartsWith}
use Rattle.kn_cell.specs.Shown.{PassView}
use Rattle.kn_request.specs.declared.slot.Slot.{Slot}
use Rattle.kn_request.specs.Terms.{watched}
use Rattle.kn_session.specs.Passes.{Kind, kind_of}
use Rattle.kn_session.specs.Rounds.{IsPaced, Sides, sides}
use Rattle.kn_session.specs.Session.{IsAfter, IsOneHistory}
use Rattle.kn_session.proofs.Nexts.{next_by, next_of}
use Rattle.kn_session.proofs.OverFacts.{Ran, can_close, given_lone, given_of, gives_of, last_seen, opened_blank, opened_first, opened_gave, ran_count, ran_fine, ran_seen, ran_slots}
use Rattle.kn_session.proofs.SeenFacts.{one_history, seen_ticked}
use Rattle.kn_session.proofs.over.serve_over.Goals as goal

pub split-ticks-requires-clause-cell : goal.split-ticks-requires-clause-cell
split-ticks-requires-clause-cell g c = ap (λ (v : PassView). v.cell) c.requires.first

pub split-ticks-requires-clause-free : goal.split-ticks-requires-clause-free
split-ticks-requires-clause-free g c = let e = ap (λ (v : PassView). v.free) c.requires.first in omega arith

pub hand_out-requires-clause-cell : goal.hand_out-requires-clause-cell
hand_out-requires-clause-cell g c =
    let k = kind_of c.args.first in
    let n = 3 + length c.args.slots.now in
    (opened_gave c.args.cell k n (n - 1) 1 c.args.first c.split-ticks.new.pass (opened_first c.args.cell k n c.args.first c.requires.first) c.split-ticks.ensures.same).of

pub hand_out-requires-clause-free : goal.hand_out-requires-clause-free
hand_out-requires-clause-free g c =
    let e = ap (λ (v : PassView). v.free) c.requires.first in
    let f = ap (λ (v : PassView). v.free) c.split-ticks.ensures.same in
    omega arith

pub hand_out-requires-clause-low : goal.hand_out-requires-clause-low
hand_out-requires-clause-low g c =
    let e = ap (λ (v : PassView). v.free) c.requires.first in
    let f = ap (λ (v : PassView). v.free) c.split-ticks.ensures.same in
    let e' = ap (λ (v : PassView). v.passes) c.requires.first in
    let f' = ap (λ (v : PassView). v.passes) c.split-ticks.ensures.same in
    omega arith

pub hand_out-requires-clause-blank : goal.hand_out-requires-clause-blank
hand_out-requires-clause-blank g c =
    let k = kind_of c.args.first in
    let n = 3 + length c.args.slots.now in
    opened_blank c.args.cell k n (n - 1 - 1) c.split-ticks.new.pass (opened_gave c.args.cell k n (n - 1) 1 c.args.first c.split-ticks.new.pass (opened_first c.args.cell k n c.args.first c.requires.first) c.split-ticks.ensures.same)

pub split-pages-requires-clause-cell : goal.split-pages-requires-clause-cell
split-pages-requires-clause-cell g c =
    ap (λ (v : PassView). v.cell) c.hand_out.ensures.pass ∙ (ap (λ (v : PassView). v.cell) c.split-ticks.ensures.same ∙ ap (λ (v : PassView). v.cell) c.requires.first)

pub split-pages-requires-clause-free : goal.split-pages-requires-clause-free
split-pages-requires-clause-free g c =
    let e = ap (λ (v : PassView). v.free) c.requires.first in
    let f = ap (λ (v : PassView). v.free) c.split-ticks.ensures.same in
    let h = ap (λ (v : PassView). v.free) c.hand_out.ensures.pass in
    omega arith

pub serve_beside-requires-clause-passes : goal.serve_beside-requires-clause-passes
serve_beside-requires-clause-passes g c ls within i d low =
    let gives = gives_of c.args.cell (kind_of c.args.first) (length c.args.slots.now) c.args.first c.split-ticks.new.pass c.hand_out.new.pass c.split-pages.new.pass c.split-ticks.result c.split-pages.result
    c.requires.first c.split-ticks.ensures.same c.split-ticks.ensures.new c.hand_out.ensures.pass c.split-pages.ensures.same c.split-pages.ensures.new in
    let given = given_of c.args.cell (kind_of c.args.first) (length c.args.slots.now) c.split-ticks.new.pass c.args.slots.now c.hand_out.new.slots gives.kind gives.passes gives.room c.hand_out.ensures.slots in
    let len = given.0 in
    let x = given.1 i d (omega (arith, low, len)) in
    (x.0.0, x.0.1, x.0.2)

pub serve_beside-requires-clause-ticks : goal.serve_beside-requires-clause-ticks
serve_beside-requires-clause-ticks g c ls within =
    let gives = gives_of c.args.cell (kind_of c.args.first) (length c.args.slots.now) c.args.first c.split-ticks.new.pass c.hand_out.new.pass c.split-pages.new.pass c.split-ticks.result c.split-pages.result
    c.requires.first c.split-ticks.ensures.same c.split-ticks.ensures.new c.hand_out.ensures.pass c.split-pages.ensures.same c.split-pages.ensures.new in
    gives.ticks_of

pub serve_beside-requires-clause-first : goal.serve_beside-requires-clause-first
serve_beside-requires-clause-first g c ls within =
    let gives = gives_of c.args.cell (kind_of c.args.first) (length c.args.slots.now) c.args.first c.split-ticks.new.pass c.hand_out.new.pass c.split-pages.new.pass c.split-ticks.result c.split-pages.result
    c.requires.first c.split-ticks.ensures.same c.split-ticks.ensures.new c.hand_out.ensures.pass c.split-pages.ensures.same c.split-pages.ensures.new in
    (gives.last_of, c.requires.scribe c.split-pages.new.pass gives.first)

pub serve_beside-requires-clause-pages : goal.serve_beside-requires-clause-pages
serve_beside-requires-clause-pages g c ls within =
    let gives = gives_of c.args.cell (kind_of c.args.first) (length c.args.slots.now) c.args.first c.split-ticks.new.pass c.hand_out.new.pass c.split-pages.new.pass c.split-ticks.result c.split-pages.result
    c.requires.first c.split-ticks.ensures.same c.split-ticks.ensures.new c.hand_out.ensures.pass c.split-pages.ensures.same c.split-pages.ensures.new in
    (gives.pages_of, c.requires.page c.split-pages.result gives.page)

pub join-requires-clause-cell : goal.join-requires-clause-cell
join-requires-clause-cell g c =
    let gives = gives_of c.args.cell (kind_of c.args.first) (length c.args.slots.now) c.args.first c.split-ticks.new.pass c.hand_out.new.pass c.split-pages.new.pass c.split-ticks.result c.split-pages.result
    c.requires.first c.split-ticks.ensures.same c.split-ticks.ensures.new c.hand_out.ensures.pass c.split-pages.ensures.same c.split-pages.ensures.new in
    let first = c.serve_beside.ensures.scribe in
    let next = next_by first.later.0 c.split-pages.new.pass c.serve_beside.new.first first.later.1 in
    let pages = c.serve_beside.ensures.page in
    let next' = next_by pages.later.0 c.split-pages.result c.serve_beside.new.pages pages.later.1 in
    next.cell ∙ gives.last_of

pub join-requires-clause-other : goal.join-requires-clause-other
join-requires-clause-other g c =
    let gives = gives_of c.args.cell (kind_of c.args.first) (length c.args.slots.now) c.args.first c.split-ticks.new.pass c.hand_out.new.pass c.split-pages.new.pass c.split-ticks.result c.split-pages.result
    c.requires.first c.split-ticks.ensures.same c.split-ticks.ensures.new c.hand_out.ensures.pass c.split-pages.ensures.same c.split-pages.ensures.new in
    let first = c.serve_beside.ensures.scribe in
    let next = next_by first.later.0 c.split-pages.new.pass c.serve_beside.new.first first.later.1 in
    let pages = c.serve_beside.ensures.page in
    let next' = next_by pages.later.0 c.split-pages.result c.serve_beside.new.pages pages.later.1 in
    next'.cell ∙ gives.pages_of

pub close_session-requires-clause-cell : goal.close_session-requires-clause-cell
close_session-requires-clause-cell g c =
    let gives = gives_of c.args.cell (kind_of c.args.first) (length c.args.slots.now) c.args.first c.split-ticks.new.pass c.hand_out.new.pass c.split-pages.new.pass c.split-ticks.result c.split-pages.result
    c.requires.first c.split-ticks.ensures.same c.split-ticks.ensures.new c.hand_out.ensures.pass c.split-pages.ensures.same c.split-pages.ensures.new in
    let first = c.serve_beside.ensures.scribe in
    let next = next_by first.later.0 c.split-pages.new.pass c.serve_beside.new.first first.later.1 in
    let pages = c.serve_beside.ensures.page in
    let next' = next_by pages.later.0 c.split-pages.result c.serve_beside.new.pages pages.later.1 in
    let close = can_close c.args.cell (kind_of c.args.first) (length c.args.slots.now) c.split-ticks.new.pass c.split-pages.new.pass c.serve_beside.new.first c.join.new.pass c.split-ticks.result c.split-pages.result c.serve_beside.new.pages
    gives next first.mine next' pages.mine c.join.ensures in
    close.of

pub close_session-requires-clause-first : goal.close_session-requires-clause-first
close_session-requires-clause-first g c =
    let gives = gives_of c.args.cell (kind_of c.args.first) (length c.args.slots.now) c.args.first c.split-ticks.new.pass c.hand_out.new.pass c.split-pages.new.pass c.split-ticks.result c.split-pages.result
    c.requires.first c.split-ticks.ensures.same c.split-ticks.ensures.new c.hand_out.ensures.pass c.split-pages.ensures.same c.split-pages.ensures.new in
    let first = c.serve_beside.ensures.scribe in
    let next = next_by first.later.0 c.split-pages.new.pass c.serve_beside.new.first first.later.1 in
    let pages = c.serve_beside.ensures.page in
    let next' = next_by pages.later.0 c.split-pages.result c.serve_beside.new.pages pages.later.1 in
    let close = can_close c.args.cell (kind_of c.args.first) (length c.args.slots.now) c.split-ticks.new.pass c.split-pages.new.pass c.serve_beside.new.first c.join.new.pass c.split-ticks.result c.split-pages.result c.serve_beside.new.pages
    gives next first.mine next' pages.mine c.join.ensures in
    (close.named, close.mine, close.others)

pub close_session-requires-clause-passes : goal.close_session-requires-clause-passes
close_session-requires-clause-passes g c i d low =
    let gives = gives_of c.args.cell (kind_of c.args.first) (length c.args.slots.now) c.args.first c.split-ticks.new.pass c.hand_out.new.pass c.split-pages.new.pass c.split-ticks.result c.split-pages.result
    c.requires.first c.split-ticks.ensures.same c.split-ticks.ensures.new c.hand_out.ensures.pass c.split-pages.ensures.same c.split-pages.ensures.new in
    let given = given_of c.args.cell (kind_of c.args.first) (length c.args.slots.now) c.split-ticks.new.pass c.args.slots.now c.hand_out.new.slots gives.kind gives.passes gives.room c.hand_out.ensures.slots in
    let at : Slot g.row.C.Denot g.row.L.Denot → Sides = λ s. sides (g.C.Sink.kept s.caller) (g.C.Sink.held s.caller) (g.C.Faulty.faults s.caller) (g.L.PodLink.told s.link) (g.L.Faulty.faults s.link) in
    let common = c.args.common.now in
    let terms = watched (g.K.Clock.reading common.clock.now) g.P.Watch.leaves in
    let Paced = IsPaced (g.P.Pace.begins common.pace.now) (g.P.Pace.ends common.pace.now) in
    let len = given.0 in
    let done = c.serve_beside.ensures.slots in
    let len' = done.0 in
    let x = given.1 i d (omega (arith, low, len, len')) in
    given_lone at terms Paced common.spec.now (i * common.apart) (2 + i) (kind_of c.args.first) c.args.cell (slice_index_or c.hand_out.new.slots i d) (slice_index_or c.serve_beside.new.slots i d)
    x.0.0 x.0.1 x.0.2 x.0.3 (done.1 i d (omega (arith, low, len')))

pub close_session-requires-clause-ticks : goal.close_session-requires-clause-ticks
close_session-requires-clause-ticks g c =
    let gives = gives_of c.args.cell (kind_of c.args.first) (length c.args.slots.now) c.args.first c.split-ticks.new.pass c.hand_out.new.pass c.split-pages.new.pass c.split-ticks.result c.split-pages.result
    c.requires.first c.split-ticks.ensures.same c.split-ticks.ensures.new c.hand_out.ensures.pass c.split-pages.ensures.same c.split-pages.ensures.new in
    let t = c.serve_beside.ensures.ticker.turns in
    let next = next_of c.split-ticks.result c.serve_beside.new.ticks (inr t.1.later) in
    record {
      of = next.cell ∙ gives.ticks_of;
      named = next.number ∙ gives.fresh.named;
      free = next.free ∙ gives.fresh.free;
      back = next.back ∙ gives.fresh.back;
      others = next.others ∙ gives.fresh.others;
    }

pub close_session-requires-clause-all : goal.close_session-requires-clause-all
close_session-requires-clause-all g c =
    let gives = gives_of c.args.cell (kind_of c.args.first) (length c.args.slots.now) c.args.first c.split-ticks.new.pass c.hand_out.new.pass c.split-pages.new.pass c.split-ticks.result c.split-pages.result
    c.requires.first c.split-ticks.ensures.same c.split-ticks.ensures.new c.hand_out.ensures.pass c.split-pages.ensures.same c.split-pages.ensures.new in
    let given = given_of c.args.cell (kind_of c.args.first) (length c.args.slots.now) c.split-ticks.new.pass c.args.slots.now c.hand_out.new.slots gives.kind gives.passes gives.room c.hand_out.ensures.slots in
    let first = c.serve_beside.ensures.scribe in
    let next = next_by first.later.0 c.split-pages.new.pass c.serve_beside.new.first first.later.1 in
    let pages = c.serve_beside.ensures.page in
    let next' = next_by pages.later.0 c.split-pages.result c.serve_beside.new.pages pages.later.1 in
    let close = can_close c.args.cell (kind_of c.args.first) (length c.args.slots.now) c.split-ticks.new.pass c.split-pages.new.pass c.serve_beside.new.first c.join.new.pass c.split-ticks.result c.split-pages.result c.serve_beside.new.pages
    gives next first.mine next' pages.mine c.join.ensures in
    let all = close.all in
    let len = given.0 in
    let len' = c.serve_beside.ensures.slots.0 in
    omega arith

pub returns-clause-lasts : goal.returns-clause-lasts
returns-clause-lasts g c =
    let gives = gives_of c.args.cell (kind_of c.args.first) (length c.args.slots.now) c.args.first c.split-ticks.new.pass c.hand_out.new.pass c.split-pages.new.pass c.split-ticks.result c.split-pages.result
    c.requires.first c.split-ticks.ensures.same c.split-ticks.ensures.new c.hand_out.ensures.pass c.split-pages.ensures.same c.split-pages.ensures.new in
    let given = given_of c.args.cell (kind_of c.args.first) (length c.args.slots.now) c.split-ticks.new.pass c.args.slots.now c.hand_out.new.slots gives.kind gives.passes gives.room c.hand_out.ensures.slots in
    let first = c.serve_beside.ensures.scribe in
    let next = next_by first.later.0 c.split-pages.new.pass c.serve_beside.new.first first.later.1 in
    let pages = c.serve_beside.ensures.page in
    let next' = next_by pages.later.0 c.split-pages.result c.serve_beside.new.pages pages.later.1 in
    let close = can_close c.args.cell (kind_of c.args.first) (length c.args.slots.now) c.split-ticks.new.pass c.split-pages.new.pass c.serve_beside.new.first c.join.new.pass c.split-ticks.result c.split-pages.result c.serve_beside.new.pages
    gives next first.mine next' pages.mine c.join.ensures in
    let at : Slot g.row.C.Denot g.row.L.Denot → Sides = λ s. sides (g.C.Sink.kept s.caller) (g.C.Sink.held s.caller) (g.C.Faulty.faults s.caller) (g.L.PodLink.told s.link) (g.L.Faulty.faults s.link) in
    let common = c.args.common.now in
    let terms = watched (g.K.Clock.reading common.clock.now) g.P.Watch.leaves in
    let Paced = IsPaced (g.P.Pace.begins common.pace.now) (g.P.Pace.ends common.pace.now) in
    let k = kind_of c.args.first in
    let reading = g.K.Clock.reading common.clock.now in
    let t = c.serve_beside.ensures.ticker in
    let slots = c.args.slots.now in
    let slots' = c.close_session.new.slots in
    let now = c.close_session.result.0 in
    let rest = c.close_session.result.1 in
    let w = g.L.PodLink.told c.args.keeper.now in
    let w' = g.L.PodLink.told c.serve_beside.new.keeper in
    let n = g.L.Faulty.faults c.args.keeper.now in
    let n' = g.L.Faulty.faults c.serve_beside.new.keeper in
    let z = c.close_session.ensures.closes in
    let x : Ran at terms Paced reading common.spec.now common.apart common.start k w w' n n' slots slots' now rest = record {
      cell = c.args.cell;
      first = c.join.new.pass;
      ticks = c.split-ticks.result;
      ticks' = c.serve_beside.new.ticks;
      mids = c.hand_out.new.slots;
      ends = c.serve_beside.new.slots;
      given = given;
      served = c.serve_beside.ensures.slots;
      emptied = c.close_session.ensures.slots;
      fresh = gives.fresh;
      ticked = record { turns = t.turns; apart = t.apart; never_falls = t.never_falls };
      kind = close.kind;
      closes = z;
      same = λ s t e. (let a = e.caller in let b = e.link in cc);
    } in
    let laws = c.session_laws.ensures in
    let h = z.front ++ rest in
    let seen = ran_seen at terms Paced reading common.spec.now common.apart common.start k w w' n n' slots slots' now rest x in
    let count : length c.serve_beside.new.slots ≡ length slots = ran_count at terms Paced reading common.spec.now common.apart common.start k w w' n n' slots slots' now rest x in
    let f = λ (s : Slot g.row.C.Denot g.row.L.Denot). s.work.pass in
    record {
      front = z.front;
      plain = λ e. z.plain (ap (λ (v : Kind). v.lasting) close.kind ∙ e);
      one = subst (λ m. IsOneHistory m k.opening h) count (one_history f c.serve_beside.new.slots reading k common.start w w' n n' h seen laws);
      after = subst (λ (v : Kind). IsAfter v.opening h now) close.kind z.closed.after;
      served = ran_slots at terms Paced reading common.spec.now common.apart common.start k w w' n n' slots slots' now rest x laws;
      keeper = seen_ticked f c.serve_beside.new.slots reading k common.start w w' n n' h seen laws;
      fine = ran_fine at terms Paced reading common.spec.now common.apart common.start k w w' n n' slots slots' now rest x;
      scribe = record { first = c.split-pages.new.pass; last = c.serve_beside.new.first; fresh = gives.first; did = first.did; seen = subst (StartsWith h) close.seen z.seen };
      taken = λ e. (let s = close.scribe e in z.exact s.scribe ∙ s.exact);
      page = record { first = c.split-pages.result; last = c.serve_beside.new.pages; fresh = gives.page; did = pages.did; seen = last_seen h c.serve_beside.new.first c.join.new.pass c.serve_beside.new.pages c.join.ensures z.others };
    }

pub returns-clause-empty : goal.returns-clause-empty
returns-clause-empty g c i d low =
    let end = c.close_session.ensures.slots in
    let len = end.0 in
    (end.1 i d (omega (arith, low, len))).0
