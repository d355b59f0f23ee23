use Rattle.std.proofs.Common.{◌≡◌, ◌++◌, ◌^◌, ap, arith, rules, subst, ◌∙◌}
use Rattle.std.specs.Prelude.{max, min}
use Rattle.kn_event.specs.declared.event.Event.{Event}
use Rattle.kn_trace.specs.Events.{react}
use Rattle.kn_trace.specs.Trace.{Trace}
use Rattle.kn_book.specs.State.{IsBookOf}
use Rattle.kn_core.specs.State.{StandsFor}
use Rattle.kn_figures.specs.Tallies.{IsTallyOf}
use Rattle.kn_cell.specs.Desk.{event_by_clock}
use Rattle.kn_cell.specs.State.{live_in}
use Rattle.kn_cell.proofs.Bookkeeping.{has_next, has_room}
use Rattle.kn_cell.proofs.Rooms.{room_left}
use Rattle.kn_cell.proofs.desk.Desk.apply.Goals as goal

pub keep-requires : goal.keep-requires
keep-requires c =
    let h = room_left c.self.inside.revision c.args.act (live_in c.step_into.new.self) _ c.live-live.ensures.some (c.lacks.ensures.no c.if-lacks.false) c.step_into.ensures.grows in
    omega arith

-- the event that was taken, and its entries
abbrev event_of : (c : goal.After-entries) → Event
event_of c = record { time = c.min-time.result; act = c.args.act }

logged : (c : goal.After-entries) (d : Trace) → StandsFor c.self.inside.revision d → c.entries.result.now ≡ react c.self.inside.revision.spec d (event_of c)
logged c d s = c.entries.ensures ∙ c.step_into.ensures.logged d s

pub apply-requires : goal.apply-requires
apply-requires c = record {
  room = has_room c.self.inside.book c.self.inside.revision (event_of c) c.entries.result.now c.room_laws.ensures.event c.history_laws.ensures.settled c.self.invariant.3 (logged c);
}

pub invariant_of-self : goal.invariant_of-self
invariant_of-self c =
    let h = room_left c.self.inside.revision c.args.act (live_in c.step_into.new.self) _ c.live-live.ensures.some (c.lacks.ensures.no c.if-lacks.false) c.step_into.ensures.grows in
    let len = c.keep.ensures.len in (
      omega (arith, len),
      omega arith,
      omega (arith, len),
      has_next c.self.inside.book c.apply.new.self c.self.inside.revision c.step_into.new.self (record { time = c.min-time.result; act = c.args.act }) c.entries.result.now
          c.self.invariant.3 c.apply.ensures.addresses c.step_into.ensures.spec (λ d s. c.entries.ensures ∙ c.step_into.ensures.logged d s) c.step_into.ensures.stands c.apply.ensures.stands,
    )

pub returns-clause-ok : goal.returns-clause-ok
returns-clause-ok c =
    let h = room_left c.self.inside.revision c.args.act (live_in c.step_into.new.self) _ c.live-live.ensures.some (c.lacks.ensures.no c.if-lacks.false) c.step_into.ensures.grows in
    let len = c.keep.ensures.len in
    let clock = c.self.inside.revision.clock in
    let now : Event = record { time = c.min-time.result; act = c.args.act } in
    let is : now ≡ event_by_clock clock c.args.time c.args.act = ap (λ t. record { time = t; act = c.args.act })
    (c.min-time.ensures ∙ ap (λ t. min t (2 ^ 42)) (c.max.ensures ∙ ap (λ t. max c.args.time t) c.now.ensures.value)) in
    record {
      room = search rules;
      taken = search rules;
      row = search rules;
      fits = omega (arith, len);
      few = omega (arith, len);
      order = search rules;
      bounds = record { time = search rules; act = c.requires.act };
      spec = search rules;
      start = search rules;
      clock = search rules;
      events = search rules;
      answer = search rules;
      stands = search rules;
      need = rw (← c.self.view_is) (λ t s. let n = c.lacks.ensures.no c.if-lacks.false t s in let l = c.live-live.ensures.live t s in omega arith);
      addresses = rw (← c.self.view_is) c.apply.ensures.addresses;
      book = rw (← c.self.view_is) (λ t s h.
          subst (λ e. IsBookOf c.apply.new.self (t ++ react c.self.inside.revision.spec t e)) is
          (subst (λ es. IsBookOf c.apply.new.self (t ++ es)) (c.entries.ensures ∙ c.step_into.ensures.logged t s) (c.apply.ensures.stands t h)));
      tally = rw (← c.self.view_is) (λ t counted s h.
          subst (λ e. IsTallyOf c.apply-2.new.self (counted ++ react c.self.inside.revision.spec t e)) is
          (subst (λ es. IsTallyOf c.apply-2.new.self (counted ++ es)) (c.entries-2.ensures ∙ c.step_into.ensures.logged t s) (c.apply-2.ensures counted h)));
    }
