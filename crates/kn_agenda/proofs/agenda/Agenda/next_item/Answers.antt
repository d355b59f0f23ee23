use Rattle.std.proofs.Common.{sym, refl, subst}
use Rattle.std.specs.Prelude.{Option, None, Some}
use Rattle.kn_agenda.specs.declared.item.Item.{Item}
use Rattle.kn_agenda.specs.declared.item.Kind.TheVariants.{Arrives, Finishes, Passes, Readies, Ticks}
use Rattle.kn_agenda.specs.Kinds.{IsFirstBelow}
use Rattle.kn_agenda.proofs.Least.{below_more, below_none, next_from}
use Rattle.kn_agenda.proofs.Readies.{ready_of}
use Rattle.kn_agenda.proofs.agenda.Agenda.next_item.Goals as goal

pub returns-clause-next : goal.returns-clause-next
returns-clause-next c = λ d stands keeps come few low below.
    let w = c.args.w.now in
    let k = c.args.ticks in
    let r = c.args.revision.now in
    let kept = c.finish_item-finish.ensures.keeps w.jobs d stands keeps in
    let first = c.finish_item-finish.ensures.first w d k stands keeps in
    let order = c.history_laws.ensures.times r.spec r.start r.clock r.events d stands.events in
    let ready = ready_of c.fact_laws.ensures r.spec w d r.start r.clock k _ c.finish_item-finish.new.self.finishes c.finish_item-finish.new.self.starting c.ready_item-ready.result (sym c.boot.ensures) stands.parts.made order c.ready_item-ready.ensures.none c.ready_item-ready.ensures.some kept in
    let pass = c.next_pass-pass.ensures d k stands come few low below in
    let arrival = c.next_arrival-arrival.ensures d k stands in
    let tick = c.next_tick-tick.ensures d in
    let b1 = below_more w d k Finishes 0 None c.finish_item-finish.result refl (below_none w d k) first in
    let b2 = below_more w d k Readies 1 c.finish_item-finish.result c.ready_item-ready.result refl b1 ready in
    let b3 = below_more w d k Passes 2 c.sooner_of-first.result c.next_pass-pass.result refl (subst (λ (o : Option Item). IsFirstBelow w d k 2 o) (sym c.sooner_of-first.ensures) b2) pass in
    let b4 = below_more w d k Arrives 3 c.sooner_of-first-2.result c.next_arrival-arrival.result refl (subst (λ (o : Option Item). IsFirstBelow w d k 3 o) (sym c.sooner_of-first-2.ensures) b3) arrival in
    let b5 = below_more w d k Ticks 4 c.sooner_of-first-3.result (Some c.next_tick-tick.result) refl (subst (λ (o : Option Item). IsFirstBelow w d k 4 o) (sym c.sooner_of-first-3.ensures) b4) tick in
    next_from w d k c.sooner.result (subst (λ (o : Option Item). IsFirstBelow w d k 5 o) c.sooner.ensures b5)
