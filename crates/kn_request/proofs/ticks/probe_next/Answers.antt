use Rattle.std.proofs.Common.{refl, sym, inl, inr, [], Bool, true, false, subst}
use Rattle.std.proofs.lemmas.List.{append-nil}
use Rattle.std.specs.Prelude.{Some, None}
use Rattle.std.proofs.Common.{Ok}
use Rattle.kn_io.specs.declared.traits.Failed.{Failed}
use Rattle.kn_io.specs.Links.{Link, Tells, probed}
use Rattle.kn_request.specs.Ticking.{IsAt}
use Rattle.kn_request.proofs.Lists.{none}
use Rattle.kn_request.proofs.TickFacts.{none_found, one_probe, ready_rows}
use Rattle.kn_request.proofs.ticks.probe_next.Goals as goal

pub returns-in-Err-clause-next : goal.returns-in-Err-clause-next
returns-in-Err-clause-next g c =
    let p = c.args.pass.now in
    let a = c.next_to_probe.new.pass in (
      c.in-Some.ensures.most,
      one_probe c.args.now c.args.from c.in-Some.pod c.in-Some.address None p a a (g.L.PodLink.told c.args.keeper.now) (g.L.PodLink.told c.probe-answer.new.self) false [] c.next_to_probe.ensures.looks c.next_to_probe.ensures.mine (inl refl)
          c.in-Some.ensures.probe c.in-Some.ensures.from c.in-Err.ensures.recorded (sym (append-nil a.mine)) (none (IsAt c.args.now a)) refl (λ e. cc),
    )

pub returns-in-false-clause-next : goal.returns-in-false-clause-next
returns-in-false-clause-next g c =
    let p = c.args.pass.now in
    let a = c.next_to_probe.new.pass in
    let wire = g.L.PodLink.told c.args.keeper.now in
    let wire' = g.L.PodLink.told c.probe-answer.new.self in
    let told = subst (λ (b : Bool). Tells wire wire' (λ (link : Link). probed {E = Failed} link c.in-Some.address (Ok b))) c.in-false.is c.in-Ok.ensures.recorded in (
      c.in-Some.ensures.most,
      one_probe c.args.now c.args.from c.in-Some.pod c.in-Some.address (Some false) p a a wire wire' false [] c.next_to_probe.ensures.looks c.next_to_probe.ensures.mine (inl refl)
          c.in-Some.ensures.probe c.in-Some.ensures.from told (sym (append-nil a.mine)) (none (IsAt c.args.now a)) refl (λ e. cc),
    )

pub returns-in-true-clause-next : goal.returns-in-true-clause-next
returns-in-true-clause-next g c =
    let p = c.args.pass.now in
    let a = c.next_to_probe.new.pass in
    let q = c.act_once-full.new.pass in
    let wire = g.L.PodLink.told c.args.keeper.now in
    let wire' = g.L.PodLink.told c.probe-answer.new.self in
    let told = subst (λ (b : Bool). Tells wire wire' (λ (link : Link). probed {E = Failed} link c.in-Some.address (Ok b))) c.in-true.is c.in-Ok.ensures.recorded in
    let r = ready_rows c.args.now c.in-Some.pod c.act_once-full.result a q c.act_once-full.ensures.once in (
      c.in-Some.ensures.most,
      one_probe c.args.now c.args.from c.in-Some.pod c.in-Some.address (Some true) p a q wire wire' c.act_once-full.result r.rows c.next_to_probe.ensures.looks c.next_to_probe.ensures.mine (inr c.act_once-full.ensures.looks)
          c.in-Some.ensures.probe c.in-Some.ensures.from told r.mine r.at r.ready r.over,
    )

pub returns-in-None-clause-next : goal.returns-in-None-clause-next
returns-in-None-clause-next g c = (c.next_to_probe.ensures.mine, refl, none_found c.args.from c.args.pass.now c.next_to_probe.new.pass c.next_to_probe.ensures.looks c.in-None.ensures.probe)
