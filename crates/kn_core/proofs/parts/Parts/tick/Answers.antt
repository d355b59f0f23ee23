use Rattle.std.proofs.Common.{◌∙◌, ◌++◌, ◌∷◌, [], reverse, refl, sym, ap, subst, arith, length, length-append, Option}
use Rattle.std.proofs.lemmas.List.{length-reverse}
use Rattle.std.proofs.Math.Bridge.{le_prop}
use Rattle.std.proofs.Math.Logic.{∥∥₁_elim, ∥∥₁_map}
use Rattle.kn_event.specs.declared.entry.Row.TheVariants as row
use Rattle.kn_trace.specs.Scale.{drain_order}
use Rattle.kn_trace.specs.Trace.{entry, ready_pods, starting_pods}
use Rattle.kn_scaling.specs.Decide.{Ruling}
use Rattle.kn_scaler.specs.Rows.{tick_rulings}
use Rattle.kn_core.specs.State.{IsScalerOf, PartsState}
use Rattle.kn_core.proofs.Ruling.{decides_first, decides_logged, decides_mid, decides_stands, decides_want, no_data, parts_ruled, tick_decides}
use Rattle.kn_core.proofs.parts.Parts.tick.Goals as goal

pub tick-requires-clause-ready : goal.tick-requires-clause-ready
unfolding drain_order
tick-requires-clause-ready c =
    rw c.count_ready-ready.ensures.value
    (∥∥₁_elim (rw (← c.self.view_is) at c.requires.some) le_prop
    (λ h.
    let few = c.size_laws.ensures.standing c.self.inside.throttle.spec h.0 (rw (← c.self.view_is) at c.requires.ranges) h.1.made in
    let all = length-append (reverse (starting_pods h.0)) (reverse (ready_pods h.0)) in
    let same = ap length h.1.pods.ready in
    omega (arith, few, all, same, length-reverse (ready_pods h.0))))

pub rule-requires-clause-some : goal.rule-requires-clause-some
rule-requires-clause-some c =
    ∥∥₁_map (rw (← c.self.view_is) at c.requires.some)
    (λ some.
    let s = c.self.inside.throttle.spec in
    let d = some.0 in
    let h = some.1 in
    let proper = some.2 in
    let t = c.args.time in
    let x : PartsState = record { throttle = c.self.inside.throttle; pods = c.self.inside.pods; scaler = c.self.inside.scaler } in
    let mid : PartsState = record { throttle = c.self.inside.throttle; pods = c.self.inside.pods; scaler = c.tick.new.scaler } in
    let ruled = c.in-Some-Some.ruled in
    let ready = sym (c.count_ready-ready.ensures.trace d h.pods) in
    let e = sym c.in-Some-Some.field-0-is ∙ c.in-Some-Some.ensures.some.ruled s d ready h.scaler in
    let dec = tick_decides c.row_laws-2.ensures.split s d t ruled (c.in-Some-Some.ensures.some.kind s d h.scaler) e in
    let k = decides_mid c.row_laws.ensures.made c.row_laws.ensures.stands c.walk_laws.ensures.rows s d t ruled _ _ dec x mid proper refl refl (c.in-Some-Some.ensures.some.stands s d ready h.scaler) h in
    (_, rw (← c.self.view_is) at c.requires.ranges, k))

pub rule-requires-clause-want : goal.rule-requires-clause-want
rule-requires-clause-want c =
    ∥∥₁_elim (rw (← c.self.view_is) at c.requires.some) le_prop
    (λ some.
    let s = c.self.inside.throttle.spec in
    let d = some.0 in
    let h = some.1 in
    let proper = some.2 in
    let t = c.args.time in
    let x : PartsState = record { throttle = c.self.inside.throttle; pods = c.self.inside.pods; scaler = c.self.inside.scaler } in
    let mid : PartsState = record { throttle = c.self.inside.throttle; pods = c.self.inside.pods; scaler = c.tick.new.scaler } in
    let ruled = c.in-Some-Some.ruled in
    let ready = sym (c.count_ready-ready.ensures.trace d h.pods) in
    let e = sym c.in-Some-Some.field-0-is ∙ c.in-Some-Some.ensures.some.ruled s d ready h.scaler in
    let dec = tick_decides c.row_laws-2.ensures.split s d t ruled (c.in-Some-Some.ensures.some.kind s d h.scaler) e in
    decides_want c.row_laws.ensures.made c.row_laws.ensures.stands c.walk_laws.ensures.rows s d t ruled _ _ dec x mid (rw (← c.self.view_is) at c.requires.ranges) proper)

pub returns-in-Some-Some-clause-adds : goal.returns-in-Some-Some-clause-adds
returns-in-Some-Some-clause-adds c = rw (← c.self.view_is) (record {
  logged = λ s d h proper.
      let t = c.args.time in
      let x : PartsState = record { throttle = c.self.inside.throttle; pods = c.self.inside.pods; scaler = c.self.inside.scaler } in
      let mid : PartsState = record { throttle = c.self.inside.throttle; pods = c.self.inside.pods; scaler = c.tick.new.scaler } in
      let ruled = c.in-Some-Some.ruled in
      let ready = sym (c.count_ready-ready.ensures.trace d h.pods) in
      let e = sym c.in-Some-Some.field-0-is ∙ c.in-Some-Some.ensures.some.ruled s d ready h.scaler in
      let dec = tick_decides c.row_laws-2.ensures.split s d t ruled (c.in-Some-Some.ensures.some.kind s d h.scaler) e in
      let k = decides_mid c.row_laws.ensures.made c.row_laws.ensures.stands c.walk_laws.ensures.rows s d t ruled _ _ dec x mid proper refl refl (c.in-Some-Some.ensures.some.stands s d ready h.scaler) h in
      decides_logged c.row_laws.ensures.made c.row_laws.ensures.stands c.walk_laws.ensures.rows s d t ruled _ _ dec x mid c.args.log.now c.rule.new.log h k refl (c.rule.ensures.adds.logged s _ k tt);
  stands = λ s d h proper.
      let t = c.args.time in
      let x : PartsState = record { throttle = c.self.inside.throttle; pods = c.self.inside.pods; scaler = c.self.inside.scaler } in
      let mid : PartsState = record { throttle = c.self.inside.throttle; pods = c.self.inside.pods; scaler = c.tick.new.scaler } in
      let ruled = c.in-Some-Some.ruled in
      let ready = sym (c.count_ready-ready.ensures.trace d h.pods) in
      let e = sym c.in-Some-Some.field-0-is ∙ c.in-Some-Some.ensures.some.ruled s d ready h.scaler in
      let dec = tick_decides c.row_laws-2.ensures.split s d t ruled (c.in-Some-Some.ensures.some.kind s d h.scaler) e in
      let k = decides_mid c.row_laws.ensures.made c.row_laws.ensures.stands c.walk_laws.ensures.rows s d t ruled _ _ dec x mid proper refl refl (c.in-Some-Some.ensures.some.stands s d ready h.scaler) h in
      decides_stands c.row_laws.ensures.made c.row_laws.ensures.stands c.walk_laws.ensures.rows s d t ruled _ _ dec x mid c.rule.new.self h k refl (c.rule.ensures.adds.stands s _ k tt);
})

pub returns-in-Some-Some-clause-row : goal.returns-in-Some-Some-clause-row
returns-in-Some-Some-clause-row c = rw (← c.self.view_is) (λ s d h.
    let t = c.args.time in
    let x : PartsState = record { throttle = c.self.inside.throttle; pods = c.self.inside.pods; scaler = c.self.inside.scaler } in
    let mid : PartsState = record { throttle = c.self.inside.throttle; pods = c.self.inside.pods; scaler = c.tick.new.scaler } in
    let ruled = c.in-Some-Some.ruled in
    let ready = sym (c.count_ready-ready.ensures.trace d h.pods) in
    let e = sym c.in-Some-Some.field-0-is ∙ c.in-Some-Some.ensures.some.ruled s d ready h.scaler in
    let dec = tick_decides c.row_laws-2.ensures.split s d t ruled (c.in-Some-Some.ensures.some.kind s d h.scaler) e in
    sym (decides_first c.row_laws.ensures.made c.row_laws.ensures.stands c.walk_laws.ensures.rows s d t ruled _ _ dec x mid))

pub returns-in-Some-None-clause-adds : goal.returns-in-Some-None-clause-adds
returns-in-Some-None-clause-adds c = rw (← c.self.view_is) (record {
  logged = λ s d h proper.
      let t = c.args.time in
      let ready = sym (c.count_ready-ready.ensures.trace d h.pods) in
      let nd = no_data s d t (c.in-Some-None.ensures.some.kind s d h.scaler) (sym c.in-Some-None.field-0-is ∙ c.in-Some-None.ensures.some.ruled s d ready h.scaler) in
      rw nd.1 c.put.ensures;
  stands = λ s d h proper.
      let t = c.args.time in
      let ready = sym (c.count_ready-ready.ensures.trace d h.pods) in
      let nd = no_data s d t (c.in-Some-None.ensures.some.kind s d h.scaler) (sym c.in-Some-None.field-0-is ∙ c.in-Some-None.ensures.some.ruled s d ready h.scaler) in
      let x : PartsState = record { throttle = c.self.inside.throttle; pods = c.self.inside.pods; scaler = c.self.inside.scaler } in
      let mid : PartsState = record { throttle = c.self.inside.throttle; pods = c.self.inside.pods; scaler = c.tick.new.scaler } in
      let scaler = subst (λ (o : Option Ruling). IsScalerOf s c.tick.new.scaler (d ++ tick_rulings t d o)) nd.0 (c.in-Some-None.ensures.some.stands s d ready h.scaler) in
      rw nd.1 (parts_ruled c.row_laws.ensures.made c.row_laws.ensures.stands c.walk_laws.ensures.rows s d (entry t row.NoData ∷ []) x mid (refl, tt) (tt, tt) refl refl scaler h);
})

pub returns-in-Some-None-clause-row : goal.returns-in-Some-None-clause-row
returns-in-Some-None-clause-row c = rw (← c.self.view_is) (λ s d h.
    let t = c.args.time in
    let ready = sym (c.count_ready-ready.ensures.trace d h.pods) in
    let nd = no_data s d t (c.in-Some-None.ensures.some.kind s d h.scaler) (sym c.in-Some-None.field-0-is ∙ c.in-Some-None.ensures.some.ruled s d ready h.scaler) in
    rw nd.1 refl)

pub rule-requires-clause-can : goal.rule-requires-clause-can
rule-requires-clause-can c =
    let can = rw (← c.self.view_is) at c.requires.can in
    record { limit = can.limit; draining = can.draining; created = can.created; measured = c.tick.ensures.measured }

pub returns-in-Some-Some-clause-scales : goal.returns-in-Some-Some-clause-scales
returns-in-Some-Some-clause-scales c = rw (← c.self.view_is) (record { nobody = c.rule.ensures.scales.nobody; created = c.rule.ensures.scales.created; most = c.rule.ensures.scales.most })
