use Rattle.std.proofs.Common.{◌∙◌, refl, sym, subst, Some}
use Rattle.kn_event.specs.declared.entry.Row.TheVariants as row
use Rattle.kn_event.specs.declared.event.Act.TheVariants as act
use Rattle.kn_trace.specs.Events.{scaler_rows}
use Rattle.kn_core.specs.Firsts.{own_row}
use Rattle.kn_core.specs.State.{ArePartsOf, PartsState}
use Rattle.kn_core.proofs.Adding.{adds_none, adds_same}
use Rattle.kn_core.proofs.After.{ready_same}
use Rattle.kn_core.proofs.Ruling.{admit_any, own_adds, refused_none}
use Rattle.kn_core.proofs.parts.Parts.decide_usual.Goals.{else-is_admission-via-then-is_admission+else-wants_none, else-is_admission-via-else-is_admission}
use Rattle.kn_core.proofs.parts.Parts.decide_usual.Goals as goal

pub wake-requires-clause-some : goal.wake-requires-clause-some
wake-requires-clause-some c =
    let t = c.args.e.now.time in
    let a = c.args.e.now.act in
    let x = own_row c.args.own in
    ready_same (λ s d. scaler_rows s.kind s t d a (Some x)) (λ s d. scaler_rows s.kind s t d (act.Arrive 0) (Some (row.Admit 0 0))) c.args.self.now
    (λ s d. own_adds s.kind s t d a (Some x) x refl c.requires.own ∙ admit_any s.kind s t d (Some x) (sym c.if-is_admission.ensures)) c.requires.some

pub returns-then-wants_none-clause-adds : goal.returns-then-wants_none-clause-adds
returns-then-wants_none-clause-adds c =
    let t = c.args.e.now.time in
    let a = c.args.e.now.act in
    let x = own_row c.args.own in
    adds_same _ _ c.args.self.now _ c.args.log.now _
    (λ s d h. own_adds s.kind s t d a (Some x) x refl c.requires.own ∙ admit_any s.kind s t d (Some x) (sym c.if-is_admission.ensures)) c.wake.ensures.adds

pub returns-else-is_admission-clause-adds : goal.returns-else-is_admission-clause-adds
returns-else-is_admission-clause-adds c =
    let t = c.args.e.now.time in
    let a = c.args.e.now.act in
    let x = own_row c.args.own in
    elim c.else-is_admission.branch [
      | else-is_admission-via-then-is_admission+else-wants_none w ↦
          adds_none _ _ c.args.self.now c.args.log.now
          (λ s d h.
          let k = subst (λ (y : PartsState). ArePartsOf s y d) (sym w.self.view_is) h in
          own_adds s.kind s t d a (Some x) x refl c.requires.own ∙ admit_any s.kind s t d (Some x) (sym w.if-is_admission.ensures) ∙ w.wants_none.ensures w.if-wants_none.false t s d 0 0 0 k.scaler)
      | else-is_admission-via-else-is_admission w ↦
          adds_none _ _ c.args.self.now c.args.log.now
          (λ s d h. own_adds s.kind s t d a (Some x) x refl c.requires.own ∙ refused_none s.kind s t d (Some x) (sym w.if-is_admission.ensures))
    ]
