use Rattle.std.proofs.Common.{◌≡◌, ◌*◌, ℕ, refl, ap, subst, ◌∙◌}
use Rattle.std.specs.Prelude.{⊤}
use Rattle.kn_cell.specs.Shown.{PassView}
use Rattle.kn_request.specs.declared.slot.Slot.{Slot}
use Rattle.kn_request.specs.Terms.{watched}
use Rattle.kn_session.specs.Rounds.{AllRounds, IsPaced, Sides, sides}
use Rattle.kn_session.proofs.rounds.serve_rounds.Goals as goal

pub returns-in-Some : goal.returns-in-Some
returns-in-Some g c p is =
    let x = c.serve_passes-fault in
    let at : Slot g.row.C.Denot g.row.L.Denot → Sides = λ s. sides (g.C.Sink.kept s.caller) (g.C.Sink.held s.caller) (g.C.Faulty.faults s.caller) (g.L.PodLink.told s.link) (g.L.Faulty.faults s.link) in
    let common = c.args.common.now in
    let same : c.in-Some.pass ≡ p = (let a = c.in-Some.ensures.value in let b = c.in-Some.is in let e = is in cc) in
    let Made : PassView → Type 0 = λ v. (n : ℕ) × IsPaced (g.P.Pace.begins common.pace.now) (g.P.Pace.ends common.pace.now) n
    × AllRounds (λ _. ⊤) (watched (g.K.Clock.reading common.clock.now) g.P.Watch.leaves) common.spec.now (c.args.i * common.apart) n v x.new.pass (at c.args.slot.now) (at x.new.slot) x.result.0 x.result.1 in
    (x.new.pass, refl, x.ensures.cell ∙ ap (λ (v : PassView). v.cell) same, subst Made same x.ensures.rounds)
