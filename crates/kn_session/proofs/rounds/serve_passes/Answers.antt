use Rattle.std.proofs.Common.{◌≡◌, ◌+◌, ap, arith, subst, ◌∙◌}
use Rattle.std.specs.Prelude.{◌||◌, ⊤}
use Rattle.kn_request.specs.declared.slot.Slot.{Slot}
use Rattle.kn_request.specs.Terms.{watched}
use Rattle.kn_session.specs.Rounds.{AllRounds, OneRound, Sides, is_fault, is_memory, sides}
use Rattle.kn_session.proofs.RoundFacts.{all_below_one_more, cell_later, one_more}
use Rattle.kn_session.proofs.rounds.serve_passes.Goals as goal

pub loop-pass-preserved : goal.loop-pass-preserved
loop-pass-preserved g c =
    let l = c.loop-pass in
    let i = l.invariant in
    let x = c.serve_guest-served in
    let went = c.goes_on in
    let common = c.args.common.now in
    let terms = watched (g.K.Clock.reading common.clock.now) g.P.Watch.leaves in
    let at : Slot g.row.C.Denot g.row.L.Denot → Sides = λ s. sides (g.C.Sink.kept s.caller) (g.C.Sink.held s.caller) (g.C.Faulty.faults s.caller) (g.L.PodLink.told s.link) (g.L.Faulty.faults s.link) in
    let p = c.args.pass.now in
    let met : Slot g.row.C.Denot g.row.L.Denot = record l.slot { caller = went.new.caller } in
    let same : at met ≡ at l.slot = (let a = went.ensures.kept in let b = went.ensures.held in let e = went.ensures.faults in cc) in
    let round : OneRound (λ _. ⊤) terms common.spec.now (c.args.first + l.round) l.pass x.new.pass (at met) (at x.new.slot) x.result = record { later = x.ensures.looks; then = tt; served = x.ensures.serves; causes = x.ensures.causes } in
    let f : c.either-fault.result ≡ (is_fault x.result || l.fault) = c.either-fault.ensures ∙ ap (λ b. b || l.fault) c.is_fault.ensures in
    let m : c.either-memory.result ≡ (is_memory x.result || l.memory) = c.either-memory.ensures ∙ ap (λ b. b || l.memory) c.is_memory.ensures in
    let one = one_more (λ _. ⊤) terms common.spec.now c.args.first l.round x.result p l.pass x.new.pass (at c.args.slot.now) (at l.slot) (at x.new.slot) l.fault l.memory
    i.rounds (subst (λ a. OneRound (λ _. ⊤) terms common.spec.now (c.args.first + l.round) l.pass x.new.pass a (at x.new.slot) x.result) same round) in
    let begins = went.ensures.begins c.loop-pass-test.true in
    let few = went.ensures.few c.loop-pass-test.true in
    record {
      rounds = rw (f, m) one;
      cell = cell_later l.pass x.new.pass x.ensures.looks ∙ i.cell;
      work = x.ensures.work ∙ i.work;
      begun = all_below_one_more (g.P.Pace.begins common.pace.now) l.round i.begun begins;
      few = omega arith;
    }

pub returns-clause-rounds : goal.returns-clause-rounds
returns-clause-rounds g c =
    let l = c.loop-pass in
    let i = l.invariant in
    let went = c.goes_on in
    let common = c.args.common.now in
    let terms = watched (g.K.Clock.reading common.clock.now) g.P.Watch.leaves in
    let at : Slot g.row.C.Denot g.row.L.Denot → Sides = λ s. sides (g.C.Sink.kept s.caller) (g.C.Sink.held s.caller) (g.C.Faulty.faults s.caller) (g.L.PodLink.told s.link) (g.L.Faulty.faults s.link) in
    let left : Slot g.row.C.Denot g.row.L.Denot = record l.slot { caller = c.part.new.self } in
    let same : at l.slot ≡ at left =
    (let a = went.ensures.kept in
    let b = went.ensures.held in
    let e = went.ensures.faults in
    let a' = c.part.ensures.kept in
    let b' = c.part.ensures.held in
    let e' = c.part.ensures.faults in
    cc) in
    (l.round, (i.begun, went.ensures.ends c.loop-pass-test.false), subst (λ s. AllRounds (λ _. ⊤) terms common.spec.now c.args.first l.round c.args.pass.now l.pass (at c.args.slot.now) s l.fault l.memory) same i.rounds)
