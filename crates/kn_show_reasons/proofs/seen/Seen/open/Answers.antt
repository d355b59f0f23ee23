use Rattle.std.proofs.Common.{◌≡◌, ◌∙◌, ◌++◌, ◌∷◌, [], ap, refl, sym, subst, take}
use Rattle.std.proofs.lemmas.List.{take_all, take_more}
use Rattle.kn_event.specs.declared.entry.Entry.{Entry}
use Rattle.kn_trace.specs.Trace.{Trace}
use Rattle.kn_show_reasons.specs.State.{SeesPhase}
use Rattle.kn_show_reasons.proofs.Phases.{sees_more, sees_nothing}
use Rattle.kn_show_reasons.proofs.seen.Seen.open.Goals as goal

pub loop-e-init : goal.loop-e-init
loop-e-init c = record {
  sees = λ none. sees_nothing c.args.self.now none;
  lives = refl;
}

pub loop-e-preserved : goal.loop-e-preserved
loop-e-preserved c = record {
  sees = λ none.
      let items = c.entries-e-items.result.now in
      let i = c.loop-e.e-index in
      let x = c.e-item.result in
      let laws = c.entry_laws.ensures in
      subst (SeesPhase c.note.new.self) (sym (take_more items i x c.loop-e-test.true ∙ ap (λ (y : Entry). take i items ++ y ∷ []) (sym c.e-item.is)))
      (sees_more laws.phase laws.first laws.phase_since (take i items) x c.loop-e.self c.note.new.self c.note.ensures.phase c.note.ensures.since (c.loop-e.invariant.sees none));
  lives = c.note.ensures.lives ∙ c.loop-e.invariant.lives;
}

pub returns-clause-sees : goal.returns-clause-sees
returns-clause-sees c none =
    let items = c.entries-e-items.result.now in
    let same : items ≡ c.args.log.now = c.entries-e-items.ensures in
    subst (λ (l : Trace). SeesPhase c.loop-e.self l) (take_all c.loop-e.e-index items c.loop-e-test.false ∙ same) (c.loop-e.invariant.sees none)
