-- One line more.
use Rattle.std.proofs.Common.{◌+◌, drop, arith}
use Rattle.std.proofs.lemmas.Grind.{common_steps}
use Rattle.std.proofs.KnownBytes.{Appends-trans}
use Rattle.kn_journal.specs.Journal.{events_text}
use Rattle.kn_journal.proofs.Pieces.{events-around, events-more, prefix_after}
use Rattle.kn_journal.proofs.write.write_events.Goals as goal

pub loop-e-preserved : goal.loop-e-preserved
loop-e-preserved g c =
    let both = Appends-trans _ _ _ _ _ c.loop-e.invariant.held c.in-Ok.ensures.ok in
    record { held = grind (arith, common_steps, both, events-more); kept = grind (arith, common_steps); later = grind (arith, common_steps) }

pub returns-in-Err-clause-err : goal.returns-in-Err-clause-err
returns-in-Err-clause-err g c =
    let some = prefix_after _ _ _ _ _ (events_text (drop (c.loop-e.e-index + 1) c.args.events.now)) c.loop-e.invariant.held c.in-Err.ensures.err in
    grind (arith, common_steps, some, events-around)
