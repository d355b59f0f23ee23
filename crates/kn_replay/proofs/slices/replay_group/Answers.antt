-- The status, by how the replay ended.
use Rattle.std.proofs.Common.{◌-◌, subst}
use Rattle.kn_activators.specs.declared.error.GroupError.{GroupError}
use Rattle.kn_activators.specs.Replaying.{ReplaysSlices}
use Rattle.kn_replay.proofs.Grouped.{failed, group_input, group_ok}
use Rattle.kn_replay.proofs.slices.replay_group.Goals as goal

pub returns-in-Ok-clause-report : goal.returns-in-Ok-clause-report
returns-in-Ok-clause-report g c = group_ok (g.S.Source.left c.args.input.now) (g.S.Source.left c.replay_slices.new.source) (g.S.Source.given c.replay_slices.new.source - g.S.Source.given c.args.input.now) (g.O.Sink.held c.args.out.now) (g.O.Sink.held c.replay_slices.new.out) c.in-Ok.field-0 c.in-Ok.ensures.report

pub returns-in-Err-Input-clause-report : goal.returns-in-Err-Input-clause-report
returns-in-Err-Input-clause-report g c =
    let known = g.S.Source.left c.args.input.now in
    let left = g.S.Source.left c.replay_slices.new.source in
    let given = g.S.Source.given c.replay_slices.new.source - g.S.Source.given c.args.input.now in
    let old = g.O.Sink.held c.args.out.now in
    let new = g.O.Sink.held c.replay_slices.new.out in
    let told = subst (λ (z : GroupError). ReplaysSlices known left given old new (failed z)) c.in-Err-Input.field-0-is c.in-Err-Input.ensures.report in
    rw c.status_of.ensures.value (group_input known left given old new c.in-Err-Input.e told)
