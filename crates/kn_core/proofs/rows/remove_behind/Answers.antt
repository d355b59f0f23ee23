use Rattle.std.proofs.Common.{◌≡◌, ◌∙◌, ◌-◌, sym, ap, arith, List, drop, length, length-drop}
use Rattle.std.proofs.lemmas.List.{take_all}
use Rattle.kn_event.specs.declared.entry.Entry.{Entry}
use Rattle.kn_core.specs.Changes.{after_removals}
use Rattle.kn_core.proofs.Lists.{none_left, none_removed}
use Rattle.kn_core.proofs.rows.remove_behind.Goals as goal

pub returns-then-count_draining-gt0 : goal.returns-then-count_draining-gt0
returns-then-count_draining-gt0 c =
    let log = c.entries.result.now in
    let first = c.args.first in
    rw (← c.entries.ensures) (c.remove_all.ensures ∙ ap (λ (es : List Entry). after_removals es c.args.pods.now) (take_all (length log - first) (drop first log) (omega (arith, length-drop first log))))

pub returns-else-count_draining-gt0 : goal.returns-else-count_draining-gt0
returns-else-count_draining-gt0 c =
    let counted = c.count_draining.ensures in
    let few = c.if-count_draining-gt0.false in
    let none : length c.args.pods.now.draining ≡ 0 = omega (arith, counted, few) in
    sym (none_removed (drop c.args.first c.args.log.now) c.args.pods.now (none_left c.args.pods.now.draining none))
