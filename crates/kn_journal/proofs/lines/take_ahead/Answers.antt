-- The bytes up to the LF were taken.
use Rattle.std.proofs.Common.{false, List, ℕ, sym, subst}
use Rattle.std.specs.Io.KnownBytes.{prepend_known}
use Rattle.kn_journal.specs.Reading.{TakesText}
use Rattle.kn_journal.proofs.Texts.{text-ahead}
use Rattle.kn_journal.proofs.lines.take_ahead.Goals as goal

pub returns-clause-text : goal.returns-clause-text
returns-clause-text c _ left =
    let ahead = c.args.input.now.ahead in
    let len = c.in-Some.len in
    subst (λ (x : List ℕ). TakesText false (prepend_known ahead left) (prepend_known x left)) (sym c.skip.ensures.ahead) (text-ahead len ahead left c.in-Some.ensures.lf)
