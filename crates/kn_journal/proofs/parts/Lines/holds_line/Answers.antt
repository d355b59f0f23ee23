-- An LF is ahead where the search finds one.
use Rattle.std.proofs.Common.{◌≡◌, ◌∙◌, ap}
use Rattle.kn_journal.specs.Telling.{LinesState}
use Rattle.kn_journal.proofs.Aheads.{holds_lf}
use Rattle.kn_journal.proofs.parts.Lines.holds_line.Goals as goal

pub returns : goal.returns
returns c =
    let ahead : c.ahead.result.now ≡ c.args.self.now.input.ahead = c.ahead.ensures ∙ ap (λ (r : LinesState). r.input.ahead) c.self.view_is in
    rw c.is_some.ensures (holds_lf c.args.self.now.input.ahead c.memchr.result (rw ahead at c.memchr.ensures))
