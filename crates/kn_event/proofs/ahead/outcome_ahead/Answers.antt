-- The word is the outcome, with an LF from its end on.
use Rattle.std.proofs.Common.{◌∙◌, sym, true, false}
use Rattle.std.specs.Prelude.{codes}
use Rattle.kn_event.proofs.Spots.{begins, outcome}
use Rattle.kn_event.proofs.ahead.outcome_ahead.Goals as goal

pub returns-then-starts_with : goal.returns-then-starts_with
returns-then-starts_with c = outcome c.args.text.now false c.in_ok-end.end (begins c.args.text.now (codes " fail") (sym c.starts_with.ensures.value ∙ c.if-starts_with.true)) c.in_ok-end.ensures

pub returns-then-starts_with-2 : goal.returns-then-starts_with-2
returns-then-starts_with-2 c = outcome c.args.text.now true c.in_ok-end-2.end (begins c.args.text.now (codes " ok") (sym c.starts_with-2.ensures.value ∙ c.if-starts_with-2.true)) c.in_ok-end-2.ensures
