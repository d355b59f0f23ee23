use Rattle.std.proofs.Common.{◌++◌, ◌∙◌, List, ℕ, ap, sym}
use Rattle.std.proofs.lemmas.Fmt.{decimal_digit}
use Rattle.kn_show_requests.proofs.told.put_number.Goals as goal

pub returns-then-n-lt10-clause-value : goal.returns-then-n-lt10-clause-value
returns-then-n-lt10-clause-value c = c.put.ensures ∙ ap (λ (m : List ℕ). c.args.line.now ++ m) (sym (decimal_digit c.args.n c.if-n-lt10.true))
