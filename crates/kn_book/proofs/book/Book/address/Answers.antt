use Rattle.std.proofs.Common.{◌∙◌, Some, None}
use Rattle.kn_book.proofs.States.{address-found, address-zero}
use Rattle.kn_book.proofs.book.Book.address.Goals as goal

pub returns-then-self-eq0-clause-trace : goal.returns-then-self-eq0-clause-trace
returns-then-self-eq0-clause-trace c = λ d stands. address-zero c.args.self.now d c.args.pod stands (rw (← c.self.view_is) c.if-self-eq0.true)

pub returns-in_err-holding-clause-trace : goal.returns-in_err-holding-clause-trace
returns-in_err-holding-clause-trace c = λ d stands.
    c.from_residual.ensures ∙ address-found c.args.self.now d c.args.pod None stands (rw (← c.self.view_is) c.if-self-eq0.false) c.in_err-holding.ensures

pub returns-clause-trace : goal.returns-clause-trace
returns-clause-trace c = λ d stands. address-found c.args.self.now d c.args.pod (Some c.in_ok-holding.holding) stands (rw (← c.self.view_is) c.if-self-eq0.false) c.in_ok-holding.ensures
