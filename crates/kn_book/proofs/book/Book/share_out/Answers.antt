use Rattle.std.proofs.Common.{◌∙◌, ap, sym}
use Rattle.kn_book.specs.declared.book.Holding.{Holding}
use Rattle.kn_book.specs.Book.{Book}
use Rattle.kn_book.specs.State.{BookState}
use Rattle.kn_book.proofs.Giving.{shared-at, shared-nobody}
use Rattle.kn_book.proofs.book.Book.share_out.Goals as goal

pub returns-in_default : goal.returns-in_default
returns-in_default c =
    let n = c.args.self.now.addresses in
    let b = c.args.self.now.holdings in
    let state : Book → BookState = λ l. record { addresses = n; holdings = l } in
    ap state (sym (shared-nobody n b (sym c.first_waiting.ensures ∙ c.in_default.is)))

pub returns : goal.returns
returns c =
    let n = c.self.inside.addresses in
    let b = c.self.inside.holdings.items in
    let state : Book → BookState = λ l. record { addresses = n; holdings = l } in
    let y : Holding = c.index_mut.result.now in
    let free = rw (← c.self.view_is) at (sym c.least_free.ensures ∙ c.in-Some-least_free.is) in
    let first = rw (← c.self.view_is) at (sym c.first_waiting.ensures ∙ c.in-Some.is) in
    rw (← c.self.view_is) (ap state (sym (shared-at n c.in-Some-least_free.address c.in-Some.place b y free first c.index_mut.ensures.value)))
