use Rattle.std.proofs.Common.{◌≡◌, not, ap, ◌==◌, rules}
use Rattle.std.proofs.lemmas.Fn.{filter_same}
use Rattle.kn_book.specs.declared.book.Holding.{Holding}
use Rattle.kn_book.specs.State.{BookState}
use Rattle.kn_book.specs.Book.{Book, without_pod}
use Rattle.kn_book.proofs.book.Book.take_out.Goals as goal

kept : (c : goal.After-retain) → c.retain.new.self.items ≡ without_pod c.args.pod c.self.inside.holdings.items
kept c = filter_same _ (λ (h : Holding). not (c.args.pod == h.pod)) _ (λ x b g called. search rules) _ _ c.retain.ensures.filtered

pub returns : goal.returns
returns c =
    let state : Book → BookState = λ b. record { addresses = c.self.inside.addresses; holdings = b } in
    rw (← c.self.view_is) (ap state (kept c))
