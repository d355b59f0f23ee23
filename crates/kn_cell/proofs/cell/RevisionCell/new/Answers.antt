use Rattle.std.proofs.Common.{◌≡◌, IfOk, subst, false}
use Rattle.kn_cell.specs.Shown.{first_shown}
use Rattle.kn_cell.proofs.Bookkeeping.{none-addresses, none_for}
use Rattle.kn_cell.proofs.cell.RevisionCell.new.Goals as goal

pub opened-requires-clause-book : goal.opened-requires-clause-book
opened-requires-clause-book c = none_for c.none.result c.args.revision c.none.ensures

pub returns : goal.returns
returns c =
    subst (λ n. IfOk c.opened.result (λ r. r.1 ≡ record (first_shown r.0 c.args.revision c.args.room c.args.passes) { lasting = false; scribe = false; book = n }))
    (none-addresses c.none.result c.none.ensures) c.opened.ensures
