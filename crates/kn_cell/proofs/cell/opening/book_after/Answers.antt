use Rattle.kn_cell.proofs.Bookkeeping.{first_book}
use Rattle.kn_cell.proofs.cell.opening.book_after.Goals as goal

pub returns : goal.returns
returns c = first_book c.args.addresses c.args.entries.now c.in_ok-book.book c.apply.new.self c.in_ok-book.ensures c.apply.ensures.addresses c.apply.ensures.stands
