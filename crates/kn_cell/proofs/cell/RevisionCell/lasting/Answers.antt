use Rattle.std.proofs.Common.{◌≡◌, IfOk, subst, true}
use Rattle.kn_cell.specs.Shown.{first_shown}
use Rattle.kn_cell.proofs.Bookkeeping.{first-addresses, opened_for, opened_room}
use Rattle.kn_cell.proofs.cell.RevisionCell.lasting.Goals as goal

pub book_after-requires : goal.book_after-requires
book_after-requires c = opened_room c.args.addresses c.args.revision c.args.entries.now c.room_laws.ensures.opening c.requires.entries

pub opened-requires-clause-book : goal.opened-requires-clause-book
opened-requires-clause-book c = opened_for c.args.addresses c.args.revision c.args.entries.now c.in_ok-book.book c.requires.entries c.in_ok-book.ensures

pub returns : goal.returns
returns c =
    subst (λ n. IfOk c.opened.result (λ r. r.1 ≡ record (first_shown r.0 c.args.revision c.args.room c.args.passes) { lasting = true; scribe = true; book = n }))
    (first-addresses c.args.addresses c.args.entries.now c.in_ok-book.book c.in_ok-book.ensures) c.opened.ensures
