use Rattle.std.proofs.Common.{◌≡◌, ◌≢◌, ◌+◌, ◌≤◌, length, drop}
use Rattle.kn_trace.specs.Rows.{created_by}
use Rattle.kn_trace.specs.Trace.{each_row}
use Rattle.kn_book.specs.Book.{noted_all}
use Rattle.kn_book.proofs.book.Book.apply.Given as goal

abbrev pub invariant-loop-entry : goal.invariant-loop-entry
invariant-loop-entry l =
    let left = drop l.entry-index l.entries in
    record {
      addresses : l.self.addresses ≡ l.fn.self.addresses;
      some : l.fn.self.addresses ≢ 0;
      noted : noted_all l.fn.self.addresses left l.self.holdings ≡ noted_all l.fn.self.addresses l.entries l.fn.self.holdings;
      room : length l.self.holdings + length (each_row created_by left) ≤ 20500;
    }
