-- What was taken out so far was printed.
use Rattle.std.proofs.Common.{◌≡◌, ◌≤◌, [], true}
use Rattle.std.specs.Prelude.{Ok, vec_capacity}
use Rattle.kn_scribe.specs.Printing.{Prints}
use Rattle.kn_scribe.proofs.scribe.Scribe.print_all.Given as goal

abbrev pub invariant-loop : goal.invariant-loop
invariant-loop g l = record {
  prints : Prints l.fn.pass l.pass (g.O.Sink.held l.fn.self.out.now) (g.O.Sink.held l.self.out.now) (g.O.Faulty.faults l.fn.self.out.now) (g.O.Faulty.faults l.self.out.now) l.self.done;
  out : l.self.out.ghost_name ≡ l.fn.self.out.ghost_name;
  further : l.further ≡ true → l.self.done ≡ Ok tt;
  empty : l.self.rows.now.items ≡ [];
  room : l.fn.pass.room ≤ vec_capacity l.self.rows.now;
}
