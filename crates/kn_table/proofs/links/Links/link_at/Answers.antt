-- A request at a pod comes into that pod's chain.
use Rattle.std.proofs.Common.{◌%◌, subst, arith}
use Rattle.kn_record.specs.declared.admission.Place.{Place}
use Rattle.kn_table.specs.Links.{Comes}
use Rattle.kn_table.proofs.Chains.{comes_none, comes_puts, linked_same}
use Rattle.kn_table.proofs.links.Links.link_at.Goals as goal

pub returns-in-Held : goal.returns-in-Held
returns-in-Held c xs ys linked comes = linked_same c.args.self.now xs ys (comes_none c.args.at xs ys (subst (λ (x : Place). Comes x c.args.at xs ys) c.in-Held.is comes)) linked

pub returns-in-Queued : goal.returns-in-Queued
returns-in-Queued c xs ys linked comes = c.link.ensures xs ys linked (comes_puts (c.in-Queued.p % 1024) c.args.at c.args.place xs ys (rw c.in-Queued.is (grind arith)) comes)

pub returns-in-Running : goal.returns-in-Running
returns-in-Running c xs ys linked comes = c.link-in-Running.ensures xs ys linked (comes_puts (c.in-Running.p % 1024) c.args.at c.args.place xs ys (rw c.in-Running.is (grind arith)) comes)
