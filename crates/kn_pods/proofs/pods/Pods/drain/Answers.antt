use Rattle.std.proofs.Common.{◌≡◌, ◌+◌, ◌++◌, ◌∷◌, [], arith, subst, sym, ◌∙◌, take, drop}
use Rattle.kn_event.specs.declared.entry.Row.TheVariants as row
use Rattle.kn_trace.specs.Trace.{entry}
use Rattle.kn_pods.specs.Pods.{GoesOn, drain_order_of, drains}
use Rattle.kn_pods.proofs.Steps.{drains_more, goes_then, logged_more, rows_after, take_next}
use Rattle.kn_pods.proofs.pods.Pods.drain.Goals as goal

-- what was drained, and what is left
taken : (c : goal.After-put) → (take (c.loop.counter + 1) (drain_order_of c.args.self.now) ≡ take c.loop.counter (drain_order_of c.args.self.now) ++ c.drain_next-p.result ∷ [])
    × (drain_order_of c.drain_next-p.new.self ≡ drop (c.loop.counter + 1) (drain_order_of c.args.self.now))
taken c = take_next c.loop.counter (drain_order_of c.args.self.now) c.drain_next-p.result (drain_order_of c.drain_next-p.new.self) (sym c.loop.invariant.left ∙ c.drain_next-p.ensures.first)

next : (c : goal.After-put) → drains c.args.time (take (c.loop.counter + 1) (drain_order_of c.args.self.now))
    ≡ drains c.args.time (take c.loop.counter (drain_order_of c.args.self.now)) ++ entry c.args.time (row.Drain c.drain_next-p.result) ∷ []
next c = drains_more c.args.time c.loop.counter (drain_order_of c.args.self.now) c.drain_next-p.result (taken c).0

pub loop-preserved : goal.loop-preserved
loop-preserved c = record {
  logged = logged_more c.args.log.now c.loop.log c.put.new.self _ _ _ c.loop.invariant.logged c.put.ensures (next c);
  left = (taken c).1;
  draining = let a = c.drain_next-p.ensures.draining in let b = c.loop.invariant.draining in omega arith;
  changed = rows_after _ _ (entry c.args.time (row.Drain c.drain_next-p.result)) c.args.self.now c.loop.self c.drain_next-p.new.self (next c) c.loop.invariant.changed c.drain_next-p.ensures.changed;
  goes =
      subst (GoesOn c.args.self.now c.drain_next-p.new.self) (sym (next c))
      (goes_then c.args.self.now c.loop.self c.drain_next-p.new.self _ _ c.loop.invariant.goes (c.drain_next-p.ensures.goes c.args.time));
}
