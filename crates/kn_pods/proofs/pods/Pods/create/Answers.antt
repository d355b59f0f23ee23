use Rattle.std.proofs.Common.{◌≡◌, ◌+◌, ◌++◌, ◌∷◌, [], arith, subst, sym, ap, ◌∙◌, length}
use Rattle.kn_event.specs.declared.entry.Row.TheVariants as row
use Rattle.kn_trace.specs.Trace.{entry}
use Rattle.kn_pods.specs.Pods.{GoesOn, creations}
use Rattle.kn_pods.proofs.Steps.{creations_more, goes_then, length-logged, logged_more, rows_after}
use Rattle.kn_pods.proofs.pods.Pods.create.Goals as goal

pub put-requires : goal.put-requires
put-requires c =
    let h = ap length c.loop.invariant.logged ∙ length-logged c.args.log.now c.args.limit c.args.time c.args.self.now.created c.loop.counter in omega arith

next : (c : goal.After-put) → creations c.args.limit c.args.time c.args.self.now.created (c.loop.counter + 1)
    ≡ creations c.args.limit c.args.time c.args.self.now.created c.loop.counter ++ entry c.args.time (row.Create c.create_next-p.result c.args.limit) ∷ []
next c = creations_more c.args.limit c.args.time c.args.self.now.created c.loop.counter c.create_next-p.result (sym (c.create_next-p.ensures.number ∙ c.loop.invariant.created))

pub loop-preserved : goal.loop-preserved
loop-preserved c = record {
  logged = logged_more c.args.log.now c.loop.log c.put.new.self _ _ _ c.loop.invariant.logged c.put.ensures (next c);
  created = let a = c.create_next-p.ensures.created in let b = c.loop.invariant.created in omega arith;
  standing = let a = c.create_next-p.ensures.standing in let b = c.loop.invariant.standing in omega arith;
  changed = rows_after _ _ (entry c.args.time (row.Create c.create_next-p.result c.args.limit)) c.args.self.now c.loop.self c.create_next-p.new.self (next c) c.loop.invariant.changed (c.create_next-p.ensures.changed c.args.limit);
  goes =
      subst (GoesOn c.args.self.now c.create_next-p.new.self) (sym (next c))
      (goes_then c.args.self.now c.loop.self c.create_next-p.new.self _ _ c.loop.invariant.goes (c.create_next-p.ensures.goes c.args.time c.args.limit));
}
