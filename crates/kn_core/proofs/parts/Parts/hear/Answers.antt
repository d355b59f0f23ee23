use Rattle.std.proofs.Common.{◌++◌, ◌∷◌, [], refl, sym, subst, arith, append-nil}
use Rattle.kn_trace.specs.Trace.{entry}
use Rattle.kn_core.specs.State.{IsScalerOf}
use Rattle.kn_core.proofs.Waking.{act_says, none_woken, ready_rows_of, woken_ready}
use Rattle.kn_core.proofs.parts.Parts.hear.Goals as goal

pub row-requires : goal.row-requires
row-requires c = rw (← c.self.view_is) at c.requires.next

pub returns-in-Ready-clause-hears : goal.returns-in-Ready-clause-hears
returns-in-Ready-clause-hears c = rw (c.in-Ready.is) (record {
  logged = λ s d k. rw (woken_ready c.row_laws.ensures.stands s d c.args.time _ k.made k.proper) (c.activate.ensures.hears.logged s d k.scaler);
  scaler = λ s d act pods k.
      subst (IsScalerOf s c.activate.new.self.scaler) (ready_rows_of c.row_laws.ensures.stands s d c.args.time _ k.made k.proper) (c.activate.ensures.hears.scaler s d _ pods k.scaler);
})

pub returns-in_default : goal.returns-in_default
returns-in_default c = rw (← c.self.view_is) (record {
  throttle = refl;
  pods = refl;
  hears = record {
    logged = λ s d k. rw (none_woken c.args.row c.args.time (d ++ entry c.args.time c.args.row ∷ []) c.in_default.not-Ready) (sym (append-nil c.args.log.now));
    scaler = λ s d act pods k.
        rw (none_woken c.args.row c.args.time (d ++ entry c.args.time c.args.row ∷ []) c.in_default.not-Ready, append-nil (d ++ entry c.args.time c.args.row ∷ []))
        (c.row.ensures.stands s d c.args.time (rw (← c.self.view_is) at c.requires.measured) (act_says c.args.row act c.in_default.not-Ready) k);
  };
  measured = c.row.ensures.measured c.args.time (rw (← c.self.view_is) at c.requires.measured);
  most = omega arith;
})
