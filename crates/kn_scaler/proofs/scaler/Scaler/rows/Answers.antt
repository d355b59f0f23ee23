use Rattle.std.proofs.Common.{◌+◌, List, ◌++◌, take, drop, sym, ap, ◌∙◌, subst}
use Rattle.kn_event.specs.declared.entry.Entry.{Entry}
use Rattle.kn_stats.specs.Totals.{TotalsState}
use Rattle.kn_scaler.specs.Stands.{AreNextOfSome, AreNextRows, after_rows}
use Rattle.kn_scaler.proofs.Settlings.{Takes, first_of_some, first_settles, rest_next, rest_of_some, rows_from, rows_up_to}
use Rattle.kn_scaler.proofs.scaler.Scaler.rows.Goals as goal

pub settled-requires-clause-kind : goal.settled-requires-clause-kind
settled-requires-clause-kind c =
    let e = c.e-item.result in
    first_settles c.loop-e.self e (drop (c.loop-e.e-index + 1) c.args.added.now)
    (subst (AreNextOfSome c.loop-e.self) (rows_from c.args.added.now c.loop-e.e-index e c.loop-e-test.true c.e-item.is) c.loop-e.invariant.some)

pub settled-requires-clause-next : goal.settled-requires-clause-next
settled-requires-clause-next c =
    let e = c.e-item.result in
    first_of_some c.loop-e.self e (drop (c.loop-e.e-index + 1) c.args.added.now)
    (subst (AreNextOfSome c.loop-e.self) (rows_from c.args.added.now c.loop-e.e-index e c.loop-e-test.true c.e-item.is) c.loop-e.invariant.some)

pub loop-e-preserved : goal.loop-e-preserved
loop-e-preserved c =
    let e = c.e-item.result in
    let x = c.loop-e.self in
    let y = c.settled.new.self in
    let i = c.loop-e.e-index in
    let all = c.args.added.now in
    let from = rows_from all i e c.loop-e-test.true c.e-item.is in
    let takes : Takes x y e.row = λ s d says next. c.settled.ensures.stands s d next in
    record {
      some = rest_of_some c.order_laws.ensures.row x y e (drop (i + 1) all) takes c.settled.ensures.time (subst (AreNextOfSome x) from c.loop-e.invariant.some);
      next = λ s b next.
          subst (AreNextRows y (drop (i + 1) all) s) (rows_up_to b all i e c.loop-e-test.true c.e-item.is)
          (rest_next c.order_laws.ensures.row s x y (b ++ take i all) e (drop (i + 1) all) takes c.settled.ensures.time
          (subst (λ (es : List Entry). AreNextRows x es s (b ++ take i all)) from (c.loop-e.invariant.next s b next)));
      stats =
          ap (λ (z : TotalsState). after_rows (drop (i + 1) all) z) c.settled.ensures.stats
          ∙ ap (λ (es : List Entry). after_rows es x.stats) (sym from)
          ∙ c.loop-e.invariant.stats;
      time = c.settled.ensures.time ∙ c.loop-e.invariant.time;
      decider = c.settled.ensures.decider ∙ c.loop-e.invariant.decider;
    }
