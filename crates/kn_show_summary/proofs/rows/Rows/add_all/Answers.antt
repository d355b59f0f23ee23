use Rattle.std.proofs.Common.{◌≡◌, ◌++◌, ◌∷◌, [], ◌∙◌, ℕ, suc, take, drop, ap, sym, subst, arith, append-nil, append_assoc}
use Rattle.kn_trace.specs.Events.{trace_of}
use Rattle.kn_trace.specs.Trace.{Trace, arrivals}
use Rattle.kn_lives.specs.Lives.{ComesNext}
use Rattle.kn_show_summary.specs.Rows.{AreRowsOf, CanCount}
use Rattle.kn_show_summary.proofs.Counting.{arrivals_front, one_more, split_at}
use Rattle.kn_show_summary.proofs.rows.Rows.add_all.Goals as goal

pub loop-e-init : goal.loop-e-init
loop-e-init c = record {
  rows = omega arith;
  admitted = omega arith;
  kept = λ s start es e by are. subst (AreRowsOf c.args.self.now s (es ++ e ∷ [])) (sym (append-nil (trace_of s start es))) are;
}

pub loop-e-preserved : goal.loop-e-preserved
loop-e-preserved c = record {
  rows = omega (arith, c.add.ensures.rows, c.loop-e.invariant.rows);
  admitted = omega (arith, c.add.ensures.admitted, c.loop-e.invariant.admitted);
  kept = λ s start es e by are.
      let xs = c.entries-e-items.result.now in
      let i = c.loop-e.e-index in
      let x = c.e-item.result in
      let before : Trace = trace_of s start es ++ take i xs in
      let split = split_at xs i x c.loop-e-test.true c.e-item.is in
      let comes = c.lives_laws.ensures.next s start es e (take i xs) (drop (suc i) xs) x (sym by.rows ∙ split) in
      let more = one_more (trace_of s start es) xs i x c.loop-e-test.true c.e-item.is in
      let whole : (before ++ x ∷ []) ++ drop (suc i) xs ≡ trace_of s start es ++ xs =
      append_assoc before (x ∷ []) (drop (suc i) xs) ∙ append_assoc (trace_of s start es) (take i xs) (x ∷ drop (suc i) xs) ∙ ap (λ (l : Trace). trace_of s start es ++ l) (sym split) in
      let front = arrivals_front (before ++ x ∷ []) (drop (suc i) xs) in
      let can : CanCount s (es ++ e ∷ []) c.args.tag before x = record {
        comes = subst (λ (n : ℕ). ComesNext s (es ++ e ∷ []) n before x.row) (sym by.tagged) comes;
        some = by.some;
        in_time = λ r h. c.begin_laws.ensures.in_time s (trace_of s start es) e by.some (c.fact_laws.ensures.proper.made_trace s start es) (take i xs) (drop (suc i) xs) x r (sym by.rows ∙ split) h;
        few = omega (arith, front, ap arrivals whole, by.few);
      } in
      subst (AreRowsOf c.add.new.self s (es ++ e ∷ [])) more (c.add.ensures.kept s (es ++ e ∷ []) before can (c.loop-e.invariant.kept s start es e by are));
}
