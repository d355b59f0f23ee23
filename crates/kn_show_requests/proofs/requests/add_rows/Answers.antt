use Rattle.std.proofs.Common.{◌≡◌, ◌∙◌, ◌++◌, ◌∷◌, [], ◌+◌, ap, arith, append-nil, sym, subst, take, drop}
use Rattle.std.proofs.lemmas.Grind.{common_steps}
use Rattle.std.proofs.lemmas.List.{take_all}
use Rattle.kn_trace.specs.Trace.{Trace}
use Rattle.kn_io.specs.Prefix.{AppendsPrefix}
use Rattle.kn_report.specs.Waiting.{Adds}
use Rattle.kn_lives.specs.Lives.{AreLives, ComeNext, life_at}
use Rattle.kn_show_requests.specs.Requests.{rows_text, told_by}
use Rattle.kn_show_requests.specs.Texts.{line_where}
use Rattle.kn_show_requests.proofs.Rows.{comes_here, rows_around, rows_more, rows_nothing, same_text, trace_more}
use Rattle.kn_show_requests.proofs.requests.add_rows.Goals as goal

pub loop-e-init : goal.loop-e-init
loop-e-init g c = record {
  held = λ s es t next are. subst (Adds (g.O.Sink.held c.args.out.now) (g.O.Sink.held c.args.out.now) c.args.waiting.now c.args.waiting.now) (sym (rows_nothing es t)) c.adding_laws.ensures.laws.nothing;
  lives = λ s es t next are. subst (λ d. AreLives c.args.lives.now es d) (sym (append-nil t)) are;
  later = omega arith;
}

pub loop-e-preserved : goal.loop-e-preserved
loop-e-preserved g c = record {
  held = λ s es t next are.
      let here = c.loop-e.invariant.lives s es t next are in
      let append = c.row_laws.ensures.append in
      let items = c.entries-e-items.result.now in
      let i = c.loop-e.e-index in
      let x = c.e-item.result in
      let comes = comes_here append es t items i x c.loop-e-test.true c.e-item.is s c.args.tag next in
      let text = ap line_where {y = told_by (λ _. c.args.tag) (life_at c.loop-e.lives) x.time x.row} c.told_by.ensures ∙ same_text s es (t ++ take i items) c.loop-e.lives c.args.tag x comes (c.row_laws.ensures.ended s es c.args.tag _ x.row comes) (c.row_laws.ensures.known es _ c.loop-e.lives here) in
      c.adding_laws.ensures.laws.more (c.loop-e.invariant.held s es t next are) c.in-Ok.ensures.ok
      (ap (λ m. rows_text es t (take i items) ++ m) text ∙ sym (rows_more append es t items i x c.loop-e-test.true c.e-item.is));
  lives = λ s es t next are.
      let here = c.loop-e.invariant.lives s es t next are in
      let append = c.row_laws.ensures.append in
      let items = c.entries-e-items.result.now in
      let i = c.loop-e.e-index in
      let x = c.e-item.result in
      let comes = comes_here append es t items i x c.loop-e-test.true c.e-item.is s c.args.tag next in
      subst (λ d. AreLives c.add.new.self es d) (trace_more append es t items i x c.loop-e-test.true c.e-item.is) (c.add.ensures s es _ comes here);
  later = grind (arith, common_steps);
}

pub returns-in-Err-clause-err : goal.returns-in-Err-clause-err
returns-in-Err-clause-err g c s es t next are =
    let append = c.row_laws.ensures.append in
    let items = c.entries-e-items.result.now in
    let same : items ≡ c.args.log.now = c.entries-e-items.ensures in
    let i = c.loop-e.e-index in
    let x = c.e-item.result in
    let nexts : ComeNext s es c.args.tag t items = subst (λ (l : Trace). ComeNext s es c.args.tag t l) (sym same) next in
    let here = c.loop-e.invariant.lives s es t nexts are in
    let comes = comes_here append es t items i x c.loop-e-test.true c.e-item.is s c.args.tag nexts in
    let text = ap line_where {y = told_by (λ _. c.args.tag) (life_at c.loop-e.lives) x.time x.row} c.told_by.ensures ∙ same_text s es (t ++ take i items) c.loop-e.lives c.args.tag x comes (c.row_laws.ensures.ended s es c.args.tag _ x.row comes) (c.row_laws.ensures.known es _ c.loop-e.lives here) in
    let rest = rows_text es ((t ++ take i items) ++ x ∷ []) (drop (i + 1) items) in
    let some = c.adding_laws.ensures.laws.some _ _ rest (c.loop-e.invariant.held s es t nexts are) c.in-Err.ensures.err in
    subst (λ m. AppendsPrefix (g.O.Sink.held c.args.out.now) (g.O.Sink.held c.add_line.new.out) (c.args.waiting.now ++ m))
    (ap (λ m. rows_text es t (take i items) ++ (m ++ rest)) text ∙ sym (rows_around append es t items i x c.loop-e-test.true c.e-item.is) ∙ ap (rows_text es t) same) some

pub returns-clause-ok : goal.returns-clause-ok
returns-clause-ok g c s es t next are =
    let items = c.entries-e-items.result.now in
    let same : items ≡ c.args.log.now = c.entries-e-items.ensures in
    let nexts : ComeNext s es c.args.tag t items = subst (λ (l : Trace). ComeNext s es c.args.tag t l) (sym same) next in
    subst (λ l. Adds (g.O.Sink.held c.args.out.now) (g.O.Sink.held c.loop-e.out) c.args.waiting.now c.loop-e.waiting (rows_text es t l))
    (take_all c.loop-e.e-index items c.loop-e-test.false ∙ same) (c.loop-e.invariant.held s es t nexts are)

pub returns-clause-lives : goal.returns-clause-lives
returns-clause-lives g c s es t next are =
    let items = c.entries-e-items.result.now in
    let same : items ≡ c.args.log.now = c.entries-e-items.ensures in
    let nexts : ComeNext s es c.args.tag t items = subst (λ (l : Trace). ComeNext s es c.args.tag t l) (sym same) next in
    subst (λ l. AreLives c.loop-e.lives es (t ++ l)) (take_all c.loop-e.e-index items c.loop-e-test.false ∙ same) (c.loop-e.invariant.lives s es t nexts are)
