use Rattle.std.proofs.Common.{◌≡◌, ◌∙◌, ◌++◌, ◌∷◌, [], ◌+◌, ap, arith, append-nil, refl, sym, subst, take, drop}
use Rattle.std.proofs.lemmas.Grind.{common_steps}
use Rattle.std.proofs.lemmas.List.{take_all}
use Rattle.kn_io.specs.Prefix.{AppendsPrefix}
use Rattle.kn_report.specs.Waiting.{Adds}
use Rattle.kn_trace.specs.Trace.{Trace}
use Rattle.kn_show_reasons.specs.Reasons.{rows_text}
use Rattle.kn_show_reasons.specs.State.{Follows, Knows}
use Rattle.kn_show_reasons.proofs.Rows.{rows_around, rows_more, rows_nothing, same_text, split, trace_more}
use Rattle.kn_show_reasons.proofs.reasons.add_rows.Goals as goal

pub loop-e-init : goal.loop-e-init
loop-e-init g c = record {
  held = λ es t f. subst (Adds (g.O.Sink.held c.args.out.now) (g.O.Sink.held c.args.out.now) c.args.waiting.now c.args.waiting.now) (sym (rows_nothing c.args.spec.now t)) c.adding_laws.ensures.laws.nothing;
  knows = λ es t f. subst (Knows c.args.seen.now es) (sym (append-nil t)) f.knows;
  ready = refl;
  later = omega arith;
}

pub loop-e-preserved : goal.loop-e-preserved
loop-e-preserved g c = record {
  held = λ es t f.
      let s = c.args.spec.now in
      let append = c.row_laws.ensures.append in
      let items = c.entries-e-items.result.now in
      let i = c.loop-e.e-index in
      let x = c.e-item.result in
      let here = c.loop-e.invariant.knows es t f in
      let at = split append s t items i x c.loop-e-test.true c.e-item.is in
      let comes = f.next (take i items) (drop (i + 1) items) x at in
      let known = c.row_laws.ensures.known es (t ++ take i items) c.loop-e.seen.lives here.lives in
      let alive = c.row_laws.ensures.ended s es c.args.tag (t ++ take i items) x.row comes in
      let text = same_text es (t ++ take i items) c.loop-e.seen.lives known s c.loop-e.seen x alive here.sees (λ e. c.loop-e.invariant.ready ∙ f.ready (take i items) (drop (i + 1) items) x at e) in
      c.adding_laws.ensures.laws.more (c.loop-e.invariant.held es t f) c.in-Ok.ensures.ok
      (ap (λ m. rows_text s t (take i items) ++ m) text ∙ sym (rows_more append s t items i x c.loop-e-test.true c.e-item.is));
  knows = λ es t f.
      let s = c.args.spec.now in
      let append = c.row_laws.ensures.append in
      let items = c.entries-e-items.result.now in
      let i = c.loop-e.e-index in
      let x = c.e-item.result in
      let here = c.loop-e.invariant.knows es t f in
      let comes = f.next (take i items) (drop (i + 1) items) x (split append s t items i x c.loop-e-test.true c.e-item.is) in
      subst (Knows c.add.new.self es) (trace_more append s t items i x c.loop-e-test.true c.e-item.is) (c.add.ensures.knows s es (t ++ take i items) comes here);
  ready = c.add.ensures.ready ∙ c.loop-e.invariant.ready;
  later = grind (arith, common_steps);
}

pub returns-in-Err-clause-err : goal.returns-in-Err-clause-err
returns-in-Err-clause-err g c es t follows =
    let s = c.args.spec.now in
    let append = c.row_laws.ensures.append in
    let items = c.entries-e-items.result.now in
    let same : items ≡ c.args.log.now = c.entries-e-items.ensures in
    let f : Follows s es c.args.tag c.args.seen.now t items = subst (λ (l : Trace). Follows s es c.args.tag c.args.seen.now t l) (sym same) follows in
    let i = c.loop-e.e-index in
    let x = c.e-item.result in
    let here = c.loop-e.invariant.knows es t f in
    let at = split append s t items i x c.loop-e-test.true c.e-item.is in
    let comes = f.next (take i items) (drop (i + 1) items) x at in
    let known = c.row_laws.ensures.known es (t ++ take i items) c.loop-e.seen.lives here.lives in
    let alive = c.row_laws.ensures.ended s es c.args.tag (t ++ take i items) x.row comes in
    let text = same_text es (t ++ take i items) c.loop-e.seen.lives known s c.loop-e.seen x alive here.sees (λ e. c.loop-e.invariant.ready ∙ f.ready (take i items) (drop (i + 1) items) x at e) in
    let rest = rows_text s ((t ++ take i items) ++ x ∷ []) (drop (i + 1) items) in
    let some = c.adding_laws.ensures.laws.some _ _ rest (c.loop-e.invariant.held es t f) c.in-Err.ensures.err in
    subst (λ m. AppendsPrefix (g.O.Sink.held c.args.out.now) (g.O.Sink.held c.add_row.new.out) (c.args.waiting.now ++ m))
    (ap (λ m. rows_text s t (take i items) ++ (m ++ rest)) text ∙ sym (rows_around append s t items i x c.loop-e-test.true c.e-item.is) ∙ ap (rows_text s t) same) some

pub returns-clause-ok : goal.returns-clause-ok
returns-clause-ok g c es t follows =
    let s = c.args.spec.now in
    let items = c.entries-e-items.result.now in
    let same : items ≡ c.args.log.now = c.entries-e-items.ensures in
    let f : Follows s es c.args.tag c.args.seen.now t items = subst (λ (l : Trace). Follows s es c.args.tag c.args.seen.now t l) (sym same) follows in
    subst (λ l. Adds (g.O.Sink.held c.args.out.now) (g.O.Sink.held c.loop-e.out) c.args.waiting.now c.loop-e.waiting (rows_text s t l))
    (take_all c.loop-e.e-index items c.loop-e-test.false ∙ same) (c.loop-e.invariant.held es t f)

pub returns-clause-knows : goal.returns-clause-knows
returns-clause-knows g c es t follows =
    let s = c.args.spec.now in
    let items = c.entries-e-items.result.now in
    let same : items ≡ c.args.log.now = c.entries-e-items.ensures in
    let f : Follows s es c.args.tag c.args.seen.now t items = subst (λ (l : Trace). Follows s es c.args.tag c.args.seen.now t l) (sym same) follows in
    subst (λ l. Knows c.loop-e.seen es (t ++ l)) (take_all c.loop-e.e-index items c.loop-e-test.false ∙ same) (c.loop-e.invariant.knows es t f)
