use Rattle.std.proofs.Common.{[], ap, arith, sym, subst}
use Rattle.kn_show_series.specs.Counting.{size_of}
use Rattle.kn_show_series.specs.State.{CountsEvent, SeriesState}
use Rattle.kn_show_series.proofs.Counted.{count_begin, count_more}
use Rattle.kn_show_series.proofs.series.Series.count.Goals as goal

pub loop-entry-init : goal.loop-entry-init
loop-entry-init c = record {
  counts = λ r are same. subst (CountsEvent r c.args.e.now [] c.args.self.now) (sym c.self.view_is) (count_begin r c.args.e.now c.args.self.now (c.lives_laws.ensures.later r.spec r.start r.events _) are);
  few = omega (arith, ap (λ (x : SeriesState). size_of x.current.counts) c.self.view_is);
  step = ap (λ (x : SeriesState). x.step) c.self.view_is;
  pods = ap (λ (x : SeriesState). x.pods) c.self.view_is;
}

pub loop-entry-preserved : goal.loop-entry-preserved
loop-entry-preserved c = record {
  counts = λ r are same.
      let l = c.loop-entry in
      let now : SeriesState = record { step = l.self-inside.step; pods = l.self-inside.pods; lives = l.self-inside.lives; current = l.self-inside.current } in
      let new : SeriesState = record { step = l.self-inside.step; pods = l.self-inside.pods; lives = c.add-in-loop-entry.new.self; current = c.add.new.self } in
      count_more r c.args.e.now c.entries-entry-items.result.now l.entry-index c.arrival_tag-tag.result c.waited-wait.result c.entry-item.result c.args.self.now now new
      (λ f t xs ys. c.row_laws.ensures.append f t xs ys) (c.lives_laws.ensures.next r.spec r.start r.events c.args.e.now) same (omega arith) c.entry-item.is (l.invariant.counts r are same)
      c.arrival_tag-tag.ensures c.add-in-loop-entry.ensures c.waited-wait.ensures c.add.ensures.step;
  few = omega (arith, c.add.ensures.few, c.loop-entry.invariant.few);
  step = c.loop-entry.invariant.step;
  pods = c.loop-entry.invariant.pods;
}
