-- What a Scaler stands for when time has passed.
use Rattle.std.proofs.Common.{◌≡◌, ℕ, ◌+◌, ◌^◌, ◌<◌, ◌≤◌, Bool, List, refl, sym, ap, ◌∙◌, subst, arith, Some}
use Rattle.std.proofs.Math.Bridge.{le_prop}
use Rattle.std.proofs.Math.Logic.{∥∥₁_elim}
use Rattle.kn_event.specs.declared.revision.Metric.{Metric}
use Rattle.kn_event.specs.declared.revision.Spec.{Spec}
use Rattle.kn_scaling.specs.Average.{second_of}
use Rattle.kn_scaling.specs.Decide.{Past}
use Rattle.kn_trace.specs.Load.{has_ready_pod, samples}
use Rattle.kn_trace.specs.Scale.{past_of}
use Rattle.kn_trace.specs.Trace.{Trace}
use Rattle.kn_record.specs.Made.{IsMade}
use Rattle.kn_stats.specs.declared.closed.Closed.{Closed}
use Rattle.kn_stats.specs.Changes.{TimedChange, arrived_by, load_by}
use Rattle.kn_stats.specs.Closing.{closed_by}
use Rattle.kn_stats.specs.Totals.{IsTotalsOf, TotalsState, passed}
use Rattle.kn_decider.specs.Closing.{CanClose, IsOverAt, below, end_after, with_closed}
use Rattle.kn_decider.specs.Decider.{DeciderState, IsDeciderOf}
use Rattle.kn_changes.specs.Changes.{changes_of}
use Rattle.kn_scaler.specs.Facts.{TraceFacts}
use Rattle.kn_scaler.specs.Stands.{IsUpToNow, ScalerState, IsScalerOfTrace, StandsForSome}
use Rattle.kn_scaler.proofs.Closings.{all_over, can_close, close_prop, closed-samples, ends_by}
use Rattle.kn_scaler.proofs.Pasts.{decider-alike}
use Rattle.kn_scaler.proofs.Times.{times-later}

-- these are the seconds that are over at this time, for each list of changes that is measured
pub record AreOver (x : TotalsState) (to : ℕ) (ready : Bool) (closed : Closed) : Type 0 where
  pub order : x.time ≤ to
  pub seconds : (cs : List TimedChange) → IsTotalsOf x cs → closed ≡ closed_by x.metric cs (second_of x.time) (second_of to) ready
  pub alike : (cs : List TimedChange) (s : ℕ) → IsTotalsOf x cs → second_of x.time < s → load_by cs s ≡ load_by cs (second_of x.time + 1)
  pub quiet : (cs : List TimedChange) (s : ℕ) → IsTotalsOf x cs → second_of x.time < s → arrived_by cs s ≡ 0

-- a Decider took them in
pub record TakesIn (old new : DeciderState) (closed : Closed) : Type 0 where
  pub stands : (past : Past) (until next : ℕ) → until ≤ next → IsOverAt next closed.first → IsOverAt next closed.rest → IsDeciderOf old past until
      → IsDeciderOf new (record past { samples = with_closed old.spec.metric closed (below until past.samples) }) next
  pub kept : new ≡ record old { stable = new.stable; panic_window = new.panic_window }

-- the seconds that are over are those of the trace
closed-of : (s : Spec) (x : ScalerState) (c : Trace) (to : ℕ) (ready : Bool) (closed : Closed) → IsScalerOfTrace s x c → AreOver x.stats to ready closed
    → closed ≡ closed_by s.metric (changes_of c) (second_of x.stats.time) (second_of to) ready
closed-of s x c to ready closed stands over =
    over.seconds (changes_of c) stands.stats
    ∙ ap (λ (m : Metric). closed_by m (changes_of c) (second_of x.stats.time) (second_of to) ready) stands.metric

module _ (facts : TraceFacts) where
  pub may-close : (x : ScalerState) (to : ℕ) (ready : Bool) (closed : Closed) → AreOver x.stats to ready closed → to ≤ 2 ^ 42 → x.decider.stable.end ≤ second_of x.stats.time → StandsForSome x → CanClose x.decider.stable.end closed
  may-close x to ready closed over high low some =
      let P : Closed → Type 0 = CanClose x.decider.stable.end in
      ∥∥₁_elim some (close_prop x.decider.stable.end closed)
      (λ (f : (c : Trace) × IsMade x.decider.spec c × IsScalerOfTrace x.decider.spec x c).
      subst P (sym (closed-of x.decider.spec x f.0 to ready closed f.2 over))
      (can_close facts x.decider.spec f.0 ready x.stats.time to x.decider.stable.end (record { made = f.1; times = f.2.times; order = over.order }) high low))

  pub end-stays : (x : ScalerState) (to : ℕ) (ready : Bool) (closed : Closed) → AreOver x.stats to ready closed → x.decider.stable.end ≤ second_of x.stats.time → StandsForSome x
      → end_after closed.rest (end_after closed.first x.decider.stable.end) ≤ second_of to
  end-stays x to ready closed over low some =
      let P : Closed → Type 0 = λ k. end_after k.rest (end_after k.first x.decider.stable.end) ≤ second_of to in
      ∥∥₁_elim some (λ p q. le_prop p q)
      (λ (f : (c : Trace) × IsMade x.decider.spec c × IsScalerOfTrace x.decider.spec x c).
      subst P (sym (closed-of x.decider.spec x f.0 to ready closed f.2 over)) (ends_by x.decider.spec f.0 ready x.stats.time to x.decider.stable.end over.order low))

  pub advanced-stands : (s : Spec) (x y : ScalerState) (c : Trace) (to : ℕ) (ready : Bool) (closed : Closed) → AreOver x.stats to ready closed → y.stats ≡ passed to x.stats → TakesIn x.decider y.decider closed
      → IsTotalsOf y.stats (changes_of c) → IsMade s c → has_ready_pod c ≡ ready → IsScalerOfTrace s x c → IsScalerOfTrace s y c
  unfolding past_of
  advanced-stands s x y c to ready closed over is takes stats made is_ready stands =
      let eq = closed-of s x c to ready closed stands over in
      let all = all_over s c ready x.stats.time to over.order in
      let first = subst (λ (k : Closed). IsOverAt (second_of to) k.first) (sym eq) all.0 in
      let rest = subst (λ (k : Closed). IsOverAt (second_of to) k.rest) (sym eq) all.1 in
      let whole : second_of x.stats.time ≤ second_of to = let le = over.order in omega (arith, le) in
      let now : y.stats.time ≡ to = ap (λ (z : TotalsState). z.time) is in
      let agree : (n : ℕ) → n < second_of to → with_closed x.decider.spec.metric closed (below (second_of x.stats.time) (samples s.metric c)) n ≡ samples s.metric c n =
      λ n lt.
      ap (λ (z : Spec). with_closed z.metric closed (below (second_of x.stats.time) (samples s.metric c)) n) stands.spec
      ∙ ap (λ (k : Closed). with_closed s.metric k (below (second_of x.stats.time) (samples s.metric c)) n) eq
      ∙ closed-samples facts s c ready x.stats.time to (record { made = made; times = stands.times; order = over.order }) is_ready
      (λ k after. over.alike (changes_of c) k stands.stats after) (λ k after. over.quiet (changes_of c) k stands.stats after) n lt in
      let taken : Past = record (past_of s c) { samples = with_closed x.decider.spec.metric closed (below (second_of x.stats.time) (samples s.metric c)) } in
      record {
        spec = ap (λ (d : DeciderState). d.spec) takes.kept ∙ stands.spec;
        metric = ap (λ (z : TotalsState). z.metric) is ∙ stands.metric;
        times = times-later 0 x.stats.time y.stats.time c stands.times (let le = over.order in omega (arith, le, now));
        stats = stats;
        decider = subst (λ t. IsDeciderOf y.decider (past_of s c) (second_of t)) (sym now)
            (decider-alike facts y.decider taken (past_of s c) (second_of to) agree (record { decisions = refl; standing = refl }) refl
            (takes.stands (past_of s c) (second_of x.stats.time) (second_of to) whole first rest stands.decider));
        phase = stands.phase ∙ ap (λ (d : DeciderState). Some d.zero.standing.phase) (sym takes.kept);
      }

  pub up-to-now : (x : ScalerState) (stats : TotalsState) (d : DeciderState) (to : ℕ) (ready : Bool) (closed : Closed) → AreOver x.stats to ready closed → stats ≡ passed to x.stats
      → d.stable.end ≡ end_after closed.rest (end_after closed.first x.decider.stable.end) → d ≡ record x.decider { stable = d.stable; panic_window = d.panic_window } → IsUpToNow x → StandsForSome x
      → IsUpToNow (record { stats = stats; decider = d })
  up-to-now x stats d to ready closed over is ends kept up some =
      let now : stats.time ≡ to = ap (λ (z : TotalsState). z.time) is in
      let still : d.delay.last ≡ x.decider.delay.last = ap (λ (z : DeciderState). z.delay.last) kept in
      let last : d.delay.last ≤ second_of to = let le = over.order in let old = up.last in omega (arith, le, old, still) in
      let end : d.stable.end ≤ second_of to = subst (λ n. n ≤ second_of to) (sym ends) (end-stays x to ready closed over up.end some) in
      record {
        end = subst (λ t. d.stable.end ≤ second_of t) (sym now) end;
        last = subst (λ t. d.delay.last ≤ second_of t) (sym now) last;
      }
