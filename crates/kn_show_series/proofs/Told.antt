-- After one more event.
use Rattle.std.proofs.Common.{◌≡◌, ◌≤◌, ◌<◌, ◌-◌, ◌^◌, ℕ, List, ◌++◌, refl, ap, sym, ◌∙◌, subst, arith}
use Rattle.std.specs.Prelude.{max, min, sum}
use Rattle.std.proofs.lemmas.List.Sums.{sum_by-append}
use Rattle.kn_event.specs.declared.event.Event.{Event}
use Rattle.kn_trace.specs.Trace.{Trace}
use Rattle.kn_laws.specs.Kinds.{EachAt}
use Rattle.kn_core.specs.State.{RevisionState}
use Rattle.kn_lives.specs.Lives.{AreLives, by_row}
use Rattle.kn_teller.specs.Run.{IsStep, Run, later, trace}
use Rattle.kn_show_series.specs.declared.current.OpenStep.{OpenStep}
use Rattle.kn_show_series.specs.declared.gauges.Gauges.{Gauges}
use Rattle.kn_show_series.specs.Counting.{with_cap}
use Rattle.kn_show_series.specs.Open.{open_text}
use Rattle.kn_show_series.specs.Series.{open_step, step_line}
use Rattle.kn_show_series.specs.State.{CountsEvent, IsSeriesOf, IsStepOf, Precedes, SeriesState}
use Rattle.kn_show_series.specs.Steps.{counts_of, gauges_of, pods_of, rows_in, step_of, wait_of, waits_in}
use Rattle.kn_show_series.proofs.Events.{GoesByParts, now_of-later, past_later, takes_event, waits_in-same}

-- before it
pub precedes : (x : SeriesState) (r : Run) (e : Event) (rev : RevisionState) (log : Trace) → IsSeriesOf x r → IsStep r e rev log → Precedes x.step r e.time x.current
precedes x r e rev log h s = record { past = h.past; order = s.order; kept = h.step }

-- ---- a sum that is not too great is kept whole

min_small : (n m : ℕ) → n ≤ m → min n m ≡ n
min_small n m h = omega arith

with_cap-small : (rows : Trace) (waits : List ℕ) → sum waits < 2 ^ 128 → with_cap (counts_of rows waits) ≡ counts_of rows waits
unfolding counts_of
with_cap-small rows waits h = rw (min_small (sum waits) (2 ^ 128 - 1) (omega arith))

-- ---- the step of the event

pub told : (r : Run) (e : Event) (rev : RevisionState) (log : Trace) (old mid n : SeriesState) (g : Gauges) (y : OpenStep)
    → GoesByParts
    → EachAt e.time log → ((step from k : ℕ) → sum (waits_in step from k (trace (later r e))) < 2 ^ 128)
    → 0 < old.step → IsSeriesOf old r → IsStep r e rev log → IsStepOf old.step r (step_of old.step r.start e.time) mid.current
    → n.step ≡ old.step → n.pods ≡ old.pods → CountsEvent r e log mid n
    → (n.pods ≡ pods_of rev.spec.kind → g ≡ gauges_of rev.spec (trace (later r e)))
    → y ≡ record n.current { gauges = g; held_peak = max n.current.held_peak g.held }
    → IsSeriesOf (record n { current = y }) (later r e)
told r e rev log old mid n g y parts at few pos h s passed step pods counts gauges is =
    let k = step_of old.step r.start e.time in
    let w = rows_in old.step r.start k (trace r) in
    let ws = waits_in old.step r.start k (trace r) in
    let vs = by_row wait_of (trace r) log in
    let all : waits_in old.step r.start k (trace (later r e)) ≡ ws ++ vs =
    ap (waits_in old.step r.start k) s.trace_is ∙ waits_in-same old.step r.start k e.time (trace r) log parts refl at in
    let small : sum (ws ++ vs) < 2 ^ 128 = subst (λ (xs : List ℕ). sum xs < 2 ^ 128) all (few old.step r.start k) in
    let first : sum ws < 2 ^ 128 = (let both = sum_by-append (λ m. m) ws vs in omega arith) in
    let counted : n.current.counts ≡ counts_of (w ++ log) (ws ++ vs) =
    counts.counts w ws (passed.counts ∙ sym (with_cap-small w ws first)) ∙ with_cap-small (w ++ log) (ws ++ vs) small in
    let measured : g ≡ gauges_of r.spec (trace (later r e)) =
    gauges (pods ∙ h.pods ∙ ap (λ z. pods_of z.kind) (sym s.spec)) ∙ ap (λ z. gauges_of z (trace (later r e))) s.spec in
    let kept : IsStepOf old.step (later r e) k y =
    takes_event old.step r e log k mid.current y parts pos h.past s.order s.trace_is at refl passed (ap (λ (z : OpenStep). z.from) is ∙ counts.from)
    (ap (λ (z : OpenStep). z.gauges) is ∙ measured) (ap (λ (z : OpenStep). z.counts) is ∙ counted)
    (ap (λ (z : OpenStep). z.held_peak) is ∙ ap (λ m. max m g.held) counts.peak ∙ ap (λ (z : Gauges). max mid.current.held_peak z.held) (sym (ap (λ (z : OpenStep). z.gauges) is)))
    (ap (λ (z : OpenStep). z.filled) is ∙ counts.filled) (ap (λ (z : OpenStep). z.follows_filled) is ∙ counts.follows) in
    record {
      ranges = h.ranges;
      past = past_later r e log h.past s.order s.trace_is at;
      pods = pods ∙ h.pods;
      lives = subst (AreLives n.lives (later r e).events) (sym s.trace_is) counts.lives;
      step = rw (step, now_of-later r e) kept;
    }

-- ---- its line

pub line_is : (x : SeriesState) (r : Run) → IsSeriesOf x r → open_text x.current ≡ step_line x.step r (open_step x.step r)
unfolding step_line
line_is x r h = let k = h.step in rw (k.from, k.gauges, k.counts, k.peak)
