use Rattle.std.proofs.Common.{◌≡◌, ◌∙◌, ◌+◌, ◌++◌, ℕ, [], ap, ap₂, sym, subst, arith}
use Rattle.std.specs.Io.KnownBytes.{Appends}
use Rattle.kn_event.specs.declared.revision.Spec.{Spec}
use Rattle.kn_io.specs.Prefix.{AppendsPrefix}
use Rattle.kn_trace.specs.Events.{opening, react}
use Rattle.kn_trace.specs.Report.{last_line, totals}
use Rattle.kn_trace.specs.Trace.{Trace}
use Rattle.kn_core.specs.State.{StandsFor}
use Rattle.kn_generate.specs.Generated.{generated_event}
use Rattle.kn_replay.proofs.Generating.{generated_trace, last_is, trace_begins, trace_next}
use Rattle.kn_replay.proofs.generate.generate.Goals as goal

pub loop-init : goal.loop-init
loop-init g c =
    let begins = ap (λ (s : Spec). opening s 0) c.in-Ok.ensures ∙ trace_begins c.args.seed in
    record {
      stands = subst (StandsFor c.in-Ok-new-2.revision) begins c.in-Ok-new-2.ensures.stands;
      counts = c.add_all.ensures.totals [] c.new-tally.ensures.totals ∙ ap totals (c.in-Ok-new-2.ensures.logged ∙ begins);
      spec = c.in-Ok-new-2.ensures.spec ∙ c.in-Ok.ensures;
      clock = c.in-Ok-new-2.ensures.clock ∙ sym c.new-events.ensures.time;
      taken = c.in-Ok-new-2.ensures.events;
      rows = omega (arith, c.add_all.ensures.rows, c.add_all.ensures.few, c.new-tally.ensures.rows);
      source = c.new-events.ensures.seed;
      made = c.new-events.ensures.made;
      soon = omega (arith, c.new-events.ensures.time);
    }

pub next-requires : goal.next-requires
next-requires g c = omega (arith, c.loop.invariant.made, c.loop-test.true, c.requires)

pub take-requires-clause-order : goal.take-requires-clause-order
take-requires-clause-order g c = omega (arith, c.loop.invariant.clock, c.next.ensures.order)

pub take-requires-clause-times : goal.take-requires-clause-times
take-requires-clause-times g c =
    omega (arith, c.next.ensures.soon, c.next.ensures.made, c.loop.invariant.made, c.loop-test.true, c.requires)

pub take-requires-clause-count : goal.take-requires-clause-count
take-requires-clause-count g c = omega (arith, c.loop.invariant.taken, c.loop-test.true, c.requires)

pub add_all-requires-in-loop : goal.add_all-requires-in-loop
add_all-requires-in-loop g c = omega (arith, c.loop.invariant.rows, c.loop-test.true, c.requires)

pub loop-preserved : goal.loop-preserved
loop-preserved g c =
    let kept = c.loop.invariant in
    let so_far = generated_trace c.args.seed c.loop.counter in
    let event = c.next.ensures.event ∙ ap₂ generated_event kept.source kept.made in
    let more = ap (λ (s : Spec). so_far ++ react s so_far c.next.result) kept.spec ∙ trace_next c.args.seed c.loop.counter c.next.result event in
    record {
      stands = subst (StandsFor c.take.new.self) more (c.take.ensures.stands so_far kept.stands);
      counts = c.add_all-in-loop.ensures.totals so_far kept.counts ∙ ap (λ (t : Trace). totals (so_far ++ t)) (c.take.ensures.logged so_far kept.stands) ∙ ap totals more;
      spec = c.take.ensures.spec ∙ kept.spec;
      clock = c.take.ensures.clock ∙ sym c.next.ensures.time;
      taken = c.take.ensures.events ∙ ap (λ (n : ℕ). n + 1) kept.taken;
      rows = omega (arith, c.add_all-in-loop.ensures.rows, c.add_all-in-loop.ensures.few, kept.rows);
      source = c.next.ensures.seed ∙ kept.source;
      made = c.next.ensures.made ∙ ap (λ (n : ℕ). n + 1) kept.made;
      soon = omega (arith, c.next.ensures.soon, c.next.ensures.time, c.next.ensures.made, kept.made);
    }

pub returns-in-Ok-put_all-clause-generates : goal.returns-in-Ok-put_all-clause-generates
returns-in-Ok-put_all-clause-generates g c =
    let all : c.loop.counter ≡ c.args.count = omega (arith, c.loop-test.false, c.loop.auto.counter-end) in
    let text = c.bytes.ensures ∙ c.last_line.ensures ∙ ap (λ t. last_line 1 c.args.count t) (c.loop.invariant.counts ∙ ap (λ (n : ℕ). totals (generated_trace c.args.seed n)) all) ∙ last_is c.args.seed c.args.count in
    subst (Appends (g.O.Sink.held c.args.out.now) (g.O.Sink.held c.put_all.new.out)) text c.in-Ok-put_all.ensures.ok

pub returns-clause-generates : goal.returns-clause-generates
returns-clause-generates g c =
    let all : c.loop.counter ≡ c.args.count = omega (arith, c.loop-test.false, c.loop.auto.counter-end) in
    let text = c.bytes.ensures ∙ c.last_line.ensures ∙ ap (λ t. last_line 1 c.args.count t) (c.loop.invariant.counts ∙ ap (λ (n : ℕ). totals (generated_trace c.args.seed n)) all) ∙ last_is c.args.seed c.args.count in
    subst (AppendsPrefix (g.O.Sink.held c.args.out.now) (g.O.Sink.held c.put_all.new.out)) text c.in-Err-put_all.ensures.err
