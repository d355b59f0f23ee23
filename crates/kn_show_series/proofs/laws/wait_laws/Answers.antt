use Rattle.std.proofs.Common.{refl, arith}
use Rattle.std.proofs.Math.Bridge.{le_prop}
use Rattle.std.proofs.Math.Logic.{∥∥₁_elim}
use Rattle.kn_trace.specs.Rows.{begun_by}
use Rattle.kn_show_series.proofs.Bounds.{waits_few}
use Rattle.kn_show_series.proofs.laws.wait_laws.Goals as goal

pub returns : goal.returns
returns c = λ t step from k stands range.
    let x = c.args.revision.now in
    ∥∥₁_elim stands.events le_prop (λ h.
    waits_few step from k x.clock x.events x.spec x.start t c.entry_laws.ensures.entries c.step_laws.ensures.made c.step_laws.ensures.settled (c.step_laws.ensures.opening x.spec x.start) (c.step_laws.ensures.opening_settled x.spec x.start)
    (c.part_laws.ensures.rows.opening_none begun_by (λ p n. refl) (λ x. refl) x.spec x.start) range (c.history_laws.ensures.times x.spec x.start x.clock x.events t stands.events) c.now.ensures.times (omega (arith, c.events.ensures)) h)
