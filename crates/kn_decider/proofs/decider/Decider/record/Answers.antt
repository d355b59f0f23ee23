use Rattle.std.proofs.Common.{sym, ◌∙◌}
use Rattle.std.proofs.Math.Logic.{∥∥₁_map}
use Rattle.kn_scaling.specs.Average.{Samples, with_run}
use Rattle.kn_scaling.specs.Worked.{run_of}
use Rattle.kn_window.specs.Stands.{IsWindowOf}
use Rattle.kn_decider.proofs.decider.Decider.record.Goals as goal

pub invariant_of-self : goal.invariant_of-self
invariant_of-self c = record {
  stable = c.record_run.ensures.seconds ∙ c.self.invariant.stable;
  panic_window = c.record_run-then-run.ensures.seconds ∙ c.self.invariant.panic_window;
  end = c.record_run-then-run.ensures.end ∙ sym c.record_run.ensures.end;
  delay = c.self.invariant.delay;
  settings = c.self.invariant.settings;
  seen = ∥∥₁_map c.self.invariant.seen (λ (f : (samples : Samples) × IsWindowOf c.self.inside.stable samples × IsWindowOf c.self.inside.panic_window samples).
      (with_run f.0 (run_of c.in-Some.run'.second c.in-Some.run'.count c.value_of-value.result), c.record_run.ensures.stands f.0 f.1, c.record_run-then-run.ensures.stands f.0 f.2));
}
