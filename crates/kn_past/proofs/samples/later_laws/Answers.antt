use Rattle.std.specs.Prelude.{[], ◌∷◌}
use Rattle.kn_past.proofs.Later.{average-later, count-later, load-later, samples-later}
use Rattle.kn_past.proofs.samples.later_laws.Goals as goal

pub returns : goal.returns
returns c = record {
  load = load-later;
  count = count-later;
  sample = samples-later;
  load_entry = λ d e s h. load-later d (e ∷ []) s (h, tt);
  count_entry = λ d e s h. count-later d (e ∷ []) s (h, tt);
  sample_entry = λ m d e s h. samples-later m d (e ∷ []) s (h, tt);
  average = average-later;
}
