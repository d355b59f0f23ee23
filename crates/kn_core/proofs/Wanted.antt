-- How many pods are wanted, by whether the revision scales.
use Rattle.std.proofs.Common.{◌≡◌, ℕ, None, Some, refl, ap, ◌∙◌, sym}
use Rattle.kn_event.specs.declared.revision.Kind.{Kind}
use Rattle.kn_event.specs.declared.revision.Kind.TheVariants as kind
use Rattle.kn_event.specs.declared.revision.Spec.{Spec}
use Rattle.kn_trace.specs.Scale.{wanted}
use Rattle.kn_trace.specs.Trace.{Trace}
use Rattle.kn_core.specs.Gauges.{wanted_now, wanted_where}
use Rattle.kn_core.specs.State.{IsFixed}

unscaled : (k : Kind) (s : Spec) (c : Trace) → IsFixed k → None ≡ wanted_where k s c
unscaled (kind.Fixed n) s c fixed = refl
unscaled kind.Kpa s c fixed = absurd fixed

pub none_wanted : (s : Spec) (c : Trace) → IsFixed s.kind → None ≡ wanted_now s c
none_wanted s c fixed = unscaled s.kind s c fixed

pub some_wanted : (s : Spec) (c : Trace) (n : ℕ) → s.kind ≡ kind.Kpa → n ≡ wanted s c → Some n ≡ wanted_now s c
some_wanted s c n scaled is = ap Some is ∙ sym (ap (λ k. wanted_where k s c) scaled)
