-- Each entry that a revision logs has the time of what it logs.
use Rattle.std.proofs.Common.{ℕ, List, [], ◌∷◌, map, refl}
use native.Mathlib.Nat.{ℕ_set}
use Rattle.std.specs.Coded.{×_prop, Unit-prop}
use Rattle.kn_event.specs.declared.entry.Row.TheVariants as row
use Rattle.kn_event.specs.declared.revision.Kind.{Kind}
use Rattle.kn_event.specs.declared.revision.Kind.TheVariants as kind
use Rattle.kn_event.specs.declared.revision.Spec.{Spec}
use Rattle.kn_trace.specs.Events.{opening, opening_of}
use Rattle.kn_trace.specs.Trace.{Trace, entry}
use Rattle.kn_laws.specs.Kinds.{EachAt}

pub each_prop : (t : ℕ) (es : Trace) → IsProp (EachAt t es)
each_prop t [] = Unit-prop
each_prop t (e ∷ es) = ×_prop (ℕ_set e.time t) (each_prop t es)

created_then : (t limit : ℕ) (ps : List ℕ) → EachAt t (map (λ p. entry t (row.Create p limit)) ps)
created_then t limit [] = tt
created_then t limit (p ∷ ps) = (refl, created_then t limit ps)

pub opening_then : (s : Spec) (start : ℕ) → EachAt start (opening s start)
unfolding opening
opening_then s start = by s.kind
  where
    by : (k : Kind) → EachAt start (opening_of k s start)
    by (kind.Fixed n) = created_then start s.cc _
    by kind.Kpa = (refl, created_then start s.cc _)
