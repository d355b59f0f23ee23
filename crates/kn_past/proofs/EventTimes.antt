-- The entries of an event are at its time.
use Rattle.std.proofs.Common.{ℕ, ◌≤◌, [], ◌∷◌, arith}
use Rattle.kn_event.specs.declared.event.Event.{Event}
use Rattle.kn_event.specs.declared.revision.Spec.{Spec}
use Rattle.kn_trace.specs.Events.{react}
use Rattle.kn_trace.specs.Trace.{Trace}
use Rattle.kn_laws.specs.Kinds.{EachAt}
use Rattle.kn_laws.specs.Facts.{PartFacts}
use Rattle.kn_past.specs.Seconds.{AreFrom}

from_at : (t u : ℕ) (es : Trace) → t ≤ u → EachAt u es → AreFrom t es
from_at t u [] le h = tt
from_at t u (e ∷ es) le h = (omega (arith, le, h.0), from_at t u es le h.1)

module _ (parts : PartFacts) where
  open parts use {rows.{react-at}}

  -- so none of them is before a time that is not after it
  pub react_from : (s : Spec) (c : Trace) (e : Event) (t : ℕ) → t ≤ e.time → AreFrom t (react s c e)
  react_from s c e t le = from_at t e.time (react s c e) le (react-at s c e)
