-- That a trace is lawful and settled has at most one proof, so it may be said of a trace that some events made.
use Rattle.std.proofs.Common.{ℕ, [], ◌∷◌}
use Rattle.std.specs.Prelude.{Option, None, Some}
use denote.Struct.Props.{props}
use Rattle.kn_event.specs.declared.entry.Row.{Row}
use Rattle.kn_event.specs.declared.entry.Row.TheVariants as row
use Rattle.kn_event.specs.declared.revision.Spec.{Spec}
use Rattle.kn_trace.specs.Rows.{outcome_by}
use Rattle.kn_trace.specs.Trace.{Trace, pod_of}
use Rattle.kn_record.specs.Order.{AreTimesInOrder}
use Rattle.kn_trace.specs.Laws.{HasNoOutcome, IsFirstOutcome, IsLawful, IsRunnableAt, IsSettled, IsWithinLimits, RefusesFull, RemovesEmpty}

first-prop : (c : Trace) (x : Row) → IsProp (IsFirstOutcome c x)
first-prop c x = by (outcome_by x)
  where
    by : (o : Option ℕ) → IsProp (HasNoOutcome c o)
    by None = hlevel props
    by (Some r) = hlevel props

run-prop : (c : Trace) (r : ℕ) → IsProp (IsRunnableAt c r (pod_of c r))
run-prop c r = by (pod_of c r)
  where
    by : (o : Option ℕ) → IsProp (IsRunnableAt c r o)
    by None = hlevel props
    by (Some p) = hlevel props

within-prop : (s : Spec) (c : Trace) (x : Row) → IsProp (IsWithinLimits s c x)
within-prop s c (row.Assign r p) = hlevel props
within-prop s c (row.Run r) = run-prop c r
within-prop s c (row.Direct r p) = hlevel props
within-prop s c _ = hlevel props

removes-prop : (c : Trace) (x : Row) → IsProp (RemovesEmpty c x)
removes-prop c (row.Remove p) = hlevel props
removes-prop c (row.LostPod p) = hlevel props
removes-prop c _ = hlevel props

refuses-prop : (s : Spec) (c : Trace) (x : Row) → IsProp (RefusesFull s c x)
refuses-prop s c (row.QueueFull r None) = hlevel props
refuses-prop s c (row.QueueFull r (Some p)) = hlevel props
refuses-prop s c _ = hlevel props

-- lawful in at most one way
pub lawful_prop : (s : Spec) (c : Trace) → IsProp (IsLawful s c)
lawful_prop s c = hlevel (first-prop, within-prop, removes-prop, refuses-prop)

-- settled in at most one way
pub settled_prop : (s : Spec) (c : Trace) → IsProp (IsSettled s c)
settled_prop s c = hlevel props

-- times that never fall do so in one way
pub times_prop : (from to : ℕ) (c : Trace) → IsProp (AreTimesInOrder from c to)
times_prop from to [] = hlevel props
times_prop from to (e ∷ c) = let rest : IsProp (AreTimesInOrder e.time c to) = times_prop e.time to c in hlevel (props, rest)
