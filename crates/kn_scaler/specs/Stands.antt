-- Which traces a Scaler stands for.
use Rattle.std.specs.Prelude.{◌≡◌, ◌≤◌, Bool, false, List, [], ◌∷◌, Option, None, Some}
use Rattle.kn_event.specs.declared.entry.Entry.{Entry}
use Rattle.kn_event.specs.declared.entry.Row.{Row}
use Rattle.kn_event.specs.declared.event.Stand.{Stand}
use Rattle.kn_event.specs.declared.event.Stand.TheVariants as stand
use Rattle.kn_event.specs.declared.revision.Spec.{Spec}
use Rattle.kn_scaling.specs.Average.{second_of}
use Rattle.kn_trace.specs.Scale.{past_of, phase_of}
use Rattle.kn_trace.specs.Trace.{Trace}
use Rattle.kn_record.specs.Made.{Holds, IsMade, IsProper}
use Rattle.kn_record.specs.Order.{AreTimesInOrder}
use Rattle.kn_laws.specs.Kinds.{Each, EachAt}
use Rattle.kn_stats.specs.declared.change.Change.{Change}
use Rattle.kn_stats.specs.Totals.{IsTotalsOf, TotalsState, counted}
use Rattle.kn_decider.specs.Decider.{DeciderState, IsDeciderOf}
use Rattle.kn_changes.specs.Changes.{changes_of}
use Rattle.kn_places.specs.Ends.{IsToldOf, change_in}
use Rattle.kn_scaler.specs.Rows.{settles}

pub record ScalerState : Type 0 where
  pub stats : TotalsState
  pub decider : DeciderState

-- a trace of this specification, up to the time of what is measured: that has all its changes of live requests; and the
-- decisions look back on its past, with the samples of the seconds that are over
pub record IsScalerOfTrace (s : Spec) (x : ScalerState) (c : Trace) : Type 0 where
  pub spec : x.decider.spec ≡ s
  pub metric : x.stats.metric ≡ s.metric
  pub times : AreTimesInOrder 0 c x.stats.time
  pub stats : IsTotalsOf x.stats (changes_of c)
  pub decider : IsDeciderOf x.decider (past_of s c) (second_of x.stats.time)
  pub phase : phase_of c ≡ Some x.decider.zero.standing.phase

-- what is measured, after a row that may change it
abbrev pub changed_if : Option Change → TotalsState → TotalsState
changed_if None stats = stats
changed_if (Some change) stats = counted change stats

-- after a row, by where a request stands that ends with it
abbrev pub after_row : Row → Stand → Bool → TotalsState → TotalsState
after_row x at through stats = changed_if (change_in x at through) stats

-- it stands for some trace that events made
abbrev pub StandsForSome : ScalerState → Type 0
StandsForSome x = ∥ ((c : Trace) × IsMade x.decider.spec c × IsScalerOfTrace x.decider.spec x c) ∥₁

-- after rows with which no request ends
abbrev pub after_rows : List Entry → TotalsState → TotalsState
after_rows [] stats = stats
after_rows (e ∷ es) stats = after_rows es (after_row e.row stand.Held false stats)

-- a row that is proper after a trace that events made and that it stands for, and where a request stands that ends with it
pub record IsNextRow (x : ScalerState) (y : Row) (at : Stand) (through : Bool) (s : Spec) (c : Trace) : Type 0 where
  pub stands : IsScalerOfTrace s x c
  pub made : IsMade s c
  pub proper : IsProper s c y
  pub told : IsToldOf c y at through

-- so it is after some trace
abbrev pub IsNextOfSome : ScalerState → Row → Stand → Bool → Type 0
IsNextOfSome x y at through = ∥ ((s : Spec) × (c : Trace) × IsNextRow x y at through s c) ∥₁

-- rows of a settling that are proper one after the other after such a trace, at the time of what is measured
pub record AreNextRows (x : ScalerState) (es : List Entry) (s : Spec) (c : Trace) : Type 0 where
  pub stands : IsScalerOfTrace s x c
  pub made : IsMade s c
  pub proper : Holds (IsProper s) c es
  pub at : EachAt x.stats.time es
  pub kind : Each settles es

-- so they are after some trace
abbrev pub AreNextOfSome : ScalerState → List Entry → Type 0
AreNextOfSome x es = ∥ ((s : Spec) × (c : Trace) × AreNextRows x es s c) ∥₁

-- nothing that was recorded lies after the second of the time
pub record IsUpToNow (x : ScalerState) : Type 0 where
  pub end : x.decider.stable.end ≤ second_of x.stats.time
  pub last : x.decider.delay.last ≤ second_of x.stats.time
