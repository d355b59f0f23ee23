-- What a teller of the series keeps of its run.
use Rattle.std.specs.Prelude.{◌≡◌, ℕ, ◌+◌, ◌*◌, ◌≤◌, true, false, ◌||◌, ◌++◌, List, []}
use Rattle.std.specs.List.{All, list_any}
use Rattle.kn_event.specs.Revision.{AreInRange}
use Rattle.kn_event.specs.declared.entry.Entry.{Entry}
use Rattle.kn_event.specs.declared.event.Event.{Event}
use Rattle.kn_event.specs.declared.revision.Spec.{Spec}
use Rattle.kn_trace.specs.Events.{react}
use Rattle.kn_trace.specs.Trace.{Trace}
use Rattle.kn_trace.specs.Rows.{begun_by}
use Rattle.kn_lives.specs.declared.lives.Life.{Life}
use Rattle.kn_lives.specs.Lives.{AreLives, ComesNext, by_row}
use Rattle.kn_teller.specs.Run.{Run, later, now_of, trace}
use Rattle.kn_show_series.specs.declared.current.OpenStep.{OpenStep}
use Rattle.kn_show_series.specs.Counting.{waits_by, with_cap}
use Rattle.kn_show_series.specs.Series.{open_step}
use Rattle.kn_show_series.specs.Steps.{counts_in, counts_of, follows_filled, gauges_of, held_peak, is_filled, is_shown, pods_of, wait_of}

pub record SeriesState : Type 0 where
  pub step : ℕ
  pub pods : ℕ
  pub lives : List (ℕ × Life)
  pub current : OpenStep

-- no event and no row of the run is later than its clock
pub record IsPast (r : Run) : Type 0 where
  pub start : r.start ≤ now_of r
  pub events : All (λ (e : Event). e.time ≤ now_of r) r.events
  pub rows : All (λ (x : Entry). x.time ≤ now_of r) (trace r)

-- what is kept of step k
pub record IsStepOf (step : ℕ) (r : Run) (k : ℕ) (x : OpenStep) : Type 0 where
  pub from : x.from ≡ r.start + k * step
  pub gauges : x.gauges ≡ gauges_of r.spec (trace r)
  pub counts : x.counts ≡ counts_in step r k
  pub peak : x.held_peak ≡ held_peak step r k
  pub filled : x.filled ≡ is_filled step r k
  pub follows : x.follows_filled ≡ follows_filled step r k

-- it is kept of the step that is open, and this time is not before the clock
pub record Precedes (step : ℕ) (r : Run) (time : ℕ) (x : OpenStep) : Type 0 where
  pub past : IsPast r
  pub order : now_of r ≤ time
  pub kept : IsStepOf step r (open_step step r) x

pub record IsSeriesOf (x : SeriesState) (r : Run) : Type 0 where
  pub ranges : AreInRange r.spec
  pub past : IsPast r
  pub pods : x.pods ≡ pods_of r.spec.kind
  pub lives : AreLives x.lives r.events (trace r)
  pub step : IsStepOf x.step r (open_step x.step r) x.current

-- the first step, before anything has come
pub record IsFirst (start : ℕ) (x : OpenStep) : Type 0 where
  pub from : x.from ≡ start
  pub counts : x.counts ≡ counts_of [] []
  pub peak : x.held_peak ≡ 0
  pub filled : x.filled ≡ true
  pub follows : x.follows_filled ≡ false

-- nothing has come, and the first step begins with the start
pub record IsUnopened (x : SeriesState) (r : Run) : Type 0 where
  pub ranges : AreInRange r.spec
  pub none : r.events ≡ []
  pub pods : x.pods ≡ pods_of r.spec.kind
  pub lives : AreLives x.lives [] []
  pub first : IsFirst r.start x.current

-- the rows of one more event are counted behind those that were
pub record CountsEvent (r : Run) (e : Event) (log : Trace) (old new : SeriesState) : Type 0 where
  pub lives : AreLives new.lives (later r e).events (trace r ++ log)
  pub counts : (rows : Trace) (waits : List ℕ) → old.current.counts ≡ with_cap (counts_of rows waits)
      → new.current.counts ≡ with_cap (counts_of (rows ++ log) (waits ++ by_row wait_of (trace r) log))
  pub filled : new.current.filled ≡ (old.current.filled || list_any (λ (x : Entry). is_shown x.row) log)
  pub from : new.current.from ≡ old.current.from
  pub gauges : new.current.gauges ≡ old.current.gauges
  pub peak : new.current.held_peak ≡ old.current.held_peak
  pub follows : new.current.follows_filled ≡ old.current.follows_filled

-- so it is of any run whose rows they are
abbrev pub CountsRows : Event → Trace → SeriesState → SeriesState → Type 0
CountsRows e log old new = (r : Run) → AreLives old.lives r.events (trace r) → log ≡ react r.spec (trace r) e → CountsEvent r e log old new

-- by these lives, the request that begins to run with the row had waited so long
abbrev pub IsWaitOf : List (ℕ × Life) → Entry → ℕ → Type 0
IsWaitOf l x wait = (s : Spec) (es : List Event) (tag : ℕ) (c : Trace) → ComesNext s es tag c x.row → AreLives l es c → waits_by (begun_by x.row) wait ≡ wait_of c x
