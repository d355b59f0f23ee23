-- What is kept row by row.
use Rattle.std.specs.Prelude.{◌≡◌, ℕ, ◌+◌, ◌<◌, ◌^◌, List, [], ◌∷◌, ◌++◌, length, Some, unwrap_or}
use Rattle.kn_event.specs.declared.entry.Entry.{Entry}
use Rattle.kn_event.specs.declared.event.Event.{Event}
use Rattle.kn_event.specs.declared.revision.Spec.{Spec}
use Rattle.kn_trace.specs.Events.{react, trace_of}
use Rattle.kn_trace.specs.Trace.{Trace, arrivals}
use Rattle.kn_trace.specs.Rows.{begun_by}
use Rattle.kn_lives.specs.declared.lives.Life.{Life}
use Rattle.kn_lives.specs.Lives.{AreLives, ComesNext, arrived_at, tag_by}
use Rattle.kn_begun.specs.Begun.{waits}
use Rattle.kn_waits.specs.Waits.{AreWaits, WaitsState}
use Rattle.kn_show_summary.specs.Counted.{CountsState, counted}

pub record RowsState : Type 0 where
  pub counts : CountsState
  pub waits : WaitsState
  pub lives : List (ℕ × Life)

-- it is that of the trace, which these events made
pub record AreRowsOf (x : RowsState) (s : Spec) (es : List Event) (c : Trace) : Type 0 where
  pub counted : x.counts.counted ≡ counted s c
  pub waits : AreWaits x.waits (waits c)
  pub limit : length x.waits.counters ≡ s.timeout_ms
  pub lives : AreLives x.lives es c

-- an entry comes next; who begins to run with it had waited less than the timeout
pub record CanCount (s : Spec) (es : List Event) (tag : ℕ) (c : Trace) (x : Entry) : Type 0 where
  pub comes : ComesNext s es tag c x.row
  pub some : 0 < s.timeout_ms
  pub in_time : (r : ℕ) → begun_by x.row ≡ Some r → x.time < arrived_at c r + s.timeout_ms
  pub few : arrivals (c ++ x ∷ []) < 2 ^ 64

-- one entry more, of whatever trace it is
abbrev pub GoesOnBy : ℕ → Entry → RowsState → RowsState → Type 0
GoesOnBy tag x old new = (s : Spec) (es : List Event) (c : Trace) → CanCount s es tag c x → AreRowsOf old s es c → AreRowsOf new s es (c ++ x ∷ [])

-- the waits, where nothing else has gone on yet
abbrev pub CountsBegun : Entry → List (ℕ × Life) → WaitsState → WaitsState → Type 0
CountsBegun x lives old new = (s : Spec) (es : List Event) (tag : ℕ) (c : Trace) → CanCount s es tag c x → length old.counters ≡ s.timeout_ms
    → AreLives lives es c → AreWaits old (waits c) → AreWaits new (waits (c ++ x ∷ []))

-- these are the rows of an event with this tag, after the trace that earlier events made
pub record AreRowsBy (tag : ℕ) (log : Trace) (s : Spec) (start : ℕ) (es : List Event) (e : Event) : Type 0 where
  pub some : 0 < s.timeout_ms
  pub rows : log ≡ react s (trace_of s start es) e
  pub tagged : tag ≡ unwrap_or (tag_by e.act) 0
  pub few : arrivals (trace_of s start es ++ log) < 2 ^ 64

-- the first of these rows, whatever the run
abbrev pub GoesOnUpTo : Trace → ℕ → Trace → RowsState → RowsState → Type 0
GoesOnUpTo done tag log old new = (s : Spec) (start : ℕ) (es : List Event) (e : Event) → AreRowsBy tag log s start es e
    → AreRowsOf old s (es ++ e ∷ []) (trace_of s start es) → AreRowsOf new s (es ++ e ∷ []) (trace_of s start es ++ done)

-- these rows, of which none comes from an event
abbrev pub CountsAll : Trace → CountsState → CountsState → Type 0
CountsAll log old new = (s : Spec) (c : Trace) → old.counted ≡ counted s c → new.counted ≡ counted s (c ++ log)
