-- What is known of each live request of a run: what it came with, and what has come of it.
use Rattle.std.specs.Prelude.{◌≡◌, ℕ, true, ◌==◌, List, [], ◌∷◌, ◌++◌, length, Option, None, Some, slice_index, unwrap_or, if◌then◌else◌}
use Rattle.std.specs.Bool.{then_some}
use Rattle.std.specs.List.{filter_map}
use Rattle.std.specs.Map.{lookup}
use Rattle.kn_event.specs.declared.entry.Entry.{Entry}
use Rattle.kn_event.specs.declared.entry.Row.{Row}
use Rattle.kn_event.specs.declared.event.Act.{Act}
use Rattle.kn_event.specs.declared.event.Act.TheVariants as act
use Rattle.kn_event.specs.declared.event.Event.{Event}
use Rattle.kn_event.specs.declared.revision.Spec.{Spec}
use Rattle.kn_event.specs.Lists.{contains}
use Rattle.kn_trace.specs.Events.{react, trace_of}
use Rattle.kn_trace.specs.Rows.{arrived_by, begun_by, directed_by, taken_by}
use Rattle.kn_trace.specs.Trace.{Trace, arrivals, each_row, last_of, live, pod_of}
use Rattle.kn_record.specs.Made.{IsMade, IsProper}
use Rattle.kn_record.specs.Rows.{says}
use Rattle.kn_lives.specs.declared.lives.Life.{Life}

-- ---- tags

-- the tag that an arrival has
abbrev pub tag_by : Act → Option ℕ
tag_by (act.Arrive tag) = Some tag
tag_by _ = None

-- the tags of the arrivals in order
unfoldable pub tags : List Event → List ℕ
tags es = filter_map (λ (e : Event). tag_by e.act) es

-- request r has the r-th; 0 where there is none
unfoldable pub tag_of : List Event → ℕ → ℕ
tag_of es r = slice_index (tags es) r

-- ---- of a trace

-- the time of the last row that says r of this kind
unfoldable pub time_of : (Row → Option ℕ) → Trace → ℕ → Option ℕ
time_of said c r = last_of (filter_map (λ (x : Entry). then_some (says (said x.row) r) x.time) c)

-- of events that made the trace, what request r came with, and what has come of it
unfoldable pub life_in : List Event → Trace → ℕ → Life
life_in es c r = record {
  tag = tag_of es r;
  arrived = unwrap_or (time_of taken_by c r) 0;
  direct = contains r (each_row directed_by c);
  begun = time_of begun_by c r;
  pod = pod_of c r;
}

-- the same where r is live
unfoldable pub life_of : List Event → Trace → ℕ → Option Life
life_of es c r = if contains r (live c) then Some (life_in es c r) else None

-- what pairs of numbers and lives say of r
abbrev pub life_at : List (ℕ × Life) → ℕ → Option Life
life_at l r = lookup (λ q. r == q) l

-- they are those of the live requests
pub record AreLives (l : List (ℕ × Life)) (es : List Event) (c : Trace) : Type 0 where
  pub each : (r : ℕ) → life_at l r ≡ life_of es c r
  pub count : length l ≡ length (live c)

-- ---- row by row

-- what each row says, by the trace before it
unfoldable pub by_row : {X : Type 0} → (Trace → Entry → List X) → Trace → List Entry → List X
by_row f c [] = []
by_row f c (x ∷ xs) = f c x ++ by_row f (c ++ x ∷ []) xs

-- a row comes where it is proper, on a trace that events made; who arrives with it has the next number and this tag
pub record ComesNext (s : Spec) (es : List Event) (tag : ℕ) (c : Trace) (x : Row) : Type 0 where
  pub made : IsMade s c
  pub proper : IsProper s c x
  pub number : (r : ℕ) → arrived_by x ≡ Some r → r ≡ arrivals c
  pub tagged : (r : ℕ) → arrived_by x ≡ Some r → tag_of es r ≡ tag

-- pairs go on by one row, which comes with this tag
abbrev pub AddsRow : ℕ → Entry → List (ℕ × Life) → List (ℕ × Life) → Type 0
AddsRow tag x old new = (s : Spec) (es : List Event) (c : Trace)
    → ComesNext s es tag c x.row → AreLives old es c → AreLives new es (c ++ x ∷ [])

-- further events change no tag of those who have come
abbrev pub StayLives : Spec → ℕ → List Event → List Event → Type 0
StayLives s start es more = (l : List (ℕ × Life))
    → AreLives l es (trace_of s start es) → AreLives l (es ++ more) (trace_of s start es)

-- each row of one more event comes next, with the event's tag
abbrev pub ComeInTurn : Spec → ℕ → List Event → Event → Type 0
ComeInTurn s start es e = (before rest : Trace) (x : Entry) → react s (trace_of s start es) e ≡ before ++ x ∷ rest
    → ComesNext s (es ++ e ∷ []) (unwrap_or (tag_by e.act) 0) (trace_of s start es ++ before) x.row

-- who the row says of this kind is live
abbrev pub AreLiveBy : (Row → Option ℕ) → Trace → Row → Type 0
AreLiveBy said c x = (r : ℕ) → said x ≡ Some r → contains r (live c) ≡ true

-- who is live has a life in the pairs
abbrev pub AreKnown : List (ℕ × Life) → List Event → Trace → Type 0
AreKnown l es c = (r : ℕ) → contains r (live c) ≡ true → life_at l r ≡ Some (life_in es c r)

-- each of these rows comes next, one after the other
abbrev pub ComeNext : Spec → List Event → ℕ → Trace → List Entry → Type 0
ComeNext s es tag c xs = (before rest : Trace) (x : Entry)
    → xs ≡ before ++ x ∷ rest → ComesNext s es tag (c ++ before) x.row

-- when request r was taken in
abbrev pub arrived_at : Trace → ℕ → ℕ
arrived_at c r = unwrap_or (time_of taken_by c r) 0
