-- Histories: which are legal, and which trace one makes.
use Rattle.std.specs.Prelude.{ℕ, ◌≡◌, ◌≤◌, ◌==◌, ◌-◌, ◌^◌, Bool, cond, min, List, [], ◌∷◌, ◌++◌, drop, length, ⊤}
use Rattle.std.specs.List.{filter}
use Rattle.kn_event.specs.declared.event.Act.{Act}
use Rattle.kn_event.specs.declared.event.Act.TheVariants as act
use Rattle.kn_event.specs.declared.event.Event.{Event}
use Rattle.kn_event.specs.declared.event.Told.{Told}
use Rattle.kn_event.specs.declared.revision.Spec.{Spec}
use Rattle.kn_trace.specs.Events.{react, told_of}
use Rattle.kn_trace.specs.Trace.{Trace, live}
use Rattle.kn_core.specs.State.{RevisionState, StandsFor}
use Rattle.kn_cell.specs.declared.past.Past.{Past}

abbrev pub past : ℕ → Event → Told → Past
past n e told = record { pass = n; event = e; told = told }

-- the trace after the rows
abbrev pub trace_after : Spec → Trace → List Past → Trace
trace_after s c [] = c
trace_after s c (p ∷ ps) = trace_after s (c ++ react s c p.event) ps

-- the entries that the rows made, behind those of c
abbrev pub made_by : Spec → Trace → List Past → Trace
made_by s c h = drop (length c) (trace_after s c h)

-- the time of the last row, or `now` where there is none
abbrev pub clock_after : ℕ → List Past → ℕ
clock_after now [] = now
clock_after now (p ∷ ps) = clock_after p.event.time ps

-- the times never fall, and each row was told what one thread is told there
abbrev pub IsLegalFrom : Spec → ℕ → Trace → List Past → Type 0
IsLegalFrom s now c [] = ⊤
IsLegalFrom s now c (p ∷ ps) = (now ≤ p.event.time) × (p.told ≡ told_of s c p.event) × IsLegalFrom s p.event.time (c ++ react s c p.event) ps

-- whatever the trace is that the revision stands for
unfoldable pub IsLegal : RevisionState → List Past → Type 0
IsLegal b h = (c : Trace) → StandsFor b c → IsLegalFrom b.spec b.clock c h

-- the rows of one pass
abbrev pub rows_by : ℕ → List Past → List Past
rows_by n h = filter (λ p. p.pass == n) h

-- How many rows there is room for: `room` less the rows that were not taken out, `gone` of `total`, and less the live requests, each of which
-- may still end. Where rows may be taken out there are 2^53 at most in all
abbrev pub room_for : Bool → ℕ → ℕ → ℕ → ℕ → ℕ
room_for lasting room gone total live = let here = room - (total - gone) - live in cond lasting (min here (2 ^ 53 - total - live)) here

-- ---- the events of a cell

-- a limit is at most 1,000, and no pod is lost
abbrev pub MayCome : Act → Type 0
MayCome (act.Limit p n) = n ≤ 1000
MayCome (act.Lost p) = ⊥
MayCome _ = ⊤

pub record IsInBounds (e : Event) : Type 0 where
  pub time : e.time ≤ 2 ^ 42
  pub act : MayCome e.act
