-- What comes first of each kind, and of several kinds.
use Rattle.std.specs.Prelude.{◌≡◌, ℕ, ◌+◌, ◌<◌, false, nat_lt, Option, None, Some, if◌then◌else◌}
use Rattle.kn_trace.specs.Trace.{Trace}
use Rattle.kn_agenda.specs.declared.item.Item.{Item}
use Rattle.kn_agenda.specs.declared.item.Kind.{Kind}
use Rattle.kn_agenda.specs.declared.item.Kind.TheVariants.{Ticks}
use Rattle.kn_agenda.specs.Workload.{Workload}
use Rattle.kn_agenda.specs.Due.{IsDue, IsDueAt, is_before, is_sooner, rank}

-- the first of this kind, where there is one
abbrev pub IsFirstOf : Workload → Trace → ℕ → Kind → Option Item → Type 0
IsFirstOf w c ticks kind None = (n t : ℕ) → IsDueAt w c ticks kind n t → ⊥
IsFirstOf w c ticks kind (Some x) = (x.kind ≡ kind) × IsDueAt w c ticks kind x.number x.time × ((n t : ℕ) → IsDueAt w c ticks kind n t → is_before t x.time (nat_lt n x.number) ≡ false)

-- the first of the kinds below this rank, where there is one
abbrev pub IsFirstBelow : Workload → Trace → ℕ → ℕ → Option Item → Type 0
IsFirstBelow w c ticks below None = (y : Item) → rank y.kind < below → IsDue w c ticks y → ⊥
IsFirstBelow w c ticks below (Some x) = (rank x.kind < below) × IsDue w c ticks x × ((y : Item) → rank y.kind < below → IsDue w c ticks y → is_sooner y x ≡ false)

-- of two the one whose time is less, else the first
abbrev pub sooner_of : Option Item → Option Item → Option Item
sooner_of None o = o
sooner_of (Some x) None = Some x
sooner_of (Some x) (Some y) = if nat_lt y.time x.time then Some y else Some x

-- how many ticks there were, behind an item of this kind
abbrev pub ticks_behind : ℕ → Kind → ℕ
ticks_behind ticks Ticks = ticks + 1
ticks_behind ticks _ = ticks
