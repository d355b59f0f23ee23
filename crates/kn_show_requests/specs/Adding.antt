-- What a call adds behind what waits, of whatever run its lives are.
use Rattle.std.specs.Prelude.{◌++◌, ℕ, List, OnErr, OnOk, Result}
use Rattle.kn_event.specs.declared.entry.Entry.{Entry}
use Rattle.kn_event.specs.declared.event.Event.{Event}
use Rattle.kn_event.specs.declared.revision.Spec.{Spec}
use Rattle.kn_io.specs.Prefix.{AppendsPrefix}
use Rattle.kn_io.specs.declared.traits.Sink.{Ghosts}
use Rattle.kn_trace.specs.Trace.{Trace}
use Rattle.kn_report.specs.Waiting.{Adds}
use Rattle.kn_lives.specs.declared.lives.Life.{Life}
use Rattle.kn_lives.specs.Lives.{AreLives, ComeNext}
use Rattle.kn_show_requests.specs.Requests.{live_below, rows_text}

-- ---- of rows that come next, with this tag

-- their lines came behind what waited
abbrev pub AddsRowLines : {X T E : Type 0} → Ghosts X → X → X → List ℕ → List ℕ → ℕ → List (ℕ × Life) → List Entry → Result T E → Type 0
AddsRowLines own before now old new tag lives xs result = (s : Spec) (es : List Event) (c : Trace) → ComeNext s es tag c xs → AreLives lives es c
    → OnOk result (Adds (own.held before) (own.held now) old new (rows_text es c xs))

-- .. or writing failed amid both
abbrev pub CutsRowLines : {X T E : Type 0} → Ghosts X → X → X → List ℕ → ℕ → List (ℕ × Life) → List Entry → Result T E → Type 0
CutsRowLines own before now old tag lives xs result = (s : Spec) (es : List Event) (c : Trace) → ComeNext s es tag c xs → AreLives lives es c
    → OnErr result (AppendsPrefix (own.held before) (own.held now) (old ++ rows_text es c xs))

-- .. and the lives are those behind them
abbrev pub KeepsLives : {T E : Type 0} → ℕ → List (ℕ × Life) → List (ℕ × Life) → List Entry → Result T E → Type 0
KeepsLives tag old new xs result = (s : Spec) (es : List Event) (c : Trace) → ComeNext s es tag c xs → AreLives old es c
    → OnOk result (AreLives new es (c ++ xs))

-- ---- of the live requests below a number

-- their lines came behind what waited
abbrev pub AddsLives : {X T E : Type 0} → Ghosts X → X → X → List ℕ → List ℕ → List (ℕ × Life) → ℕ → Result T E → Type 0
AddsLives own before now old new lives below result = (es : List Event) (c : Trace) → AreLives lives es c
    → OnOk result (Adds (own.held before) (own.held now) old new (live_below es c below))

-- .. or writing failed amid both
abbrev pub CutsLives : {X T E : Type 0} → Ghosts X → X → X → List ℕ → List (ℕ × Life) → ℕ → Result T E → Type 0
CutsLives own before now old lives below result = (es : List Event) (c : Trace) → AreLives lives es c
    → OnErr result (AppendsPrefix (own.held before) (own.held now) (old ++ live_below es c below))
