-- What a call adds behind what waits, and what is known after it.
use Rattle.std.specs.Prelude.{◌++◌, ◌∷◌, ℕ, List, [], OnErr, OnOk, Result}
use Rattle.kn_event.specs.declared.entry.Decision.{Decision}
use Rattle.kn_event.specs.declared.entry.Entry.{Entry}
use Rattle.kn_event.specs.declared.event.Event.{Event}
use Rattle.kn_event.specs.declared.revision.Spec.{Spec}
use Rattle.kn_io.specs.Prefix.{AppendsPrefix}
use Rattle.kn_io.specs.declared.traits.Sink.{Ghosts}
use Rattle.kn_trace.specs.Trace.{Trace}
use Rattle.kn_report.specs.Waiting.{Adds}
use Rattle.kn_lives.specs.Lives.{ComesNext}
use Rattle.kn_reason.specs.Texts.{sentences_text}
use Rattle.kn_show_reasons.specs.declared.seen.Seen.{Seen}
use Rattle.kn_show_reasons.specs.Notices.{arrived_in, pod_in}
use Rattle.kn_show_reasons.specs.Reasons.{row_text, rows_text}
use Rattle.kn_show_reasons.specs.Sentences.{sentences_of}
use Rattle.kn_show_reasons.specs.State.{Follows, Knows}

-- ---- a text

-- it came behind what waited
abbrev pub AddsBehind : {X T E : Type 0} → Ghosts X → X → X → List ℕ → List ℕ → List ℕ → Result T E → Type 0
AddsBehind own before now old new text result = OnOk result (Adds (own.held before) (own.held now) old new text)

-- .. or writing failed amid both
abbrev pub CutsBehind : {X T E : Type 0} → Ghosts X → X → X → List ℕ → List ℕ → Result T E → Type 0
CutsBehind own before now old text result = OnErr result (AppendsPrefix (own.held before) (own.held now) (old ++ text))

-- ---- the lines of a decision at this time, by what was seen before it

-- they came behind what waited
abbrev pub AddsDecision : {X T E : Type 0} → Ghosts X → X → X → List ℕ → List ℕ → Spec → Seen → ℕ → Decision → Result T E → Type 0
AddsDecision own before now old new s x t d result =
    AddsBehind own before now old new (sentences_text t (sentences_of s t x.phase x.since d)) result

-- .. or writing failed amid both
abbrev pub CutsDecision : {X T E : Type 0} → Ghosts X → X → X → List ℕ → Spec → Seen → ℕ → Decision → Result T E → Type 0
CutsDecision own before now old s x t d result = CutsBehind own before now old (sentences_text t (sentences_of s t x.phase x.since d)) result

-- ---- a row

-- its text, by what was seen before it
abbrev pub seen_text : Spec → Seen → Entry → List ℕ
seen_text s x e = row_text s x.phase x.since (arrived_in x.lives) (pod_in x.lives) x.ready e.time e.row

-- where it comes next, with this tag, whatever trace was known is known with it
abbrev pub KnowsNext : ℕ → Seen → Seen → Entry → Type 0
KnowsNext tag old new e =
    (s : Spec) (es : List Event) (c : Trace) → ComesNext s es tag c e.row → Knows old es c → Knows new es (c ++ e ∷ [])

-- ---- rows that come next, behind whatever trace they follow

-- their lines came behind what waited
abbrev pub AddsEachRow : {X T E : Type 0} → Ghosts X → X → X → List ℕ → List ℕ → Spec → ℕ → Seen → List Entry → Result T E → Type 0
AddsEachRow own before now old new s tag x xs result =
    (es : List Event) (c : Trace) → Follows s es tag x c xs → AddsBehind own before now old new (rows_text s c xs) result

-- .. or writing failed amid both
abbrev pub CutsEachRow : {X T E : Type 0} → Ghosts X → X → X → List ℕ → Spec → ℕ → Seen → List Entry → Result T E → Type 0
CutsEachRow own before now old s tag x xs result =
    (es : List Event) (c : Trace) → Follows s es tag x c xs → CutsBehind own before now old (rows_text s c xs) result

-- .. and from then on the trace with them is known
abbrev pub KnowsEachRow : {T E : Type 0} → Spec → ℕ → Seen → Seen → List Entry → Result T E → Type 0
KnowsEachRow s tag old new xs result = (es : List Event) (c : Trace) → Follows s es tag old c xs → OnOk result (Knows new es (c ++ xs))
