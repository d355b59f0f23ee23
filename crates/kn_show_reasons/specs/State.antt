-- What a teller of reasons keeps of its run.
use Rattle.std.specs.Prelude.{◌≡◌, ℕ, true, List, [], ◌∷◌, ◌++◌, Some, None}
use Rattle.kn_event.specs.declared.entry.Entry.{Entry}
use Rattle.kn_event.specs.declared.entry.Phase.{Phase}
use Rattle.kn_event.specs.declared.event.Event.{Event}
use Rattle.kn_event.specs.declared.revision.Spec.{Spec}
use Rattle.kn_trace.specs.Scale.{count_ready, phase_of, phase_since}
use Rattle.kn_trace.specs.Trace.{Trace}
use Rattle.kn_trace.specs.Report.{is_expire}
use Rattle.kn_lives.specs.Lives.{AreLives, ComeNext}
use Rattle.kn_teller.specs.Run.{Run, trace}
use Rattle.kn_show_reasons.specs.declared.seen.Seen.{Seen}

pub record ReasonsState : Type 0 where
  pub spec : Spec
  pub seen : Seen

-- the phase, and where there is one, since when
pub record SeesPhase (x : Seen) (c : Trace) : Type 0 where
  pub phase : x.phase ≡ phase_of c
  pub since : (p : Phase) → phase_of c ≡ Some p → x.since ≡ phase_since c

-- and what is known of the live requests
pub record Knows (x : Seen) (es : List Event) (c : Trace) : Type 0 where
  pub lives : AreLives x.lives es c
  pub sees : SeesPhase x c

-- so many pods are ready wherever one of these rows expires a request
abbrev pub AreReady : ℕ → Trace → List Entry → Type 0
AreReady n c xs = (before rest : Trace) (x : Entry) → xs ≡ before ++ x ∷ rest → is_expire x.row ≡ true → n ≡ count_ready (c ++ before)

-- what rows that come next need of what is kept before them
pub record Follows (s : Spec) (es : List Event) (tag : ℕ) (x : Seen) (c : Trace) (xs : List Entry) : Type 0 where
  pub next : ComeNext s es tag c xs
  pub ready : AreReady x.ready c xs
  pub knows : Knows x es c

pub record AreReasonsOf (x : ReasonsState) (r : Run) : Type 0 where
  pub spec : x.spec ≡ r.spec
  pub knows : Knows x.seen r.events (trace r)
  pub ready : x.seen.ready ≡ count_ready (trace r)

-- nothing has come
pub record IsUnopened (x : ReasonsState) (r : Run) : Type 0 where
  pub spec : x.spec ≡ r.spec
  pub lives : AreLives x.seen.lives [] []
  pub phase : x.seen.phase ≡ None
