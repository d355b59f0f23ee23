-- A pass's rows end its own requests alone.
use Rattle.std.specs.Prelude.{ℕ, ◌≡◌, ◌≢◌, ◌⊎◌, List, Bool, Some}
use Rattle.kn_event.specs.declared.event.Act.TheVariants as act
use Rattle.kn_trace.specs.Outcome.{Outcome, outcome_of}
use Rattle.kn_trace.specs.Trace.{Trace}
use Rattle.kn_sizes.specs.Told.{arrival_told}
use Rattle.kn_core.specs.State.{StandsFor}
use Rattle.kn_cell.specs.declared.past.Past.{Past}
use Rattle.kn_cell.specs.Lists.{Each, StartsWith}
use Rattle.kn_cell.specs.History.{trace_after}
use Rattle.kn_cell.specs.Shown.{PassView}
use Rattle.kn_request.specs.Sight.{EndsBy, IsAlone}
use Rattle.kn_session.specs.Lists.{HasOne}

-- the row is a finish or a cancel of the request
abbrev pub IsEndOf : ℕ → Past → Type 0
IsEndOf r x = ((ok : Bool) × (x.event.act ≡ act.Finish r ok)) ⊎ (x.event.act ≡ act.Cancel r)

-- the row is the arrival that was told this request
abbrev pub IsArrivalOf : ℕ → Past → Type 0
IsArrivalOf r x = (tag : ℕ) × (x.event.act ≡ act.Arrive tag) × (arrival_told x.told ≡ Some r)

-- each request that a row ends arrived by a row of the same list
abbrev pub NamesOwn : List Past → Type 0
NamesOwn xs = Each (λ x. (r : ℕ) → IsEndOf r x → HasOne (IsArrivalOf r) xs) xs

-- no pass but the one with this number finished or cancelled the request
abbrev pub IsAloneIn : List Past → ℕ → ℕ → Type 0
IsAloneIn h n r = Each (λ x. x.pass ≢ n → ((ok : Bool) → x.event.act ≢ act.Finish r ok) × (x.event.act ≢ act.Cancel r)) h

-- what the pass knows holds of the whole history: it begins with what the pass has seen, no other pass ends a request
-- that arrived by the pass's rows, and how a request had ended is how it ended at last
pub record Lasts (h : List Past) (q : PassView) : Type 0 where
  pub front : StartsWith h q.seen
  pub alone : (r : ℕ) → HasOne (IsArrivalOf r) q.mine → IsAlone q r
  pub outcome : (r : ℕ) (o : Outcome) → EndsBy q r (λ x. x ≡ Some o) → (c : Trace) → StandsFor q.opening c → outcome_of (trace_after q.opening.spec c h) r ≡ Some o
