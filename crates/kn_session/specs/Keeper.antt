-- What a keeper is asked for, in a session whose pods may have addresses of their own.
use Rattle.std.specs.Prelude.{ℕ, ◌≡◌, ◌⊎◌, List, [], ◌∷◌, Option, Some, true}
use Rattle.kn_event.specs.declared.event.Act.TheVariants as act
use Rattle.kn_trace.specs.Trace.{Trace}
use Rattle.kn_core.specs.State.{RevisionState, StandsFor}
use Rattle.kn_cell.specs.declared.past.Past.{Past}
use Rattle.kn_cell.specs.Lists.{Each, StartsWith}
use Rattle.kn_cell.specs.History.{trace_after}
use Rattle.kn_io.specs.Links.{Link, Tells}
use Rattle.kn_io.specs.declared.records.Probe.{Probe}
use Rattle.kn_request.specs.Pods.{IsStarting, IsStartingAt}
use Rattle.kn_request.specs.Ticking.{Visit, is_visited, probed_all, probes_of}
use Rattle.kn_session.specs.Lists.{HasOne}

-- one of the probes was of this pod
abbrev pub is_probed : ℕ → List Probe → Type 0
is_probed j [] = ⊥
is_probed j (p ∷ ps) = (p.pod ≡ j) ⊎ is_probed j ps

-- one of the visits found the pod there
abbrev pub IsMet : List Visit → ℕ → Type 0
IsMet visits pod = HasOne (λ (v : Visit). (v.pod ≡ pod) × (v.answer ≡ Some true)) visits

-- after some beginning of the history the visited pod was starting, and the visit was at the one of n addresses that it had then
pub record IsRight (n : ℕ) (b : RevisionState) (h : List Past) (v : Visit) : Type 0 where
  pub front : List Past
  pub early : StartsWith h front
  pub starts : (c : Trace) → StandsFor b c → IsStartingAt n (trace_after b.spec c front) v.pod v.address

-- What the keeper tells grew by the probes of some visits and by nothing else. Each was at the one of n addresses that its pod had then. Each
-- pod that a row of the history says is Ready was found there by one of them, and each pod that starts at the opening and after
-- the whole history, and has an address at the opening, was visited there
pub record ProbedBy (n : ℕ) (b : RevisionState) (h : List Past) (wire wire' : Option Link) : Type 0 where
  pub visits : List Visit
  pub told : Tells wire wire' (probed_all (probes_of visits))
  pub right : Each (IsRight n b h) visits
  pub found : Each (λ x. (pod : ℕ) → x.event.act ≡ act.Ready pod → IsMet visits pod) h
  pub starting : (c : Trace) → StandsFor b c → (pod a : ℕ) → IsStartingAt n c pod a → IsStarting (trace_after b.spec c h) pod → is_visited pod a visits
