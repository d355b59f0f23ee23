-- What the words come to before a session.
use Rattle.std.specs.Prelude.{ℕ, List, ⊤}
use Rattle.kn_journal.specs.declared.status.Status.{Status}
use Rattle.kn_journal.specs.declared.status.Status.TheVariants as status
use Rattle.kn_plan.specs.declared.plan.Plan.{Plan}
use Rattle.kn_plan.specs.declared.plan_error.PlanError.{PlanError}
use Rattle.kn_plan.specs.declared.plan_error.PlanError.TheVariants as plan_error
use Rattle.kn_plan.specs.Plan.{AsksFor}
use Rattle.kn_serve.specs.declared.open_error.OpenError.{OpenError}
use Rattle.kn_serve.specs.declared.open_error.OpenError.TheVariants as open_error

abbrev pub status_of_plan : PlanError → Status
status_of_plan plan_error.Usage = status.Usage
status_of_plan plan_error.Memory = status.Memory

abbrev pub status_of_opening : OpenError → Status
status_of_opening open_error.Failed = status.ListenFault
status_of_opening open_error.Memory = status.Memory

-- nothing is asked for, or something that can't be listened on, where the opener's count rose; or memory is lacking
abbrev pub IsShutWhere : {P : Type 0} → (P → Type 0) → Type 0 → Status → Type 0
IsShutWhere {P} Asks Rises status.Usage = (plan : P) → Asks plan → ⊥
IsShutWhere {P} Asks Rises status.ListenFault = Rises × ((plan : P) × Asks plan)
IsShutWhere {P} Asks Rises status.Memory = ⊤
IsShutWhere {P} Asks Rises _ = ⊥

-- nothing was opened, and nothing was touched
pub record StaysShutWhere {P : Type 0} (Asks : P → Type 0) (Rises Same : Type 0) (result : Status) : Type 0 where
  pub why : IsShutWhere Asks Rises result
  pub same : Same

-- a plan is asked for, the opener gave these slots, in this order, and this keeper for it, or these, and then this came of them
pub record ServesWhere {P : Type 0} (S L : Type 0) (Asks : P → Type 0) (Opened Course : P → List S → L → Type 0) : Type 0 where
  pub plan : P
  pub asks : Asks plan
  pub slots : List S
  pub keeper : L
  pub opened : Opened plan slots keeper
  pub course : Course plan slots keeper

-- .. of a plan for one revision
abbrev pub StaysShut : List (List ℕ) → Type 0 → Type 0 → Status → Type 0
StaysShut words Rises Same result = StaysShutWhere (AsksFor words) Rises Same result

abbrev pub ServesWords : (S L : Type 0) → List (List ℕ) → (Plan → List S → L → Type 0) → (Plan → List S → L → Type 0) → Type 0
ServesWords S L words Opened Course = ServesWhere S L (AsksFor words) Opened Course
