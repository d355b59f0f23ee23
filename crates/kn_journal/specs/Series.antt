-- What stands in a text one after the other, up to `end`: the events of a journal or of several activators, the jobs of a workload.
use Rattle.std.specs.Prelude.{ℕ, ◌+◌, List, [], ◌∷◌, Option, None, Some, Result, Ok, Err, ⊤, if◌then◌else◌}
use Rattle.kn_journal.specs.Lines.{fits}
use Rattle.kn_journal.specs.Causes.{Cause, after_end, line_too_long}
use Rattle.kn_journal.specs.Parts.{Part, part, then_part}

-- after line n no line may follow
abbrev pub nothing_part : ℕ → List (List ℕ) → Result (Part ⊤) Cause
nothing_part n [] = Ok (part tt n [])
nothing_part n (line ∷ more) = if fits line then Err (after_end (n + 1)) else Err (line_too_long (n + 1))

-- after `end` in line n
abbrev pub end_part : {E : Type 0} → ℕ → List (List ℕ) → Result (Part (Option E)) Cause
end_part n lines = then_part (nothing_part n lines) (λ _ n left. Ok (part None n left))

-- what line n says, or why it is refused
abbrev pub item_in : {E : Type 0} → ℕ → List (List ℕ) → Result E Cause → Result (Part (Option E)) Cause
item_in n left (Ok e) = Ok (part (Some e) n left)
item_in n left (Err cause) = Err cause

-- the events, and the cause of the first refused line, if there is one
pub record Read (E : Type 0) : Type 0 where
  pub events : List E
  pub refused : Option Cause

abbrev pub none_read : {E : Type 0} → Option Cause → Read E
none_read refused = record { events = []; refused = refused }

abbrev pub with_event : {E : Type 0} → E → Read E → Read E
with_event e more = record { events = e ∷ more.events; refused = more.refused }

abbrev pub onward : {E : Type 0} → Option E → (E → Read E) → Read E
onward None next = none_read None
onward (Some e) next = with_event e (next e)

abbrev pub then_events : {E : Type 0} → Result (Part (Option E)) Cause → (E → ℕ → Read E) → Read E
then_events (Err cause) next = none_read (Some cause)
then_events (Ok p) next = onward p.value (λ e. next e p.number)
