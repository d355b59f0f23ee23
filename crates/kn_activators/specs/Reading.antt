-- What a line says behind the setup of several activators: an event of one of them or of all, or its first fault.
use Rattle.std.specs.Prelude.{ℕ, Bool, true, false, ◌+◌, ◌<◌, ◌≤◌, ◌&&◌, nat_le, nat_lt, List, [], ◌∷◌, length, Option, None, Some, Result, Err, codes, if◌then◌else◌, ⊤}
use Rattle.std.specs.Str.{bytes_eq}
use Rattle.kn_event.specs.declared.event.Act.{Act}
use Rattle.kn_event.specs.declared.event.Act.TheVariants as act
use Rattle.kn_event.specs.declared.fault.LineError.{LineError}
use Rattle.kn_event.specs.declared.fault.LineError.TheVariants as fault
use Rattle.kn_event.specs.EventLine.{Taken, end_due, event_at, last_number, last_outcome, limit_most, number_due, or_else_fault, taken_or, then_due}
use Rattle.kn_event.specs.Fields.{fields}
use Rattle.kn_event.specs.Numbers.{number_of}
use Rattle.kn_slices.specs.Activators.{IsPlain}
use Rattle.kn_activators.specs.declared.event.GroupEvent.{GroupEvent}
use Rattle.kn_activators.specs.declared.event.GroupEvent.TheVariants as group

-- ---- numbers in a range

-- the number, from the least on and below the bound
abbrev pub between : ℕ → ℕ → Option ℕ → Option ℕ
between least bound None = None
between least bound (Some n) = if nat_le least n && nat_lt n bound then Some n else None

abbrev pub between_due : ℕ → ℕ → ℕ → List (List ℕ) → Result (Taken ℕ) LineError
between_due least bound at [] = Err (fault.BadNumber at)
between_due least bound at (field ∷ more) = taken_or (fault.BadNumber (at + 1)) (between least bound (number_of field)) (at + 1 + length field) more

abbrev pub last_between : ℕ → ℕ → ℕ → List (List ℕ) → Result ℕ LineError
last_between least bound at more = then_due (between_due least bound at more) (λ n end left. end_due end left n)

-- ---- acts

-- one activator's
abbrev pub is_own : Act → Bool
is_own (act.Arrive tag) = true
is_own (act.Finish r ok) = true
is_own (act.Cancel r) = true
is_own act.Pass = true
is_own _ = false

-- what follows the word of an act of one activator
abbrev pub own_act_behind : List ℕ → ℕ → List (List ℕ) → Result Act LineError
own_act_behind word at more =
    if bytes_eq word (codes "arrive") then or_else_fault act.Arrive (last_number at more)
    else (if bytes_eq word (codes "finish") then then_due (number_due at more) (λ r end left. or_else_fault (act.Finish r) (last_outcome end left))
    else (if bytes_eq word (codes "cancel") then or_else_fault act.Cancel (last_number at more)
    else (if bytes_eq word (codes "pass") then end_due at more act.Pass else Err fault.BadWord)))

-- what follows the word of an event of all: `ready P`, or `limit P N` of one of so many pods, with something for each activator
abbrev pub shared_behind : ℕ → ℕ → ℕ → List ℕ → ℕ → List (List ℕ) → Result GroupEvent LineError
shared_behind many pods time word at more =
    if bytes_eq word (codes "ready") then or_else_fault (group.Ready time) (last_number at more)
    else (if bytes_eq word (codes "limit") then then_due (between_due 0 pods at more) (λ p end left. or_else_fault (group.Limit time p) (last_between many (limit_most + 1) end left))
    else Err fault.BadWord)

abbrev pub behind_word : ℕ → ℕ → Option ℕ → ℕ → List ℕ → ℕ → List (List ℕ) → Result GroupEvent LineError
behind_word many pods None time word at more = shared_behind many pods time word at more
behind_word many pods (Some i) time word at more = or_else_fault (λ a. group.One i (event_at time a)) (own_act_behind word at more)

-- ---- the line

abbrev pub event_timed : ℕ → ℕ → Option ℕ → ℕ → ℕ → List (List ℕ) → Result GroupEvent LineError
event_timed many pods to time at [] = Err fault.BadWord
event_timed many pods to time at (word ∷ more) = behind_word many pods to time word (at + 1 + length word) more

abbrev pub event_from : ℕ → ℕ → Option ℕ → Option ℕ → ℕ → List (List ℕ) → Result GroupEvent LineError
event_from many pods to None at more = Err fault.BadTime
event_from many pods to (Some time) at more = event_timed many pods to time at more

-- the event behind the first field, which says whose it is
abbrev pub event_behind : ℕ → ℕ → Option ℕ → ℕ → List (List ℕ) → Result GroupEvent LineError
event_behind many pods to at [] = Err fault.BadTime
event_behind many pods to at (time ∷ more) = event_from many pods to (number_of time) (at + 1 + length time) more

abbrev pub event_to : ℕ → ℕ → Option (Option ℕ) → ℕ → List (List ℕ) → Result GroupEvent LineError
event_to many pods None at more = Err (fault.BadNumber 0)
event_to many pods (Some to) at more = event_behind many pods to at more

abbrev pub one_of : ℕ → Option ℕ → Option (Option ℕ)
one_of many None = None
one_of many (Some i) = if nat_lt i many then Some (Some i) else None

-- whose event it is: `-` for all of them, or the number of one of so many
unfoldable pub addressee : ℕ → List ℕ → Option (Option ℕ)
addressee many field = if bytes_eq field (codes "-") then Some None else one_of many (number_of field)

abbrev pub event_of_fields : ℕ → ℕ → List (List ℕ) → Result GroupEvent LineError
event_of_fields many pods [] = Err (fault.BadNumber 0)
event_of_fields many pods (first ∷ more) = event_to many pods (addressee many first) (length first) more

-- the event that a line spells for one of so many activators, or for all, over so many pods; or its first fault from left to right.
-- Places count in the whole line
unfoldable pub group_event_of : ℕ → ℕ → List ℕ → Result GroupEvent LineError
group_event_of many pods line = event_of_fields many pods (fields line)

-- ---- what such an event is

-- its numbers are in range, and one activator's is neither a limit, nor a tick, nor a loss
abbrev pub IsGroupEvent : ℕ → ℕ → GroupEvent → Type 0
IsGroupEvent many pods (group.One i e) = (i < many) × IsPlain e.act
IsGroupEvent many pods (group.Ready time p) = ⊤
IsGroupEvent many pods (group.Limit time p n) = (p < pods) × (many ≤ n) × (n ≤ limit_most)
