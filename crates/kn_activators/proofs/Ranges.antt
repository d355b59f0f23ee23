-- What is read of an input is in range: its setup, and each event.
use Rattle.std.proofs.Common.{◌≡◌, ◌≤◌, ◌<◌, ◌+◌, ℕ, Bool, true, false, ◌&&◌, nat_le, nat_lt, List, [], ◌∷◌, length, map, refl, subst, arith}
use Rattle.std.specs.Prelude.{Option, None, Some, Result, Ok, Err, IfOk, IfSome, codes, drop, if◌then◌else◌, ⊤}
use Rattle.std.specs.Str.{bytes_eq}
use Rattle.std.specs.List.{starts_with}
use Rattle.std.specs.Prelude.{nat_eq}
use Rattle.kn_event.specs.EventLine.{Taken, end_due, event_at, last_number, last_outcome, limit_most, number_due, or_else_fault, taken_or, then_due}
use Rattle.kn_event.specs.Fields.{fields}
use Rattle.kn_event.specs.Numbers.{number_of}
use Rattle.kn_event.specs.Ranges.{is_between}
use Rattle.kn_event.specs.declared.event.Act.{Act}
use Rattle.kn_event.specs.declared.event.Act.TheVariants as act
use Rattle.kn_event.specs.declared.fault.LineError.{LineError}
use Rattle.kn_event.specs.declared.fault.LineError.TheVariants as fault
use Rattle.kn_preamble.specs.declared.error.SetupError.{SetupError}
use Rattle.kn_preamble.specs.declared.error.SetupError.TheVariants.{BadWord, OutOfRange}
use Rattle.kn_preamble.specs.declared.first.FirstLine.TheVariants.{Slices as SlicesLine}
use Rattle.kn_preamble.specs.declared.setting.FixedLine.{FixedLine}
use Rattle.kn_preamble.specs.declared.setting.Placed.{Placed}
use Rattle.kn_preamble.specs.First.{activators_most, activators_of, as_activators}
use Rattle.kn_preamble.specs.SetupLine.{IsFixedLine, fixed_line, fixed_line_of_fields, fixed_settings, in_ranges, least_due, least_from, limit_fault, placed_due, range_fault, ranged, slots_of, unless_fault, with_least}
use Rattle.kn_journal.specs.Causes.{Cause, line_too_long, time_back, time_too_large}
use Rattle.kn_journal.specs.Journal.{first_in, first_part, start_part, time_most, version_in}
use Rattle.kn_journal.specs.Lines.{fits, lines}
use Rattle.kn_journal.specs.Parts.{Part, part, then_part}
use Rattle.kn_journal.specs.Series.{Read, end_part, item_in, none_read, nothing_part, onward, then_events}
use Rattle.kn_slices.specs.Activators.{IsPlain}
use Rattle.kn_activators.specs.declared.event.GroupEvent.{GroupEvent}
use Rattle.kn_activators.specs.declared.event.GroupEvent.TheVariants as group
use Rattle.kn_activators.specs.declared.setup.GroupSetup.{GroupSetup}
use Rattle.kn_activators.specs.Reading.{IsGroupEvent, addressee, behind_word, between, between_due, event_behind, event_from, event_of_fields, event_timed, event_to, group_event_of, last_between, one_of, own_act_behind, shared_behind}
use Rattle.kn_activators.specs.Safety.{AreGroupEvents, OnInput, OnInputOf}
use Rattle.kn_activators.specs.Sharing.{time_of}
use Rattle.kn_activators.specs.Standing.{IsGroupSetup}
use Rattle.kn_activators.specs.Verdict.{Input, in_time, input_of, input_of_lines, judged, next_in, next_part, opening_part, read_events, setup_in, setup_line_in, setup_part}

-- ---- tests

both : (a b : Bool) → (a && b) ≡ true → (a ≡ true) × (b ≡ true)
both true b t = (refl, t)
both false b t = absurd (grind (arith, t))

up_to : (a b : ℕ) → nat_le a b ≡ true → a ≤ b
up_to a b t = grind (arith, t)

below : (a b : ℕ) → nat_lt a b ≡ true → a < b
below a b t = grind (arith, t)

least_up : (a b : ℕ) → nat_lt b a ≡ false → a ≤ b
least_up a b t = grind (arith, t)

between_is : (least most n : ℕ) → is_between least most n ≡ true → (least ≤ n) × (n ≤ most)
between_is least most n t = let h = both (nat_le least n) (nat_le n most) t in (up_to least n h.0, up_to n most h.1)

if_ok : {T E : Type 0} (b : Bool) (x y : Result T E) (P : T → Type 0) → IfOk x P → IfOk y P → IfOk (if b then x else y) P
if_ok true x y P h k = h
if_ok false x y P h k = k

-- ---- the setup

many_is : (o : Option ℕ) (many : ℕ) → as_activators o ≡ Some many → (1 ≤ many) × (many ≤ 16)
many_is None many h = absurd (cc)
many_is (Some n) many h = by (nat_le 1 n && nat_le n activators_most) refl h
  where
    by : (b : Bool) → (nat_le 1 n && nat_le n activators_most) ≡ b → (if b then Some n else None) ≡ Some many → (1 ≤ many) × (many ≤ 16)
    by true t h =
        let same : n ≡ many = cc in
        let u = both (nat_le 1 n) (nat_le n activators_most) t in
        let least = up_to 1 n u.0 in
        let most = up_to n activators_most u.1 in
        (omega (arith, same, least), omega (arith, same, most))
    by false t h = absurd (cc)

activators_is : (line : List ℕ) (many : ℕ) → activators_of line ≡ Some many → (1 ≤ many) × (many ≤ 16)
unfolding activators_of
activators_is line many h = by (starts_with nat_eq line (codes "kact slices ")) h
  where
    by : (b : Bool) → (if b then as_activators (number_of (drop (length (codes "kact slices ")) line)) else None) ≡ Some many → (1 ≤ many) × (many ≤ 16)
    by true h = many_is (number_of (drop (length (codes "kact slices ")) line)) many h
    by false h = absurd (cc)

abbrev HasMany : Part ℕ → Type 0
HasMany p = (1 ≤ p.value) × (p.value ≤ 16)

first_is : (n : ℕ) (ls : List (List ℕ)) → IfOk (first_part SlicesLine n ls) HasMany
unfolding first_part
first_is n [] = tt
first_is n (line ∷ more) = if_ok (fits line) (first_in SlicesLine (n + 1) line more) (Err (line_too_long (n + 1))) HasMany (by (activators_of line) (activators_is line)) tt
  where
    by : (o : Option ℕ) → ((many : ℕ) → o ≡ Some many → (1 ≤ many) × (many ≤ 16)) → IfOk (version_in SlicesLine (n + 1) more o) HasMany
    by None h = tt
    by (Some many) h = h many refl

fault_if : (b : Bool) (rest : Option SetupError) (why : SetupError) → (if b then rest else Some why) ≡ None → (b ≡ true) × (rest ≡ None)
fault_if true rest why h = (refl, h)
fault_if false rest why h = absurd (cc)

abbrev good_line : FixedLine → Result FixedLine SetupError
good_line f = Ok f

from_numbers : (least : ℕ) (ps : List Placed) (f : FixedLine) → limit_fault least ps ≡ None → range_fault fixed_settings ps ≡ None → least_from (Ok (map (λ (p : Placed). p.number) ps)) ≡ Ok f → IsFixedLine least f
from_numbers least [] f enough ranges h = absurd (cc)
from_numbers least (a ∷ []) f enough ranges h = absurd (cc)
from_numbers least (a ∷ b ∷ []) f enough ranges h = absurd (cc)
from_numbers least (a ∷ b ∷ d ∷ []) f enough ranges h = absurd (cc)
from_numbers least (a ∷ b ∷ d ∷ e ∷ []) f enough ranges h = absurd (cc)
from_numbers least (a ∷ b ∷ d ∷ e ∷ g ∷ []) f enough ranges h = absurd (cc)
from_numbers least (a ∷ b ∷ d ∷ e ∷ g ∷ k ∷ l ∷ more) f enough ranges h = absurd (cc)
from_numbers least (a ∷ b ∷ d ∷ e ∷ g ∷ k ∷ []) f enough ranges h =
    let one = fault_if (is_between 0 1000 a.number) _ _ ranges in
    let two = fault_if (is_between 1 10000 b.number) _ _ one.1 in
    let three = fault_if (is_between 1 1000 d.number) _ _ two.1 in
    let four = fault_if (is_between 0 500 e.number) _ _ three.1 in
    let five = fault_if (is_between 1 3600 g.number) _ _ four.1 in
    let limit = between_is 0 1000 a.number one.0 in
    let depth = between_is 1 10000 b.number two.0 in
    let most = between_is 1 1000 d.number three.0 in
    let pods = between_is 0 500 e.number four.0 in
    let timeout = between_is 1 3600 g.number five.0 in
    by (record { limit = a.number; pods = e.number; timeout_s = g.number; slots = slots_of b.number d.number k.number }) f h (least_of (nat_lt a.number least) refl enough, limit.1, pods.1, timeout.0, timeout.1, record { depth_least = depth.0; depth_most = depth.1; max_least = most.0; max_most = most.1 })
  where
    least_of : (b : Bool) → nat_lt a.number least ≡ b → (if b then Some (OutOfRange a.place) else None) ≡ None → least ≤ a.number
    least_of true t h = absurd (cc)
    least_of false t h = least_up least a.number t

    by : (x y : FixedLine) → good_line x ≡ good_line y → IsFixedLine least x → IsFixedLine least y
    by x y h is = let same : x ≡ y = cc in subst (IsFixedLine least) same is

from_placed : (least : ℕ) (r : Result (List Placed) SetupError) (f : FixedLine) → least_from (in_ranges fixed_settings (with_least least r)) ≡ Ok f → IsFixedLine least f
from_placed least (Err why) f h = absurd (cc)
from_placed least (Ok ps) f h = by (limit_fault least ps) refl h
  where
    in_range : (o : Option SetupError) → range_fault fixed_settings ps ≡ o → limit_fault least ps ≡ None → least_from (ranged o ps) ≡ Ok f → IsFixedLine least f
    in_range None ranges enough h = from_numbers least ps f enough ranges h
    in_range (Some why) ranges enough h = absurd (cc)

    by : (o : Option SetupError) → limit_fault least ps ≡ o → least_from (in_ranges fixed_settings (unless_fault o ps)) ≡ Ok f → IsFixedLine least f
    by None enough h = in_range (range_fault fixed_settings ps) refl enough h
    by (Some why) enough h = absurd (cc)

fixed_is : (least : ℕ) (line : List ℕ) (f : FixedLine) → fixed_line least line ≡ Ok f → IsFixedLine least f
unfolding fixed_line
fixed_is least line f h = by_fields (fields line) h
  where
    by_word : (b : Bool) (word : List ℕ) (more : List (List ℕ)) → (if b then least_from (least_due least (length word) more) else Err BadWord) ≡ Ok f → IsFixedLine least f
    by_word true word more h = from_placed least (placed_due (length word) fixed_settings more) f h
    by_word false word more h = absurd (cc)

    by_fields : (fs : List (List ℕ)) → fixed_line_of_fields least fs ≡ Ok f → IsFixedLine least f
    by_fields [] h = absurd (cc)
    by_fields (word ∷ more) h = by_word (bytes_eq word (codes "fixed")) word more h

abbrev HasSetup : Part GroupSetup → Type 0
HasSetup p = IsGroupSetup p.value

setup_range : (many n : ℕ) (ls : List (List ℕ)) → 1 ≤ many → many ≤ 16 → IfOk (setup_part many n ls) HasSetup
unfolding setup_part
setup_range many n [] some few = tt
setup_range many n (line ∷ more) some few =
    if_ok (fits line) (setup_line_in many (n + 1) line more) (Err (line_too_long (n + 1))) HasSetup (by (fixed_line many line) (fixed_is many line)) tt
  where
    by : (r : Result FixedLine SetupError) → ((f : FixedLine) → r ≡ Ok f → IsFixedLine many f) → IfOk (setup_in many (n + 1) more r) HasSetup
    by (Ok f) h =
        let is = h f refl in
        record { some = some; few = few; least = is.0; most = is.1; pods = is.2; waits_least = is.3; waits_most = is.4; slots = is.5 }
    by (Err why) h = tt

opening_range : (n : ℕ) (ls : List (List ℕ)) → IfOk (opening_part n ls) HasSetup
unfolding opening_part
opening_range n ls = by (first_part SlicesLine n ls) (first_is n ls)
  where
    by : (r : Result (Part ℕ) Cause) → IfOk r HasMany → IfOk (then_part r setup_part) HasSetup
    by (Ok p) h = setup_range p.value p.number p.left h.0 h.1
    by (Err cause) h = tt

-- ---- an event's line

then_ok : {A B : Type 0} (r : Result (Taken A) LineError) (next : A → ℕ → List (List ℕ) → Result B LineError) (Q : A → Type 0) (P : B → Type 0) → IfOk r (λ (t : Taken A). Q t.value)
    → ((a : A) (end : ℕ) (left : List (List ℕ)) → Q a → IfOk (next a end left) P) → IfOk (then_due r next) P
then_ok (Ok t) next Q P h k = k t.value t.end t.left h
then_ok (Err why) next Q P h k = tt

map_ok : {A B : Type 0} (f : A → B) (r : Result A LineError) (Q : A → Type 0) (P : B → Type 0) → IfOk r Q → ((a : A) → Q a → P (f a)) → IfOk (or_else_fault f r) P
map_ok f (Ok a) Q P h k = k a h
map_ok f (Err why) Q P h k = tt

end_ok : {A : Type 0} (at : ℕ) (more : List (List ℕ)) (x : A) (P : A → Type 0) → P x → IfOk (end_due at more x) P
end_ok at [] x P h = h
end_ok at (field ∷ more) x P h = tt

said_ok : {T E : Type 0} (r : Result T E) → IfOk r (λ (x : T). ⊤)
said_ok (Ok x) = tt
said_ok (Err e) = tt

own_range : (word : List ℕ) (at : ℕ) (more : List (List ℕ)) → IfOk (own_act_behind word at more) IsPlain
own_range word at more = by_arrive (bytes_eq word (codes "arrive"))
  where
    by_pass : (b : Bool) → IfOk (if b then end_due at more act.Pass else Err fault.BadWord) IsPlain
    by_pass true = end_ok at more act.Pass IsPlain tt
    by_pass false = tt

    by_cancel : (b : Bool) → IfOk (if b then or_else_fault act.Cancel (last_number at more) else (if bytes_eq word (codes "pass") then end_due at more act.Pass else Err fault.BadWord)) IsPlain
    by_cancel true = map_ok act.Cancel (last_number at more) (λ (n : ℕ). ⊤) IsPlain (said_ok (last_number at more)) (λ n h. tt)
    by_cancel false = by_pass (bytes_eq word (codes "pass"))

    by_finish : (b : Bool) → IfOk (if b then then_due (number_due at more) (λ r end left. or_else_fault (act.Finish r) (last_outcome end left)) else (if bytes_eq word (codes "cancel") then or_else_fault act.Cancel (last_number at more) else (if bytes_eq word (codes "pass") then end_due at more act.Pass else Err fault.BadWord))) IsPlain
    by_finish true = then_ok (number_due at more) (λ r end left. or_else_fault (act.Finish r) (last_outcome end left)) (λ (r : ℕ). ⊤) IsPlain (said_ok (number_due at more))
        (λ r end left h. map_ok (act.Finish r) (last_outcome end left) (λ (ok : Bool). ⊤) IsPlain (said_ok (last_outcome end left)) (λ ok k. tt))
    by_finish false = by_cancel (bytes_eq word (codes "cancel"))

    by_arrive : (b : Bool) → IfOk (if b then or_else_fault act.Arrive (last_number at more) else (if bytes_eq word (codes "finish") then then_due (number_due at more) (λ r end left. or_else_fault (act.Finish r) (last_outcome end left)) else (if bytes_eq word (codes "cancel") then or_else_fault act.Cancel (last_number at more) else (if bytes_eq word (codes "pass") then end_due at more act.Pass else Err fault.BadWord)))) IsPlain
    by_arrive true = map_ok act.Arrive (last_number at more) (λ (n : ℕ). ⊤) IsPlain (said_ok (last_number at more)) (λ n h. tt)
    by_arrive false = by_finish (bytes_eq word (codes "finish"))

between_ok : (least bound : ℕ) (o : Option ℕ) (n : ℕ) → between least bound o ≡ Some n → (least ≤ n) × (n < bound)
between_ok least bound None n h = absurd (cc)
between_ok least bound (Some m) n h = by (nat_le least m && nat_lt m bound) refl h
  where
    by : (b : Bool) → (nat_le least m && nat_lt m bound) ≡ b → (if b then Some m else None) ≡ Some n → (least ≤ n) × (n < bound)
    by true t h =
        let same : m ≡ n = cc in
        let u = both (nat_le least m) (nat_lt m bound) t in
        let low = up_to least m u.0 in
        let high = below m bound u.1 in
        (omega (arith, same, low), omega (arith, same, high))
    by false t h = absurd (cc)

due_ok : (least bound at : ℕ) (more : List (List ℕ)) → IfOk (between_due least bound at more) (λ (t : Taken ℕ). (least ≤ t.value) × (t.value < bound))
due_ok least bound at [] = tt
due_ok least bound at (field ∷ more) = by (between least bound (number_of field)) (between_ok least bound (number_of field))
  where
    by : (o : Option ℕ) → ((n : ℕ) → o ≡ Some n → (least ≤ n) × (n < bound)) → IfOk (taken_or (fault.BadNumber (at + 1)) o (at + 1 + length field) more) (λ (t : Taken ℕ). (least ≤ t.value) × (t.value < bound))
    by None h = tt
    by (Some n) h = h n refl

last_ok : (least bound at : ℕ) (more : List (List ℕ)) → IfOk (last_between least bound at more) (λ (n : ℕ). (least ≤ n) × (n < bound))
last_ok least bound at more =
    then_ok (between_due least bound at more) (λ n end left. end_due end left n) (λ (n : ℕ). (least ≤ n) × (n < bound)) (λ (n : ℕ). (least ≤ n) × (n < bound)) (due_ok least bound at more)
    (λ n end left h. end_ok end left n (λ (m : ℕ). (least ≤ m) × (m < bound)) h)

shared_range : (many pods time : ℕ) (word : List ℕ) (at : ℕ) (more : List (List ℕ)) → IfOk (shared_behind many pods time word at more) (IsGroupEvent many pods)
shared_range many pods time word at more = by_ready (bytes_eq word (codes "ready"))
  where
    by_limit : (b : Bool) → IfOk (if b then then_due (between_due 0 pods at more) (λ p end left. or_else_fault (group.Limit time p) (last_between many (limit_most + 1) end left)) else Err fault.BadWord) (IsGroupEvent many pods)
    by_limit true = then_ok (between_due 0 pods at more) (λ p end left. or_else_fault (group.Limit time p) (last_between many (limit_most + 1) end left)) (λ (p : ℕ). (0 ≤ p) × (p < pods)) (IsGroupEvent many pods) (due_ok 0 pods at more)
        (λ p end left h. map_ok (group.Limit time p) (last_between many (limit_most + 1) end left) (λ (n : ℕ). (many ≤ n) × (n < limit_most + 1)) (IsGroupEvent many pods) (last_ok many (limit_most + 1) end left)
        (λ n k. let top = k.1 in (h.1, k.0, omega (arith, top))))
    by_limit false = tt

    by_ready : (b : Bool) → IfOk (if b then or_else_fault (group.Ready time) (last_number at more) else (if bytes_eq word (codes "limit") then then_due (between_due 0 pods at more) (λ p end left. or_else_fault (group.Limit time p) (last_between many (limit_most + 1) end left)) else Err fault.BadWord)) (IsGroupEvent many pods)
    by_ready true = map_ok (group.Ready time) (last_number at more) (λ (p : ℕ). ⊤) (IsGroupEvent many pods) (said_ok (last_number at more)) (λ p h. tt)
    by_ready false = by_limit (bytes_eq word (codes "limit"))

-- all activators, or one that there is
abbrev IsOneOf : ℕ → Option ℕ → Type 0
IsOneOf many None = Unit {0}
IsOneOf many (Some i) = i < many

abbrev IsAddressee : ℕ → Option (Option ℕ) → Type 0
IsAddressee many None = Unit {0}
IsAddressee many (Some to) = IsOneOf many to

one_ok : (many : ℕ) (o : Option ℕ) → IsAddressee many (one_of many o)
one_ok many None = tt
one_ok many (Some i) = by (nat_lt i many) refl
  where
    by : (b : Bool) → nat_lt i many ≡ b → IsAddressee many (if b then Some (Some i) else None)
    by true t = below i many t
    by false t = tt

addressee_ok : (many : ℕ) (field : List ℕ) → IsAddressee many (addressee many field)
unfolding addressee
addressee_ok many field = by (bytes_eq field (codes "-"))
  where
    by : (b : Bool) → IsAddressee many (if b then Some None else one_of many (number_of field))
    by true = tt
    by false = one_ok many (number_of field)

word_range : (many pods : ℕ) (to : Option ℕ) (time : ℕ) (word : List ℕ) (at : ℕ) (more : List (List ℕ)) → IsOneOf many to → IfOk (behind_word many pods to time word at more) (IsGroupEvent many pods)
word_range many pods None time word at more low = shared_range many pods time word at more
word_range many pods (Some i) time word at more low =
    map_ok (λ (a : Act). group.One i (event_at time a)) (own_act_behind word at more) IsPlain (IsGroupEvent many pods) (own_range word at more) (λ a h. (low, h))

timed_range : (many pods : ℕ) (to : Option ℕ) (time at : ℕ) (more : List (List ℕ)) → IsOneOf many to → IfOk (event_timed many pods to time at more) (IsGroupEvent many pods)
timed_range many pods to time at [] low = tt
timed_range many pods to time at (word ∷ more) low = word_range many pods to time word (at + 1 + length word) more low

from_range : (many pods : ℕ) (to : Option ℕ) (time : Option ℕ) (at : ℕ) (more : List (List ℕ)) → IsOneOf many to → IfOk (event_from many pods to time at more) (IsGroupEvent many pods)
from_range many pods to None at more low = tt
from_range many pods to (Some time) at more low = timed_range many pods to time at more low

behind_range : (many pods : ℕ) (to : Option ℕ) (at : ℕ) (more : List (List ℕ)) → IsOneOf many to → IfOk (event_behind many pods to at more) (IsGroupEvent many pods)
behind_range many pods to at [] low = tt
behind_range many pods to at (time ∷ more) low = from_range many pods to (number_of time) (at + 1 + length time) more low

to_range : (many pods : ℕ) (o : Option (Option ℕ)) (at : ℕ) (more : List (List ℕ)) → IsAddressee many o → IfOk (event_to many pods o at more) (IsGroupEvent many pods)
to_range many pods None at more low = tt
to_range many pods (Some to) at more low = behind_range many pods to at more low

event_range : (many pods : ℕ) (line : List ℕ) → IfOk (group_event_of many pods line) (IsGroupEvent many pods)
unfolding group_event_of
event_range many pods line = by (fields line)
  where
    by : (fs : List (List ℕ)) → IfOk (event_of_fields many pods fs) (IsGroupEvent many pods)
    by [] = tt
    by (first ∷ more) = to_range many pods (addressee many first) (length first) more (addressee_ok many first)

-- ---- the events

time_range : (n last : ℕ) (r : Result GroupEvent LineError) (P : GroupEvent → Type 0) → IfOk r P → IfOk (in_time n last r) P
time_range n last (Err why) P h = tt
time_range n last (Ok a) P h =
    if_ok (nat_le (time_of a) time_most) (if nat_le last (time_of a) then Ok a else Err (time_back n last (time_of a))) (Err (time_too_large n)) P
    (if_ok (nat_le last (time_of a)) (Ok a) (Err (time_back n last (time_of a))) P h tt) tt

abbrev HasEvent : GroupSetup → Part (Option GroupEvent) → Type 0
HasEvent s p = IfSome p.value (IsGroupEvent s.activators s.pods)

abbrev none_at : ℕ → List (List ℕ) → Result (Part (Option GroupEvent)) Cause
none_at n left = Ok (part None n left)

next_range : (s : GroupSetup) (last n : ℕ) (ls : List (List ℕ)) → IfOk (next_part s last n ls) (HasEvent s)
unfolding next_part
next_range s last n [] = tt
next_range s last n (line ∷ more) =
    if_ok (fits line) (next_in s last (n + 1) line more) (Err (line_too_long (n + 1))) (HasEvent s)
    (if_ok (bytes_eq line (codes "end")) (end_part (n + 1) more) (item_in (n + 1) more (judged s last (n + 1) line)) (HasEvent s)
    (ended (nothing_part (n + 1) more))
    (item (judged s last (n + 1) line) (time_range (n + 1) last (group_event_of s.activators s.pods line) (IsGroupEvent s.activators s.pods) (event_range s.activators s.pods line)))) tt
  where
    ended : (r : Result (Part ⊤) Cause) → IfOk (then_part r (λ _ n left. none_at n left)) (HasEvent s)
    ended (Ok q) = tt
    ended (Err cause) = tt

    item : (r : Result GroupEvent Cause) → IfOk r (IsGroupEvent s.activators s.pods) → IfOk (item_in (n + 1) more r) (HasEvent s)
    item (Ok e) h = h
    item (Err cause) h = tt

onward_range : (s : GroupSetup) (r : Result (Part (Option GroupEvent)) Cause) (next : GroupEvent → ℕ → Read GroupEvent) → IfOk r (HasEvent s)
    → ((e : GroupEvent) (k : ℕ) → AreGroupEvents s (next e k).events) → AreGroupEvents s (then_events r next).events
onward_range s (Err cause) next h rest = tt
onward_range s (Ok p) next h rest = by p.value h
  where
    by : (o : Option GroupEvent) → IfSome o (IsGroupEvent s.activators s.pods) → AreGroupEvents s (onward o (λ e. next e p.number)).events
    by None h = tt
    by (Some e) h = (h, rest e p.number)

events_range : (s : GroupSetup) (last n : ℕ) (ls : List (List ℕ)) → AreGroupEvents s (read_events s last n ls).events
unfolding read_events
events_range s last n [] = onward_range s (next_part s last n []) (λ a number. none_read None) (next_range s last n []) (λ a k. tt)
events_range s last n (line ∷ more) =
    onward_range s (next_part s last n (line ∷ more)) (λ a number. read_events s (time_of a) number more) (next_range s last n (line ∷ more)) (λ a k. events_range s (time_of a) k more)

-- ---- the whole

-- what holds of each setup and of events in range, holds of what bytes say
pub on_input : (P : GroupSetup → ℕ → List GroupEvent → Type 0) → ((s : GroupSetup) (start : ℕ) (es : List GroupEvent) → IsGroupSetup s → AreGroupEvents s es → P s start es)
    → (known : Option (List ℕ)) → OnInputOf known (λ (t : Input). P t.setup t.start t.read.events)
unfolding input_of input_of_lines
on_input P h None = tt
on_input P h (Some xs) = by (opening_part 0 (lines xs)) (opening_range 0 (lines xs))
  where
    started : (s : GroupSetup) → IsGroupSetup s → (r : Result (Part ℕ) Cause)
        → OnInput (then_part r (λ start n more. Ok (record { setup = s; start = start; read = read_events s start n more }))) (λ (t : Input). P t.setup t.start t.read.events)
    started s is (Ok q) = h s q.value (read_events s q.value q.number q.left).events is (events_range s q.value q.number q.left)
    started s is (Err cause) = tt

    by : (r : Result (Part GroupSetup) Cause) → IfOk r HasSetup
        → OnInput (then_part r (λ setup n more. then_part (start_part n more) (λ start n more. Ok (record { setup = setup; start = start; read = read_events setup start n more })))) (λ (t : Input). P t.setup t.start t.read.events)
    by (Ok p) is = started p.value is (start_part p.number p.left)
    by (Err cause) is = tt
