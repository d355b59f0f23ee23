-- A line that is one activator's digit, a space, and the line of an event.
use Rattle.std.proofs.Common.{◌≡◌, ◌+◌, ◌-◌, ◌^◌, ◌<◌, ◌≤◌, ℕ, zero, suc, Bool, true, false, List, [], ◌∷◌, ◌++◌, length, append_assoc, take, drop, cond, refl, sym, ap, ◌∙◌, arith}
use Rattle.std.specs.Prelude.{◌==◌, Option, None, Some, Result, Ok, Err, codes, if◌then◌else◌, nat_lt, slice_index, slice_range}
use Rattle.std.specs.Fmt.{decimal}
use Rattle.std.specs.List.{list_all}
use Rattle.std.specs.Str.{bytes_eq}
use Rattle.std.specs.Io.KnownBytes.{prepend_known}
use Rattle.std.proofs.lemmas.Fmt.{decimal_digit}
use Rattle.std.proofs.lemmas.Grind.{common_steps}
use Rattle.kn_event.specs.declared.event.Act.{Act}
use Rattle.kn_event.specs.declared.event.Act.TheVariants as act
use Rattle.kn_event.specs.declared.event.Event.{Event}
use Rattle.kn_event.specs.declared.fault.LineError.{LineError}
use Rattle.kn_event.specs.declared.fault.LineError.TheVariants as fault
use Rattle.kn_event.specs.declared.read.Verb.TheVariants as verb
use Rattle.kn_event.specs.EventLine.{act_due, act_of, act_of_verb, end_due, event_at, event_from as one_from, event_of, event_of_fields as one_of_fields, is_printable, last_limit, last_number, last_outcome, number_due, or_else_fault, outcome_of, taken_or, then_due, verb_of}
use Rattle.kn_event.specs.Fields.{fields}
use Rattle.kn_event.specs.Numbers.{number_of}
use Rattle.kn_journal.specs.Lines.{fits, line_most, lines}
use Rattle.kn_journal.specs.Reading.{TakesLine, TakesText}
use Rattle.kn_activators.specs.declared.event.GroupEvent.TheVariants as group
use Rattle.kn_activators.specs.Reading.{addressee, event_behind, event_from, event_timed, group_event_of, is_own, own_act_behind}

-- ---- what is due is found wherever it stands: places matter in faults alone

end_due-moved : {A : Type 0} (at to : ℕ) (more : List (List ℕ)) (x y : A) → end_due at more x ≡ Ok y → end_due to more x ≡ Ok y
end_due-moved at to [] x y h = h
end_due-moved at to (field ∷ more) x y h = absurd (cc)

or_else-moved : {A B : Type 0} (f : A → B) (r s : Result A LineError) (y : B) → ((x : A) → r ≡ Ok x → s ≡ Ok x) → or_else_fault f r ≡ Ok y → or_else_fault f s ≡ Ok y
or_else-moved f (Ok x) s y moved h = rw (moved x refl) h
or_else-moved f (Err why) s y moved h = absurd (cc)

last_number-moved : (at to : ℕ) (fs : List (List ℕ)) (n : ℕ) → last_number at fs ≡ Ok n → last_number to fs ≡ Ok n
last_number-moved at to [] n h = absurd (cc)
last_number-moved at to (field ∷ more) n h = by_number (number_of field) h
  where
    by_number : (o : Option ℕ) → then_due (taken_or (fault.BadNumber (at + 1)) o (at + 1 + length field) more) (λ n end left. end_due end left n) ≡ Ok n
        → then_due (taken_or (fault.BadNumber (to + 1)) o (to + 1 + length field) more) (λ n end left. end_due end left n) ≡ Ok n
    by_number None g = absurd (cc)
    by_number (Some m) g = end_due-moved (at + 1 + length field) (to + 1 + length field) more m n g

last_outcome-moved : (at to : ℕ) (fs : List (List ℕ)) (ok : Bool) → last_outcome at fs ≡ Ok ok → last_outcome to fs ≡ Ok ok
last_outcome-moved at to [] ok h = absurd (cc)
last_outcome-moved at to (field ∷ more) ok h = by_word (outcome_of field) h
  where
    by_word : (o : Option Bool) → then_due (taken_or fault.BadWord o (at + 1 + length field) more) (λ ok end left. end_due end left ok) ≡ Ok ok
        → then_due (taken_or fault.BadWord o (to + 1 + length field) more) (λ ok end left. end_due end left ok) ≡ Ok ok
    by_word None g = absurd (cc)
    by_word (Some b) g = end_due-moved (at + 1 + length field) (to + 1 + length field) more b ok g

abbrev finish_due : ℕ → List (List ℕ) → Result Act LineError
finish_due at fs = then_due (number_due at fs) (λ r end left. or_else_fault (act.Finish r) (last_outcome end left))

finish-moved : (at to : ℕ) (fs : List (List ℕ)) (a : Act) → finish_due at fs ≡ Ok a → finish_due to fs ≡ Ok a
finish-moved at to [] a h = absurd (cc)
finish-moved at to (field ∷ more) a h = by_number (number_of field) h
  where
    by_number : (o : Option ℕ) → then_due (taken_or (fault.BadNumber (at + 1)) o (at + 1 + length field) more) (λ r end left. or_else_fault (act.Finish r) (last_outcome end left)) ≡ Ok a
        → then_due (taken_or (fault.BadNumber (to + 1)) o (to + 1 + length field) more) (λ r end left. or_else_fault (act.Finish r) (last_outcome end left)) ≡ Ok a
    by_number None g = absurd (cc)
    by_number (Some r) g =
        let from = at + 1 + length field in
        let past = to + 1 + length field in
        or_else-moved (act.Finish r) (last_outcome from more) (last_outcome past more) a (λ ok k. last_outcome-moved from past more ok k) g

-- ---- an act of one activator, behind its word

-- another act was read
other_act : {A T : Type 0} (f : A → Act) (r : Result A LineError) (a : Act) → ((x : A) → is_own (f x) ≡ false) → or_else_fault f r ≡ Ok a → is_own a ≡ true → T
other_act f (Ok x) a other h own = let same : f x ≡ a = cc in let not : is_own a ≡ false = ap is_own (sym same) ∙ other x in absurd (cc)
other_act f (Err why) a other h own = absurd (cc)

other_limit : {T : Type 0} (at : ℕ) (fs : List (List ℕ)) (a : Act) → act_due verb.Limit at fs ≡ Ok a → is_own a ≡ true → T
unfolding act_due
other_limit {T} at [] a h own = absurd (cc)
other_limit {T} at (field ∷ more) a h own = by_number (number_of field) h
  where
    by_number : (o : Option ℕ) → then_due (taken_or (fault.BadNumber (at + 1)) o (at + 1 + length field) more) (λ p end left. or_else_fault (act.Limit p) (last_limit end left)) ≡ Ok a → T
    by_number None g = absurd (cc)
    by_number (Some p) g = other_act (act.Limit p) (last_limit (at + 1 + length field) more) a (λ n. refl) g own

other_tick : {T : Type 0} (at : ℕ) (fs : List (List ℕ)) (a : Act) → act_due verb.Tick at fs ≡ Ok a → is_own a ≡ true → T
unfolding act_due
other_tick at [] a h own = let same : act.Tick ≡ a = cc in let not : is_own a ≡ false = ap is_own (sym same) in absurd (cc)
other_tick at (field ∷ more) a h own = absurd (cc)

own-read : (word : List ℕ) (at to : ℕ) (fs : List (List ℕ)) (a : Act) → act_of_verb (verb_of 1 word) at fs ≡ Ok a → is_own a ≡ true → own_act_behind word to fs ≡ Ok a
unfolding act_due
own-read word at to fs a h own =
    by_tests (bytes_eq word (codes "arrive")) (bytes_eq word (codes "finish")) (bytes_eq word (codes "cancel")) (bytes_eq word (codes "pass"))
    (bytes_eq word (codes "ready")) (bytes_eq word (codes "limit")) (bytes_eq word (codes "tick")) h
  where
    by_tests : (p q r s t u v : Bool)
        → act_of_verb (cond p (Some verb.Arrive) (cond q (Some verb.Finish) (cond r (Some verb.Cancel) (cond s (Some verb.Pass) (cond t (Some verb.Ready) (cond u (Some verb.Limit) (cond v (Some verb.Tick) None))))))) at fs ≡ Ok a
        → (if p then or_else_fault act.Arrive (last_number to fs) else (if q then finish_due to fs else (if r then or_else_fault act.Cancel (last_number to fs) else (if s then end_due to fs act.Pass else Err fault.BadWord)))) ≡ Ok a
    by_tests true q r s t u v g = or_else-moved act.Arrive (last_number at fs) (last_number to fs) a (λ n k. last_number-moved at to fs n k) g
    by_tests false true r s t u v g = finish-moved at to fs a g
    by_tests false false true s t u v g = or_else-moved act.Cancel (last_number at fs) (last_number to fs) a (λ n k. last_number-moved at to fs n k) g
    by_tests false false false true t u v g = end_due-moved at to fs act.Pass a g
    by_tests false false false false true u v g = other_act act.Ready (last_number at fs) a (λ n. refl) g own
    by_tests false false false false false true v g = other_limit at fs a g own
    by_tests false false false false false false true g = other_tick at fs a g own
    by_tests false false false false false false false g = absurd (cc)

-- ---- the line

or_else-ok : {A B : Type 0} (f : A → B) (r : Result A LineError) (y : B) → or_else_fault f r ≡ Ok y → (x : A) × (r ≡ Ok x) × (f x ≡ y)
or_else-ok f (Ok x) y h = (x, refl, cc)
or_else-ok f (Err why) y h = absurd (cc)

-- an event's fields, behind the number of one activator
event-behind : (many pods i at : ℕ) (fs : List (List ℕ)) (e : Event) → one_of_fields 1 fs ≡ Ok e → is_own e.act ≡ true → event_behind many pods (Some i) at fs ≡ Ok (group.One i e)
event-behind many pods i at [] e h own = absurd (cc)
event-behind many pods i at (time ∷ more) e h own = by_time (number_of time) h
  where
    by_word : (t : ℕ) (left : List (List ℕ)) → or_else_fault (event_at t) (act_of 1 (length time) left) ≡ Ok e → event_timed many pods (Some i) t (at + 1 + length time) left ≡ Ok (group.One i e)
    by_word t [] g = absurd (cc)
    by_word t (word ∷ left) g =
        let parts = or_else-ok (event_at t) (act_of 1 (length time) (word ∷ left)) e g in
        let mine : is_own parts.0 ≡ true = ap (λ (x : Event). is_own x.act) parts.2 ∙ own in
        rw (own-read word (length time + 1 + length word) (at + 1 + length time + 1 + length word) left parts.0 parts.1 mine) (ap (λ (x : Event). Ok (group.One i x)) parts.2)

    by_time : (o : Option ℕ) → one_from 1 o (length time) more ≡ Ok e → event_from many pods (Some i) o (at + 1 + length time) more ≡ Ok (group.One i e)
    by_time None g = absurd (cc)
    by_time (Some t) g = by_word t more g

-- the first field is the digit
digit_first : (i : ℕ) (rest : List ℕ) → i < 10 → fields ((48 + i) ∷ 32 ∷ rest) ≡ ((48 + i) ∷ []) ∷ fields rest
unfolding fields
digit_first i rest few = let other : (48 + i == 32) ≡ false = grind (arith, common_steps) in rw other refl

-- .. and says whose event it is
digit_says : (many i : ℕ) → ((n : ℕ) → n < 2 ^ 64 → number_of (decimal n) ≡ Some n) → i < 10 → i < many → addressee many ((48 + i) ∷ []) ≡ Some (Some i)
unfolding addressee
digit_says many i spelled few below =
    let number : number_of ((48 + i) ∷ []) ≡ Some i = ap number_of (sym (decimal_digit i few)) ∙ spelled i (omega arith) in
    let other : bytes_eq ((48 + i) ∷ []) (codes "-") ≡ false = grind (arith, common_steps) in
    let within : nat_lt i many ≡ true = grind (arith, common_steps) in
    rw (other, number, within) refl

pub one-read : (many pods i : ℕ) (rest : List ℕ) (e : Event) → ((n : ℕ) → n < 2 ^ 64 → number_of (decimal n) ≡ Some n) → i < 10 → i < many → event_of 1 rest ≡ Ok e → is_own e.act ≡ true
    → group_event_of many pods ((48 + i) ∷ 32 ∷ rest) ≡ Ok (group.One i e)
unfolding group_event_of event_of
one-read many pods i rest e spelled few below h own =
    rw (digit_first i rest few, digit_says many i spelled few below) (event-behind many pods i 1 (fields rest) e h own)

-- ---- the line in what is ahead

pub one_ahead : (hay : List ℕ) (len i : ℕ) → 8 ≤ len → len < length hay → slice_index hay 0 ≡ 48 + i → slice_index hay 1 ≡ 32 → take len hay ≡ (48 + i) ∷ 32 ∷ slice_range hay 2 len
one_ahead [] len i least inside first second = absurd (omega arith)
one_ahead (b ∷ []) len i least inside first second = absurd (omega arith)
one_ahead (b ∷ d ∷ bs) zero i least inside first second = absurd (omega arith)
one_ahead (b ∷ d ∷ bs) (suc zero) i least inside first second = absurd (omega arith)
one_ahead (b ∷ d ∷ bs) (suc (suc n)) i least inside first second =
    let same : suc (suc n) - 2 ≡ n = omega arith in
    rw same (ap (λ (x : ℕ). x ∷ d ∷ take n bs) first ∙ ap (λ (x : ℕ). (48 + i) ∷ x ∷ take n bs) second)

pub split_ahead : (hay : List ℕ) (len : ℕ) → 2 ≤ len → len < length hay → drop 2 hay ≡ slice_range hay 2 len ++ 10 ∷ drop (len + 1) hay → hay ≡ take len hay ++ 10 ∷ drop (len + 1) hay
split_ahead [] len least inside h = absurd (omega arith)
split_ahead (b ∷ []) len least inside h = absurd (omega arith)
split_ahead (b ∷ d ∷ bs) zero least inside h = absurd (omega arith)
split_ahead (b ∷ d ∷ bs) (suc zero) least inside h = absurd (omega arith)
split_ahead (b ∷ d ∷ bs) (suc (suc n)) least inside h =
    let same : suc (suc n) - 2 ≡ n = omega arith in
    let past : suc (suc n) + 1 ≡ suc (suc (suc n)) = omega arith in
    let behind : bs ≡ take n bs ++ 10 ∷ drop (suc n) bs = rw (same, past) at h in
    rw past (ap (λ (x : List ℕ). b ∷ d ∷ x) behind)

-- its text, and the LF behind it
pub text-ahead : (ahead rest line : List ℕ) (left : Option (List ℕ)) → ahead ≡ line ++ 10 ∷ rest → TakesText false (prepend_known ahead left) (prepend_known rest left)
text-ahead ahead rest line None h = tt
text-ahead ahead rest line (Some ys) h = (
  line ++ 10 ∷ [],
  ap (λ (x : List ℕ). x ++ ys) h ∙ append_assoc line (10 ∷ rest) ys ∙ sym (append_assoc line (10 ∷ []) (rest ++ ys)),
  (line, refl),
)

pub one-printable : (i : ℕ) (rest : List ℕ) → list_all is_printable rest ≡ true → list_all is_printable ((48 + i) ∷ 32 ∷ rest) ≡ true
one-printable i rest h = let first : is_printable (48 + i) ≡ true = grind (arith, common_steps) in rw (first, h) refl

pub length-ahead : (len : ℕ) (hay : List ℕ) → len < length hay → length (take len hay) ≡ len
length-ahead len hay h = grind (arith, common_steps)

-- a line that lies whole in what is ahead
pub takes-ahead : (ahead rest line : List ℕ) (left : Option (List ℕ)) → ((later : List ℕ) → lines (ahead ++ later) ≡ line ∷ lines (rest ++ later)) → TakesLine (prepend_known ahead left) (prepend_known rest left) true line
takes-ahead ahead rest line None h = tt
takes-ahead ahead rest line (Some ys) h = h ys

pub short-fits : (line : List ℕ) → length line ≤ line_most → fits line ≡ true
short-fits line h = grind (arith, common_steps)

pub long-no_end : (line : List ℕ) → 8 ≤ length line → bytes_eq line (codes "end") ≡ false
long-no_end line h = grind (arith, common_steps)
