-- A part that is read line by line.
use Rattle.std.proofs.Common.{◌≡◌, ◌+◌, ◌<◌, ◌≤◌, ℕ, Bool, true, false, List, [], ◌∷◌, ◌++◌, length, take, drop, refl, sym, ap, ◌∙◌, subst, arith}
use Rattle.std.specs.Prelude.{Option, None, Some, Result, Ok, Err, codes, nat_le, if◌then◌else◌}
use Rattle.std.specs.Io.KnownBytes.{prepend_known}
use Rattle.std.specs.Str.{bytes_eq}
use Rattle.kn_event.specs.declared.event.Event.{Event}
use Rattle.kn_event.specs.declared.fault.LineError.{LineError}
use Rattle.kn_event.specs.EventLine.{event_of}
use Rattle.std.proofs.lemmas.Grind.{common_steps}
use Rattle.kn_preamble.specs.declared.first.FirstLine.{FirstLine}
use Rattle.kn_preamble.specs.First.{version_by}
use Rattle.kn_journal.specs.declared.error.JournalError.{JournalError}
use Rattle.kn_journal.specs.declared.error.JournalError.TheVariants as error
use Rattle.kn_journal.specs.Causes.{Cause, after_end, bad_first_line, bad_line, error_of, line_too_long, no_end, time_back, time_too_large}
use Rattle.kn_journal.specs.Bundle.{next_by, next_of_in, next_of_part}
use Rattle.kn_journal.specs.Journal.{first_in, first_part, in_time, next_in, next_part, start_line_in, start_of, start_part, time_most}
use Rattle.kn_journal.specs.Series.{end_part, item_in, nothing_part}
use Rattle.kn_journal.specs.Lines.{fits, line_most, lines, lines_at_lf, without_crs}
use Rattle.kn_journal.specs.Parts.{Part, part, then_part, with_line}
use Rattle.kn_journal.specs.Reading.{Counts, HasLongLine, TakesLine, TakesText}
use Rattle.kn_journal.specs.Telling.{Gives, IsCauseOf, Judges, Lacks, Refused, Refuses, Tells}

pub lines-nil : lines [] ≡ []
unfolding lines lines_at_lf without_crs
lines-nil = refl

-- ---- no line

pub lacks_end : (n : ℕ) (old new : Option (List ℕ)) (line : List ℕ) → TakesLine old new false line → Lacks n error.NoEnd old
lacks_end n None new line h = tt
lacks_end n (Some xs) None line h = absurd h
lacks_end n (Some xs) (Some ys) line h = ap lines h ∙ lines-nil

no_fit : (line : List ℕ) → line_most < length line → fits line ≡ false
no_fit line h = grind (arith, common_steps)

pub lacks_long : (n m : ℕ) (old : Option (List ℕ)) → m ≡ n + 1 → HasLongLine old → Lacks n (error.LineTooLong m) old
lacks_long n m None e h = tt
lacks_long n m (Some xs) e (l, ls, all, long) = (e, l, ls, all, no_fit l long)

pub lacks_fault : (n : ℕ) (old : Option (List ℕ)) → Lacks n error.ReadFault old
lacks_fault n None = tt
lacks_fault n (Some xs) = tt

pub lacks_refuses : {T : Type 0} (n : ℕ) (e : JournalError) (old : Option (List ℕ)) (next : ℕ → List ℕ → List (List ℕ) → Result (Part T) Cause) → Lacks n e old
    → Refuses (λ ls. with_line n ls next) e old
lacks_refuses n e None next h = tt
lacks_refuses n error.ReadFault (Some xs) next h = tt
lacks_refuses n (error.LineTooLong m) (Some xs) next (is, l, more, all, long) =
    (line_too_long (n + 1), ap error.LineTooLong (sym is), rw (all, long) refl)
lacks_refuses n (error.BadFirstLine due) (Some xs) next h = absurd h
lacks_refuses n (error.BadSetup m why) (Some xs) next h = absurd h
lacks_refuses n (error.BadLine m why) (Some xs) next h = absurd h
lacks_refuses n (error.TimeBack m t u) (Some xs) next h = absurd h
lacks_refuses n (error.TimeTooLarge m) (Some xs) next h = absurd h
lacks_refuses n error.NoEnd (Some xs) next h = (no_end, refl, rw h refl)
lacks_refuses n (error.AfterEnd m) (Some xs) next h = absurd h
lacks_refuses n (error.TooMany m) (Some xs) next h = absurd h
lacks_refuses n error.Memory (Some xs) next h = absurd h

pub memory-refuses : {T : Type 0} (read : List (List ℕ) → Result (Part T) Cause) (old : Option (List ℕ)) → Refuses read error.Memory old
memory-refuses read None = tt
memory-refuses read (Some xs) = tt

-- ---- a line that is judged

pub line-gives : {T : Type 0} (n : ℕ) (old new : Option (List ℕ)) (line : List ℕ) (next : ℕ → List ℕ → List (List ℕ) → Result (Part T) Cause) (x : T) → TakesLine old new true line
    → fits line ≡ true → ((left : List (List ℕ)) → next (n + 1) line left ≡ Ok (part x (n + 1) left)) → Gives (λ ls. with_line n ls next) x (n + 1) old new
line-gives n None new line next x h fit j = tt
line-gives n (Some xs) None line next x h fit j = absurd h
line-gives n (Some xs) (Some ys) line next x h fit j = rw (h, fit) (j (lines ys))

refused-cause : {T : Type 0} (e : JournalError) (r : Result (Part T) Cause) (cause : Cause) → error_of cause ≡ e → r ≡ Err cause → Refused e r
refused-cause error.ReadFault r cause e h = tt
refused-cause error.Memory r cause e h = tt
refused-cause (error.LineTooLong m) r cause e h = (cause, e, h)
refused-cause (error.BadFirstLine due) r cause e h = (cause, e, h)
refused-cause (error.BadSetup m why) r cause e h = (cause, e, h)
refused-cause (error.BadLine m why) r cause e h = (cause, e, h)
refused-cause (error.TimeBack m t u) r cause e h = (cause, e, h)
refused-cause (error.TimeTooLarge m) r cause e h = (cause, e, h)
refused-cause error.NoEnd r cause e h = (cause, e, h)
refused-cause (error.AfterEnd m) r cause e h = (cause, e, h)
refused-cause (error.TooMany m) r cause e h = (cause, e, h)

-- what is refused one way is refused another, where its cause is that of the other
pub refused-on : {S T : Type 0} (e : JournalError) (r : Result (Part S) Cause) (s : Result (Part T) Cause) → ((cause : Cause) → r ≡ Err cause → s ≡ Err cause) → Refused e r → Refused e s
refused-on error.ReadFault r s f h = tt
refused-on error.Memory r s f h = tt
refused-on (error.LineTooLong m) r s f h = (h.0, h.1, f h.0 h.2)
refused-on (error.BadFirstLine due) r s f h = (h.0, h.1, f h.0 h.2)
refused-on (error.BadSetup m why) r s f h = (h.0, h.1, f h.0 h.2)
refused-on (error.BadLine m why) r s f h = (h.0, h.1, f h.0 h.2)
refused-on (error.TimeBack m t u) r s f h = (h.0, h.1, f h.0 h.2)
refused-on (error.TimeTooLarge m) r s f h = (h.0, h.1, f h.0 h.2)
refused-on error.NoEnd r s f h = (h.0, h.1, f h.0 h.2)
refused-on (error.AfterEnd m) r s f h = (h.0, h.1, f h.0 h.2)
refused-on (error.TooMany m) r s f h = (h.0, h.1, f h.0 h.2)

pub line-refuses : {T : Type 0} (n : ℕ) (old new : Option (List ℕ)) (line : List ℕ) (next : ℕ → List ℕ → List (List ℕ) → Result (Part T) Cause) (e : JournalError) → TakesLine old new true line
    → fits line ≡ true → (cause : Cause) → error_of cause ≡ e → ((left : List (List ℕ)) → next (n + 1) line left ≡ Err cause) → Refuses (λ ls. with_line n ls next) e old
line-refuses n None new line next e h fit cause is j = tt
line-refuses n (Some xs) None line next e h fit cause is j = absurd h
line-refuses n (Some xs) (Some ys) line next e h fit cause is j = refused-cause e _ cause is (rw (h, fit) (j (lines ys)))

pub line-tells : {T : Type 0} (n number : ℕ) (old new : Option (List ℕ)) (line : List ℕ) (next : ℕ → List ℕ → List (List ℕ) → Result (Part T) Cause) (r : Result T JournalError)
    → TakesLine old new true line → fits line ≡ true → number ≡ n + 1 → Judges next number line r → Tells (λ ls. with_line n ls next) number old new r
line-tells n number old new line next (Ok x) h fit e j =
    let P : ℕ → Type 0 = λ m. Judges next m line (Ok x) → Tells (λ ls. with_line n ls next) m old new (Ok x) in
    subst P (sym e) (λ k. line-gives n old new line next x h fit k) j
line-tells n number old new line next (Err why) h fit e j =
    let P : ℕ → Type 0 = λ m. Judges next m line (Err why) → Refuses (λ ls. with_line n ls next) why old in
    subst P (sym e) (λ k. line-refuses n old new line next why h fit k.0 k.1 k.2) j

-- a line, and then what it asks for
pub line-then : {T : Type 0} (n k : ℕ) (old mid new : Option (List ℕ)) (line : List ℕ) (next : ℕ → List ℕ → List (List ℕ) → Result (Part T) Cause) (r : Result T JournalError)
    → TakesLine old mid true line → fits line ≡ true → Tells (next (n + 1) line) k mid new r → Tells (λ ls. with_line n ls next) k old new r
line-then n k None mid new line next (Ok x) h fit t = tt
line-then n k (Some xs) None new line next (Ok x) h fit t = absurd h
line-then n k (Some xs) (Some ys) None line next (Ok x) h fit t = absurd t
line-then n k (Some xs) (Some ys) (Some zs) line next (Ok x) h fit t = rw (h, fit) t
line-then n k None mid new line next (Err e) h fit t = tt
line-then n k (Some xs) None new line next (Err e) h fit t = absurd h
line-then n k (Some xs) (Some ys) new line next (Err e) h fit t = refused-on e (next (n + 1) line (lines ys)) _ (λ cause g. rw (h, fit) g) t

-- ---- one part after the other

pub then-gives : {S T : Type 0} (first : List (List ℕ) → Result (Part S) Cause) (second : S → ℕ → List (List ℕ) → Result (Part T) Cause) (x : S) (m n : ℕ) (old mid new : Option (List ℕ))
    (r : Result T JournalError) → Gives first x m old mid → Tells (second x m) n mid new r → Tells (λ ls. then_part (first ls) second) n old new r
then-gives first second x m n None mid new (Ok y) g k = tt
then-gives first second x m n (Some xs) None new (Ok y) g k = absurd g
then-gives first second x m n (Some xs) (Some ys) None (Ok y) g k = absurd k
then-gives first second x m n (Some xs) (Some ys) (Some zs) (Ok y) g k = rw g k
then-gives first second x m n None mid new (Err e) g k = tt
then-gives first second x m n (Some xs) None new (Err e) g k = absurd g
then-gives first second x m n (Some xs) (Some ys) new (Err e) g k = refused-on e (second x m (lines ys)) _ (λ cause h. rw g h) k

pub then-refuses : {S T : Type 0} (first : List (List ℕ) → Result (Part S) Cause) (second : S → ℕ → List (List ℕ) → Result (Part T) Cause) (e : JournalError) (old : Option (List ℕ))
    → Refuses first e old → Refuses (λ ls. then_part (first ls) second) e old
then-refuses first second e None h = tt
then-refuses first second e (Some xs) h = refused-on e (first (lines xs)) _ (λ cause k. rw k refl) h

-- ---- the lines of a journal

pub first-tells : (due : FirstLine) (n number : ℕ) (old new : Option (List ℕ)) (line : List ℕ) (r : Result ℕ JournalError)
    → TakesLine old new true line → fits line ≡ true → number ≡ n + 1 → Judges (first_in due) number line r → Tells (first_part due n) number old new r
unfolding first_part
first-tells due n number old new line r h fit e j = line-tells n number old new line (first_in due) r h fit e j

pub no-version : (number : ℕ) (line : List ℕ) (due : FirstLine) → None ≡ version_by due line → Judges (first_in due) number line (Err (error.BadFirstLine due))
no-version number line due h = (bad_first_line due, refl, λ left. rw (sym h) refl)

pub first-refuses : (due : FirstLine) (n : ℕ) (e : JournalError) (old : Option (List ℕ)) → Lacks n e old → Refuses (first_part due n) e old
unfolding first_part
first-refuses due n e old h = lacks_refuses n e old (first_in due) h

pub start-tells : (n number : ℕ) (old new : Option (List ℕ)) (line : List ℕ) (r : Result ℕ JournalError)
    → TakesLine old new true line → fits line ≡ true → number ≡ n + 1 → Judges start_line_in number line r → Tells (start_part n) number old new r
unfolding start_part
start-tells n number old new line r h fit e j = line-tells n number old new line start_line_in r h fit e j

pub start-refuses : (n : ℕ) (e : JournalError) (old : Option (List ℕ)) → Lacks n e old → Refuses (start_part n) e old
unfolding start_part
start-refuses n e old h = lacks_refuses n e old start_line_in h

pub start-late : (number time : ℕ) (line : List ℕ) → Ok time ≡ start_of line → time_most < time → Judges start_line_in number line (Err (error.TimeTooLarge number))
start-late number time line h late =
    let large : nat_le time time_most ≡ false = grind (arith, common_steps) in
    (time_too_large number, refl, λ left. rw (sym h, large) refl)

pub start-bad : (number : ℕ) (why : LineError) (line : List ℕ) → Err why ≡ start_of line → Judges start_line_in number line (Err (error.BadLine number why))
start-bad number why line h = (bad_line number why, refl, λ left. rw (sym h) refl)

-- ---- an event's line

pub event-late : (n last : ℕ) (e : Event) (r : Result Event LineError) → Ok e ≡ r → time_most < e.time → IsCauseOf (error.TimeTooLarge n) (in_time n last r)
event-late n last e r h late =
    let large : nat_le e.time time_most ≡ false = grind (arith, common_steps) in
    (time_too_large n, refl, rw (sym h, large) refl)

pub event-back : (n last : ℕ) (e : Event) (r : Result Event LineError) → Ok e ≡ r → e.time ≤ time_most → e.time < last → IsCauseOf (error.TimeBack n last e.time) (in_time n last r)
event-back n last e r h most back =
    let small : nat_le e.time time_most ≡ true = grind (arith, common_steps) in
    let order : nat_le last e.time ≡ false = grind (arith, common_steps) in
    (time_back n last e.time, refl, rw (sym h, small, order) refl)

pub event-bad : (n last : ℕ) (why : LineError) (r : Result Event LineError) → Err why ≡ r → IsCauseOf (error.BadLine n why) (in_time n last r)
event-bad n last why r h = (bad_line n why, refl, rw (sym h) refl)

-- an event's line, or `end` and what is asked for behind it
abbrev next_with : (ℕ → List (List ℕ) → Result (Part (Option Event)) Cause) → ℕ → ℕ → ℕ → List ℕ → List (List ℕ) → Result (Part (Option Event)) Cause
next_with ended version last number line left =
    if bytes_eq line (codes "end") then ended number left else item_in number left (in_time number last (event_of version line))

-- nothing
abbrev whatever : ℕ → List (List ℕ) → Result (Part (Option Event)) Cause
whatever n left = Ok (part None n left)

event-with : (ended : ℕ → List (List ℕ) → Result (Part (Option Event)) Cause) (version last n number : ℕ) (old new : Option (List ℕ)) (line : List ℕ) (e : Event) → TakesLine old new true line → fits line ≡ true → number ≡ n + 1
    → bytes_eq line (codes "end") ≡ false → in_time number last (event_of version line) ≡ Ok e → Gives (λ ls. with_line n ls (next_with ended version last)) (Some e) number old new
event-with ended version last n number old new line e h fit is other read =
    let read_as : in_time (n + 1) last (event_of version line) ≡ Ok e = subst (λ (m : ℕ). in_time m last (event_of version line) ≡ Ok e) is read in
    let P : ℕ → Type 0 = λ m. Gives (λ ls. with_line n ls (next_with ended version last)) (Some e) m old new in
    subst P (sym is) (line-gives n old new line (next_with ended version last) (Some e) h fit (λ left. rw (other, read_as) refl))

-- an event that was read, or why none was
pub next-event : (bundle : Bool) (version last n number : ℕ) (old new : Option (List ℕ)) (line : List ℕ) (e : Event) → TakesLine old new true line → fits line ≡ true → number ≡ n + 1
    → bytes_eq line (codes "end") ≡ false → in_time number last (event_of version line) ≡ Ok e → Tells (next_by bundle version last n) number old new (Ok (Some e))
unfolding next_part next_of_part
next-event true version last n number old new line e h fit is other read = event-with whatever version last n number old new line e h fit is other read
next-event false version last n number old new line e h fit is other read = event-with end_part version last n number old new line e h fit is other read

-- a line that lies whole in what is ahead
takes-ahead : (len : ℕ) (ahead line : List ℕ) (left : Option (List ℕ)) → ((later : List ℕ) → lines (ahead ++ later) ≡ line ∷ lines (drop (len + 1) ahead ++ later))
    → TakesLine (prepend_known ahead left) (prepend_known (drop (len + 1) ahead) left) true line
takes-ahead len ahead line None h = tt
takes-ahead len ahead line (Some ys) h = h ys

pub short-fits : (line : List ℕ) → length line ≤ line_most → fits line ≡ true
short-fits line h = grind (arith, common_steps)

not_end : (line : List ℕ) → 6 ≤ length line → bytes_eq line (codes "end") ≡ false
not_end line h = grind (arith, common_steps)

pub length-ahead : (len : ℕ) (ahead : List ℕ) → len < length ahead → length (take len ahead) ≡ len
length-ahead len ahead h = grind (arith, common_steps)

pub ahead-event : (bundle : Bool) (version last n number len : ℕ) (ahead line : List ℕ) (left : Option (List ℕ)) (e : Event)
    → ((later : List ℕ) → lines (ahead ++ later) ≡ line ∷ lines (drop (len + 1) ahead ++ later)) → length line ≤ line_most → 6 ≤ length line → number ≡ n + 1
    → in_time (n + 1) last (event_of version line) ≡ Ok e
    → Tells (next_by bundle version last n) number (prepend_known ahead left) (prepend_known (drop (len + 1) ahead) left) (Ok (Some e))
ahead-event bundle version last n number len ahead line left e first fit bytes is read =
    next-event bundle version last n number (prepend_known ahead left) (prepend_known (drop (len + 1) ahead) left) line e (takes-ahead len ahead line left first)
    (short-fits line fit) is (not_end line bytes) (rw is read)

refused-with : (ended : ℕ → List (List ℕ) → Result (Part (Option Event)) Cause) (version last n number : ℕ) (old new : Option (List ℕ)) (line : List ℕ) (e : JournalError) → TakesLine old new true line → fits line ≡ true → number ≡ n + 1
    → bytes_eq line (codes "end") ≡ false → IsCauseOf e (in_time number last (event_of version line)) → Refuses (λ ls. with_line n ls (next_with ended version last)) e old
refused-with ended version last n number old new line e h fit is other (cause, error, read) =
    let read_as : in_time (n + 1) last (event_of version line) ≡ Err cause = subst (λ (m : ℕ). in_time m last (event_of version line) ≡ Err cause) is read in
    line-refuses n old new line (next_with ended version last) e h fit cause error (λ left. rw (other, read_as) refl)

pub next-refused : (bundle : Bool) (version last n number : ℕ) (old new : Option (List ℕ)) (line : List ℕ) (e : JournalError) → TakesLine old new true line → fits line ≡ true → number ≡ n + 1
    → bytes_eq line (codes "end") ≡ false → IsCauseOf e (in_time number last (event_of version line)) → Refuses (next_by bundle version last n) e old
unfolding next_part next_of_part
next-refused true version last n number old new line e h fit is other why = refused-with whatever version last n number old new line e h fit is other why
next-refused false version last n number old new line e h fit is other why = refused-with end_part version last n number old new line e h fit is other why

pub next-lacks : (bundle : Bool) (version last n : ℕ) (e : JournalError) (old : Option (List ℕ)) → Lacks n e old → Refuses (next_by bundle version last n) e old
unfolding next_part next_of_part
next-lacks true version last n e old h = lacks_refuses n e old (next_of_in version last) h
next-lacks false version last n e old h = lacks_refuses n e old (next_in version last) h

-- `end` in a bundle
pub next-closed : (bundle : Bool) (version last n number : ℕ) (old new : Option (List ℕ)) (line : List ℕ) → bundle ≡ true → TakesLine old new true line → fits line ≡ true → number ≡ n + 1
    → bytes_eq line (codes "end") ≡ true → Gives (next_by bundle version last n) None number old new
unfolding next_of_part
next-closed true version last n number old new line true_is h fit is ends =
    let P : ℕ → Type 0 = λ m. Gives (λ ls. with_line n ls (next_of_in version last)) None m old new in
    subst P (sym is) (line-gives n old new line (next_of_in version last) None h fit (λ left. rw ends refl))
next-closed false version last n number old new line true_is h fit is ends = cc

-- ---- the end

no_more : (ys : List ℕ) (x y : ℕ) → x + 0 ≡ y + length ys → x ≤ y → ys ≡ []
no_more [] x y h k = refl
no_more (b ∷ ys) x y h k = absurd (omega (arith, h, k))

pub end-none : (n m x y : ℕ) (old new : Option (List ℕ)) (line : List ℕ) → n ≡ m → TakesLine old new false line → Counts old new x y → x ≤ y → Gives (nothing_part n) tt m old new
end-none n m x y None new line e h c k = tt
end-none n m x y (Some xs) None line e h c k = absurd h
end-none n m x y (Some xs) (Some ys) line e h c k =
    let P : List ℕ → Type 0 = λ zs. x + length zs ≡ y + length ys in
    let none : ys ≡ [] = no_more ys x y (subst P h c) k in
    rw (h, none, lines-nil, e) refl

pub end-more : (n m : ℕ) (old new : Option (List ℕ)) (line : List ℕ) → m ≡ n + 1 → TakesLine old new true line → fits line ≡ true → Refuses (nothing_part n) (error.AfterEnd m) old
end-more n m None new line e h fit = tt
end-more n m (Some xs) None line e h fit = absurd h
end-more n m (Some xs) (Some ys) line e h fit = (after_end (n + 1), ap error.AfterEnd (sym e), rw (h, fit) refl)

pub end-long : (n m : ℕ) (old : Option (List ℕ)) → m ≡ n + 1 → HasLongLine old → Refuses (nothing_part n) (error.LineTooLong m) old
end-long n m None e h = tt
end-long n m (Some xs) e (l, ls, all, long) = (line_too_long (n + 1), ap error.LineTooLong (sym e), rw (all, no_fit l long) refl)

-- the line `end`, and then the end of the input
pub next-ended : (u : Unit {0}) (version last n number k : ℕ) (old mid new : Option (List ℕ)) (line : List ℕ) → TakesLine old mid true line → fits line ≡ true
    → number ≡ n + 1 → bytes_eq line (codes "end") ≡ true → Gives (nothing_part number) u k mid new → Gives (next_part version last n) None k old new
unfolding next_part
next-ended u version last n number k None mid new line h fit is ends t = tt
next-ended u version last n number k (Some xs) None new line h fit is ends t = absurd h
next-ended u version last n number k (Some xs) (Some ys) None line h fit is ends t = absurd t
next-ended u version last n number k (Some xs) (Some ys) (Some zs) line h fit is ends t = rw (h, fit, ends, ← is) (rw t refl)

-- the line `end`, behind which the input said its end
pub next-cut : (version last n number : ℕ) (old new : Option (List ℕ)) (line : List ℕ) → TakesLine old new true line → TakesText true old new → fits line ≡ true → number ≡ n + 1
    → bytes_eq line (codes "end") ≡ true → Gives (next_part version last n) None number old new
next-cut version last n number None new line h cut fit is ends = tt
next-cut version last n number (Some xs) None line h cut fit is ends = absurd h
next-cut version last n number (Some xs) (Some ys) line h (text, split, none) fit is ends =
    let no_line : lines ys ≡ [] = ap lines none ∙ lines-nil in
    next-ended tt version last n number number (Some xs) (Some ys) (Some ys) line h fit is ends (rw no_line refl)

pub next-more : (version last n number : ℕ) (old mid : Option (List ℕ)) (line : List ℕ) (e : JournalError) → TakesLine old mid true line → fits line ≡ true
    → number ≡ n + 1 → bytes_eq line (codes "end") ≡ true → Refuses (nothing_part number) e mid → Refuses (next_part version last n) e old
unfolding next_part
next-more version last n number None mid line e h fit is ends t = tt
next-more version last n number (Some xs) None line e h fit is ends t = absurd h
next-more version last n number (Some xs) (Some ys) line e h fit is ends t =
    refused-on e (nothing_part number (lines ys)) _ (λ cause g. rw (h, fit, ends, ← is) (rw g refl)) t
