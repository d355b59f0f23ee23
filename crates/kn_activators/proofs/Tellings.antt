-- A part that is read line by line, and one part after the other.
use Rattle.std.proofs.Common.{◌≡◌, ◌+◌, ℕ, true, List, refl, sym, ap, subst}
use Rattle.std.specs.Prelude.{IfErr, IfOk, Option, None, Some, Result, Ok, Err}
use Rattle.kn_journal.specs.declared.error.JournalError.{JournalError}
use Rattle.kn_journal.specs.declared.error.JournalError.TheVariants as error
use Rattle.kn_journal.specs.Causes.{Cause, error_of, line_too_long, no_end}
use Rattle.kn_journal.specs.Lines.{fits, lines}
use Rattle.kn_journal.specs.Parts.{Part, part, then_part, with_line}
use Rattle.kn_journal.specs.Reading.{TakesLine}
use Rattle.kn_journal.specs.Telling.{Gives, Judges, Lacks, Refused, Refuses, Tells}

-- ---- what a call tells

pub tells_gives : {T : Type 0} (read : List (List ℕ) → Result (Part T) Cause) (n : ℕ) (old new : Option (List ℕ)) (r : Result T JournalError) → Tells read n old new r
    → IfOk r (λ x. Gives read x n old new)
tells_gives read n old new (Ok x) h = h
tells_gives read n old new (Err e) h = tt

pub tells_refuses : {T : Type 0} (P : Type 0) (read : List (List ℕ) → Result (Part T) Cause) (n : ℕ) (old new : Option (List ℕ)) (r : Result T JournalError) → Tells read n old new r
    → IfErr r (λ e. P → Refuses read e old)
tells_refuses P read n old new (Ok x) h = tt
tells_refuses P read n old new (Err e) h = λ over. h

-- ---- no line

pub lacks_refuses : {T : Type 0} (n : ℕ) (e : JournalError) (old : Option (List ℕ)) (next : ℕ → List ℕ → List (List ℕ) → Result (Part T) Cause) → Lacks n e old
    → Refuses (λ ls. with_line n ls next) e old
lacks_refuses n e None next h = tt
lacks_refuses n error.ReadFault (Some xs) next h = tt
lacks_refuses n (error.LineTooLong m) (Some xs) next (is, l, more, all, long) =
    (line_too_long (n + 1), ap error.LineTooLong (sym is), rw (all, long) refl)
lacks_refuses n (error.BadFirstLine due) (Some xs) next h = absurd h
lacks_refuses n (error.BadSetup m why) (Some xs) next h = absurd h
lacks_refuses n (error.BadLine m why) (Some xs) next h = absurd h
lacks_refuses n (error.TimeBack m t u) (Some xs) next h = absurd h
lacks_refuses n (error.TimeTooLarge m) (Some xs) next h = absurd h
lacks_refuses n error.NoEnd (Some xs) next h = (no_end, refl, rw h refl)
lacks_refuses n (error.AfterEnd m) (Some xs) next h = absurd h
lacks_refuses n (error.TooMany m) (Some xs) next h = absurd h
lacks_refuses n error.Memory (Some xs) next h = absurd h

pub memory-refuses : {T : Type 0} (read : List (List ℕ) → Result (Part T) Cause) (old : Option (List ℕ)) → Refuses read error.Memory old
memory-refuses read None = tt
memory-refuses read (Some xs) = tt

-- ---- a line that is judged

pub line-gives : {T : Type 0} (n : ℕ) (old new : Option (List ℕ)) (line : List ℕ) (next : ℕ → List ℕ → List (List ℕ) → Result (Part T) Cause) (x : T) → TakesLine old new true line
    → fits line ≡ true → ((left : List (List ℕ)) → next (n + 1) line left ≡ Ok (part x (n + 1) left)) → Gives (λ ls. with_line n ls next) x (n + 1) old new
line-gives n None new line next x h fit j = tt
line-gives n (Some xs) None line next x h fit j = absurd h
line-gives n (Some xs) (Some ys) line next x h fit j = rw (h, fit) (j (lines ys))

refused-cause : {T : Type 0} (e : JournalError) (r : Result (Part T) Cause) (cause : Cause) → error_of cause ≡ e → r ≡ Err cause → Refused e r
refused-cause error.ReadFault r cause e h = tt
refused-cause error.Memory r cause e h = tt
refused-cause (error.LineTooLong m) r cause e h = (cause, e, h)
refused-cause (error.BadFirstLine due) r cause e h = (cause, e, h)
refused-cause (error.BadSetup m why) r cause e h = (cause, e, h)
refused-cause (error.BadLine m why) r cause e h = (cause, e, h)
refused-cause (error.TimeBack m t u) r cause e h = (cause, e, h)
refused-cause (error.TimeTooLarge m) r cause e h = (cause, e, h)
refused-cause error.NoEnd r cause e h = (cause, e, h)
refused-cause (error.AfterEnd m) r cause e h = (cause, e, h)
refused-cause (error.TooMany m) r cause e h = (cause, e, h)

-- what is refused one way is refused another, where its cause is that of the other
pub refused-on : {S T : Type 0} (e : JournalError) (r : Result (Part S) Cause) (s : Result (Part T) Cause) → ((cause : Cause) → r ≡ Err cause → s ≡ Err cause) → Refused e r → Refused e s
refused-on error.ReadFault r s f h = tt
refused-on error.Memory r s f h = tt
refused-on (error.LineTooLong m) r s f h = (h.0, h.1, f h.0 h.2)
refused-on (error.BadFirstLine due) r s f h = (h.0, h.1, f h.0 h.2)
refused-on (error.BadSetup m why) r s f h = (h.0, h.1, f h.0 h.2)
refused-on (error.BadLine m why) r s f h = (h.0, h.1, f h.0 h.2)
refused-on (error.TimeBack m t u) r s f h = (h.0, h.1, f h.0 h.2)
refused-on (error.TimeTooLarge m) r s f h = (h.0, h.1, f h.0 h.2)
refused-on error.NoEnd r s f h = (h.0, h.1, f h.0 h.2)
refused-on (error.AfterEnd m) r s f h = (h.0, h.1, f h.0 h.2)
refused-on (error.TooMany m) r s f h = (h.0, h.1, f h.0 h.2)

pub line-refuses : {T : Type 0} (n : ℕ) (old new : Option (List ℕ)) (line : List ℕ) (next : ℕ → List ℕ → List (List ℕ) → Result (Part T) Cause) (e : JournalError) → TakesLine old new true line
    → fits line ≡ true → (cause : Cause) → error_of cause ≡ e → ((left : List (List ℕ)) → next (n + 1) line left ≡ Err cause) → Refuses (λ ls. with_line n ls next) e old
line-refuses n None new line next e h fit cause is j = tt
line-refuses n (Some xs) None line next e h fit cause is j = absurd h
line-refuses n (Some xs) (Some ys) line next e h fit cause is j = refused-cause e _ cause is (rw (h, fit) (j (lines ys)))

pub line-tells : {T : Type 0} (n number : ℕ) (old new : Option (List ℕ)) (line : List ℕ) (next : ℕ → List ℕ → List (List ℕ) → Result (Part T) Cause) (r : Result T JournalError)
    → TakesLine old new true line → fits line ≡ true → number ≡ n + 1 → Judges next number line r → Tells (λ ls. with_line n ls next) number old new r
line-tells n number old new line next (Ok x) h fit e j =
    let P : ℕ → Type 0 = λ m. Judges next m line (Ok x) → Tells (λ ls. with_line n ls next) m old new (Ok x) in
    subst P (sym e) (λ k. line-gives n old new line next x h fit k) j
line-tells n number old new line next (Err why) h fit e j =
    let P : ℕ → Type 0 = λ m. Judges next m line (Err why) → Refuses (λ ls. with_line n ls next) why old in
    subst P (sym e) (λ k. line-refuses n old new line next why h fit k.0 k.1 k.2) j

-- ---- one part after the other

pub then-gives : {S T : Type 0} (first : List (List ℕ) → Result (Part S) Cause) (second : S → ℕ → List (List ℕ) → Result (Part T) Cause) (x : S) (m n : ℕ) (old mid new : Option (List ℕ))
    (r : Result T JournalError) → Gives first x m old mid → Tells (second x m) n mid new r → Tells (λ ls. then_part (first ls) second) n old new r
then-gives first second x m n None mid new (Ok y) g k = tt
then-gives first second x m n (Some xs) None new (Ok y) g k = absurd g
then-gives first second x m n (Some xs) (Some ys) None (Ok y) g k = absurd k
then-gives first second x m n (Some xs) (Some ys) (Some zs) (Ok y) g k = rw g k
then-gives first second x m n None mid new (Err e) g k = tt
then-gives first second x m n (Some xs) None new (Err e) g k = absurd g
then-gives first second x m n (Some xs) (Some ys) new (Err e) g k = refused-on e (second x m (lines ys)) _ (λ cause h. rw g h) k

pub then-refuses : {S T : Type 0} (first : List (List ℕ) → Result (Part S) Cause) (second : S → ℕ → List (List ℕ) → Result (Part T) Cause) (e : JournalError) (old : Option (List ℕ))
    → Refuses first e old → Refuses (λ ls. then_part (first ls) second) e old
then-refuses first second e None h = tt
then-refuses first second e (Some xs) h = refused-on e (first (lines xs)) _ (λ cause k. rw k refl) h
