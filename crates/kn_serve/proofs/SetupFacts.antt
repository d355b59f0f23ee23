-- A setup that stands alone, from the two calls that read it.
use Rattle.std.proofs.Common.{◌≡◌, ◌≤◌, ◌⊎◌, ◌+◌, ℕ, List, [], refl, sym, ap, ◌∙◌, subst, arith, inl, inr}
use Rattle.std.specs.Prelude.{Option, None, Some, Result, Ok, Err, Bool, true, false, cond, ◌==◌, ◌&&◌, ◌∷◌, ◌++◌, if◌then◌else◌, ⊤}
use Rattle.std.specs.Io.KnownBytes.{prepend_known}
use Rattle.kn_io.specs.Causes.{Rose}
use Rattle.kn_preamble.specs.declared.first.FirstLine.TheVariants.{Journal as JournalLine}
use Rattle.kn_journal.specs.declared.error.JournalError.{JournalError}
use Rattle.kn_journal.specs.declared.error.JournalError.TheVariants as error
use Rattle.kn_journal.specs.declared.journal.Opening.{Opening}
use Rattle.kn_journal.specs.declared.journal.Setup.{Setup}
use Rattle.kn_journal.specs.declared.status.Status.TheVariants as status
use Rattle.kn_journal.specs.Causes.{Cause, after_end, line_too_long}
use Rattle.kn_journal.specs.Journal.{opening_part}
use Rattle.kn_journal.specs.Series.{nothing_part}
use Rattle.kn_journal.specs.Lines.{begins_with_lf, fits, lines, lines_at_lf, onto_first, without_crs}
use Rattle.kn_journal.specs.Parts.{Part, part, then_part}
use Rattle.kn_journal.specs.Bundle.{opening_by}
use Rattle.kn_journal.specs.Telling.{Gives, ReaderState, Refused, Refuses, TellsOpening}
use Rattle.kn_journal.specs.Reading.{EndsThere}
use Rattle.kn_replay.specs.Replaying.{status_of}
use Rattle.kn_serve.specs.Front.{SaysFront}
use Rattle.kn_serve.specs.Setup.{SaysSetup, nothing_behind, setup_alone}

pub rose_on : (a b d : ℕ) → a ≤ b → Rose b d → Rose a d
rose_on a b d h k = grind (arith)

pub either : {A B C D : Type 0} → A ⊎ B → (A → C) → (B → D) → C ⊎ D
either (inl a) f g = inl (f a)
either (inr b) f g = inr (g b)

pub nothing_ahead : (ahead : List ℕ) (left : Option (List ℕ)) → ahead ≡ [] → prepend_known ahead left ≡ left
nothing_ahead ahead None h = refl
nothing_ahead ahead (Some xs) h = rw h refl

-- a reader that is new begins at line 1
pub refused_from_start : (r : ReaderState) (e : JournalError) (xs : Option (List ℕ)) → r.begun ≡ false → r.number ≡ 0 → Refuses (opening_by r.begun r.version r.number) e xs → Refuses (opening_part JournalLine 0) e xs
refused_from_start r e xs begun number h =
    subst (λ (n : ℕ). Refuses (opening_part JournalLine n) e xs) number (subst (λ (b : Bool). Refuses (opening_by b r.version r.number) e xs) begun h)

pub given_from_start : (r : ReaderState) (o : Opening) (n : ℕ) (xs ys : Option (List ℕ)) → r.begun ≡ false → r.number ≡ 0 → Gives (opening_by r.begun r.version r.number) o n xs ys → Gives (opening_part JournalLine 0) o n xs ys
given_from_start r o n xs ys begun number h =
    subst (λ (m : ℕ). Gives (opening_part JournalLine m) o n xs ys) number (subst (λ (b : Bool). Gives (opening_by b r.version r.number) o n xs ys) begun h)

pub memory_said : (left : Option (List ℕ)) → SaysSetup left (Err error.Memory)
memory_said None = tt
memory_said (Some xs) = tt

-- what refuses a first part refuses the whole
refused_then : {S T : Type 0} (e : JournalError) (r : Result (Part S) Cause) (next : S → ℕ → List (List ℕ) → Result (Part T) Cause) → Refused e r → Refused e (then_part r next)
refused_then error.ReadFault r next h = tt
refused_then error.Memory r next h = tt
refused_then {S} {T} _ r next h = (h.0, h.1, ap (λ (x : Result (Part S) Cause). then_part {S = S} {T = Part T} x next) h.2)

pub opening_refused : (left : Option (List ℕ)) (e : JournalError) → Refuses (opening_part JournalLine 0) e left → SaysSetup left (Err e)
opening_refused None e h = tt
opening_refused (Some xs) e h = refused_then e (opening_part JournalLine 0 (lines xs)) nothing_behind h

pub end_refused : (left mid : Option (List ℕ)) (o : Opening) (n : ℕ) (e : JournalError) → Gives (opening_part JournalLine 0) o n left mid → Refuses (nothing_part n) e mid → SaysSetup left (Err e)
end_refused None mid o n e h k = tt
end_refused (Some xs) None o n e h k = absurd h
end_refused (Some xs) (Some ys) o n e h k =
    let whole : setup_alone (lines xs) ≡ nothing_behind o n (lines ys) = ap (λ (r : Result (Part Opening) Cause). then_part r nothing_behind) h in
    subst (Refused e) (sym whole) (refused_then e (nothing_part n (lines ys)) (λ _ m left. Ok (part o m left)) k)

pub setup_said : (left mid new : Option (List ℕ)) (version : ℕ) (setup : Setup) (n m : ℕ) → Gives (opening_part JournalLine 0) (record { version = version; setup = setup }) n left mid
    → Gives (nothing_part n) tt m mid new → SaysSetup left (Ok setup)
setup_said None mid new version setup n m h k = tt
setup_said (Some xs) None new version setup n m h k = absurd h
setup_said (Some xs) (Some ys) None version setup n m h k = absurd k
setup_said (Some xs) (Some ys) (Some zs) version setup n m h k =
    let o : Opening = record { version = version; setup = setup } in
    record {
      version = version;
      number = m;
      left = lines zs;
      read = ap (λ (r : Result (Part Opening) Cause). then_part r nothing_behind) h
          ∙ ap (λ (r : Result (Part ⊤) Cause). then_part r (λ _ m left. Ok (part o m left))) k;
    }

-- ---- a setup, whatever stands behind it

pub front_memory : (left : Option (List ℕ)) → SaysFront left (Err error.Memory)
front_memory None = tt
front_memory (Some xs) = tt

front_said : (version n : ℕ) (left new : Option (List ℕ)) (r : Result Setup JournalError) → TellsOpening (opening_part JournalLine 0) version n left new r → SaysFront left r
front_said version n None new r h = tt
front_said version n (Some xs) None (Ok setup) h = absurd h
front_said version n (Some xs) (Some ys) (Ok setup) h = record { version = version; number = n; left = lines ys; read = h }
front_said version n (Some xs) new (Err e) h = h

-- a reader that is new reads from line 1, with nothing ahead
pub front_from_start : (r : ReaderState) (version n : ℕ) (left new : Option (List ℕ)) (result : Result Setup JournalError) → r.input.ahead ≡ [] → r.begun ≡ false → r.number ≡ 0
    → TellsOpening (opening_by r.begun r.version r.number) version n (prepend_known r.input.ahead left) new result → SaysFront left result
front_from_start r version n left new result ahead begun number h =
    front_said version n left new result
    (subst (λ (x : Option (List ℕ)). TellsOpening (opening_part JournalLine 0) version n x new result) (nothing_ahead r.input.ahead left ahead)
    (subst (λ (m : ℕ). TellsOpening (opening_part JournalLine m) version n (prepend_known r.input.ahead left) new result) number
    (subst (λ (b : Bool). TellsOpening (opening_by b r.version r.number) version n (prepend_known r.input.ahead left) new result) begun h)))

-- ---- bytes without a line are none

some_line : (b : ℕ) (bs : List ℕ) → lines_at_lf (b ∷ bs) ≡ [] → ⊥
unfolding lines_at_lf
some_line b bs e = by_test (b == 10) (lines_at_lf bs) e
  where
    by_test : (t : Bool) (ls : List (List ℕ)) → cond t ([] ∷ ls) (onto_first b ls) ≡ [] → ⊥
    by_test true ls e = cc
    by_test false [] e = cc
    by_test false (l ∷ ls) e = cc

some_byte : (bs : List ℕ) → begins_with_lf bs ≡ true → bs ≡ [] → ⊥
some_byte [] t e = cc
some_byte (b ∷ bs) t e = cc

no_crs : (bs : List ℕ) → without_crs bs ≡ [] → bs ≡ []
unfolding without_crs
no_crs [] e = refl
no_crs (b ∷ bs) e = absurd (by_test (b == 13) (begins_with_lf (without_crs bs)) refl e)
  where
    by_test : (t u : Bool) → begins_with_lf (without_crs bs) ≡ u → cond (t && u) (without_crs bs) (b ∷ without_crs bs) ≡ [] → ⊥
    by_test true true is e = some_byte (without_crs bs) is e
    by_test true false is e = cc
    by_test false u is e = cc

no_lines : (bs : List ℕ) → lines bs ≡ [] → bs ≡ []
unfolding lines
no_lines bs e = no_crs bs (by_cases (without_crs bs) e)
  where
    by_cases : (xs : List ℕ) → lines_at_lf xs ≡ [] → xs ≡ []
    by_cases [] e = refl
    by_cases (x ∷ xs) e = absurd (some_line x xs e)

abbrev left_in : Result (Part ⊤) Cause → List (List ℕ)
left_in (Ok p) = p.left
left_in (Err cause) = []

refused_either : (t : Bool) (a b : Cause) (p : Part ⊤) → (if t then Err a else Err b) ≡ Ok p → ⊥
refused_either true a b p e = cc
refused_either false a b p e = cc

nothing_left : (n m : ℕ) (ls more : List (List ℕ)) (x : ⊤) → nothing_part n ls ≡ Ok (part x m more) → more ≡ []
nothing_left n m [] more x e = sym (ap left_in e)
nothing_left n m (l ∷ ls) more x e = absurd (refused_either (fits l) (after_end (n + 1)) (line_too_long (n + 1)) (part x m more) e)

none_of_both : (xs ys : List ℕ) → xs ++ ys ≡ [] → ys ≡ []
none_of_both [] ys e = e
none_of_both (x ∷ xs) ys e = absurd (cc)

pub drained : (ahead left : List ℕ) → lines (ahead ++ left) ≡ [] → left ≡ []
drained ahead left none = none_of_both ahead left (no_lines (ahead ++ left) none)

-- after the end of the input nothing of it is left
pub read_out : (old mid : Option (List ℕ)) (ahead : List ℕ) (left : Option (List ℕ)) (opening : Opening) (n m : ℕ) → Gives (opening_part JournalLine 0) opening n old mid
    → Gives (nothing_part n) tt m mid (prepend_known ahead left) → EndsThere old left
read_out None mid ahead left opening n m h k = tt
read_out (Some xs) None ahead left opening n m h k = absurd h
read_out (Some xs) (Some ys) ahead None opening n m h k = absurd k
read_out (Some xs) (Some ys) ahead (Some zs) opening n m h k =
    ap (λ l. Some l) (drained ahead zs (nothing_left n m (lines ys) (lines (ahead ++ zs)) _ k))

-- which status an error makes
pub fault_of : (e : JournalError) → status_of e ≡ status.ReadFault → e ≡ error.ReadFault
fault_of error.ReadFault h = refl
fault_of error.Memory h = cc
fault_of (error.BadFirstLine due) h = cc
fault_of (error.BadSetup line why) h = cc
fault_of (error.LineTooLong line) h = cc
fault_of (error.BadLine line why) h = cc
fault_of (error.TimeBack line before own) h = cc
fault_of (error.TimeTooLarge line) h = cc
fault_of error.NoEnd h = cc
fault_of (error.AfterEnd line) h = cc
fault_of (error.TooMany line) h = cc

pub no_write_fault : (e : JournalError) → status_of e ≡ status.WriteFault → ⊥
no_write_fault error.ReadFault h = cc
no_write_fault error.Memory h = cc
no_write_fault (error.BadFirstLine due) h = cc
no_write_fault (error.BadSetup line why) h = cc
no_write_fault (error.LineTooLong line) h = cc
no_write_fault (error.BadLine line why) h = cc
no_write_fault (error.TimeBack line before own) h = cc
no_write_fault (error.TimeTooLarge line) h = cc
no_write_fault error.NoEnd h = cc
no_write_fault (error.AfterEnd line) h = cc
no_write_fault (error.TooMany line) h = cc
