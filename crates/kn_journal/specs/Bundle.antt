-- Journals one after the other, which are a bundle, and setups one after the other: what is read of their lines.
use Rattle.std.specs.Prelude.{ℕ, zero, suc, Bool, true, false, ◌&&◌, ◌++◌, nat_eq, List, [], ◌∷◌, Option, None, Some, Result, Ok, Err, codes, if◌then◌else◌}
use Rattle.std.specs.List.{list_any}
use Rattle.std.specs.Str.{bytes_eq}
use Rattle.kn_event.specs.declared.event.Event.{Event}
use Rattle.kn_event.specs.EventLine.{event_of}
use Rattle.kn_preamble.specs.declared.first.FirstLine.TheVariants.{Journal as JournalLine, Setups as SetupsLine}
use Rattle.kn_preamble.specs.declared.error.SetupError.TheVariants as setup_error
use Rattle.kn_preamble.specs.First.{version_of}
use Rattle.kn_journal.specs.declared.journal.Opening.{Opening}
use Rattle.kn_journal.specs.declared.journal.Setup.{Setup}
use Rattle.kn_journal.specs.Causes.{Cause, after_end, bad_first_line, bad_setup}
use Rattle.kn_journal.specs.Journal.{IsSetup, first_part, in_time, next_part, opening_in, opening_part}
use Rattle.kn_journal.specs.Series.{item_in, nothing_part}
use Rattle.kn_journal.specs.Parts.{Part, part, then_part, with_line}
use Rattle.kn_journal.specs.Setup.{setup_part}

-- ---- the events of a journal in a bundle

abbrev pub next_of_in : ℕ → ℕ → ℕ → List ℕ → List (List ℕ) → Result (Part (Option Event)) Cause
next_of_in version last number line left =
    if bytes_eq line (codes "end") then Ok (part None number left) else item_in number left (in_time number last (event_of version line))

-- the next event after line n and this time, or none at `end`, whatever follows that
unfoldable pub next_of_part : ℕ → ℕ → ℕ → List (List ℕ) → Result (Part (Option Event)) Cause
next_of_part version last n lines = with_line n lines (next_of_in version last)

-- .. of a journal in a bundle, or of one alone
abbrev pub next_by : Bool → ℕ → ℕ → ℕ → List (List ℕ) → Result (Part (Option Event)) Cause
next_by true version last n = next_of_part version last n
next_by false version last n = next_part version last n

-- ---- where the next journal begins

-- why a line is no first line of a journal: it is the first one of all, or it follows an `end`
abbrev pub no_first : ℕ → Cause
no_first number = if nat_eq number 1 then bad_first_line JournalLine else after_end number

abbrev pub version_of_in : ℕ → List (List ℕ) → Option ℕ → Result (Part (Option ℕ)) Cause
version_of_in n left None = Err (no_first n)
version_of_in n left (Some version) = Ok (part (Some version) n left)

abbrev pub first_of_in : ℕ → List ℕ → List (List ℕ) → Result (Part (Option ℕ)) Cause
first_of_in number line left = version_of_in number left (version_of line)

-- the version that the next journal's first line names, after line n, or none where no line is left
abbrev pub first_of_part : ℕ → List (List ℕ) → Result (Part (Option ℕ)) Cause
first_of_part n [] = Ok (part None n [])
first_of_part n (line ∷ more) = with_line n (line ∷ more) first_of_in

-- a setup behind a first line of this version
abbrev pub opening_behind : ℕ → ℕ → List (List ℕ) → Result (Part Opening) Cause
opening_behind version n lines = then_part (setup_part n lines) (λ setup n left. opening_in version n left setup)

-- .. or, where no first line was taken, both
abbrev pub opening_by : Bool → ℕ → ℕ → List (List ℕ) → Result (Part Opening) Cause
opening_by true version n = opening_behind version n
opening_by false version n = opening_part JournalLine n

-- ---- setups

-- each one's text reads as it
abbrev pub AreSetups : List Setup → Type 0
AreSetups [] = Unit {0}
AreSetups (s ∷ more) = IsSetup s × AreSetups more

-- both are of one revision
abbrev pub is_same : Setup → Setup → Bool
is_same x y = bytes_eq x.spec.namespace y.spec.namespace && bytes_eq x.spec.name y.spec.name

abbrev pub new_in : List Setup → Setup → ℕ → List (List ℕ) → Result (Part Setup) Cause
new_in before setup n left = if list_any (is_same setup) before then Err (bad_setup n setup_error.Duplicate) else Ok (part setup n left)

-- a setup after line n, of a revision that none of these is of
unfoldable pub new_part : List Setup → ℕ → List (List ℕ) → Result (Part Setup) Cause
new_part before n lines = then_part (setup_part n lines) (new_in before)

abbrev pub with_setup : List Setup → ℕ → List (List ℕ) → Result (Part (List Setup)) Cause
with_setup before n lines = then_part (new_part before n lines) (λ setup n left. Ok (part (before ++ setup ∷ []) n left))

-- k setups of different revisions after line n: the first ones, and then one more
unfoldable pub setups_behind : ℕ → ℕ → List (List ℕ) → Result (Part (List Setup)) Cause
setups_behind n zero lines = Ok (part [] n lines)
setups_behind n (suc k) lines = then_part (setups_behind n k lines) with_setup

abbrev pub setups_end : List Setup → ℕ → List (List ℕ) → Result (Part (List Setup)) Cause
setups_end setups n lines = then_part (nothing_part n lines) (λ _ n left. Ok (part setups n left))

-- .. behind which no line follows
unfoldable pub setups_part : ℕ → ℕ → List (List ℕ) → Result (Part (List Setup)) Cause
setups_part n k lines = then_part (setups_behind n k lines) setups_end

-- a first line after line n, and then k setups behind which no line follows
unfoldable pub listed_part : ℕ → ℕ → List (List ℕ) → Result (Part (List Setup)) Cause
listed_part n k lines = then_part (first_part SetupsLine n lines) (λ _ n lines. setups_part n k lines)

-- .. from line 1 on
abbrev pub all_setups : ℕ → List (List ℕ) → Result (Part (List Setup)) Cause
all_setups k = listed_part 0 k
