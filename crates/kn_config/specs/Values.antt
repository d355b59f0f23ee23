-- What the text of a key says: first its grammar, then its range.
use Rattle.std.specs.Prelude.{ℕ, ◌*◌, ◌/◌, ◌%◌, ◌&&◌, ◌||◌, ◌==◌, nat_le, bytes_eq, Bool, true, false, List, Option, Some, None, Result, Ok, Err, if◌then◌else◌, codes}
use Rattle.serde_json.specs.Data.{Data, null, boolean, number, string, array, object}
use Rattle.kn_event.specs.declared.units.Milli.{Milli}
use Rattle.kn_event.specs.declared.revision.Burst.{Burst}
use Rattle.kn_event.specs.declared.revision.Burst.TheVariants.{Unlimited, Capacity}
use Rattle.kn_event.specs.Defaults.{milli}
use Rattle.kn_num.specs.declared.error.NumError.{NumError}
use Rattle.kn_num.specs.declared.error.NumError.TheVariants.{BadByte}
use Rattle.kn_num.specs.Number.{milli_of, whole_of}
use Rattle.kn_num.specs.Duration.{duration_ms_of}
use Rattle.kn_config.specs.declared.key.Key.{Key}
use Rattle.kn_config.specs.declared.value.KeyError.{KeyError}
use Rattle.kn_config.specs.declared.value.KeyError.TheVariants.{NotText, BadValue, OutOfRange}
use Rattle.kn_config.specs.Keys.{rule_of, IsInRange}

-- a step that may find a fault, and the next one, which is given what it found
infixl 10 ◌>>=◌
abbrev pub ◌>>=◌ : {A B : Type 0} → Result A KeyError → (A → Result B KeyError) → Result B KeyError
(Ok x) >>= next = next x
(Err fault) >>= next = Err fault

-- what the grammar said
abbrev pub graded : {A : Type 0} → Key → Result A NumError → Result A KeyError
graded key (Ok x) = Ok x
graded key (Err fault) = Err (BadValue key fault)

-- the amount, where it lies in the key's range
abbrev pub in_range : Key → ℕ → Result ℕ KeyError
in_range key amount = if nat_le (rule_of key).least amount && nat_le amount (rule_of key).most then Ok amount else Err (OutOfRange key)

abbrev pub number_of : Key → List ℕ → Result Milli KeyError
number_of key text = graded key (milli_of text) >>= λ number. in_range key number.0 >>= λ amount. Ok (milli amount)

-- a value up to 1 is a fraction, and is taken times 100
abbrev pub percentage_of : Key → List ℕ → Result Milli KeyError
percentage_of key text = graded key (milli_of text) >>= λ number.
    in_range key (if nat_le number.0 1000 then 100 * number.0 else number.0) >>= λ amount. Ok (milli amount)

abbrev pub burst_of : Key → List ℕ → Result Burst KeyError
burst_of key text = if bytes_eq text (codes "-1") then Ok Unlimited else (number_of key text >>= λ number. Ok (Capacity number))

-- in milliseconds
abbrev pub duration_of : Key → List ℕ → Result ℕ KeyError
duration_of key text = graded key (duration_ms_of text) >>= in_range key

-- in seconds, which are whole
abbrev pub seconds_of : Key → List ℕ → Result ℕ KeyError
seconds_of key text = graded key (duration_ms_of text) >>= λ ms.
    if ms % 1000 == 0 then in_range key (ms / 1000) else Err (OutOfRange key)

abbrev pub count_of : Key → List ℕ → Result ℕ KeyError
count_of key text = graded key (whole_of text) >>= in_range key

abbrev pub is_yes : List ℕ → Bool
is_yes text = bytes_eq text (codes "1") || bytes_eq text (codes "t") || bytes_eq text (codes "T")
    || bytes_eq text (codes "TRUE") || bytes_eq text (codes "true") || bytes_eq text (codes "True")

abbrev pub is_no : List ℕ → Bool
is_no text = bytes_eq text (codes "0") || bytes_eq text (codes "f") || bytes_eq text (codes "F")
    || bytes_eq text (codes "FALSE") || bytes_eq text (codes "false") || bytes_eq text (codes "False")

abbrev pub flag_of : Key → List ℕ → Result Bool KeyError
flag_of key text = if is_yes text then Ok true else (if is_no text then Ok false else Err (BadValue key (BadByte 0)))

-- a member that may be missing, as text
abbrev pub text_of : Key → Option Data → Result (Option (List ℕ)) KeyError
text_of key None = Ok None
text_of key (Some null) = Err (NotText key)
text_of key (Some (boolean _)) = Err (NotText key)
text_of key (Some (number _)) = Err (NotText key)
text_of key (Some (string text)) = Ok (Some text)
text_of key (Some (array _)) = Err (NotText key)
text_of key (Some (object _)) = Err (NotText key)

-- what a text says, or what holds without it
abbrev pub or_else : {A : Type 0} → A → (List ℕ → Result A KeyError) → Option (List ℕ) → Result A KeyError
or_else otherwise read None = Ok otherwise
or_else otherwise read (Some text) = read text

-- a capacity lies in the key's range
abbrev pub IsBurstOf : Key → Burst → Type 0
IsBurstOf key Unlimited = Unit {0}
IsBurstOf key (Capacity capacity) = IsInRange key capacity.0
