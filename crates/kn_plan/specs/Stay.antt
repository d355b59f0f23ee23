-- What the words behind `stay` ask for, and what is wrong with words that ask for nothing.
use Rattle.std.specs.Prelude.{◌≡◌, ◌≢◌, ◌≤◌, ℕ, nat_lt, Bool, true, false, not, ◌&&◌, ◌==◌, List, [], ◌∷◌, ◌++◌, length, Option, None, Some, unwrap_or}
use Rattle.std.specs.List.{list_all}
use Rattle.clap.specs.Kinds.{IsAmong}
use Rattle.clap.specs.Walk.{Row, Text, all_of}
use Rattle.clap.specs.declared.error.kind.ErrorKind.TheVariants as kind
use Rattle.kn_plan.specs.declared.stay_error.Fault.{Fault}
use Rattle.kn_plan.specs.declared.stay_error.Fault.TheVariants as fault
use Rattle.kn_plan.specs.declared.stay_error.StayError.{StayError}
use Rattle.kn_plan.specs.declared.stay_error.StayError.TheVariants as error
use Rattle.kn_plan.specs.declared.stay_option.StayOption.{StayOption}
use Rattle.kn_plan.specs.declared.stay_option.StayOption.TheVariants as option
use Rattle.kn_plan.specs.declared.stay_plan.StayPlan.{StayPlan}
use Rattle.kn_plan.specs.Plan.{AreGivenAddresses, IsGivenAddress, IsGivenNumber}
use Rattle.kn_plan.specs.StayOptions.{found_in, least_of, most_of, name_of, refusals}

-- the values that an option is given, one for each use, or else its default
abbrev pub values_of : List Row → StayOption → List Text
values_of rows o = unwrap_or (all_of (name_of o) rows) []

-- the value that is given once
abbrev pub only : List Text → Option Text
only (text ∷ []) = Some text
only _ = None

-- it is, or there is none
abbrev pub AreGiven : List Text → Option Text → Type 0
AreGiven values None = values ≡ []
AreGiven values (Some text) = values ≡ text ∷ []

abbrev pub value_of : List Row → StayOption → Option Text
value_of rows o = only (values_of rows o)

-- no space or control code, and no `/`
abbrev pub is_plain_byte : ℕ → Bool
is_plain_byte b = nat_lt 32 b && not (b == 127) && not (b == 47)

abbrev pub is_plain : Text → Bool
is_plain text = list_all is_plain_byte text

-- one address, of such bytes: `http://a:1` is none
pub record IsPlainAddress (value : Option Text) (text : Text) : Type 0 where
  pub address : IsGivenAddress value text
  pub plain : is_plain text ≡ true

-- 1 to 500 of them, between commas
pub record ArePlainAddresses (value : Option Text) (texts : List Text) : Type 0 where
  pub addresses : AreGivenAddresses value texts
  pub plain : list_all is_plain texts ≡ true

-- a number in the option's range
abbrev pub IsNumberOf : StayOption → Option Text → ℕ → Type 0
IsNumberOf o value n = IsGivenNumber value (least_of o) (most_of o) n

-- an address, or none where the option isn't given
abbrev pub IsGivenStatus : List Text → Option Text → Type 0
IsGivenStatus values None = values ≡ []
IsGivenStatus values (Some text) = IsPlainAddress (only values) text

-- each value is given once, spelled and in range as said
pub record IsPlanOf (rows : List Row) (plan : StayPlan) : Type 0 where
  pub listen : IsPlainAddress (value_of rows option.Listen) plan.listen
  pub pods : ArePlainAddresses (value_of rows option.Pods) plan.pods
  pub slots : IsNumberOf option.Slots (value_of rows option.Slots) plan.slots
  pub room : IsNumberOf option.Room (value_of rows option.Room) plan.room
  pub idle : IsNumberOf option.Idle (value_of rows option.Idle) plan.idle
  pub read : IsNumberOf option.Read (value_of rows option.Read) plan.read
  pub status : IsGivenStatus (values_of rows option.Status) plan.status

-- `clap` accepts the words, and what it finds in them is the plan
pub record AsksToStay (words : List Text) (plan : StayPlan) : Type 0 where
  pub accepted : refusals words ≡ []
  pub found : IsPlanOf (found_in words) plan

-- no plan is what the words ask for
abbrev pub AsksForNothing : List Text → Type 0
AsksForNothing words = (plan : StayPlan) → AsksToStay words plan → ⊥

abbrev pub is_number : StayOption → Bool
is_number option.Slots = true
is_number option.Room = true
is_number option.Idle = true
is_number option.Read = true
is_number _ = false

-- the value is none that the option may have
abbrev pub IsOutOfRange : StayOption → Option Text → Type 0
IsOutOfRange option.Listen value = (text : Text) → IsPlainAddress value text → ⊥
IsOutOfRange option.Pods value = (texts : List Text) → ArePlainAddresses value texts → ⊥
IsOutOfRange option.Status value = (text : Text) → IsPlainAddress value text → ⊥
IsOutOfRange o value = (n : ℕ) → IsNumberOf o value n → ⊥

-- an option that may be left out isn't missing
abbrev pub may_be_absent : StayOption → Bool
may_be_absent option.Status = true
may_be_absent _ = false

abbrev pub IsFaultOf : StayOption → List Text → Fault → Type 0
IsFaultOf o values fault.Missing = (values ≡ []) × (may_be_absent o ≡ false)
IsFaultOf o values fault.Twice = 2 ≤ length values
IsFaultOf o values fault.Value = (length values ≡ 1) × IsOutOfRange o (only values)

abbrev pub IsWrongIn : List Row → StayError → Type 0
IsWrongIn rows (error.Bad o f) = IsFaultOf o (values_of rows o) f
IsWrongIn rows error.Memory = Unit {0}
IsWrongIn rows _ = ⊥

-- `clap` accepts the words before this one, and refuses them with it
pub record IsFirstRefused (words : List Text) (word : Text) : Type 0 where
  pub front : List Text
  pub rest : List Text
  pub parted : words ≡ front ++ word ∷ rest
  pub before : refusals front ≡ []
  pub here : refusals (front ++ word ∷ []) ≢ []

abbrev pub IsUnknownIn : List Text → StayError → Type 0
IsUnknownIn words (error.Unknown word) = IsFirstRefused words word.now
IsUnknownIn words _ = ⊥

-- why the words give no plan
abbrev pub IsCause : List Text → StayError → Type 0
IsCause words error.Help = IsAmong kind.DisplayHelp (refusals words)
IsCause words error.Version = IsAmong kind.DisplayVersion (refusals words)
IsCause words (error.Unknown word) = IsFirstRefused words word.now
IsCause words (error.Bad o f) = (refusals words ≡ []) × IsFaultOf o (values_of (found_in words) o) f
IsCause words error.Memory = Unit {0}
