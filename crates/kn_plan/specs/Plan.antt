-- What the words of the program ask for.
use Rattle.std.specs.Prelude.{◌≡◌, ℕ, ◌≤◌, nat_le, Bool, true, false, not, ◌&&◌, ◌==◌, List, [], ◌∷◌, ◌++◌, ◌*◌, length, map, All, Option, None, Some, Result, Err, codes}
use Rattle.std.specs.List.{list_all, slice_split}
use Rattle.clap.specs.Walk.{Text}
use Rattle.clap.specs.Faults.{fault_of}
use Rattle.kn_event.specs.Numbers.{number_of}
use Rattle.kn_plan.specs.declared.plan.Plan.{Plan}
use Rattle.kn_plan.specs.declared.plan_error.PlanError.{PlanError}
use Rattle.kn_plan.specs.declared.plan_error.PlanError.TheVariants as error
use Rattle.kn_plan.specs.declared.wide_plan.WidePlan.{WidePlan}
use Rattle.kn_plan.specs.Command.{kactd, given}

abbrev pub is_comma : ℕ → Bool
is_comma b = b == 44

-- neither `,` nor `;`
abbrev pub is_host_byte : ℕ → Bool
is_host_byte b = not (b == 44) && not (b == 59)

-- one or more such bytes
abbrev pub is_host : List ℕ → Bool
is_host [] = false
is_host (b ∷ bs) = list_all is_host_byte (b ∷ bs)

abbrev pub is_port_number : Option ℕ → Bool
is_port_number (Some n) = nat_le n 65535
is_port_number None = false

-- a number up to 65535
abbrev pub is_port : List ℕ → Bool
is_port text = is_port_number (number_of text)

-- a host and a port with `:` between them. No port has one, so it is the last
pub record IsAddress (text : List ℕ) : Type 0 where
  pub host : List ℕ
  pub port : List ℕ
  pub parted : text ≡ host ++ 58 ∷ port
  pub named : is_host host ≡ true
  pub number : is_port port ≡ true

abbrev pub IsGivenAddress : Option Text → List ℕ → Type 0
IsGivenAddress value text = (value ≡ Some text) × IsAddress text

abbrev pub is_semicolon : ℕ → Bool
is_semicolon b = b == 59

-- 1 to 500, between commas
pub record AreGivenAddresses (value : Option Text) (texts : List (List ℕ)) : Type 0 where
  pub list : Text
  pub is : value ≡ Some list
  pub parts : slice_split is_comma list ≡ texts
  pub each : All IsAddress texts
  pub few : length texts ≤ 500

pub record IsGivenNumber (value : Option Text) (least most n : ℕ) : Type 0 where
  pub text : Text
  pub is : value ≡ Some text
  pub number : number_of text ≡ Some n
  pub above : least ≤ n
  pub below : n ≤ most

-- the usage is at fault only where nothing is as said
abbrev pub UsageMeansNone : {T : Type 0} → Result T PlanError → (T → Type 0) → Type 0
UsageMeansNone {T} result IsAsSaid = result ≡ Err error.Usage → (x : T) → IsAsSaid x → ⊥

-- `clap` accepts the words, and each value is spelled and in range as said
pub record AsksFor (words : List Text) (plan : Plan) : Type 0 where
  pub accepted : fault_of kactd words ≡ []
  pub listen : IsGivenAddress (given words (codes "listen")) plan.listen
  pub pods : AreGivenAddresses (given words (codes "pods")) plan.pods
  pub slots : IsGivenNumber (given words (codes "slots")) 1 64 plan.slots
  pub rounds : IsGivenNumber (given words (codes "rounds")) 1 10000 plan.rounds
  pub room : IsGivenNumber (given words (codes "room")) 1 1000000 plan.room

-- 1 to 500 addresses between commas
abbrev pub IsAddressList : Text → Type 0
IsAddressList list = All IsAddress (slice_split is_comma list) × (length (slice_split is_comma list) ≤ 500)

-- 1 to 16 lists between semicolons, each of 1 to 500 addresses between commas
pub record AreGivenLists (value : Option Text) (lists : List (List (List ℕ))) : Type 0 where
  pub list : Text
  pub is : value ≡ Some list
  pub parts : map (slice_split is_comma) (slice_split is_semicolon list) ≡ lists
  pub each : All (All IsAddress) lists
  pub fit : All (λ texts. length texts ≤ 500) lists
  pub few : length lists ≤ 16

-- the same words, with a list of pods for each revision. All revisions together have room for as much as one alone
pub record AsksForMany (words : List Text) (plan : WidePlan) : Type 0 where
  pub accepted : fault_of kactd words ≡ []
  pub listen : IsGivenAddress (given words (codes "listen")) plan.listen
  pub pods : AreGivenLists (given words (codes "pods")) plan.pods
  pub slots : IsGivenNumber (given words (codes "slots")) 1 64 plan.slots
  pub rounds : IsGivenNumber (given words (codes "rounds")) 1 10000 plan.rounds
  pub room : IsGivenNumber (given words (codes "room")) 1 1000000 plan.room
  pub product : plan.room * length plan.pods ≤ 1000000
