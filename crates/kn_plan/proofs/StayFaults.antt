-- What is wrong with an option's value, and with the words.
use Rattle.std.proofs.Common.{◌≡◌, ◌≢◌, ◌<◌, ◌+◌, ℕ, zero, suc, List, [], ◌∷◌, ◌++◌, length, map, take, drop, get_or, Option, Some, true, add-one, arith, refl, sym, ap, subst, ◌∙◌}
use Rattle.clap.specs.Kinds.{IsAmong, Kinds}
use Rattle.clap.specs.Walk.{Row, Text}
use Rattle.clap.specs.declared.error.kind.ErrorKind.{ErrorKind}
use Rattle.clap.proofs.OnLiterals.{clap_on_literals}
use Rattle.kn_plan.specs.declared.plan_error.PlanError.{PlanError}
use Rattle.kn_plan.specs.declared.plan_error.PlanError.TheVariants as plan_error
use Rattle.kn_plan.specs.declared.stay_error.Fault.TheVariants as fault
use Rattle.kn_plan.specs.declared.stay_error.StayError.{StayError}
use Rattle.kn_plan.specs.declared.stay_error.StayError.TheVariants as error
use Rattle.kn_plan.specs.declared.stay_option.StayOption.{StayOption}
use Rattle.kn_plan.specs.declared.stay_option.StayOption.TheVariants as option
use Rattle.kn_plan.specs.Plan.{IsGivenNumber}
use Rattle.kn_plan.specs.StayOptions.{least_of, most_of, refusals}
use Rattle.kn_plan.specs.Stay.{IsFirstRefused, IsNumberOf, IsOutOfRange, IsWrongIn, is_number, only, values_of}

out_of_range : (o : StayOption) (value : Option Text) → is_number o ≡ true → ((n : ℕ) → IsNumberOf o value n → ⊥) → IsOutOfRange o value
out_of_range option.Slots value is none = none
out_of_range option.Room value is none = none
out_of_range option.Idle value is none = none
out_of_range option.Read value is none = none
out_of_range option.Listen value is none = cc
out_of_range option.Pods value is none = cc
out_of_range option.Status value is none = cc

-- where the one value of an option of numbers is no number in its range
pub number_wrong : (rows : List Row) (o : StayOption) (text : Text) (l m : ℕ) (e : PlanError) (result : StayError)
    → is_number o ≡ true → values_of rows o ≡ text ∷ [] → l ≡ least_of o → m ≡ most_of o
    → (e ≡ plan_error.Usage → result ≡ error.Bad o fault.Value) → (e ≡ plan_error.Memory → result ≡ error.Memory)
    → (e ≡ plan_error.Usage → (n : ℕ) → IsGivenNumber (Some text) l m n → ⊥) → IsWrongIn rows result
number_wrong rows o text l m plan_error.Memory result is values low high usage memory none = subst (IsWrongIn rows) (sym (memory refl)) tt
number_wrong rows o text l m plan_error.Usage result is values low high usage memory none =
    let out : IsOutOfRange o (Some text) = out_of_range o (Some text) is (λ n given. none refl n
    (subst (λ (x : ℕ). IsGivenNumber (Some text) x m n) (sym low) (subst (λ (x : ℕ). IsGivenNumber (Some text) (least_of o) x n) (sym high) given))) in
    subst (IsWrongIn rows) (sym (usage refl)) (ap length values, subst (λ (vs : List Text). IsOutOfRange o (only vs)) (sym values) out)

-- no word at all is refused by `clap`
pub nothing_accepted : refusals [] ≡ []
unfolding refusals clap_on_literals
nothing_accepted = refl

pub among_some : (k : ErrorKind) (kinds : Kinds) → IsAmong k kinds → kinds ≢ []
among_some k [] among e = among
among_some k (x ∷ xs) among e = cc

parted_at : {X : Type 0} (f : X → Text) (xs : List X) (i : ℕ) (x : X) → i < length xs → x ≡ get_or xs i x → map f xs ≡ map f (take i xs) ++ f x ∷ map f (drop (suc i) xs)
parted_at f [] i x low at = absurd (omega arith)
parted_at f (y ∷ ys) zero x low at = ap (λ z. f z ∷ map f ys) (sym at)
parted_at f (y ∷ ys) (suc i) x low at = ap (λ (l : List Text). f y ∷ l) (parted_at f ys i x (omega arith) at)

taken_at : {X : Type 0} (f : X → Text) (xs : List X) (i : ℕ) (x : X) → i < length xs → x ≡ get_or xs i x → map f (take (suc i) xs) ≡ map f (take i xs) ++ f x ∷ []
taken_at f [] i x low at = absurd (omega arith)
taken_at f (y ∷ ys) zero x low at = ap (λ z. f z ∷ []) (sym at)
taken_at f (y ∷ ys) (suc i) x low at = ap (λ (l : List Text). f y ∷ l) (taken_at f ys i x (omega arith) at)

pub refused_first : {X : Type 0} (f : X → Text) (xs : List X) (i : ℕ) (x : X) (word : Text) (k : ErrorKind) → i < length xs → x ≡ get_or xs i x → word ≡ f x
    → refusals (map f (take i xs)) ≡ [] → IsAmong k (refusals (map f (take (i + 1) xs))) → IsFirstRefused (map f xs) word
refused_first f xs i x word k low at is before among = record {
  front = map f (take i xs);
  rest = map f (drop (suc i) xs);
  parted = parted_at f xs i x low at ∙ ap (λ (w : Text). map f (take i xs) ++ w ∷ map f (drop (suc i) xs)) (sym is);
  before = before;
  here =
      let whole : map f (take (i + 1) xs) ≡ map f (take i xs) ++ word ∷ [] =
      ap (λ (n : ℕ). map f (take n xs)) (add-one i) ∙ taken_at f xs i x low at ∙ ap (λ (w : Text). map f (take i xs) ++ w ∷ []) (sym is) in
      subst (λ (ws : List Text). refusals ws ≢ []) whole (among_some k _ among);
}
