-- Words of which something is wrong ask for no plan.
use Rattle.std.proofs.Common.{◌≡◌, ◌≢◌, ◌≤◌, List, [], ◌∷◌, length, Option, None, Some, false, arith, refl, ap, subst}
use Rattle.std.specs.Prelude.{Err, IfErr, Ok, Result}
use Rattle.clap.specs.Walk.{Row, Text}
use Rattle.kn_plan.specs.declared.stay_error.Fault.{Fault}
use Rattle.kn_plan.specs.declared.stay_error.Fault.TheVariants as fault
use Rattle.kn_plan.specs.declared.stay_error.StayError.{StayError}
use Rattle.kn_plan.specs.declared.stay_error.StayError.TheVariants as error
use Rattle.kn_plan.specs.declared.stay_option.StayOption.{StayOption}
use Rattle.kn_plan.specs.declared.stay_option.StayOption.TheVariants as option
use Rattle.kn_plan.specs.declared.stay_plan.StayPlan.{StayPlan}
use Rattle.kn_plan.specs.StayOptions.{found_in}
use Rattle.kn_plan.specs.Stay.{AsksToStay, IsFaultOf, IsGivenStatus, IsOutOfRange, IsPlainAddress, IsPlanOf, IsWrongIn, may_be_absent, only, value_of, values_of}

once : (values : List Text) (text : Text) → only values ≡ Some text → length values ≡ 1
once [] text is = cc
once (t ∷ []) text is = refl
once (t ∷ u ∷ ts) text is = cc

-- an option that must be given has one value
given_once : (rows : List Row) (plan : StayPlan) → IsPlanOf rows plan → (o : StayOption) → may_be_absent o ≡ false → length (values_of rows o) ≡ 1
given_once rows plan is option.Listen e = once _ _ is.listen.address.0
given_once rows plan is option.Pods e = once _ _ is.pods.addresses.is
given_once rows plan is option.Slots e = once _ _ is.slots.is
given_once rows plan is option.Room e = once _ _ is.room.is
given_once rows plan is option.Idle e = once _ _ is.idle.is
given_once rows plan is option.Read e = once _ _ is.read.is
given_once rows plan is option.Status e = cc

status_once : (values : List Text) (status : Option Text) → IsGivenStatus values status → length values ≤ 1
status_once values None is = let none : length values ≡ 0 = ap length is in omega arith
status_once values (Some text) is = let one : length values ≡ 1 = once values text is.address.0 in omega arith

at_most_once : (rows : List Row) (plan : StayPlan) → IsPlanOf rows plan → (o : StayOption) → length (values_of rows o) ≤ 1
at_most_once rows plan is option.Status = status_once _ plan.status is.status
at_most_once rows plan is option.Listen = let one = given_once rows plan is option.Listen refl in omega arith
at_most_once rows plan is option.Pods = let one = given_once rows plan is option.Pods refl in omega arith
at_most_once rows plan is option.Slots = let one = given_once rows plan is option.Slots refl in omega arith
at_most_once rows plan is option.Room = let one = given_once rows plan is option.Room refl in omega arith
at_most_once rows plan is option.Idle = let one = given_once rows plan is option.Idle refl in omega arith
at_most_once rows plan is option.Read = let one = given_once rows plan is option.Read refl in omega arith

status_given : (values : List Text) (status : Option Text) → IsGivenStatus values status → length values ≡ 1
    → ((text : Text) → IsPlainAddress (only values) text → ⊥) → ⊥
status_given values None is one none = let no : length values ≡ 0 = ap length is in absurd (omega arith)
status_given values (Some text) is one none = none text is

in_range : (rows : List Row) (plan : StayPlan) → IsPlanOf rows plan → (o : StayOption) → length (values_of rows o) ≡ 1 → IsOutOfRange o (value_of rows o) → ⊥
in_range rows plan is option.Listen one none = none plan.listen is.listen
in_range rows plan is option.Pods one none = none plan.pods is.pods
in_range rows plan is option.Slots one none = none plan.slots is.slots
in_range rows plan is option.Room one none = none plan.room is.room
in_range rows plan is option.Idle one none = none plan.idle is.idle
in_range rows plan is option.Read one none = none plan.read is.read
in_range rows plan is option.Status one none = status_given _ plan.status is.status one none

no_fault : (rows : List Row) (plan : StayPlan) → IsPlanOf rows plan → (o : StayOption) (f : Fault) → IsFaultOf o (values_of rows o) f → ⊥
no_fault rows plan is o fault.Missing wrong =
    let none : length (values_of rows o) ≡ 0 = ap length wrong.0 in
    let one = given_once rows plan is o wrong.1 in
    absurd (omega arith)
no_fault rows plan is o fault.Twice wrong = let one = at_most_once rows plan is o in absurd (omega arith)
no_fault rows plan is o fault.Value wrong = in_range rows plan is o wrong.0 wrong.1

no_plan : (rows : List Row) (plan : StayPlan) → IsPlanOf rows plan → (e : StayError) → e ≢ error.Memory → IsWrongIn rows e → ⊥
no_plan rows plan is (error.Bad o f) other wrong = no_fault rows plan is o f wrong
no_plan rows plan is error.Memory other wrong = other refl
no_plan rows plan is error.Help other wrong = wrong
no_plan rows plan is error.Version other wrong = wrong
no_plan rows plan is (error.Unknown word) other wrong = wrong

pub wrong_none : (words : List Text) (rows : List Row) (r : Result StayPlan StayError) → rows ≡ found_in words → IfErr r (IsWrongIn rows)
    → IfErr r (λ e. e ≢ error.Memory → (plan : StayPlan) → AsksToStay words plan → ⊥)
wrong_none words rows (Ok plan) e wrong = tt
wrong_none words rows (Err x) e wrong = λ other plan asks.
    no_plan (found_in words) plan asks.found x other (subst (λ (rs : List Row). IsWrongIn rs x) e wrong)
