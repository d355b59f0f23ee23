-- Each policy finds a pod exactly where one has a free seat.
use Rattle.std.proofs.Common.{◌≡◌, ◌∙◌, sym, ap, ℕ, Bool, true, false, List, [], ◌∷◌, ◌++◌, take, drop, length, Option, None, Some, refl}
use Rattle.std.specs.Prelude.{◌||◌, nat_lt, ◌==◌, cond, if◌then◌else◌}
use Rattle.std.specs.List.{filter, find, list_any}
use Rattle.std.specs.Option.{option_map, is_some}
use Rattle.std.proofs.Math.Bool.{or_comm}
use Rattle.std.proofs.lemmas.List.{take-append-drop}
use Rattle.std.proofs.lemmas.List.Folds.{list_any-append}
use Rattle.kn_trace.specs.declared.candidate.Cand.{Cand}
use Rattle.kn_trace.specs.Choice.{has_seat, first_available, turned_to, round_robin, choice_of_two, random_choice, chosen_pod}

pub first_found : (cands : List Cand) → is_some (first_available cands) ≡ list_any has_seat cands
unfolding first_available
first_found [] = refl
first_found (q ∷ cands) = by (has_seat q) (first_found cands)
  where
    by : (free : Bool) → is_some (first_available cands) ≡ list_any has_seat cands
        → is_some (option_map (λ (q : Cand). q.pod) (cond free (Some q) (find has_seat cands))) ≡ (free || list_any has_seat cands)
    by true rest = refl
    by false rest = rest

any_turned : (place : ℕ) (cands : List Cand) → list_any has_seat (turned_to place cands) ≡ list_any has_seat cands
any_turned place cands = by (nat_lt place (length cands))
  where
    by : (within : Bool) → list_any has_seat (if within then drop place cands ++ take place cands else cands) ≡ list_any has_seat cands
    by true = list_any-append has_seat (drop place cands) (take place cands) ∙ or_comm (list_any has_seat (drop place cands)) (list_any has_seat (take place cands))
        ∙ sym (list_any-append has_seat (take place cands) (drop place cands)) ∙ ap (list_any has_seat) (take-append-drop place cands)
    by false = refl

pub round_found : (place : ℕ) (cands : List Cand) → is_some (round_robin place cands) ≡ list_any has_seat cands
unfolding round_robin
round_found place cands = first_found (turned_to place cands) ∙ any_turned place cands

pub two_found : (cands : List Cand) (a b : ℕ) → is_some (choice_of_two (filter has_seat cands) a b) ≡ list_any has_seat cands
unfolding choice_of_two
two_found [] a b = refl
two_found (q ∷ cands) a b = by (has_seat q) (two_found cands a b)
  where
    one_or_more : (free : List Cand) → is_some (choice_of_two (q ∷ free) a b) ≡ true
    one_or_more [] = refl
    one_or_more (r ∷ free) = refl

    by : (free : Bool) → is_some (choice_of_two (filter has_seat cands) a b) ≡ list_any has_seat cands
        → is_some (choice_of_two (cond free (q ∷ filter has_seat cands) (filter has_seat cands)) a b) ≡ (free || list_any has_seat cands)
    by true rest = one_or_more (filter has_seat cands)
    by false rest = rest

chosen_found : (cc seed place picks : ℕ) (cands : List Cand) → is_some (chosen_pod cc seed place picks cands) ≡ list_any has_seat cands
unfolding chosen_pod random_choice
chosen_found cc seed place picks cands = by (cc == 0) (nat_lt cc 4)
  where
    by : (zero : Bool) (few : Bool) → is_some (if zero then random_choice seed picks cands else (if few then first_available cands else round_robin place cands)) ≡ list_any has_seat cands
    by true few = two_found cands _ _
    by false true = first_found cands
    by false false = round_found place cands

is_none : (o : Option ℕ) → is_some o ≡ false → o ≡ None
is_none None e = refl
is_none (Some x) e = absurd (elim_false e)
  where
    elim_false : true ≡ false → ⊥
    elim_false e = cc

pub none_chosen : (cc seed place picks : ℕ) (cands : List Cand) → list_any has_seat cands ≡ false → chosen_pod cc seed place picks cands ≡ None
none_chosen cc seed place picks cands none = is_none _ (chosen_found cc seed place picks cands ∙ none)
