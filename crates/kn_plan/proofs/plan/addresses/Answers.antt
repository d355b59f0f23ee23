use Rattle.std.proofs.Common.{◌≤◌, List, ℕ, All, length, map, option_map, ap, ◌∙◌, subst, rules}
use denote.Ref.{Bor}
use Rattle.kn_plan.specs.Plan.{IsAddress}
use Rattle.kn_plan.proofs.Listed.{AreParts, one_misspelled, all_given}
use Rattle.kn_plan.proofs.plan.addresses.Goals as goal

pub returns-then-not-are_addresses-clause-usage : goal.returns-then-not-are_addresses-clause-usage
returns-then-not-are_addresses-clause-usage c = λ e texts given.
    let value = option_map (λ (s : Bor (List ℕ)). s.now) c.args.given in
    let is : AreParts value c.in-Ok.parts.items = record { text = c.in-Some.text.now; is = ap (option_map (λ (s : Bor (List ℕ)). s.now)) c.in-Some.is; cut = c.in-Ok.ensures } in
    let none = subst (λ (xs : List (Bor (List ℕ))). All (λ (t : Bor (List ℕ)). IsAddress t.now) xs → ⊥) c.deref.ensures.value c.if-not-are_addresses.ensures in
    one_misspelled value c.in-Ok.parts.items texts is none given

pub returns-in-Ok-copies-clause-ok : goal.returns-in-Ok-copies-clause-ok
returns-in-Ok-copies-clause-ok c =
    let value = option_map (λ (s : Bor (List ℕ)). s.now) c.args.given in
    let is : AreParts value c.in-Ok.parts.items = record { text = c.in-Some.text.now; is = ap (option_map (λ (s : Bor (List ℕ)). s.now)) c.in-Some.is; cut = c.in-Ok.ensures } in
    let few : length c.in-Ok.parts.items ≤ 500 = search rules in
    let each = subst (All (λ (t : Bor (List ℕ)). IsAddress t.now)) c.deref.ensures.value c.if-not-are_addresses.ensures in
    let same = c.in-Ok-copies.ensures ∙ ap (map (λ (t : Bor (List ℕ)). t.now)) c.deref-2.ensures.value in
    all_given value c.in-Ok.parts.items c.in-Ok-copies.copied is few each same
