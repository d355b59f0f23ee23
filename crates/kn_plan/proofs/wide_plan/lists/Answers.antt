use Rattle.std.proofs.Common.{◌≡◌, ◌≤◌, List, ℕ, All, IfOk, length, map, option_map, ap, subst, rules}
use denote.Ref.{Bor}
use Rattle.kn_plan.proofs.Lists.{AreTexts, IsListed, if_listed, none_given, cut}
use Rattle.kn_plan.proofs.wide_plan.lists.Goals as goal

pub returns-clause-ok : goal.returns-clause-ok
returns-clause-ok c =
    let value = option_map (λ (s : Bor (List ℕ)). s.now) c.args.given in
    let is : AreTexts value c.in-Ok.parts.items = record { text = c.in-Some.text.now; is = ap (option_map (λ (s : Bor (List ℕ)). s.now)) c.in-Some.is; cut_is = c.in-Ok.ensures } in
    let few : length c.in-Ok.parts.items ≤ 16 = search rules in
    if_listed value c.in-Ok.parts.items is few c.addresses_of.result
    (subst (λ (ts : List (Bor (List ℕ))). IfOk c.addresses_of.result (λ lists. lists ≡ map cut ts)) c.deref.ensures.value c.addresses_of.ensures.ok)
    c.addresses_of.ensures.each c.addresses_of.ensures.fit

pub returns-clause-usage : goal.returns-clause-usage
returns-clause-usage c = λ e lists given.
    let value = option_map (λ (s : Bor (List ℕ)). s.now) c.args.given in
    let is : AreTexts value c.in-Ok.parts.items = record { text = c.in-Some.text.now; is = ap (option_map (λ (s : Bor (List ℕ)). s.now)) c.in-Some.is; cut_is = c.in-Ok.ensures } in
    let none = subst (λ (xs : List (Bor (List ℕ))). All IsListed xs → ⊥) c.deref.ensures.value (c.addresses_of.ensures.usage e) in
    none_given value c.in-Ok.parts.items lists is none given
