use Rattle.std.proofs.Common.{◌∙◌, ◌≤◌, Some, rules}
use Rattle.kn_policy.proofs.Found.{two_found}
use Rattle.kn_policy.proofs.Marking.{any_free, chosen_first, chosen_round, chosen_two, first_inside, first_placed, some_place}
use Rattle.kn_policy.proofs.marks.place_by.Goals as goal

pub returns-in-0-clause-chosen : goal.returns-in-0-clause-chosen
returns-in-0-clause-chosen c = λ seed picks x y. chosen_two _ seed _ picks _ _ _ _ c.in-0.is (x c.in-0.is) (y c.in-0.is) c.place_of_two.ensures

pub returns-in-0-clause-found : goal.returns-in-0-clause-found
returns-in-0-clause-found c = some_place _ _ _ c.place_of_two.ensures ∙ two_found c.args.ready.now c.args.words.0 c.args.words.1

pub returns-in-1-to-3-clause-chosen : goal.returns-in-1-to-3-clause-chosen
returns-in-1-to-3-clause-chosen c = λ seed picks x y.
    let low : 1 ≤ c.args.cc = search rules in
    let high : c.args.cc ≤ 3 = search rules in
    chosen_first c.args.cc seed c.args.place picks c.args.ready.now (Some c.args.first) low high (first_placed c.args.ready.now _ c.requires.first (rw c.requires.free at c.requires.some))

pub returns-in-1-to-3-clause-found : goal.returns-in-1-to-3-clause-found
returns-in-1-to-3-clause-found c = any_free c.args.ready.now (rw c.requires.free at c.requires.some)

pub returns-in-1-to-3-clause-inside : goal.returns-in-1-to-3-clause-inside
returns-in-1-to-3-clause-inside c = rw c.requires.first (first_inside c.args.ready.now (rw c.requires.free at c.requires.some))

pub returns-in_default-clause-chosen : goal.returns-in_default-clause-chosen
returns-in_default-clause-chosen c = λ seed picks x y.
    let low : 4 ≤ c.args.cc = search rules in
    chosen_round c.args.cc seed c.args.place picks c.args.ready.now (Some c.round_place.result) low c.round_place.ensures

pub returns-in_default-clause-found : goal.returns-in_default-clause-found
returns-in_default-clause-found c = any_free c.args.ready.now (rw c.requires.free at c.requires.some)
