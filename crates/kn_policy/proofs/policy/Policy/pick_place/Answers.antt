use Rattle.std.proofs.Common.{◌≡◌, ◌∙◌, ap, sym, rules}
use Rattle.std.specs.List.{count_by}
use Rattle.kn_trace.specs.Choice.{has_seat, chosen_pod}
use Rattle.kn_policy.specs.Policy.{State}
use Rattle.kn_policy.proofs.Found.{none_chosen}
use Rattle.kn_policy.proofs.Marking.{none_counted, none_free, place_at}
use Rattle.kn_policy.proofs.policy.Policy.pick_place.Goals as goal

pub returns-then-free-eq0-clause-chosen : goal.returns-then-free-eq0-clause-chosen
returns-then-free-eq0-clause-chosen c = λ seed picks at.
    let none : count_by has_seat c.args.ready.now ≡ 0 = search rules in
    none_chosen _ seed _ picks _ (none_free c.args.ready.now none)

pub returns-then-free-eq0-clause-found : goal.returns-then-free-eq0-clause-found
returns-then-free-eq0-clause-found c =
    let none : count_by has_seat c.args.ready.now ≡ 0 = search rules in
    sym (none_free c.args.ready.now none)

pub place_by-requires-clause-some : goal.place_by-requires-clause-some
place_by-requires-clause-some c = search rules

pub returns-in_err-place-clause-chosen : goal.returns-in_err-place-clause-chosen
returns-in_err-place-clause-chosen c =
    let none : count_by has_seat c.args.ready.now ≡ 0 = none_counted c.args.ready.now (sym c.in_err-place.ensures.found) in
    absurd (c.if-free-eq0.false (c.requires.free ∙ none))

pub returns-in_err-place-clause-unchanged : goal.returns-in_err-place-clause-unchanged
returns-in_err-place-clause-unchanged c =
    let none : count_by has_seat c.args.ready.now ≡ 0 = none_counted c.args.ready.now (sym c.in_err-place.ensures.found) in
    absurd (c.if-free-eq0.false (c.requires.free ∙ none))

pub returns-clause-chosen : goal.returns-clause-chosen
returns-clause-chosen c = λ seed picks at.
    let words = λ (random : c.self.inside.cc ≡ 0). c.draw-words.ensures.words seed picks random (ap (λ (s : State). s.generator) c.self.view_is ∙ at (ap (λ (s : State). s.cc) (sym c.self.view_is) ∙ random)) in
    let there = c.in_ok-place.ensures.chosen seed picks (λ random. (words random).0) (λ random. (words random).1) in
    (there.0, λ d. ap (λ (s : State). chosen_pod s.cc seed s.place picks c.args.ready.now) (sym c.self.view_is) ∙ there.1 d)

pub returns-clause-picked : goal.returns-clause-picked
returns-clause-picked c = λ d. rw (place_at c.args.ready.now c.in_ok-place.place d c.requires.order c.in_ok-place.ensures.inside) (search rules)
