use Rattle.std.proofs.Common.{◌≡◌, ◌∙◌, ap, sym, false}
use Rattle.std.specs.List.{list_any}
use Rattle.kn_trace.specs.Choice.{has_seat, chosen_pod}
use Rattle.kn_policy.specs.Policy.{State}
use Rattle.kn_policy.proofs.Found.{none_chosen}
use Rattle.kn_policy.proofs.policy.Policy.pick.Goals as goal

pub returns-then-not-has_free_seat-clause-chosen :
    goal.returns-then-not-has_free_seat-clause-chosen
returns-then-not-has_free_seat-clause-chosen c = λ seed picks at.
    let none : list_any has_seat c.args.ready.now ≡ false = cc in
    sym (none_chosen _ seed _ picks _ none)

pub returns-clause-chosen : goal.returns-clause-chosen
returns-clause-chosen c = λ seed picks at.
    let words = λ (random : c.self.inside.cc ≡ 0). c.draw-first_word.ensures.words seed picks random (ap (λ (s : State). s.generator) c.self.view_is ∙ at (ap (λ (s : State). s.cc) (sym c.self.view_is) ∙ random)) in
    sym c.in_ok-pod.was ∙ c.pod_by.ensures.chosen seed picks (λ random. (words random).0) (λ random. (words random).1)
    ∙ ap (λ (s : State). chosen_pod s.cc seed s.place picks c.args.ready.now) c.self.view_is
