use Rattle.std.proofs.Common.{◌≡◌, ◌<◌, ◌∙◌, sym, arith, ℕ, length}
use Rattle.std.proofs.lemmas.Bool.{eqb-true}
use Rattle.std.proofs.lemmas.Grind.{common_steps}
use Rattle.kn_slices.specs.Activators.{IsClosed}
use Rattle.kn_slices.proofs.Alike.{due_traces}
use Rattle.kn_slices.proofs.Calm.{marked_sliced, none_due, same_each}
use Rattle.kn_slices.proofs.group.Group.is_settled.Goals as goal

pub returns : goal.returns
returns c = rw (← c.self.view_is) (λ is.
    let parts = c.self.inside.parts.items in
    let wanted = c.self.inside.wanted.items in
    let force = c.self.inside.force.items in
    let marks = c.self.inside.marks.items in
    let none : c.self.inside.listed.len ≡ 0 = eqb-true c.self.inside.listed.len 0 (sym c.is_empty.ensures ∙ is) in
    let empty : length c.self.inside.listed.items ≡ 0 = grind (arith, common_steps, none) in
    let closed : (p : ℕ) → p < length wanted → IsClosed wanted force marks p = λ p low. c.self.invariant.kept.others p low (λ k inside e. absurd (omega (arith, inside, empty))) in
    let sliced = marked_sliced parts wanted marks c.self.invariant.marked (λ p low. (closed p low).0) in
    record {
      slices = sliced;
      force = same_each force wanted c.self.invariant.group.group.many (λ p low. (closed p low).1);
      none = λ cs traces. sym (due_traces c.append_laws.ensures.views parts wanted force cs c.self.invariant.group traces) ∙ none_due parts wanted sliced;
    })
