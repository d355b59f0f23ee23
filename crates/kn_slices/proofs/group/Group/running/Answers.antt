use Rattle.std.proofs.Common.{◌<◌, ◌≤◌, ◌∙◌, ap, sym, subst, arith, List, length}
use Rattle.std.specs.Prelude.{slice_index_or}
use Rattle.kn_event.specs.Lists.{EachIs}
use Rattle.kn_core.specs.State.{RevisionState}
use Rattle.kn_slices.specs.Slices.{runs}
use Rattle.kn_slices.specs.Activators.{HasPod, limit_at, running_at}
use Rattle.kn_slices.proofs.Alike.{runs_traces}
use Rattle.kn_slices.proofs.Calls.{each_has}
use Rattle.kn_slices.proofs.Due.{runs_within}
use Rattle.kn_slices.proofs.group.Group.running.Goals as goal

pub runs-requires-clause-pod : goal.runs-requires-clause-pod
runs-requires-clause-pod c =
    let low = subst (λ s. c.args.p < length s.wanted) (sym c.self.view_is) c.requires in
    subst (λ (xs : List RevisionState). EachIs (HasPod c.args.p) xs) (sym c.deref.ensures.value) (each_has (length c.self.inside.wanted.items) c.self.inside.parts.items c.args.p c.self.invariant.group.activators low)

pub runs-requires-clause-few : goal.runs-requires-clause-few
runs-requires-clause-few c =
    let low = subst (λ s. c.args.p < length s.wanted) (sym c.self.view_is) c.requires in
    let each = c.self.invariant.group.group.each c.args.p low in
    let a = runs_within (limit_at c.args.p) (running_at c.args.p) c.self.inside.parts.items in
    let b = each.within in
    let m = each.most in
    subst (λ (xs : List RevisionState). runs (running_at c.args.p) xs ≤ 1000) (sym c.deref.ensures.value) (omega (arith, a, b, m))

pub returns-clause-within : goal.returns-clause-within
returns-clause-within c =
    let low = subst (λ s. c.args.p < length s.wanted) (sym c.self.view_is) c.requires in
    let each = c.self.invariant.group.group.each c.args.p low in
    let a = runs_within (limit_at c.args.p) (running_at c.args.p) c.self.inside.parts.items in
    let b = each.within in
    let is = c.runs.ensures ∙ ap (λ (xs : List RevisionState). runs (running_at c.args.p) xs) c.deref.ensures.value in
    subst (λ s. c.runs.result ≤ slice_index_or s.force c.args.p 0) c.self.view_is (omega (arith, a, b, is))

pub returns-clause-traces : goal.returns-clause-traces
returns-clause-traces c = λ cs traces.
    let low = rw (← c.self.view_is) at c.requires in
    let is = c.runs.ensures ∙ ap (λ (xs : List RevisionState). runs (running_at c.args.p) xs) c.deref.ensures.value in
    is ∙ runs_traces c.append_laws.ensures.views c.self.inside.parts.items c.self.inside.wanted.items c.self.inside.force.items cs c.args.p c.self.invariant.group (rw (← c.self.view_is) at traces) low
