use Rattle.std.proofs.Common.{◌≡◌, ◌∙◌, ◌<◌, length, get_or, sym, rules}
use Rattle.std.proofs.lemmas.Bool.{eqb-true}
use Rattle.std.proofs.lemmas.List.{length-map}
use Rattle.kn_policy.specs.Marks.{mark_of}
use Rattle.kn_throttle.proofs.Totals.{mark-at, seat_marked}
use Rattle.kn_throttle.proofs.candidates.Candidates.is_free_at.Goals as goal

pub returns-then-place-len-clause-inside : goal.returns-then-place-len-clause-inside
returns-then-place-len-clause-inside c = λ one.
    let k = c.self.inside.cands.items in
    let as_many : length c.self.inside.marks.items ≡ length k = rw c.self.invariant.counted.marked (length-map k mark_of) in
    rw (← c.self.view_is) (search (rules, as_many))

pub returns-then-place-len-clause-free : goal.returns-then-place-len-clause-free
returns-then-place-len-clause-free c = λ one d.
    let k = c.self.inside.cands.items in
    let as_many : length c.self.inside.marks.items ≡ length k = rw c.self.invariant.counted.marked (length-map k mark_of) in
    let inside : c.args.place < length k = search (rules, as_many) in
    let marked = mark-at k _ _ _ _ c.args.place c.index.result.now d c.self.invariant.counted inside c.index.ensures in
    rw (← c.self.view_is) (seat_marked (get_or k c.args.place d) (sym marked ∙ eqb-true c.index.result.now 1 one))
