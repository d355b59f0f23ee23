use Rattle.std.proofs.Common.{◌≡◌, rules, ap}
use Rattle.std.proofs.lemmas.List.Sorted.{answers_always}
use Rattle.std.specs.Prelude.{map}
use Rattle.kn_seats.specs.declared.tracker.Tracker.{Tracker}
use Rattle.kn_seats.specs.Kept.{seen}
use Rattle.kn_seats.specs.Seats.{State}
use Rattle.kn_seats.proofs.Places.{search_finds, search_place}
use Rattle.kn_seats.proofs.seats.Seats.search.Goals as goal

-- the closure gives a pod's number, and the slice is the trackers
pub unwrap-requires : goal.unwrap-requires
unwrap-requires c =
    let facts = c.binary_search_by_key.ensures in
    let by_number = facts.position (λ (t : Tracker). t.number) (answers_always _ _ _ (λ f a r g called. search rules)) in
    let pods_are : map (seen c.self.inside.cells) c.self.inside.pods.items ≡ c.args.self.now.pods = ap (λ (s : State). s.pods) c.self.view_is in
    search_finds c.self.inside.cells c.deref.result.now (rw c.deref.ensures.value c.self.invariant.held.kept.ascending) c.args.p (rw (c.deref.ensures.value, pods_are) c.requires) _ facts.bound by_number

pub returns : goal.returns
returns c =
    let facts = c.binary_search_by_key.ensures in
    let by_number = facts.position (λ (t : Tracker). t.number) (answers_always _ _ _ (λ f a r g called. search rules)) in
    rw (← c.self.view_is, ← c.deref.ensures.value)
    (search_place c.self.inside.cells c.deref.result.now (rw c.deref.ensures.value c.self.invariant.held.kept.ascending) c.args.p _ _ c.unwrap.ensures facts.bound by_number)
