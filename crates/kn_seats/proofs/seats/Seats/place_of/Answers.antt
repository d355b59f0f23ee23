use Rattle.std.proofs.Common.{◌<◌, ℕ, length, arith}
use Rattle.std.specs.Prelude.{map}
use Rattle.std.proofs.lemmas.Grind.{common_steps}
use Rattle.kn_seats.specs.Kept.{seen}
use Rattle.kn_seats.proofs.Places.{stands_at, the_place}
use Rattle.kn_seats.proofs.seats.Seats.place_of.Goals as goal

-- where the hint says there is a pod of this number
pub returns-then-index-p : goal.returns-then-index-p
returns-then-index-p c =
    let guess : ℕ = c.get-guess.result in
    let within : guess < length c.self.inside.pods.items = grind (arith, common_steps) in
    rw (← c.self.view_is) (the_place c.args.p (map (seen c.self.inside.cells) c.self.inside.pods.items) guess c.self.invariant.held.kept.ascending
    (stands_at c.self.inside.cells c.self.inside.pods.items c.args.p guess c.index.result.now within c.index.ensures c.if-index-p.true))
