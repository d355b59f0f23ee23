use Rattle.std.proofs.Common.{◌≡◌, ℕ, ◌<◌, false}
use Rattle.std.specs.Duration.{as_nanos}
use Rattle.slab.specs.Slab.{get}
use Rattle.kn_front.specs.Patience.{is_due}
use Rattle.kn_front.proofs.station.Station.close_due.Given as goal

abbrev pub invariant-loop-place : goal.invariant-loop-place
invariant-loop-place g l = record {
  places : l.self.silent.places ≡ l.place-end;
  done : (place : ℕ) → place < l.place → is_due (as_nanos l.idle) l.now (get l.self.silent.ones place) ≡ false;
}
