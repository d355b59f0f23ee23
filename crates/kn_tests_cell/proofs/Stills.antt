-- A pass that kept its numbers, through one call more.
use Rattle.std.proofs.Common.{◌≡◌, ◌+◌, ◌⊎◌, inl, inr, ap}
use Rattle.std.specs.Prelude.{ℕ, List, Result, Ok, Err}
use Rattle.kn_event.specs.declared.event.Act.{Act}
use Rattle.kn_event.specs.declared.event.Told.{Told}
use Rattle.kn_cell.specs.declared.past.Past.{Past}
use Rattle.kn_cell.specs.declared.past.TryError.{TryError}
use Rattle.kn_cell.specs.declared.past.TryError.TheVariants.{Busy, Full}
use Rattle.kn_cell.specs.Shown.{IsLater, Looks, PassView, Tries}
use Rattle.kn_tests_cell.specs.Numbers.{IsStill}

-- only what it has seen, done and missed is new, and what was taken out
pub still_of : (p q : PassView) (seen mine : List Past) (missed gone : ℕ) → q ≡ record p { seen = seen; mine = mine; missed = missed; gone = gone } → IsStill p q
still_of p q seen mine missed gone e = record {
  of = ap (λ (v : PassView). v.cell) e;
  free = ap (λ (v : PassView). v.free) e;
  back = ap (λ (v : PassView). v.back) e;
  passes = ap (λ (v : PassView). v.passes) e;
  scribe = ap (λ (v : PassView). v.scribe) e;
  room = ap (λ (v : PassView). v.room) e;
}

-- whatever the attempt answered
pub tries_still : (p q : PassView) (act : Act) (time : ℕ) (r : Result Told TryError) → Tries p act time r q → IsStill p q
tries_still p q act time (Ok told) t = still_of p q q.seen q.mine q.missed q.gone t.0.same
tries_still p q act time (Err Busy) t = still_of p q p.seen p.mine (p.missed + 1) p.gone t.0
tries_still p q act time (Err (Full full)) t = still_of p q q.seen q.mine q.missed q.gone t.0.same

-- .. or nothing at all
pub looks_still : (p q : PassView) → IsLater p q → IsStill p q
looks_still p q e = still_of p q q.seen q.mine q.missed q.gone e

pub maybe_still : (p q : PassView) → (q ≡ p) ⊎ Looks p q → IsStill p q
maybe_still p q so = elim so [ inl e ↦ still_of p q p.seen p.mine p.missed p.gone e | inr l ↦ looks_still p q l.same ]
