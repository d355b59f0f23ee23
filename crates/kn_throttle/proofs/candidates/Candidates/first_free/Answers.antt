-- Before the kept place nobody has a free seat, so one that has it there is the first.
use Rattle.std.proofs.Common.{◌≡◌, ℕ, ◌<◌, ◌≤◌, Bool, true, false, arith}
use Rattle.std.specs.List.{position_or_len}
use Rattle.std.proofs.lemmas.List.Sums.{fails_before_first}
use Rattle.kn_trace.specs.Choice.{has_seat}
use Rattle.kn_throttle.proofs.Totals.{no_cand}
use Rattle.kn_throttle.proofs.candidates.Candidates.first_free.Goals as goal

not_before : (i first : ℕ) (b : Bool) → (i < first → b ≡ false) → i ≤ first → b ≡ true → i ≡ first
not_before i first b fails low passes = grind (arith, passes)

pub returns-then-is_free_at-clause-first : goal.returns-then-is_free_at-clause-first
returns-then-is_free_at-clause-first c =
    let cands = c.self.inside.cands.items in
    let low = c.self.inside.low in
    rw (← c.self.view_is) (not_before low (position_or_len has_seat cands) _ (λ before. fails_before_first has_seat cands low no_cand before) c.self.invariant.low
    (rw (← c.self.view_is) at (c.is_free_at.ensures.free c.if-is_free_at.true no_cand)))
