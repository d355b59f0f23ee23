-- The line lies whole in what is ahead.
use Rattle.std.proofs.Common.{ℕ, false, ◌≡◌, ◌-◌, ◌+◌, ◌<◌, length, arith}
use Rattle.std.specs.Prelude.{◌==◌, slice_index}
use Rattle.std.proofs.lemmas.Grind.{common_steps}
use Rattle.kn_journal.proofs.Aheads.{plain_taken, lines_ahead, not_so, split_at_lf}
use Rattle.kn_journal.proofs.Plain.{no_lf-taken}
use Rattle.kn_journal.proofs.lines.line_ahead.Goals as goal
use Rattle.kn_journal.proofs.lines.line_ahead.Goals.{else-len-gt0-via-then-len-gt0+else-ahead-len-eq13, else-len-gt0-via-else-len-gt0}

pub returns-clause-line : goal.returns-clause-line
returns-clause-line c later =
    let hay = c.args.input.now.ahead in
    let len = c.in_ok-len.len in
    let found = c.in_ok-len.ensures in
    let within : len < length hay = grind (arith, common_steps) in
    let here : slice_index hay len ≡ 10 = grind (arith, common_steps) in
    let others : (k : ℕ) → k < len → (slice_index hay k == 10) ≡ false =
    λ k l. rw c.ahead-ahead.ensures at (not_so (slice_index c.ahead-ahead.result.now k == 10) (found.0.before k (omega arith) l)) in
    let last : 0 < len → (slice_index hay (len - 1) == 13) ≡ false =
    elim c.else-len-gt0.branch [
      | else-len-gt0-via-then-len-gt0+else-ahead-len-eq13 w ↦ λ l. grind (arith, common_steps)
      | else-len-gt0-via-else-len-gt0 w ↦ λ l. grind (arith, common_steps)
    ] in
    let last_at : (j : ℕ) → j + 1 ≡ len → (slice_index hay j == 13) ≡ false =
    λ j e. let at : j ≡ len - 1 = omega (arith, e) in rw at (last (omega (arith, e))) in
    lines_ahead len hay later within here (plain_taken len hay within others last_at)

pub returns-clause-lf : goal.returns-clause-lf
returns-clause-lf c =
    let hay = c.args.input.now.ahead in
    let len = c.in_ok-len.len in
    let found = c.in_ok-len.ensures in
    let within : len < length hay = grind (arith, common_steps) in
    let here : slice_index hay len ≡ 10 = grind (arith, common_steps) in
    split_at_lf len hay within here

pub returns-clause-no_lf : goal.returns-clause-no_lf
returns-clause-no_lf c =
    let hay = c.args.input.now.ahead in
    no_lf-taken c.in_ok-len.len hay (λ k l. rw c.ahead-ahead.ensures at (not_so (slice_index c.ahead-ahead.result.now k == 10) (c.in_ok-len.ensures.0.before k (omega arith) l)))
