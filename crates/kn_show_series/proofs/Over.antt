-- The lines of the steps that are over at a time.
use Rattle.std.proofs.Common.{◌≡◌, ◌≤◌, ◌<◌, ◌+◌, ◌-◌, ℕ, suc, Bool, true, false, cond, List, [], ◌∷◌, ◌++◌, refl, ap, ◌∙◌, arith, append-nil}
use Rattle.std.specs.List.{filter, flat_map, range_with_len}
use Rattle.std.proofs.Math.Nat.{sub_self}
use Rattle.kn_teller.specs.Run.{Run}
use Rattle.kn_show_series.specs.declared.current.OpenStep.{OpenStep}
use Rattle.kn_show_series.specs.Open.{text_where, told_text}
use Rattle.kn_show_series.specs.Series.{open_step, over_lines, step_line}
use Rattle.kn_show_series.specs.State.{IsPast, IsStepOf}
use Rattle.kn_show_series.specs.Steps.{is_told, step_of}
use Rattle.kn_show_series.proofs.Lists.{filter-range_none}
use Rattle.kn_show_series.proofs.Past.{untold}

picked : (f : ℕ → List ℕ) (k : ℕ) (b : Bool) (ks : List ℕ) → flat_map f (cond b (k ∷ ks) ks) ≡ text_where b (f k) ++ flat_map f ks
picked f k true ks = refl
picked f k false ks = refl

picked_one : (f : ℕ → List ℕ) (p : ℕ → Bool) (k : ℕ) → flat_map f (filter p (range_with_len k 1)) ≡ text_where (p k) (f k)
picked_one f p k = picked f k (p k) [] ∙ append-nil (text_where (p k) (f k))

picked_two : (f : ℕ → List ℕ) (p : ℕ → Bool) (k n : ℕ) → ((j : ℕ) → k + 2 ≤ j → p j ≡ false)
    → flat_map f (filter p (range_with_len k (suc (suc n)))) ≡ text_where (p k) (f k) ++ text_where (p (k + 1)) (f (k + 1))
picked_two f p k n h =
    picked f k (p k) (filter p (range_with_len (k + 1) (suc n)))
    ∙ ap (λ (x : List ℕ). text_where (p k) (f k) ++ x) (
    picked f (k + 1) (p (k + 1)) (filter p (range_with_len (k + 1 + 1) n))
    ∙ ap (λ (ks : List ℕ). text_where (p (k + 1)) (f (k + 1)) ++ flat_map f ks) (filter-range_none p (k + 1 + 1) n (λ j l. h j (omega arith)))
    ∙ append-nil (text_where (p (k + 1)) (f (k + 1)))
    )

-- the line of a step, where it is told
abbrev pub told_line : ℕ → Run → ℕ → List ℕ
told_line step r k = text_where (is_told step r k) (step_line step r k)

-- what is kept of a step tells it
pub told_text-is : (step : ℕ) (r : Run) (k : ℕ) (x : OpenStep) → IsStepOf step r k x → told_text x ≡ told_line step r k
unfolding step_line
told_text-is step r k x h = rw (h.filled, h.follows, h.from, h.gauges, h.counts, h.peak)

-- no step is over
pub over_lines-none : (step : ℕ) (r : Run) (t : ℕ) → step_of step r.start t ≡ open_step step r → over_lines step r t ≡ []
unfolding over_lines
over_lines-none step r t e = rw (e, sub_self (open_step step r))

-- one is
pub over_lines-one : (step : ℕ) (r : Run) (t : ℕ) → step_of step r.start t ≡ open_step step r + 1 → over_lines step r t ≡ told_line step r (open_step step r)
unfolding over_lines
over_lines-one step r t e =
    let k = open_step step r in
    let one : k + 1 - k ≡ 1 = omega arith in
    rw (e, one) (picked_one (step_line step r) (is_told step r) k)

-- several are
pub over_lines-more : (step : ℕ) (r : Run) (t : ℕ) → 0 < step → IsPast r → open_step step r + 2 ≤ step_of step r.start t
    → over_lines step r t ≡ told_line step r (open_step step r) ++ told_line step r (open_step step r + 1)
unfolding over_lines
over_lines-more step r t pos past l =
    let k = open_step step r in
    let n = step_of step r.start t - k - 2 in
    let many : step_of step r.start t - k ≡ suc (suc n) = omega arith in
    rw many (picked_two (step_line step r) (is_told step r) k n (λ j h. untold step r j pos past h))
