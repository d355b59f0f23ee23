-- From the open step to that of a later time.
use Rattle.std.proofs.Common.{◌≡◌, ◌≤◌, ◌<◌, ◌+◌, ◌-◌, ◌*◌, ◌%◌, ℕ, Bool, false, ltb, List, [], ◌++◌, refl, ap, sym, ◌∙◌, subst, arith, append-nil, inl, inr}
use Rattle.std.specs.Prelude.{Option, ◌⊎◌}
use Rattle.std.proofs.Math.Bool.{and-false}
use Rattle.std.proofs.Math.Nat.{div-eq_of_lt}
use Rattle.std.proofs.lemmas.Bool.{cases_lt, lt-ltb}
use Rattle.std.proofs.lemmas.Nat.{div-add-mod', le-div}
use Rattle.kn_io.specs.Prefix.{AppendsPrefix}
use Rattle.kn_report.specs.AddingLaws.{AddingLaws}
use Rattle.kn_report.specs.Waiting.{Adds}
use Rattle.kn_teller.specs.Run.{Run, now_of, trace}
use Rattle.kn_show_series.specs.declared.current.OpenStep.{OpenStep}
use Rattle.kn_show_series.specs.declared.gauges.Gauges.{Gauges}
use Rattle.kn_show_series.specs.Counting.{size_of}
use Rattle.kn_show_series.specs.Open.{begun_at, told_text}
use Rattle.kn_show_series.specs.Series.{open_step, over_lines}
use Rattle.kn_show_series.specs.State.{IsPast, IsStepOf, Precedes}
use Rattle.kn_show_series.specs.Steps.{counts_of, follows_filled, gauges_of, is_filled, step_of}
use Rattle.kn_show_series.proofs.Over.{over_lines-more, over_lines-none, over_lines-one, told_line, told_text-is}
use Rattle.kn_show_series.proofs.Past.{begins_later, is_filled-none}
use Rattle.kn_show_series.proofs.Steps.{step_begins, step_of-behind}

-- ---- which step it is

-- the time is so far behind the beginning of the open step
behind : (step : ℕ) (r : Run) (t : ℕ) (x : OpenStep) → Precedes step r t x → t ≡ r.start + open_step step r * step + (t - x.from)
behind step r t x h =
    let low = step_begins step r.start (now_of r) h.past.start in
    let from = h.kept.from in
    let order = h.order in
    omega arith

pub stays : (step : ℕ) (r : Run) (t : ℕ) (x : OpenStep) → 0 < step → Precedes step r t x → t - x.from < step → step_of step r.start t ≡ open_step step r
stays step r t x pos h l =
    let none = div-eq_of_lt l in
    step_of-behind step r.start (open_step step r) (t - x.from) t pos (behind step r t x h) ∙ omega (arith, none)

pub goes_to_next : (step : ℕ) (r : Run) (t : ℕ) (x : OpenStep) → 0 < step → Precedes step r t x → step ≤ t - x.from → t - x.from - step < step
    → step_of step r.start t ≡ open_step step r + 1
goes_to_next step r t x pos h low high =
    let none = div-eq_of_lt high in
    let far = behind step r t x h in
    step_of-behind step r.start (open_step step r + 1) (t - x.from - step) t pos (omega arith) ∙ omega (arith, none)

pub goes_beyond : (step : ℕ) (r : Run) (t : ℕ) (x : OpenStep) → 0 < step → Precedes step r t x → step ≤ t - x.from → step ≤ t - x.from - step
    → open_step step r + 2 ≤ step_of step r.start t
goes_beyond step r t x pos h low high =
    let two : 2 * step ≤ t - x.from = omega arith in
    let many = le-div 2 (t - x.from) step pos two in
    let is = step_of-behind step r.start (open_step step r) (t - x.from) t pos (behind step r t x h) in
    omega arith

-- where that step begins
pub begins_at : (step : ℕ) (r : Run) (t : ℕ) (x : OpenStep) → 0 < step → Precedes step r t x → t - (t - x.from) % step ≡ r.start + step_of step r.start t * step
begins_at step r t x pos h =
    let is = step_of-behind step r.start (open_step step r) (t - x.from) t pos (behind step r t x h) in
    let far = behind step r t x h in
    let parts = div-add-mod' (t - x.from) step in
    rw is (omega arith)

-- ---- what is kept of it

follows_filled-next : (step : ℕ) (r : Run) (k : ℕ) → follows_filled step r (k + 1) ≡ is_filled step r k
unfolding follows_filled
follows_filled-next step r k =
    let back : k + 1 - 1 ≡ k = omega arith in
    rw (lt-ltb 0 (k + 1) (omega arith), back)

follows_filled-none : (step : ℕ) (r : Run) (k : ℕ) → 0 < step → IsPast r → open_step step r + 2 ≤ k → follows_filled step r k ≡ false
unfolding follows_filled
follows_filled-none step r k pos past l = rw (is_filled-none step r (k - 1) pos past (omega arith), and-false (ltb 0 k))

pub next_kept : (step : ℕ) (r : Run) (t : ℕ) (x y : OpenStep) → 0 < step → Precedes step r t x → y ≡ begun_at (x.from + step) x.filled x.gauges
    → IsStepOf step r (open_step step r + 1) y
next_kept step r t x y pos h e =
    let k = open_step step r in
    let from : x.from + step ≡ r.start + (k + 1) * step = (let f = h.kept.from in omega arith) in
    let new = begins_later step r (k + 1) (x.from + step) pos h.past (omega arith) from in
    let same : begun_at (x.from + step) (follows_filled step r (k + 1)) (gauges_of r.spec (trace r)) ≡ y =
    ap (λ b. begun_at (x.from + step) b (gauges_of r.spec (trace r))) (follows_filled-next step r k ∙ sym h.kept.filled)
    ∙ ap (λ (g : Gauges). begun_at (x.from + step) x.filled g) (sym h.kept.gauges) ∙ sym e in
    subst (IsStepOf step r (k + 1)) same new

pub later_kept : (step : ℕ) (r : Run) (t : ℕ) (x y : OpenStep) → 0 < step → Precedes step r t x → open_step step r + 2 ≤ step_of step r.start t
    → y ≡ begun_at (t - (t - x.from) % step) false x.gauges → IsStepOf step r (step_of step r.start t) y
later_kept step r t x y pos h l e =
    let k = step_of step r.start t in
    let from = t - (t - x.from) % step in
    let new = begins_later step r k from pos h.past (omega arith) (begins_at step r t x pos h) in
    let same : begun_at from (follows_filled step r k) (gauges_of r.spec (trace r)) ≡ y =
    ap (λ b. begun_at from b (gauges_of r.spec (trace r))) (follows_filled-none step r k pos h.past l)
    ∙ ap (λ (g : Gauges). begun_at from false g) (sym h.kept.gauges) ∙ sym e in
    subst (IsStepOf step r k) same new

pub stays_kept : (step : ℕ) (r : Run) (t : ℕ) (x : OpenStep) → 0 < step → Precedes step r t x → t - x.from < step → IsStepOf step r (step_of step r.start t) x
stays_kept step r t x pos h l = rw (stays step r t x pos h l) h.kept

pub size_of-begun : (x : OpenStep) (from : ℕ) (b : Bool) (g : Gauges) → x ≡ begun_at from b g → size_of x.counts ≡ 0
unfolding counts_of
size_of-begun x from b g e = ap (λ (y : OpenStep). size_of y.counts) e

-- ---- the lines

pub no_line : (step : ℕ) (r : Run) (t : ℕ) (x : OpenStep) → 0 < step → Precedes step r t x → t - x.from < step → over_lines step r t ≡ []
no_line step r t x pos h l = over_lines-none step r t (stays step r t x pos h l)

pub one_line : (step : ℕ) (r : Run) (t : ℕ) (x : OpenStep) → 0 < step → Precedes step r t x → step ≤ t - x.from → t - x.from - step < step
    → over_lines step r t ≡ told_text x
one_line step r t x pos h low high =
    over_lines-one step r t (goes_to_next step r t x pos h low high) ∙ sym (told_text-is step r (open_step step r) x h.kept)

pub two_lines : (step : ℕ) (r : Run) (t : ℕ) (x y : OpenStep) → 0 < step → Precedes step r t x → step ≤ t - x.from → step ≤ t - x.from - step
    → y ≡ begun_at (x.from + step) x.filled x.gauges → over_lines step r t ≡ told_text x ++ told_text y
two_lines step r t x y pos h low high e =
    let k = open_step step r in
    over_lines-more step r t pos h.past (goes_beyond step r t x pos h low high)
    ∙ ap (λ (text : List ℕ). text ++ told_line step r (k + 1)) (sym (told_text-is step r k x h.kept))
    ∙ ap (λ (text : List ℕ). told_text x ++ text) (sym (told_text-is step r (k + 1) y (next_kept step r t x y pos h e)))

-- ---- what was written

pub added_none : AddingLaws → (a : Option (List ℕ)) (p text : List ℕ) → text ≡ [] → Adds a a p p text
added_none laws a p text e = subst (Adds a a p p) (sym e) laws.nothing

-- some first of it, and of a line behind it
first_cut : AddingLaws → (a d : Option (List ℕ)) (p x rest text : List ℕ) → text ≡ x ++ rest → AppendsPrefix a d (p ++ x) → AppendsPrefix a d (p ++ text)
first_cut laws a d p x rest text e h = subst (λ (z : List ℕ). AppendsPrefix a d (p ++ z)) (sym e) (laws.behind a d p x rest h)

pub cut_in_first : AddingLaws → (step : ℕ) (r : Run) (t : ℕ) (x : OpenStep) (a d : Option (List ℕ)) (p : List ℕ) → 0 < step → Precedes step r t x → step ≤ t - x.from
    → AppendsPrefix a d (p ++ told_text x) → AppendsPrefix a d (p ++ over_lines step r t)
cut_in_first laws step r t x a d p pos h low cut = by (cases_lt (t - x.from - step) step)
  where
    by : ((t - x.from - step < step) ⊎ (step ≤ t - x.from - step)) → AppendsPrefix a d (p ++ over_lines step r t)
    by (inl high) = first_cut laws a d p (told_text x) [] (over_lines step r t) (one_line step r t x pos h low high ∙ sym (append-nil (told_text x))) cut
    by (inr high) =
        let y = begun_at (x.from + step) x.filled x.gauges in
        first_cut laws a d p (told_text x) (told_text y) (over_lines step r t) (two_lines step r t x y pos h low high refl) cut

pub cut_in_second : AddingLaws → (step : ℕ) (r : Run) (t : ℕ) (x y : OpenStep) (a b d : Option (List ℕ)) (p q : List ℕ) → 0 < step → Precedes step r t x → step ≤ t - x.from → step ≤ t - x.from - step
    → y ≡ begun_at (x.from + step) x.filled x.gauges → Adds a b p q (told_text x) → AppendsPrefix b d (q ++ told_text y) → AppendsPrefix a d (p ++ over_lines step r t)
cut_in_second laws step r t x y a b d p q pos h low high e first cut =
    subst (λ (z : List ℕ). AppendsPrefix a d (p ++ z)) (sym (two_lines step r t x y pos h low high e)) (laws.last d (told_text y) first cut)

pub added_one : (step : ℕ) (r : Run) (t : ℕ) (x : OpenStep) (a b : Option (List ℕ)) (p q : List ℕ) → 0 < step → Precedes step r t x → step ≤ t - x.from → t - x.from - step < step
    → Adds a b p q (told_text x) → Adds a b p q (over_lines step r t)
added_one step r t x a b p q pos h low high first = subst (Adds a b p q) (sym (one_line step r t x pos h low high)) first

pub added_two : AddingLaws → (step : ℕ) (r : Run) (t : ℕ) (x y : OpenStep) (a b d : Option (List ℕ)) (p q s : List ℕ) → 0 < step → Precedes step r t x → step ≤ t - x.from → step ≤ t - x.from - step
    → y ≡ begun_at (x.from + step) x.filled x.gauges → Adds a b p q (told_text x) → Adds b d q s (told_text y) → Adds a d p s (over_lines step r t)
added_two laws step r t x y a b d p q s pos h low high e first second = laws.more first second (sym (two_lines step r t x y pos h low high e))

-- ---- the step of the time

pub next_is : (step : ℕ) (r : Run) (t : ℕ) (x y : OpenStep) → 0 < step → Precedes step r t x → step ≤ t - x.from → t - x.from - step < step
    → y ≡ begun_at (x.from + step) x.filled x.gauges → IsStepOf step r (step_of step r.start t) y
next_is step r t x y pos h low high e = rw (goes_to_next step r t x pos h low high) (next_kept step r t x y pos h e)

-- by way of the next one
pub later_is : (step : ℕ) (r : Run) (t over : ℕ) (x y z : OpenStep) → 0 < step → Precedes step r t x → over ≡ t - x.from → step ≤ t - x.from → step ≤ t - x.from - step
    → y ≡ begun_at (x.from + step) x.filled x.gauges → z ≡ begun_at (t - over % step) false y.gauges → IsStepOf step r (step_of step r.start t) z
later_is step r t over x y z pos h far low high e f =
    later_kept step r t x z pos h (goes_beyond step r t x pos h low high)
    (f ∙ ap (λ n. begun_at (t - n % step) false y.gauges) far ∙ ap (λ (w : OpenStep). begun_at (t - (t - x.from) % step) false w.gauges) e)
