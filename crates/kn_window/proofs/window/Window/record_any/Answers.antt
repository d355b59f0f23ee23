use Rattle.std.proofs.Common.{◌≡◌, refl, ap, subst, ◌∙◌, ◌+◌, ◌-◌, ◌*◌, ◌≤◌, ◌<◌, ◌==◌, ◌||◌, ℕ, [], arith, length, max, min, cond}
use Rattle.std.specs.Prelude.{nat_le, nat_lt}
use Rattle.kn_scaling.specs.Average.{with_run}
use Rattle.kn_scaling.specs.Worked.{run_of}
use Rattle.kn_window.specs.Stands.{WindowState, IsWindowOf, Holds}
use Rattle.kn_window.proofs.Windows.{run_ends, stands_run}
use Rattle.kn_window.proofs.window.Window.record_any.Goals as goal

pub returns-clause-stands : goal.returns-clause-stands
returns-clause-stands c = λ f r.
    let w = c.args.self.now in
    let n = w.seconds in
    let a = c.args.second in
    let k = c.args.count in
    let v = c.args.load in
    let inside = c.self.inside.totals in
    let from = c.first_written-from.result in
    let is_new = c.is_apart-is_new.result in
    let cut = c.is_cut.result in
    let y = c.skip_if.new.self in
    let z = c.push_all.new.self in
    let last = c.push_all-2.new.self in
    let size : inside.ring.capacity ≡ n = ap (λ (w : WindowState). w.seconds) c.self.view_is in
    let end_is : inside.end ≡ w.end = ap (λ (w : WindowState). w.end) c.self.view_is in
    let totals_is : inside.ring.items ≡ w.totals = ap (λ (w : WindowState). w.totals) c.self.view_is in
    let total_is : inside.total ≡ w.total = ap (λ (w : WindowState). w.total) c.self.view_is in
    let end : c.end-end.result ≡ w.end = c.end-end.ensures.end ∙ end_is in
    let seconds : c.seconds-seconds.result ≡ n = c.seconds-seconds.ensures.seconds ∙ size in
    let low : c.saturating_sub.result ≡ a + k - n = omega (arith, c.saturating_sub.ensures, seconds) in
    let long : 0 < n = omega (arith, inside.some, size) in
    let new_is : is_new ≡ ((w.end == 0) || nat_le (w.end + n) (a + 1)) =
    c.is_apart-is_new.ensures ∙ ap (λ e. (e == 0) || nat_le (e + c.seconds-seconds.result) (a + 1)) end
    ∙ ap (λ m. (w.end == 0) || nat_le (w.end + m) (a + 1)) seconds in
    let from_is : from ≡ max (cond is_new a w.end) (a + k - n) =
    c.first_written-from.ensures ∙ ap (λ e. max (cond is_new a e) c.saturating_sub.result) end ∙ ap (max (cond is_new a w.end)) low in
    let cut_is : cut ≡ (is_new || nat_lt w.end from) = c.is_cut.ensures ∙ ap (λ e. is_new || nat_lt e from) end in
    let ys_is : y.ring.items ≡ cond cut [] w.totals = c.skip_if.ensures.items ∙ ap (cond cut []) totals_is in
    let y_is : y.total ≡ cond cut (w.total + v * (from - a)) w.total =
    c.skip_if.ensures.total ∙ ap (λ m. cond cut (inside.total + v * m) inside.total) c.saturating_sub-2.ensures ∙ ap (λ t. cond cut (t + v * (from - a)) t) total_is in
    let yend_is : y.end ≡ cond cut from w.end = c.skip_if.ensures.end ∙ ap (cond cut from) end_is in
    let gap : c.saturating_sub-3.result ≡ a - from = c.saturating_sub-3.ensures in
    let rest : a + k - c.max.result ≡ a + k - max from a = ap (λ m. a + k - m) c.max.ensures in
    let zend : z.end ≡ y.end + (a - from) = omega (arith, c.push_all.ensures.end, gap) in
    let first = subst (λ (d : ℕ). (before : ℕ → ℕ) → Holds y.ring.items y.total before y.end → ((s : ℕ) → y.end ≤ s → s < y.end + d → before (s + 1) ≡ before s + 0) → Holds z.ring.items z.total before (y.end + d))
    gap c.push_all.ensures.holds in
    let third = subst (λ (d : ℕ). (before : ℕ → ℕ) → Holds z.ring.items z.total before z.end → ((s : ℕ) → z.end ≤ s → s < z.end + d → before (s + 1) ≡ before s + v) → Holds last.ring.items last.total before (z.end + d))
    rest c.push_all-2.ensures.holds in
    let second = subst (λ (e : ℕ). (before : ℕ → ℕ) → Holds z.ring.items z.total before e → ((s : ℕ) → e ≤ s → s < e + (a + k - max from a) → before (s + 1) ≡ before s + v) → Holds last.ring.items last.total before (e + (a + k - max from a)))
    zend third in
    let first_len : length z.ring.items ≡ min n (length y.ring.items + (a - from)) = omega (arith, c.push_all.ensures.length, c.skip_if.ensures.capacity, size, gap) in
    let second_len : length last.ring.items ≡ min n (length z.ring.items + (a + k - max from a)) = omega (arith, c.push_all-2.ensures.length, c.push_all.ensures.capacity, c.skip_if.ensures.capacity, size, rest) in
    let ends = run_ends a k n w.end from is_new cut c.requires.second c.requires.some long from_is cut_is in
    let whole = stands_run f n a k v w from is_new cut y.ring.items z.ring.items last.ring.items y.total z.total last.total y.end refl long c.requires.load c.requires.some c.requires.second
    new_is from_is cut_is ys_is y_is yend_is first first_len second second_len r in
    subst (λ m. IsWindowOf (record { seconds = m; totals = last.ring.items; total = last.total; end = last.end }) (with_run f (run_of a k v)))
    (let e : n ≡ last.ring.capacity = omega (arith, size, c.push_all-2.ensures.capacity, c.push_all.ensures.capacity, c.skip_if.ensures.capacity) in e)
    (subst (λ e. IsWindowOf (record { seconds = n; totals = last.ring.items; total = last.total; end = e }) (with_run f (run_of a k v)))
    (let e : a + k ≡ last.end = omega (arith, c.push_all-2.ensures.end, zend, rest, yend_is, ends) in e) whole)
