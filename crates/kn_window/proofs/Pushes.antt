-- One more second right behind the last one: the ring takes it as it is.
use Rattle.std.proofs.Common.{◌≡◌, refl, sym, ap, ◌+◌, ◌<◌, ◌≤◌, ℕ, Bool, true, false, inr, List, ◌∷◌, [], ◌++◌, arith, length, min}
use Rattle.std.specs.Prelude.{nat_lt, unwrap_or}
use Rattle.circular_buffer.specs.Buffer.{keep_last}
use Rattle.kn_scaling.specs.Average.{Samples, with_run}
use Rattle.kn_scaling.specs.Worked.{run_of}
use Rattle.kn_window.specs.Stands.{Holds, IsWindowOf, WindowState, load_at, total_before}
use Rattle.kn_window.proofs.Spells.{run_inside, run_before}
use Rattle.kn_window.proofs.Rings.{holds_push, holds_same, length_kept}
use Rattle.kn_window.proofs.Windows.{stands_new, stands_on, total_next, total_same}

module _ (f : Samples) (v : ℕ) (w : WindowState) where
  abbrev one_more : Samples
  one_more = with_run f (run_of w.end 1 v)

  abbrev pushed : List ℕ
  pushed = keep_last w.seconds (w.totals ++ w.total ∷ [])

  held_pushed : IsWindowOf w f → Holds pushed (w.total + v) (total_before one_more) (w.end + 1)
  held_pushed r =
      let as_before = holds_same w.totals w.total (total_before f) (total_before one_more) w.end
      (λ s i. total_same f one_more s (λ x h. sym (run_before f w.end 1 v x (omega (arith, i, h))))) r.totals in
      let load : load_at one_more w.end ≡ v = ap (λ o. unwrap_or o 0) (run_inside f w.end 1 v w.end (omega arith) (omega arith)) in
      let next = total_next one_more w.end in
      holds_push w.seconds w.totals (total_before one_more) w.end w.total v as_before (omega (arith, next, load))

  pub stands_push : 0 < w.seconds → v ≤ 1000000000 → 0 < w.end → IsWindowOf w f
      → IsWindowOf (record { seconds = w.seconds; totals = pushed; total = w.total + v; end = w.end + 1 }) one_more
  stands_push long few was r = go (nat_lt w.seconds 2) refl
    where
      len : length pushed ≡ min w.seconds (length w.totals + 1)
      len = length_kept w.seconds w.totals w.total

      go : (b : Bool) → nat_lt w.seconds 2 ≡ b → IsWindowOf (record { seconds = w.seconds; totals = pushed; total = w.total + v; end = w.end + 1 }) one_more
      go true e =
          let short : w.seconds < 2 = grind (arith, e) in
          stands_new f w.seconds w.end 1 v w pushed (w.total + v) refl long few (omega arith) (omega arith) (inr (omega (arith, short))) r (held_pushed r)
          (omega (arith, len)) (omega (arith, len, long)) (omega (arith, len, short, long))
      go false e =
          let more : 2 ≤ w.seconds = grind (arith, e) in
          let ring = r.totals.within in
          let fit = r.fits in
          stands_on f w.seconds w.end 1 v w pushed (w.total + v) refl long few (omega arith) (omega arith) was (omega (arith, more)) r (held_pushed r)
          (omega (arith, len)) (omega (arith, len, long)) (omega (arith, len, ring, fit))

  -- the same, of what is equal to that
  pub stands_pushed : (a k seconds total end : ℕ) (ws : List ℕ) → 0 < w.seconds → v ≤ 1000000000 → 0 < w.end → a ≡ w.end → k ≡ 1
      → seconds ≡ w.seconds → ws ≡ pushed → total ≡ w.total + v → end ≡ w.end + 1 → IsWindowOf w f
      → IsWindowOf (record { seconds = seconds; totals = ws; total = total; end = end }) (with_run f (run_of a k v))
  stands_pushed a k seconds total end ws long few was at one size items sum last r = rw (at, one, size, items, sum, last) (stands_push long few was r)
