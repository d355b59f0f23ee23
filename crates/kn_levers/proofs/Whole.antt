-- What is named of any decision changes it.
use Rattle.std.proofs.Common.{◌≡◌, refl, ℕ, ◌<◌, ◌≤◌, Bool, true, false, cond, arith}
use Rattle.std.specs.Prelude.{◌==◌, nat_lt}
use Rattle.std.proofs.lemmas.Bool.Decides.{nat_tests}
use Rattle.kn_event.specs.Revision.{AreInRange}
use Rattle.kn_event.specs.declared.entry.Decision.{Decision}
use Rattle.kn_event.specs.declared.revision.Spec.{Spec}
use Rattle.kn_levers.specs.Laws.{Changes, EachChanges, EachIsRuled, IsInOrder, Moment, before_of, decision_in, recent_in}
use Rattle.kn_levers.specs.Levers.{asked, at_zero, capped, change_of, raised}
use Rattle.kn_levers.specs.Settings.{with_setting}
use Rattle.kn_levers.proofs.Answered.{is_less, same_is}
use Rattle.kn_levers.proofs.AtBounds.{capped_changes, raised_changes}
use Rattle.kn_levers.proofs.AtCounts.{asked_changes}
use Rattle.kn_levers.proofs.AtZero.{zero_changes}
use Rattle.kn_levers.proofs.Decided.{IsDecidedIn, decided}

some : (n : ℕ) → (n == 0) ≡ false → 0 < n
some n e = grind (arith, nat_tests)

equal : (a b : ℕ) → nat_lt a b ≡ false → nat_lt b a ≡ false → a ≡ b
equal a b e f = grind (arith, nat_tests)

changes : (s : Spec) (m : Moment) (d : Decision) (recents : ℕ) → IsDecidedIn s m d → AreInRange s → IsInOrder m → recent_in s m ≤ recents
    → Changes s (with_setting s (change_of s (before_of s m recents) d).setting) m
unfolding change_of
changes s m d recents is range order recent = by (d.bounded == 0) refl (nat_lt d.delayed d.bounded) refl (nat_lt d.bounded d.delayed) refl
  where
    by : (z : Bool) → (d.bounded == 0) ≡ z → (l : Bool) → nat_lt d.delayed d.bounded ≡ l → (c : Bool) → nat_lt d.bounded d.delayed ≡ c
        → Changes s (with_setting s (cond z (at_zero s (before_of s m recents) d) (cond l (raised s (before_of s m recents) d) (cond c (capped s (before_of s m recents) d) (asked s (before_of s m recents) d)))).setting) m
    by true e l f c g = zero_changes s m d is order recents (same_is d.bounded 0 e)
    by false e true f c g = raised_changes s m d is range order recents (some d.bounded e) (is_less d.delayed d.bounded f)
    by false e false f true g = capped_changes s m d is range order recents (some d.bounded e) (is_less d.bounded d.delayed g)
    by false e false f false g = asked_changes s m d is range order recents recent (some d.bounded e) (equal d.delayed d.bounded f g)

pub each_changes : EachChanges
each_changes s m recents range order recent = changes s m (decision_in s m) recents (decided s m) range order recent

pub each_is_ruled : EachIsRuled
each_is_ruled s m = let is = decided s m in (is.want, is.applied)
