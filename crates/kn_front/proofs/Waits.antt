-- A wait from the time on when somebody came, or before that.
use Rattle.std.proofs.Common.{◌≡◌, ℕ, ◌-◌, ◌<◌, ◌≤◌, Option, None, Some, true, false, refl, arith}
use Rattle.std.proofs.lemmas.Bool.{leb-true}
use Rattle.std.proofs.lemmas.Bool.Decides.{nat_tests}
use Rattle.std.specs.Duration.{as_nanos}
use Rattle.std.specs.Time.{instant_nanos}
use Rattle.std.specs.declared.time.Duration.{Duration}
use Rattle.std.specs.declared.time.Instant.{Instant}
use Rattle.kn_front.specs.declared.silent.Silent.{Silent}
use Rattle.kn_front.specs.Patience.{is_by, is_due, silent_for}

pub ends_in_time : (oldest now : Instant) (one : Silent) (idle wait : ℕ)
    → wait ≡ idle - (instant_nanos now - instant_nanos oldest) → is_by (Some oldest) one.since ≡ true
    → wait ≤ idle - silent_for now one
ends_in_time oldest now one idle wait is by =
    let came = leb-true (instant_nanos oldest) (instant_nanos one.since) by in omega (arith, is, came)

-- whom a wait is for that isn't over
pub not_due : (wait : Duration) (now : Instant) (idle : ℕ) (one : Option Silent) → 0 < as_nanos wait
    → ((it : Silent) → one ≡ Some it → as_nanos wait ≤ idle - silent_for now it)
    → is_due idle now one ≡ false
not_due wait now idle None more ends = refl
not_due wait now idle (Some it) more ends = let end = ends it refl in grind (arith, nat_tests)

-- where there is a time, somebody may have come since
pub some_time : (t : Instant) → is_by None t ≡ true → ⊥
some_time t by = cc
