-- The breaker when a running request ends.
use Rattle.std.specs.Prelude.{Bool, true, false, ◌-◌}
use Rattle.kn_breaker.specs.Breaker.{State}

-- one that was assigned gives its slot back
abbrev pub released : Bool → State → State
released true b = record b { in_flight = b.in_flight - 1; running = b.running - 1 }
released false b = b
