-- What a queue holds.
use Rattle.std.specs.Prelude.{ℕ, Bool, List}

-- connections, in turn: those whose requests have begun, and those that callers found silent; how many callers wait at the socket;
-- whether the front sleeps until none does; whether callers go to the socket no more; and whether no more are to come
pub record Queued (C : Type 0) : Type 0 where
  pub begun : List C
  pub silent : List C
  pub waits : ℕ
  pub asleep : Bool
  pub shut : Bool
  pub ended : Bool
