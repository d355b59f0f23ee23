-- What the code keeps of a number: one above the greatest stands for all that is too large.
use Rattle.std.specs.Prelude.{ℕ, min, Result, Ok, Err}
use Rattle.kn_num.specs.declared.error.NumError.{NumError}
use Rattle.kn_num.specs.declared.number.Number.{Number}

abbrev pub above : ℕ
above = 1000000001

abbrev pub capped : Result Number NumError → Result Number NumError
capped (Ok number) = Ok (record number { whole = min above number.whole })
capped (Err fault) = Err fault
