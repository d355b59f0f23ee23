use Rattle.std.proofs.Common.{ℕ, List, [], ◌∷◌, ◌++◌, true, false, ap, arith, refl, length-append}
use Rattle.kn_io.specs.Callers.{every_second}
use Rattle.kn_io.proofs.Seconds.{every_second-append, length-every_second}
use Rattle.kn_io.proofs.callers.caller_laws.Goals as goal

pub returns-clause-none : goal.returns-clause-none
unfolding every_second
returns-clause-none c = (refl, refl)

pub returns-clause-texts : goal.returns-clause-texts
unfolding every_second
returns-clause-texts c kept held input even =
    ap (λ (l : List (List ℕ)). l ++ [] ∷ []) (every_second-append true kept (held ∷ input ∷ []) even.0 even.1)

pub returns-clause-streams : goal.returns-clause-streams
unfolding every_second
returns-clause-streams c kept held input even = every_second-append false kept (held ∷ input ∷ []) even.0 even.1

pub returns-clause-many : goal.returns-clause-many
returns-clause-many c kept held even =
    omega (arith, length-append (every_second true kept) (held ∷ []), length-every_second kept even.0 even.1)
