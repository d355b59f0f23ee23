-- An object that a call is lent.
use Rattle.std.specs.Borrow.{Bor, MutBor}
use denote.Triple.Both.{Both}

-- an object that a call may look at, as an `ensures` sees a parameter that is a `&`
abbrev pub Lent : Type 0 → Type 0
Lent X = Both (Bor X) (Bor X)

abbrev pub lent : {X : Type 0} → Lent X → X
lent x = x.entry.now

-- an object that a call may change, as an `ensures` sees a parameter that is a `&mut`
abbrev pub Change : Type 0 → Type 0
Change X = Both (MutBor X) (MutBor X)

-- what it was as the call began, and what it is at its end
abbrev pub was : {X : Type 0} → Change X → X
was x = x.entry.now

abbrev pub became : {X : Type 0} → Change X → X
became x = x.exit.now
