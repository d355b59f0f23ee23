-- The laws of traces, as a session cites them.
use Rattle.std.proofs.Common.{◌≡◌, ℕ, ◌+◌, ◌++◌, sym, ◌∙◌}
use Rattle.std.specs.Prelude.{Some}
use Rattle.std.proofs.Math.Logic.{∥∥₁_elim}
use native.Mathlib.Nat.{ℕ_set}
use Rattle.kn_event.specs.declared.event.Act.TheVariants as act
use Rattle.kn_event.specs.declared.event.Event.{Event}
use Rattle.kn_event.specs.declared.revision.Spec.{Spec}
use Rattle.kn_trace.specs.Events.{react, told_of}
use Rattle.kn_trace.specs.Trace.{Trace, arrivals}
use Rattle.kn_record.specs.Made.{IsMade}
use Rattle.kn_sizes.specs.Told.{IsTold, arrival_told}
use Rattle.kn_request.specs.Laws.{Made}

some_is : (a b : ℕ) → Some a ≡ Some b → a ≡ b
some_is a b e = cc

pub number_of : ((s : Spec) (c : Trace) (e : Event) (tag : ℕ) → IsMade s c → e.act ≡ act.Arrive tag → IsTold s c e)
    → (s : Spec) (c : Trace) (e : Event) (tag r : ℕ) → Made s c → e.act ≡ act.Arrive tag → arrival_told (told_of s c e) ≡ Some r → r ≡ arrivals c
number_of told s c e tag r made is named = ∥∥₁_elim made (ℕ_set r (arrivals c)) (λ (m : IsMade s c). some_is r (arrivals c) (sym named ∙ (told s c e tag m is).number))

pub counts_of : ((s : Spec) (c : Trace) (e : Event) (tag : ℕ) → IsMade s c → e.act ≡ act.Arrive tag → IsTold s c e)
    → (s : Spec) (c : Trace) (e : Event) (tag : ℕ) → Made s c → e.act ≡ act.Arrive tag → arrivals (c ++ react s c e) ≡ arrivals c + 1
counts_of told s c e tag made is = ∥∥₁_elim made (ℕ_set (arrivals (c ++ react s c e)) (arrivals c + 1)) (λ (m : IsMade s c). (told s c e tag m is).counts)
