-- What two answers to the same bytes have in common.
use Rattle.std.specs.Prelude.{◌≡◌, ◌⊎◌, ℕ, ◌≤◌, List, take, Result, Ok, Err, ⊤}
use Rattle.httparse.specs.Grammar.{EndsInTarget, RequestHead}
use Rattle.kn_head.specs.declared.head.Head.{Head}
use Rattle.kn_head.specs.declared.head.HeadError.{HeadError}
use Rattle.kn_head.specs.declared.head.HeadError.TheVariants as error
use Rattle.kn_head.specs.Heads.{limit, BeginsWithHead, HasTooManyFields, HeadFails}
use Rattle.kn_head.specs.Reading.{Reads}

-- a fault of the source, or want of memory: the bytes don't decide it
abbrev pub IsUntold : HeadError → Type 0
IsUntold error.ReadFault = ⊤
IsUntold error.Memory = ⊤
IsUntold e = ⊥

-- the answer is this request, unless the source failed or memory was lacking
abbrev pub IsOkUnlessUntold : Result Head HeadError → Head → Type 0
IsOkUnlessUntold (Ok other) head = other ≡ head
IsOkUnlessUntold (Err e) head = IsUntold e

-- more than 100 fields come within the first 16,384 bytes
abbrev pub ComeTooMany : List ℕ → Type 0
ComeTooMany bytes = (k : ℕ) × (k ≤ limit) × HasTooManyFields (take k bytes)

-- where the bytes end within the target, that they end early or that the head is too long may stand for Malformed; where more
-- than 100 fields come, that it is too long
abbrev pub MayStandForMalformed : List ℕ → HeadError → Type 0
MayStandForMalformed bytes error.EndedEarly = EndsInTarget (take limit bytes)
MayStandForMalformed bytes error.TooLong = EndsInTarget (take limit bytes) ⊎ ComeTooMany bytes
MayStandForMalformed bytes e = ⊥

-- two faults of a head are the same, or the source failed, or one is Malformed and the other may stand for it
abbrev pub AreAlike : List ℕ → HeadError → HeadError → Type 0
AreAlike bytes e f =
    (e ≡ f) ⊎ ((IsUntold e ⊎ IsUntold f)
    ⊎ (((e ≡ error.Malformed) × MayStandForMalformed bytes f) ⊎ ((f ≡ error.Malformed) × MayStandForMalformed bytes e)))

-- two faults are the same, unless the source failed or memory was lacking at one of them
abbrev pub AreSameUnlessUntold : HeadError → HeadError → Type 0
AreSameUnlessUntold e f = (e ≡ f) ⊎ (IsUntold e ⊎ IsUntold f)

-- bytes that say this request say no other answer, unless the source failed or memory was lacking
abbrev pub ReadsNoOther : List ℕ → Head → Result Head HeadError → Type 0
ReadsNoOther bytes head answer = Reads bytes (Ok head) → Reads bytes answer → IsOkUnlessUntold answer head

-- bytes begin with one such part at most, and one rest follows it
abbrev pub BeginsOnce : {T : Type 0} → (List ℕ → T → List ℕ → Type 0) → List ℕ → T → T → List ℕ → List ℕ → Type 0
BeginsOnce Begins bytes v w r q = Begins bytes v r → Begins bytes w q → (v ≡ w) × (r ≡ q)

-- bytes that begin with a head are said to have none only where the source failed or memory was lacking
abbrev pub NeverFails : List ℕ → RequestHead → List ℕ → HeadError → Type 0
NeverFails bytes h rest e = BeginsWithHead bytes h rest → HeadFails bytes e → IsUntold e

-- bytes that begin with a head have one fault at most, unless the source failed or memory was lacking
abbrev pub HasOneFault : List ℕ → RequestHead → List ℕ → HeadError → HeadError → Type 0
HasOneFault bytes h rest e f = BeginsWithHead bytes h rest → Reads bytes (Err e) → Reads bytes (Err f) → AreSameUnlessUntold e f
