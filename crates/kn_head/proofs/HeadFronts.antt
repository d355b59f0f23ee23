-- Why there is no head, of all the bytes, from what the bytes that came say.
use Rattle.std.proofs.Common.{◌≡◌, ℕ, ◌≤◌, ◌<◌, List, ◌++◌, length, take, Option, None, Some, IfSome, inl, inr, refl, sym, subst, arith, length-append}
use Rattle.std.proofs.lemmas.List.{take_all}
use Rattle.std.proofs.Math.Seq.{take-append_seam}
use Rattle.kn_head.specs.declared.head.HeadError.{HeadError}
use Rattle.kn_head.specs.declared.head.HeadError.TheVariants as error
use Rattle.httparse.specs.Grammar.{NeverHasRequest}
use Rattle.httparse.specs.Spans.{RequestExceeds}
use Rattle.kn_head.specs.Told.{Stops}
use Rattle.kn_head.specs.Heads.{room, limit, IsUnfinished, HasTooManyFields, HeadRefused, HeadFails}

-- the first bytes are those that came
pub front_is : (waiting more : List ℕ) (n : ℕ) → length waiting ≡ n → take n (waiting ++ more) ≡ waiting
front_is waiting more n same = subst (λ k. take k (waiting ++ more) ≡ waiting) same (take-append_seam waiting more)

pub head_refused : (e : HeadError) (waiting more : List ℕ) → length waiting ≤ limit → HeadRefused waiting e → HeadFails (waiting ++ more) e
head_refused error.Malformed waiting more short never =
    (length waiting, short, subst NeverHasRequest (sym (take-append_seam waiting more)) never)
head_refused error.TooLong waiting more short many =
    inl (length waiting, short, subst HasTooManyFields (sym (take-append_seam waiting more)) many)
head_refused error.ReadFault waiting more short never = tt
head_refused e waiting more short never = absurd never

-- all room is taken
pub head_too_long : (waiting more : List ℕ) → length waiting ≡ limit → IsUnfinished waiting → HeadFails (waiting ++ more) error.TooLong
head_too_long waiting more full open_ =
    inr (omega (arith, length-append waiting more), subst IsUnfinished (sym (front_is waiting more limit full)) open_)

-- the stream ended or failed
pub head_stopped : (e : HeadError) (known : Option (List ℕ)) (waiting : List ℕ) → length waiting < limit → IsUnfinished waiting
    → (e ≡ error.EndedEarly → ¬ (RequestExceeds room waiting)) → Stops waiting known e → IfSome known (λ bytes. HeadFails bytes e)
head_stopped e None waiting short open_ fits stops = tt
head_stopped error.EndedEarly (Some bytes) waiting short open_ fits same =
    subst (λ b. HeadFails b error.EndedEarly) (sym same) (short, open_, fits refl)
head_stopped error.ReadFault (Some bytes) waiting short open_ fits stops = tt
head_stopped e (Some bytes) waiting short open_ fits stops = absurd stops

-- it ended after more than 100 fields
pub head_ended_long : (known : Option (List ℕ)) (waiting : List ℕ) → length waiting < limit → HasTooManyFields waiting
    → Stops waiting known error.EndedEarly → IfSome known (λ bytes. HeadFails bytes error.TooLong)
head_ended_long None waiting short many stops = tt
head_ended_long (Some bytes) waiting short many same =
    subst (λ b. HeadFails b error.TooLong) (sym same)
    (inl (length waiting, omega (arith, short), subst HasTooManyFields (sym (take_all (length waiting) waiting (omega arith))) many))
