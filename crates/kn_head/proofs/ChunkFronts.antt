-- What the bytes that came say of a part of a body in chunks, of all the bytes.
use Rattle.std.proofs.Common.{◌≡◌, ℕ, ◌<◌, List, ◌++◌, length, drop, Option, None, Some, IfSome, inl, inr, refl, sym, subst, arith}
use Rattle.std.proofs.lemmas.List.{take_all}
use Rattle.std.specs.Io.KnownBytes.{Keeps}
use Rattle.httparse.specs.Spans.{SectionExceeds, SectionOverflows}
use Rattle.kn_http.specs.Parts.{IsHopelessTrailer}
use Rattle.kn_head.specs.declared.head.HeadError.{HeadError}
use Rattle.kn_head.specs.declared.head.HeadError.TheVariants as error
use Rattle.kn_head.specs.Told.{PartFails, unread, IfTold, Stops}
use Rattle.kn_head.specs.Heads.{room, limit}
use Rattle.kn_head.specs.Chunks.{TrailerFails}

-- the stream ended or failed
pub part_stopped : (refused cut : List ℕ → Type 0) (e : HeadError) (known : Option (List ℕ)) (waiting : List ℕ)
    → (e ≡ error.EndedEarly → cut waiting) → Stops waiting known e → IfSome known (λ bytes. PartFails (refused bytes) (cut bytes) e)
part_stopped refused cut e None waiting c stops = tt
part_stopped refused cut error.EndedEarly (Some bytes) waiting c same = subst cut (sym same) (c refl)
part_stopped refused cut error.ReadFault (Some bytes) waiting c stops = tt
part_stopped refused cut e (Some bytes) waiting c stops = absurd stops

-- it ended after more than 100 fields of a trailer
pub trailer_ended_long : (known : Option (List ℕ)) (waiting : List ℕ) → length waiting < limit → SectionExceeds room waiting × SectionOverflows room waiting
    → Stops waiting known error.EndedEarly → IfSome known (λ bytes. TrailerFails bytes error.BadChunk)
trailer_ended_long None waiting short many stops = tt
trailer_ended_long (Some bytes) waiting short many same =
    subst (λ b. TrailerFails b error.BadChunk) (sym same)
    (inl (length waiting, omega (arith, short), subst (IsHopelessTrailer room) (sym (take_all (length waiting) waiting (omega arith))) (inr many)))

-- ---- what was taken

pub kept_taken : (old left : Option (List ℕ)) (waiting : List ℕ) (n : ℕ) (P : List ℕ → List ℕ → Type 0) → Keeps old (unread waiting left)
    → ((more : List ℕ) → P (waiting ++ more) (drop n waiting ++ more)) → IfTold old (unread (drop n waiting) left) P
kept_taken None left waiting n P same h = tt
kept_taken (Some bytes) None waiting n P same h = absurd same
kept_taken (Some bytes) (Some more) waiting n P same h = subst (λ b. P b (drop n waiting ++ more)) same (h more)
