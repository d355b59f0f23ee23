-- Connections of a caller in memory: their texts by place, and one more after them.
use Rattle.std.proofs.Common.{◌≡◌, ◌∙◌, ℕ, zero, suc, ◌+◌, ◌-◌, ◌<◌, List, [], ◌∷◌, ◌++◌, length, Some, ap, arith, refl, length-append, slice_index_or}
use Rattle.std.specs.Prelude.{slice_get}
use Rattle.kn_io.specs.Callers.{every_second, texts_of}
use Rattle.kn_io.specs.MemCaller.{input_of, kept_of, last_input}
use Rattle.kn_io.specs.declared.records.Taken.{Taken}

slice_get-push : (met : List Taken) (taken : Taken) → slice_get (met ++ taken ∷ []) (length met) ≡ Some taken
slice_get-push [] taken = refl
slice_get-push (t ∷ ts) taken = slice_get-push ts taken

pub last_input-push : (met : List Taken) (taken : Taken) → last_input (met ++ taken ∷ []) ≡ taken.stream
last_input-push met taken =
    let place : length (met ++ taken ∷ []) - 1 ≡ length met = omega (arith, length-append met (taken ∷ [])) in
    ap input_of (ap (slice_get (met ++ taken ∷ [])) place ∙ slice_get-push met taken)

pub kept_of-push : (met : List Taken) (taken : Taken) → kept_of (met ++ taken ∷ []) ≡ kept_of met ++ taken.text ∷ taken.stream ∷ []
unfolding kept_of
kept_of-push [] taken = refl
kept_of-push (t ∷ ts) taken = ap (λ (l : List (List ℕ)). t.text ∷ t.stream ∷ l) (kept_of-push ts taken)

pub text_before : (met : List Taken) (held : List ℕ) (k : ℕ) (d : Taken) → k < length met
    → slice_get (texts_of (kept_of met) held) k ≡ Some ((slice_index_or met k d).text)
unfolding kept_of every_second
text_before [] held k d lt = absurd (omega (arith, lt))
text_before (t ∷ ts) held zero d lt = refl
text_before (t ∷ ts) held (suc k) d lt = text_before ts held k d (omega (arith, lt))

pub text_last : (met : List Taken) (held : List ℕ) → slice_get (texts_of (kept_of met) held) (length met) ≡ Some held
unfolding kept_of every_second
text_last [] held = refl
text_last (t ∷ ts) held = text_last ts held

pub length-texts : (met : List Taken) (held : List ℕ) → length (texts_of (kept_of met) held) ≡ length met + 1
unfolding kept_of every_second
length-texts [] held = refl
length-texts (t ∷ ts) held = let rest = length-texts ts held in omega (arith, rest)
