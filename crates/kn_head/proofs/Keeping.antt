-- The lines of the fields that are sent on, field by field.
use Rattle.std.proofs.Common.{◌≡◌, ◌≤◌, ◌<◌, ◌+◌, ℕ, Bool, true, false, cond, List, [], ◌∷◌, ◌++◌, length, take, drop, get_or, sym, ap, ◌∙◌, append_assoc, append-nil, arith, length-append}
use Rattle.std.specs.List.{flat_map, filter}
use Rattle.std.proofs.lemmas.List.{take-append-drop}
use Rattle.std.proofs.lemmas.List.Elements.{filter-append, filter_more}
use Rattle.std.proofs.lemmas.Grind.{flat_map-append}
use Rattle.kn_head.specs.declared.head.Head.{Head}
use Rattle.kn_head.specs.Forwarding.{field_line, forwarded, is_kept, kept_lines, length_line, proxy_line, request_line}

kept_more : (b : Bool) (out : List ℕ) (f : List ℕ × List ℕ) (fs : List (List ℕ × List ℕ))
    → out ++ flat_map field_line (fs ++ cond b (f ∷ []) []) ≡ (out ++ flat_map field_line fs) ++ cond b (field_line f) []
kept_more true out f fs =
    ap (λ l. out ++ l) (flat_map-append field_line fs (f ∷ []) ∙ ap (λ l. flat_map field_line fs ++ l) (append-nil (field_line f)))
    ∙ sym (append_assoc out (flat_map field_line fs) (field_line f))
kept_more false out f fs = ap (λ l. out ++ flat_map field_line l) (append-nil fs) ∙ sym (append-nil (out ++ flat_map field_line fs))

-- one more field
pub kept_next : (out : List ℕ) (chunked : Bool) (fs : List (List ℕ × List ℕ)) (i : ℕ) (f : List ℕ × List ℕ) → i < length fs
    → f ≡ get_or fs i f
    → out ++ kept_lines chunked (take (i + 1) fs) ≡ (out ++ kept_lines chunked (take i fs)) ++ cond (is_kept chunked f) (field_line f) []
unfolding kept_lines
kept_next out chunked fs i f within same =
    ap (λ l. out ++ flat_map field_line l) (filter_more (is_kept chunked) fs i f within)
    ∙ (ap (λ g. out ++ flat_map field_line (filter (is_kept chunked) (take i fs) ++ cond (is_kept chunked g) (g ∷ []) [])) (sym same)
    ∙ kept_more (is_kept chunked f) out f (filter (is_kept chunked) (take i fs)))

-- the lines of the first fields are no longer than those of all
kept_front : (chunked : Bool) (fs : List (List ℕ × List ℕ)) (i : ℕ) → length (kept_lines chunked (take i fs)) ≤ length (kept_lines chunked fs)
unfolding kept_lines
kept_front chunked fs i =
    let P = is_kept chunked in
    let whole : flat_map field_line (filter P fs) ≡ flat_map field_line (filter P (take i fs)) ++ flat_map field_line (filter P (drop i fs)) =
    ap (λ l. flat_map field_line (filter P l)) (sym (take-append-drop i fs))
    ∙ (ap (flat_map field_line) (filter-append P (take i fs) (drop i fs)) ∙ flat_map-append field_line (filter P (take i fs)) (filter P (drop i fs))) in
    omega (arith, ap length whole, length-append (flat_map field_line (filter P (take i fs))) (flat_map field_line (filter P (drop i fs))))

-- one more line fits where all do
pub kept_fits : (out : List ℕ) (chunked : Bool) (fs : List (List ℕ × List ℕ)) (i : ℕ) (f : List ℕ × List ℕ) → i < length fs → f ≡ get_or fs i f → is_kept chunked f ≡ true
    → length (out ++ kept_lines chunked (take i fs)) + length (field_line f) ≤ length out + length (kept_lines chunked fs)
kept_fits out chunked fs i f within same kept =
    let next = kept_next out chunked fs i f within same ∙ ap (λ b. (out ++ kept_lines chunked (take i fs)) ++ cond b (field_line f) []) kept in
    let front = kept_front chunked fs (i + 1) in
    omega (arith, ap length next, front, length-append out (kept_lines chunked (take (i + 1) fs)), length-append (out ++ kept_lines chunked (take i fs)) (field_line f))

-- how long the lines are with one more field
pub kept_longer : (chunked : Bool) (fs : List (List ℕ × List ℕ)) (i n : ℕ) (f : List ℕ × List ℕ) → i < length fs → f ≡ get_or fs i f → n ≡ length (kept_lines chunked (take i fs))
    → n + length (cond (is_kept chunked f) (field_line f) []) ≡ length (kept_lines chunked (take (i + 1) fs))
kept_longer chunked fs i n f within same is =
    let next = kept_next [] chunked fs i f within same in
    omega (arith, is, ap length next, length-append (kept_lines chunked (take i fs)) (cond (is_kept chunked f) (field_line f) []))

-- the form of a request that went through the activator is the longer one
pub longer_form : (head : Head) (proxied : Bool) → length (forwarded head proxied) ≤ length (forwarded head true)
unfolding forwarded proxy_line
longer_form head true = omega arith
longer_form head false =
    let before = request_line head ++ kept_lines head.chunked head.headers ++ length_line head.chunked head.body in
    simp length-append (omega arith)
