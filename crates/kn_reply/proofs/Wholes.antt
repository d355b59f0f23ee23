-- A field of a head by its place.
use Rattle.std.proofs.Common.{◌≡◌, ◌<◌, ℕ, Bool, true, false, List, length, map, get_or, sym, subst, ap, ◌∙◌}
use Rattle.std.proofs.lemmas.List.{length-map}
use Rattle.std.specs.List.{list_all, list_any}
use Rattle.std.proofs.lemmas.List.Folds.{list_all_at, list_any_at}
use Rattle.std.proofs.Math.ListN.{get_or-map}
use Rattle.httparse.specs.declared.spans.HeaderSpan.{HeaderSpan}
use Rattle.httparse.specs.Spans.{header_bytes}

-- the field past the end
abbrev pub blank : HeaderSpan
blank = record { name = record { start = 0; end = 0 }; value = record { start = 0; end = 0 } }

pub any_at : (p : List ℕ × List ℕ → Bool) (text : List ℕ) (xs : List HeaderSpan) (i : ℕ) → i < length xs
    → p (header_bytes text (get_or xs i blank)) ≡ true → list_any p (map (header_bytes text) xs) ≡ true
any_at p text xs i lt e =
    let h = header_bytes text in
    list_any_at p (map h xs) i (h blank) (subst (λ n. i < n) (sym (length-map xs h)) lt) (ap p (get_or-map h xs i blank) ∙ e)

pub all_at : (p : List ℕ × List ℕ → Bool) (text : List ℕ) (xs : List HeaderSpan) (i : ℕ) → i < length xs
    → p (header_bytes text (get_or xs i blank)) ≡ false → list_all p (map (header_bytes text) xs) ≡ false
all_at p text xs i lt e =
    let h = header_bytes text in
    list_all_at p (map h xs) i (h blank) (subst (λ n. i < n) (sym (length-map xs h)) lt) (ap p (get_or-map h xs i blank) ∙ e)
