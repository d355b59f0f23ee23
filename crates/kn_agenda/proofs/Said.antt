-- What rows said stays said.
use Rattle.std.proofs.Common.{◌≡◌, ℕ, Bool, true, false, ◌||◌, List, [], ◌∷◌, ◌++◌, refl, ◌∙◌, append-nil}
use Rattle.std.specs.Prelude.{Option, ◌==◌}
use Rattle.std.proofs.lemmas.List.Elements.{filter_map-append}
use Rattle.kn_event.specs.declared.entry.Entry.{Entry}
use Rattle.kn_event.specs.declared.entry.Row.{Row}
use Rattle.kn_event.specs.Lists.{contains}
use Rattle.kn_trace.specs.Trace.{Trace, each_row}

contains-left : (n : ℕ) (xs ys : List ℕ) → contains n xs ≡ true → contains n (xs ++ ys) ≡ true
contains-left n [] ys h = absurd (cc)
contains-left n (x ∷ xs) ys h = by (x == n) (λ k. contains-left n xs ys k) h
  where
    by : (b : Bool) → (contains n xs ≡ true → contains n (xs ++ ys) ≡ true) → (b || contains n xs) ≡ true → (b || contains n (xs ++ ys)) ≡ true
    by true rest k = refl
    by false rest k = rest k

contains-right : (n : ℕ) (xs ys : List ℕ) → contains n ys ≡ true → contains n (xs ++ ys) ≡ true
contains-right n [] ys h = h
contains-right n (x ∷ xs) ys h = by (x == n) (contains-right n xs ys h)
  where
    by : (b : Bool) → contains n (xs ++ ys) ≡ true → (b || contains n (xs ++ ys)) ≡ true
    by true k = refl
    by false k = k

pub said_more : (f : Row → Option ℕ) (c es : Trace) (n : ℕ) → contains n (each_row f c) ≡ true → contains n (each_row f (c ++ es)) ≡ true
said_more f c es n h = rw (filter_map-append (λ (e : Entry). f e.row) c es) (contains-left n (each_row f c) (each_row f es) h)

pub said_new : (f : Row → Option ℕ) (c es : Trace) (n : ℕ) → contains n (each_row f es) ≡ true → contains n (each_row f (c ++ es)) ≡ true
said_new f c es n h = rw (filter_map-append (λ (e : Entry). f e.row) c es) (contains-right n (each_row f c) (each_row f es) h)

pub said_less : (f : Row → Option ℕ) (c es : Trace) (n : ℕ) → contains n (each_row f (c ++ es)) ≡ false → contains n (each_row f c) ≡ false
said_less f c es n h = by (contains n (each_row f c)) refl
  where
    by : (b : Bool) → contains n (each_row f c) ≡ b → b ≡ false
    by true k = absurd (let more = said_more f c es n k in cc)
    by false k = refl

-- entries of which none says anything
pub said_same : (f : Row → Option ℕ) (c es : Trace) → each_row f es ≡ [] → each_row f (c ++ es) ≡ each_row f c
said_same f c es none = rw (filter_map-append (λ (e : Entry). f e.row) c es, none) (append-nil (each_row f c))

pub none_both : (f : Row → Option ℕ) (xs ys : Trace) → each_row f xs ≡ [] → each_row f ys ≡ [] → each_row f (xs ++ ys) ≡ []
none_both f xs ys first last = said_same f xs ys last ∙ first
