-- Words on lists of rows and of numbers.
use Rattle.std.proofs.Common.{◌≡◌, ◌⊎◌, inl, inr, ℕ, List, [], ◌∷◌, ◌++◌, Bool, true, false, refl, ap, ◌∙◌, length, eq-eqb}
use Rattle.std.specs.Prelude.{Option, None, Some, ◌==◌, ◌||◌}
use Rattle.std.specs.List.{cons_option}
use Rattle.std.proofs.lemmas.Bool.{eqb-true}
use Rattle.std.proofs.lemmas.List.Folds.{list_any-append}
use Rattle.std.proofs.lemmas.List.Elements.{filter_map-append}
use Rattle.kn_event.specs.declared.entry.Entry.{Entry}
use Rattle.kn_event.specs.declared.entry.Row.{Row}
use Rattle.kn_event.specs.declared.revision.Spec.{Spec}
use Rattle.kn_event.specs.Lists.{contains}
use Rattle.kn_trace.specs.Events.{react}
use Rattle.kn_trace.specs.Trace.{Trace, each_row}
use Rattle.kn_cell.specs.declared.past.Past.{Past}
use Rattle.kn_cell.specs.History.{trace_after}
use Rattle.kn_session.specs.Lists.{HasOne}

-- ---- rows

pub has_split : (P : Past → Type 0) (xs ys : List Past) → HasOne P (xs ++ ys) → HasOne P xs ⊎ HasOne P ys
has_split P [] ys h = inr h
has_split P (x ∷ xs) ys h = elim h [ inl a ↦ inl (inl a) | inr b ↦ elim (has_split P xs ys b) [ inl c ↦ inl (inr c) | inr d ↦ inr d ] ]

pub trace_after-append : (s : Spec) (c : Trace) (h more : List Past) → trace_after s c (h ++ more) ≡ trace_after s (trace_after s c h) more
trace_after-append s c [] more = refl
trace_after-append s c (x ∷ xs) more = trace_after-append s (c ++ react s c x.event) xs more

-- ---- numbers

pub none_in : (xs : List ℕ) → length xs ≡ 0 → (r : ℕ) → contains r xs ≡ false
none_in [] e r = refl
none_in (x ∷ xs) e r = absurd (cc)

pub empty : (xs : List ℕ) → ((r : ℕ) → contains r xs ≡ true → ⊥) → length xs ≡ 0
empty [] out = refl
empty (x ∷ xs) out = absurd (out x (ap (λ b. b || contains x xs) (eq-eqb x x refl)))

-- what is said by the rows of a longer trace
pub contains-append : (f : Row → Option ℕ) (r : ℕ) (c es : Trace) → contains r (each_row f (c ++ es)) ≡ (contains r (each_row f c) || contains r (each_row f es))
contains-append f r c es = ap (contains r) (filter_map-append (λ (e : Entry). f e.row) c es) ∙ list_any-append (λ y. y == r) (each_row f c) (each_row f es)

-- one of the rows says the number
pub record Says (f : Row → Option ℕ) (r : ℕ) (es : Trace) : Type 0 where
  pub before : Trace
  pub entry : Entry
  pub rest : Trace
  pub place : es ≡ before ++ entry ∷ rest
  pub says : f entry.row ≡ Some r

pub says_of : (f : Row → Option ℕ) (r : ℕ) (es : Trace) → contains r (each_row f es) ≡ true → Says f r es
says_of f r [] h = absurd (cc)
says_of f r (e ∷ es) h = by (f e.row) refl h (says_of f r es)
  where
    later : Says f r es → Says f r (e ∷ es)
    later s = record { before = e ∷ s.before; entry = s.entry; rest = s.rest; place = ap (λ l. e ∷ l) s.place; says = s.says }

    by : (o : Option ℕ) → f e.row ≡ o → contains r (cons_option o (each_row f es)) ≡ true → (contains r (each_row f es) ≡ true → Says f r es) → Says f r (e ∷ es)
    by None is h rest = later (rest h)
    by (Some q) is h rest = same (q == r) refl h
      where
        same : (b : Bool) → (q == r) ≡ b → (b || contains r (each_row f es)) ≡ true → Says f r (e ∷ es)
        same true t h = record { before = []; entry = e; rest = es; place = refl; says = is ∙ ap (λ i. Some i) (eqb-true q r t) }
        same false t h = later (rest h)
