-- When requests end, by one more entry.
use Rattle.std.proofs.Common.{◌≡◌, ℕ, false, List, [], ◌∷◌, ◌++◌, refl, ap, ◌∙◌}
use Rattle.std.specs.Prelude.{Option, None, Some, ◌==◌}
use Rattle.std.specs.Bool.{then_some}
use Rattle.std.specs.List.{cons_option, filter_map}
use Rattle.std.proofs.lemmas.List.Elements.{filter_map-append}
use Rattle.std.proofs.lemmas.Bool.{or_parts, eq-eqb}
use Rattle.kn_event.specs.declared.entry.Entry.{Entry}
use Rattle.kn_trace.specs.Rows.{ended_by}
use Rattle.kn_trace.specs.Trace.{Trace, each_row, ended, first_of}
use Rattle.kn_trace.specs.Load.{end_by, end_of}
use Rattle.std.specs.Option.{option_or}
use Rattle.kn_event.specs.Lists.{contains, is_some_of}

first-push : (xs : List ℕ) (o : Option ℕ) → first_of (xs ++ cons_option o []) ≡ option_or (first_of xs) o
first-push [] None = refl
first-push [] (Some x) = refl
first-push (x ∷ xs) o = refl

pub end_of-push : (c : Trace) (e : Entry) (r : ℕ) → end_of (c ++ e ∷ []) r ≡ option_or (end_of c r) (end_by r e)
unfolding end_of
end_of-push c e r = rw (filter_map-append (end_by r) c (e ∷ [])) (first-push (filter_map (end_by r) c) (end_by r e))

no-ends-by : (r t : ℕ) (o : Option ℕ) (xs ys : List ℕ) → (contains r xs ≡ false → ys ≡ []) → contains r (cons_option o xs) ≡ false → cons_option (then_some (is_some_of r o) t) ys ≡ []
no-ends-by r t None xs ys more h = more h
no-ends-by r t (Some q) xs ys more h = let both = or_parts (q == r) (contains r xs) h in rw (both.0) (more both.1)

no-ends : (r : ℕ) (c : Trace) → contains r (each_row ended_by c) ≡ false → filter_map (end_by r) c ≡ []
no-ends r [] h = refl
no-ends r (e ∷ es) h = no-ends-by r e.time (ended_by e.row) (each_row ended_by es) (filter_map (end_by r) es) (no-ends r es) h

-- a request that has not ended has no end
pub end_of-none : (c : Trace) (r : ℕ) → ended c r ≡ false → end_of c r ≡ None
unfolding end_of ended
end_of-none c r h = ap (λ (xs : List ℕ). first_of xs) (no-ends r c h)

pub or-none : (o : Option ℕ) → option_or o None ≡ o
or-none None = refl
or-none (Some x) = refl

-- an entry that ends no request leaves all ends
pub end_of-quiet : (c : Trace) (e : Entry) (r : ℕ) → ended_by e.row ≡ None → end_of (c ++ e ∷ []) r ≡ end_of c r
end_of-quiet c e r h = end_of-push c e r ∙ rw h (or-none (end_of c r))

-- one that ends another request leaves this one's end
pub end_of-other : (c : Trace) (e : Entry) (q r : ℕ) → ended_by e.row ≡ Some q → (q == r) ≡ false → end_of (c ++ e ∷ []) r ≡ end_of c r
end_of-other c e q r h other = end_of-push c e r ∙ rw (h, other) (or-none (end_of c r))

-- a live request ends with the entry that ends it
pub end_of-own : (c : Trace) (e : Entry) (q : ℕ) → ended_by e.row ≡ Some q → ended c q ≡ false → end_of (c ++ e ∷ []) q ≡ Some e.time
end_of-own c e q h live = end_of-push c e q ∙ rw (end_of-none c q live, h, eq-eqb q q refl) refl
