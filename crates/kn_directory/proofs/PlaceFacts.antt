-- Where a name is found among entries, and among specifications.
use Rattle.std.proofs.Common.{◌≡◌, ◌<◌, ℕ, zero, suc, List, [], ◌∷◌, ◌++◌, length, map, Bool, true, false, cond, Option, None, Some, position, get_or, bytes_eq, ◌&&◌, refl, sym, ap, ◌∙◌, arith, true≢false}
use Rattle.std.proofs.lemmas.Bool.{and_parts}
use Rattle.std.proofs.lemmas.Slice.Eq.{bytes_eq-Decides}
use Rattle.std.proofs.lemmas.List.{length-map, get_or-map}
use Rattle.std.proofs.lemmas.List.Quantifiers.{position-Some}
use Rattle.std.specs.List.{position_or_len}
use Rattle.std.proofs.lemmas.List.Folds.{position_or_len_push}
use Rattle.std.proofs.lemmas.List.Sums.{prefix_len-le-length, fails_before_first}
use Rattle.std.proofs.lemmas.Grind.{common_steps}
use Rattle.std.specs.Prelude.{is_some, if◌then◌else◌, not, IfSome, IfNone}
use Rattle.std.specs.Map.{lookup}
use Rattle.kn_event.specs.declared.revision.Spec.{Spec}
use Rattle.kn_directory.specs.declared.directory.Key.{Key}
use Rattle.kn_directory.specs.Names.{HasName, IsFirstNamed, NoneHasName}
use Rattle.kn_directory.specs.Places.{is_this_name, named_entry, place_at_name, spec_names, with_place, Finds}

-- what the map finds is what is seen of it
pub lookup_seen : (namespace name : List ℕ) (es : List (Key × ℕ)) → lookup (λ (k : Key). bytes_eq namespace k.namespace.items && bytes_eq name k.name.items) es ≡ place_at_name (map named_entry es) namespace name
lookup_seen namespace name [] = refl
lookup_seen namespace name (e ∷ es) =
    ap (λ r. cond (bytes_eq namespace e.0.namespace.items && bytes_eq name e.0.name.items) (Some e.1) r) (lookup_seen namespace name es)

pub map_push : {X Y : Type 0} (f : X → Y) (xs : List X) (x : X) → map f (xs ++ x ∷ []) ≡ map f xs ++ f x ∷ []
map_push f [] x = refl
map_push f (y ∷ xs) x = ap (λ l. f y ∷ l) (map_push f xs x)

module _ {K X : Type 0} (test : K → Bool) where
  found_before : (es more : List (K × X)) (w : X) → lookup test es ≡ Some w → lookup test (es ++ more) ≡ Some w
  found_before [] more w h = cc
  found_before (e ∷ es) more w h = by (test e.0) h (found_before es more w)
    where
      by : (b : Bool) → cond b (Some e.1) (lookup test es) ≡ Some w → (lookup test es ≡ Some w → lookup test (es ++ more) ≡ Some w) → cond b (Some e.1) (lookup test (es ++ more)) ≡ Some w
      by true k rest = k
      by false k rest = rest k

  found_behind : (es more : List (K × X)) → lookup test es ≡ None → lookup test (es ++ more) ≡ lookup test more
  found_behind [] more h = refl
  found_behind (e ∷ es) more h = by (test e.0) h (found_behind es more)
    where
      by : (b : Bool) → cond b (Some e.1) (lookup test es) ≡ None → (lookup test es ≡ None → lookup test (es ++ more) ≡ lookup test more) → cond b (Some e.1) (lookup test (es ++ more)) ≡ lookup test more
      by true k rest = cc
      by false k rest = rest k

module _ {X : Type 0} (p : X → Bool) (xs : List X) (y : X) where
  first_before : (i : ℕ) → position p xs ≡ Some i → position p (xs ++ y ∷ []) ≡ Some i
  first_before i h = let e = position_or_len_push p xs y in grind (arith, common_steps)

  first_behind : position p xs ≡ None → position p (xs ++ y ∷ []) ≡ cond (p y) (Some (length xs)) None
  first_behind h =
      let within = prefix_len-le-length (λ x. not (p x)) xs in
      let e = position_or_len_push p xs y in
      grind (arith, common_steps)

module _ (es : List ((List ℕ × List ℕ) × ℕ)) (specs : List Spec) (s : Spec) (finds : Finds es specs) where
  abbrev own : List ℕ × List ℕ
  own = (s.namespace, s.name)

  abbrev more : List Spec
  more = specs ++ s ∷ []

  module _ (namespace name : List ℕ) where
    there : position (is_this_name namespace name) (spec_names more) ≡ position (is_this_name namespace name) (spec_names specs ++ own ∷ [])
    there = ap (position (is_this_name namespace name)) (map_push (λ (it : Spec). (it.namespace, it.name)) specs s)

    -- where one stands at the new name already
    kept : (w : ℕ) → place_at_name es s.namespace s.name ≡ Some w → place_at_name es namespace name ≡ position (is_this_name namespace name) (spec_names more)
    kept w h = by (place_at_name es namespace name) refl
      where
        by : (r : Option ℕ) → place_at_name es namespace name ≡ r → place_at_name es namespace name ≡ position (is_this_name namespace name) (spec_names more)
        by (Some i) e = e ∙ sym (first_before (is_this_name namespace name) (spec_names specs) own i (sym (finds.at namespace name) ∙ e)) ∙ sym there
        by None e = e ∙ sym (first_behind (is_this_name namespace name) (spec_names specs) own (sym (finds.at namespace name) ∙ e) ∙ other (is_this_name namespace name own) refl) ∙ sym there
          where
            other : (b : Bool) → is_this_name namespace name own ≡ b → cond (is_this_name namespace name own) (Some (length (spec_names specs))) None ≡ None
            other false q = ap (λ c. cond c (Some (length (spec_names specs))) None) q
            other true q =
                let both = and_parts _ _ q in
                let a = (bytes_eq-Decides _ _).0 both.0 in
                let b = (bytes_eq-Decides _ _).0 both.1 in
                let same : place_at_name es namespace name ≡ place_at_name es s.namespace s.name = (λ i. place_at_name es (a i) (b i)) in
                cc

    -- where none does
    added : place_at_name es s.namespace s.name ≡ None → place_at_name (es ++ (own, length specs) ∷ []) namespace name ≡ position (is_this_name namespace name) (spec_names more)
    added h = by (place_at_name es namespace name) refl
      where
        by : (r : Option ℕ) → place_at_name es namespace name ≡ r → place_at_name (es ++ (own, length specs) ∷ []) namespace name ≡ position (is_this_name namespace name) (spec_names more)
        by (Some i) e = found_before (is_this_name namespace name) es _ i e ∙ sym (first_before (is_this_name namespace name) (spec_names specs) own i (sym (finds.at namespace name) ∙ e)) ∙ sym there
        by None e =
            found_behind (is_this_name namespace name) es _ e
            ∙ ap (λ n. cond (is_this_name namespace name own) (Some n) None) (sym (length-map specs (λ (it : Spec). (it.namespace, it.name))))
            ∙ sym (first_behind (is_this_name namespace name) (spec_names specs) own (sym (finds.at namespace name) ∙ e)) ∙ sym there

  pub finds_more : Finds (with_place es s.namespace s.name (length specs)) more
  finds_more = record { at = λ namespace name. by namespace name (place_at_name es s.namespace s.name) refl }
    where
      by : (namespace name : List ℕ) (r : Option ℕ) → place_at_name es s.namespace s.name ≡ r → place_at_name (with_place es s.namespace s.name (length specs)) namespace name ≡ position (is_this_name namespace name) (spec_names more)
      by namespace name (Some w) e = ap (λ r. place_at_name (if is_some r then es else es ++ (own, length specs) ∷ []) namespace name) e ∙ kept namespace name w e
      by namespace name None e = ap (λ r. place_at_name (if is_some r then es else es ++ (own, length specs) ∷ []) namespace name) e ∙ added namespace name e

-- what stands at a place that is within
pub nth : {X : Type 0} (xs : List X) (i : ℕ) → i < length xs → (x : X) × ((d : X) → get_or xs i d ≡ x)
nth [] i l = absurd (omega arith)
nth (x ∷ xs) zero l = (x, λ d. refl)
nth (x ∷ xs) (suc i) l = let r = nth xs i (omega arith) in (r.0, λ d. r.1 d)

pub no_some : (r : Option ℕ) → is_some r ≡ false → r ≡ None
no_some None h = refl
no_some (Some i) h = absurd (true≢false h)

module _ (specs : List Spec) (namespace name : List ℕ) where
  abbrev its : Spec → List ℕ × List ℕ
  its s = (s.namespace, s.name)

  -- the test says whose the name is
  for_it : (s : Spec) → is_this_name namespace name (its s) ≡ true → HasName s namespace name
  for_it s h =
      let both = and_parts _ _ h in
      record { namespace = (bytes_eq-Decides _ _).0 both.0; name = (bytes_eq-Decides _ _).0 both.1 }

  not_for_it : (s : Spec) → is_this_name namespace name (its s) ≡ false → HasName s namespace name → ⊥
  not_for_it s h f =
      let same : is_this_name namespace name (its s) ≡ true = (λ i. is_this_name (f.namespace i) (f.name i) (its s)) ∙ itself s in
      true≢false (sym same ∙ h)
    where
      itself : (s : Spec) → is_this_name s.namespace s.name (its s) ≡ true
      itself s = let a = (bytes_eq-Decides s.namespace s.namespace).1 refl in let b = (bytes_eq-Decides s.name s.name).1 refl in cc

  pub named_at : (r : Option ℕ) → r ≡ position (is_this_name namespace name) (spec_names specs) → IfSome r (λ v. IsFirstNamed specs v namespace name)
  named_at None h = tt
  named_at (Some v) h =
      let place = position-Some (is_this_name namespace name) (spec_names specs) v (namespace, name) (sym h) in
      let inside : v < length specs = omega (arith, place.0, length-map specs its) in
      let there = nth specs v inside in
      let at = get_or-map its specs v there.0 (namespace, name) inside ∙ ap its (there.1 there.0) in
      record {
        inside = inside;
        spec = there.0;
        spec_is = there.1;
        names = for_it there.0 (sym (ap (is_this_name namespace name) at) ∙ place.1);
        first = λ u d before. not_for_it _ (sym (ap (is_this_name namespace name) (get_or-map its specs u d (namespace, name) (omega arith))) ∙ place.2 u before);
      }

  pub named_nowhere : (r : Option ℕ) → r ≡ position (is_this_name namespace name) (spec_names specs) → IfNone r (NoneHasName specs namespace name)
  named_nowhere (Some v) h = tt
  named_nowhere None h = λ v d inside. not_for_it _ (none_at v d inside)
    where
      none_at : (v : ℕ) (d : Spec) → v < length specs → is_this_name namespace name (its (get_or specs v d)) ≡ false
      none_at v d inside =
          let long = length-map specs its in
          let within = prefix_len-le-length (λ x. not (is_this_name namespace name x)) (spec_names specs) in
          let whole : position_or_len (is_this_name namespace name) (spec_names specs) ≡ length (spec_names specs) = grind (arith, common_steps) in
          sym (ap (is_this_name namespace name) (get_or-map its specs v d (namespace, name) inside))
          ∙ fails_before_first (is_this_name namespace name) (spec_names specs) v (namespace, name) (omega arith)
