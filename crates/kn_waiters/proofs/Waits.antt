-- Waiters in the order of their requests: who waits for one, and what is left where these are called.
use Rattle.std.proofs.Common.{◌≡◌, ◌≢◌, inl, inr, ℕ, suc, ◌==◌, ◌||◌, ◌+◌, ◌<◌, ◌≤◌, List, [], ◌∷◌, ◌++◌, Bool, true, false, not, Option, Some, None, length, refl, sym, ap, ◌∙◌, subst, arith, get_or, slice_set, eq-eqb, ne_eqb, append-nil, append_assoc}
use Rattle.std.specs.Prelude.{cond, map, take, drop}
use Rattle.std.specs.List.{filter, cons_option, All, Contains, insert, remove}
use Rattle.std.specs.List.Sorted.{IsPermutation}
use native.Mathlib.Decide.{ℕ_discrete}
use Rattle.std.proofs.lemmas.List.{set_split, set-get_or, get_or-take, length-take, map-append}
use Rattle.std.proofs.Math.Bool.{or-false}
use Rattle.std.proofs.lemmas.Bool.{cases_lt}
use Rattle.std.proofs.lemmas.List.Folds.{list_any-append}
use Rattle.std.proofs.lemmas.List.Edits.{length-remove, get_or-remove_below, get_or-remove_above}
use Rattle.std.proofs.lemmas.List.Elements.{All-head, All-tail, filter-append, filter_agree, filter_map-append}
use Rattle.std.proofs.lemmas.List.Quantifiers.{all_pairs_remove}
use Rattle.std.proofs.lemmas.List.Sorted.{IsPermutation-refl, IsPermutation-trans, IsPermutation-cons, IsPermutation-middle, IsPermutation-sym, IsPermutation-map, IsPermutation-append_left, IsPermutation-append_right, IsPermutation-remove, IsNonDecreasingBy-insert}
use Rattle.kn_event.specs.declared.entry.Entry.{Entry}
use Rattle.kn_event.specs.Lists.{contains}
use Rattle.kn_trace.specs.Trace.{each_row}
use Rattle.kn_waiters.specs.declared.waiters.Waiter.{Waiter}
use Rattle.kn_waiters.specs.Waiting.{waiter, WaitersState, AreByRequest, IsStartOf, IsPlaceIn, TakesOut, Calls, rouses, woken_by}

abbrev pub passes_of : List Waiter → List ℕ
passes_of ws = map (λ (w : Waiter). w.pass) ws

-- one that is taken out of a list in order leaves it in order
pub order-remove : (ws : List Waiter) (i : ℕ) → i < length ws → AreByRequest ws → AreByRequest (remove ws i)
order-remove ws i lt up a b d le within =
    elim (ℕ_discrete a b) [
      | yes e ↦ omega (arith, ap (λ (k : ℕ). (get_or (remove ws i) k d).request) e)
      | no ne ↦ all_pairs_remove (λ (x y : Waiter). x.request ≤ y.request) ws i lt (λ j k e below inside. up j k e (omega arith) inside) a b d (omega arith) within
    ]

pub order-insert : (ws : List Waiter) (i : ℕ) (w : Waiter) → AreByRequest ws → IsStartOf w.request ws i → AreByRequest (insert ws i w)
order-insert ws i w up at =
    IsNonDecreasingBy-insert (λ (x : Waiter). x.request) ws i w up at.0 (λ k d lt. let less = at.1.0 k d (omega arith) lt in omega arith) (λ k d from within. at.1.1 k d from within)

module _ (r : ℕ) where
  abbrev pub is_for : Waiter → Bool
  is_for w = r == w.request

  abbrev pub is_other : Waiter → Bool
  is_other w = not (r == w.request)

  abbrev IsOther : Waiter → Type 0
  IsOther w = r ≢ w.request

  -- nobody waits for it
  pub none_for : (ws : List Waiter) → All IsOther ws → filter is_for ws ≡ []
  none_for [] h = refl
  none_for (w ∷ ws) h = rw (ne_eqb r w.request (All-head IsOther w ws h), none_for ws (All-tail IsOther w ws h)) refl

  pub all_other : (ws : List Waiter) → All IsOther ws → filter is_other ws ≡ ws
  all_other [] h = refl
  all_other (w ∷ ws) h = rw (ne_eqb r w.request (All-head IsOther w ws h), all_other ws (All-tail IsOther w ws h)) refl

  split_at : (ws : List Waiter) (i : ℕ) (x : Waiter) → i < length ws → x ≡ get_or ws i x → ws ≡ take i ws ++ x ∷ drop (suc i) ws
  split_at ws i x lt is = sym (sym (set_split ws i x lt) ∙ (ap (slice_set ws i) is ∙ set-get_or ws i x))

  low : (ws : List Waiter) (i : ℕ) → IsStartOf r ws i → All IsOther (take i ws)
  low ws i at k d lt =
      let long = length-take i ws in
      let here : k < i = omega arith in
      let is = ap (λ (w : Waiter). w.request) (get_or-take i ws k d here) in
      let less = at.1.0 k d (omega arith) here in
      λ e. absurd (omega arith)

  -- the first of those that wait for it
  pub first_for : (ws : List Waiter) (i : ℕ) (x : Waiter) → IsStartOf r ws i → i < length ws → x ≡ get_or ws i x → r ≡ x.request → filter is_for ws ≡ x ∷ filter is_for (remove ws i)
  first_for ws i x at lt is same =
      let none = none_for (take i ws) (low ws i at) in
      ap (filter is_for) (split_at ws i x lt is)
      ∙ (filter-append is_for (take i ws) (x ∷ drop (suc i) ws)
      ∙ rw (eq-eqb r x.request same, filter-append is_for (take i ws) (drop (suc i) ws), none) refl)

  pub others_stay : (ws : List Waiter) (i : ℕ) (x : Waiter) → i < length ws → x ≡ get_or ws i x → r ≡ x.request → filter is_other ws ≡ filter is_other (remove ws i)
  others_stay ws i x lt is same =
      ap (filter is_other) (split_at ws i x lt is)
      ∙ (filter-append is_other (take i ws) (x ∷ drop (suc i) ws)
      ∙ rw (eq-eqb r x.request same) (sym (filter-append is_other (take i ws) (drop (suc i) ws))))

  pub place-remove : (ws : List Waiter) (i : ℕ) → i < length ws → IsStartOf r ws i → IsStartOf r (remove ws i) i
  place-remove ws i lt at =
      let long = length-remove ws i lt in (
        omega arith,
        (
          (λ k d from below. subst (λ (w : Waiter). w.request < r) (sym (get_or-remove_below ws i d k below lt)) (at.1.0 k d from below)),
          (λ k d from within. subst (λ (w : Waiter). r ≤ w.request) (sym (get_or-remove_above ws i d k from lt)) (at.1.1 (k + 1) d (omega arith) (omega arith))),
        ),
      )

  -- where the one at its place waits for another request, or nobody stands there, nobody waits for it
  pub nobody : (ws : List Waiter) (i : ℕ) → AreByRequest ws → IsStartOf r ws i → (i < length ws → (d : Waiter) → r ≢ (get_or ws i d).request) → All IsOther ws
  nobody ws i up at other k d lt =
      elim (cases_lt k i) [
        | inl below ↦ let less = at.1.0 k d (omega arith) below in λ e. absurd (omega arith)
        | inr from ↦
            let here : i < length ws = omega arith in
            let most = up i k d from lt in
            let least = at.1.1 i d (omega arith) here in
            let ne = other here d in
            λ e. ne (omega arith)
      ]

  -- the lists when all of them are called
  pub called_out : (old new : WaitersState) → new.room ≡ old.room → filter is_other new.waiting ≡ filter is_other old.waiting
      → new.called ++ passes_of (filter is_for new.waiting) ≡ old.called ++ passes_of (filter is_for old.waiting)
      → All IsOther new.waiting → Calls (λ q. r == q) old new
  called_out old new room waiting called none = record {
    room = room;
    waiting = sym (all_other new.waiting none) ∙ waiting;
    called =
        subst (λ l. IsPermutation l new.called) (sym (append-nil new.called) ∙ (ap (λ ws. new.called ++ passes_of ws) (sym (none_for new.waiting none)) ∙ called))
        (IsPermutation-refl new.called);
  }

-- what is left where the one at a place is taken out
abbrev pub without : Option ℕ → List Waiter → List Waiter
without None ws = ws
without (Some i) ws = remove ws i

-- who is not there: nobody from its place to i is the pass, and the one at i waits for another request
pub absent : (r p : ℕ) (ws : List Waiter) (first i : ℕ) → AreByRequest ws → IsStartOf r ws first → first ≤ i
    → ((k : ℕ) (d : Waiter) → first ≤ k → k < i → (get_or ws k d).pass ≢ p) → (i < length ws → (d : Waiter) → (get_or ws i d).request ≢ r)
    → Contains ws (waiter r p) → ⊥
absent r p ws first i up at from others other has =
    let w : Waiter = waiter r p in
    let k = has.0 in
    let is = ap (λ (x : Waiter). x.request) has.2 in
    elim (cases_lt k first) [
      | inl below ↦ let less = at.1.0 k w (omega arith) below in omega arith
      | inr above ↦ elim (cases_lt k i) [
        | inl inside ↦ others k w above inside (ap (λ (x : Waiter). x.pass) has.2)
        | inr past ↦
            let here : i < length ws = let lt = has.1 in omega arith in
            let most = up i k w past has.1 in
            let least = at.1.1 i w from here in
            other here w (omega arith)
      ]
    ]

pub takes_out : (w : Waiter) (ws new : List Waiter) (o : Option ℕ) → IsPlaceIn w ws o → new ≡ without o ws → TakesOut w ws new
takes_out w ws new None none is = inr (none, is)
takes_out w ws new (Some i) at is = inl ((i, at.0, at.1), subst (λ l. IsPermutation ws (w ∷ l)) (sym is) (IsPermutation-remove ws i w at.0 (sym at.1)))

-- ---- one call after another

module _ {X : Type 0} (f g h : X → Bool) (both : (x : X) → h x ≡ (f x || g x)) where
  abbrev no_f : X → Bool
  no_f x = not (f x)

  abbrev no_g : X → Bool
  no_g x = not (g x)

  abbrev no_h : X → Bool
  no_h x = not (h x)

  kept : (a b : Bool) (x : X) (us vs : List X) → g x ≡ b → filter no_g us ≡ vs → filter no_g (cond (not a) (x ∷ us) us) ≡ cond (not (a || b)) (x ∷ vs) vs
  kept true b x us vs is e = e
  kept false b x us vs is e = rw (is, e) refl

  pub filter-twice : (xs : List X) → filter no_g (filter no_f xs) ≡ filter no_h xs
  filter-twice [] = refl
  filter-twice (x ∷ xs) = kept (f x) (g x) x (filter no_f xs) (filter no_h xs) refl (filter-twice xs) ∙ ap (λ c. cond (not c) (x ∷ filter no_h xs) (filter no_h xs)) (sym (both x))

  found : (a b : Bool) (x : X) (fs us hs : List X) → g x ≡ b → IsPermutation (fs ++ filter g us) hs
      → IsPermutation (cond a (x ∷ fs) fs ++ filter g (cond (not a) (x ∷ us) us)) (cond (a || b) (x ∷ hs) hs)
  found true b x fs us hs is p = IsPermutation-cons x (fs ++ filter g us) hs p
  found false true x fs us hs is p = rw is (IsPermutation-trans (fs ++ x ∷ filter g us) (x ∷ (fs ++ filter g us)) (x ∷ hs) (IsPermutation-middle fs x (filter g us)) (IsPermutation-cons x (fs ++ filter g us) hs p))
  found false false x fs us hs is p = rw is p

  pub either_found : (xs : List X) → IsPermutation (filter f xs ++ filter g (filter no_f xs)) (filter h xs)
  either_found [] = IsPermutation-refl []
  either_found (x ∷ xs) =
      subst (λ c. IsPermutation (cond (f x) (x ∷ filter f xs) (filter f xs) ++ filter g (cond (not (f x)) (x ∷ filter no_f xs) (filter no_f xs))) (cond c (x ∷ filter h xs) (filter h xs))) (sym (both x))
      (found (f x) (g x) x (filter f xs) (filter no_f xs) (filter h xs) refl (either_found xs))

-- who is called by two calls is called by the first or the second
pub calls_on : (f g h : ℕ → Bool) (a b c : WaitersState) → ((q : ℕ) → h q ≡ (f q || g q)) → Calls f a b → Calls g b c → Calls h a c
calls_on f g h a b c both p q =
    let fw : Waiter → Bool = (λ w. f w.request) in
    let gw : Waiter → Bool = (λ w. g w.request) in
    let hw : Waiter → Bool = (λ w. h w.request) in
    let no_fw : Waiter → Bool = (λ w. not (f w.request)) in
    let one = passes_of (filter fw a.waiting) in
    let two = passes_of (filter gw b.waiting) in
    let all = passes_of (filter hw a.waiting) in
    let parts : one ++ two ≡ passes_of (filter fw a.waiting ++ filter gw (filter no_fw a.waiting)) =
    ap (λ ws. one ++ passes_of (filter gw ws)) p.waiting ∙ sym (map-append (λ (w : Waiter). w.pass) (filter fw a.waiting) (filter gw (filter no_fw a.waiting))) in
    let whole : IsPermutation (one ++ two) all =
    subst (λ l. IsPermutation l all) (sym parts) (IsPermutation-map (λ (w : Waiter). w.pass) (filter fw a.waiting ++ filter gw (filter no_fw a.waiting)) (filter hw a.waiting) (either_found fw gw hw (λ w. both w.request) a.waiting)) in
    let first : IsPermutation (a.called ++ all) (a.called ++ (one ++ two)) = IsPermutation-append_right a.called all (one ++ two) (IsPermutation-sym (one ++ two) all whole) in
    let next : IsPermutation ((a.called ++ one) ++ two) (b.called ++ two) = IsPermutation-append_left two (a.called ++ one) b.called p.called in
    record {
      room = q.room ∙ p.room;
      waiting = q.waiting ∙ (ap (filter (λ (w : Waiter). not (g w.request))) p.waiting ∙ filter-twice fw gw hw (λ w. both w.request) a.waiting);
      called =
          IsPermutation-trans (a.called ++ all) (b.called ++ two) c.called
          (IsPermutation-trans (a.called ++ all) (a.called ++ (one ++ two)) (b.called ++ two) first (subst (λ l. IsPermutation l (b.called ++ two)) (append_assoc a.called one two) next))
          q.called;
    }

calls_so : (f h : ℕ → Bool) (a b : WaitersState) → ((q : ℕ) → h q ≡ f q) → Calls f a b → Calls h a b
calls_so f h a b same p = record {
  room = p.room;
  waiting = p.waiting ∙ filter_agree (λ (w : Waiter). not (f w.request)) (λ (w : Waiter). not (h w.request)) (λ w. ap not (sym (same w.request))) a.waiting;
  called = subst (λ l. IsPermutation (a.called ++ passes_of l) b.called) (filter_agree (λ (w : Waiter). f w.request) (λ (w : Waiter). h w.request) (λ w. sym (same w.request)) a.waiting) p.called;
}

filter-all : (ws : List Waiter) → filter (λ (w : Waiter). true) ws ≡ ws
filter-all [] = refl
filter-all (w ∷ ws) = ap (λ l. w ∷ l) (filter-all ws)

filter-none : (ws : List Waiter) → filter (λ (w : Waiter). false) ws ≡ []
filter-none [] = refl
filter-none (w ∷ ws) = filter-none ws

-- where there is no entry, nobody is called
pub calls_none : (a : WaitersState) → Calls (rouses []) a a
calls_none a = record {
  room = refl;
  waiting = sym (filter-all a.waiting);
  called =
      subst (λ l. IsPermutation (a.called ++ passes_of l) a.called) (sym (filter-none a.waiting))
      (subst (λ l. IsPermutation l a.called) (sym (append-nil a.called)) (IsPermutation-refl a.called));
}

-- where nobody waits, nobody is called
pub calls_nobody : (es : List Entry) (a : WaitersState) → a.waiting ≡ [] → Calls (rouses es) a a
calls_nobody es a none = record {
  room = refl;
  waiting = subst (λ ws. ws ≡ filter (λ (w : Waiter). not (rouses es w.request)) ws) (sym none) refl;
  called =
      subst (λ ws. IsPermutation (a.called ++ passes_of (filter (λ (w : Waiter). rouses es w.request) ws)) a.called) (sym none)
      (subst (λ l. IsPermutation l a.called) (sym (append-nil a.called)) (IsPermutation-refl a.called));
}

rouses-push : (es : List Entry) (e : Entry) (q : ℕ) (o : Option ℕ) → woken_by e.row ≡ o → rouses (es ++ e ∷ []) q ≡ (rouses es q || contains q (cons_option o []))
rouses-push es e q o is =
    ap (contains q) (filter_map-append (λ (x : Entry). woken_by x.row) es (e ∷ []))
    ∙ (list_any-append (λ y. y == q) (each_row woken_by es) (each_row woken_by (e ∷ []))
    ∙ ap (λ k. rouses es q || contains q (cons_option k [])) is)

-- an entry that ends no wait calls nobody, and another those that wait for its request
pub calls_quiet : (es : List Entry) (e : Entry) (a b : WaitersState) → woken_by e.row ≡ None → Calls (rouses es) a b → Calls (rouses (es ++ e ∷ [])) a b
calls_quiet es e a b is p = calls_so (rouses es) (rouses (es ++ e ∷ [])) a b (λ q. rouses-push es e q None is ∙ or-false (rouses es q)) p

pub calls_more : (es : List Entry) (e : Entry) (r : ℕ) (a b c : WaitersState) → woken_by e.row ≡ Some r → Calls (rouses es) a b → Calls (λ q. r == q) b c → Calls (rouses (es ++ e ∷ [])) a c
calls_more es e r a b c is p q =
    calls_on (rouses es) (λ k. r == k) (rouses (es ++ e ∷ [])) a b c (λ k. rouses-push es e k (Some r) is ∙ ap (λ t. rouses es k || t) (or-false (r == k))) p q
