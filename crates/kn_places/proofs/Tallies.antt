-- How many requests of a list are at places that pass a test, and what one request more, less or moved changes of that.
use Rattle.std.proofs.Common.{◌≡◌, ℕ, ◌+◌, ◌<◌, ◌≤◌, ◌⊎◌, inl, inr, Bool, true, false, cond, List, [], ◌∷◌, ◌++◌, map, length, refl, sym, ap, ◌∙◌, subst, arith}
use Rattle.std.specs.Prelude.{◌==◌, ◌||◌, not}
use Rattle.std.specs.List.{filter}
use Rattle.std.proofs.lemmas.Bool.{eqb-true, eq-eqb}
use Rattle.kn_event.specs.Lists.{contains}
use Rattle.kn_record.specs.declared.admission.Place.{Place}
use Rattle.kn_record.specs.declared.admission.Request.{Request}
use Rattle.kn_record.specs.Admission.{begins, begun, moved, placed_in, without}
use Rattle.kn_record.specs.Made.{AreDistinct}
use Rattle.kn_record.specs.Views.{numbers_in}

abbrev pub bit : Bool → ℕ
bit b = cond b 1 0

abbrev pub tally : (Place → Bool) → List Request → ℕ
tally test live = length (placed_in test live)

-- request r is there
abbrev pub IsThere : ℕ → Place → List Request → Type 0
IsThere r x [] = ⊥
IsThere r x (q ∷ qs) = ((q.number ≡ r) × (q.place ≡ x)) ⊎ IsThere r x qs

pub tally-cons : (test : Place → Bool) (q : Request) (qs : List Request) → tally test (q ∷ qs) ≡ bit (test q.place) + tally test qs
tally-cons test q qs = by (test q.place)
  where
    by : (b : Bool) → (let rest : List Request = filter (λ (x : Request). test x.place) qs in length (map (λ (x : Request). x.number) (cond b (q ∷ rest) rest))) ≡ bit b + tally test qs
    by true = omega arith
    by false = omega arith

pub tally-last : (test : Place → Bool) (q : Request) (qs : List Request) → tally test (qs ++ q ∷ []) ≡ tally test qs + bit (test q.place)
tally-last test q [] = let this = tally-cons test q [] in omega (arith, this)
tally-last test q (x ∷ qs) =
    let this = tally-cons test x (qs ++ q ∷ []) in
    let here = tally-cons test x qs in
    let rest = tally-last test q qs in
    omega (arith, this, here, rest)

-- ---- who is there

pub there_number : (r : ℕ) (x : Place) (qs : List Request) → IsThere r x qs → contains r (numbers_in qs) ≡ true
there_number r x [] h = absurd h
there_number r x (q ∷ qs) (inl is) = rw (eq-eqb q.number r is.0) refl
there_number r x (q ∷ qs) (inr more) = or_right (q.number == r) _ (there_number r x qs more)
  where
    or_right : (a b : Bool) → b ≡ true → (a || b) ≡ true
    or_right true b h = refl
    or_right false b h = h

no_both : (b : Bool) → b ≡ false → b ≡ true → ⊥
no_both true f t = cc
no_both false f t = cc

-- the first of distinct numbers is another than that of one who comes later
other_first : (r : ℕ) (x : Place) (q : Request) (qs : List Request) → contains q.number (numbers_in qs) ≡ false → IsThere r x qs → (r == q.number) ≡ false
other_first r x q qs none there = by (r == q.number) refl
  where
    by : (b : Bool) → (r == q.number) ≡ b → b ≡ false
    by false h = refl
    by true h = absurd (no_both (contains r (numbers_in qs)) (subst (λ n. contains n (numbers_in qs) ≡ false) (sym (eqb-true r q.number h)) none) (there_number r x qs there))

-- the other way round
flip : (m n : ℕ) (b : Bool) → (m == n) ≡ b → (n == m) ≡ b
flip m n true h = eq-eqb n m (sym (eqb-true m n h))
flip m n false h = by (n == m) refl
  where
    by : (b : Bool) → (n == m) ≡ b → b ≡ false
    by false k = refl
    by true k = absurd (no_both (m == n) h (eq-eqb m n (sym (eqb-true n m k))))

or_parts : (a b : Bool) → (a || b) ≡ false → (a ≡ false) × (b ≡ false)
or_parts true b h = absurd (cc)
or_parts false b h = (refl, h)

-- ---- one less

out-absent : (test : Place → Bool) (r : ℕ) (qs : List Request) → contains r (numbers_in qs) ≡ false → tally test (without r qs) ≡ tally test qs
out-absent test r [] none = refl
out-absent test r (q ∷ qs) none =
    let parts = or_parts (q.number == r) _ none in
    let this = tally-cons test q (without r qs) in
    let here = tally-cons test q qs in
    let rest = out-absent test r qs parts.1 in
    rw (flip q.number r false parts.0) (omega (arith, this, here, rest))

pub tally-out : (test : Place → Bool) (r : ℕ) (x : Place) (qs : List Request) → AreDistinct (numbers_in qs) → IsThere r x qs → tally test (without r qs) + bit (test x) ≡ tally test qs
tally-out test r x [] distinct h = absurd h
tally-out test r x (q ∷ qs) distinct (inl is) =
    let here = tally-cons test q qs in
    let rest = out-absent test r qs (subst (λ n. contains n (numbers_in qs) ≡ false) is.0 distinct.0) in
    let at = ap (λ y. bit (test y)) is.1 in
    rw (flip q.number r true (eq-eqb q.number r is.0)) (omega (arith, here, rest, at))
tally-out test r x (q ∷ qs) distinct (inr more) =
    let this = tally-cons test q (without r qs) in
    let here = tally-cons test q qs in
    let rest = tally-out test r x qs distinct.1 more in
    rw (other_first r x q qs distinct.0 more) (omega (arith, this, here, rest))

-- ---- one moved

moved-absent : (test : Place → Bool) (r : ℕ) (y : Place) (qs : List Request) → contains r (numbers_in qs) ≡ false → tally test (moved r y qs) ≡ tally test qs
moved-absent test r y [] none = refl
moved-absent test r y (q ∷ qs) none =
    let parts = or_parts (q.number == r) _ none in
    let this = tally-cons test q (moved r y qs) in
    let here = tally-cons test q qs in
    let rest = moved-absent test r y qs parts.1 in
    rw (flip q.number r false parts.0) (omega (arith, this, here, rest))

pub tally-moved : (test : Place → Bool) (r : ℕ) (x y : Place) (qs : List Request) → AreDistinct (numbers_in qs) → IsThere r x qs → tally test (moved r y qs) + bit (test x) ≡ tally test qs + bit (test y)
tally-moved test r x y [] distinct h = absurd h
tally-moved test r x y (q ∷ qs) distinct (inl is) =
    let this = tally-cons test (record q { place = y }) (moved r y qs) in
    let here = tally-cons test q qs in
    let rest = moved-absent test r y qs (subst (λ n. contains n (numbers_in qs) ≡ false) is.0 distinct.0) in
    let at = ap (λ z. bit (test z)) is.1 in
    rw (flip q.number r true (eq-eqb q.number r is.0)) (omega (arith, this, here, rest, at))
tally-moved test r x y (q ∷ qs) distinct (inr more) =
    let this = tally-cons test q (moved r y qs) in
    let here = tally-cons test q qs in
    let rest = tally-moved test r x y qs distinct.1 more in
    rw (other_first r x q qs distinct.0 more) (omega (arith, this, here, rest))

-- ---- one begins

begins-by : (test : Place → Bool) → ((x : Place) → test (begun x) ≡ test x) → (r : ℕ) (q : Request) (qs : List Request) → tally test (begins r qs) ≡ tally test qs
    → (b : Bool) → (r == q.number) ≡ b → tally test (begins r (q ∷ qs)) ≡ tally test (q ∷ qs)
begins-by test keeps r q qs rest true h =
    let this = tally-cons test (record q { place = begun q.place }) (begins r qs) in
    let here = tally-cons test q qs in
    let at = ap bit (keeps q.place) in
    rw h (omega (arith, this, here, rest, at))
begins-by test keeps r q qs rest false h =
    let this = tally-cons test q (begins r qs) in
    let here = tally-cons test q qs in
    rw h (omega (arith, this, here, rest))

pub tally-begins : (test : Place → Bool) → ((x : Place) → test (begun x) ≡ test x) → (r : ℕ) (qs : List Request) → tally test (begins r qs) ≡ tally test qs
tally-begins test keeps r [] = refl
tally-begins test keeps r (q ∷ qs) = begins-by test keeps r q qs (tally-begins test keeps r qs) (r == q.number) refl

-- ---- by tests

-- where one who is there passes there are some
pub tally-some : (test : Place → Bool) (r : ℕ) (x : Place) (qs : List Request) → IsThere r x qs → test x ≡ true → 0 < tally test qs
tally-some test r x [] h pass = absurd h
tally-some test r x (q ∷ qs) (inl is) pass =
    let here = tally-cons test q qs in
    let at = ap bit (ap test is.1 ∙ pass) in
    omega (arith, here, at)
tally-some test r x (q ∷ qs) (inr more) pass =
    let here = tally-cons test q qs in
    let rest = tally-some test r x qs more pass in
    omega (arith, here, rest)

-- more pass a wider test
tally-wider : (test wide : Place → Bool) → ((x : Place) → bit (test x) ≤ bit (wide x)) → (qs : List Request) → tally test qs ≤ tally wide qs
tally-wider test wide wider [] = omega arith
tally-wider test wide wider (q ∷ qs) =
    let this = tally-cons test q qs in
    let that = tally-cons wide q qs in
    let rest = tally-wider test wide wider qs in
    let at = wider q.place in
    omega (arith, this, that, rest, at)

-- and more still where one who is there passes the wider one alone
pub tally-more : (test wide : Place → Bool) → ((x : Place) → bit (test x) ≤ bit (wide x)) → (r : ℕ) (x : Place) (qs : List Request) → IsThere r x qs → bit (test x) < bit (wide x) → tally test qs < tally wide qs
tally-more test wide wider r x [] h more = absurd h
tally-more test wide wider r x (q ∷ qs) (inl is) more =
    let this = tally-cons test q qs in
    let that = tally-cons wide q qs in
    let rest = tally-wider test wide wider qs in
    let a = ap (λ y. bit (test y)) is.1 in
    let b = ap (λ y. bit (wide y)) is.1 in
    omega (arith, this, that, rest, a, b, more)
tally-more test wide wider r x (q ∷ qs) (inr there) more =
    let this = tally-cons test q qs in
    let that = tally-cons wide q qs in
    let rest = tally-more test wide wider r x qs there more in
    let at = wider q.place in
    omega (arith, this, that, rest, at)

-- each passes a test or fails it
pub tally-both : (test : Place → Bool) (qs : List Request) → tally test qs + tally (λ x. not (test x)) qs ≡ length (numbers_in qs)
tally-both test [] = refl
tally-both test (q ∷ qs) =
    let this = tally-cons test q qs in
    let that = tally-cons (λ x. not (test x)) q qs in
    let rest = tally-both test qs in
    let at = one (test q.place) in
    omega (arith, this, that, rest, at)
  where
    one : (b : Bool) → bit b + bit (not b) ≡ 1
    one true = refl
    one false = refl

placed-by : (test : Place → Bool) (r : ℕ) (q : Request) (qs : List Request) → (contains r (placed_in test qs) ≡ true → (x : Place) × (test x ≡ true) × IsThere r x qs)
    → (b : Bool) → test q.place ≡ b → (e : Bool) → (q.number == r) ≡ e
    → contains r (let rest : List Request = filter (λ (x : Request). test x.place) qs in map (λ (x : Request). x.number) (cond b (q ∷ rest) rest)) ≡ true
    → (x : Place) × (test x ≡ true) × IsThere r x (q ∷ qs)
placed-by test r q qs more true pass true is k = (q.place, pass, inl (eqb-true q.number r is, refl))
placed-by test r q qs more true pass false is k = let rest = more (sym (ap (λ b. b || contains r (placed_in test qs)) is) ∙ k) in (rest.0, rest.1, inr rest.2)
placed-by test r q qs more false pass e is k = let rest = more k in (rest.0, rest.1, inr rest.2)

-- who is in a list of those who pass is there, at a place that passes
pub placed_there : (test : Place → Bool) (r : ℕ) (qs : List Request) → contains r (placed_in test qs) ≡ true → (x : Place) × (test x ≡ true) × IsThere r x qs
placed_there test r [] h = absurd (cc)
placed_there test r (q ∷ qs) h = placed-by test r q qs (placed_there test r qs) (test q.place) refl (q.number == r) refl h
