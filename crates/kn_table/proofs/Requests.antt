-- Facts on lists of requests whose numbers differ: which one a number finds, and what its move or its end changes.
use Rattle.std.proofs.Common.{◌≡◌, refl, sym, ap, subst, ◌∙◌, ℕ, suc, ◌+◌, ◌<◌, Bool, true, false, not, cond, ◌||◌, List, [], ◌∷◌, length, arith, Option, Some, None}
use Rattle.std.specs.Prelude.{◌==◌, map, is_some, option_map}
use Rattle.std.specs.List.{All, AllPairs, filter, find}
use Rattle.std.proofs.Math.Bool.{beq}
use Rattle.std.proofs.lemmas.Bool.{eq-eqb, eqb-true}
use Rattle.std.proofs.lemmas.Bool.Decides.{nat_tests}
use Rattle.std.proofs.lemmas.List.{length-map}
use Rattle.std.proofs.lemmas.List.Elements.{All-head, All-tail}
use Rattle.kn_event.specs.Lists.{contains}
use Rattle.kn_trace.specs.Trace.{first_of}
use Rattle.kn_record.specs.declared.admission.Place.{Place}
use Rattle.kn_record.specs.declared.admission.Request.{Request}
use Rattle.kn_record.specs.declared.admission.Place.TheVariants as place
use Rattle.kn_record.specs.Admission.{is_held_place, placed_in, queues_at, runs_somewhere, waits, without}
use Rattle.kn_record.specs.Views.{numbers_in}
use Rattle.kn_table.specs.Moves.{Leaves, Moves, one_if, waits_or_runs}

-- ---- numbers that differ

pub turned : (a b : ℕ) (v : Bool) → (a == b) ≡ v → (b == a) ≡ v
turned a b v h = grind (arith, nat_tests, h)

-- fails request has this number
abbrev pub HasNone : ℕ → List Request → Type 0
HasNone r [] = Unit {0}
HasNone r (q ∷ l) = ((r == q.number) ≡ false) × HasNone r l

abbrev pub AreApart : List Request → Type 0
AreApart [] = Unit {0}
AreApart (q ∷ l) = HasNone q.number l × AreApart l

none_above : (n : ℕ) (l : List Request) → All (λ (q : Request). n < q.number) l → HasNone n l
none_above n [] above = tt
none_above n (q ∷ l) above =
    let lt : n < q.number = All-head (λ (q : Request). n < q.number) q l above in
    (differ n q.number lt, none_above n l (All-tail (λ (q : Request). n < q.number) q l above))
  where
    differ : (a b : ℕ) → a < b → (a == b) ≡ false
    differ a b h = grind (arith, nat_tests)

-- those whose numbers ascend differ
pub apart : (l : List Request) → AllPairs (λ (x y : Request). x.number < y.number) l → AreApart l
apart [] pairs = tt
apart (x ∷ l) pairs = (
  none_above x.number l (λ k d inside. pairs 0 (suc k) d (omega arith) (omega arith)),
  apart l (λ i j d lt inside. pairs (suc i) (suc j) d (omega arith) (omega arith)),
)

none_at : (r n : ℕ) (l : List Request) → (r == n) ≡ true → HasNone n l → HasNone r l
none_at r n l e none = subst (λ k. HasNone k l) (sym (eqb-true r n e)) none

-- ---- lists without the number

pub none_without : (r : ℕ) (l : List Request) → HasNone r l → without r l ≡ l
none_without r [] none = refl
none_without r (q ∷ l) none = rw none.0 (ap (λ k. q ∷ k) (none_without r l none.1))

-- the request of this number becomes another
abbrev pub changed : ℕ → (Request → Request) → List Request → List Request
changed r by l = map (λ (q : Request). cond (r == q.number) (by q) q) l

pub none_changed : (r : ℕ) (by : Request → Request) (l : List Request) → HasNone r l → changed r by l ≡ l
none_changed r by [] none = refl
none_changed r by (q ∷ l) none = rw none.0 (ap (λ k. q ∷ k) (none_changed r by l none.1))

-- the one of this number
abbrev pub found : ℕ → List Request → Option Request
found r l = find (λ (q : Request). q.number == r) l

pub none_found : (r : ℕ) (l : List Request) → HasNone r l → found r l ≡ None
none_found r [] none = refl
none_found r (q ∷ l) none = rw (turned r q.number false none.0) (none_found r l none.1)

none_placed : (test : Place → Bool) (r : ℕ) (l : List Request) → HasNone r l → contains r (placed_in test l) ≡ false
none_placed test r [] none = refl
none_placed test r (q ∷ l) none = by (test q.place) refl (none_placed test r l none.1)
  where
    by : (b : Bool) → test q.place ≡ b → contains r (placed_in test l) ≡ false → contains r (placed_in test (q ∷ l)) ≡ false
    by true e rec = rw (e, turned r q.number false none.0) rec
    by false e rec = rw e rec

-- ---- the one that is found

head_found : (r : ℕ) (x : Request) (l : List Request) (q : Request) → (r == x.number) ≡ true → found r (x ∷ l) ≡ Some q → x ≡ q
head_found r x l q e f = let same : Some x ≡ Some q = rw (turned r x.number true e) at f in cc

tail_found : (r : ℕ) (x : Request) (l : List Request) (q : Request) → (r == x.number) ≡ false → found r (x ∷ l) ≡ Some q → found r l ≡ Some q
tail_found r x l q e f = rw (turned r x.number false e) at f

pub contains_found : (r : ℕ) (l : List Request) → contains r (numbers_in l) ≡ is_some (found r l)
contains_found r [] = refl
contains_found r (x ∷ l) = by (x.number == r) refl (contains_found r l)
  where
    by : (b : Bool) → (x.number == r) ≡ b → contains r (numbers_in l) ≡ is_some (found r l) → contains r (numbers_in (x ∷ l)) ≡ is_some (found r (x ∷ l))
    by true e rec = rw e refl
    by false e rec = rw e rec

pub placed_found : (test : Place → Bool) (r : ℕ) (l : List Request) (q : Request) → AreApart l → found r l ≡ Some q → contains r (placed_in test l) ≡ test q.place
placed_found test r [] q a f = absurd (cc)
placed_found test r (x ∷ l) q a f = by (r == x.number) (test x.place) refl refl (placed_found test r l q a.1)
  where
    by : (b t : Bool) → (r == x.number) ≡ b → test x.place ≡ t → (found r l ≡ Some q → contains r (placed_in test l) ≡ test q.place)
        → contains r (placed_in test (x ∷ l)) ≡ test q.place
    by true true e h rec = rw (h, turned r x.number true e) (sym h ∙ ap (λ (y : Request). test y.place) (head_found r x l q e f))
    by true false e h rec = rw h (none_placed test r l (none_at r x.number l e a.0) ∙ sym h ∙ ap (λ (y : Request). test y.place) (head_found r x l q e f))
    by false true e h rec = rw (h, turned r x.number false e) (rec (tail_found r x l q e f))
    by false false e h rec = rw h (rec (tail_found r x l q e f))

-- who passes a test of places is live
pub placed_listed : (test : Place → Bool) (r : ℕ) (l : List Request) → contains r (placed_in test l) ≡ true → contains r (numbers_in l) ≡ true
placed_listed test r [] there = there
placed_listed test r (x ∷ l) there = by (test x.place) (x.number == r) refl refl (placed_listed test r l)
  where
    by : (t b : Bool) → test x.place ≡ t → (x.number == r) ≡ b → (contains r (placed_in test l) ≡ true → contains r (numbers_in l) ≡ true)
        → contains r (numbers_in (x ∷ l)) ≡ true
    by t true h e rec = rw e refl
    by true false h e rec = rw e (rec (rw (h, e) at there))
    by false false h e rec = rw e (rec (rw h at there))

-- who isn't live passes no test of places
pub not_placed : (r : ℕ) (test : Place → Bool) (l : List Request) → contains r (numbers_in l) ≡ false → contains r (placed_in test l) ≡ false
not_placed r test l none = by (contains r (placed_in test l)) refl
  where
    by : (b : Bool) → contains r (placed_in test l) ≡ b → contains r (placed_in test l) ≡ false
    by true e = absurd (let both : true ≡ false = sym (placed_listed test r l e) ∙ none in cc)
    by false e = e

-- who passes a test of places, or is live, is found
pub placed_one : (test : Place → Bool) (r : ℕ) (l : List Request) → AreApart l → contains r (placed_in test l) ≡ true → (q : Request) × (found r l ≡ Some q) × (test q.place ≡ true)
placed_one test r l a there = by (found r l) refl (contains_found r l ∙ ap is_some refl)
  where
    by : (o : Option Request) → found r l ≡ o → contains r (numbers_in l) ≡ is_some (found r l) → (q : Request) × (found r l ≡ Some q) × (test q.place ≡ true)
    by None e listed = absurd (let no_one : true ≡ false = sym (placed_listed test r l there) ∙ listed ∙ ap is_some e in cc)
    by (Some q) e listed = (q, e, sym (placed_found test r l q a e) ∙ there)

pub listed_one : (r : ℕ) (l : List Request) → contains r (numbers_in l) ≡ true → (q : Request) × (found r l ≡ Some q)
listed_one r l there = by (found r l) refl
  where
    by : (o : Option Request) → found r l ≡ o → (q : Request) × (found r l ≡ Some q)
    by None e = absurd (let no_one : true ≡ false = sym there ∙ contains_found r l ∙ ap is_some e in cc)
    by (Some q) e = (q, e)

or_right : (a b : Bool) → b ≡ true → (a || b) ≡ true
or_right true b h = refl
or_right false b h = h

-- the first that passes a test is live
pub first_listed : (test : Request → Bool) (l : List Request) (q : Request) → first_of (filter test l) ≡ Some q → contains q.number (numbers_in l) ≡ true
first_listed test [] q f = absurd (cc)
first_listed test (x ∷ l) q f = by (test x) refl (first_listed test l q)
  where
    by : (b : Bool) → test x ≡ b → (first_of (filter test l) ≡ Some q → contains q.number (numbers_in l) ≡ true) → contains q.number (numbers_in (x ∷ l)) ≡ true
    by true h rec =
        let same : Some x ≡ Some q = rw h at f in
        let one : x ≡ q = cc in
        rw (eq-eqb x.number q.number (ap (λ (y : Request). y.number) one)) refl
    by false h rec = or_right (x.number == q.number) _ (rec (rw h at f))

pub first_of-map : {X Y : Type 0} (f : X → Y) (xs : List X) → first_of (map f xs) ≡ option_map f (first_of xs)
first_of-map f [] = refl
first_of-map f (x ∷ xs) = refl

-- ---- an end

pub leaves_same : (test : Place → Bool) (r : ℕ) (l : List Request) (q : Request) → AreApart l → found r l ≡ Some q → test q.place ≡ false → placed_in test (without r l) ≡ placed_in test l
leaves_same test r [] q a f fails = refl
leaves_same test r (x ∷ l) q a f fails = by (r == x.number) (test x.place) refl refl (λ g. leaves_same test r l q a.1 g fails)
  where
    by : (b t : Bool) → (r == x.number) ≡ b → test x.place ≡ t → (found r l ≡ Some q → placed_in test (without r l) ≡ placed_in test l) → placed_in test (without r (x ∷ l)) ≡ placed_in test (x ∷ l)
    by true true e h rec = absurd (let same = sym h ∙ ap (λ (y : Request). test y.place) (head_found r x l q e f) ∙ fails in cc)
    by true false e h rec = rw (e, h) (ap (placed_in test) (none_without r l (none_at r x.number l e a.0)))
    by false true e h rec = rw (e, h) (ap (λ k. x.number ∷ k) (rec (tail_found r x l q e f)))
    by false false e h rec = rw (e, h) (rec (tail_found r x l q e f))

pub leaves_left : (test : Place → Bool) (r : ℕ) (l : List Request) → placed_in test (without r l) ≡ filter (λ n. not (r == n)) (placed_in test l)
leaves_left test r [] = refl
leaves_left test r (x ∷ l) = by (r == x.number) (test x.place) refl refl (leaves_left test r l)
  where
    by : (b t : Bool) → (r == x.number) ≡ b → test x.place ≡ t → placed_in test (without r l) ≡ filter (λ n. not (r == n)) (placed_in test l) → placed_in test (without r (x ∷ l)) ≡ filter (λ n. not (r == n)) (placed_in test (x ∷ l))
    by true true e h rec = rw (e, h, e) rec
    by true false e h rec = rw (e, h) rec
    by false true e h rec = rw (e, h, e) (ap (λ k. x.number ∷ k) rec)
    by false false e h rec = rw (e, h) rec

pub leaves_counts : (test : Place → Bool) (r : ℕ) (l : List Request) (q : Request) → AreApart l → found r l ≡ Some q → length (placed_in test (without r l)) + one_if (test q.place) ≡ length (placed_in test l)
leaves_counts test r [] q a f = absurd (cc)
leaves_counts test r (x ∷ l) q a f = by (r == x.number) (test x.place) refl refl (leaves_counts test r l q a.1)
  where
    by : (b t : Bool) → (r == x.number) ≡ b → test x.place ≡ t
        → (found r l ≡ Some q → length (placed_in test (without r l)) + one_if (test q.place) ≡ length (placed_in test l)) → length (placed_in test (without r (x ∷ l))) + one_if (test q.place) ≡ length (placed_in test (x ∷ l))
    by true true e h rec =
        let one : test q.place ≡ true = sym (ap (λ (y : Request). test y.place) (head_found r x l q e f)) ∙ h in
        let rest = ap (λ k. length (placed_in test k)) (none_without r l (none_at r x.number l e a.0)) in
        rw (e, one, h) (omega (arith, rest))
    by true false e h rec =
        let one : test q.place ≡ false = sym (ap (λ (y : Request). test y.place) (head_found r x l q e f)) ∙ h in
        let rest = ap (λ k. length (placed_in test k)) (none_without r l (none_at r x.number l e a.0)) in
        rw (e, one, h) (omega (arith, rest))
    by false true e h rec = let less = rec (tail_found r x l q e f) in rw (e, h) (omega (arith, less))
    by false false e h rec = rw (e, h) (rec (tail_found r x l q e f))

pub leaves : (r : ℕ) (l : List Request) (q : Request) → AreApart l → found r l ≡ Some q → Leaves r q.place l (without r l)
leaves r l q a f = record {
  same = λ test. leaves_same test r l q a f;
  left = λ test. leaves_left test r l;
  counts = λ test. leaves_counts test r l q a f;
}

-- one less is live
pub without_length : (r : ℕ) (l : List Request) (q : Request) → AreApart l → found r l ≡ Some q → length (without r l) + 1 ≡ length l
without_length r [] q a f = absurd (cc)
without_length r (x ∷ l) q a f = by (r == x.number) refl (without_length r l q a.1)
  where
    by : (b : Bool) → (r == x.number) ≡ b → (found r l ≡ Some q → length (without r l) + 1 ≡ length l) → length (without r (x ∷ l)) + 1 ≡ length (x ∷ l)
    by true e rec = let rest = ap (λ (k : List Request). length k) (none_without r l (none_at r x.number l e a.0)) in rw e (omega (arith, rest))
    by false e rec = let less = rec (tail_found r x l q e f) in rw e (omega (arith, less))

-- ---- a move

module _ (by : Request → Request) (keeps : (x : Request) → (by x).number ≡ x.number) (test : Place → Bool) (r : ℕ) where
  pub moves_same : (l : List Request) (q : Request) → AreApart l → found r l ≡ Some q → test q.place ≡ test (by q).place → placed_in test (changed r by l) ≡ placed_in test l
  moves_same [] q a f same = refl
  moves_same (x ∷ l) q a f same = go (r == x.number) (test x.place) refl refl (λ g. moves_same l q a.1 g same)
    where
      go : (b t : Bool) → (r == x.number) ≡ b → test x.place ≡ t → (found r l ≡ Some q → placed_in test (changed r by l) ≡ placed_in test l) → placed_in test (changed r by (x ∷ l)) ≡ placed_in test (x ∷ l)
      go true true e h rec =
          let one = head_found r x l q e f in
          let there : test (by x).place ≡ true = ap (λ (y : Request). test (by y).place) one ∙ sym same ∙ sym (ap (λ (y : Request). test y.place) one) ∙ h in
          rw (e, there, h, keeps x) (ap (λ k. x.number ∷ placed_in test k) (none_changed r by l (none_at r x.number l e a.0)))
      go true false e h rec =
          let one = head_found r x l q e f in
          let there : test (by x).place ≡ false = ap (λ (y : Request). test (by y).place) one ∙ sym same ∙ sym (ap (λ (y : Request). test y.place) one) ∙ h in
          rw (e, there, h) (ap (placed_in test) (none_changed r by l (none_at r x.number l e a.0)))
      go false true e h rec = rw (e, h) (ap (λ k. x.number ∷ k) (rec (tail_found r x l q e f)))
      go false false e h rec = rw (e, h) (rec (tail_found r x l q e f))

  pub moves_left : (l : List Request) (q : Request) → AreApart l → found r l ≡ Some q → test (by q).place ≡ false → placed_in test (changed r by l) ≡ filter (λ n. not (r == n)) (placed_in test l)
  moves_left [] q a f fails = refl
  moves_left (x ∷ l) q a f fails = go (r == x.number) (test x.place) refl refl (λ g. moves_left l q a.1 g fails)
    where
      rest : (r == x.number) ≡ true → placed_in test (changed r by l) ≡ filter (λ n. not (r == n)) (placed_in test l)
      rest e =
          let none = none_at r x.number l e a.0 in
          ap (placed_in test) (none_changed r by l none ∙ sym (none_without r l none)) ∙ leaves_left test r l

      go : (b t : Bool) → (r == x.number) ≡ b → test x.place ≡ t
          → (found r l ≡ Some q → placed_in test (changed r by l) ≡ filter (λ n. not (r == n)) (placed_in test l)) → placed_in test (changed r by (x ∷ l)) ≡ filter (λ n. not (r == n)) (placed_in test (x ∷ l))
      go true true e h rec =
          let there : test (by x).place ≡ false = ap (λ (y : Request). test (by y).place) (head_found r x l q e f) ∙ fails in
          rw (e, there, h, e) (rest e)
      go true false e h rec =
          let there : test (by x).place ≡ false = ap (λ (y : Request). test (by y).place) (head_found r x l q e f) ∙ fails in
          rw (e, there, h) (rest e)
      go false true e h rec = rw (e, h, e) (ap (λ k. x.number ∷ k) (rec (tail_found r x l q e f)))
      go false false e h rec = rw (e, h) (rec (tail_found r x l q e f))

  pub moves_counts : (l : List Request) (q : Request) → AreApart l → found r l ≡ Some q → length (placed_in test (changed r by l)) + one_if (test q.place) ≡ length (placed_in test l) + one_if (test (by q).place)
  moves_counts [] q a f = absurd (cc)
  moves_counts (x ∷ l) q a f = go (r == x.number) (test x.place) (test (by x).place) refl refl refl (moves_counts l q a.1)
    where
      go : (b t u : Bool) → (r == x.number) ≡ b → test x.place ≡ t → test (by x).place ≡ u
          → (found r l ≡ Some q → length (placed_in test (changed r by l)) + one_if (test q.place) ≡ length (placed_in test l) + one_if (test (by q).place))
          → length (placed_in test (changed r by (x ∷ l))) + one_if (test q.place) ≡ length (placed_in test (x ∷ l)) + one_if (test (by q).place)
      go true t u e h k rec =
          let one = head_found r x l q e f in
          let from : test q.place ≡ t = sym (ap (λ (y : Request). test y.place) one) ∙ h in
          let to : test (by q).place ≡ u = sym (ap (λ (y : Request). test (by y).place) one) ∙ k in
          let rest = ap (λ (m : List Request). length (placed_in test m)) (none_changed r by l (none_at r x.number l e a.0)) in
          rw (e, k, h, from, to) (sums t u rest)
        where
          sums : (t u : Bool) → length (placed_in test (changed r by l)) ≡ length (placed_in test l)
              → length (map (λ (y : Request). y.number) (cond u (by x ∷ filter (λ (y : Request). test y.place) (changed r by l)) (filter (λ (y : Request). test y.place) (changed r by l)))) + one_if t
              ≡ length (map (λ (y : Request). y.number) (cond t (x ∷ filter (λ (y : Request). test y.place) l) (filter (λ (y : Request). test y.place) l))) + one_if u
          sums true true same = omega (arith, same)
          sums true false same = omega (arith, same)
          sums false true same = omega (arith, same)
          sums false false same = omega (arith, same)
      go false true u e h k rec = let less = rec (tail_found r x l q e f) in rw (e, h) (omega (arith, less))
      go false false u e h k rec = rw (e, h) (rec (tail_found r x l q e f))

pub moves : (by : Request → Request) (r : ℕ) (l : List Request) (q : Request) → ((x : Request) → (by x).number ≡ x.number) → AreApart l → found r l ≡ Some q → Moves r q.place (by q).place l (changed r by l)
moves by r l q keeps a f = record {
  same = λ test. moves_same by keeps test r l q a f;
  left = λ test. moves_left by keeps test r l q a f;
  counts = λ test. moves_counts by keeps test r l q a f;
}

pub changed_length : (by : Request → Request) (r : ℕ) (l : List Request) → length (changed r by l) ≡ length l
changed_length by r l = length-map l (λ (q : Request). cond (r == q.number) (by q) q)

-- the first that passes a test of places passes it
pub first_placed_there : (test : Place → Bool) (l : List Request) (r : ℕ) → first_of (placed_in test l) ≡ Some r → contains r (placed_in test l) ≡ true
first_placed_there test l r first = at_head (placed_in test l) r first
  where
    at_head : (xs : List ℕ) (x : ℕ) → first_of xs ≡ Some x → contains x xs ≡ true
    at_head [] x f = absurd (cc)
    at_head (y ∷ ys) x f = let same : Some y ≡ Some x = f in let one : y ≡ x = cc in rw (eq-eqb y x one) refl

pub is_held : (x : Place) → is_held_place x ≡ true → x ≡ place.Held
is_held place.Held h = refl
is_held (place.Queued q) h = absurd (cc)
is_held (place.Running q a) h = absurd (cc)

pub is_queued : (p : ℕ) (x : Place) → queues_at p x ≡ true → x ≡ place.Queued p
is_queued p place.Held h = absurd (cc)
is_queued p (place.Queued q) h = ap (λ n. place.Queued n) (eqb-true q p h)
is_queued p (place.Running q a) h = absurd (cc)

-- whether it waits is as asked, or is not
module _ (x : Place) where
  pub waits_as : (waiting said : Bool) → said ≡ waits x → not (beq said waiting) ≡ false → waits_or_runs waiting x ≡ true
  waits_as true true e same = sym e
  waits_as false false e same = other (runs_somewhere x) (sym e)
    where
      other : (b : Bool) → not b ≡ false → b ≡ true
      other true h = refl
      other false h = absurd (cc)
  waits_as true false e same = absurd (cc)
  waits_as false true e same = absurd (cc)

  pub waits_else : (waiting said : Bool) → said ≡ waits x → not (beq said waiting) ≡ true → waits_or_runs waiting x ≡ false
  waits_else true false e differs = sym e
  waits_else false true e differs = other (runs_somewhere x) (sym e)
    where
      other : (b : Bool) → not b ≡ true → b ≡ false
      other true h = absurd (cc)
      other false h = refl
  waits_else true true e differs = absurd (cc)
  waits_else false false e differs = absurd (cc)
