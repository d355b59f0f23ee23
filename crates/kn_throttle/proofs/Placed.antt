-- Which tests of places a request passes, by its number. (kn_table's proofs have their own: no crate reads another's.)
use Rattle.std.proofs.Common.{◌≡◌, refl, sym, ap, subst, ◌∙◌, ℕ, suc, ◌<◌, Bool, true, false, cond, ◌||◌, List, [], ◌∷◌, map, arith, Option, Some}
use Rattle.std.specs.Prelude.{◌==◌}
use Rattle.std.specs.List.{All, AllPairs, filter, find}
use Rattle.std.proofs.lemmas.Bool.{eqb-true}
use Rattle.std.proofs.lemmas.Bool.Decides.{nat_tests}
use Rattle.std.proofs.lemmas.List.Elements.{All-head, All-tail}
use Rattle.kn_event.specs.Lists.{contains}
use Rattle.kn_record.specs.declared.admission.Place.{Place}
use Rattle.kn_record.specs.declared.admission.Request.{Request}
use Rattle.kn_record.specs.Admission.{placed_in}
use Rattle.kn_record.specs.Views.{numbers_in}

-- who isn't live passes no test of places
pub not_placed : (r : ℕ) (test : Place → Bool) (live : List Request) → contains r (numbers_in live) ≡ false → contains r (placed_in test live) ≡ false
not_placed r test [] h = refl
not_placed r test (q ∷ live) h = by (q.number == r) refl h (λ e. not_placed r test live e)
  where
    here : (b : Bool) → (q.number == r) ≡ false → contains r (placed_in test live) ≡ false
        → contains r (map (λ (q : Request). q.number) (cond b (q ∷ filter (λ (q : Request). test q.place) live) (filter (λ (q : Request). test q.place) live))) ≡ false
    here true e rest = rw e rest
    here false e rest = rest

    by : (m : Bool) → (q.number == r) ≡ m → (m || contains r (numbers_in live)) ≡ false → (contains r (numbers_in live) ≡ false → contains r (placed_in test live) ≡ false)
        → contains r (placed_in test (q ∷ live)) ≡ false
    by true f e rest = absurd (cc)
    by false f e rest = here (test q.place) f (rest e)

turned : (a b : ℕ) (v : Bool) → (a == b) ≡ v → (b == a) ≡ v
turned a b v h = grind (arith, nat_tests, h)

abbrev HasNone : ℕ → List Request → Type 0
HasNone r [] = Unit {0}
HasNone r (q ∷ l) = ((r == q.number) ≡ false) × HasNone r l

abbrev pub AreApart : List Request → Type 0
AreApart [] = Unit {0}
AreApart (q ∷ l) = HasNone q.number l × AreApart l

none_above : (n : ℕ) (l : List Request) → All (λ (q : Request). n < q.number) l → HasNone n l
none_above n [] above = tt
none_above n (q ∷ l) above =
    let lt : n < q.number = All-head (λ (q : Request). n < q.number) q l above in
    (differ n q.number lt, none_above n l (All-tail (λ (q : Request). n < q.number) q l above))
  where
    differ : (a b : ℕ) → a < b → (a == b) ≡ false
    differ a b h = grind (arith, nat_tests)

pub apart : (l : List Request) → AllPairs (λ (x y : Request). x.number < y.number) l → AreApart l
apart [] pairs = tt
apart (x ∷ l) pairs = (
  none_above x.number l (λ k d inside. pairs 0 (suc k) d (omega arith) (omega arith)),
  apart l (λ i j d lt inside. pairs (suc i) (suc j) d (omega arith) (omega arith)),
)

none_at : (r n : ℕ) (l : List Request) → (r == n) ≡ true → HasNone n l → HasNone r l
none_at r n l e none = subst (λ k. HasNone k l) (sym (eqb-true r n e)) none

abbrev pub found : ℕ → List Request → Option Request
found r l = find (λ (q : Request). q.number == r) l

none_placed : (test : Place → Bool) (r : ℕ) (l : List Request) → HasNone r l → contains r (placed_in test l) ≡ false
none_placed test r [] none = refl
none_placed test r (q ∷ l) none = by (test q.place) refl (none_placed test r l none.1)
  where
    by : (b : Bool) → test q.place ≡ b → contains r (placed_in test l) ≡ false → contains r (placed_in test (q ∷ l)) ≡ false
    by true e rec = rw (e, turned r q.number false none.0) rec
    by false e rec = rw e rec

head_found : (r : ℕ) (x : Request) (l : List Request) (q : Request) → (r == x.number) ≡ true → found r (x ∷ l) ≡ Some q → x ≡ q
head_found r x l q e f = let same : Some x ≡ Some q = rw (turned r x.number true e) at f in cc

tail_found : (r : ℕ) (x : Request) (l : List Request) (q : Request) → (r == x.number) ≡ false → found r (x ∷ l) ≡ Some q → found r l ≡ Some q
tail_found r x l q e f = rw (turned r x.number false e) at f

pub placed_found : (test : Place → Bool) (r : ℕ) (l : List Request) (q : Request) → AreApart l → found r l ≡ Some q → contains r (placed_in test l) ≡ test q.place
placed_found test r [] q a f = absurd (cc)
placed_found test r (x ∷ l) q a f = by (r == x.number) (test x.place) refl refl (placed_found test r l q a.1)
  where
    by : (b t : Bool) → (r == x.number) ≡ b → test x.place ≡ t → (found r l ≡ Some q → contains r (placed_in test l) ≡ test q.place)
        → contains r (placed_in test (x ∷ l)) ≡ test q.place
    by true true e h rec = rw (h, turned r x.number true e) (sym h ∙ ap (λ (y : Request). test y.place) (head_found r x l q e f))
    by true false e h rec = rw h (none_placed test r l (none_at r x.number l e a.0) ∙ sym h ∙ ap (λ (y : Request). test y.place) (head_found r x l q e f))
    by false true e h rec = rw (h, turned r x.number false e) (rec (tail_found r x l q e f))
    by false false e h rec = rw h (rec (tail_found r x l q e f))
