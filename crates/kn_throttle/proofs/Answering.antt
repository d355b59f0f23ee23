-- What answers say of the record and of the row that they stand for.
use Rattle.std.proofs.Common.{◌≡◌, ℕ, ◌<◌, Bool, true, false, cond, ◌||◌, List, [], ◌∷◌, ◌++◌, get_or, map, reverse, refl, sym, ap, ◌∙◌, arith}
use Rattle.std.specs.Prelude.{IfNone, IfSome, Option, Some, None, find, is_some, nat_lt, ◌==◌}
use Rattle.std.specs.List.{All, filter}
use Rattle.std.proofs.lemmas.Bool.{eq-eqb, eqb-true}
use Rattle.std.proofs.lemmas.Bool.Decides.{nat_tests}
use Rattle.std.proofs.lemmas.List.{reverse-append}
use Rattle.std.proofs.lemmas.List.Folds.{list_any-append}
use Rattle.std.proofs.lemmas.List.Elements.{All-cons, All-head, All-nil, All-tail, filter_agree}
use Rattle.kn_event.specs.declared.entry.Mode.{Mode}
use Rattle.kn_event.specs.declared.event.Act.TheVariants as act
use Rattle.kn_event.specs.declared.revision.Spec.{Spec}
use Rattle.kn_event.specs.Lists.{contains}
use Rattle.kn_trace.specs.Trace.{Trace, at_pod}
use Rattle.kn_trace.specs.Trace.{live as live_of}
use Rattle.kn_trace.specs.Events.{lost_with}
use Rattle.kn_record.specs.declared.admission.Place.{Place}
use Rattle.kn_record.specs.declared.admission.Request.{Request}
use Rattle.kn_record.specs.Acting.{row_in}
use Rattle.kn_record.specs.Admission.{Admission, is_assigned_place, is_at, placed_in, runs_somewhere, stepped, waits, without}
use Rattle.kn_record.specs.Order.{IsInOrder}
use Rattle.kn_record.specs.Views.{numbers_in, stand_in, stand_of_place}
use Rattle.kn_throttle.proofs.Placed.{apart, not_placed, placed_found}
use Rattle.kn_throttle.specs.Rows.{cancel_row, finish_row}
use Rattle.kn_throttle.specs.State.{State, with_row}
use Rattle.kn_throttle.proofs.Ended.{found_has}
use Rattle.kn_throttle.proofs.Places.{Ascends, above_first, not_named, rest_ascends}

-- ---- where a live request is

found_number : (r : ℕ) (live : List Request) (q : Request) → find (λ (q : Request). q.number == r) live ≡ Some q → q.number ≡ r
found_number r [] q f = absurd (cc)
found_number r (x ∷ live) q f = by (x.number == r) refl (found_number r live q)
  where
    by : (b : Bool) → (x.number == r) ≡ b → (find (λ (q : Request). q.number == r) live ≡ Some q → q.number ≡ r) → q.number ≡ r
    by true e rest =
        let same : Some x ≡ Some q = rw e at f in
        let one : x ≡ q = cc in
        sym (ap (λ (y : Request). y.number) one) ∙ eqb-true x.number r e
    by false e rest = rest (rw e at f)

module _ (a : Admission) (r : ℕ) (q : Request) (order : IsInOrder a) (f : find (λ (q : Request). q.number == r) a.live ≡ Some q) where
  pub stand-place : stand_in a r ≡ stand_of_place q.place
  stand-place =
      let come : q.number < a.arrivals = found_has (λ (q : Request). q.number < a.arrivals) (λ (q : Request). q.number == r) a.live q f order.arrived in
      let same = found_number r a.live q f in
      let below : nat_lt r a.arrivals ≡ true = grind (arith, nat_tests, come, same) in
      rw (below, f) refl

  pub assigned-place : contains r (placed_in is_assigned_place a.live) ≡ is_assigned_place q.place
  assigned-place = placed_found is_assigned_place r a.live q (apart a.live order.live) f

pub finish-row : (s : Spec) (m : Mode) (a : Admission) (r : ℕ) (ok b : Bool) → b ≡ contains r (placed_in runs_somewhere a.live) → row_in s m a (act.Finish r ok) ≡ Some (finish_row r ok b)
unfolding row_in
finish-row s m a r ok true e = rw (← e) refl
finish-row s m a r ok false e = rw (← e) refl

pub cancel-row : (s : Spec) (m : Mode) (a : Admission) (r : ℕ) (b : Bool) → b ≡ contains r (placed_in waits a.live) → row_in s m a (act.Cancel r) ≡ Some (cancel_row r b)
unfolding row_in
cancel-row s m a r true e = rw (← e) refl
cancel-row s m a r false e = rw (← e) refl

pub finish_after : (old new : State) (t r : ℕ) (ok : Bool) (o : Option Place) → IfSome o (λ x. new ≡ record old { admission = record old.admission { live = without r old.admission.live } }) → IfNone o (new ≡ old) → new ≡ with_row t (finish_row r ok (is_some o)) old
unfolding stepped
finish_after old new t r ok (Some x) ended kept = ended
finish_after old new t r ok None ended kept = kept

pub cancel_after : (old new : State) (t r : ℕ) (o : Option Place) → IfSome o (λ x. new ≡ record old { admission = record old.admission { live = without r old.admission.live } }) → IfNone o (new ≡ old) → new ≡ with_row t (cancel_row r (is_some o)) old
unfolding stepped
cancel_after old new t r (Some x) ended kept = ended
cancel_after old new t r None ended kept = kept

-- ---- the requests at a pod that is lost

itself : (r : ℕ) → (r == r) ≡ true
itself r = eq-eqb r r refl

above_none : (r : ℕ) (live : List Request) → All (λ (q : Request). r < q.number) live → contains r (numbers_in live) ≡ false
above_none r [] h = refl
above_none r (q ∷ live) h =
    let above : r < q.number = All-head (λ (q : Request). r < q.number) q live h in
    let other : (q.number == r) ≡ false = not_named q.number r (λ e. omega arith) in
    rw other (above_none r live (All-tail (λ (q : Request). r < q.number) q live h))

-- among requests whose numbers ascend, each passes a test of places by its own place
pub each-placed : (test : Place → Bool) (live : List Request) → Ascends (λ (q : Request). q.number) live → All (λ (q : Request). contains q.number (placed_in test live) ≡ test q.place) live
each-placed test [] rise = All-nil (λ (q : Request). contains q.number (placed_in test []) ≡ test q.place)
each-placed test (q ∷ live) rise =
    let above : All (λ (x : Request). q.number < x.number) live = λ k d h. above_first (λ (q : Request). q.number) q live rise k d h in
    let rest = each-placed test live (rest_ascends (λ (q : Request). q.number) q live rise) in
    All-cons (λ (x : Request). contains x.number (placed_in test (q ∷ live)) ≡ test x.place) q live (first (test q.place) refl (not_placed q.number test live (above_none q.number live above)))
    (λ k d h. later (get_or live k d) (test q.place) (above k d h) (rest k d h))
  where
    first : (b : Bool) → test q.place ≡ b → contains q.number (placed_in test live) ≡ false
        → contains q.number (map (λ (q : Request). q.number) (cond b (q ∷ filter (λ (q : Request). test q.place) live) (filter (λ (q : Request). test q.place) live))) ≡ b
    first true e none = rw (itself q.number) refl
    first false e none = none

    later : (x : Request) (b : Bool) → q.number < x.number → contains x.number (placed_in test live) ≡ test x.place
        → contains x.number (map (λ (q : Request). q.number) (cond b (q ∷ filter (λ (q : Request). test q.place) live) (filter (λ (q : Request). test q.place) live))) ≡ test x.place
    later x true less e = let other : (q.number == x.number) ≡ false = not_named q.number x.number (λ e. omega arith) in rw other e
    later x false less e = e

filter_each : (t : ℕ → Bool) (test : Place → Bool) (live : List Request) → All (λ (q : Request). t q.number ≡ test q.place) live → filter t (numbers_in live) ≡ placed_in test live
filter_each t test [] h = refl
filter_each t test (q ∷ live) h =
    let here : t q.number ≡ test q.place = All-head (λ (q : Request). t q.number ≡ test q.place) q live h in
    rw here (by (test q.place) (filter_each t test live (All-tail (λ (q : Request). t q.number ≡ test q.place) q live h)))
  where
    by : (b : Bool) → filter t (numbers_in live) ≡ placed_in test live
        → cond b (q.number ∷ filter t (numbers_in live)) (filter t (numbers_in live)) ≡ map (λ (q : Request). q.number) (cond b (q ∷ filter (λ (q : Request). test q.place) live) (filter (λ (q : Request). test q.place) live))
    by true rest = ap (λ (l : List ℕ). q.number ∷ l) rest
    by false rest = rest

pub lost-placed : (c : Trace) (p : ℕ) (live : List Request) → Ascends (λ (q : Request). q.number) live → live_of c ≡ numbers_in live → ((r : ℕ) → contains r (at_pod c p) ≡ contains r (placed_in (is_at p) live)) → lost_with c p ≡ placed_in (is_at p) live
unfolding lost_with
lost-placed c p live rise lives at_p =
    rw lives (filter_agree (λ r. contains r (at_pod c p)) (λ r. contains r (placed_in (is_at p) live)) at_p (numbers_in live))
    ∙ filter_each (λ r. contains r (placed_in (is_at p) live)) (is_at p) live (each-placed (is_at p) live rise)

-- who passes a test of places is live
pub placed_live : (r : ℕ) (test : Place → Bool) (live : List Request) → contains r (placed_in test live) ≡ true → contains r (numbers_in live) ≡ true
placed_live r test live h = by (contains r (numbers_in live)) refl
  where
    by : (b : Bool) → contains r (numbers_in live) ≡ b → contains r (numbers_in live) ≡ true
    by true e = e
    by false e = absurd (let no : contains r (placed_in test live) ≡ false = not_placed r test live e in cc)

-- who is Starting or Ready may drain
contains-reverse : (p : ℕ) (xs : List ℕ) → contains p xs ≡ true → contains p (reverse xs) ≡ true
contains-reverse p [] h = absurd (cc)
contains-reverse p (x ∷ xs) h = rw (reverse-append (x ∷ []) xs, list_any-append (λ y. y == p) (reverse xs) (x ∷ [])) (by (x == p) h (λ e. contains-reverse p xs e))
  where
    or_true : (b : Bool) → (b || true) ≡ true
    or_true true = refl
    or_true false = refl

    by : (m : Bool) → (m || contains p xs) ≡ true → (contains p xs ≡ true → contains p (reverse xs) ≡ true) → (contains p (reverse xs) || (m || false)) ≡ true
    by true h rest = or_true (contains p (reverse xs))
    by false h rest = rw (rest h) refl

pub drain_member : (p : ℕ) (xs ys : List ℕ) → (contains p xs || contains p ys) ≡ true → contains p (reverse xs ++ reverse ys) ≡ true
drain_member p xs ys h = rw (list_any-append (λ y. y == p) (reverse xs) (reverse ys)) (by (contains p xs) refl h)
  where
    more : (b : Bool) → (b || true) ≡ true
    more true = refl
    more false = refl

    by : (b : Bool) → contains p xs ≡ b → (b || contains p ys) ≡ true → (contains p (reverse xs) || contains p (reverse ys)) ≡ true
    by true e h = rw (contains-reverse p xs e) refl
    by false e h = rw (contains-reverse p ys h) (more (contains p (reverse xs)))
