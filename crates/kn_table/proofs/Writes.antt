-- What a table keeps through a write to the slot of one live request, and through a push.
use Rattle.std.proofs.Common.{◌≡◌, refl, sym, ap, subst, ◌∙◌, ℕ, ◌+◌, ◌<◌, ◌≤◌, Bool, true, false, not, List, [], ◌∷◌, ◌++◌, length, get_or, set, arith, Option, Some, None}
use Rattle.std.specs.Prelude.{◌&&◌, MatchOption, IsSome, is_some}
use Rattle.std.specs.List.{All, filter}
use Rattle.std.proofs.lemmas.List.{get_or-set_same, get_or_default, length-map, length-set, length_push}
use Rattle.std.proofs.lemmas.List.Folds.{position_or_len-set}
use Rattle.kn_event.specs.Lists.{contains}
use Rattle.kn_trace.specs.Events.{live_most}
use Rattle.kn_trace.specs.Trace.{first_of}
use Rattle.kn_record.specs.declared.admission.Place.{Place}
use Rattle.kn_record.specs.declared.admission.Place.TheVariants as place
use Rattle.kn_record.specs.declared.admission.Request.{Request}
use Rattle.kn_record.specs.Admission.{begun, is_at, is_held_place, placed_in, waits, without}
use Rattle.kn_record.specs.Views.{numbers_in}
use Rattle.kn_table.specs.Moves.{Leaves, Moves}
use Rattle.kn_table.specs.declared.cursors.Cursors.{Cursors}
use Rattle.kn_table.specs.declared.slot.Slot.{Slot}
use Rattle.kn_table.specs.Slots.{AreFirst, AreInOrder, AreKept, IsHeldAt, IsLeftAt, IsNext, IsPlaceOf, first_placed, is_live, is_placed, live_of, passed}
use Rattle.kn_table.proofs.Requests.{AreApart, apart, changed, changed_length, contains_found, first_placed_there, found, leaves, listed_one, moves, placed_found, placed_one, without_length}
use Rattle.kn_table.proofs.Firsts.{and-false, first-elsewhere, first-passed, first-push, first-set, first_beyond, first_stands}
use Rattle.kn_table.proofs.Marks.{all_swept, found_at, live_of-changed, live_of-ended, live_of-push, order-push, order-set, order-swept, ordered}

-- the live requests of slots in order have numbers that differ
pub apart_live : (xs : List Slot) → AreInOrder xs → length (live_of xs) ≤ live_most → AreApart (live_of xs)
apart_live xs order few = apart (live_of xs) (ordered xs order few).numbers

-- ---- what a search found

pub is_found : (r : ℕ) (xs : List Slot) (q : Request) (o : Option ℕ) → MatchOption o (found r (live_of xs) ≡ None) (λ place. IsPlaceOf r xs place) → found r (live_of xs) ≡ Some q → IsSome o
is_found r xs q None none f = absurd (cc)
is_found r xs q (Some i) there f = refl

pub found_place : (r : ℕ) (xs : List Slot) (i : ℕ) (o : Option ℕ) → o ≡ Some i → MatchOption o (found r (live_of xs) ≡ None) (λ place. IsPlaceOf r xs place) → IsPlaceOf r xs i
found_place r xs i o is there = subst (λ (p : Option ℕ). MatchOption p (found r (live_of xs) ≡ None) (λ place. IsPlaceOf r xs place)) is there

pub found_request : (r : ℕ) (xs : List Slot) (i : ℕ) (d : Slot) → AreInOrder xs → IsPlaceOf r xs i → found r (live_of xs) ≡ Some (get_or xs i d).request
found_request r xs i d order there = found_at r xs i d order.numbers there.inside (there.number d) ∙ rw (there.live d) refl

-- ---- the write

-- one that fails leaves each cursor where it stands but the one that stands there
pub left_at : (test : Place → Bool) (xs zs : List Slot) (i : ℕ) (y : Slot) (cursor : ℕ) → i < length xs → cursor ≡ first_placed test xs → zs ≡ set xs i y → is_placed test y ≡ false → IsLeftAt i (first_placed test zs) cursor
left_at test xs zs i y cursor inside at is fails =
    let same : first_placed test zs ≡ first_placed test (set xs i y) = ap (first_placed test) is in
    let le = first-set (is_placed test) xs i y fails in
    let long = length-set xs i y in
    record {
      here = λ there.
          let beyond = first_beyond (is_placed test) (set xs i y) i y (omega (arith, there, at, le)) (omega (arith, inside, long)) (ap (is_placed test) (get_or-set_same xs i y y inside) ∙ fails) in
          omega (arith, beyond, same);
      elsewhere = λ other. at ∙ sym (first-elsewhere (is_placed test) xs i y fails (λ first. other (at ∙ first))) ∙ sym same;
    }

-- what is kept, where number and time stay
pub kept-set : (xs zs : List Slot) (live less i : ℕ) (x y : Slot) (cursors at : Cursors) (pod from : ℕ) → AreKept xs live cursors → i < length xs → x ≡ get_or xs i x
    → y.request.number ≡ x.request.number → y.request.time ≡ x.request.time → zs ≡ set xs i y
    → at ≡ record { held = first_placed is_held_place zs; waiting = first_placed waits zs; pod = pod; from = from } → from ≤ first_placed (is_at pod) (set xs i y)
    → less ≡ length (live_of (set xs i y)) → less ≤ live_most → AreKept (set xs i y) less at
kept-set xs zs live less i x y cursors at pod from kept inside read number time is at_is low counted few = record {
  order = order-set xs i y kept.order inside
      (λ e. number ∙ ap (λ (s : Slot). s.request.number) (read ∙ get_or_default xs i x e inside))
      (λ e. time ∙ ap (λ (s : Slot). s.request.time) (read ∙ get_or_default xs i x e inside));
  short = subst (λ n. n ≤ 40000) (sym (length-set xs i y)) kept.short;
  counted = counted;
  few = few;
  held = ap (λ (k : Cursors). k.held) at_is ∙ ap (first_placed is_held_place) is;
  waiting = ap (λ (k : Cursors). k.waiting) at_is ∙ ap (first_placed waits) is;
  at_pod =
      let same_from : at.from ≡ from = ap (λ (k : Cursors). k.from) at_is in
      let same_pod : at.pod ≡ pod = ap (λ (k : Cursors). k.pod) at_is in
      let same_first : first_placed (is_at at.pod) (set xs i y) ≡ first_placed (is_at pod) (set xs i y) = ap (λ p. first_placed (is_at p) (set xs i y)) same_pod in
      omega (arith, same_from, same_first, low);
}

module _ (xs : List Slot) (order : AreInOrder xs) (r i : ℕ) (there : IsPlaceOf r xs i) (x : Slot) (read : x ≡ get_or xs i x) where
  pub read_live : x.has_ended ≡ false
  read_live = ap (λ (s : Slot). s.has_ended) read ∙ there.live x

  pub moved_live : (by : Request → Request) (y : Slot) → y.has_ended ≡ x.has_ended → y.request ≡ by x.request → live_of (set xs i y) ≡ changed r by (live_of xs)
  moved_live by y stays is =
      live_of-changed by r xs i x y order.numbers there.inside (there.number x) (there.live x) (stays ∙ read_live) (is ∙ ap (λ (s : Slot). by s.request) read)

  pub moved_count : (by : Request → Request) (y : Slot) (live : ℕ) → live ≡ length (live_of xs) → y.has_ended ≡ x.has_ended → y.request ≡ by x.request → live ≡ length (live_of (set xs i y))
  moved_count by y live counted stays is =
      counted ∙ sym (ap (λ (l : List Request). length l) (moved_live by y stays is) ∙ changed_length by r (live_of xs))

  pub ended_live : (y : Slot) → y.has_ended ≡ true → live_of (set xs i y) ≡ without r (live_of xs)
  ended_live y ends = live_of-ended r xs i x y order.numbers there.inside (there.number x) ends

  pub read_found : found r (live_of xs) ≡ Some x.request
  read_found = found_request r xs i x order there ∙ ap (λ (s : Slot). Some s.request) (sym read)

  pub ended_count : (y : Slot) → y.has_ended ≡ true → length (live_of xs) ≤ live_most → length (live_of (set xs i y)) + 1 ≡ length (live_of xs)
  ended_count y ends few =
      ap (λ (l : List Request). length l + 1) (ended_live y ends)
      ∙ without_length r (live_of xs) x.request (apart_live xs order few) read_found

-- the one that a test of places finds stands where the search says
pub place_found : (test : Place → Bool) (r : ℕ) (xs zs : List Slot) (l : List Request) (o : Option ℕ) → AreInOrder xs → length (live_of xs) ≤ live_most → live_of xs ≡ l → zs ≡ xs
    → contains r (placed_in test l) ≡ true → MatchOption o (found r (live_of zs) ≡ None) (λ place. IsPlaceOf r zs place) → IsSome o
place_found test r xs zs l o order few view same there answer =
    let one = placed_one test r (live_of xs) (apart_live xs order few) (ap (λ k. contains r (placed_in test k)) view ∙ there) in
    is_found r zs one.0 o answer (ap (λ ys. found r (live_of ys)) same ∙ one.1)

-- the first that is held stands at the cursor
pub first_held_at : (xs : List Slot) (at r : ℕ) (l : List Request) → at ≡ first_placed is_held_place xs → live_of xs ≡ l → first_of (placed_in is_held_place l) ≡ Some r → IsHeldAt r xs at
first_held_at xs at r l is view first =
    let here : first_of (placed_in is_held_place (live_of xs)) ≡ Some r = ap (λ k. first_of (placed_in is_held_place k)) view ∙ first in
    record {
      there = subst (λ i. IsPlaceOf r xs i) (sym is) (first_stands is_held_place xs r here);
      held = first_placed_there is_held_place (live_of xs) r here;
    }

pub some_held_at : (xs : List Slot) (at : ℕ) (l : List Request) → at ≡ first_placed is_held_place xs → live_of xs ≡ l → IsSome (first_of (placed_in is_held_place l)) → (r : ℕ) × IsHeldAt r xs at
some_held_at xs at l is view some = by (first_of (placed_in is_held_place l)) refl some
  where
    by : (o : Option ℕ) → first_of (placed_in is_held_place l) ≡ o → IsSome o → (r : ℕ) × IsHeldAt r xs at
    by None e some = absurd (cc)
    by (Some r) e some = (r, first_held_at xs at r l is view e)

pub few_live : (xs : List Slot) (live : ℕ) (cursors : Cursors) → AreKept xs live cursors → length (live_of xs) ≤ live_most
few_live xs live cursors kept = subst (λ n. n ≤ live_most) kept.counted kept.few

pub listed_found : (r : ℕ) (xs zs : List Slot) (l : List Request) (o : Option ℕ) → live_of xs ≡ l → zs ≡ xs → contains r (numbers_in l) ≡ true
    → MatchOption o (found r (live_of zs) ≡ None) (λ place. IsPlaceOf r zs place) → IsSome o
listed_found r xs zs l o view same there answer =
    let one = listed_one r (live_of xs) (ap (λ k. contains r (numbers_in k)) view ∙ there) in
    is_found r zs one.0 o answer (ap (λ ys. found r (live_of ys)) same ∙ one.1)

pub stands : (r : ℕ) (xs zs : List Slot) (i : ℕ) (o : Option ℕ) → zs ≡ xs → o ≡ Some i → MatchOption o (found r (live_of zs) ≡ None) (λ place. IsPlaceOf r zs place) → IsPlaceOf r xs i
stands r xs zs i o same is answer = subst (λ ys. IsPlaceOf r ys i) same (found_place r zs i o is answer)

-- what a move and an end change, as the contracts say it
module _ (xs : List Slot) (order : AreInOrder xs) (few : length (live_of xs) ≤ live_most) (r i : ℕ) (there : IsPlaceOf r xs i) (x : Slot) (read : x ≡ get_or xs i x) (l : List Request) (view : live_of xs ≡ l) where
  pub moved_moves : (by : Request → Request) → ((s : Request) → (by s).number ≡ s.number) → (test : Place → Bool) (from to : Place) (y : Slot) → y.has_ended ≡ x.has_ended → y.request ≡ by x.request
      → contains r (placed_in test l) ≡ true → ((s : Request) → test s.place ≡ true → (s.place ≡ from) × ((by s).place ≡ to)) → Moves r from to l (live_of (set xs i y))
  moved_moves by keeps test from to y stays is member places =
      let a = apart_live xs order few in
      let one = placed_one test r (live_of xs) a (ap (λ k. contains r (placed_in test k)) view ∙ member) in
      let at = places one.0 one.2 in
      let new = sym (moved_live xs order r i there x read by y stays is) in
      let moved = moves by r (live_of xs) one.0 keeps a one.1 in
      subst (λ k. Moves r from to k (live_of (set xs i y))) view
      (subst (λ n. Moves r from to (live_of xs) n) new
      (subst (λ w. Moves r from w (live_of xs) (changed r by (live_of xs))) at.1
      (subst (λ w. Moves r w (by one.0).place (live_of xs) (changed r by (live_of xs))) at.0 moved)))

  pub ended_leaves : (y : Slot) → y.has_ended ≡ true → Leaves r x.request.place l (live_of (set xs i y))
  ended_leaves y ends =
      let a = apart_live xs order few in
      subst (λ k. Leaves r x.request.place k (live_of (set xs i y))) view
      (subst (λ n. Leaves r x.request.place (live_of xs) n) (sym (ended_live xs order r i there x read y ends))
      (leaves r (live_of xs) x.request a (read_found xs order r i there x read)))

  -- who passes a test of places by the number passes it where the slot stands
  pub read_passes : (test : Place → Bool) → contains r (placed_in test l) ≡ true → test x.request.place ≡ true
  read_passes test member =
      sym (placed_found test r (live_of xs) x.request (apart_live xs order few) (read_found xs order r i there x read))
      ∙ ap (λ k. contains r (placed_in test k)) view ∙ member

-- ---- a run begins

begun_stays : (p : ℕ) (w : Place) → is_at p (begun w) ≡ is_at p w
begun_stays p place.Held = refl
begun_stays p (place.Queued q) = refl
begun_stays p (place.Running q a) = refl

-- it is at its pod as before
pub begun_low : (xs : List Slot) (i : ℕ) (x y : Slot) (pod from : ℕ) → x ≡ get_or xs i x → y.has_ended ≡ x.has_ended → y.request.place ≡ begun x.request.place
    → from ≤ first_placed (is_at pod) xs → from ≤ first_placed (is_at pod) (set xs i y)
begun_low xs i x y pod from read stays is low =
    let same : is_placed (is_at pod) y ≡ is_placed (is_at pod) (get_or xs i x) =
    ap (λ e. not e && is_at pod y.request.place) stays ∙ ap (λ w. not x.has_ended && is_at pod w) is
    ∙ ap (λ b. not x.has_ended && b) (begun_stays pod x.request.place) ∙ ap (is_placed (is_at pod)) read in
    let first = position_or_len-set (is_placed (is_at pod)) xs i y x same in
    omega (arith, first, low)

-- where it was queued it isn't held, and it waits no more
pub begun_fails : (test : Place → Bool) (p : ℕ) (y : Slot) (w : Place) → test (place.Running p false) ≡ false → w ≡ place.Queued p → y.request.place ≡ begun w → is_placed test y ≡ false
begun_fails test p y w fails queued is =
    ap (λ v. not y.has_ended && test v) (is ∙ ap begun queued) ∙ ap (λ b. not y.has_ended && b) fails ∙ and-false (not y.has_ended)

-- ---- a look-up

module _ (r : ℕ) (xs zs : List Slot) (i : ℕ) (x : Slot) (l : List Request) (view : live_of xs ≡ l) (same : zs ≡ xs) (order : AreInOrder xs) (few : length (live_of xs) ≤ live_most) where
  pub got : IsPlaceOf r zs i → x ≡ get_or xs i x → found r l ≡ Some x.request
  got there read = ap (found r) (sym view) ∙ read_found xs order r i (subst (λ ys. IsPlaceOf r ys i) same there) x read

  pub got_listed : IsPlaceOf r zs i → x ≡ get_or xs i x → contains r (numbers_in l) ≡ true
  got_listed there read = contains_found r l ∙ ap is_some (got there read)

  pub got_placed : IsPlaceOf r zs i → x ≡ get_or xs i x → (test : Place → Bool) → contains r (placed_in test l) ≡ test x.request.place
  got_placed there read test =
      placed_found test r l x.request (subst AreApart view (apart_live xs order few)) (got there read)

pub got_none : (r : ℕ) (xs zs : List Slot) (l : List Request) → live_of xs ≡ l → zs ≡ xs → found r (live_of zs) ≡ None → contains r (numbers_in l) ≡ false
got_none r xs zs l view same none = contains_found r l ∙ ap is_some (ap (found r) (sym view) ∙ sym (ap (λ ys. found r (live_of ys)) same) ∙ none)

-- ---- a push

pub next_swept : (request : Request) (xs : List Slot) → AreInOrder xs → length (live_of xs) < live_most → All (λ (q : Request). q.number < request.number) (live_of xs) → All (λ (q : Request). q.time ≤ request.time) (live_of xs)
    → IsNext request (filter is_live xs)
next_swept request xs order few above later = record {
  order = order-swept xs order;
  above = all_swept (λ (q : Request). q.number < request.number) xs above;
  later = all_swept (λ (q : Request). q.time ≤ request.time) xs later;
  room = let long = length-map (filter is_live xs) (λ (s : Slot). s.request) in omega (arith, long, few);
}

-- where the first of a kind stands once one more is pushed
pushed_first : (test : Place → Bool) (ys : List Slot) (y : Slot) → y.has_ended ≡ false → passed (test y.request.place) (length ys) (first_placed test ys) ≡ first_placed test (ys ++ y ∷ [])
pushed_first test ys y lives =
    ap (λ e. passed (not e && test y.request.place) (length ys) (first_placed test ys)) (sym lives) ∙ sym (first-passed (is_placed test) ys y)

pub kept-push : (xs ys zs : List Slot) (live end : ℕ) (y : Slot) (cursors before at : Cursors) → AreKept xs live cursors → length (live_of xs) < live_most → live_of ys ≡ live_of xs → IsNext y.request ys → AreFirst before ys
    → y.has_ended ≡ false → zs ≡ ys ++ y ∷ [] → end ≡ length ys
    → at ≡ record { held = passed (is_held_place y.request.place) end before.held; waiting = passed (waits y.request.place) end before.waiting; pod = before.pod; from = before.from } → AreKept zs (live + 1) at
kept-push xs ys zs live end y cursors before at kept few same next first lives is end_is at_is =
    let room = next.room in
    let long = ap (λ (ws : List Slot). length ws) is ∙ length_push ys y in
    let counted = kept.counted in
    let more : length (live_of zs) ≡ length (live_of ys) + 1 =
    ap (λ ws. length (live_of ws)) is ∙ ap (λ (l : List Request). length l) (live_of-push ys y lives) ∙ length_push (live_of ys) y.request in
    let stays : length (live_of ys) ≡ length (live_of xs) = ap (λ (l : List Request). length l) same in
    record {
      order = subst AreInOrder (sym is) (order-push ys y next.order next.above next.later);
      short = omega (arith, long, room);
      counted = omega (arith, counted, more, stays);
      few = omega (arith, counted, few);
      held = ap (λ (k : Cursors). k.held) at_is ∙ ap (passed (is_held_place y.request.place) end) first.held ∙ ap (λ n. passed (is_held_place y.request.place) n (first_placed is_held_place ys)) end_is ∙ pushed_first is_held_place ys y lives ∙ ap (first_placed is_held_place) (sym is);
      waiting = ap (λ (k : Cursors). k.waiting) at_is ∙ ap (passed (waits y.request.place) end) first.waiting ∙ ap (λ n. passed (waits y.request.place) n (first_placed waits ys)) end_is ∙ pushed_first waits ys y lives ∙ ap (first_placed waits) (sym is);
      at_pod =
          let same_from : at.from ≡ before.from = ap (λ (k : Cursors). k.from) at_is in
          let same_pod : at.pod ≡ before.pod = ap (λ (k : Cursors). k.pod) at_is in
          let same_first : first_placed (is_at at.pod) zs ≡ first_placed (is_at before.pod) (ys ++ y ∷ []) = ap (λ p. first_placed (is_at p) zs) same_pod ∙ ap (first_placed (is_at before.pod)) is in
          let further = first-push (is_placed (is_at before.pod)) ys y in
          let below = first.at_pod in
          omega (arith, same_from, same_first, further, below);
    }
