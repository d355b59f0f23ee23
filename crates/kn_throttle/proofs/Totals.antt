-- What is kept beside the candidates: their marks, how many have a free seat, the sum of their limits, and how many have none.
use Rattle.std.proofs.Common.{◌≡◌, ℕ, suc, zero, ◌<◌, ◌≤◌, ◌+◌, ◌-◌, ◌*◌, ◌^◌, Bool, true, false, cond, List, [], ◌∷◌, ◌++◌, length, take, drop, get_or, set, map, min, refl, sym, ap, ◌∙◌, arith}
use Rattle.std.specs.Prelude.{◌==◌}
use Rattle.std.specs.List.{All, insert, position_or_len, remove, sum_by, take-map, drop-map}
use Rattle.std.proofs.lemmas.List.{get_or-map, get_or_default, length-map, length-set, map-append, take-set}
use Rattle.std.proofs.lemmas.List.Edits.{length-insert, length-remove}
use Rattle.std.proofs.lemmas.List.Sums.{sum_by-cons, sum_by-insert, sum_by-remove, sum_by-set}
use Rattle.std.proofs.lemmas.List.Elements.{All-append, All-cons, All-drop, All-get_or, All-head, All-set, All-tail, All-take}
use Rattle.kn_trace.specs.declared.candidate.Cand.{Cand}
use Rattle.kn_trace.specs.Capacity.{seats_of}
use Rattle.kn_trace.specs.Choice.{has_seat}
use Rattle.kn_policy.specs.Marks.{mark_of}
use Rattle.kn_throttle.specs.Candidates.{AreCounted, capacity_of, limits_in, unlimited_in, unlimited_of}

-- ---- edits

map-insert : {X Y : Type 0} (f : X → Y) (xs : List X) (i : ℕ) (x : X) → map f (insert xs i x) ≡ insert (map f xs) i (f x)
map-insert f xs i x = map-append f (take i xs) (x ∷ drop i xs) ∙ rw (take-map f i xs, drop-map f i xs) refl

map-remove : {X Y : Type 0} (f : X → Y) (xs : List X) (i : ℕ) → map f (remove xs i) ≡ remove (map f xs) i
map-remove f xs i = map-append f (take i xs) (drop (suc i) xs) ∙ rw (take-map f i xs, drop-map f (suc i) xs) refl

map-set : {X Y : Type 0} (f : X → Y) (xs : List X) (i : ℕ) (x : X) → map f (set xs i x) ≡ set (map f xs) i (f x)
map-set f [] i x = refl
map-set f (y ∷ xs) zero x = refl
map-set f (y ∷ xs) (suc i) x = ap (λ l. f y ∷ l) (map-set f xs i x)

abbrev IsSmall : Cand → Type 0
IsSmall k = k.limit < 2 ^ 64

abbrev limit : Cand → ℕ
limit k = k.limit

pub counted-inserted : (k : List Cand) (marks : List ℕ) (free limits none i : ℕ) (x : Cand) → AreCounted k marks free limits none → x.limit < 2 ^ 64
    → AreCounted (insert k i x) (insert marks i (mark_of x)) (free + mark_of x) (limits + x.limit) (none + unlimited_of x)
counted-inserted k marks free limits none i x h small = record {
  marked = rw h.marked (sym (map-insert mark_of k i x));
  seats = rw h.seats (sym (sum_by-insert mark_of k i x));
  sum = rw h.sum (sym (sum_by-insert limit k i x));
  unlimited = rw h.unlimited (sym (sum_by-insert unlimited_of k i x));
  in_range = All-append IsSmall (take i k) (x ∷ drop i k) (All-take IsSmall i k h.in_range) (All-cons IsSmall x (drop i k) small (All-drop IsSmall i k h.in_range));
}

-- one that is there adds no more than all do
pub record IsCounted (x : Cand) (free limits none : ℕ) : Type 0 where
  pub seats : mark_of x ≤ free
  pub sum : x.limit ≤ limits
  pub unlimited : unlimited_of x ≤ none

pub counted-at : (k : List Cand) (marks : List ℕ) (free limits none i : ℕ) (x : Cand) → AreCounted k marks free limits none → i < length k → x ≡ get_or k i x → IsCounted x free limits none
counted-at k marks free limits none i x h inside here = record {
  seats = omega (arith, h.seats, sum_by-remove mark_of k i x inside, ap mark_of here);
  sum = omega (arith, h.sum, sum_by-remove limit k i x inside, ap limit here);
  unlimited = omega (arith, h.unlimited, sum_by-remove unlimited_of k i x inside, ap unlimited_of here);
}

pub counted-removed : (k : List Cand) (marks : List ℕ) (free limits none i : ℕ) (x : Cand) → AreCounted k marks free limits none → i < length k → x ≡ get_or k i x
    → AreCounted (remove k i) (remove marks i) (free - mark_of x) (limits - x.limit) (none - unlimited_of x)
counted-removed k marks free limits none i x h inside here = record {
  marked = rw h.marked (sym (map-remove mark_of k i));
  seats = omega (arith, h.seats, sum_by-remove mark_of k i x inside, ap mark_of here);
  sum = omega (arith, h.sum, sum_by-remove limit k i x inside, ap limit here);
  unlimited = omega (arith, h.unlimited, sum_by-remove unlimited_of k i x inside, ap unlimited_of here);
  in_range = All-append IsSmall (take i k) (drop (suc i) k) (All-take IsSmall i k h.in_range) (All-drop IsSmall (suc i) k h.in_range);
}

pub counted-set : (k : List Cand) (marks : List ℕ) (free limits none i : ℕ) (x y : Cand) → AreCounted k marks free limits none → i < length k → x ≡ get_or k i x → y.limit < 2 ^ 64
    → AreCounted (set k i y) (set marks i (mark_of y)) (free + mark_of y - mark_of x) (limits + y.limit - x.limit) (none + unlimited_of y - unlimited_of x)
counted-set k marks free limits none i x y h inside here small = record {
  marked = rw h.marked (sym (map-set mark_of k i y));
  seats = omega (arith, h.seats, sum_by-set mark_of k i y x inside, ap mark_of here);
  sum = omega (arith, h.sum, sum_by-set limit k i y x inside, ap limit here);
  unlimited = omega (arith, h.unlimited, sum_by-set unlimited_of k i y x inside, ap unlimited_of here);
  in_range = All-set IsSmall k i y small h.in_range;
}

pub counted-replaced : (k : List Cand) (marks : List ℕ) (free limits none i : ℕ) (x y : Cand) → AreCounted k marks free limits none → i < length k → x ≡ get_or k i x → x.limit ≡ y.limit
    → AreCounted (set k i y) (set marks i (mark_of y)) (free + mark_of y - mark_of x) limits none
counted-replaced k marks free limits none i x y h inside here same =
    let small : x.limit < 2 ^ 64 = rw here (All-get_or IsSmall k i x inside h.in_range) in
    let one = counted-at k marks free limits none i x h inside here in
    let alike : unlimited_of x ≡ unlimited_of y = rw same refl in
    let all = counted-set k marks free limits none i x y h inside here (rw (← same) small) in
    record {
      marked = all.marked;
      seats = all.seats;
      sum = omega (arith, all.sum, same, one.sum);
      unlimited = omega (arith, all.unlimited, alike, one.unlimited);
      in_range = all.in_range;
    }

-- the mark that is read at a place
pub mark-at : (k : List Cand) (marks : List ℕ) (free limits none i m : ℕ) (d : Cand) → AreCounted k marks free limits none → i < length k → m ≡ get_or marks i m → m ≡ mark_of (get_or k i d)
mark-at k marks free limits none i m d h inside here =
    let marked : i < length marks = rw (h.marked, length-map k mark_of) inside in
    here ∙ get_or_default marks i m 0 marked ∙ ap (λ (ms : List ℕ). get_or ms i 0) h.marked ∙ get_or-map mark_of k i d 0 inside

-- ---- the first with a free seat

-- where two lists agree up to a place, the first of the one is no nearer than that of the other, or that place
module _ {X : Type 0} (p : X → Bool) where
  first-near : (xs ys : List X) (i n : ℕ) → n ≤ position_or_len p xs → i ≤ length ys → take i ys ≡ take i xs → min n i ≤ position_or_len p ys
  first-near xs ys zero n h g e = omega arith
  first-near xs [] (suc i) n h g e = absurd (omega arith)
  first-near [] (y ∷ ys) (suc i) n h g e = absurd (cc)
  first-near (x ∷ xs) (y ∷ ys) (suc i) n h g e =
      let same : y ≡ x = cc in
      let rest : take i ys ≡ take i xs = cc in
      by (p x) refl h (ap p same) (λ m k. first-near xs ys i m k (omega arith) rest)
    where
      by : (b : Bool) → p x ≡ b → n ≤ position_or_len p (x ∷ xs) → p y ≡ p x → ((m : ℕ) → m ≤ position_or_len p xs → min m i ≤ position_or_len p ys) → min n (suc i) ≤ position_or_len p (y ∷ ys)
      by true f h s rest = let none : n ≤ 0 = rw f at h in omega (arith, none)
      by false f h s rest =
          let most : n ≤ 1 + position_or_len p xs = rw f at h in
          let less = rest (n - 1) (omega (arith, most)) in
          rw (s, f) (omega (arith, less))

take-front : (xs zs : List Cand) (i : ℕ) → i ≤ length xs → take i (take i xs ++ zs) ≡ take i xs
take-front xs zs zero h = refl
take-front [] zs (suc i) h = absurd (omega arith)
take-front (x ∷ xs) zs (suc i) h = ap (λ (l : List Cand). x ∷ l) (take-front xs zs i (omega arith))

pub low-set : (k : List Cand) (n i : ℕ) (y : Cand) → n ≤ position_or_len has_seat k → i < length k → min n i ≤ position_or_len has_seat (set k i y)
low-set k n i y h inside = first-near has_seat k (set k i y) i n h (omega (arith, length-set k i y)) (take-set k i y)

pub low-insert : (k : List Cand) (n i : ℕ) (y : Cand) → n ≤ position_or_len has_seat k → i ≤ length k → min n i ≤ position_or_len has_seat (insert k i y)
low-insert k n i y h inside = first-near has_seat k (insert k i y) i n h (omega (arith, length-insert k i y inside)) (take-front k (y ∷ drop i k) i inside)

pub low-remove : (k : List Cand) (n i : ℕ) → n ≤ position_or_len has_seat k → i < length k → min n i ≤ position_or_len has_seat (remove k i)
low-remove k n i h inside = first-near has_seat k (remove k i) i n h (omega (arith, length-remove k i inside)) (take-front k (drop (suc i) k) i (omega arith))

pub no_cand : Cand
no_cand = record { pod = 0; limit = 0; running = 0 }

-- a marked one has a free seat
pub seat_marked : (q : Cand) → mark_of q ≡ 1 → has_seat q ≡ true
seat_marked q one = by (has_seat q) refl
  where
    by : (b : Bool) → has_seat q ≡ b → has_seat q ≡ true
    by true e = e
    by false e = absurd (let no : 0 ≡ 1 = rw e at one in omega (arith, no))

-- ---- limits

limits-few : (k : List Cand) → All IsSmall k → limits_in k ≤ length k * 2 ^ 64
limits-few [] all = omega arith
limits-few (x ∷ k) all =
    let first = All-head IsSmall x k all in
    let rest = limits-few k (All-tail IsSmall x k all) in
    omega (arith, sum_by-cons limit x k, first, rest)

-- the sum of the limits of all that there is room for, and one more
pub limits-fit : (k : List Cand) (marks : List ℕ) (free limits none n : ℕ) → AreCounted k marks free limits none → length k ≤ 20500 → n < 2 ^ 64 → limits + n < 2 ^ 128
limits-fit k marks free limits none n h few small = let sum = limits-few k h.in_range in omega (arith, h.sum, sum)

abbrev seats : ℕ → Cand → ℕ
seats most k = seats_of most k.limit

seats-limited : (most : ℕ) (k : List Cand) → unlimited_in k ≡ 0 → sum_by (seats most) k ≡ limits_in k
seats-limited most [] all = refl
seats-limited most (x ∷ k) all = by (x.limit == 0) refl (sym (sum_by-cons unlimited_of x k) ∙ all) (seats-limited most k)
  where
    by : (b : Bool) → (x.limit == 0) ≡ b → cond b 1 0 + unlimited_in k ≡ 0 → (unlimited_in k ≡ 0 → sum_by (seats most) k ≡ limits_in k) → sum_by (seats most) (x ∷ k) ≡ limits_in (x ∷ k)
    by true e count rest = absurd (omega arith)
    by false e count rest =
        let here : seats most x ≡ x.limit = rw e refl in
        omega (arith, sum_by-cons (seats most) x k, sum_by-cons limit x k, rest (omega arith), here)

seats-unlimited : (most : ℕ) (k : List Cand) → 0 < unlimited_in k → most ≤ sum_by (seats most) k
seats-unlimited most [] some = absurd (omega arith)
seats-unlimited most (x ∷ k) some = by (x.limit == 0) refl (sum_by-cons unlimited_of x k) (seats-unlimited most k)
  where
    by : (b : Bool) → (x.limit == 0) ≡ b → unlimited_in (x ∷ k) ≡ cond b 1 0 + unlimited_in k → (0 < unlimited_in k → most ≤ sum_by (seats most) k) → most ≤ sum_by (seats most) (x ∷ k)
    by true e count rest =
        let here : seats most x ≡ most = rw e refl in
        omega (arith, sum_by-cons (seats most) x k, here)
    by false e count rest = omega (arith, sum_by-cons (seats most) x k, rest (omega (arith, count, some)))

-- where each has a limit, and where one has none
pub capacity-limited : (most : ℕ) (k : List Cand) → unlimited_in k ≡ 0 → min (limits_in k) most ≡ capacity_of most k
capacity-limited most k all = let same = seats-limited most k all in omega arith

pub capacity-unlimited : (most : ℕ) (k : List Cand) → 0 < unlimited_in k → most ≡ capacity_of most k
capacity-unlimited most k some = let much = seats-unlimited most k some in omega arith
