-- What one activator's event makes of a group, and of what that stands for.
use Rattle.std.proofs.Common.{◌≡◌, ◌≤◌, ◌<◌, ℕ, zero, suc, ◌+◌, ◌-◌, ◌^◌, ◌++◌, List, [], ◌∷◌, drop, length, get_or, max, nat_lt, refl, ap, ◌∙◌, sym, subst, arith, inl, inr}
use Rattle.std.specs.Prelude.{replicate, slice_index_or, slice_set, Some, None, if◌then◌else◌}
use Rattle.std.proofs.lemmas.Bool.{cases_eq}
use Rattle.std.proofs.lemmas.List.{drop_all, get_or-map, get_or-replicate, length-replicate, get_or-set_other, get_or-set_same, length-map, length-set}
use Rattle.std.proofs.lemmas.List.FromFn.{get_or-map-range_with_len, get_or-range_with_len, length-map-range_with_len, length-range_with_len}
use Rattle.std.proofs.Math.Seq.{drop-cons}
use Rattle.std.proofs.lemmas.List.Concat.{flat_map-cons}
use Rattle.std.specs.List.{flat_map}
use Rattle.kn_event.specs.FixedSpec.{fixed_spec}
use Rattle.kn_event.specs.declared.entry.Entry.{Entry}
use Rattle.kn_event.specs.declared.event.Event.{Event}
use Rattle.kn_event.specs.declared.revision.Spec.{Spec}
use Rattle.kn_event.specs.Lists.{EachIs}
use Rattle.kn_trace.specs.Events.{react}
use Rattle.kn_trace.specs.Trace.{Trace}
use Rattle.kn_core.specs.State.{RevisionState}
use Rattle.kn_slices.specs.Slices.{force_after, forces_from, hold, slice_of}
use Rattle.kn_slices.specs.Calls.{CanCome, CanMakeDue, KeepsWanted, StepsGroup}
use Rattle.kn_slices.specs.declared.change.Change.{Change}
use Rattle.kn_slices.specs.Traces.{AreTraces, GroupState, clocks_of, counts_of, due_of, limit_by, load_of, made_at, part_at, rows_of, running_by, specs_of, trace_at, traces_after, unset_of}
use Rattle.kn_activators.specs.declared.setup.GroupSetup.{GroupSetup}
use Rattle.kn_report.specs.Waiting.{own_rows}
use Rattle.kn_activators.specs.Sharing.{Sharing, and_then, asked, by_each, by_one, changes, due_in, numbers_of, opening_at, rows_at, spec_of, stepped, unsaid}
use Rattle.kn_activators.specs.Calls.{CanGoOn, StepsOnly}
use Rattle.kn_activators.specs.Standing.{AreBefore, Grows, IsBelow, IsOf, ReplayState, Stands, none, one, one_at}

-- any of them
pub some_part : (parts : List RevisionState) (i : ℕ) → i < length parts → RevisionState
some_part [] i low = absurd (omega (arith, low))
some_part (a ∷ rest) i low = a

pub parts_are : (s : GroupSetup) (g : GroupState) → IsOf s g → length g.parts ≡ s.activators
parts_are s g is =
    sym (length-map g.parts (λ (x : RevisionState). x.spec)) ∙ (ap (λ (xs : List Spec). length xs) is.specs ∙ length-map-range_with_len (λ i. fixed_spec (slice_of s.limit i s.activators) s.pods s.timeout_s s.slots) 0 s.activators)

pub low_of : (s : GroupSetup) (g : GroupState) (i : ℕ) → IsOf s g → i < s.activators → i < length g.parts
low_of s g i is low = subst (λ n. i < n) (sym (parts_are s g is)) low

pub spec_is : (s : GroupSetup) (g : GroupState) (i : ℕ) (d : RevisionState) → IsOf s g → i < s.activators → (part_at g i d).spec ≡ spec_of s i
spec_is s g i d is low =
    sym (get_or-map (λ (x : RevisionState). x.spec) g.parts i d (spec_of s i) (low_of s g i is low))
    ∙ (ap (λ (xs : List Spec). get_or xs i (spec_of s i)) is.specs
    ∙ get_or-map-range_with_len (λ i. fixed_spec (slice_of s.limit i s.activators) s.pods s.timeout_s s.slots) 0 s.activators i i (spec_of s i) low (omega arith))

-- ---- what it stands for

module _ (s : GroupSetup) (g h : GroupState) (i : ℕ) (e : Event) (is : IsOf s g) (low : i < s.activators) where
  inside : i < length g.parts
  inside = low_of s g i is low

  any : RevisionState
  any = some_part g.parts i inside

  pub rows_are : (log : List Entry) → ((cs : List Trace) (d : RevisionState) → AreTraces g.parts cs → log ≡ rows_of g cs i d e) → (x : Sharing) → Stands g x → log ≡ rows_at s x i e
  rows_are log logged x stands = logged x.traces any stands.traces ∙ ap (λ (z : Spec). react z (trace_at x.traces i) e) (spec_is s g i any is low)

  pub stands_stepped : ((cs : List Trace) (d : RevisionState) → AreTraces g.parts cs → AreTraces h.parts (traces_after g cs i d e)) → h.wanted ≡ g.wanted
      → ((cs : List Trace) → AreTraces h.parts cs → h.force ≡ forces_from limit_by running_by cs 0 g.wanted g.force) → (x : Sharing) → Stands g x → Stands h (stepped s x i e)
  unfolding stepped
  stands_stepped stands wanted force x old =
      let same = spec_is s g i any is low in
      let traces : AreTraces h.parts (slice_set x.traces i (trace_at x.traces i ++ rows_at s x i e)) =
      subst (λ (z : Spec). AreTraces h.parts (slice_set x.traces i (trace_at x.traces i ++ react z (trace_at x.traces i) e))) same (stands x.traces any old.traces) in
      record {
        traces = traces;
        wanted = wanted ∙ old.wanted;
        force = force _ traces ∙ rw (old.wanted, old.force) refl;
      }

-- ---- its activators

pub is_of : (s : GroupSetup) (g h : GroupState) → IsOf s g → specs_of h.parts ≡ specs_of g.parts → h.wanted ≡ g.wanted → IsOf s h
is_of s g h is specs wanted = record { specs = specs ∙ is.specs; pods = ap (λ (xs : List ℕ). length xs) wanted ∙ is.pods }

pub same_parts : (g h : GroupState) → specs_of h.parts ≡ specs_of g.parts → length h.parts ≡ length g.parts
same_parts g h specs = sym (length-map h.parts (λ (x : RevisionState). x.spec)) ∙ (ap (λ (xs : List Spec). length xs) specs ∙ length-map g.parts (λ (x : RevisionState). x.spec))

clock_at : (g : GroupState) (j : ℕ) (d : RevisionState) → j < length g.parts → get_or (clocks_of g.parts) j 0 ≡ (part_at g j d).clock
clock_at g j d low = get_or-map (λ (x : RevisionState). x.clock) g.parts j d 0 low

count_at : (g : GroupState) (j : ℕ) (d : RevisionState) → j < length g.parts → get_or (counts_of g.parts) j 0 ≡ (part_at g j d).events
count_at g j d low = get_or-map (λ (x : RevisionState). x.events) g.parts j d 0 low

module _ (g h : GroupState) (i time : ℕ) (low : i < length g.parts) (same : length h.parts ≡ length g.parts) where
  pub before_after : clocks_of h.parts ≡ slice_set (clocks_of g.parts) i time → AreBefore time g → AreBefore time h
  before_after clocks before j d inside =
      let there : j < length g.parts = subst (λ n. j < n) same inside in
      let is : (part_at h j d).clock ≡ get_or (slice_set (clocks_of g.parts) i time) j 0 = sym (clock_at h j d inside) ∙ ap (λ (xs : List ℕ). get_or xs j 0) clocks in
      elim (cases_eq j i) [
        | inl here ↦
            let now : get_or (slice_set (clocks_of g.parts) i time) j 0 ≡ time =
            ap (λ k. get_or (slice_set (clocks_of g.parts) i time) k 0) here ∙ get_or-set_same (clocks_of g.parts) i time 0 (subst (λ n. i < n) (sym (length-map g.parts (λ (x : RevisionState). x.clock))) low) in
            omega (arith, is, now)
        | inr apart ↦
            let now = get_or-set_other (clocks_of g.parts) i j time 0 apart ∙ clock_at g j d there in
            let old = before j d there in
            omega (arith, is, now, old)
      ]

  pub grows_one : ((d : RevisionState) → counts_of h.parts ≡ slice_set (counts_of g.parts) i ((part_at g i d).events + 1)) → ((j : ℕ) (d : RevisionState) → j < length g.parts → unset_of h j d ≡ unset_of g j d)
      → Grows (one_at i) g h
  grows_one counts unset j d inside =
      let there : j < length h.parts = subst (λ n. j < n) (sym same) inside in
      let is : (part_at h j d).events ≡ get_or (slice_set (counts_of g.parts) i ((part_at g i d).events + 1)) j 0 = sym (count_at h j d there) ∙ ap (λ (xs : List ℕ). get_or xs j 0) (counts d) in
      let left = unset j d inside in
      elim (cases_eq j i) [
        | inl here ↦
            let now : get_or (slice_set (counts_of g.parts) i ((part_at g i d).events + 1)) j 0 ≡ (part_at g j d).events + 1 =
            subst (λ k. get_or (slice_set (counts_of g.parts) i ((part_at g i d).events + 1)) k 0 ≡ (part_at g k d).events + 1) (sym here)
            (get_or-set_same (counts_of g.parts) i ((part_at g i d).events + 1) 0 (subst (λ n. i < n) (sym (length-map g.parts (λ (x : RevisionState). x.events))) low)) in
            let more : one_at i j ≡ 1 = at_one i j here in
            omega (arith, is, now, left, more)
        | inr apart ↦
            let now = get_or-set_other (counts_of g.parts) i j ((part_at g i d).events + 1) 0 apart ∙ count_at g j d inside in
            omega (arith, is, now, left)
      ]
    where
      at_one : (i j : ℕ) → j ≡ i → one_at i j ≡ 1
      at_one i j e = grind (arith, e)

-- ---- what a call of the group needs, and what it makes

pub can_come : (s : GroupSetup) (g : GroupState) (i : ℕ) (e : Event) → IsOf s g → i < s.activators → AreBefore e.time g → e.time ≤ 2 ^ 42 → ((d : RevisionState) → load_of g i d < 2 ^ 54)
    → CanCome g.parts i e
can_come s g i e is one before times few =
    let low = low_of s g i is one in
    record { part = low; order = λ d. before i d low; times = times; count = λ d. let load = few d in omega (arith, load) }

some_same : (x y : Change) → Some x ≡ Some y → x ≡ y
some_same x y e = cc

pub can_make : (g : GroupState) (x : Change) (time : ℕ) → due_of g ≡ Some x → AreBefore time g → time ≤ 2 ^ 42 → ((d : RevisionState) → load_of g x.activator d < 2 ^ 54) → CanMakeDue g time
can_make g x time due before times few = record {
  due = λ none. let e = sym due ∙ none in absurd cc;
  order = before;
  times = times;
  count = λ y d is. subst (λ (z : Change). (part_at g z.activator d).events < 2 ^ 54) (some_same x y (sym due ∙ is)) (let load = few d in omega (arith, load));
}

pub steps_only : (a b : ReplayState) (i : ℕ) (e : Event) → IsOf a.setup a.group → CanGoOn a i e.time → StepsGroup a.group b.group i e b.log → KeepsWanted a.group b.group
    → b.setup ≡ a.setup → b.before ≡ a.before → b.waiting ≡ a.waiting → StepsOnly a b i e
steps_only a b i e is can steps keeps setup before waiting =
    let low = low_of a.setup a.group i is can.one in
    let parts = same_parts a.group b.group keeps.same.specs in
    record {
      log = rows_are a.setup a.group b.group i e is can.one b.log steps.logged;
      stands = stands_stepped a.setup a.group b.group i e is can.one steps.stands keeps.wanted keeps.force;
      same = record { setup = setup; before = before; parts = parts };
      waiting = waiting;
      order = before_after a.group b.group i e.time low parts steps.clocks can.order;
    }

pub grows_none : (g h : GroupState) → ((j : ℕ) (d : RevisionState) → j < length g.parts → load_of h j d ≡ load_of g j d) → Grows none g h
grows_none g h load j d inside = let same = load j d inside in omega (arith, same)

-- ---- another limit is wanted

pub stands_asked : (g h : GroupState) (p limit : ℕ) → h.parts ≡ g.parts → h.wanted ≡ slice_set g.wanted p limit
    → ((cs : List Trace) → AreTraces g.parts cs → h.force ≡ slice_set g.force p (force_after (hold (limit_by p) (running_by p) cs) limit (max (slice_index_or g.force p 0) limit)))
    → (x : Sharing) → Stands g x → Stands h (asked p limit x)
unfolding asked
stands_asked g h p limit parts wanted force x old = record {
  traces = subst (λ (xs : List RevisionState). AreTraces xs x.traces) (sym parts) old.traces;
  wanted = wanted ∙ ap (λ (xs : List ℕ). slice_set xs p limit) old.wanted;
  force = force x.traces old.traces ∙ ap (λ (xs : List ℕ). slice_set xs p (force_after (hold (limit_by p) (running_by p) x.traces) limit (max (slice_index_or xs p 0) limit))) old.force;
}

pub before_asked : (g h : GroupState) → h.parts ≡ g.parts → (time : ℕ) → AreBefore time g → AreBefore time h
before_asked g h parts time before = subst (λ (xs : List RevisionState). EachIs (λ (x : RevisionState). x.clock ≤ time) xs) (sym parts) before

pub grows_asked : (g h : GroupState) → h.parts ≡ g.parts → ((j : ℕ) (d : RevisionState) → j < length g.parts → unset_of h j d ≤ unset_of g j d + 1) → Grows one g h
grows_asked g h parts unset j d inside =
    let same : (part_at h j d).events ≡ (part_at g j d).events = ap (λ (xs : List RevisionState). (slice_index_or xs j d).events) parts in
    let more = unset j d inside in
    omega (arith, same, more)

pub is_asked : (s : GroupSetup) (g h : GroupState) (p limit : ℕ) → IsOf s g → h.parts ≡ g.parts → h.wanted ≡ slice_set g.wanted p limit → IsOf s h
is_asked s g h p limit is parts wanted = record {
  specs = ap specs_of parts ∙ is.specs;
  pods = ap (λ (xs : List ℕ). length xs) wanted ∙ (length-set g.wanted p limit ∙ is.pods);
}

-- ---- how many more

pub below_after : (g h : GroupState) (bound : ℕ) (more : ℕ → ℕ) → length h.parts ≡ length g.parts → Grows more g h → ((j : ℕ) → more j ≤ 1) → IsBelow bound g → IsBelow (bound + 1) h
below_after g h bound more same grows few below j d inside =
    let there : j < length g.parts = subst (λ n. j < n) same inside in
    let a = grows j d there in
    let b = below j d there in
    let c = few j in
    omega (arith, a, b, c)

pub below_still : (g h : GroupState) (bound : ℕ) → length h.parts ≡ length g.parts → Grows none g h → IsBelow bound g → IsBelow bound h
below_still g h bound same grows below j d inside =
    let there : j < length g.parts = subst (λ n. j < n) same inside in
    let a = grows j d there in
    let b = below j d there in
    omega (arith, a, b)

pub grows_still : (more : ℕ → ℕ) (a b c : GroupState) → length b.parts ≡ length a.parts → Grows more a b → Grows none b c → Grows more a c
grows_still more a b c same first second j d inside =
    let x = first j d inside in
    let y = second j d (subst (λ n. j < n) (sym same) inside) in
    omega (arith, x, y)

-- those below i have one more
abbrev pub one_below : ℕ → ℕ → ℕ
one_below i j = if nat_lt j i then 1 else 0

pub grows_begin : (g : GroupState) (more : ℕ → ℕ) → Grows more g g
grows_begin g more j d inside = omega arith

pub grows_next : (i : ℕ) (a b c : GroupState) → length b.parts ≡ length a.parts → Grows (one_below i) a b → Grows (one_at i) b c → Grows (one_below (i + 1)) a c
grows_next i a b c same first second j d inside =
    let x = first j d inside in
    let y = second j d (subst (λ n. j < n) (sym same) inside) in
    let z : one_below i j + one_at i j ≤ one_below (i + 1) j = sums i j in
    omega (arith, x, y, z)
  where
    sums : (i j : ℕ) → one_below i j + one_at i j ≤ one_below (i + 1) j
    sums i j = grind arith

pub grows_all : (i : ℕ) (a b : GroupState) → Grows (one_below i) a b → Grows one a b
grows_all i a b grows j d inside =
    let x = grows j d inside in
    let y : one_below i j ≤ 1 = most i j in
    omega (arith, x, y)
  where
    most : (i j : ℕ) → one_below i j ≤ 1
    most i j = grind arith

-- the next one has none yet
pub few_next : (i bound : ℕ) (a b : GroupState) → i < length a.parts → Grows (one_below i) a b → IsBelow bound a → (d : RevisionState) → load_of b i d < bound
few_next i bound a b low grows below d =
    let x = grows i d low in
    let y = below i d low in
    let z : one_below i i ≡ 0 = nothing i in
    omega (arith, x, y, z)
  where
    nothing : (i : ℕ) → one_below i i ≡ 0
    nothing i = grind arith

-- ---- parts of an event's outcome

pub each_more : (s : GroupSetup) (e : Event) (i : ℕ) (y : Sharing) → i < s.activators → by_each s e (drop i (numbers_of s)) y ≡ and_then (by_one s y i e) (by_each s e (drop (i + 1) (numbers_of s)))
unfolding by_each
each_more s e i y low =
    let at : get_or (numbers_of s) i 0 ≡ i = get_or-range_with_len 0 s.activators i 0 low ∙ omega arith in
    let one : suc i ≡ i + 1 = omega arith in
    let split : drop i (numbers_of s) ≡ i ∷ drop (i + 1) (numbers_of s) =
    drop-cons (numbers_of s) i 0 (subst (λ n. i < n) (sym (length-range_with_len 0 s.activators)) low) ∙ (ap (λ k. k ∷ drop (suc i) (numbers_of s)) at ∙ ap (λ k. i ∷ drop k (numbers_of s)) one) in
    rw split refl

pub each_end : (s : GroupSetup) (e : Event) (i : ℕ) (y : Sharing) → s.activators ≤ i → by_each s e (drop i (numbers_of s)) y ≡ unsaid y
unfolding by_each
each_end s e i y up =
    let none : drop i (numbers_of s) ≡ [] = drop_all i (numbers_of s) (subst (λ n. n ≤ i) (sym (length-range_with_len 0 s.activators)) up) in
    rw none refl

pub changes_more : (s : GroupSetup) (time m k : ℕ) (y : Sharing) (change : Change) → k < m → due_in y ≡ Some change
    → changes s time (m - k) y ≡ and_then (by_one s y change.activator (made_at time change)) (changes s time (m - (k + 1)))
unfolding changes
changes_more s time m k y change low due =
    let e : m - k ≡ suc (m - (k + 1)) = omega (arith, low) in
    rw (e, due) refl

pub changes_none : (s : GroupSetup) (time n : ℕ) (y : Sharing) → due_in y ≡ None → changes s time n y ≡ unsaid y
unfolding changes
changes_none s time zero y due = refl
changes_none s time (suc n) y due = rw due refl

pub changes_over : (s : GroupSetup) (time m k : ℕ) (y : Sharing) → m ≤ k → changes s time (m - k) y ≡ unsaid y
unfolding changes
changes_over s time m k y up = let e : m - k ≡ 0 = omega (arith, up) in rw e refl

pub below_less : (g : GroupState) (a b : ℕ) → IsBelow a g → a ≤ b → IsBelow b g
below_less g a b below less j d inside = let x = below j d inside in omega (arith, x, less)

-- ---- the opening

pub openings_more : (s : GroupSetup) (start i : ℕ) → i < s.activators
    → flat_map (λ k. own_rows k (opening_at s start k)) (drop i (numbers_of s)) ≡ own_rows i (opening_at s start i) ++ flat_map (λ k. own_rows k (opening_at s start k)) (drop (i + 1) (numbers_of s))
openings_more s start i low =
    let at : get_or (numbers_of s) i 0 ≡ i = get_or-range_with_len 0 s.activators i 0 low ∙ omega arith in
    let one : suc i ≡ i + 1 = omega arith in
    let split : drop i (numbers_of s) ≡ i ∷ drop (i + 1) (numbers_of s) =
    drop-cons (numbers_of s) i 0 (subst (λ n. i < n) (sym (length-range_with_len 0 s.activators)) low) ∙ (ap (λ k. k ∷ drop (suc i) (numbers_of s)) at ∙ ap (λ k. i ∷ drop k (numbers_of s)) one) in
    ap (λ (ks : List ℕ). flat_map (λ k. own_rows k (opening_at s start k)) ks) split ∙ flat_map-cons (λ k. own_rows k (opening_at s start k)) i (drop (i + 1) (numbers_of s))

pub openings_end : (s : GroupSetup) (start i : ℕ) → s.activators ≤ i → flat_map (λ k. own_rows k (opening_at s start k)) (drop i (numbers_of s)) ≡ []
openings_end s start i up =
    let none : drop i (numbers_of s) ≡ [] = drop_all i (numbers_of s) (subst (λ n. n ≤ i) (sym (length-range_with_len 0 s.activators)) up) in
    ap (λ (ks : List ℕ). flat_map (λ k. own_rows k (opening_at s start k)) ks) none

length_opened : (g : GroupState) (n start : ℕ) → clocks_of g.parts ≡ replicate n start → length g.parts ≡ n
length_opened g n start clocks = sym (length-map g.parts (λ (x : RevisionState). x.clock)) ∙ (ap (λ (xs : List ℕ). length xs) clocks ∙ length-replicate n start)

pub before_opened : (g : GroupState) (n start : ℕ) → clocks_of g.parts ≡ replicate n start → AreBefore start g
before_opened g n start clocks j d low =
    let inside : j < n = subst (λ m. j < m) (length_opened g n start clocks) low in
    let is = sym (clock_at g j d low) ∙ (ap (λ (xs : List ℕ). get_or xs j 0) clocks ∙ get_or-replicate n j start 0 inside) in
    omega (arith, is)

pub few_opened : (g : GroupState) (n start : ℕ) → clocks_of g.parts ≡ replicate n start → ((j : ℕ) (d : RevisionState) → j < n → load_of g j d ≡ 0) → IsBelow 1 g
few_opened g n start clocks load j d low =
    let none = load j d (subst (λ m. j < m) (length_opened g n start clocks) low) in
    omega (arith, none)
