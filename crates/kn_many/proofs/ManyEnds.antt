-- How a session over several revisions ends, from what its calls say.
use Rattle.std.proofs.Common.{◌≡◌, ◌<◌, ◌≤◌, ◌+◌, ◌∙◌, ℕ, Bool, not, cond, List, [], ◌∷◌, length, map, drop, get_or, refl, sym, ap, ap₂, arith}
use Rattle.std.specs.Prelude.{◌||◌, false, slice_index_or, suc}
use Rattle.std.specs.List.{list_any, position, position_or_len, range_with_len}
use Rattle.std.proofs.lemmas.List.{ext_get_or, get_or-map, length-map}
use Rattle.std.proofs.lemmas.List.FromFn.{length-range_with_len}
use Rattle.kn_event.specs.Lists.{EachIs}
use Rattle.kn_core.specs.State.{RevisionState}
use Rattle.kn_cell.specs.declared.past.Past.{Past}
use Rattle.kn_journal.specs.declared.journal.Setup.{Setup}
use Rattle.kn_request.specs.declared.slot.WideSlot.{WideSlot}
use Rattle.kn_request.specs.Wide.{faults_in, memories_in}
use Rattle.kn_session.specs.Wide.{at_flag}
use Rattle.kn_serve.specs.Ending.{status_by}
use Rattle.kn_serve.specs.Running.{Session}
use Rattle.kn_many.specs.Ending.{has_fault, has_want}
use Rattle.kn_many.specs.Many.{one_failed, one_wanted, status_after_all}
use Rattle.kn_many.proofs.ManyFacts.{AreAsMany, IsSessionAt, session_at, sessions, sessions-many}

-- ---- what the works of the slots say of revision v

abbrev pub faults_of : {C L : Type 0} → List (WideSlot C L) → ℕ → List Bool
faults_of {C} {L} ts v = map (λ (t : WideSlot C L). at_flag (faults_in t.works.items) v) ts

abbrev pub wants_of : {C L : Type 0} → List (WideSlot C L) → ℕ → List Bool
wants_of {C} {L} ts v = map (λ (t : WideSlot C L). at_flag (memories_in t.works.items) v) ts

-- the sessions of these slots
abbrev pub sessions_of : {C L : Type 0} → ℕ → List (WideSlot C L) → List Setup → List RevisionState → List (List Past) → List Session
sessions_of {C} {L} start ts ss bs hs = sessions start (faults_of ts) (wants_of ts) 0 ss bs hs

pub some_of : {A P : Type 0} (xs : List A) → 1 ≤ length xs → (A → P) → P
some_of [] low f = absurd (let z : ⊥ = omega (arith, low) in z)
some_of (x ∷ xs) low f = f x

-- the flags that the sessions have of slot i are those that lie in its works
flags_by : {C L : Type 0} (start : ℕ) (ts : List (WideSlot C L)) (ss : List Setup) (bs : List RevisionState) (hs : List (List Past)) (i : ℕ) (d : WideSlot C L) (x : Session) → AreAsMany ss bs hs
    → i < length ts → length (slice_index_or ts i d).works.items ≡ length ss
    → (map (λ (y : Session). at_flag y.faults i) (sessions_of start ts ss bs hs) ≡ faults_in (slice_index_or ts i d).works.items)
    × (map (λ (y : Session). at_flag y.wants i) (sessions_of start ts ss bs hs) ≡ memories_in (slice_index_or ts i d).works.items)
flags_by {C} {L} start ts ss bs hs i d x m low many =
    let xs = sessions_of start ts ss bs hs in
    let t = slice_index_or ts i d in
    let long = sessions-many start (faults_of ts) (wants_of ts) 0 ss bs hs m in
    let at : (k : ℕ) → k < length ss → IsSessionAt start (faults_of ts) (wants_of ts) 0 k ss bs hs (get_or xs k x) = λ k lt. session_at start (faults_of ts) (wants_of ts) 0 k ss bs hs x m lt in (
      ext_get_or false (map (λ (y : Session). at_flag y.faults i) xs) (faults_in t.works.items)
          (length-map xs (λ (y : Session). at_flag y.faults i) ∙ long ∙ sym many ∙ sym (length-map t.works.items (λ w. w.fault)))
          (λ k lt.
          let lt' : k < length ss = omega (arith, lt, length-map xs (λ (y : Session). at_flag y.faults i), long) in
          let lt'' : k < length xs = omega (arith, lt', long) in
          let here : 0 + k ≡ k = omega arith in
          get_or-map (λ (y : Session). at_flag y.faults i) xs k x false lt'' ∙ ap (λ (fs : List Bool). at_flag fs i) ((at k lt').faults ∙ ap (faults_of ts) here)
          ∙ get_or-map (λ (y : WideSlot C L). at_flag (faults_in y.works.items) k) ts i d false low),
      ext_get_or false (map (λ (y : Session). at_flag y.wants i) xs) (memories_in t.works.items)
          (length-map xs (λ (y : Session). at_flag y.wants i) ∙ long ∙ sym many ∙ sym (length-map t.works.items (λ w. w.memory)))
          (λ k lt.
          let lt' : k < length ss = omega (arith, lt, length-map xs (λ (y : Session). at_flag y.wants i), long) in
          let lt'' : k < length xs = omega (arith, lt', long) in
          let here : 0 + k ≡ k = omega arith in
          get_or-map (λ (y : Session). at_flag y.wants i) xs k x false lt'' ∙ ap (λ (fs : List Bool). at_flag fs i) ((at k lt').wants ∙ ap (wants_of ts) here)
          ∙ get_or-map (λ (y : WideSlot C L). at_flag (memories_in y.works.items) k) ts i d false low),
    )

pub flags_at : {C L : Type 0} (start : ℕ) (ts : List (WideSlot C L)) (ss : List Setup) (bs : List RevisionState) (hs : List (List Past)) (i : ℕ) (d : WideSlot C L) → AreAsMany ss bs hs → 1 ≤ length ss
    → i < length ts → length (slice_index_or ts i d).works.items ≡ length ss
    → (map (λ (y : Session). at_flag y.faults i) (sessions_of start ts ss bs hs) ≡ faults_in (slice_index_or ts i d).works.items)
    × (map (λ (y : Session). at_flag y.wants i) (sessions_of start ts ss bs hs) ≡ memories_in (slice_index_or ts i d).works.items)
flags_at {C} {L} start ts ss bs hs i d m some low many =
    let xs = sessions_of start ts ss bs hs in
    let long = sessions-many start (faults_of ts) (wants_of ts) 0 ss bs hs m in
    let some' : 1 ≤ length xs = omega (arith, some, long) in
    some_of xs some' (λ x. flags_by start ts ss bs hs i d x m low many)

-- ---- the status

-- a first place by a test of the members is one by a test of their places
position_by : {A : Type 0} (p : A → Bool) (q : ℕ → Bool) (k : ℕ) (ts : List A) → ((i : ℕ) (d : A) → i < length ts → p (slice_index_or ts i d) ≡ q (k + i))
    → position_or_len p ts ≡ position_or_len q (range_with_len k (length ts))
position_by p q k [] same = refl
position_by {A} p q k (t ∷ ts) same =
    let far : k + 0 ≡ k = omega arith in
    let first : p t ≡ q k = same 0 t (omega arith) ∙ ap q far in
    let more = position_by p q (k + 1) ts (λ i d low. same (suc i) d (omega (arith, low)) ∙ ap q (let e : k + suc i ≡ k + 1 + i = omega arith in e)) in
    ap₂ (λ (b : Bool) (n : ℕ). cond (not b) (1 + n) 0) first more

any_by : {A : Type 0} (p : A → Bool) (q : ℕ → Bool) (k : ℕ) (ts : List A) → ((i : ℕ) (d : A) → i < length ts → p (slice_index_or ts i d) ≡ q (k + i))
    → list_any p ts ≡ list_any q (range_with_len k (length ts))
any_by p q k [] same = refl
any_by {A} p q k (t ∷ ts) same =
    let far : k + 0 ≡ k = omega arith in
    let first : p t ≡ q k = same 0 t (omega arith) ∙ ap q far in
    let more = any_by p q (k + 1) ts (λ i d low. same (suc i) d (omega (arith, low)) ∙ ap q (let e : k + suc i ≡ k + 1 + i = omega arith in e)) in
    ap₂ (λ (a b : Bool). a || b) first more

-- lists of which one test says the same as another of theirs, place by place, pass alike
any_same : {A B : Type 0} (p : A → Bool) (q : B → Bool) (xs : List A) (ys : List B) → map p xs ≡ map q ys → list_any p xs ≡ list_any q ys
any_same p q [] [] same = refl
any_same p q [] (y ∷ ys) same = absurd (cc)
any_same p q (x ∷ xs) [] same = absurd (cc)
any_same p q (x ∷ xs) (y ∷ ys) same = ap₂ (λ (a b : Bool). a || b) (ap (λ (l : List Bool). get_or l 0 false) same) (any_same p q xs ys (ap (drop 1) same))

-- a slot's works have a fault where one of the sessions has one of the slot
fault_same : {C L : Type 0} (xs : List Session) (t : WideSlot C L) (i : ℕ) → map (λ (y : Session). at_flag y.faults i) xs ≡ faults_in t.works.items → has_fault t ≡ one_failed xs i
fault_same xs t i same = any_same (λ w. w.fault) (λ (y : Session). at_flag y.faults i) t.works.items xs (sym same)

want_same : {C L : Type 0} (xs : List Session) (t : WideSlot C L) (i : ℕ) → map (λ (y : Session). at_flag y.wants i) xs ≡ memories_in t.works.items → has_want t ≡ one_wanted xs i
want_same xs t i same = any_same (λ w. w.memory) (λ (y : Session). at_flag y.wants i) t.works.items xs (sym same)

pub status_is : {C L : Type 0} (start : ℕ) (ts : List (WideSlot C L)) (ss : List Setup) (bs : List RevisionState) (hs : List (List Past)) (count : ℕ) → AreAsMany ss bs hs → 1 ≤ length ss → length ts ≡ count
    → EachIs (λ (t : WideSlot C L). length t.works.items ≡ length ss) ts
    → status_by (position has_fault ts) (list_any has_want ts) ≡ status_after_all count (sessions_of start ts ss bs hs)
status_is {C} {L} start ts ss bs hs count m some long many =
    let xs = sessions_of start ts ss bs hs in
    let none : (i : ℕ) → 0 + i ≡ i = λ i. omega arith in
    let flags : (i : ℕ) (d : WideSlot C L) → i < length ts → _ = λ i d low. flags_at start ts ss bs hs i d m some low (many i d low) in
    let places = position_by has_fault (one_failed xs) 0 ts (λ i d low. fault_same xs (slice_index_or ts i d) i (flags i d low).0 ∙ ap (one_failed xs) (sym (none i))) in
    let wants = any_by has_want (one_wanted xs) 0 ts (λ i d low. want_same xs (slice_index_or ts i d) i (flags i d low).1 ∙ ap (one_wanted xs) (sym (none i))) in
    let first : position has_fault ts ≡ position (one_failed xs) (range_with_len 0 (length ts)) = rw (places, length-range_with_len 0 (length ts)) refl in
    ap₂ status_by first wants ∙ ap (λ (n : ℕ). status_after_all n xs) long
