-- Who runs at a pod goes on to run, where no row ends it.
use Rattle.std.proofs.Common.{◌≡◌, ◌≤◌, ℕ, Bool, true, false, not, cond, List, [], ◌∷◌, ◌++◌, filter, length, length-append, refl, ap, ◌∙◌, sym, subst, append_assoc, arith, ◌||◌, ◌&&◌, nat_lt}
use Rattle.std.specs.Prelude.{Option, ◌==◌, ⊤}
use Rattle.std.proofs.lemmas.Bool.{eqb-true}
use Rattle.std.proofs.lemmas.List.{append-nil}
use Rattle.std.proofs.lemmas.List.Elements.{filter_map-append, filter-append}
use Rattle.std.proofs.lemmas.List.Folds.{list_any-append}
use Rattle.kn_event.specs.declared.entry.Entry.{Entry}
use Rattle.kn_event.specs.declared.entry.Row.{Row}
use Rattle.kn_event.specs.declared.entry.Row.TheVariants as row
use Rattle.kn_event.specs.declared.event.Act.{Act}
use Rattle.kn_event.specs.declared.event.Act.TheVariants as act
use Rattle.kn_event.specs.declared.event.Event.{Event}
use Rattle.kn_event.specs.declared.event.Stand.TheVariants as stand
use Rattle.kn_event.specs.declared.revision.Spec.{Spec}
use Rattle.kn_event.specs.Lists.{contains}
use Rattle.kn_trace.specs.Rows.{assigned_by, brought_to, ended_by, run_by, taken_by}
use Rattle.kn_trace.specs.Trace.{Trace, arrivals, assigned, each_row, ended, entry, has_begun, has_not_begun, has_run, is_running, running_at, stand_of, waiting}
use Rattle.kn_trace.specs.Events.{before_settling, react}
use Rattle.kn_trace.specs.Settling.{settling}
use Rattle.kn_record.specs.Facts.{Facts}
use Rattle.kn_record.specs.Made.{Holds, IsMade, IsProper}
use Rattle.kn_laws.specs.ByAct.{IsByAct}
use Rattle.kn_laws.specs.Facts.{PartFacts}
use Rattle.kn_laws.specs.Kinds.{EachIs}
use Rattle.kn_limits.proofs.Counting.{false-true}

contains-append : (f : Row → Option ℕ) (c d : Trace) (r : ℕ) → contains r (each_row f (c ++ d)) ≡ (contains r (each_row f c) || contains r (each_row f d))
contains-append f c d r = ap (contains r) (filter_map-append (λ e. f e.row) c d) ∙ list_any-append (λ y. y == r) (each_row f c) (each_row f d)

-- of two tests: the second one passes where the first one does, and a third one doesn't
stays : (a b e a' b' e' : Bool) → ((a || b) && not e) ≡ true → e' ≡ false → (((a || a') || (b || b')) && not (e || e')) ≡ true
stays true b false a' b' false h n = refl
stays true b e a' b' true h n = absurd (false-true (sym n))
stays true b true a' b' false h n = h
stays false true false true b' false h n = refl
stays false true false false b' false h n = refl
stays false true e a' b' true h n = absurd (false-true (sym n))
stays false true true a' b' false h n = absurd (false-true h)
stays false false e a' b' e' h n = absurd (false-true h)

still_runs : (c d : Trace) (r : ℕ) → is_running c r ≡ true → contains r (each_row ended_by d) ≡ false → is_running (c ++ d) r ≡ true
unfolding is_running has_begun assigned has_run ended
still_runs c d r runs none =
    rw (contains-append assigned_by c d r, contains-append run_by c d r, contains-append ended_by c d r)
    (stays (contains r (each_row assigned_by c)) (contains r (each_row run_by c)) (contains r (each_row ended_by c))
    (contains r (each_row assigned_by d)) (contains r (each_row run_by d)) (contains r (each_row ended_by d)) runs none)

as_many : (t u : ℕ → Bool) (xs : List ℕ) → ((r : ℕ) → contains r xs ≡ true → t r ≡ true → u r ≡ true) → length (filter t xs) ≤ length (filter u xs)
as_many t u [] h = omega arith
as_many t u (x ∷ xs) h = by (t x) (u x) (h x (here x xs)) (as_many t u xs (λ r in_xs. h r (later x r xs in_xs)))
  where
    or-true : (b : Bool) → (b || true) ≡ true
    or-true true = refl
    or-true false = refl

    same : (x : ℕ) → (x == x) ≡ true
    same x = grind arith

    here : (x : ℕ) (xs : List ℕ) → contains x (x ∷ xs) ≡ true
    here x xs = rw (same x) refl

    later : (x r : ℕ) (xs : List ℕ) → contains r xs ≡ true → contains r (x ∷ xs) ≡ true
    later x r xs e = rw e (or-true (x == r))

    by : (a b : Bool) → (a ≡ true → b ≡ true) → length (filter t xs) ≤ length (filter u xs) → length (cond a (x ∷ filter t xs) (filter t xs)) ≤ length (cond b (x ∷ filter u xs) (filter u xs))
    by true true f le = omega (arith, le)
    by true false f le = absurd (false-true (f refl))
    by false true f le = omega (arith, le)
    by false false f le = le

-- at a pod of whose running requests no row is the end, no less run
pub no_less_run : (c d : Trace) (p : ℕ) → ((r : ℕ) → contains r (each_row (brought_to p) c) ≡ true → is_running c r ≡ true → contains r (each_row ended_by d) ≡ false)
    → length (running_at c p) ≤ length (running_at (c ++ d) p)
unfolding running_at
no_less_run c d p none =
    let before : List ℕ = each_row (brought_to p) c in
    let more : List ℕ = each_row (brought_to p) d in
    let both = filter_map-append (λ e. brought_to p e.row) c d in
    let split : filter (is_running (c ++ d)) (each_row (brought_to p) (c ++ d)) ≡ filter (is_running (c ++ d)) before ++ filter (is_running (c ++ d)) more =
    ap (filter (is_running (c ++ d))) both ∙ filter-append (is_running (c ++ d)) before more in
    let count = ap length split ∙ length-append (filter (is_running (c ++ d)) before) (filter (is_running (c ++ d)) more) in
    let le = as_many (is_running c) (is_running (c ++ d)) before (λ r in_list runs. still_runs c d r runs (none r in_list runs)) in
    omega (arith, count, le)

-- ---- the rows of an event

-- the row neither finishes request r nor is of a pod's loss
abbrev IsStay : ℕ → Row → Type 0
IsStay r (row.Finish q ok) = (q == r) ≡ false
IsStay r (row.LostRequest q) = ⊥
IsStay r _ = ⊤

and-parts : (a b : Bool) → (a && b) ≡ true → (a ≡ true) × (b ≡ true)
and-parts true true h = (refl, refl)
and-parts true false h = absurd (false-true h)
and-parts false b h = absurd (false-true h)

module _ (facts : Facts) where
  -- who waits doesn't run
  waits_not : (c : Trace) (q r : ℕ) → is_running c r ≡ true → contains q (waiting c) ≡ true → (q == r) ≡ false
  unfolding is_running waiting has_not_begun
  waits_not c q r runs waits = by (q == r) refl
    where
      by : (b : Bool) → (q == r) ≡ b → b ≡ false
      by false e = refl
      by true e =
          let member = facts.lists.filter_member (has_not_begun c) q (each_row taken_by c) waits in
          let begun = (and-parts (has_begun c r) (not (ended c r)) runs).0 in
          let idle = (and-parts (not (has_begun c q)) (not (ended c q)) member.1).0 in
          let same : has_begun c q ≡ true = ap (has_begun c) (eqb-true q r e) ∙ begun in
          absurd (false-true (ap not (sym same) ∙ idle))

  -- a row that is proper there ends nobody who runs, but whom it finishes
  ends_not : (s : Spec) (c : Trace) (t : ℕ) (x : Row) (r : ℕ) → is_running c r ≡ true → IsProper s c x → IsStay r x → contains r (each_row ended_by (entry t x ∷ [])) ≡ false
  ends_not s c t (row.Finish q ok) r runs proper stay = rw stay refl
  ends_not s c t (row.Expire q) r runs proper stay = rw (waits_not c q r runs proper) refl
  ends_not s c t (row.Cancel q) r runs proper stay = rw (waits_not c q r runs proper) refl
  ends_not s c t (row.LostRequest q) r runs proper stay = absurd stay
  ends_not s c t _ r runs proper stay = refl

  none_ends : (s : Spec) (c d : Trace) (r : ℕ) → is_running c r ≡ true → Holds (IsProper s) c d → EachIs (IsStay r) d → contains r (each_row ended_by d) ≡ false
  none_ends s c [] r runs proper stay = refl
  none_ends s c (x ∷ d) r runs proper stay =
      let one = ends_not s c x.time x.row r runs proper.0 stay.0 in
      let rest = none_ends s (c ++ x ∷ []) d r (still_runs c (x ∷ []) r runs one) proper.1 stay.1 in
      contains-append ended_by (x ∷ []) d r ∙ rw (one, rest) refl

  holds_both : (P : Trace → Row → Type 0) (c xs ys : Trace) → Holds P c xs → Holds P (c ++ xs) ys → Holds P c (xs ++ ys)
  holds_both P c [] ys h more = subst (λ (z : Trace). Holds P z ys) (append-nil c) more
  holds_both P c (x ∷ xs) ys h more = (h.0, holds_both P (c ++ x ∷ []) xs ys h.1 (subst (λ (z : Trace). Holds P z ys) (sym (append_assoc c (x ∷ []) xs)) more))

  each_of : (P : Row → Type 0) (pre es : Trace) → ((before : Trace) (x : Entry) (rest : Trace) → pre ++ es ≡ before ++ x ∷ rest → P x.row) → EachIs P es
  each_of P pre [] h = tt
  each_of P pre (x ∷ es) h = (h pre x es refl, each_of P (pre ++ x ∷ []) es (λ before y rest e. h before y rest (sym (append_assoc pre (x ∷ []) es) ∙ e)))

  stay_row : (a : Act) (x : Row) (r : ℕ) → IsByAct a x → ((ok : Bool) → a ≡ act.Finish r ok → ⊥) → ((p : ℕ) → a ≡ act.Lost p → ⊥) → IsStay r x
  stay_row a (row.Finish q ok) r by other lost = apart (q == r) refl
    where
      apart : (b : Bool) → (q == r) ≡ b → b ≡ false
      apart false e = refl
      apart true e = absurd (other ok (by ∙ ap (λ n. act.Finish n ok) (eqb-true q r e)))
  stay_row a (row.LostRequest q) r by other lost = lost by.0 by.1
  stay_row a _ r by other lost = tt

  -- who runs at a pod stands so
  stands : (s : Spec) (c : Trace) (p r : ℕ) → IsMade s c → contains r (each_row (brought_to p) c) ≡ true → is_running c r ≡ true → stand_of c r ≡ stand.Running p
  unfolding stand_of has_begun
  stands s c p r made there runs =
      let numbered = (facts.proper.made_kept s c made).requests in
      let (begun, on) = facts.members.running_parts c r runs in
      let taken = facts.members.begun_taken c r numbered begun in
      let come = facts.members.taken_comes c r numbered taken in
      let low : nat_lt r (arrivals c) ≡ true = grind (arith, come) in
      rw (low, facts.members.is_live c r taken on, begun, facts.members.pod_is c p r numbered there) refl

  -- an event that loses no pod and finishes nobody who runs at a pod leaves no less run there
  pub stay : PartFacts → (s : Spec) (c : Trace) (e : Event) (p : ℕ) → IsMade s c → ((q : ℕ) → e.act ≡ act.Lost q → ⊥)
      → ((r : ℕ) (ok : Bool) → e.act ≡ act.Finish r ok → stand_of c r ≡ stand.Running p → ⊥) → length (running_at c p) ≤ length (running_at (c ++ react s c e) p)
  unfolding react
  stay parts s c e p made lost apart =
      let first = before_settling s c e in
      let d = c ++ first in
      let kept = facts.proper.made_kept s c made in
      let holds = facts.proper.before-holds s c e kept in
      let made' : IsMade s d = facts.proper.made_more s c first made holds in
      let all : Holds (IsProper s) c (first ++ settling s e.time d) = holds_both (IsProper s) c first (settling s e.time d) holds (facts.proper.settling-holds s e.time d (facts.proper.made_kept s d made')) in
      no_less_run c (first ++ settling s e.time d) p (λ r there runs.
      none_ends s c (first ++ settling s e.time d) r runs all
      (each_of (IsStay r) [] (first ++ settling s e.time d) (λ before x rest is. stay_row e.act x.row r (parts.rows.are_by_act s c e before x rest is)
      (λ ok at. apart r ok at (stands s c p r made there runs)) lost)))
