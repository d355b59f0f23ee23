-- An event at which a waiting request's timeout is over ends it, so that fewer requests are live.
use Rattle.std.proofs.Common.{◌≡◌, ℕ, ◌+◌, ◌≤◌, Bool, true, false, not, cond, ◌||◌, ◌⊎◌, inl, inr, List, [], ◌∷◌, ◌++◌, length, map, nat_le, refl, sym, ap, subst, arith}
use Rattle.std.specs.Prelude.{Option, None, Some, ◌==◌}
use Rattle.std.specs.List.{filter, filter_map, cons_option}
use Rattle.std.proofs.lemmas.Bool.{eqb-true}
use Rattle.std.proofs.lemmas.Bool.Decides.{nat_tests}
use Rattle.kn_event.specs.declared.entry.Row.{Row}
use Rattle.kn_event.specs.declared.entry.Row.TheVariants as row
use Rattle.kn_event.specs.declared.event.Act.{Act}
use Rattle.kn_event.specs.declared.event.Event.{Event}
use Rattle.kn_event.specs.declared.revision.Spec.{Spec}
use Rattle.kn_event.specs.Lists.{contains}
use Rattle.kn_trace.specs.Rows.{ended_by, taken_by}
use Rattle.kn_trace.specs.Trace.{Trace, each_row, ended, entry, first_of, has_not_begun, live, waiting}
use Rattle.kn_trace.specs.Events.{act_rows, activation, before_settling, departures, due, due_by, expiries, losses, react}
use Rattle.kn_trace.specs.Settling.{settling}
use Rattle.kn_record.specs.Facts.{Facts}
use Rattle.kn_record.specs.Rows.{says}
use Rattle.kn_laws.specs.ByAct.{AreByAct, IsArrival, IsByAct}
use Rattle.kn_agenda.specs.Due.{first_time, taken_at, time_where}
use Rattle.kn_agenda.proofs.Going.{none_said}
use Rattle.kn_agenda.proofs.Said.{said_more, said_new, said_same}

-- ---- who is due is listed

-- the request was taken in so long before
due_listed : (timeout t : ℕ) (c : Trace) (r b : ℕ) → first_time taken_by c r ≡ Some b → b + timeout ≤ t → contains r (filter_map (due_by timeout t) c) ≡ true
unfolding first_time
due_listed timeout t [] r b h late = absurd (cc)
due_listed timeout t (e ∷ c) r b h late = by (taken_by e.row) refl h (λ k. due_listed timeout t c r b k late)
  where
    listed : (o : Option ℕ) → contains r (filter_map (due_by timeout t) c) ≡ true → contains r (cons_option o (filter_map (due_by timeout t) c)) ≡ true
    listed None k = k
    listed (Some q) k = at (q == r)
      where
        at : (z : Bool) → (z || contains r (filter_map (due_by timeout t) c)) ≡ true
        at true = refl
        at false = k

    by : (o : Option ℕ) → taken_by e.row ≡ o → first_of (filter_map (λ e. time_where (says (taken_by e.row) r) e) (e ∷ c)) ≡ Some b
        → (first_of (filter_map (λ e. time_where (says (taken_by e.row) r) e) c) ≡ Some b → contains r (filter_map (due_by timeout t) c) ≡ true) → contains r (filter_map (due_by timeout t) (e ∷ c)) ≡ true
    by None k g rest = listed (due_by timeout t e) (rest (rw k at g))
    by (Some q) k g rest = at (q == r) refl (rw k at g)
      where
        at : (z : Bool) → (q == r) ≡ z → first_of (cons_option (time_where (q == r) e) (filter_map (λ e. time_where (says (taken_by e.row) r) e) c)) ≡ Some b → contains r (filter_map (due_by timeout t) (e ∷ c)) ≡ true
        at true m g' =
            let same : Some e.time ≡ Some b = rw m at g' in
            let time : e.time ≡ b = cc in
            let over : nat_le (e.time + timeout) t ≡ true = let less : e.time + timeout ≤ t = omega arith in grind (arith, nat_tests) in
            rw (over, k, m) refl
        at false m g' = listed (due_by timeout t e) (rest (rw m at g'))

-- each expiry ends its request
each_expired : (t : ℕ) (rs : List ℕ) → each_row ended_by (map (λ r. entry t (row.Expire r)) rs) ≡ rs
each_expired t [] = refl
each_expired t (r ∷ rs) = ap (λ (xs : List ℕ). r ∷ xs) (each_expired t rs)

due_ends : (s : Spec) (c : Trace) (e : Event) (r : ℕ) → contains r (due s e.time c) ≡ true → ended (c ++ react s c e) r ≡ true
unfolding ended react before_settling departures expiries
due_ends s c e r h =
    let gone = map (λ (q : ℕ). entry e.time (row.Expire q)) (due s e.time c) in
    let lost = losses e.time (c ++ gone) e.act in
    let did = act_rows s e.time (c ++ (gone ++ lost)) e.act in
    let active = activation e.time ((c ++ (gone ++ lost)) ++ did) in
    let first : contains r (each_row ended_by gone) ≡ true = subst (λ (rs : List ℕ). contains r rs ≡ true) (sym (each_expired e.time (due s e.time c))) h in
    let all = said_more ended_by ((((gone ++ lost) ++ did) ++ active)) (settling s e.time (c ++ (((gone ++ lost) ++ did) ++ active))) r
    (said_more ended_by ((gone ++ lost) ++ did) active r (said_more ended_by (gone ++ lost) did r (said_more ended_by gone lost r first))) in
    said_new ended_by c _ r all

-- ---- nobody is taken in

takes_by : (a : Act) (x : Row) → IsByAct a x → (taken_by x ≡ None) ⊎ IsArrival a
takes_by a (row.Admit r tag) h = inr (tag, h)
takes_by a (row.Direct r p) h = inr h
takes_by a _ h = inl refl

pub nobody_taken : (s : Spec) (c : Trace) (e : Event) → AreByAct s c e → (IsArrival e.act → ⊥) → each_row taken_by (react s c e) ≡ []
nobody_taken s c e by_act other = none_said taken_by (react s c e) (λ before x rest is. by (takes_by e.act x.row (by_act before x rest is)))
  where
    by : {o : Option ℕ} → (o ≡ None) ⊎ IsArrival e.act → o ≡ None
    by (inl h) = h
    by (inr h) = absurd (other h)

-- ---- how many are left

no_more_true : (a b : Bool) → (a ≡ true → b ≡ true) → not b ≡ true → not a ≡ true
no_more_true true b f h = absurd (let k = f refl in cc)
no_more_true false b f h = refl

module _ (facts : Facts) where
  open facts use {lists.{in_filter, filter_member, length-filter-more}, members.{is_live, waiting_member}}

  -- one passes the wider test alone
  pub filter-fewer : (t u : ℕ → Bool) (r : ℕ) → ((x : ℕ) → u x ≡ true → t x ≡ true) → t r ≡ true → u r ≡ false → (xs : List ℕ) → contains r xs ≡ true → length (filter u xs) + 1 ≤ length (filter t xs)
  filter-fewer t u r less wide narrow [] h = absurd (cc)
  filter-fewer t u r less wide narrow (x ∷ xs) h = by (x == r) refl h (λ k. filter-fewer t u r less wide narrow xs k)
    where
      here : (a b : Bool) → t x ≡ a → u x ≡ b → x ≡ r → length (cond b (x ∷ filter u xs) (filter u xs)) + 1 ≤ length (cond a (x ∷ filter t xs) (filter t xs))
      here true false ta ub same = let more = length-filter-more u t less xs in omega arith
      here false b ta ub same = absurd (let off : t r ≡ false = rw same at ta in cc)
      here true true ta ub same = absurd (let on : u r ≡ true = rw same at ub in cc)

      later : (a b : Bool) → t x ≡ a → u x ≡ b → length (filter u xs) + 1 ≤ length (filter t xs) → length (cond b (x ∷ filter u xs) (filter u xs)) + 1 ≤ length (cond a (x ∷ filter t xs) (filter t xs))
      later true true ta ub rest = omega arith
      later true false ta ub rest = omega arith
      later false true ta ub rest = absurd (let on = less x ub in cc)
      later false false ta ub rest = rest

      by : (z : Bool) → (x == r) ≡ z → ((x == r) || contains r xs) ≡ true → (contains r xs ≡ true → length (filter u xs) + 1 ≤ length (filter t xs)) → length (filter u (x ∷ xs)) + 1 ≤ length (filter t (x ∷ xs))
      by true k g rest = here (t x) (u x) refl refl (eqb-true x r k)
      by false k g rest = later (t x) (u x) refl refl (rest (rw k at g))

  -- entries that take in nobody, after which a live request has ended
  pub live-fewer : (c es : Trace) (r : ℕ) → each_row taken_by es ≡ [] → contains r (live c) ≡ true → ended (c ++ es) r ≡ true → length (live (c ++ es)) + 1 ≤ length (live c)
  unfolding live ended
  live-fewer c es r none on off =
      let same = said_same taken_by c es none in
      let parts = filter_member (λ q. not (contains q (each_row ended_by c))) r (each_row taken_by c) on in
      rw same (filter-fewer (λ q. not (contains q (each_row ended_by c))) (λ q. not (contains q (each_row ended_by (c ++ es)))) r
      (λ q h. no_more_true (contains q (each_row ended_by c)) (contains q (each_row ended_by (c ++ es))) (λ k. said_more ended_by c es q k) h)
      parts.1 (rw off refl) (each_row taken_by c) parts.0)

  -- a waiting request whose timeout is over
  pub pass-fewer : (s : Spec) (c : Trace) (e : Event) (r b : ℕ) → AreByAct s c e → (IsArrival e.act → ⊥) → contains r (waiting c) ≡ true → taken_at c r ≡ Some b → b + s.timeout_ms ≤ e.time
      → length (live (c ++ react s c e)) + 1 ≤ length (live c)
  unfolding due waiting
  pass-fewer s c e r b by_act other waits taken late =
      let member = waiting_member c r waits in
      let listed = due_listed s.timeout_ms e.time c r b taken late in
      let is_due : contains r (due s e.time c) ≡ true = in_filter (has_not_begun c) r (filter_map (due_by s.timeout_ms e.time) c) listed (filter_member (has_not_begun c) r (each_row taken_by c) waits).1 in
      live-fewer c (react s c e) r (nobody_taken s c e by_act other) (is_live c r member.0 member.1.ended) (due_ends s c e r is_due)
