-- Who begins to run had waited less than the timeout.
use Rattle.std.proofs.Common.{◌≡◌, ℕ, ◌+◌, ◌<◌, ◌≤◌, Bool, true, false, not, ◌&&◌, ◌||◌, List, [], ◌∷◌, ◌++◌, map, refl, sym, ap, ◌∙◌, subst, arith, append-nil, append_assoc}
use Rattle.std.specs.Prelude.{Option, None, Some, ◌==◌, nat_le, unwrap_or, if◌then◌else◌}
use Rattle.std.specs.Bool.{then_some}
use Rattle.std.specs.List.{filter_map, cons_option}
use Rattle.std.proofs.lemmas.Bool.Decides.{nat_tests}
use Rattle.std.proofs.lemmas.List.Elements.{filter_map-append}
use Rattle.std.proofs.lemmas.List.Folds.{list_any-append}
use Rattle.kn_event.specs.declared.entry.Entry.{Entry}
use Rattle.kn_event.specs.declared.entry.Row.{Row}
use Rattle.kn_event.specs.declared.entry.Row.TheVariants as row
use Rattle.kn_event.specs.declared.event.Event.{Event}
use Rattle.kn_event.specs.declared.revision.Spec.{Spec}
use Rattle.kn_event.specs.Lists.{contains}
use Rattle.kn_trace.specs.Events.{act_rows, activation, before_settling, departures, due, due_by, expiries, losses, react}
use Rattle.kn_trace.specs.Rows.{admitted_by, assigned_by, begun_by, brought_to, ended_by, run_by, taken_by}
use Rattle.kn_trace.specs.Settling.{settling}
use Rattle.kn_trace.specs.Trace.{Trace, assigned, each_row, ended, entry, has_begun, has_not_begun, has_run, held, last_of, queued_at}
use Rattle.kn_trace.specs.Report.{is_expire}
use Rattle.kn_record.specs.Facts.{Facts}
use Rattle.kn_record.specs.Made.{IsMade, IsNumbered, IsProper}
use Rattle.kn_record.specs.Rows.{moved_by, says}
use Rattle.kn_laws.specs.Facts.{PartFacts}
use Rattle.kn_laws.specs.Kinds.{Each, EachAt}
use Rattle.kn_lives.specs.Lives.{arrived_at, time_of}
use Rattle.kn_begun.specs.Begun.{BeginInTime}

-- ---- rows in two parts

expire_begins_nobody : (x : Row) (r : ℕ) → is_expire x ≡ true → begun_by x ≡ Some r → ⊥
expire_begins_nobody (row.Expire q) r h e = cc
expire_begins_nobody _ r h e = cc

-- a row that begins a request stands behind the expiries
pub behind : (gone more before rest : Trace) (x : Entry) (r : ℕ) → Each is_expire gone → gone ++ more ≡ before ++ x ∷ rest → begun_by x.row ≡ Some r
    → (mid : Trace) × (before ≡ gone ++ mid) × (more ≡ mid ++ x ∷ rest)
behind [] more before rest x r each is begins = (before, refl, is)
behind (y ∷ ys) more [] rest x r each is begins =
    let same : y ≡ x = cc in
    absurd (expire_begins_nobody x.row r (ap (λ (z : Entry). is_expire z.row) (sym same) ∙ each.0) begins)
behind (y ∷ ys) more (z ∷ zs) rest x r each is begins =
    let same : y ≡ z = cc in
    let others : ys ++ more ≡ zs ++ x ∷ rest = cc in
    onto same (behind ys more zs rest x r each.1 others begins)
  where
    onto : y ≡ z → (mid : Trace) × (zs ≡ ys ++ mid) × (more ≡ mid ++ x ∷ rest) → (mid : Trace) × (z ∷ zs ≡ y ∷ (ys ++ mid)) × (more ≡ mid ++ x ∷ rest)
    onto same (mid, e, f) = (mid, rw (same, e) refl, f)

at_front : (t : ℕ) (xs ys : Trace) → EachAt t (xs ++ ys) → EachAt t xs
at_front t [] ys h = tt
at_front t (x ∷ xs) ys h = (h.0, at_front t xs ys h.1)

at_back : (t : ℕ) (xs ys : Trace) → EachAt t (xs ++ ys) → EachAt t ys
at_back t [] ys h = h
at_back t (x ∷ xs) ys h = at_back t xs ys h.1

-- ---- the last time that the rows say r

abbrev time_by : ℕ → Entry → Option ℕ
time_by r x = then_some (says (taken_by x.row) r) x.time

says-true : (o : Option ℕ) (r : ℕ) → says o r ≡ true → o ≡ Some r
says-true None r h = absurd (cc)
says-true (Some q) r h = let e : q ≡ r = grind (arith, nat_tests) in ap (λ (n : ℕ). Some n) e

still : (q : ℕ) (o : Option ℕ) (xs : List ℕ) → contains q xs ≡ true → contains q (cons_option o xs) ≡ true
still q None xs h = h
still q (Some p) xs h = by (p == q)
  where
    by : (b : Bool) → (b || contains q xs) ≡ true
    by true = refl
    by false = h

-- who was taken in so long ago is among those whose timeout is over
over : (timeout t q : ℕ) (c : Trace) (d : ℕ) → last_of (filter_map (time_by q) c) ≡ Some d → d + timeout ≤ t → contains q (filter_map (due_by timeout t) c) ≡ true
over timeout t q [] d is h = absurd (cc)
over timeout t q (x ∷ xs) d is h = by (says (taken_by x.row) q) refl (last_of (filter_map (time_by q) xs)) refl is (over timeout t q xs)
  where
    by : (b : Bool) → says (taken_by x.row) q ≡ b → (o : Option ℕ) → last_of (filter_map (time_by q) xs) ≡ o
        → last_of (cons_option (then_some b x.time) (filter_map (time_by q) xs)) ≡ Some d
        → ((d : ℕ) → last_of (filter_map (time_by q) xs) ≡ Some d → d + timeout ≤ t → contains q (filter_map (due_by timeout t) xs) ≡ true)
        → contains q (cons_option (due_by timeout t x) (filter_map (due_by timeout t) xs)) ≡ true
    by true said (Some f) later is more =
        let same : f ≡ d = (let e : Some f ≡ Some d = rw later at is in cc) in
        still q (due_by timeout t x) (filter_map (due_by timeout t) xs) (more f later (omega arith))
    by false said (Some f) later is more = still q (due_by timeout t x) (filter_map (due_by timeout t) xs) (more d is h)
    by false said None later is more = absurd (cc)
    by true said None later is more =
        let same : x.time ≡ d = (let e : Some x.time ≡ Some d = rw later at is in cc) in
        let late : nat_le (x.time + timeout) t ≡ true = grind (arith, nat_tests) in
        let taken : taken_by x.row ≡ Some q = says-true (taken_by x.row) q said in
        rw (late, taken) (here (q == q) (grind (arith, nat_tests)))
      where
        here : (b : Bool) → b ≡ true → (b || contains q (filter_map (due_by timeout t) xs)) ≡ true
        here true e = refl
        here false e = absurd (cc)

said_once : (q : ℕ) (c : Trace) → last_of (filter_map (time_by q) c) ≡ None → contains q (each_row taken_by c) ≡ false
said_once q [] h = refl
said_once q (x ∷ xs) h = by (taken_by x.row) h (said_once q xs)
  where
    by : (o : Option ℕ) → last_of (cons_option (then_some (says o q) x.time) (filter_map (time_by q) xs)) ≡ None
        → (last_of (filter_map (time_by q) xs) ≡ None → contains q (each_row taken_by xs) ≡ false) → contains q (cons_option o (each_row taken_by xs)) ≡ false
    by None h more = more h
    by (Some p) h more = test (p == q) h
      where
        test : (b : Bool) → last_of (cons_option (then_some b x.time) (filter_map (time_by q) xs)) ≡ None → (b || contains q (each_row taken_by xs)) ≡ false
        test true h = absurd (cc)
        test false h = more h

-- ---- nobody waits whose timeout is over

record IsInTime (s : Spec) (t : ℕ) (c : Trace) : Type 0 where
  nobody : (r : ℕ) → contains r (filter_map (due_by s.timeout_ms t) c) ≡ true → has_not_begun c r ≡ false

contains-append : (f : Row → Option ℕ) (r : ℕ) (c xs : Trace) → contains r (each_row f (c ++ xs)) ≡ (contains r (each_row f c) || contains r (each_row f xs))
contains-append f r c xs =
    rw (filter_map-append (λ (e : Entry). f e.row) c xs, list_any-append (λ y. y == r) (each_row f c) (each_row f xs)) refl

stays_false : (a b d a2 b2 d2 : Bool) → (not (a || b) && not d) ≡ false → (not ((a || a2) || (b || b2)) && not (d || d2)) ≡ false
stays_false true b d a2 b2 d2 h = refl
stays_false false true d true b2 d2 h = refl
stays_false false true d false b2 d2 h = refl
stays_false false false true true b2 d2 h = refl
stays_false false false true false true d2 h = refl
stays_false false false true false false d2 h = refl
stays_false false false false a2 b2 d2 h = absurd (cc)

ends_false : (a b d : Bool) → (not (a || b) && not (d || true)) ≡ false
ends_false true b d = refl
ends_false false true d = refl
ends_false false false true = refl
ends_false false false false = refl

begun_stays : (r : ℕ) (c xs : Trace) → has_not_begun c r ≡ false → has_not_begun (c ++ xs) r ≡ false
unfolding has_not_begun has_begun assigned has_run ended
begun_stays r c xs h =
    rw (contains-append assigned_by r c xs, contains-append run_by r c xs, contains-append ended_by r c xs)
    (stays_false (contains r (each_row assigned_by c)) (contains r (each_row run_by c)) (contains r (each_row ended_by c)) (contains r (each_row assigned_by xs)) (contains r (each_row run_by xs)) (contains r (each_row ended_by xs)) h)

ends_here : (r : ℕ) (c xs : Trace) → contains r (each_row ended_by xs) ≡ true → has_not_begun (c ++ xs) r ≡ false
unfolding has_not_begun has_begun assigned has_run ended
ends_here r c xs h =
    rw (contains-append ended_by r c xs, h) (ends_false (contains r (each_row assigned_by (c ++ xs))) (contains r (each_row run_by (c ++ xs))) (contains r (each_row ended_by c)))

due_before : (timeout t r : ℕ) (c xs : Trace) → filter_map (due_by timeout t) xs ≡ [] → contains r (filter_map (due_by timeout t) (c ++ xs)) ≡ true → contains r (filter_map (due_by timeout t) c) ≡ true
due_before timeout t r c xs none h =
    ap (λ (l : List ℕ). contains r l) (sym (filter_map-append (due_by timeout t) c xs ∙ ap (λ (l : List ℕ). filter_map (due_by timeout t) c ++ l) none ∙ append-nil (filter_map (due_by timeout t) c))) ∙ h

-- rows that take in nobody whose timeout is over
stays_in_time : (s : Spec) (t : ℕ) (c xs : Trace) → filter_map (due_by s.timeout_ms t) xs ≡ [] → IsInTime s t c → IsInTime s t (c ++ xs)
stays_in_time s t c xs none held = record { nobody = λ r h. begun_stays r c xs (held.nobody r (due_before s.timeout_ms t r c xs none h)) }

none_due : (timeout t : ℕ) (xs : Trace) → 0 < timeout → EachAt t xs → filter_map (due_by timeout t) xs ≡ []
none_due timeout t [] some at = refl
none_due timeout t (x ∷ xs) some at =
    let now : x.time ≡ t = at.0 in
    let early : nat_le (x.time + timeout) t ≡ false = grind (arith, nat_tests) in
    rw early (none_due timeout t xs some at.1)

expire_ends : (t : ℕ) (rs : List ℕ) → each_row ended_by (map (λ r. entry t (row.Expire r)) rs) ≡ rs
expire_ends t [] = refl
expire_ends t (r ∷ rs) = ap (λ (l : List ℕ). r ∷ l) (expire_ends t rs)

expire_takes : (timeout t u : ℕ) (rs : List ℕ) → filter_map (due_by timeout t) (map (λ r. entry u (row.Expire r)) rs) ≡ []
expire_takes timeout t u [] = refl
expire_takes timeout t u (r ∷ rs) = by (nat_le (u + timeout) t) (expire_takes timeout t u rs)
  where
    by : (b : Bool) → filter_map (due_by timeout t) (map (λ r. entry u (row.Expire r)) rs) ≡ [] → cons_option (if b then None else None) (filter_map (due_by timeout t) (map (λ r. entry u (row.Expire r)) rs)) ≡ []
    by true h = h
    by false h = h

module _ (facts : Facts) where
  open facts use {lists.{in_filter}, members.{held_member, queued_member, moved_taken}, kinds.{admitted_taken, brought_moved, within-from}, lists.{first_member}, proper.{made_at, made_kept, made_react}}

  expired_in_time : (s : Spec) (t : ℕ) (c : Trace) → IsInTime s t (c ++ expiries s t c)
  unfolding expiries due
  expired_in_time s t c = record { nobody = λ r h. by r (due_before s.timeout_ms t r c (expiries s t c) (expire_takes s.timeout_ms t t (due s t c)) h) (has_not_begun c r) refl }
    where
      by : (r : ℕ) → contains r (filter_map (due_by s.timeout_ms t) c) ≡ true → (b : Bool) → has_not_begun c r ≡ b → has_not_begun (c ++ expiries s t c) r ≡ false
      by r h false old = begun_stays r c (expiries s t c) old
      by r h true old =
          ends_here r c (expiries s t c) (ap (λ (l : List ℕ). contains r l) (expire_ends t (due s t c)) ∙ in_filter (has_not_begun c) r (filter_map (due_by s.timeout_ms t) c) h old)

  -- who waits had not waited too long
  not_due : (s : Spec) (t : ℕ) (c : Trace) (r : ℕ) → IsInTime s t c → has_not_begun c r ≡ true → contains r (each_row taken_by c) ≡ true → t < arrived_at c r + s.timeout_ms
  unfolding time_of
  not_due s t c r held waits taken = by (last_of (filter_map (time_by r) c)) refl (nat_le (unwrap_or (last_of (filter_map (time_by r) c)) 0 + s.timeout_ms) t) refl
    where
      differ : false ≡ true → ⊥
      differ h = cc

      by : (o : Option ℕ) → last_of (filter_map (time_by r) c) ≡ o → (b : Bool) → nat_le (unwrap_or (last_of (filter_map (time_by r) c)) 0 + s.timeout_ms) t ≡ b
          → t < unwrap_or (last_of (filter_map (time_by r) c)) 0 + s.timeout_ms
      by o is false le = grind (arith, nat_tests)
      by None is true le = absurd (differ (sym (said_once r c is) ∙ taken))
      by (Some d) is true le =
          let le2 : nat_le (d + s.timeout_ms) t ≡ true = rw is at le in
          let late : d + s.timeout_ms ≤ t = grind (arith, nat_tests) in
          absurd (differ (sym (held.nobody r (over s.timeout_ms t r c d is late)) ∙ waits))

  -- ---- who begins

  -- it was taken in, and neither began nor ended
  pub record IsWaiting (c : Trace) (r : ℕ) : Type 0 where
    pub taken : contains r (each_row taken_by c) ≡ true
    pub waits : has_not_begun c r ≡ true
    pub ended : ended c r ≡ false

  idle_waits : (c : Trace) (r : ℕ) → contains r (each_row taken_by c) ≡ true → assigned c r ≡ false → has_run c r ≡ false → ended c r ≡ false → IsWaiting c r
  unfolding has_not_begun has_begun
  idle_waits c r taken a b d = record { taken = taken; waits = rw (a, b, d) refl; ended = d }

  held_has_not_run : (c : Trace) (r : ℕ) → IsNumbered c → contains r (each_row admitted_by c) ≡ true → (b : Bool) → has_run c r ≡ b → has_run c r ≡ false
  held_has_not_run c r numbered admitted false is = is
  held_has_not_run c r numbered admitted true is =
      let direct = numbered.direct r (numbered.ran r is) in
      absurd (cc)

  pub begins_waiting : (s : Spec) (c : Trace) (x : Row) (r : ℕ) → IsMade s c → IsProper s c x → begun_by x ≡ Some r → IsWaiting c r
  begins_waiting s c (row.Assign q p) r made proper is =
      let same : q ≡ r = cc in
      let held = held_member c q (first_member q (held c) proper.first) in
      let numbered = (made_kept s c made).requests in
      subst (IsWaiting c) same
      (idle_waits c q (within-from admitted_by taken_by admitted_taken q c held.admitted) held.assigned (held_has_not_run c q numbered held.admitted (has_run c q) refl) held.ended)
  begins_waiting s c (row.Run q) r made (p, runs) is =
      let same : q ≡ r = cc in
      let queued = queued_member c p q (first_member q (queued_at c p) runs.first) in
      let numbered = (made_kept s c made).requests in
      subst (IsWaiting c) same
      (idle_waits c q (moved_taken c q numbered (within-from (brought_to p) moved_by (brought_moved p) q c queued.0)) queued.1.assigned queued.1.run queued.1.ended)
  begins_waiting s c _ r made proper is = absurd (cc)

  module _ (parts : PartFacts) where
    open parts use {rows.{expiries-rows, react-at}}

    -- the rows behind the expiries
    later_rows : Spec → Trace → Event → Trace
    later_rows s c e =
        let gone = departures s c e in
        let did = act_rows s e.time (c ++ gone) e.act in
        losses e.time (c ++ expiries s e.time c) e.act ++ (did ++ (activation e.time ((c ++ gone) ++ did) ++ settling s e.time (c ++ before_settling s c e)))

    in_parts : (s : Spec) (c : Trace) (e : Event) → react s c e ≡ expiries s e.time c ++ later_rows s c e
    unfolding react before_settling departures later_rows
    in_parts s c e = simp append_assoc

    time_at : (t : ℕ) (xs ys : Trace) (x : Entry) → EachAt t (xs ++ x ∷ ys) → x.time ≡ t
    time_at t [] ys x h = h.0
    time_at t (z ∷ zs) ys x h = time_at t zs ys x h.1

    pub begins_in_time : (s : Spec) (c : Trace) (e : Event) → 0 < s.timeout_ms → IsMade s c → BeginInTime s c e
    begins_in_time s c e some made before rest x r is begins =
        let t = e.time in
        let gone = expiries s t c in
        let cut = behind gone (later_rows s c e) before rest x r (expiries-rows s t c) (sym (in_parts s c e) ∙ is) begins in
        let at : EachAt t (before ++ x ∷ rest) = subst (EachAt t) is (react-at s c e) in
        let at_mid : EachAt t cut.0 = at_back t gone cut.0 (subst (EachAt t) cut.1 (at_front t before (x ∷ rest) at)) in
        let here : (c ++ gone) ++ cut.0 ≡ c ++ before = append_assoc c gone cut.0 ∙ ap (λ (l : Trace). c ++ l) (sym cut.1) in
        let held : IsInTime s t (c ++ before) = subst (IsInTime s t) here (stays_in_time s t (c ++ gone) cut.0 (none_due s.timeout_ms t cut.0 some at_mid) (expired_in_time s t c)) in
        let whole : c ++ react s c e ≡ (c ++ before) ++ x ∷ rest = ap (λ (l : Trace). c ++ l) is ∙ sym (append_assoc c before (x ∷ rest)) in
        let there = made_at s (c ++ react s c e) (c ++ before) x rest (made_react s c e made) whole in
        let w = begins_waiting s (c ++ before) x.row r there.0 there.1 begins in
        omega (arith, time_at t before rest x at, not_due s t (c ++ before) r held w.waits w.taken)
