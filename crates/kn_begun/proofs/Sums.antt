-- Together those that ran had waited no longer than the most that may wait would all the time.
use Rattle.std.proofs.Common.{◌≡◌, ℕ, ◌+◌, ◌*◌, ◌-◌, ◌<◌, ◌≤◌, Bool, true, false, not, cond, ◌&&◌, ◌||◌, List, [], ◌∷◌, ◌++◌, length, refl, sym, ap, ◌∙◌, subst, arith, append-nil, append_assoc}
use Rattle.std.proofs.Math.Nat.{mul-le-mul_right}
use Rattle.std.specs.Prelude.{Option, None, Some, ◌==◌, unwrap_or}
use Rattle.std.specs.Bool.{then_some}
use Rattle.std.specs.List.{filter, filter_map, cons_option, sum, sum_by}
use Rattle.std.proofs.lemmas.Bool.Decides.{nat_tests}
use Rattle.std.proofs.lemmas.List.Elements.{filter-append, filter_map-append}
use Rattle.std.proofs.lemmas.List.Sums.{sum_by-append, sum_by-cons}
use Rattle.kn_event.specs.declared.entry.Entry.{Entry}
use Rattle.kn_event.specs.declared.event.Event.{Event}
use Rattle.kn_event.specs.declared.revision.Spec.{Spec}
use Rattle.kn_event.specs.Lists.{contains, or_else}
use Rattle.kn_trace.specs.Events.{added, opening, react, trace_of}
use Rattle.kn_trace.specs.Rows.{arrived_by, begun_by, taken_by}
use Rattle.kn_trace.specs.Trace.{Trace, arrivals, each_row, ended, has_begun, has_not_begun, last_of, live, waiting}
use Rattle.kn_record.specs.Facts.{Facts}
use Rattle.kn_record.specs.Made.{AreDistinct, IsMade, IsProper}
use Rattle.kn_record.specs.Rows.{says}
use Rattle.kn_record.specs.Views.{others}
use Rattle.kn_laws.specs.Facts.{PartFacts}
use Rattle.kn_laws.specs.History.{AreInOrder, GoesOn}
use Rattle.kn_laws.specs.Kinds.{EachAt}
use Rattle.kn_lives.specs.Lives.{arrived_at, time_of}
use Rattle.kn_begun.specs.Begun.{wait_by, waits}
use Rattle.kn_begun.proofs.Few.{AppendsRows, few_began, nobody_taken, still_waits, waits_no_more, waits-push}
use Rattle.kn_begun.proofs.InTime.{begins_waiting}

opened : (s : Spec) (start : ℕ) → trace_of s start [] ≡ opening s start
unfolding trace_of added
opened s start = append-nil (opening s start)

-- how long those who wait have waited at this time
abbrev over : Trace → ℕ → ℕ
over c t = sum_by (λ q. t - arrived_at c q) (waiting c)

abbrev total : Trace → ℕ → ℕ
total c t = sum (waits c) + over c t

-- ---- sums over lists of numbers

-- fewer that pass, each with no more
sum_less : (f g : ℕ → ℕ) (u t : ℕ → Bool) (xs : List ℕ) → ((q : ℕ) → contains q xs ≡ true → u q ≡ true → (t q ≡ true) × (f q ≤ g q))
    → sum_by f (filter u xs) ≤ sum_by g (filter t xs)
sum_less f g u t [] each = omega arith
sum_less f g u t (x ∷ xs) each = by (u x) refl (t x) refl (sum_less f g u t xs (λ q there. each q (later q (x == q) there)))
  where
    later : (q : ℕ) (b : Bool) → contains q xs ≡ true → (b || contains q xs) ≡ true
    later q true h = refl
    later q false h = h

    first : contains x (x ∷ xs) ≡ true
    first = here (x == x) (grind (arith, nat_tests))
      where
        here : (b : Bool) → b ≡ true → (b || contains x xs) ≡ true
        here true e = refl
        here false e = absurd (cc)

    by : (a : Bool) → u x ≡ a → (b : Bool) → t x ≡ b → sum_by f (filter u xs) ≤ sum_by g (filter t xs)
        → sum_by f (cond a (x ∷ filter u xs) (filter u xs)) ≤ sum_by g (cond b (x ∷ filter t xs) (filter t xs))
    by false off false other rest = rest
    by false off true is rest = omega (arith, rest, sum_by-cons g x (filter t xs))
    by true is false off rest = let both = each x first is in absurd (cc)
    by true is true on rest = let both = each x first is in omega (arith, rest, both.1, sum_by-cons f x (filter u xs), sum_by-cons g x (filter t xs))

sum_same : (f g : ℕ → ℕ) → ((q : ℕ) → f q ≡ g q) → (xs : List ℕ) → sum_by f xs ≡ sum_by g xs
sum_same f g same [] = refl
sum_same f g same (x ∷ xs) = omega (arith, sum_by-cons f x xs, sum_by-cons g x xs, same x, sum_same f g same xs)

-- each has so much more
sum_grows : (a : ℕ → ℕ) (t u : ℕ) → t ≤ u → (xs : List ℕ) → sum_by (λ q. u - a q) xs ≤ sum_by (λ q. t - a q) xs + length xs * (u - t)
sum_grows a t u le [] = omega arith
sum_grows a t u le (x ∷ xs) =
    omega (arith, sum_by-cons (λ (q : ℕ). u - a q) x xs, sum_by-cons (λ (q : ℕ). t - a q) x xs, sum_grows a t u le xs)

-- ---- tests of numbers

itself : (r : ℕ) → (r == r) ≡ true
itself r = grind (arith, nat_tests)

turned : (r w : ℕ) → (r == w) ≡ (w == r)
turned r w = grind (arith, nat_tests)

one_number : (w r : ℕ) → (w == r) ≡ true → w ≡ r
one_number w r h = grind (arith, nat_tests)

apart : (r q n : ℕ) → r ≡ n → q < n → (r == q) ≡ false
apart r q n is less = grind (arith, nat_tests)

-- ---- when a request was taken in, by one more entry

last_of-end : (xs : List ℕ) (o : Option ℕ) → last_of (xs ++ cons_option o []) ≡ or_else o (last_of xs)
last_of-end xs None = ap (λ (l : List ℕ). last_of l) (append-nil xs)
last_of-end xs (Some y) = by xs
  where
    by : (zs : List ℕ) → last_of (zs ++ y ∷ []) ≡ Some y
    by [] = refl
    by (z ∷ zs) = rw (by zs) refl

time_of-push : (c : Trace) (x : Entry) (r : ℕ) → time_of taken_by (c ++ x ∷ []) r ≡ or_else (then_some (says (taken_by x.row) r) x.time) (time_of taken_by c r)
unfolding time_of
time_of-push c x r =
    ap (λ (l : List ℕ). last_of l) (filter_map-append (λ (y : Entry). then_some (says (taken_by y.row) r) y.time) c (x ∷ []))
    ∙ last_of-end (filter_map (λ (y : Entry). then_some (says (taken_by y.row) r) y.time) c) (then_some (says (taken_by x.row) r) x.time)

arrival-same : (c : Trace) (x : Entry) (r : ℕ) → says (taken_by x.row) r ≡ false → arrived_at (c ++ x ∷ []) r ≡ arrived_at c r
arrival-same c x r other =
    let same : or_else (then_some (says (taken_by x.row) r) x.time) (time_of taken_by c r) ≡ time_of taken_by c r = rw other refl in
    ap (λ (o : Option ℕ). unwrap_or o 0) (time_of-push c x r ∙ same)

arrival-now : (c : Trace) (x : Entry) (r : ℕ) → taken_by x.row ≡ Some r → arrived_at (c ++ x ∷ []) r ≡ x.time
arrival-now c x r is =
    let same : or_else (then_some (says (taken_by x.row) r) x.time) (time_of taken_by c r) ≡ Some x.time = rw (is, itself r) refl in
    ap (λ (o : Option ℕ). unwrap_or o 0) (time_of-push c x r ∙ same)

module _ (append : AppendsRows) (facts : Facts) where
  open facts use {lists.{in_filter, filter-others, distinct-filter, length-filter-more}, members.{taken_comes}, entries.{view-less}, proper.{made_at, made_kept, made_more, made_react, made_trace, taken_next}}

  -- ---- one more row at this time

  take_out : (g : ℕ → ℕ) (r : ℕ) (ws : List ℕ) → AreDistinct ws → contains r ws ≡ true → sum_by g (others r ws) + g r ≡ sum_by g ws
  take_out g r [] d there = absurd (cc)
  take_out g r (w ∷ ws) d there = by (w == r) refl there (take_out g r ws d.1)
    where
      by : (b : Bool) → (w == r) ≡ b → (b || contains r ws) ≡ true → (contains r ws ≡ true → sum_by g (others r ws) + g r ≡ sum_by g ws)
          → sum_by g (others r (w ∷ ws)) + g r ≡ sum_by g (w ∷ ws)
      by true e h rest =
          let same = one_number w r e in
          let gone : others r ws ≡ ws = filter-others r ws (subst (λ (n : ℕ). contains n ws ≡ false) same d.0) in
          let out : others r (w ∷ ws) ≡ ws = rw (turned r w, e) gone in
          omega (arith, ap (sum_by g) out, sum_by-cons g w ws, ap g same)
      by false e h rest =
          let stays : others r (w ∷ ws) ≡ w ∷ others r ws = rw (turned r w, e) refl in
          omega (arith, ap (sum_by g) stays, sum_by-cons g w (others r ws), sum_by-cons g w ws, rest h)

  -- who begins had waited what is counted now
  begins : (s : Spec) (c : Trace) (x : Entry) (r : ℕ) → IsMade s c → IsProper s c x.row → begun_by x.row ≡ Some r → total (c ++ x ∷ []) x.time ≡ total c x.time
  unfolding waiting
  begins s c x r made proper is =
      let w = begins_waiting facts s c x.row r made proper is in
      let nobody = nobody_taken x.row r is in
      let before = filter (has_not_begun c) (each_row taken_by c) in
      let left = view-less taken_by (has_not_begun c) (has_not_begun (c ++ x ∷ [])) c x r nobody (waits_no_more append facts c x r is) in
      let same = sum_same (λ (q : ℕ). x.time - arrived_at (c ++ x ∷ []) q) (λ (q : ℕ). x.time - arrived_at c q) (λ q. ap (λ (n : ℕ). x.time - n) (arrival-same c x q (rw nobody refl))) (others r before) in
      let out = take_out (λ (q : ℕ). x.time - arrived_at c q) r before (distinct-filter (has_not_begun c) (each_row taken_by c) (made_kept s c made).requests.once) (in_filter (has_not_begun c) r (each_row taken_by c) w.taken w.waits) in
      let one : wait_by c x ≡ (x.time - arrived_at c r) ∷ [] = rw is refl in
      let counted = ap sum (waits-push append c x) ∙ sum_by-append (λ (n : ℕ). n) (waits c) (wait_by c x) ∙ ap (λ (l : List ℕ). sum (waits c) + sum l) one in
      omega (arith, counted, ap (sum_by (λ (q : ℕ). x.time - arrived_at (c ++ x ∷ []) q)) left, same, out)

  -- any other row lets nobody wait longer
  others_wait : (s : Spec) (c : Trace) (x : Entry) → IsMade s c → IsProper s c x.row → over (c ++ x ∷ []) x.time ≤ over c x.time
  unfolding waiting
  others_wait s c x made proper =
      let f : ℕ → ℕ = λ q. x.time - arrived_at (c ++ x ∷ []) q in
      let u = has_not_begun (c ++ x ∷ []) in
      let rows = filter_map-append (λ (e : Entry). taken_by e.row) c (x ∷ []) in
      let both = ap (filter u) rows ∙ filter-append u (each_row taken_by c) (cons_option (taken_by x.row) []) in
      omega (
        arith,
        ap (sum_by f) both ∙ sum_by-append f (filter u (each_row taken_by c)) (filter u (cons_option (taken_by x.row) [])),
        sum_less f (λ (q : ℕ). x.time - arrived_at c q) u (has_not_begun c) (each_row taken_by c) (λ q there passes. (still_waits append facts c x q passes, old q there)),
        new (taken_by x.row) refl,
      )
    where
      other : (q : ℕ) → contains q (each_row taken_by c) ≡ true → (o : Option ℕ) → taken_by x.row ≡ o → says o q ≡ false
      other q there None is = refl
      other q there (Some r) is =
          let next = taken_next s c x.row r proper is in
          let come = taken_comes c q (made_kept s c made).requests there in
          apart r q (arrivals c) next come

      old : (q : ℕ) → contains q (each_row taken_by c) ≡ true → x.time - arrived_at (c ++ x ∷ []) q ≤ x.time - arrived_at c q
      old q there = omega (arith, arrival-same c x q (other q there (taken_by x.row) refl))

      new : (o : Option ℕ) → taken_by x.row ≡ o → sum_by (λ q. x.time - arrived_at (c ++ x ∷ []) q) (filter (has_not_begun (c ++ x ∷ [])) (cons_option o [])) ≡ 0
      new None is = refl
      new (Some r) is = by (has_not_begun (c ++ x ∷ []) r)
        where
          by : (b : Bool) → sum_by (λ q. x.time - arrived_at (c ++ x ∷ []) q) (cond b (r ∷ []) []) ≡ 0
          by true = omega (arith, sum_by-cons (λ (q : ℕ). x.time - arrived_at (c ++ x ∷ []) q) r [], arrival-now c x r is)
          by false = refl

  one_row : (s : Spec) (c : Trace) (x : Entry) → IsMade s c → IsProper s c x.row → total (c ++ x ∷ []) x.time ≤ total c x.time
  one_row s c x made proper = by (begun_by x.row) refl
    where
      by : (o : Option ℕ) → begun_by x.row ≡ o → total (c ++ x ∷ []) x.time ≤ total c x.time
      by (Some r) is = omega (arith, begins s c x r made proper is)
      by None is =
          let none : wait_by c x ≡ [] = rw is refl in
          let same = ap sum (waits-push append c x ∙ ap (λ (l : List ℕ). waits c ++ l) none ∙ append-nil (waits c)) in
          omega (arith, same, others_wait s c x made proper)

  rows : (s : Spec) (t : ℕ) (c xs : Trace) → IsMade s (c ++ xs) → EachAt t xs → total (c ++ xs) t ≤ total c t
  rows s t c [] made at = omega (arith, ap (λ (d : Trace). total d t) (append-nil c))
  rows s t c (x ∷ xs) made at =
      let here = made_at s (c ++ x ∷ xs) c x xs made refl in
      let whole = append_assoc c (x ∷ []) xs in
      let one = subst (λ (n : ℕ). total (c ++ x ∷ []) n ≤ total c n) at.0 (one_row s c x here.0 here.1) in
      let more = rows s t (c ++ x ∷ []) xs (subst (IsMade s) (sym whole) made) at.1 in
      omega (arith, one, more, ap (λ (d : Trace). total d t) whole)

  -- ---- events

  few_wait : (c : Trace) → length (waiting c) ≤ length (live c)
  unfolding waiting live has_not_begun
  few_wait c = length-filter-more (has_not_begun c) (λ r. not (ended c r)) (λ q h. second (not (has_begun c q)) (not (ended c q)) h) (each_row taken_by c)
    where
      second : (a b : Bool) → (a && b) ≡ true → b ≡ true
      second true b h = h
      second false b h = absurd (cc)

  module _ (parts : PartFacts) where
    open parts use {rows.{opening_none, react-at}}

    event : (s : Spec) (c : Trace) (e : Event) (start t : ℕ) → IsMade s c → length (live c) ≤ 20000 → start ≤ t → t ≤ e.time → total c t ≤ 20000 * (t - start)
        → total (c ++ react s c e) e.time ≤ 20000 * (e.time - start)
    event s c e start t made few low order h =
        omega (
          arith,
          rows s e.time c (react s c e) (made_react s c e made) (react-at s c e),
          sum_grows (arrived_at c) t e.time order (waiting c),
          mul-le-mul_right (e.time - t) (let all : length (waiting c) ≤ 20000 = omega (arith, few_wait c, few) in all),
        )

    beginning : (s : Spec) (start t : ℕ) → length (waits (opening s start)) ≤ arrivals (opening s start) → total (opening s start) t ≡ 0
    unfolding arrivals waiting
    beginning s start t few =
        let none : waits (opening s start) ≡ [] = nothing (waits (opening s start)) (omega (arith, few, ap length (opening_none arrived_by (λ p n. refl) (λ x. refl) s start))) in
        let nobody : filter (has_not_begun (opening s start)) (each_row taken_by (opening s start)) ≡ [] = rw (opening_none taken_by (λ p n. refl) (λ x. refl) s start) refl in
        omega (arith, ap sum none, ap (sum_by (λ (q : ℕ). t - arrived_at (opening s start) q)) nobody)
      where
        nothing : (ws : List ℕ) → length ws ≤ 0 → ws ≡ []
        nothing [] h = refl
        nothing (w ∷ ws) h = absurd (omega arith)

    module _ (goes : (s : Spec) (start : ℕ) (es more : List Event) → GoesOn s start es more) where
      trace_next : (s : Spec) (start : ℕ) (es : List Event) (e : Event) → trace_of s start (es ++ e ∷ []) ≡ trace_of s start es ++ react s (trace_of s start es) e
      unfolding added
      trace_next s start es e = goes s start es (e ∷ []) ∙ ap (λ (l : Trace). trace_of s start es ++ l) (append-nil (react s (trace_of s start es) e))

      walk : (s : Spec) (start : ℕ) → ((es : List Event) → length (live (trace_of s start es)) ≤ 20000) → (done es : List Event) (t to : ℕ) → start ≤ t → AreInOrder t es to
          → total (trace_of s start done) t ≤ 20000 * (t - start) → sum (waits (trace_of s start (done ++ es))) ≤ 20000 * (to - start)
      walk s start few done [] t to low order h = omega (arith, h, order, ap (λ (l : List Event). sum (waits (trace_of s start l))) (append-nil done))
      walk s start few done (e ∷ es) t to low order h =
          let next = event s (trace_of s start done) e start t (made_trace s start done) (few done) low order.0 h in
          let here : total (trace_of s start (done ++ e ∷ [])) e.time ≤ 20000 * (e.time - start) = omega (arith, next, ap (λ (c : Trace). total c e.time) (trace_next s start done e)) in
          let rest = walk s start few (done ++ e ∷ []) es e.time to (omega (arith, low, order.0)) order.1 here in
          omega (arith, rest, ap (λ (l : List Event). sum (waits (trace_of s start l))) (append_assoc done (e ∷ []) es))

      pub sums_few : (s : Spec) (start to : ℕ) (es : List Event) → ((es : List Event) → length (live (trace_of s start es)) ≤ 20000) → AreInOrder start es to
          → sum (waits (trace_of s start es)) ≤ 20000 * (to - start)
      sums_few s start to es few order =
          let began = few_began append facts s (trace_of s start []) (made_trace s start []) in
          walk s start few [] es start to (omega arith) order (omega (arith, ap (λ (c : Trace). total c start) (opened s start), beginning s start start (subst (λ (c : Trace). length (waits c) ≤ arrivals c) (opened s start) began)))
