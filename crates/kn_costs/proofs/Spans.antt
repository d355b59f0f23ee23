-- Spans from one row to another: what time and one row more change of them.
use Rattle.std.proofs.Common.{◌≡◌, ℕ, ◌+◌, ◌*◌, ◌-◌, ◌≤◌, Bool, true, false, not, cond, ◌||◌, List, [], ◌∷◌, ◌++◌, length, refl, sym, ap, ◌∙◌, arith}
use Rattle.std.specs.Prelude.{Option, None, Some, ◌==◌, is_some, unwrap_or}
use Rattle.std.specs.Bool.{then_some}
use Rattle.std.specs.List.{All, cons_option, filter, filter_map, sum_by}
use Rattle.std.proofs.lemmas.Bool.Decides.{nat_tests}
use Rattle.std.proofs.lemmas.List.Elements.{All-head, All-push, All-tail, filter_map-append}
use Rattle.std.proofs.lemmas.List.Sums.{sum_by-append, sum_by-cons}
use Rattle.kn_event.specs.declared.entry.Entry.{Entry}
use Rattle.kn_event.specs.declared.entry.Row.{Row}
use Rattle.kn_event.specs.Lists.{contains, or_else}
use Rattle.kn_trace.specs.Trace.{Trace, each_row, first_of}
use Rattle.kn_record.specs.Rows.{says}
use Rattle.kn_costs.specs.Sums.{first_time, span, spans}

-- ---- the first time

first_of-append : (xs ys : List ℕ) → first_of (xs ++ ys) ≡ or_else (first_of xs) (first_of ys)
first_of-append [] ys = refl
first_of-append (x ∷ xs) ys = refl

first_of-one : (o : Option ℕ) → first_of (cons_option o []) ≡ o
first_of-one None = refl
first_of-one (Some x) = refl

abbrev time_by : (Row → Option ℕ) → ℕ → Entry → Option ℕ
time_by said n x = then_some (says (said x.row) n) x.time

first_time-push : (said : Row → Option ℕ) (c : Trace) (x : Entry) (n : ℕ) → first_time said (c ++ x ∷ []) n ≡ or_else (first_time said c n) (then_some (says (said x.row) n) x.time)
first_time-push said c x n =
    ap first_of (filter_map-append (time_by said n) c (x ∷ [])) ∙ first_of-append (filter_map (time_by said n) c) (cons_option (time_by said n x) [])
    ∙ ap (or_else (first_time said c n)) (first_of-one (time_by said n x))

-- there is one where a row says so
is_known : (said : Row → Option ℕ) (c : Trace) (n : ℕ) → contains n (each_row said c) ≡ is_some (first_time said c n)
is_known said [] n = refl
is_known said (x ∷ c) n = by (said x.row) (is_known said c n)
  where
    by : (o : Option ℕ) → contains n (each_row said c) ≡ is_some (first_of (filter_map (time_by said n) c))
        → contains n (cons_option o (each_row said c)) ≡ is_some (first_of (cons_option (then_some (says o n) x.time) (filter_map (time_by said n) c)))
    by None h = h
    by (Some q) h = test (q == n)
      where
        test : (b : Bool) → (b || contains n (each_row said c)) ≡ is_some (first_of (cons_option (then_some b x.time) (filter_map (time_by said n) c)))
        test true = refl
        test false = h

abbrev IsBy : ℕ → Entry → Type 0
IsBy t x = x.time ≤ t

-- it isn't late
first_time-le : (said : Row → Option ℕ) (c : Trace) (n t d : ℕ) → All (IsBy t) c → d ≤ t → unwrap_or (first_time said c n) d ≤ t
first_time-le said [] n t d all h = h
first_time-le said (x ∷ c) n t d all h = by (says (said x.row) n) (first_time-le said c n t d (All-tail (IsBy t) x c all) h)
  where
    by : (b : Bool) → unwrap_or (first_of (filter_map (time_by said n) c)) d ≤ t → unwrap_or (first_of (cons_option (then_some b x.time) (filter_map (time_by said n) c))) d ≤ t
    by true rest = All-head (IsBy t) x c all
    by false rest = rest

-- ---- sums over lists

pub sum_members : (f g : ℕ → ℕ) (xs : List ℕ) → ((n : ℕ) → contains n xs ≡ true → f n ≡ g n) → sum_by f xs ≡ sum_by g xs
sum_members f g [] same = refl
sum_members f g (x ∷ xs) same =
    omega (
      arith,
      sum_by-cons f x xs,
      sum_by-cons g x xs,
      same x (here (x == x) (grind (arith, nat_tests))),
      sum_members f g xs (λ n h. same n (there (x == n) n h)),
    )
  where
    here : (b : Bool) → b ≡ true → (b || contains x xs) ≡ true
    here true e = refl
    here false e = absurd (cc)

    there : (b : Bool) (n : ℕ) → contains n xs ≡ true → (b || contains n xs) ≡ true
    there true n h = refl
    there false n h = h

sum_more : (f : ℕ → ℕ) (p : ℕ → Bool) (d : ℕ) (xs : List ℕ) → sum_by (λ n. f n + cond (p n) 1 0 * d) xs ≡ sum_by f xs + length (filter p xs) * d
sum_more f p d [] = omega arith
sum_more f p d (x ∷ xs) = by (p x) (sum_by-cons (λ (n : ℕ). f n + cond (p n) 1 0 * d) x xs) (sum_more f p d xs)
  where
    by : (b : Bool) {whole rest : ℕ} → whole ≡ (f x + cond b 1 0 * d) + rest → rest ≡ sum_by f xs + length (filter p xs) * d
        → whole ≡ sum_by f (x ∷ xs) + length (cond b (x ∷ filter p xs) (filter p xs)) * d
    by true e h = omega (arith, sum_by-cons f x xs)
    by false e h = omega (arith, sum_by-cons f x xs)

-- ---- spans

module _ (begins ends : Row → Option ℕ) where
  -- what has not ended yet
  abbrev pub is_open : Trace → ℕ → Bool
  is_open c n = not (contains n (each_row ends c))

  -- time goes on
  span-later : (c : Trace) (t u n : ℕ) → All (IsBy t) c → t ≤ u → span begins ends u c n ≡ span begins ends t c n + cond (is_open c n) 1 0 * (u - t)
  span-later c t u n all order =
      by (first_time ends c n) (contains n (each_row ends c)) (is_known ends c n) (unwrap_or (first_time begins c n) 0) (first_time-le begins c n t 0 all (omega arith))
    where
      by : (o : Option ℕ) (b : Bool) → b ≡ is_some o → (s : ℕ) → s ≤ t → unwrap_or o u - s ≡ unwrap_or o t - s + cond (not b) 1 0 * (u - t)
      by None true e s h = absurd (cc)
      by None false e s h = omega arith
      by (Some d) true e s h = omega arith
      by (Some d) false e s h = absurd (cc)

  pub spans-later : (c : Trace) (t u : ℕ) → All (IsBy t) c → t ≤ u → spans begins ends u c ≡ spans begins ends t c + length (filter (is_open c) (each_row begins c)) * (u - t)
  unfolding spans
  spans-later c t u all order =
      sum_members (span begins ends u c) (λ n. span begins ends t c n + cond (is_open c n) 1 0 * (u - t)) (each_row begins c) (λ n h. span-later c t u n all order)
      ∙ sum_more (span begins ends t c) (is_open c) (u - t) (each_row begins c)

  -- a row of that time
  span-row : (c : Trace) (x : Entry) (n : ℕ) → contains n (each_row begins c) ≡ true → span begins ends x.time (c ++ x ∷ []) n ≡ span begins ends x.time c n
  span-row c x n member =
      rw (first_time-push ends c x n, first_time-push begins c x n)
      (by (first_time ends c n) (first_time begins c n) (says (ends x.row) n) (then_some (says (begins x.row) n) x.time) (sym (is_known begins c n) ∙ member))
    where
      by : (o p : Option ℕ) (b : Bool) (q : Option ℕ) → is_some p ≡ true
          → unwrap_or (or_else o (then_some b x.time)) x.time - unwrap_or (or_else p q) 0 ≡ unwrap_or o x.time - unwrap_or p 0
      by o None b q h = absurd (cc)
      by (Some d) (Some s) b q h = refl
      by None (Some s) true q h = refl
      by None (Some s) false q h = refl

  span-new : (c : Trace) (x : Entry) (n : ℕ) → All (IsBy x.time) c → begins x.row ≡ Some n → contains n (each_row begins c) ≡ false → span begins ends x.time (c ++ x ∷ []) n ≡ 0
  span-new c x n all is new =
      let ended = first_time-le ends (c ++ x ∷ []) n x.time x.time (All-push (IsBy x.time) c x all (omega arith)) (omega arith) in
      let says_it : says (begins x.row) n ≡ true = rw is (grind (arith, nat_tests)) in
      let started : unwrap_or (first_time begins (c ++ x ∷ []) n) 0 ≡ x.time =
      ap (λ (o : Option ℕ). unwrap_or o 0) (first_time-push begins c x n) ∙ by (first_time begins c n) (says (begins x.row) n) (sym (is_known begins c n) ∙ new) says_it in
      omega arith
    where
      by : (o : Option ℕ) (b : Bool) → is_some o ≡ false → b ≡ true → unwrap_or (or_else o (then_some b x.time)) 0 ≡ x.time
      by (Some d) b h e = absurd (cc)
      by None true h e = refl
      by None false h e = absurd (cc)

  pub spans-row : (c : Trace) (x : Entry) → All (IsBy x.time) c → ((n : ℕ) → begins x.row ≡ Some n → contains n (each_row begins c) ≡ false)
      → spans begins ends x.time (c ++ x ∷ []) ≡ spans begins ends x.time c
  unfolding spans
  spans-row c x all new =
      let f = span begins ends x.time (c ++ x ∷ []) in
      ap (sum_by f) (filter_map-append (λ (e : Entry). begins e.row) c (x ∷ [])) ∙ sum_by-append f (each_row begins c) (cons_option (begins x.row) [])
      ∙ omega (arith, sum_members f (span begins ends x.time c) (each_row begins c) (λ n h. span-row c x n h), by (begins x.row) refl)
    where
      by : (o : Option ℕ) → begins x.row ≡ o → sum_by (span begins ends x.time (c ++ x ∷ [])) (cons_option o []) ≡ 0
      by None is = refl
      by (Some n) is = omega (arith, span-new c x n all is (new n is), sum_by-cons (span begins ends x.time (c ++ x ∷ [])) n [])
