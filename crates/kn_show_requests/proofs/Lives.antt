-- The lines of the live requests, by number.
use Rattle.std.proofs.Common.{◌≡◌, refl, sym, ap, ◌∙◌, ℕ, zero, suc, ◌+◌, ◌-◌, ◌<◌, ◌≤◌, Bool, true, false, cond, List, [], ◌∷◌, ◌++◌, append_assoc, append-nil, arith, Option, Some, None}
use Rattle.std.specs.Prelude.{option_map}
use Rattle.std.specs.List.{filter, flat_map, range_with_len}
use Rattle.std.proofs.lemmas.List.Concat.{flat_map-append}
use Rattle.std.proofs.lemmas.List.Elements.{filter-append}
use Rattle.kn_event.specs.declared.event.Event.{Event}
use Rattle.kn_event.specs.Lists.{contains}
use Rattle.kn_trace.specs.Trace.{Trace, arrivals, live}
use Rattle.kn_lives.specs.declared.lives.Life.{Life}
use Rattle.kn_lives.specs.Lives.{AreLives, life_at, life_in, life_of}
use Rattle.kn_show_requests.specs.Requests.{live_below, live_text, live_told}
use Rattle.kn_show_requests.specs.Texts.{line_where}

range_more : (a n : ℕ) → range_with_len a (n + 1) ≡ range_with_len a n ++ (a + n) ∷ []
range_more a zero = let e : a ≡ a + 0 = omega arith in ap (λ k. k ∷ []) e
range_more a (suc n) =
    let e : suc n + 1 ≡ suc (n + 1) = omega arith in
    let k : (a + 1) + n ≡ a + suc n = omega arith in
    ap (λ m. range_with_len a m) e ∙ ap (λ (l : List ℕ). a ∷ l) (range_more (a + 1) n ∙ ap (λ m. range_with_len (a + 1) n ++ m ∷ []) k)

pub live_nothing : (es : List Event) (c : Trace) → live_below es c 0 ≡ []
unfolding live_below
live_nothing es c = refl

-- what is told of a number by a table of lives
live_same : (es : List Event) (c : Trace) (l : List (ℕ × Life)) (r : ℕ) → AreLives l es c → line_where (option_map (live_told r) (life_at l r)) ≡ cond (contains r (live c)) (live_text es c r) []
unfolding life_of live_text
live_same es c l r are = ap (λ (o : Option Life). line_where (option_map (live_told r) o)) (are.each r) ∙ by (contains r (live c))
  where
    by : (b : Bool) → line_where (option_map (live_told r) (cond b (Some (life_in es c r)) None)) ≡ cond b (live_text es c r) []
    by true = refl
    by false = refl

-- one more number
live_step : (es : List Event) (c : Trace) (r : ℕ) → live_below es c (r + 1) ≡ live_below es c r ++ cond (contains r (live c)) (live_text es c r) []
unfolding live_below
live_step es c r =
    let is : ℕ → Bool = λ q. contains q (live c) in
    let f : ℕ → List ℕ = live_text es c in
    let range : range_with_len 0 (r + 1) ≡ range_with_len 0 r ++ r ∷ [] = range_more 0 r ∙ ap (λ k. range_with_len 0 r ++ k ∷ []) (zero_plus r) in
    ap (λ (m : List ℕ). flat_map f (filter is m)) range
    ∙ ap (λ (m : List ℕ). flat_map f m) (filter-append is (range_with_len 0 r) (r ∷ []))
    ∙ flat_map-append f (filter is (range_with_len 0 r)) (filter is (r ∷ []))
    ∙ ap (λ (m : List ℕ). flat_map f (filter is (range_with_len 0 r)) ++ m) (one r (is r))
  where
    zero_plus : (r : ℕ) → 0 + r ≡ r
    zero_plus r = omega arith

    one : (r : ℕ) (b : Bool) → flat_map (live_text es c) (cond b (r ∷ []) []) ≡ cond b (live_text es c r) []
    one r true = append-nil (live_text es c r)
    one r false = refl

pub live_more : (es : List Event) (c : Trace) (l : List (ℕ × Life)) (r : ℕ) → AreLives l es c → live_below es c r ++ line_where (option_map (live_told r) (life_at l r)) ≡ live_below es c (r + 1)
live_more es c l r are = ap (λ (m : List ℕ). live_below es c r ++ m) (live_same es c l r are) ∙ sym (live_step es c r)

-- those below a later number begin with those below an earlier one
live_from : (es : List Event) (c : Trace) (n m : ℕ) → (rest : List ℕ) × (live_below es c (n + m) ≡ live_below es c n ++ rest)
live_from es c n zero = let e : n + 0 ≡ n = omega arith in ([], ap (λ k. live_below es c k) e ∙ sym (append-nil (live_below es c n)))
live_from es c n (suc m) =
    let e : n + suc m ≡ (n + m) + 1 = omega arith in
    let before = live_from es c n m in
    let last = cond (contains (n + m) (live c)) (live_text es c (n + m)) [] in
    (before.0 ++ last, ap (λ k. live_below es c k) e ∙ live_step es c (n + m) ∙ ap (λ (l : List ℕ). l ++ last) before.1 ∙ append_assoc (live_below es c n) before.0 last)

pub live_around : (es : List Event) (c : Trace) (l : List (ℕ × Life)) (r n : ℕ) → r < n → AreLives l es c
    → (rest : List ℕ) × (live_below es c r ++ (line_where (option_map (live_told r) (life_at l r)) ++ rest) ≡ live_below es c n)
live_around es c l r n less are =
    let e : (r + 1) + (n - (r + 1)) ≡ n = omega arith in
    let more = live_from es c (r + 1) (n - (r + 1)) in
    let text = line_where (option_map (live_told r) (life_at l r)) in
    (more.0, sym (append_assoc (live_below es c r) text more.0) ∙ ap (λ (m : List ℕ). m ++ more.0) (live_more es c l r are) ∙ sym more.1 ∙ ap (λ k. live_below es c k) e)

-- the numbers from one up to another that nobody who is live has
live_gap : (es : List Event) (c : Trace) (n m : ℕ) → ((q : ℕ) → n ≤ q → q < n + m → contains q (live c) ≡ false) → live_below es c (n + m) ≡ live_below es c n
live_gap es c n zero none = let e : n + 0 ≡ n = omega arith in ap (λ k. live_below es c k) e
live_gap es c n (suc m) none =
    let e : n + suc m ≡ (n + m) + 1 = omega arith in
    ap (λ k. live_below es c k) e
    ∙ live_step es c (n + m)
    ∙ ap (λ (b : Bool). live_below es c (n + m) ++ cond b (live_text es c (n + m)) []) (none (n + m) (omega arith) (omega arith))
    ∙ append-nil (live_below es c (n + m))
    ∙ live_gap es c n m (λ q high low. none q high (omega (arith, low)))

-- all who are live have come
pub live_all : (es : List Event) (c : Trace) (n : ℕ) → ((q : ℕ) → contains q (live c) ≡ true → q < arrivals c) → arrivals c ≤ n → live_below es c n ≡ live_below es c (arrivals c)
live_all es c n come le =
    let e : n ≡ arrivals c + (n - arrivals c) = omega arith in
    ap (λ k. live_below es c k) e ∙ live_gap es c (arrivals c) (n - arrivals c) (λ q high low. by q high (contains q (live c)) refl)
  where
    by : (q : ℕ) → arrivals c ≤ q → (b : Bool) → contains q (live c) ≡ b → b ≡ false
    by q high true is = absurd (let low = come q is in omega arith)
    by q high false is = refl

-- who has no life in a table isn't live
not_live : (es : List Event) (c : Trace) (l : List (ℕ × Life)) (q : ℕ) → AreLives l es c → life_at l q ≡ None → contains q (live c) ≡ false
unfolding life_of
not_live es c l q are none = by (contains q (live c)) (sym (are.each q) ∙ none)
  where
    by : (b : Bool) → cond b (Some (life_in es c q)) None ≡ None → b ≡ false
    by true some = absurd (cc)
    by false is = refl

-- nobody is below the least number
pub live_first : (es : List Event) (c : Trace) (l : List (ℕ × Life)) (first least : ℕ) → AreLives l es c → ((q : ℕ) → q < least → life_at l q ≡ None)
    → first ≤ least → live_below es c first ≡ []
live_first es c l first least are none low =
    let e : first ≡ 0 + first = omega arith in
    ap (λ k. live_below es c k) e ∙ live_gap es c 0 first (λ q high below. not_live es c l q are (none q (omega (arith, low, below)))) ∙ live_nothing es c

-- nor above the greatest
pub live_last : (es : List Event) (c : Trace) (l : List (ℕ × Life)) (end below greatest : ℕ) → AreLives l es c → ((q : ℕ) → greatest < q → life_at l q ≡ None)
    → end ≤ below → (end < below → greatest < end) → live_below es c end ≡ live_below es c below
live_last es c l end below greatest are none le past =
    let e : below ≡ end + (below - end) = omega (arith, le) in
    sym (ap (λ k. live_below es c k) e ∙ live_gap es c end (below - end) (λ q high low. not_live es c l q are (none q (omega (arith, high, low, le, past)))))
