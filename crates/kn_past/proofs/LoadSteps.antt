-- The load of a second by one more entry: a start adds what lies in the second after it, and an end takes that.
use Rattle.std.proofs.Common.{◌≡◌, ℕ, ◌+◌, ◌-◌, ◌*◌, ◌≤◌, max, min, Bool, true, false, List, [], ◌∷◌, ◌++◌, refl, sym, ap, ◌∙◌, arith}
use Rattle.std.specs.Prelude.{Option, None, Some, ◌==◌}
use Rattle.std.specs.List.{cons_option, sum_by}
use Rattle.std.proofs.lemmas.List.Sums.{sum_by-cons}
use Rattle.std.proofs.lemmas.Bool.{eqb-true, or_parts, ne_eqb, eqb-false}
use Rattle.kn_event.specs.declared.entry.Entry.{Entry}
use Rattle.kn_event.specs.Lists.{contains}
use Rattle.kn_trace.specs.Rows.{taken_by}
use Rattle.kn_trace.specs.Trace.{Trace, each_row}
use Rattle.kn_trace.specs.Load.{end_of, end_within, load_in}
use Rattle.kn_record.specs.Made.{AreDistinct, IsNumbered}
use Rattle.kn_past.specs.Loads.{after_in}
use Rattle.kn_past.proofs.Adds.{adds, adds_of, load-push, load-sum}
use Rattle.kn_past.proofs.Ends.{end_of-none, end_of-other, end_of-own, end_of-quiet}
use Rattle.kn_past.proofs.Made.{AreUpTo}
use Rattle.kn_past.proofs.Sums.{sum-same}
use Rattle.kn_past.proofs.Turns.{IsEnd, IsQuiet, IsStart}

-- ---- where all ends stay

adds-same : (n : ℕ) (f g : ℕ → Option ℕ) → ((r : ℕ) → f r ≡ g r) → (e : Entry) → adds n f e ≡ adds n g e
adds-same n f g same e = by (taken_by e.row)
  where
    by : (o : Option ℕ) → adds_of n e.time f o ≡ adds_of n e.time g o
    by None = refl
    by (Some r) = ap (λ (u : Option ℕ). end_within (1000 * (n + 1)) u - max (1000 * n) e.time) (same r)

-- an entry that ends none adds what it adds
load-more : (n : ℕ) (c : Trace) (e : Entry) → ((r : ℕ) → end_of (c ++ e ∷ []) r ≡ end_of c r) → load_in (c ++ e ∷ []) n ≡ load_in c n + adds n (end_of (c ++ e ∷ [])) e
load-more n c e ends =
    let now = load-push n c e in
    let same = sum-same (adds n (end_of (c ++ e ∷ []))) (adds n (end_of c)) c (adds-same n (end_of (c ++ e ∷ [])) (end_of c) ends) in
    let was = load-sum n c in
    omega (arith, now, same, was)

none_taken : (n : ℕ) (ends : ℕ → Option ℕ) (e : Entry) → taken_by e.row ≡ None → adds n ends e ≡ 0
none_taken n ends e h = rw h refl

pub load-quiet : (n : ℕ) (c : Trace) (e : Entry) → IsQuiet c e.row → load_in (c ++ e ∷ []) n ≡ load_in c n
load-quiet n c e is =
    let now = load-more n c e (λ r. end_of-quiet c e r is.ends) in
    let none = none_taken n (end_of (c ++ e ∷ [])) e is.takes in
    omega (arith, now, none)

adds-start : (n : ℕ) (ends : ℕ → Option ℕ) (e : Entry) (r : ℕ) → taken_by e.row ≡ Some r → ends r ≡ None → adds n ends e ≡ after_in n e.time
adds-start n ends e r h none = rw (h, none) refl

pub load-start : (n : ℕ) (c : Trace) (e : Entry) (r : ℕ) → IsStart c e.row r → load_in (c ++ e ∷ []) n ≡ load_in c n + after_in n e.time
load-start n c e r is =
    let now = load-more n c e (λ r. end_of-quiet c e r is.ends) in
    let one = adds-start n (end_of (c ++ e ∷ [])) e r is.takes (end_of-quiet c e r is.ends ∙ end_of-none c r is.on) in
    omega (arith, now, one)

-- ---- the end of one request

-- ends that agree but for one request, which had none and has this one
record IsEndedAt (f g : ℕ → Option ℕ) (q t : ℕ) : Type 0 where
  pub before : f q ≡ None
  pub now : g q ≡ Some t
  pub others : (r : ℕ) → (q == r) ≡ false → g r ≡ f r

-- of a request with another number
other-adds : (n from : ℕ) (f g : ℕ → Option ℕ) (q t r : ℕ) → IsEndedAt f g q t → (q == r) ≡ false → adds_of n from g (Some r) ≡ adds_of n from f (Some r)
other-adds n from f g q t r is other = ap (λ (u : Option ℕ). end_within (1000 * (n + 1)) u - max (1000 * n) from) (is.others r other)

other-by : (n from : ℕ) (f g : ℕ → Option ℕ) (q t : ℕ) → IsEndedAt f g q t → (o : Option ℕ) (taken : List ℕ) (x y : ℕ) → (contains q taken ≡ false → x ≡ y)
    → contains q (cons_option o taken) ≡ false → adds_of n from g o + x ≡ adds_of n from f o + y
other-by n from f g q t is None taken x y more h = ap (λ m. 0 + m) (more h)
other-by n from f g q t is (Some r) taken x y more h =
    let both = or_parts (r == q) (contains q taken) h in
    let one = other-adds n from f g q t r is (ne_eqb q r (λ same. eqb-false r q both.0 (sym same))) in
    let two = more both.1 in
    omega (arith, one, two)

adds-other : (n : ℕ) (f g : ℕ → Option ℕ) (q t : ℕ) → IsEndedAt f g q t → (c : Trace) → contains q (each_row taken_by c) ≡ false → sum_by (adds n g) c ≡ sum_by (adds n f) c
adds-other n f g q t is [] h = refl
adds-other n f g q t is (e ∷ es) h =
    sum_by-cons (adds n g) e es
    ∙ other-by n e.time f g q t is (taken_by e.row) (each_row taken_by es) (sum_by (adds n g) es) (sum_by (adds n f) es) (adds-other n f g q t is es) h
    ∙ sym (sum_by-cons (adds n f) e es)

-- the span of one request is cut: what lies after the cut is what the load loses
cut : (a b from t : ℕ) → from ≤ t → a ≤ b → (min b t - max a from) + (b - max a t) ≡ b - max a from
cut a b from t h le = omega (arith, h, le)

own-adds : (n from : ℕ) (f g : ℕ → Option ℕ) (q t : ℕ) → IsEndedAt f g q t → from ≤ t → adds_of n from g (Some q) + after_in n t ≡ adds_of n from f (Some q)
own-adds n from f g q t is le =
    let one : end_within (1000 * (n + 1)) (g q) ≡ min (1000 * (n + 1)) t = ap (λ (u : Option ℕ). end_within (1000 * (n + 1)) u) (is.now) in
    let two : end_within (1000 * (n + 1)) (f q) ≡ 1000 * (n + 1) = ap (λ (u : Option ℕ). end_within (1000 * (n + 1)) u) (is.before) in
    let c = cut (1000 * n) (1000 * (n + 1)) from t le (omega arith) in
    omega (arith, one, two, c)

ended-by : (n from : ℕ) (f g : ℕ → Option ℕ) (q t : ℕ) → IsEndedAt f g q t → from ≤ t → (o : Option ℕ) (taken : List ℕ) (x y : ℕ)
    → (contains q taken ≡ false → x ≡ y) → (AreDistinct taken → contains q taken ≡ true → x + after_in n t ≡ y)
    → AreDistinct (cons_option o taken) → contains q (cons_option o taken) ≡ true → (adds_of n from g o + x) + after_in n t ≡ adds_of n from f o + y
ended-by n from f g q t is le None taken x y gone more d h = let e = more d h in omega (arith, e)
ended-by n from f g q t is le (Some r) taken x y gone more d h = which (q == r) refl
  where
    which : (b : Bool) → (q == r) ≡ b → (adds_of n from g (Some r) + x) + after_in n t ≡ adds_of n from f (Some r) + y
    which true same =
        let is_q : q ≡ r = eqb-true q r same in
        let rest = gone (rw is_q (d.0)) in
        let own : adds_of n from g (Some r) + after_in n t ≡ adds_of n from f (Some r) = rw (← is_q) (own-adds n from f g q t is le) in
        omega (arith, rest, own)
    which false other =
        let there : contains q taken ≡ true = rw (ne_eqb r q (λ same. eqb-false q r other (sym same))) at h in
        let rest = more d.1 there in
        let one = other-adds n from f g q t r is other in
        omega (arith, rest, one)

adds-ended : (n : ℕ) (f g : ℕ → Option ℕ) (q t : ℕ) → IsEndedAt f g q t → (c : Trace) → AreUpTo t c → AreDistinct (each_row taken_by c) → contains q (each_row taken_by c) ≡ true
    → sum_by (adds n g) c + after_in n t ≡ sum_by (adds n f) c
adds-ended n f g q t is [] most d h = absurd (cc)
adds-ended n f g q t is (e ∷ es) most d h =
    ap (λ m. m + after_in n t) (sum_by-cons (adds n g) e es)
    ∙ ended-by n e.time f g q t is most.0 (taken_by e.row) (each_row taken_by es) (sum_by (adds n g) es) (sum_by (adds n f) es) (adds-other n f g q t is es) (adds-ended n f g q t is es most.1) d h
    ∙ sym (sum_by-cons (adds n f) e es)

pub load-end : (n : ℕ) (c : Trace) (e : Entry) (r : ℕ) → IsNumbered c → AreUpTo e.time c → IsEnd c e.row r → load_in (c ++ e ∷ []) n + after_in n e.time ≡ load_in c n
load-end n c e r num most is =
    let now = load-push n c e in
    let ended : IsEndedAt (end_of c) (end_of (c ++ e ∷ [])) r e.time = record { before = end_of-none c r is.on; now = end_of-own c e r is.ends is.on; others = λ q other. end_of-other c e r q is.ends other } in
    let lost = adds-ended n (end_of c) (end_of (c ++ e ∷ [])) r e.time ended c most num.once is.member in
    let was = load-sum n c in
    let none = none_taken n (end_of (c ++ e ∷ [])) e is.takes in
    omega (arith, now, lost, was, none)
