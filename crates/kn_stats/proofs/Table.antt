-- Pods in the order of their numbers.
use Rattle.std.proofs.Common.{◌≡◌, refl, sym, ap, ◌∙◌, ℕ, ◌+◌, ◌≤◌, ◌<◌, Bool, true, false, cond, List, [], ◌∷◌, length, arith}
use Rattle.std.specs.Prelude.{◌==◌, nat_lt, if◌then◌else◌}
use Rattle.std.specs.List.{sum_by}
use Rattle.std.proofs.lemmas.Bool.{eqb-true, eq-eqb}
use Rattle.std.proofs.lemmas.List.Sums.{sum_by-cons}
use Rattle.kn_stats.specs.declared.tally.PodTally.{PodTally}
use Rattle.kn_stats.specs.Pods.{AreAbove, IsSorted, found, idle, put, without_pod}

same : (p : ℕ) → (p == p) ≡ true
same p = eq-eqb p p refl

-- f keeps numbers
abbrev pub KeepsNumbers : (PodTally → PodTally) → Type 0
KeepsNumbers f = (q : PodTally) → (f q).number ≡ q.number

other-by-order : (p n : ℕ) → p < n → (n == p) ≡ false
other-by-order p n h = grind (arith, h)

pub above-found : (b p : ℕ) (qs : List PodTally) → AreAbove b qs → p ≤ b → found p qs ≡ idle p
above-found b p [] h le = refl
above-found b p (q ∷ qs) h le = let rest = above-found q.number p qs h.1 (omega (arith, h.0, le)) in rw (other-by-order p q.number (omega (arith, h.0, le))) rest

above-weaker : (a b : ℕ) (qs : List PodTally) → a ≤ b → AreAbove b qs → AreAbove a qs
above-weaker a b [] le h = tt
above-weaker a b (q ∷ qs) le h = (omega (arith, le, h.0), h.1)

pub sorted-tail : (q : PodTally) (qs : List PodTally) → AreAbove q.number qs → IsSorted qs
sorted-tail q [] h = tt
sorted-tail q (x ∷ xs) h = h.1

-- ---- one pod is changed

abbrev chosen : Bool → Bool → ℕ → (PodTally → PodTally) → PodTally → List PodTally → List PodTally → List PodTally
chosen same less p f q qs more = if same then f q ∷ qs else (if less then f (idle p) ∷ q ∷ qs else q ∷ more)

found-first : (p : ℕ) (x : PodTally) (xs : List PodTally) → x.number ≡ p → found p (x ∷ xs) ≡ x
found-first p x xs h = rw (h, same p) refl

put-same-by : (p : ℕ) (f : PodTally → PodTally) (q : PodTally) (qs more : List PodTally) → KeepsNumbers f → AreAbove q.number qs → found p more ≡ f (found p qs)
    → (b : Bool) → (q.number == p) ≡ b → (l : Bool) → nat_lt p q.number ≡ l → found p (chosen b l p f q qs more) ≡ f (cond b q (found p qs))
put-same-by p f q qs more keeps above rest true h l k = found-first p (f q) qs (keeps q ∙ eqb-true q.number p h)
put-same-by p f q qs more keeps above rest false h true k =
    found-first p (f (idle p)) (q ∷ qs) (keeps (idle p)) ∙ ap f (sym (above-found q.number p qs above (grind (arith, k))))
put-same-by p f q qs more keeps above rest false h false k = rw h rest

pub found-put : (p : ℕ) (f : PodTally → PodTally) (qs : List PodTally) → KeepsNumbers f → IsSorted qs → found p (put p f qs) ≡ f (found p qs)
found-put p f [] keeps h = found-first p (f (idle p)) [] (keeps (idle p))
found-put p f (q ∷ qs) keeps h =
    put-same-by p f q qs (put p f qs) keeps h (found-put p f qs keeps (sorted-tail q qs h)) (q.number == p) refl (nat_lt p q.number) refl

found-next : (p : ℕ) (x : PodTally) (xs : List PodTally) → (x.number == p) ≡ false → found p (x ∷ xs) ≡ found p xs
found-next p x xs h = rw h refl

apart : (p r n : ℕ) → (p == r) ≡ false → n ≡ p → (n == r) ≡ false
apart p r n h e = rw e h

put-other-by : (p r : ℕ) (f : PodTally → PodTally) (q : PodTally) (qs more : List PodTally) → (p == r) ≡ false → KeepsNumbers f → found r more ≡ found r qs
    → (b : Bool) → (q.number == p) ≡ b → (l : Bool) → found r (chosen b l p f q qs more) ≡ found r (q ∷ qs)
put-other-by p r f q qs more other keeps rest true h l =
    let is : q.number ≡ p = eqb-true q.number p h in
    found-next r (f q) qs (apart p r (f q).number other (keeps q ∙ is)) ∙ sym (found-next r q qs (apart p r q.number other is))
put-other-by p r f q qs more other keeps rest false h true = found-next r (f (idle p)) (q ∷ qs) (apart p r (f (idle p)).number other (keeps (idle p)))
put-other-by p r f q qs more other keeps rest false h false = ap (λ x. if q.number == r then q else x) rest

pub found-put-other : (p r : ℕ) (f : PodTally → PodTally) (qs : List PodTally) → (p == r) ≡ false → KeepsNumbers f → found r (put p f qs) ≡ found r qs
found-put-other p r f [] other keeps = found-next r (f (idle p)) [] (apart p r (f (idle p)).number other (keeps (idle p)))
found-put-other p r f (q ∷ qs) other keeps = put-other-by p r f q qs (put p f qs) other keeps (found-put-other p r f qs other keeps) (q.number == p) refl (nat_lt p q.number)

put-above-by : (b p : ℕ) (f : PodTally → PodTally) (q : PodTally) (qs more : List PodTally) → b < p → b < q.number → AreAbove q.number qs → KeepsNumbers f → (q.number < p → AreAbove q.number more)
    → (e : Bool) → (q.number == p) ≡ e → (l : Bool) → nat_lt p q.number ≡ l → AreAbove b (chosen e l p f q qs more)
put-above-by b p f q qs more bp bq above keeps rest true h l k = (rw (keeps q) bq, rw (keeps q) above)
put-above-by b p f q qs more bp bq above keeps rest false h true k = (rw (keeps (idle p)) bp, (rw (keeps (idle p)) (grind (arith, k)), above))
put-above-by b p f q qs more bp bq above keeps rest false h false k = (bq, rest (grind (arith, h, k)))

put-above : (b p : ℕ) (f : PodTally → PodTally) (qs : List PodTally) → b < p → AreAbove b qs → KeepsNumbers f → AreAbove b (put p f qs)
put-above b p f [] bp h keeps = (rw (keeps (idle p)) bp, tt)
put-above b p f (q ∷ qs) bp h keeps = put-above-by b p f q qs (put p f qs) bp h.0 h.1 keeps (λ lt. put-above q.number p f qs lt h.1 keeps) (q.number == p) refl (nat_lt p q.number) refl

put-sorted-by : (p : ℕ) (f : PodTally → PodTally) (q : PodTally) (qs more : List PodTally) → AreAbove q.number qs → KeepsNumbers f → (q.number < p → AreAbove q.number more)
    → (e : Bool) → (q.number == p) ≡ e → (l : Bool) → nat_lt p q.number ≡ l → IsSorted (chosen e l p f q qs more)
put-sorted-by p f q qs more above keeps rest true h l k = rw (keeps q) above
put-sorted-by p f q qs more above keeps rest false h true k = (rw (keeps (idle p)) (grind (arith, k)), above)
put-sorted-by p f q qs more above keeps rest false h false k = rest (grind (arith, h, k))

pub sorted-put : (p : ℕ) (f : PodTally → PodTally) (qs : List PodTally) → IsSorted qs → KeepsNumbers f → IsSorted (put p f qs)
sorted-put p f [] h keeps = tt
sorted-put p f (q ∷ qs) h keeps = put-sorted-by p f q qs (put p f qs) h keeps (λ lt. put-above q.number p f qs lt h keeps) (q.number == p) refl (nat_lt p q.number) refl

sum-put-by : (g : PodTally → ℕ) (p : ℕ) (f : PodTally → PodTally) (q : PodTally) (qs more : List PodTally) → g (idle p) ≡ 0 → AreAbove q.number qs
    → sum_by g more + g (found p qs) ≡ sum_by g qs + g (f (found p qs))
    → (b : Bool) → (q.number == p) ≡ b → (l : Bool) → nat_lt p q.number ≡ l → sum_by g (chosen b l p f q qs more) + g (cond b q (found p qs)) ≡ sum_by g (q ∷ qs) + g (f (cond b q (found p qs)))
sum-put-by g p f q qs more none above rest true h l k =
    let a = sum_by-cons g (f q) qs in
    let b = sum_by-cons g q qs in
    omega (arith, a, b)
sum-put-by g p f q qs more none above rest false h true k =
    let idle_there : found p qs ≡ idle p = above-found q.number p qs above (grind (arith, k)) in
    let a = sum_by-cons g (f (idle p)) (q ∷ qs) in
    rw idle_there (omega (arith, a, none))
sum-put-by g p f q qs more none above rest false h false k =
    let a = sum_by-cons g q more in
    let b = sum_by-cons g q qs in
    omega (arith, a, b, rest)

-- a sum over the pods where one is changed
pub sum-put : (g : PodTally → ℕ) (p : ℕ) (f : PodTally → PodTally) (qs : List PodTally) → g (idle p) ≡ 0 → IsSorted qs → sum_by g (put p f qs) + g (found p qs) ≡ sum_by g qs + g (f (found p qs))
sum-put g p f [] none h =
    let a = sum_by-cons g (f (idle p)) [] in omega (arith, a, none)
sum-put g p f (q ∷ qs) none h = sum-put-by g p f q qs (put p f qs) none h (sum-put g p f qs none (sorted-tail q qs h)) (q.number == p) refl (nat_lt p q.number) refl

-- ---- one pod is taken out

out-sum-by : (g : PodTally → ℕ) (p : ℕ) (q : PodTally) (qs more : List PodTally) → sum_by g more + g (found p qs) ≡ sum_by g qs
    → (b : Bool) → sum_by g (if b then qs else q ∷ more) + g (if b then q else found p qs) ≡ sum_by g (q ∷ qs)
out-sum-by g p q qs more rest true = let b = sum_by-cons g q qs in omega (arith, b)
out-sum-by g p q qs more rest false =
    let a = sum_by-cons g q more in
    let b = sum_by-cons g q qs in
    omega (arith, a, b, rest)

pub sum-out : (g : PodTally → ℕ) (p : ℕ) (qs : List PodTally) → g (idle p) ≡ 0 → sum_by g (without_pod p qs) + g (found p qs) ≡ sum_by g qs
sum-out g p [] none = omega (arith, none)
sum-out g p (q ∷ qs) none = out-sum-by g p q qs (without_pod p qs) (sum-out g p qs none) (q.number == p)

out-found-by : (p r : ℕ) (q : PodTally) (qs more : List PodTally) → (p == r) ≡ false → found r more ≡ found r qs → (b : Bool) → (q.number == p) ≡ b → found r (if b then qs else q ∷ more) ≡ found r (q ∷ qs)
out-found-by p r q qs more other rest true h = sym (found-next r q qs (apart p r q.number other (eqb-true q.number p h)))
out-found-by p r q qs more other rest false h = ap (λ x. if q.number == r then q else x) rest

pub found-out : (p r : ℕ) (qs : List PodTally) → (p == r) ≡ false → found r (without_pod p qs) ≡ found r qs
found-out p r [] other = refl
found-out p r (q ∷ qs) other = out-found-by p r q qs (without_pod p qs) other (found-out p r qs other) (q.number == p) refl

out-above-by : (b : ℕ) (q : PodTally) (qs more : List PodTally) → b < q.number → AreAbove q.number qs → AreAbove q.number more → (e : Bool) → AreAbove b (if e then qs else q ∷ more)
out-above-by b q qs more lt above rest true = above-weaker b q.number qs (omega (arith, lt)) above
out-above-by b q qs more lt above rest false = (lt, rest)

out-above : (b p : ℕ) (qs : List PodTally) → AreAbove b qs → AreAbove b (without_pod p qs)
out-above b p [] h = tt
out-above b p (q ∷ qs) h = out-above-by b q qs (without_pod p qs) h.0 h.1 (out-above q.number p qs h.1) (q.number == p)

out-sorted-by : (q : PodTally) (qs more : List PodTally) → AreAbove q.number qs → AreAbove q.number more → (e : Bool) → IsSorted (if e then qs else q ∷ more)
out-sorted-by q qs more above rest true = sorted-tail q qs above
out-sorted-by q qs more above rest false = rest

pub sorted-out : (p : ℕ) (qs : List PodTally) → IsSorted qs → IsSorted (without_pod p qs)
sorted-out p [] h = tt
sorted-out p (q ∷ qs) h = out-sorted-by q qs (without_pod p qs) h (out-above q.number p qs h) (q.number == p)

-- none above is the pod
pub above-out : (b p : ℕ) (qs : List PodTally) → AreAbove b qs → p ≤ b → without_pod p qs ≡ qs
above-out b p [] h le = refl
above-out b p (q ∷ qs) h le =
    let rest = above-out q.number p qs h.1 (omega (arith, h.0, le)) in
    rw (other-by-order p q.number (omega (arith, h.0, le))) (ap (λ xs. q ∷ xs) rest)

-- no pod has more than all have
pub found-sum : (g : PodTally → ℕ) (p : ℕ) (qs : List PodTally) → g (idle p) ≡ 0 → g (found p qs) ≤ sum_by g qs
found-sum g p qs none = let out = sum-out g p qs none in omega (arith, out)

out-length-by : (p : ℕ) (q : PodTally) (qs more : List PodTally) → length more ≤ length qs → (b : Bool) → length (if b then qs else q ∷ more) ≤ length (q ∷ qs)
out-length-by p q qs more rest true = omega arith
out-length-by p q qs more rest false = omega (arith, rest)

pub length-out : (p : ℕ) (qs : List PodTally) → length (without_pod p qs) ≤ length qs
length-out p [] = omega arith
length-out p (q ∷ qs) = out-length-by p q qs (without_pod p qs) (length-out p qs) (q.number == p)

put-length-by : (p : ℕ) (f g : PodTally → PodTally) (q : PodTally) (qs more again : List PodTally) → length more ≡ length again → (b l : Bool)
    → length (chosen b l p f q qs more) ≡ length (chosen b l p g q qs again)
put-length-by p f g q qs more again rest true l = refl
put-length-by p f g q qs more again rest false true = refl
put-length-by p f g q qs more again rest false false = omega (arith, rest)

-- whatever is done with the pod
pub length-put : (p : ℕ) (f g : PodTally → PodTally) (qs : List PodTally) → length (put p f qs) ≡ length (put p g qs)
length-put p f g [] = refl
length-put p f g (q ∷ qs) = put-length-by p f g q qs (put p f qs) (put p g qs) (length-put p f g qs) (q.number == p) (nat_lt p q.number)

put-there-by : (g : PodTally → ℕ) (p : ℕ) (q : PodTally) (qs more : List PodTally) → g (idle p) ≡ 0 → AreAbove q.number qs → (0 < g (found p qs) → length more ≡ length qs)
    → (b : Bool) → (q.number == p) ≡ b → (l : Bool) → nat_lt p q.number ≡ l → 0 < g (cond b q (found p qs)) → length (chosen b l p (λ x. x) q qs more) ≡ length (q ∷ qs)
put-there-by g p q qs more none above rest true h l k some = refl
put-there-by g p q qs more none above rest false h true k some =
    let idle_there = ap g (above-found q.number p qs above (grind (arith, k))) in
    absurd (omega (arith, idle_there, none, some))
put-there-by g p q qs more none above rest false h false k some = let same = rest some in omega (arith, same)

-- a pod at which something is is there
pub length-there : (g : PodTally → ℕ) (p : ℕ) (qs : List PodTally) → g (idle p) ≡ 0 → IsSorted qs → 0 < g (found p qs) → length (put p (λ x. x) qs) ≡ length qs
length-there g p [] none h some = absurd (omega (arith, none, some))
length-there g p (q ∷ qs) none h some =
    put-there-by g p q qs (put p (λ x. x) qs) none h (length-there g p qs none (sorted-tail q qs h)) (q.number == p) refl (nat_lt p q.number) refl some

out-same-by : (p : ℕ) (q : PodTally) (qs more : List PodTally) → AreAbove q.number qs → found p more ≡ idle p → (b : Bool) → (q.number == p) ≡ b → found p (if b then qs else q ∷ more) ≡ idle p
out-same-by p q qs more above rest true h = let is : q.number ≡ p = eqb-true q.number p h in above-found q.number p qs above (omega (arith, is))
out-same-by p q qs more above rest false h = found-next p q more h ∙ rest

-- a pod that was taken out is there no more
pub found-out-same : (p : ℕ) (qs : List PodTally) → IsSorted qs → found p (without_pod p qs) ≡ idle p
found-out-same p [] h = refl
found-out-same p (q ∷ qs) h = out-same-by p q qs (without_pod p qs) h (found-out-same p qs (sorted-tail q qs h)) (q.number == p) refl
