-- What each step of a book changes of its pods and addresses.
use Rattle.std.proofs.Common.{◌≡◌, ℕ, Bool, true, false, not, cond, ◌||◌, ◌⊎◌, inl, inr, List, [], ◌∷◌, ◌++◌, refl, sym, ap, ◌∙◌, append-nil}
use Rattle.std.specs.Prelude.{Option, None, Some, is_none, ◌==◌, ⊤}
use Rattle.std.specs.List.{cons_option, filter, list_any}
use Rattle.std.proofs.lemmas.List.Elements.{filter_map-append}
use Rattle.std.proofs.lemmas.Bool.{eqb-true, eq-eqb, false_from_ne_true, or_cases, or_parts, or_right}
use Rattle.kn_event.specs.Lists.{contains}
use Rattle.kn_record.specs.Made.{AreDistinct}
use Rattle.kn_record.specs.Rows.{says}
use Rattle.kn_book.specs.declared.book.Holding.{Holding}
use Rattle.kn_book.specs.Book.{Book, given, pods_in, taken, waits, with_pod, without_pod}

-- some pod has no address
abbrev pub someone_waits : Book → Bool
someone_waits b = list_any waits b

-- behind one that waits nobody has an address
abbrev pub WaitLast : Book → Type 0
WaitLast [] = ⊤
WaitLast (h ∷ b) = (h.address ≡ None → taken b ≡ []) × WaitLast b

pub contains-option : (x : ℕ) (o : Option ℕ) (xs : List ℕ) → contains x (cons_option o xs) ≡ (says o x || contains x xs)
contains-option x None xs = refl
contains-option x (Some y) xs = refl

-- ---- a pod more

pub taken-with_pod : (p : ℕ) (b : Book) → taken (with_pod p b) ≡ taken b
taken-with_pod p b = filter_map-append (λ (h : Holding). h.address) b (record { pod = p; address = None } ∷ []) ∙ append-nil (taken b)

pub pods-with_pod : (p : ℕ) (b : Book) → pods_in (with_pod p b) ≡ pods_in b ++ p ∷ []
pods-with_pod p [] = refl
pods-with_pod p (h ∷ b) = ap (λ (l : List ℕ). h.pod ∷ l) (pods-with_pod p b)

pub last-with_pod : (p : ℕ) (b : Book) → WaitLast b → WaitLast (with_pod p b)
last-with_pod p [] w = (λ e. refl, tt)
last-with_pod p (h ∷ b) w = (λ e. taken-with_pod p b ∙ w.0 e, last-with_pod p b w.1)

-- ---- a pod fewer

pub pods-without_pod : (p : ℕ) (b : Book) → pods_in (without_pod p b) ≡ filter (λ q. not (p == q)) (pods_in b)
pods-without_pod p [] = refl
pods-without_pod p (h ∷ b) = by (p == h.pod) (pods-without_pod p b)
  where
    by : (t : Bool) → pods_in (without_pod p b) ≡ filter (λ q. not (p == q)) (pods_in b)
        → pods_in (cond (not t) (h ∷ without_pod p b) (without_pod p b)) ≡ cond (not t) (h.pod ∷ filter (λ q. not (p == q)) (pods_in b)) (filter (λ q. not (p == q)) (pods_in b))
    by true rest = rest
    by false rest = ap (λ (l : List ℕ). h.pod ∷ l) rest

-- what is taken then was so before
pub taken-without_pod : (p : ℕ) (b : Book) (x : ℕ) → contains x (taken (without_pod p b)) ≡ true → contains x (taken b) ≡ true
taken-without_pod p [] x e = e
taken-without_pod p (h ∷ b) x e = by (p == h.pod) e (λ k. taken-without_pod p b x k)
  where
    by : (t : Bool) → contains x (taken (cond (not t) (h ∷ without_pod p b) (without_pod p b))) ≡ true → (contains x (taken (without_pod p b)) ≡ true → contains x (taken b) ≡ true)
        → contains x (cons_option h.address (taken b)) ≡ true
    by true k rest = contains-option x h.address (taken b) ∙ or_right (says h.address x) (contains x (taken b)) (rest k)
    by false k rest = contains-option x h.address (taken b) ∙ both (says h.address x) (or_cases (says h.address x) (contains x (taken (without_pod p b))) (sym (contains-option x h.address (taken (without_pod p b))) ∙ k))
      where
        both : (m : Bool) → (m ≡ true) ⊎ (contains x (taken (without_pod p b)) ≡ true) → (m || contains x (taken b)) ≡ true
        both true o = refl
        both false (inl a) = absurd (cc)
        both false (inr a) = rest a

pub distinct-without_pod : (p : ℕ) (b : Book) → AreDistinct (taken b) → AreDistinct (taken (without_pod p b))
distinct-without_pod p [] d = tt
distinct-without_pod p (h ∷ b) d = by (p == h.pod) h.address d (λ k. distinct-without_pod p b k)
  where
    by : (t : Bool) (o : Option ℕ) → AreDistinct (cons_option o (taken b)) → (AreDistinct (taken b) → AreDistinct (taken (without_pod p b)))
        → AreDistinct (taken (cond (not t) (record h { address = o } ∷ without_pod p b) (without_pod p b)))
    by true None d rest = rest d
    by true (Some y) d rest = rest d.1
    by false None d rest = rest d
    by false (Some y) d rest = (false_from_ne_true (contains y (taken (without_pod p b))) (λ k. let no = d.0 in let yes = taken-without_pod p b y k in absurd (cc)), rest d.1)

pub waits-without_pod : (p : ℕ) (b : Book) → someone_waits (without_pod p b) ≡ true → someone_waits b ≡ true
waits-without_pod p [] e = e
waits-without_pod p (h ∷ b) e = by (p == h.pod) (waits h) e (λ k. waits-without_pod p b k)
  where
    by : (t m : Bool) → list_any waits (cond (not t) (h ∷ without_pod p b) (without_pod p b)) ≡ true → (someone_waits (without_pod p b) ≡ true → someone_waits b ≡ true)
        → (waits h || someone_waits b) ≡ true
    by true m k rest = or_right (waits h) (someone_waits b) (rest k)
    by false m k rest = both (waits h) k
      where
        both : (m : Bool) → (m || someone_waits (without_pod p b)) ≡ true → (m || someone_waits b) ≡ true
        both true a = refl
        both false a = rest a

taken-none : (p : ℕ) (b : Book) → taken b ≡ [] → taken (without_pod p b) ≡ []
taken-none p b e = by (taken (without_pod p b)) (λ x k. taken-without_pod p b x k)
  where
    by : (l : List ℕ) → ((x : ℕ) → contains x l ≡ true → contains x (taken b) ≡ true) → l ≡ []
    by [] within = refl
    by (x ∷ l) within = absurd (let k : contains x (taken b) ≡ true = within x (rw (eq-eqb x x refl) refl) in let no : contains x (taken b) ≡ false = rw e refl in cc)

pub last-without_pod : (p : ℕ) (b : Book) → WaitLast b → WaitLast (without_pod p b)
last-without_pod p [] w = tt
last-without_pod p (h ∷ b) w = by (p == h.pod) (last-without_pod p b w.1)
  where
    by : (t : Bool) → WaitLast (without_pod p b) → WaitLast (cond (not t) (h ∷ without_pod p b) (without_pod p b))
    by true rest = rest
    by false rest = (λ e. taken-none p b (w.0 e), rest)

-- ---- an address is given

pub pods-given : (a : ℕ) (b : Book) → pods_in (given a b) ≡ pods_in b
pods-given a [] = refl
pods-given a (h ∷ b) = by (waits h) (pods-given a b)
  where
    by : (t : Bool) → pods_in (given a b) ≡ pods_in b → pods_in (cond t (record h { address = Some a } ∷ b) (h ∷ given a b)) ≡ h.pod ∷ pods_in b
    by true rest = refl
    by false rest = ap (λ (l : List ℕ). h.pod ∷ l) rest

-- what is taken then was so before, or is the one that was given
pub given_member : (a : ℕ) (b : Book) (x : ℕ) → contains x (taken (given a b)) ≡ true → (a ≡ x) ⊎ (contains x (taken b) ≡ true)
given_member a [] x e = absurd (cc)
given_member a (h ∷ b) x e = by h.address e (λ k. given_member a b x k)
  where
    by : (o : Option ℕ) → contains x (taken (cond (is_none o) (record h { address = Some a } ∷ b) (record h { address = o } ∷ given a b))) ≡ true
        → (contains x (taken (given a b)) ≡ true → (a ≡ x) ⊎ (contains x (taken b) ≡ true)) → (a ≡ x) ⊎ (contains x (cons_option o (taken b)) ≡ true)
    by None k rest = one (or_cases (a == x) (contains x (taken b)) k)
      where
        one : ((a == x) ≡ true) ⊎ (contains x (taken b) ≡ true) → (a ≡ x) ⊎ (contains x (taken b) ≡ true)
        one (inl m) = inl (eqb-true a x m)
        one (inr m) = inr m
    by (Some y) k rest = one (or_cases (y == x) (contains x (taken (given a b))) k)
      where
        two : (a ≡ x) ⊎ (contains x (taken b) ≡ true) → (a ≡ x) ⊎ (((y == x) || contains x (taken b)) ≡ true)
        two (inl m) = inl m
        two (inr m) = inr (or_right (y == x) (contains x (taken b)) m)

        one : ((y == x) ≡ true) ⊎ (contains x (taken (given a b)) ≡ true) → (a ≡ x) ⊎ (((y == x) || contains x (taken b)) ≡ true)
        one (inl m) = inr (rw m refl)
        one (inr m) = two (rest m)

-- what was taken is so then
pub given_keeps : (a : ℕ) (b : Book) (x : ℕ) → contains x (taken b) ≡ true → contains x (taken (given a b)) ≡ true
given_keeps a [] x e = e
given_keeps a (h ∷ b) x e = by h.address e (λ k. given_keeps a b x k)
  where
    by : (o : Option ℕ) → contains x (cons_option o (taken b)) ≡ true → (contains x (taken b) ≡ true → contains x (taken (given a b)) ≡ true)
        → contains x (taken (cond (is_none o) (record h { address = Some a } ∷ b) (record h { address = o } ∷ given a b))) ≡ true
    by None k rest = or_right (a == x) (contains x (taken b)) k
    by (Some y) k rest = both (y == x) k
      where
        both : (m : Bool) → (m || contains x (taken b)) ≡ true → (m || contains x (taken (given a b))) ≡ true
        both true k = refl
        both false k = rest k

-- and so is the one that is given, where somebody waits
pub given_takes : (a : ℕ) (b : Book) → someone_waits b ≡ true → contains a (taken (given a b)) ≡ true
given_takes a [] w = absurd (cc)
given_takes a (h ∷ b) w = by h.address w (λ k. given_takes a b k)
  where
    by : (o : Option ℕ) → (is_none o || someone_waits b) ≡ true → (someone_waits b ≡ true → contains a (taken (given a b)) ≡ true)
        → contains a (taken (cond (is_none o) (record h { address = Some a } ∷ b) (record h { address = o } ∷ given a b))) ≡ true
    by None w rest = rw (eq-eqb a a refl) refl
    by (Some y) w rest = or_right (y == a) (contains a (taken (given a b))) (rest w)

pub distinct-given : (a : ℕ) (b : Book) → AreDistinct (taken b) → contains a (taken b) ≡ false → AreDistinct (taken (given a b))
distinct-given a [] d new = tt
distinct-given a (h ∷ b) d new = by h.address d new (λ k m. distinct-given a b k m)
  where
    by : (o : Option ℕ) → AreDistinct (cons_option o (taken b)) → contains a (cons_option o (taken b)) ≡ false → (AreDistinct (taken b) → contains a (taken b) ≡ false → AreDistinct (taken (given a b)))
        → AreDistinct (taken (cond (is_none o) (record h { address = Some a } ∷ b) (record h { address = o } ∷ given a b)))
    by None d new rest = (new, d)
    by (Some y) d new rest = (false_from_ne_true (contains y (taken (given a b))) (λ k. absurd (out (given_member a b y k))), rest d.1 parts.1)
      where
        parts : ((y == a) ≡ false) × (contains a (taken b) ≡ false)
        parts = or_parts (y == a) (contains a (taken b)) new

        out : (a ≡ y) ⊎ (contains y (taken b) ≡ true) → ⊥
        out (inl m) = let yes : (y == a) ≡ true = eq-eqb y a (sym m) in let no = parts.0 in cc
        out (inr m) = let no = d.0 in cc

pub waits-given : (a : ℕ) (b : Book) → someone_waits (given a b) ≡ true → someone_waits b ≡ true
waits-given a [] w = w
waits-given a (h ∷ b) w = by h.address w (λ k. waits-given a b k)
  where
    by : (o : Option ℕ) → someone_waits (cond (is_none o) (record h { address = Some a } ∷ b) (record h { address = o } ∷ given a b)) ≡ true → (someone_waits (given a b) ≡ true → someone_waits b ≡ true)
        → (is_none o || someone_waits b) ≡ true
    by None w rest = refl
    by (Some y) w rest = rest w

pub last-given : (a : ℕ) (b : Book) → WaitLast b → WaitLast (given a b)
last-given a [] w = tt
last-given a (h ∷ b) w = by h.address w (λ k. last-given a b k)
  where
    by : (o : Option ℕ) → (o ≡ None → taken b ≡ []) × WaitLast b → (WaitLast b → WaitLast (given a b)) → WaitLast (cond (is_none o) (record h { address = Some a } ∷ b) (record h { address = o } ∷ given a b))
    by None w rest = (λ e. absurd (cc), w.1)
    by (Some y) w rest = (λ e. absurd (cc), rest w.1)

-- the only one that waits gets it, and then nobody waits
pub given_last : (a p : ℕ) (b : Book) → someone_waits b ≡ false → someone_waits (given a (with_pod p b)) ≡ false
given_last a p [] w = refl
given_last a p (h ∷ b) w = by h.address w (λ k. given_last a p b k)
  where
    by : (o : Option ℕ) → (is_none o || someone_waits b) ≡ false → (someone_waits b ≡ false → someone_waits (given a (with_pod p b)) ≡ false)
        → someone_waits (cond (is_none o) (record h { address = Some a } ∷ with_pod p b) (record h { address = o } ∷ given a (with_pod p b))) ≡ false
    by None w rest = absurd (cc)
    by (Some y) w rest = rest w
