-- What a book says of one pod, and what each step leaves of it.
use Rattle.std.proofs.Common.{◌≡◌, ◌≢◌, ℕ, ◌+◌, ◌≤◌, Bool, true, false, not, cond, ◌||◌, ◌⊎◌, inl, inr, [], ◌∷◌, length, refl, sym, ap, ◌∙◌, arith}
use Rattle.std.specs.Prelude.{Option, None, Some, is_none, ◌==◌}
use Rattle.std.specs.List.{cons_option, find}
use Rattle.std.specs.Option.{option_and_then}
use Rattle.std.proofs.lemmas.Bool.{eqb-true, eq-eqb, false_from_ne_true, or_cases, or_parts, or_right}
use Rattle.kn_event.specs.Lists.{contains}
use Rattle.kn_record.specs.Made.{AreDistinct}
use Rattle.kn_record.specs.Rows.{says}
use Rattle.kn_book.specs.declared.book.Holding.{Holding}
use Rattle.kn_book.specs.Book.{Book, address_in, given, pods_in, taken, with_pod, without_pod}
use Rattle.kn_book.proofs.Holdings.{contains-option, someone_waits}

-- what the first holding says, or the others
abbrev pub said : Bool → Option ℕ → Option ℕ → Option ℕ
said true here others = here
said false here others = others

pub address-cons : (h : Holding) (b : Book) (p : ℕ) → address_in (h ∷ b) p ≡ said (h.pod == p) h.address (address_in b p)
address-cons h b p = by (h.pod == p)
  where
    by : (t : Bool) → option_and_then (λ (h : Holding). h.address) (cond t (Some h) (find (λ (h : Holding). h.pod == p) b)) ≡ said t h.address (address_in b p)
    by true = refl
    by false = refl

says-itself : (a : ℕ) → says (Some a) a ≡ true
says-itself a = eq-eqb a a refl

-- an address that a pod has is taken
pub address_member : (b : Book) (p a : ℕ) → address_in b p ≡ Some a → contains a (taken b) ≡ true
address_member [] p a e = absurd (cc)
address_member (h ∷ b) p a e = contains-option a h.address (taken b) ∙ by (h.pod == p) h.address (sym (address-cons h b p) ∙ e) (λ k. address_member b p a k)
  where
    by : (t : Bool) (o : Option ℕ) → said t o (address_in b p) ≡ Some a → (address_in b p ≡ Some a → contains a (taken b) ≡ true) → (says o a || contains a (taken b)) ≡ true
    by true o e rest = rw (e, says-itself a) refl
    by false o e rest = or_right (says o a) (contains a (taken b)) (rest e)

-- who is not in the book has none
pub address-absent : (b : Book) (p : ℕ) → contains p (pods_in b) ≡ false → address_in b p ≡ None
address-absent [] p out = refl
address-absent (h ∷ b) p out = let parts = or_parts (h.pod == p) (contains p (pods_in b)) out in address-cons h b p ∙ rw (parts.0) (address-absent b p parts.1)

-- an address that is taken is some pod's
pub holder : (b : Book) (a : ℕ) → AreDistinct (pods_in b) → contains a (taken b) ≡ true → (p : ℕ) × (contains p (pods_in b) ≡ true) × (address_in b p ≡ Some a)
holder [] a d e = absurd (cc)
holder (h ∷ b) a d e = by h.address refl (or_cases (says h.address a) (contains a (taken b)) (sym (contains-option a h.address (taken b)) ∙ e)) (λ k. holder b a d.1 k)
  where
    at : (o : Option ℕ) → says o a ≡ true → o ≡ Some a
    at None s = absurd (cc)
    at (Some x) s = ap (λ (n : ℕ). Some n) (eqb-true x a s)

    behind : (p : ℕ) × (contains p (pods_in b) ≡ true) × (address_in b p ≡ Some a) → (p : ℕ) × (contains p (h.pod ∷ pods_in b) ≡ true) × (address_in (h ∷ b) p ≡ Some a)
    behind (p, there, has) =
        (p, or_right (h.pod == p) (contains p (pods_in b)) there, address-cons h b p ∙ rw (false_from_ne_true (h.pod == p) (λ k. let same : h.pod ≡ p = eqb-true h.pod p k in let out = d.0 in absurd (cc))) has)

    by : (o : Option ℕ) → h.address ≡ o → (says h.address a ≡ true) ⊎ (contains a (taken b) ≡ true)
        → (contains a (taken b) ≡ true → (p : ℕ) × (contains p (pods_in b) ≡ true) × (address_in b p ≡ Some a)) → (p : ℕ) × (contains p (h.pod ∷ pods_in b) ≡ true) × (address_in (h ∷ b) p ≡ Some a)
    by o is (inl s) rest = (h.pod, rw (eq-eqb h.pod h.pod refl) refl, address-cons h b h.pod ∙ rw (eq-eqb h.pod h.pod refl) (at h.address s))
    by o is (inr s) rest = behind (rest s)

-- two pods with one address are one
pub address_apart : (b : Book) (p q a : ℕ) → AreDistinct (taken b) → address_in b p ≡ Some a → address_in b q ≡ Some a → p ≡ q
address_apart [] p q a d e f = absurd (cc)
address_apart (h ∷ b) p q a d e f = by (h.pod == p) refl (h.pod == q) refl h.address d (sym (address-cons h b p) ∙ e) (sym (address-cons h b q) ∙ f) (λ dd k m. address_apart b p q a dd k m)
  where
    by : (t : Bool) → (h.pod == p) ≡ t → (u : Bool) → (h.pod == q) ≡ u → (o : Option ℕ) → AreDistinct (cons_option o (taken b)) → said t o (address_in b p) ≡ Some a → said u o (address_in b q) ≡ Some a
        → (AreDistinct (taken b) → address_in b p ≡ Some a → address_in b q ≡ Some a → p ≡ q) → p ≡ q
    by true k true m o d e f rest = sym (eqb-true h.pod p k) ∙ eqb-true h.pod q m
    by true k false m None d e f rest = absurd (cc)
    by true k false m (Some x) d e f rest = absurd (let there = address_member b q a f in let out = d.0 in let same : x ≡ a = cc in cc)
    by false k true m None d e f rest = absurd (cc)
    by false k true m (Some x) d e f rest = absurd (let there = address_member b p a e in let out = d.0 in let same : x ≡ a = cc in cc)
    by false k false m None d e f rest = rest d e f
    by false k false m (Some x) d e f rest = rest d.1 e f

-- ---- who waits

-- a pod of the book without an address waits
pub waiter : (b : Book) (p : ℕ) → contains p (pods_in b) ≡ true → address_in b p ≡ None → someone_waits b ≡ true
waiter [] p there none = absurd (cc)
waiter (h ∷ b) p there none = by (h.pod == p) h.address there (sym (address-cons h b p) ∙ none) (λ k m. waiter b p k m)
  where
    by : (t : Bool) (o : Option ℕ) → (t || contains p (pods_in b)) ≡ true → said t o (address_in b p) ≡ None → (contains p (pods_in b) ≡ true → address_in b p ≡ None → someone_waits b ≡ true)
        → (is_none o || someone_waits b) ≡ true
    by true None there none rest = refl
    by true (Some x) there none rest = absurd (cc)
    by false o there none rest = or_right (is_none o) (someone_waits b) (rest there none)

-- and then fewer are taken than there are pods
pub fewer_taken : (b : Book) → length (taken b) ≤ length (pods_in b)
fewer_taken [] = omega arith
fewer_taken (h ∷ b) = by h.address (fewer_taken b)
  where
    by : (o : Option ℕ) → length (taken b) ≤ length (pods_in b) → length (cons_option o (taken b)) ≤ length (h.pod ∷ pods_in b)
    by None l = omega arith
    by (Some x) l = omega arith

pub less_taken : (b : Book) → someone_waits b ≡ true → length (taken b) + 1 ≤ length (pods_in b)
less_taken [] w = absurd (cc)
less_taken (h ∷ b) w = by h.address w (fewer_taken b) (λ k. less_taken b k)
  where
    by : (o : Option ℕ) → (is_none o || someone_waits b) ≡ true → length (taken b) ≤ length (pods_in b) → (someone_waits b ≡ true → length (taken b) + 1 ≤ length (pods_in b))
        → length (cons_option o (taken b)) + 1 ≤ length (h.pod ∷ pods_in b)
    by None w l rest = omega arith
    by (Some x) w l rest = let less = rest w in omega arith

-- ---- what each step leaves

pub address-given : (a : ℕ) (b : Book) (p x : ℕ) → address_in b p ≡ Some x → address_in (given a b) p ≡ Some x
address-given a [] p x e = e
address-given a (h ∷ b) p x e = by h.address (sym (address-cons h b p) ∙ e) (λ k. address-given a b p x k)
  where
    by : (o : Option ℕ) → said (h.pod == p) o (address_in b p) ≡ Some x → (address_in b p ≡ Some x → address_in (given a b) p ≡ Some x)
        → address_in (cond (is_none o) (record h { address = Some a } ∷ b) (record h { address = o } ∷ given a b)) p ≡ Some x
    by None k rest = address-cons (record h { address = Some a }) b p ∙ one (h.pod == p) k
      where
        one : (t : Bool) → said t None (address_in b p) ≡ Some x → said t (Some a) (address_in b p) ≡ Some x
        one true m = absurd (cc)
        one false m = m
    by (Some y) k rest = address-cons (record h { address = Some y }) (given a b) p ∙ one (h.pod == p) k
      where
        one : (t : Bool) → said t (Some y) (address_in b p) ≡ Some x → said t (Some y) (address_in (given a b) p) ≡ Some x
        one true m = m
        one false m = rest m

pub address-with_pod : (q : ℕ) (b : Book) (p x : ℕ) → address_in b p ≡ Some x → address_in (with_pod q b) p ≡ Some x
address-with_pod q [] p x e = absurd (cc)
address-with_pod q (h ∷ b) p x e = address-cons h (with_pod q b) p ∙ by (h.pod == p) (sym (address-cons h b p) ∙ e) (λ k. address-with_pod q b p x k)
  where
    by : (t : Bool) → said t h.address (address_in b p) ≡ Some x → (address_in b p ≡ Some x → address_in (with_pod q b) p ≡ Some x) → said t h.address (address_in (with_pod q b) p) ≡ Some x
    by true k rest = k
    by false k rest = rest k

pub address-without_pod : (q : ℕ) (b : Book) (p : ℕ) → q ≢ p → address_in (without_pod q b) p ≡ address_in b p
address-without_pod q [] p apart = refl
address-without_pod q (h ∷ b) p apart = by (q == h.pod) refl (address-without_pod q b p apart) ∙ sym (address-cons h b p)
  where
    by : (t : Bool) → (q == h.pod) ≡ t → address_in (without_pod q b) p ≡ address_in b p → address_in (cond (not t) (h ∷ without_pod q b) (without_pod q b)) p ≡ said (h.pod == p) h.address (address_in b p)
    by true k rest = rest ∙ rw (false_from_ne_true (h.pod == p) (λ m. absurd (apart (eqb-true q h.pod k ∙ eqb-true h.pod p m)))) refl
    by false k rest = address-cons h (without_pod q b) p ∙ ap (λ (o : Option ℕ). said (h.pod == p) h.address o) rest

-- the address of a pod that goes is the only one that is free then
pub address_left : (p : ℕ) (b : Book) (x : ℕ) → AreDistinct (pods_in b) → contains x (taken b) ≡ true → contains x (taken (without_pod p b)) ≡ false → address_in b p ≡ Some x
address_left p [] x d e out = absurd (cc)
address_left p (h ∷ b) x d e out =
    address-cons h b p
    ∙ by (p == h.pod) refl (or_cases (says h.address x) (contains x (taken b)) (sym (contains-option x h.address (taken b)) ∙ e)) out (λ k m. address_left p b x d.1 k m)
  where
    at : (o : Option ℕ) → says o x ≡ true → o ≡ Some x
    at None s = absurd (cc)
    at (Some y) s = ap (λ (n : ℕ). Some n) (eqb-true y x s)

    by : (t : Bool) → (p == h.pod) ≡ t → (says h.address x ≡ true) ⊎ (contains x (taken b) ≡ true) → contains x (taken (cond (not t) (h ∷ without_pod p b) (without_pod p b))) ≡ false
        → (contains x (taken b) ≡ true → contains x (taken (without_pod p b)) ≡ false → address_in b p ≡ Some x) → said (h.pod == p) h.address (address_in b p) ≡ Some x
    by true k (inl s) out rest = rw (eq-eqb h.pod p (sym (eqb-true p h.pod k))) (at h.address s)
    by true k (inr s) out rest =
        let same : p ≡ h.pod = eqb-true p h.pod k in
        let left : address_in b p ≡ Some x = rest s out in
        absurd (let none : address_in b p ≡ None = rw same (address-absent b h.pod d.0) in cc)
    by false k o out rest =
        let parts = or_parts (says h.address x) (contains x (taken (without_pod p b))) (sym (contains-option x h.address (taken (without_pod p b))) ∙ out) in
        rw (false_from_ne_true (h.pod == p) (λ m. let same : (p == h.pod) ≡ true = eq-eqb p h.pod (sym (eqb-true h.pod p m)) in absurd (cc))) (rest (in_rest o parts.0) parts.1)
      where
        in_rest : (says h.address x ≡ true) ⊎ (contains x (taken b) ≡ true) → says h.address x ≡ false → contains x (taken b) ≡ true
        in_rest (inl s) n = absurd (cc)
        in_rest (inr s) n = s

-- ---- a new pod

pub address-new : (p : ℕ) (b : Book) → contains p (pods_in b) ≡ false → address_in (with_pod p b) p ≡ None
address-new p [] out = rw (eq-eqb p p refl) refl
address-new p (h ∷ b) out = let parts = or_parts (h.pod == p) (contains p (pods_in b)) out in address-cons h (with_pod p b) p ∙ rw (parts.0) (address-new p b parts.1)

-- where nobody else waits it gets the address that is given
pub address-first : (a p : ℕ) (b : Book) → contains p (pods_in b) ≡ false → someone_waits b ≡ false → address_in (given a (with_pod p b)) p ≡ Some a
address-first a p [] out w = rw (eq-eqb p p refl) refl
address-first a p (h ∷ b) out w =
    let parts = or_parts (h.pod == p) (contains p (pods_in b)) out in
    by h.address parts.0 w (λ k. address-first a p b parts.1 k)
  where
    by : (o : Option ℕ) → (h.pod == p) ≡ false → (is_none o || someone_waits b) ≡ false → (someone_waits b ≡ false → address_in (given a (with_pod p b)) p ≡ Some a)
        → address_in (cond (is_none o) (record h { address = Some a } ∷ with_pod p b) (record h { address = o } ∷ given a (with_pod p b))) p ≡ Some a
    by None e w rest = absurd (cc)
    by (Some y) e w rest = address-cons (record h { address = Some y }) (given a (with_pod p b)) p ∙ rw e (rest w)
