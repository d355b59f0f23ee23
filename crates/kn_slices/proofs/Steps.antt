-- What a call leaves of marks, of openings, and of how many changes are left.
use Rattle.std.proofs.Common.{◌≡◌, ◌≤◌, ◌<◌, ℕ, zero, suc, ◌+◌, ◌-◌, Bool, true, false, not, max, nat_le, List, length, get_or, map, refl, ap, ◌∙◌, sym, subst, inl, inr, arith, eq-eqb, [], ◌∷◌}
use Rattle.std.specs.Prelude.{◌==◌, slice_set, if◌then◌else◌}
use Rattle.std.proofs.lemmas.List.{get_or_default, length-set, get_or-set_same, get_or-set_other}
use Rattle.std.proofs.lemmas.Bool.{cases_eq, eqb-true}
use Rattle.kn_event.specs.declared.revision.Spec.{Spec}
use Rattle.kn_core.specs.State.{RevisionState}
use Rattle.kn_slices.specs.Activators.{AreMarked, AreOpened, IsActivator, IsGroupOf, limit_at, running_at}
use Rattle.kn_slices.specs.Group.{IsWithin}
use Rattle.kn_slices.specs.Slices.{force_after, hold, slice_of, unset, unset_at}
use Rattle.kn_slices.proofs.Marks.{bit, count_alike, count_but}

-- ---- one activator is another

-- a number of each activator, where that of the changed one is the same
pub set_alike : (f : RevisionState → ℕ) (parts : List RevisionState) (i : ℕ) (y : RevisionState) → ((d : RevisionState) → f y ≡ f (get_or parts i d))
    → (k : ℕ) (a b : RevisionState) → k < length parts → f (get_or parts k a) ≡ f (get_or (slice_set parts i y) k b)
set_alike f parts i y same k a b low = elim (cases_eq k i) [
  | inl at ↦ let here : i < length parts = omega (arith, low, at) in
      subst (λ n. f (get_or parts n a) ≡ f (get_or (slice_set parts i y) n b)) (sym at) (sym (same a) ∙ ap f (sym (get_or-set_same parts i y b here)))
  | inr other ↦ ap f (get_or_default parts k a b low ∙ sym (get_or-set_other parts i k y b other))
]

-- of each other activator
pub set_others : (f : RevisionState → ℕ) (parts : List RevisionState) (i : ℕ) (y : RevisionState) (k : ℕ) (a b : RevisionState) → k < length parts → (k ≡ i → ⊥)
    → f (get_or parts k a) ≡ f (get_or (slice_set parts i y) k b)
set_others f parts i y k a b low other = ap f (get_or_default parts k a b low ∙ sym (get_or-set_other parts i k y b other))

-- is another than its slice
abbrev pub differs : ℕ → ℕ → ℕ → ℕ → Bool
differs limit w i n = not (limit == slice_of w i n)

module _ (parts : List RevisionState) (wanted : List ℕ) (i : ℕ) (y : RevisionState) (low : i < length parts) where
  -- no limit changes
  pub marks_keep : (marks : List ℕ) → ((p : ℕ) (d : RevisionState) → p < length wanted → limit_at p y ≡ limit_at p (get_or parts i d)) → AreMarked parts wanted marks → AreMarked (slice_set parts i y) wanted marks
  marks_keep marks same marked = record {
    many = marked.many;
    each = λ p inside.
        let w = get_or wanted p 0 in
        let n = length parts in
        let counted : unset_at (limit_at p) n w parts ≡ unset_at (limit_at p) n w (slice_set parts i y) =
        count_alike (λ j a. differs (limit_at p a) w j n) (λ j a. differs (limit_at p a) w j n) 0 parts (slice_set parts i y) (sym (length-set parts i y))
        (λ k a b here. ap (λ l. differs l w (0 + k) n) (set_alike (limit_at p) parts i y (λ d. same p d inside) k a b here)) in
        marked.each p inside ∙ (counted ∙ ap (λ m. unset_at (limit_at p) m w (slice_set parts i y)) (sym (length-set parts i y)));
  }

  pub unset_keeps : ((p : ℕ) (d : RevisionState) → p < length wanted → limit_at p y ≡ limit_at p (get_or parts i d)) → (j : ℕ) (d : RevisionState) → j < length parts
      → unset limit_at (length (slice_set parts i y)) j wanted (get_or (slice_set parts i y) j d) ≡ unset limit_at (length parts) j wanted (get_or parts j d)
  unset_keeps same j d inside =
      let n = length parts in
      ap (λ m. unset limit_at m j wanted (get_or (slice_set parts i y) j d)) (length-set parts i y)
      ∙ count_alike (λ p w. differs (limit_at p (get_or (slice_set parts i y) j d)) w j n) (λ p w. differs (limit_at p (get_or parts j d)) w j n) 0 wanted wanted refl
      (λ p a b here. ap (λ l. differs l (get_or wanted p a) j n) (sym (set_alike (limit_at (0 + p)) parts i y (λ d. same (0 + p) d (omega (arith, here))) j d d inside))
      ∙ ap (λ w. differs (limit_at (0 + p) (get_or parts j d)) w j n) (get_or_default wanted p a b here))

  pub opened_keeps : (limit start : ℕ) → ((d : RevisionState) → y.spec ≡ (get_or parts i d).spec) → ((d : RevisionState) → y.start ≡ (get_or parts i d).start) → AreOpened limit start parts → AreOpened limit start (slice_set parts i y)
  opened_keeps limit start spec begins opened = record {
    least = subst (λ n. n ≤ limit) (sym (length-set parts i y)) opened.least;
    slices = λ k d inside.
        let here : k < length parts = subst (λ n. k < n) (length-set parts i y) inside in
        sym (set_alike (λ x. x.spec.cc) parts i y (λ d. ap (λ (s : Spec). s.cc) (spec d)) k d d here) ∙ (opened.slices k d here ∙ ap (slice_of limit k) (sym (length-set parts i y)));
    starts = λ k d inside.
        let here : k < length parts = subst (λ n. k < n) (length-set parts i y) inside in
        sym (set_alike (λ x. x.start) parts i y begins k d d here) ∙ opened.starts k d here;
  }

-- a list of what each activator has
pub map-set : {A B : Type 0} (f : A → B) (xs : List A) (i : ℕ) (y : A) → map f (slice_set xs i y) ≡ slice_set (map f xs) i (f y)
map-set f [] i y = refl
map-set f (x ∷ xs) zero y = refl
map-set f (x ∷ xs) (suc i) y = ap (λ l. f x ∷ l) (map-set f xs i y)

pub map-set_same : {A B : Type 0} (f : A → B) (xs : List A) (i : ℕ) (y : A) → i < length xs → ((d : A) → f y ≡ f (get_or xs i d)) → map f (slice_set xs i y) ≡ map f xs
map-set_same f [] i y low same = refl
map-set_same f (x ∷ xs) zero y low same = ap (λ z. z ∷ map f xs) (same x)
map-set_same f (x ∷ xs) (suc i) y low same = ap (λ l. f x ∷ l) (map-set_same f xs i y (omega (arith, low)) same)

-- ---- a limit becomes the slice

module _ (parts : List RevisionState) (wanted : List ℕ) (p i limit : ℕ) (y : RevisionState) (low : i < length parts) (there : p < length wanted)
    (value : limit ≡ slice_of (get_or wanted p 0) i (length parts)) (other : (d : RevisionState) → limit ≡ limit_at p (get_or parts i d) → ⊥)
    (here : limit_at p y ≡ limit) (others : (q : ℕ) (d : RevisionState) → q < length wanted → (q ≡ p → ⊥) → limit_at q y ≡ limit_at q (get_or parts i d)) where
  now_slice : (w : ℕ) → w ≡ get_or wanted p 0 → differs (limit_at p y) w i (length parts) ≡ false
  now_slice w e = ap not (eq-eqb (limit_at p y) (slice_of w i (length parts)) (here ∙ (value ∙ ap (λ w. slice_of w i (length parts)) (sym e))))

  was_other : (d : RevisionState) (w : ℕ) → w ≡ get_or wanted p 0 → differs (limit_at p (get_or parts i d)) w i (length parts) ≡ true
  was_other d w e = by (limit_at p (get_or parts i d) == slice_of w i (length parts)) refl
    where
      by : (b : Bool) → (limit_at p (get_or parts i d) == slice_of w i (length parts)) ≡ b → not b ≡ true
      by true t = absurd (other d (value ∙ (ap (λ w. slice_of w i (length parts)) (sym e) ∙ sym (eqb-true (limit_at p (get_or parts i d)) (slice_of w i (length parts)) t))))
      by false t = refl

  pub one_set : (d : RevisionState) → unset_at (limit_at p) (length parts) (get_or wanted p 0) (slice_set parts i y) + 1 ≡ unset_at (limit_at p) (length parts) (get_or wanted p 0) parts
  one_set d =
      let w = get_or wanted p 0 in
      let n = length parts in
      let counted = count_but (λ j a. differs (limit_at p a) w j n) (λ j a. differs (limit_at p a) w j n) i 0 parts (slice_set parts i y) d d (sym (length-set parts i y)) low
      (λ k a b inside apart. ap (λ l. differs l w (0 + k) n) (set_others (limit_at p) parts i y k a b inside apart)) in
      let old : bit (differs (limit_at p (get_or parts i d)) w (0 + i) n) ≡ 1 = ap (λ j. bit (differs (limit_at p (get_or parts i d)) w j n)) (omega arith) ∙ ap bit (was_other d w refl) in
      let new : bit (differs (limit_at p (get_or (slice_set parts i y) i d)) w (0 + i) n) ≡ 0 =
      ap (λ x. bit (differs (limit_at p x) w (0 + i) n)) (get_or-set_same parts i y d low) ∙ (ap (λ j. bit (differs (limit_at p y) w j n)) (omega arith) ∙ ap bit (now_slice w refl)) in
      omega (arith, counted, old, new)

  pub marks_set : (marks : List ℕ) (d : RevisionState) → AreMarked parts wanted marks → AreMarked (slice_set parts i y) wanted (slice_set marks p (get_or marks p 0 - 1))
  marks_set marks d marked = record {
    many = length-set marks p (get_or marks p 0 - 1) ∙ marked.many;
    each = λ q inside. elim (cases_eq q p) [
      | inl same ↦ subst (λ k. get_or (slice_set marks p (get_or marks p 0 - 1)) k 0 ≡ unset_at (limit_at k) (length (slice_set parts i y)) (get_or wanted k 0) (slice_set parts i y)) (sym same)
          (get_or-set_same marks p (get_or marks p 0 - 1) 0 (omega (arith, there, marked.many)) ∙ (
          let was = marked.each p there in
          let one = one_set d in
          let less : get_or marks p 0 - 1 ≡ unset_at (limit_at p) (length parts) (get_or wanted p 0) (slice_set parts i y) = omega (arith, was, one) in
          less ∙ ap (λ m. unset_at (limit_at p) m (get_or wanted p 0) (slice_set parts i y)) (sym (length-set parts i y))))
      | inr apart ↦ get_or-set_other marks p q (get_or marks p 0 - 1) 0 apart ∙ (marked.each q inside ∙ (
          count_alike (λ j a. differs (limit_at q a) (get_or wanted q 0) j (length parts)) (λ j a. differs (limit_at q a) (get_or wanted q 0) j (length parts)) 0 parts (slice_set parts i y) (sym (length-set parts i y))
          (λ k a b here. ap (λ l. differs l (get_or wanted q 0) (0 + k) (length parts)) (set_alike (limit_at q) parts i y (λ d. others q d inside apart) k a b here))
          ∙ ap (λ m. unset_at (limit_at q) m (get_or wanted q 0) (slice_set parts i y)) (sym (length-set parts i y))))
    ];
  }

  -- at one pod less the activator's limit isn't its slice
  pub one_less : (d : RevisionState) → unset limit_at (length (slice_set parts i y)) i wanted (get_or (slice_set parts i y) i d) + 1 ≡ unset limit_at (length parts) i wanted (get_or parts i d)
  one_less d =
      let n = length parts in
      let new = ap (λ m. unset limit_at m i wanted (get_or (slice_set parts i y) i d)) (length-set parts i y) ∙ ap (unset limit_at n i wanted) (get_or-set_same parts i y d low) in
      let counted = count_but (λ q w. differs (limit_at q (get_or parts i d)) w i n) (λ q w. differs (limit_at q y) w i n) p 0 wanted wanted 0 0 refl there
      (λ q a b inside apart. ap (λ l. differs l (get_or wanted q a) i n) (sym (others (0 + q) d (omega (arith, inside)) (λ e. apart (omega (arith, e))))) ∙ ap (λ w. differs (limit_at (0 + q) y) w i n) (get_or_default wanted q a b inside)) in
      let was : bit (differs (limit_at (0 + p) (get_or parts i d)) (get_or wanted p 0) i n) ≡ 1 = ap (λ q. bit (differs (limit_at q (get_or parts i d)) (get_or wanted p 0) i n)) (omega arith) ∙ ap bit (was_other d (get_or wanted p 0) refl) in
      let is : bit (differs (limit_at (0 + p) y) (get_or wanted p 0) i n) ≡ 0 = ap (λ q. bit (differs (limit_at q y) (get_or wanted p 0) i n)) (omega arith) ∙ ap bit (now_slice (get_or wanted p 0) refl) in
      omega (arith, counted, was, is, new)

-- ---- another limit is wanted

-- at one pod more at most
pub one_more : (a : RevisionState) (wanted : List ℕ) (n j p limit : ℕ) → p < length wanted → unset limit_at n j (slice_set wanted p limit) a ≤ unset limit_at n j wanted a + 1
one_more a wanted n j p limit low =
    let counted = count_but (λ q w. differs (limit_at q a) w j n) (λ q w. differs (limit_at q a) w j n) p 0 wanted (slice_set wanted p limit) 0 0 (sym (length-set wanted p limit)) low
    (λ q x y inside apart. ap (λ w. differs (limit_at (0 + q) a) w j n) (get_or_default wanted q x y inside ∙ sym (get_or-set_other wanted p q limit y apart))) in
    let few = bit_most (differs (limit_at (0 + p) a) (get_or (slice_set wanted p limit) p 0) j n) in
    let most = bit_most (differs (limit_at (0 + p) a) (get_or wanted p 0) j n) in
    omega (arith, counted, few, most)
  where
    bit_most : (b : Bool) → bit b ≤ 1
    bit_most true = omega arith
    bit_most false = omega arith

pub marks_asked : (parts : List RevisionState) (wanted marks : List ℕ) (p limit count : ℕ) → p < length wanted → count ≡ unset_at (limit_at p) (length parts) limit parts → AreMarked parts wanted marks
    → AreMarked parts (slice_set wanted p limit) (slice_set marks p count)
marks_asked parts wanted marks p limit count low is marked = record {
  many = length-set marks p count ∙ (marked.many ∙ sym (length-set wanted p limit));
  each = λ q inside. elim (cases_eq q p) [
    | inl same ↦ subst (λ k. get_or (slice_set marks p count) k 0 ≡ unset_at (limit_at k) (length parts) (get_or (slice_set wanted p limit) k 0) parts) (sym same)
        (get_or-set_same marks p count 0 (omega (arith, low, marked.many)) ∙ (is ∙ ap (λ w. unset_at (limit_at p) (length parts) w parts) (sym (get_or-set_same wanted p limit 0 low))))
    | inr apart ↦ get_or-set_other marks p q count 0 apart ∙ (marked.each q (subst (λ n. q < n) (length-set wanted p limit) inside) ∙ ap (λ w. unset_at (limit_at q) (length parts) w parts) (sym (get_or-set_other wanted p q limit 0 apart)))
  ];
}

pub asked : (n held limit force force' : ℕ) → held ≤ force → n ≤ limit → limit ≤ 1000 → force ≤ 1000 → force' ≡ force_after held limit (max force limit) → IsWithin n held limit force'
asked n held limit force force' within least most top is = by (nat_le held limit) refl
  where
    fits : nat_le held limit ≡ true → held ≤ limit
    fits t = grind (arith, t)

    no : nat_le held limit ≡ false → held ≤ limit → ⊥
    no f up = grind (arith, f, up)

    by : (b : Bool) → nat_le held limit ≡ b → IsWithin n held limit force'
    by true t = let e : force' ≡ limit = is ∙ ap (λ b. if b then limit else max force limit) t in
        record { within = omega (arith, e, fits t); above = omega (arith, e); same = λ _. e; least = least; most = omega (arith, e, most) }
    by false t = let e : force' ≡ max force limit = is ∙ ap (λ b. if b then limit else max force limit) t in
        record { within = omega (arith, e, within); above = omega (arith, e); same = λ up. absurd (no t up); least = least; most = omega (arith, e, most, top) }

pub group_asked : (parts : List RevisionState) (wanted force : List ℕ) (p limit next : ℕ) → p < length wanted → length parts ≤ limit → limit ≤ 1000 → next ≡ force_after (hold (limit_at p) (running_at p) parts) limit (max (get_or force p 0) limit)
    → IsGroupOf parts wanted force → IsGroupOf parts (slice_set wanted p limit) (slice_set force p next)
group_asked parts wanted force p limit next low least most is g =
    let len = length-set wanted p limit in
    record {
      group = record {
        some = g.group.some;
        few = g.group.few;
        pods = subst (λ n. n ≤ 500) (sym len) g.group.pods;
        many = length-set force p next ∙ (g.group.many ∙ sym len);
        each = λ q inside. elim (cases_eq q p) [
          | inl same ↦ subst (λ k. IsWithin (length parts) (hold (limit_at k) (running_at k) parts) (get_or (slice_set wanted p limit) k 0) (get_or (slice_set force p next) k 0)) (sym same)
              (let each = g.group.each p low in
              subst (λ w. IsWithin (length parts) (hold (limit_at p) (running_at p) parts) w (get_or (slice_set force p next) p 0)) (sym (get_or-set_same wanted p limit 0 low))
              (subst (λ f. IsWithin (length parts) (hold (limit_at p) (running_at p) parts) limit f) (sym (get_or-set_same force p next 0 (omega (arith, low, g.group.many))))
              (asked (length parts) (hold (limit_at p) (running_at p) parts) limit (get_or force p 0) next each.within least most each.most is)))
          | inr apart ↦
              subst (λ w. IsWithin (length parts) (hold (limit_at q) (running_at q) parts) w (get_or (slice_set force p next) q 0)) (sym (get_or-set_other wanted p q limit 0 apart))
              (subst (λ f. IsWithin (length parts) (hold (limit_at q) (running_at q) parts) (get_or wanted q 0) f) (sym (get_or-set_other force p q next 0 apart)) (g.group.each q (subst (λ n. q < n) len inside)))
        ];
      };
      activators = λ k d inside. subst (λ n. IsActivator n (get_or parts k d)) (sym len) (g.activators k d inside);
    }
