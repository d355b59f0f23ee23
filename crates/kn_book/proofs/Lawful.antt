-- The laws of the addresses, of every trace that events made.
use Rattle.std.proofs.Common.{◌≡◌, ◌≢◌, ℕ, ◌+◌, ◌≤◌, ◌<◌, Bool, true, false, not, ◌&&◌, ◌||◌, List, [], ◌∷◌, ◌++◌, length, refl, sym, ap, subst, ◌∙◌, arith, append-nil, append_assoc}
use Rattle.std.specs.Prelude.{Option, None, Some, IsSome, ◌==◌}
use Rattle.std.proofs.lemmas.Bool.{eqb-true, eq-eqb, false_from_ne_true}
use Rattle.std.proofs.lemmas.List.Elements.{filter_map-append}
use Rattle.std.proofs.lemmas.List.Folds.{list_any-append}
use Rattle.kn_event.specs.declared.entry.Entry.{Entry}
use Rattle.kn_event.specs.declared.entry.Row.{Row}
use Rattle.kn_event.specs.declared.entry.Row.TheVariants as row
use Rattle.kn_event.specs.declared.revision.Spec.{Spec}
use Rattle.kn_event.specs.Lists.{contains}
use Rattle.kn_trace.specs.Rows.{created_by, gone_by}
use Rattle.kn_trace.specs.Trace.{Trace, each_row, live_pods}
use Rattle.kn_record.specs.Facts.{Facts}
use Rattle.kn_record.specs.Made.{IsMade, IsProper}
use Rattle.kn_record.specs.Rows.{says}
use Rattle.kn_book.specs.Book.{Book, address_in, address_of, book_of, call_address, given_where, least_free, noted, noted_all, pods_in, shared_out, taken, with_pod, without_pod}
use Rattle.kn_book.specs.Laws.{IsLeastFree, IsAddressTaken}
use Rattle.kn_book.proofs.Lists.{IsFirst, all_below}
use Rattle.kn_book.proofs.Holdings.{someone_waits, taken-with_pod}
use Rattle.kn_book.proofs.Addresses.{address-absent, address-first, address-given, address-new, address-with_pod, address-without_pod, address_apart, address_member, holder, less_taken, waiter}
use Rattle.kn_book.proofs.Sound.{IsSound, is_free, least, not-false, not-true}
use Rattle.kn_book.proofs.Follows.{IsBook, Views, fresh, is_book, live_pods-push, pods_by}
use Rattle.kn_book.proofs.Turns.{AreRising, in_turn}

-- ---- with addresses, and without

pub address_kept : (n : ℕ) (c : Trace) (p : ℕ) → (n == 0) ≡ false → address_of n c p ≡ address_in (book_of n c) p
unfolding address_of
address_kept n c p e = rw e refl

pub address_number : (n : ℕ) (c : Trace) (p : ℕ) → (n == 0) ≡ true → address_of n c p ≡ Some p
unfolding address_of
address_number n c p e = rw e refl

pub not_zero : (n : ℕ) → n ≢ 0 → (n == 0) ≡ false
not_zero n some = false_from_ne_true (n == 0) (λ e. some (eqb-true n 0 e))

pub without_addresses : (c : Trace) (p : ℕ) → (address_of 0 c p ≡ Some p) × (call_address 0 c p ≡ p)
unfolding address_of call_address
without_addresses c p = (refl, refl)

-- ---- further rows

pub noted_all-append : (n : ℕ) (xs ys : List Entry) (b : Book) → noted_all n (xs ++ ys) b ≡ noted_all n ys (noted_all n xs b)
noted_all-append n [] ys b = refl
noted_all-append n (x ∷ xs) ys b = noted_all-append n xs ys (noted n x.row b)

pub book-append : (n : ℕ) (c es : Trace) → book_of n (c ++ es) ≡ noted_all n es (book_of n c)
unfolding book_of
book-append n c es = noted_all-append n c es []

address-shared : (n : ℕ) (b : Book) (p a : ℕ) → address_in b p ≡ Some a → address_in (shared_out n b) p ≡ Some a
unfolding shared_out
address-shared n b p a e = by (least_free n b)
  where
    by : (o : Option ℕ) → address_in (given_where o b) p ≡ Some a
    by None = e
    by (Some x) = address-given x b p a e

-- a pod that stays keeps its address
address-noted : (facts : Facts) (n : ℕ) (x : Row) (b : Book) (ps : List ℕ) (p a : ℕ) → contains p (pods_by x ps) ≡ true → address_in b p ≡ Some a → address_in (noted n x b) p ≡ Some a
unfolding noted
address-noted facts n (row.Create q limit) b ps p a there e = address-shared n (with_pod q b) p a (address-with_pod q b p a e)
address-noted facts n (row.Remove q) b ps p a there e =
    address-shared n (without_pod q b) p a (address-without_pod q b p (λ same. let other = (facts.lists.filter_member (λ r. not (q == r)) p ps there).1 in let yes = eq-eqb q p same in absurd (let f = not-true (q == p) other in cc)) ∙ e)
address-noted facts n (row.LostPod q) b ps p a there e =
    address-shared n (without_pod q b) p a (address-without_pod q b p (λ same. let other = (facts.lists.filter_member (λ r. not (q == r)) p ps there).1 in let yes = eq-eqb q p same in absurd (let f = not-true (q == p) other in cc)) ∙ e)
address-noted facts n _ b ps p a there e = e

-- a pod that is created gets the least free address
least-with_pod : (n p : ℕ) (b : Book) → least_free n (with_pod p b) ≡ least_free n b
unfolding least_free
least-with_pod n p b = rw (taken-with_pod p b) refl

new_address : (n p : ℕ) (b : Book) → IsSound n b → contains p (pods_in b) ≡ false → address_in (shared_out n (with_pod p b)) p ≡ least_free n b
unfolding shared_out
new_address n p b k out = rw (least-with_pod n p b) (by (least_free n b) refl (someone_waits b) refl)
  where
    by : (o : Option ℕ) → least_free n b ≡ o → (t : Bool) → someone_waits b ≡ t → address_in (given_where o (with_pod p b)) p ≡ o
    by None e t w = address-new p b out
    by (Some a) e false w = address-first a p b out w
    by (Some a) e true w =
        let within = (least n b).within a e in
        let less : a < 0 + n = within.1 in
        absurd (let there = k.full w a (omega arith) in let free = not-true (contains a (taken b)) ((least n b).passes a e) in cc)

created_address : (n p : ℕ) (x : Row) (b : Book) → IsSound n b → contains p (pods_in b) ≡ false → created_by x ≡ Some p → address_in (noted n x b) p ≡ least_free n b
unfolding noted
created_address n p (row.Create q limit) b k out is = let same : q ≡ p = cc in rw same (new_address n p b k out)
created_address n p _ b k out is = absurd (cc)

module _ (facts : Facts) (views : Views) where
  open facts use {entries.{contains-push}, members.{contains-live_pods}, proper.{made_at, made_more}}

  pub has_live_pods : (s : Spec) (n : ℕ) (c : Trace) → IsMade s c → pods_in (book_of n c) ≡ live_pods c
  has_live_pods s n c made = (is_book facts views s n c made).pods

  -- a pod of the trace is one of the book
  listed : (s : Spec) (n : ℕ) (c : Trace) (p : ℕ) (t : Bool) → IsMade s c → contains p (live_pods c) ≡ t → contains p (pods_in (book_of n c)) ≡ t
  listed s n c p t made e = rw (has_live_pods s n c made) e

  -- ---- who has which

  pub apart : (s : Spec) (n : ℕ) (c : Trace) (p q a : ℕ) → IsMade s c → contains p (live_pods c) ≡ true → contains q (live_pods c) ≡ true → p ≢ q → address_of n c p ≡ Some a → address_of n c q ≢ Some a
  apart s n c p q a made live_p live_q other e f = other (by (n == 0) refl)
    where
      by : (t : Bool) → (n == 0) ≡ t → p ≡ q
      by true z = let one : Some p ≡ Some a = sym (address_number n c p z) ∙ e in let two : Some q ≡ Some a = sym (address_number n c q z) ∙ f in cc
      by false z = address_apart (book_of n c) p q a (is_book facts views s n c made).sound.distinct (sym (address_kept n c p z) ∙ e) (sym (address_kept n c q z) ∙ f)

  pub range : (s : Spec) (n : ℕ) (c : Trace) (p a : ℕ) → IsMade s c → n ≢ 0 → address_of n c p ≡ Some a → a < n
  range s n c p a made some e = (is_book facts views s n c made).sound.below a (address_member (book_of n c) p a (sym (address_kept n c p (not_zero n some)) ∙ e))

  pub gone : (s : Spec) (n : ℕ) (c : Trace) (p : ℕ) → IsMade s c → n ≢ 0 → contains p (live_pods c) ≡ false → address_of n c p ≡ None
  gone s n c p made some out = address_kept n c p (not_zero n some) ∙ address-absent (book_of n c) p (listed s n c p false made out)

  taken_there : (s : Spec) (n : ℕ) (c : Trace) (a : ℕ) → IsMade s c → (n == 0) ≡ false → contains a (taken (book_of n c)) ≡ true → IsAddressTaken n c a
  taken_there s n c a made z there = by (holder (book_of n c) a k.sound.pods there)
    where
      k : IsBook n (book_of n c) c
      k = is_book facts views s n c made

      by : (p : ℕ) × (contains p (pods_in (book_of n c)) ≡ true) × (address_in (book_of n c) p ≡ Some a) → IsAddressTaken n c a
      by (p, there, has) = (p, rw (k.pods) at there, address_kept n c p z ∙ has)

  -- ---- a new pod, and who waits

  pub least_is_free : (s : Spec) (n : ℕ) (c : Trace) (o : Option ℕ) → IsMade s c → (n == 0) ≡ false → o ≡ least_free n (book_of n c) → IsLeastFree n c o
  least_is_free s n c o made z is = record {
    free = λ a e. let within = first.within a (sym is ∙ e) in let less : a < 0 + n = within.1 in (omega arith, λ (taker : IsAddressTaken n c a). nobody a e taker);
    lower = λ a e x less. taken_there s n c x made z (not-false (contains x (taken b)) (first.lower a (sym is ∙ e) x (omega arith) less));
    none = λ e x less. taken_there s n c x made z (not-false (contains x (taken b)) (first.none (sym is ∙ e) x (omega arith) (omega arith)));
  }
    where
      b : Book
      b = book_of n c

      first : IsFirst (is_free b) 0 n (least_free n b)
      first = least n b

      nobody : (a : ℕ) → o ≡ Some a → IsAddressTaken n c a → ⊥
      nobody a e (p, there, has) =
          let yes = address_member b p a (sym (address_kept n c p z) ∙ has) in
          let free = not-true (contains a (taken b)) (first.passes a (sym is ∙ e)) in
          cc

  pub created_least : (s : Spec) (n : ℕ) (c : Trace) (e : Entry) (p : ℕ) → IsMade s (c ++ e ∷ []) → n ≢ 0 → created_by e.row ≡ Some p → IsLeastFree n c (address_of n (c ++ e ∷ []) p)
  created_least s n c e p made some is =
      least_is_free s n c (address_of n (c ++ e ∷ []) p) before z
      (address_kept n (c ++ e ∷ []) p z ∙ ap (λ (b : Book). address_in b p) (book-append n c (e ∷ [])) ∙ created_address n p e.row (book_of n c) k.sound out is)
    where
      z : (n == 0) ≡ false
      z = not_zero n some

      at : IsMade s c × IsProper s c e.row
      at = made_at s (c ++ e ∷ []) c e [] made refl

      before : IsMade s c
      before = at.0

      k : IsBook n (book_of n c) c
      k = is_book facts views s n c before

      out : contains p (pods_in (book_of n c)) ≡ false
      out = listed s n c p false before (fresh facts views s c e.row p before at.1 is)

  -- a pod that waits has addresses, and none is free
  full : (s : Spec) (n : ℕ) (c : Trace) (p : ℕ) → IsMade s c → contains p (live_pods c) ≡ true → address_of n c p ≡ None → (someone_waits (book_of n c) ≡ true) × ((n == 0) ≡ false)
  full s n c p made live none = by (n == 0) refl
    where
      by : (t : Bool) → (n == 0) ≡ t → (someone_waits (book_of n c) ≡ true) × ((n == 0) ≡ false)
      by true z = absurd (let is = address_number n c p z in cc)
      by false z = (waiter (book_of n c) p (listed s n c p true made live) (sym (address_kept n c p z) ∙ none), z)

  pub waits : (s : Spec) (n : ℕ) (c : Trace) (p : ℕ) → IsMade s c → contains p (live_pods c) ≡ true → address_of n c p ≡ None → (a : ℕ) → a < n → IsAddressTaken n c a
  waits s n c p made live none a less =
      let w = full s n c p made live none in
      taken_there s n c a made w.1 ((is_book facts views s n c made).sound.full w.0 a less)

  pub enough : (s : Spec) (n : ℕ) (c : Trace) (p : ℕ) → IsMade s c → length (live_pods c) ≤ n → contains p (live_pods c) ≡ true → IsSome (address_of n c p)
  enough s n c p made few live = by (address_of n c p) refl
    where
      by : (o : Option ℕ) → address_of n c p ≡ o → IsSome o
      by (Some a) e = refl
      by None e =
          let w = full s n c p made live e in
          let k = is_book facts views s n c made in
          let all : n ≤ length (taken (book_of n c)) = all_below n (taken (book_of n c)) (λ a less. k.sound.full w.0 a less) in
          let fewer = less_taken (book_of n c) w.0 in
          let same : length (pods_in (book_of n c)) ≡ length (live_pods c) = ap (λ (l : List ℕ). length l) k.pods in
          absurd (omega arith)

  pub turns : (s : Spec) (n : ℕ) (c : Trace) (p q : ℕ) → AreRising (live_pods c) → IsMade s c → contains p (live_pods c) ≡ true → contains q (live_pods c) ≡ true → p < q → address_of n c p ≡ None → address_of n c q ≡ None
  turns s n c p q rise made live_p live_q less none =
      let z = (full s n c p made live_p none).1 in
      let k = is_book facts views s n c made in
      address_kept n c q z
      ∙ in_turn (book_of n c) p q k.sound.order (rw (k.pods) rise) (listed s n c p true made live_p) (listed s n c q true made live_q) less (sym (address_kept n c p z) ∙ none)

  -- ---- while a pod lives

  -- who lives then lives until then
  lives : (c es : Trace) (e : Entry) (p : ℕ) → contains p (live_pods c) ≡ true → contains p (live_pods (c ++ e ∷ es)) ≡ true → contains p (live_pods (c ++ e ∷ [])) ≡ true
  lives c es e p was is =
      contains-live_pods (c ++ e ∷ []) p
      ∙ both (contains p (each_row created_by c)) (contains p (each_row gone_by c)) (contains p (each_row created_by (c ++ e ∷ es))) (contains p (each_row gone_by (c ++ e ∷ []))) (contains p (each_row gone_by es)) (says (created_by e.row) p)
      (contains-push created_by c e p) (sym (contains-live_pods c p) ∙ was) (rw (later) at (sym (contains-live_pods (c ++ e ∷ es) p) ∙ is))
    where
      later : contains p (each_row gone_by (c ++ e ∷ es)) ≡ (contains p (each_row gone_by (c ++ e ∷ [])) || contains p (each_row gone_by es))
      later =
          ap (λ (d : Trace). contains p (each_row gone_by d)) (sym (append_assoc c (e ∷ []) es))
          ∙ ap (λ (l : List ℕ). contains p l) (filter_map-append (λ (x : Entry). gone_by x.row) (c ++ e ∷ []) es)
          ∙ list_any-append (λ y. y == p) (each_row gone_by (c ++ e ∷ [])) (each_row gone_by es)

      both : (m g m' g' r w : Bool) → contains p (each_row created_by (c ++ e ∷ [])) ≡ (m || w) → (m && not g) ≡ true → (m' && not (g' || r)) ≡ true → (contains p (each_row created_by (c ++ e ∷ [])) && not g') ≡ true
      both false g m' g' r w push was is = absurd (cc)
      both true g false g' r w push was is = absurd (cc)
      both true g true true r w push was is = absurd (cc)
      both true g true false r w push was is = rw push refl

  pub kept : (s : Spec) (n : ℕ) (c es : Trace) (p a : ℕ) → IsMade s (c ++ es) → contains p (live_pods c) ≡ true → contains p (live_pods (c ++ es)) ≡ true → address_in (book_of n c) p ≡ Some a → address_in (book_of n (c ++ es)) p ≡ Some a
  kept s n c [] p a made was is e = rw (append-nil c) e
  kept s n c (x ∷ es) p a made was is e =
      let at = made_at s (c ++ x ∷ es) c x es made refl in
      let there = lives c es x p was is in
      let one : address_in (book_of n (c ++ x ∷ [])) p ≡ Some a =
      ap (λ (b : Book). address_in b p) (book-append n c (x ∷ []))
      ∙ address-noted facts n x.row (book_of n c) (live_pods c) p a (rw (← live_pods-push facts views s c x at.0 at.1) there) e in
      subst (λ (d : Trace). address_in (book_of n d) p ≡ Some a) (append_assoc c (x ∷ []) es)
      (kept s n (c ++ x ∷ []) es p a (rw (append_assoc c (x ∷ []) es) made) there (rw (append_assoc c (x ∷ []) es) is) one)

  pub kept_address : (s : Spec) (n : ℕ) (c es : Trace) (p a : ℕ) → IsMade s (c ++ es) → contains p (live_pods c) ≡ true → contains p (live_pods (c ++ es)) ≡ true → address_of n c p ≡ Some a → address_of n (c ++ es) p ≡ Some a
  kept_address s n c es p a made was is e = by (n == 0) refl
    where
      by : (t : Bool) → (n == 0) ≡ t → address_of n (c ++ es) p ≡ Some a
      by true z = address_number n (c ++ es) p z ∙ sym (address_number n c p z) ∙ e
      by false z = address_kept n (c ++ es) p z ∙ kept s n c es p a made was is (sym (address_kept n c p z) ∙ e)
