-- Of two pods that live the later one waits where the earlier does.
use Rattle.std.proofs.Common.{◌≡◌, ℕ, suc, ◌<◌, Bool, true, false, ◌||◌, ◌⊎◌, inl, inr, List, [], ◌∷◌, length, get_or, refl, sym, ◌∙◌, arith}
use Rattle.std.specs.Prelude.{Option, None, Some, ◌==◌, ⊤}
use Rattle.std.specs.List.{AllPairs}
use Rattle.std.proofs.lemmas.Bool.{eqb-true, or_cases}
use Rattle.kn_event.specs.Lists.{contains}
use Rattle.kn_record.specs.declared.admission.Pod.{Pod}
use Rattle.kn_record.specs.Views.{pod_numbers}
use Rattle.kn_book.specs.Book.{Book, address_in, pods_in, taken}
use Rattle.kn_book.proofs.Holdings.{WaitLast}
use Rattle.kn_book.proofs.Addresses.{address-cons, address_member, said}

-- each number is below all later ones
abbrev pub AreRising : List ℕ → Type 0
AreRising [] = ⊤
AreRising (x ∷ xs) = ((y : ℕ) → contains y xs ≡ true → x < y) × AreRising xs

first_below : (x : Pod) (all : List Pod) → ((k : ℕ) (d : Pod) → k < length all → x.number < (get_or all k d).number) → (y : ℕ) → contains y (pod_numbers all) ≡ true → x.number < y
first_below x [] below y h = absurd (cc)
first_below x (q ∷ all) below y h = by (or_cases (q.number == y) (contains y (pod_numbers all)) h) (λ k. first_below x all (λ i d less. below (suc i) d (omega arith)) y k)
  where
    by : ((q.number == y) ≡ true) ⊎ (contains y (pod_numbers all) ≡ true) → (contains y (pod_numbers all) ≡ true → x.number < y) → x.number < y
    by (inl e) rest = let same : q.number ≡ y = eqb-true q.number y e in let less : x.number < q.number = below 0 q (omega arith) in omega arith
    by (inr k) rest = rest k

pub rising : (all : List Pod) → AllPairs (λ (x y : Pod). x.number < y.number) all → AreRising (pod_numbers all)
rising [] rise = tt
rising (x ∷ all) rise = (first_below x all (λ k d less. rise 0 (suc k) d (omega arith) (omega arith)), rising all (λ i j d less within. rise (suc i) (suc j) d (omega arith) (omega arith)))

pub in_turn : (b : Book) (p q : ℕ) → WaitLast b → AreRising (pods_in b) → contains p (pods_in b) ≡ true → contains q (pods_in b) ≡ true → p < q → address_in b p ≡ None → address_in b q ≡ None
in_turn [] p q last rise there after less none = absurd (cc)
in_turn (h ∷ b) p q last rise there after less none =
    address-cons h b q ∙ by (h.pod == p) refl (h.pod == q) refl there after (sym (address-cons h b p) ∙ none) (λ k m e. in_turn b p q last.1 rise.1 k m less e)
  where
    no_more : taken b ≡ [] → (o : Option ℕ) → address_in b q ≡ o → o ≡ None
    no_more e None is = refl
    no_more e (Some a) is = absurd (let yes = address_member b q a is in let other : contains a (taken b) ≡ false = rw e refl in cc)

    by : (t : Bool) → (h.pod == p) ≡ t → (u : Bool) → (h.pod == q) ≡ u → (t || contains p (pods_in b)) ≡ true → (u || contains q (pods_in b)) ≡ true → said t h.address (address_in b p) ≡ None
        → (contains p (pods_in b) ≡ true → contains q (pods_in b) ≡ true → address_in b p ≡ None → address_in b q ≡ None) → said u h.address (address_in b q) ≡ None
    by true k true m there after none rest = let same : p ≡ q = sym (eqb-true h.pod p k) ∙ eqb-true h.pod q m in absurd (omega arith)
    by true k false m there after none rest = no_more (last.0 none) (address_in b q) refl
    by false k true m there after none rest = let same : h.pod ≡ q = eqb-true h.pod q m in let below : h.pod < p = rise.0 p there in absurd (omega arith)
    by false k false m there after none rest = rest there after none
