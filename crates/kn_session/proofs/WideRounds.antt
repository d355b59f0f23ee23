-- One round more over several revisions, and what is noted of it in the works.
use Rattle.std.specs.List.{list_any}
use Rattle.std.proofs.Common.{◌≡◌, ◌≢◌, inl, inr, ◌<◌, ℕ, ◌+◌, List, [], ◌∷◌, ◌++◌, Bool, false, refl, sym, ap, ◌∙◌, subst, length, map, arith, length-append, eq-eqb}
use Rattle.std.proofs.lemmas.Bool.Decides.{eqb_tells}
use Rattle.std.proofs.lemmas.List.{get_or-map, get_or-set_same, get_or-set_other, length-set, map-set}
use Rattle.std.specs.Prelude.{Option, None, Some, IfSome, ◌==◌, ◌||◌, ◌&&◌, slice_index_or, slice_set, ⊤}
use Rattle.atomic_table.specs.Seated.{TableId}
use Rattle.kn_event.specs.declared.revision.Spec.{Spec}
use Rattle.kn_cell.specs.Shown.{PassView}
use Rattle.kn_request.specs.declared.slot.Ended.{Ended}
use Rattle.kn_request.specs.declared.slot.Work.{Work}
use Rattle.kn_request.specs.Wide.{EachPass, ServesWide, WideCauses, faults_in, memories_in, passes_in}
use Rattle.kn_session.specs.WidePasses.{IsWideDone}
use Rattle.kn_session.specs.Wide.{AllWide, AreWide, OneWide, WideSides, at_flag, counts_at, faults_at, wants_at}
use Rattle.kn_session.proofs.RoundFacts.{any_one}
use Rattle.kn_session.proofs.ShareEndings.{place_of}

-- ---- in the works

noted : (f : Work → Bool) (test : Bool) (xs : List Work) (i v : ℕ) (y d : Work) → i < length xs → f y ≡ (test || f (slice_index_or xs i d)) → at_flag (map f (slice_set xs i y)) v ≡ (((i == v) && test) || at_flag (map f xs) v)
noted f test xs i v y d low e = elim (eqb_tells i v) [
  | inl k ↦
      let zs = slice_set xs i y in
      let low' : i < length zs = let n = length-set xs i y in omega arith in
      let a : at_flag (map f zs) i ≡ f y = get_or-map f zs i d false low' ∙ ap f (get_or-set_same xs i y d low) in
      let b : at_flag (map f xs) i ≡ f (slice_index_or xs i d) = get_or-map f xs i d false low in
      let c : (((i == i) && test) || at_flag (map f xs) i) ≡ (test || f (slice_index_or xs i d)) = ap (λ t. (t && test) || at_flag (map f xs) i) (eq-eqb i i refl) ∙ ap (λ z. test || z) b in
      let here : at_flag (map f zs) i ≡ (((i == i) && test) || at_flag (map f xs) i) = a ∙ (e ∙ sym c) in
      subst (λ n. at_flag (map f zs) n ≡ (((i == n) && test) || at_flag (map f xs) n)) k.1 here
  | inr k ↦
      let ne : v ≢ i = (λ n. k.1 (sym n)) in
      ap (λ l. at_flag l v) (map-set f xs i y) ∙ (get_or-set_other (map f xs) i v (f y) false ne ∙ ap (λ t. (t && test) || at_flag (map f xs) v) (sym k.0))
]

counts_is : (v : ℕ) (of : Option ℕ) → counts_at v of ≡ (place_of of == v)
counts_is v None = refl
counts_is v (Some u) = refl

pub noted_at : (f : Work → Bool) (test : Bool) (xs : List Work) (of : Option ℕ) (i v : ℕ) (y d : Work) → i ≡ place_of of → i < length xs → f y ≡ (test || f (slice_index_or xs i d))
    → at_flag (map f (slice_set xs i y)) v ≡ ((counts_at v of && test) || at_flag (map f xs) v)
noted_at f test xs of i v y d is low e =
    noted f test xs i v y d low e ∙ ap (λ b. (b && test) || at_flag (map f xs) v) (ap (λ k. k == v) is ∙ sym (counts_is v of))

pub place_low : (n : ℕ) (of : Option ℕ) → IfSome of (λ v. v < n) → 0 < n → place_of of < n
place_low n None inside some = some
place_low n (Some u) inside some = inside

-- ---- the rounds

wide_one : (Then : List (Option PassView) → Type 0) (reading : ℕ → Type 0) (specs : List Spec) (tag : ℕ) (es : List Ended) (e : Ended) (ps qs qs' : List (Option PassView)) (a b b' : WideSides)
    → AreWide Then reading specs tag es ps qs a b → OneWide Then reading specs (tag + length es) qs qs' b b' e → AreWide Then reading specs tag (es ++ e ∷ []) ps qs' a b'
wide_one Then reading specs tag [] e ps qs qs' a b b' r one =
    let n : tag + 0 ≡ tag = omega arith in
    let one' = subst (λ k. OneWide Then reading specs k qs qs' b b' e) n one in
    let here = subst (λ (l : List (Option PassView)). OneWide Then reading specs tag l qs' a b' e) r.0 (subst (λ (x : WideSides). OneWide Then reading specs tag qs qs' x b' e) r.1 one') in
    (qs', b', here, (refl, refl))
wide_one Then reading specs tag (x ∷ xs) e ps qs qs' a b b' r one =
    let n : tag + length (x ∷ xs) ≡ (tag + 1) + length xs = omega arith in
    (r.0, r.1, r.2, wide_one Then reading specs (tag + 1) xs e r.0 qs qs' r.1 b b' r.3 (subst (λ k. OneWide Then reading specs k qs qs' b b' e) n one))

pub none_wide : (Then : List (Option PassView) → Type 0) (reading : ℕ → Type 0) (specs : List Spec) (tag : ℕ) (ps : List (Option PassView)) (a : WideSides) (fs ms : List Bool)
    → ((v : ℕ) → at_flag fs v ≡ false) → ((v : ℕ) → at_flag ms v ≡ false) → AllWide Then reading specs tag 0 ps ps a a fs ms
none_wide Then reading specs tag ps a fs ms f m = record { endings = []; all = refl; rounds = (refl, refl); faulty = λ v low. f v; wanting = λ v low. m v }

any_more : (f : Ended → Bool) (es : List Ended) (e : Ended) → list_any f (es ++ e ∷ []) ≡ (f e || list_any f es)
any_more f es e = any_one f (list_any f) refl (λ x xs. refl) es e

pub more_wide : (Then : List (Option PassView) → Type 0) (reading : ℕ → Type 0) (specs : List Spec) (tag count : ℕ) (e : Ended) (ps qs qs' : List (Option PassView)) (a b b' : WideSides) (fs fs' ms ms' : List Bool)
    → AllWide Then reading specs tag count ps qs a b fs ms → OneWide Then reading specs (tag + count) qs qs' b b' e
    → ((v : ℕ) → v < length specs → at_flag fs' v ≡ (faults_at v e || at_flag fs v)) → ((v : ℕ) → v < length specs → at_flag ms' v ≡ (wants_at v e || at_flag ms v))
    → AllWide Then reading specs tag (count + 1) ps qs' a b' fs' ms'
more_wide Then reading specs tag count e ps qs qs' a b b' fs fs' ms ms' r one f m = record {
  endings = r.endings ++ e ∷ [];
  all = length-append r.endings (e ∷ []) ∙ ap (λ n. n + 1) r.all;
  rounds = wide_one Then reading specs tag r.endings e ps qs qs' a b b' r.rounds (subst (λ n. OneWide Then reading specs (tag + n) qs qs' b b' e) (sym r.all) one);
  faulty = λ v low. f v low ∙ (ap (λ k. faults_at v e || k) (r.faulty v low) ∙ sym (any_more (faults_at v) r.endings e));
  wanting = λ v low. m v low ∙ (ap (λ k. wants_at v e || k) (r.wanting v low) ∙ sym (any_more (wants_at v) r.endings e));
}

pub more_done : (reading : ℕ → Type 0) (cells : List TableId) (specs : List Spec) (tag count links links' links'' : ℕ) (e : Ended) (w0 w1 w2 w3 : List Work) (a b b' : WideSides)
    → length w0 ≡ length specs → IsWideDone reading cells specs tag count links links' w0 w1 a b
    → ServesWide reading specs (tag + count) (passes_in w1) (passes_in w2) b.wires b'.wires e.revision b.said b'.said e.served → WideCauses b.faults b'.faults b.breaks b'.breaks e.revision e.served
    → links'' ≡ links' → length w2 ≡ length w1 → faults_in w2 ≡ faults_in w1 → memories_in w2 ≡ memories_in w1 → EachPass cells (passes_in w2)
    → length w3 ≡ length w2 → passes_in w3 ≡ passes_in w2
    → ((v : ℕ) → v < length w2 → at_flag (faults_in w3) v ≡ (faults_at v e || at_flag (faults_in w2) v)) → ((v : ℕ) → v < length w2 → at_flag (memories_in w3) v ≡ (wants_at v e || at_flag (memories_in w2) v))
    → IsWideDone reading cells specs tag (count + 1) links links'' w0 w3 a b'
more_done reading cells specs tag count links links' links'' e w0 w1 w2 w3 a b b' many done serves causes linked worked fault memory passes marked same faults wants =
    let worked' = done.worked in
    let all = more_wide (λ _. ⊤) reading specs tag count e (passes_in w0) (passes_in w1) (passes_in w2) a b b' (faults_in w1) (faults_in w3) (memories_in w1) (memories_in w3) done.all
    (record { then = tt; served = serves; causes = causes })
    (λ v low. faults v (omega arith) ∙ ap (λ l. faults_at v e || at_flag l v) fault)
    (λ v low. wants v (omega arith) ∙ ap (λ l. wants_at v e || at_flag l v) memory) in
    record {
      all = subst (λ l. AllWide (λ _. ⊤) reading specs tag (count + 1) (passes_in w0) l a b' (faults_in w3) (memories_in w3)) (sym same) all;
      passes = subst (EachPass cells) (sym same) passes;
      linked = linked ∙ done.linked;
      worked = marked ∙ (worked ∙ worked');
    }
