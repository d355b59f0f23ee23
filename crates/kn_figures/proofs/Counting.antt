-- One row more in a tally.
use Rattle.std.proofs.Common.{◌≡◌, ◌≢◌, ℕ, ◌+◌, ◌-◌, ◌<◌, ◌^◌, min, Bool, true, false, List, [], ◌∷◌, ◌++◌, length, refl, sym, ap, ◌∙◌, arith, length-append, suc, zero, replicate}
use Rattle.std.specs.Prelude.{Option, None, Some, unwrap_or, slice_index, slice_set}
use Rattle.std.specs.List.{filter}
use Rattle.std.proofs.lemmas.Bool.{eqb-true, eq-eqb}
use Rattle.std.proofs.lemmas.List.{append-nil}
use Rattle.std.proofs.lemmas.List.{get_or-set_same, get_or-set_other}
use Rattle.std.proofs.lemmas.List.Elements.{filter-append, filter_map-append}
use Rattle.kn_event.specs.declared.entry.Decision.{Decision}
use Rattle.kn_event.specs.declared.entry.Entry.{Entry}
use Rattle.kn_trace.specs.Rows.{decision_by}
use Rattle.kn_trace.specs.Trace.{Trace, each_row, last_of}
use Rattle.kn_figures.specs.declared.kind.Kind.{Kind}
use Rattle.kn_figures.specs.declared.tally.Tally.{Tally}
use Rattle.kn_figures.specs.Kinds.{is_of, kind_of, place_of}
use Rattle.kn_figures.specs.Tallies.{IsTallyOf, count_in, count_of, last_decision}

-- ---- the counts

one_of : (k : Kind) (e : Entry) → is_of k e.row ≡ true → length (filter (λ (x : Entry). is_of k x.row) (e ∷ [])) ≡ 1
one_of k e is = rw is refl

none_of : (k : Kind) (e : Entry) → is_of k e.row ≡ false → length (filter (λ (x : Entry). is_of k x.row) (e ∷ [])) ≡ 0
none_of k e is = rw is refl

count-append : (k : Kind) (c : Trace) (e : Entry) → count_of k (c ++ e ∷ []) ≡ count_of k c + length (filter (λ (x : Entry). is_of k x.row) (e ∷ []))
unfolding count_of
count-append k c e =
    let p : Entry → Bool = (λ (x : Entry). is_of k x.row) in
    ap length (filter-append p c (e ∷ [])) ∙ length-append (filter p c) (filter p (e ∷ []))

pub raised : (t : Tally) (c : Trace) (e : Entry) (i n : ℕ) → i ≡ place_of (kind_of e.row) → i < length t.counts → n ≡ min (slice_index t.counts i + 1) (2 ^ 64 - 1)
    → ((k : Kind) → count_in t k ≡ min (count_of k c) (2 ^ 64 - 1)) → (k : Kind) → slice_index (slice_set t.counts i n) (place_of k) ≡ min (count_of k (c ++ e ∷ [])) (2 ^ 64 - 1)
raised t c e i n at low sum is k = by (is_of k e.row) refl
  where
    by : (b : Bool) → is_of k e.row ≡ b → slice_index (slice_set t.counts i n) (place_of k) ≡ min (count_of k (c ++ e ∷ [])) (2 ^ 64 - 1)
    by true h =
        let same : i ≡ place_of k = at ∙ eqb-true (place_of (kind_of e.row)) (place_of k) h in
        let was = is k in
        let more = count-append k c e in
        let one = one_of k e h in
        rw (← same) (get_or-set_same t.counts i n 0 low ∙ (let here : slice_index t.counts i ≡ min (count_of k c) (2 ^ 64 - 1) = ap (λ j. slice_index t.counts j) same ∙ was in omega arith))
    by false h =
        let other : place_of k ≢ i = (λ s. let yes = eq-eqb (place_of (kind_of e.row)) (place_of k) (sym at ∙ sym s) in absurd (cc)) in
        let was = is k in
        let more = count-append k c e in
        let none = none_of k e h in
        get_or-set_other t.counts i (place_of k) n 0 other ∙ (was ∙ omega arith)

-- ---- the last decision

last_of-end : (xs : List Decision) (x : Decision) → last_of (xs ++ x ∷ []) ≡ Some x
last_of-end [] x = refl
last_of-end (y ∷ ys) x = ap (λ (o : Option Decision). Some (unwrap_or o y)) (last_of-end ys x)

decisions-append : (c : Trace) (e : Entry) → last_decision (c ++ e ∷ []) ≡ last_of (each_row decision_by c ++ each_row decision_by (e ∷ []))
unfolding last_decision
decisions-append c e = ap (λ (l : List Decision). last_of l) (filter_map-append (λ (x : Entry). decision_by x.row) c (e ∷ []))

pub decided : (c : Trace) (e : Entry) (d : Decision) → decision_by e.row ≡ Some d → last_decision (c ++ e ∷ []) ≡ Some d
decided c e d is = decisions-append c e ∙ (rw is (last_of-end (each_row decision_by c) d))

pub undecided : (c : Trace) (e : Entry) → decision_by e.row ≡ None → last_decision (c ++ e ∷ []) ≡ last_decision c
unfolding last_decision
undecided c e is = decisions-append c e ∙ (rw is (ap (λ (l : List Decision). last_of l) (append-nil (each_row decision_by c))))

-- ---- no row

none_at : (n i : ℕ) → slice_index (replicate n 0) i ≡ 0
none_at zero i = refl
none_at (suc n) zero = refl
none_at (suc n) (suc i) = none_at n i

pub none_yet : IsTallyOf (record { counts = replicate 24 0; decision = None }) []
unfolding count_of last_decision
none_yet = record { counts = λ k. none_at 24 (place_of k); decision = refl }
