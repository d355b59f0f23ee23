-- In a legal history whose passes end their own requests alone, nobody ends another's request.
use Rattle.std.proofs.Common.{◌≡◌, ◌≢◌, inl, inr, ℕ, ◌≤◌, List, [], ◌∷◌, ◌++◌, Bool, true, false, refl, sym, ap, ◌∙◌, subst, arith, eqb-true}
use Rattle.std.specs.Prelude.{Some, cond, ◌==◌}
use Rattle.std.proofs.Math.Logic.{∥∥₁_elim}
use Rattle.kn_event.specs.declared.event.Act.TheVariants as act
use Rattle.kn_event.specs.declared.revision.Spec.{Spec}
use Rattle.kn_trace.specs.Events.{react, told_of}
use Rattle.kn_trace.specs.Outcome.{Outcome, outcome_of}
use Rattle.kn_trace.specs.Trace.{Trace, arrivals}
use Rattle.kn_sizes.specs.Told.{arrival_told}
use Rattle.kn_core.specs.State.{RevisionState, StandsFor, StandsForSome}
use Rattle.kn_cell.specs.declared.past.Past.{Past}
use Rattle.kn_cell.specs.Lists.{Each, StartsWith}
use Rattle.kn_cell.specs.History.{IsLegal, IsLegalFrom, rows_by, trace_after}
use Rattle.kn_cell.specs.Shown.{PassView}
use Rattle.kn_request.specs.Laws.{Made}
use Rattle.kn_request.specs.Sight.{EndsBy, IsAlone}
use Rattle.kn_session.specs.Laws.{SessionLaws}
use Rattle.kn_session.specs.Lists.{HasOne}
use Rattle.kn_session.specs.Own.{IsEndOf, IsArrivalOf, IsAloneIn, NamesOwn}
use Rattle.kn_session.proofs.ListFacts.{each_left, in_rows, trace_after-append}

-- an arrival is told how many there were
number_is : SessionLaws → (s : Spec) (c : Trace) (x : Past) (r : ℕ) → Made s c → x.told ≡ told_of s c x.event → IsArrivalOf r x → r ≡ arrivals c
number_is laws s c x r made told a = laws.number s c x.event a.0 r made a.1 (ap arrival_told (sym told) ∙ a.2)

abbrev By : ℕ → ℕ → Past → Type 0
By r n x = IsArrivalOf r x × (x.pass ≡ n)

later_number : SessionLaws → (s : Spec) (r n now : ℕ) (c : Trace) (h : List Past) → Made s c → IsLegalFrom s now c h → HasOne (By r n) h → arrivals c ≤ r
later_number laws s r n now c [] made legal has = absurd has
later_number laws s r n now c (x ∷ xs) made legal has = elim has [
  | inl a ↦ (let e = number_is laws s c x r made legal.1 a.0 in omega arith)
  | inr b ↦ (let i = later_number laws s r n x.event.time (c ++ react s c x.event) xs (laws.keeps s c x.event made) legal.2 b in let g = laws.grows s c x.event in omega arith)
]

unique : SessionLaws → (s : Spec) (r n m now : ℕ) (c : Trace) (h : List Past) → Made s c → IsLegalFrom s now c h → HasOne (By r n) h → HasOne (By r m) h → n ≡ m
unique laws s r n m now c [] made legal a b = absurd a
unique laws s r n m now c (x ∷ xs) made legal a b =
    let next = c ++ react s c x.event in
    let made' = laws.keeps s c x.event made in
    elim a [
      | inl p ↦ elim b [
        | inl q ↦ sym p.1 ∙ q.1
        | inr q ↦
            let e = number_is laws s c x r made legal.1 p.0 in
            let k = laws.counts s c x.event p.0.0 made p.0.1 in
            let l = later_number laws s r m x.event.time next xs made' legal.2 q in
            absurd (omega (arith, e, k, l))
      ]
      | inr p ↦ elim b [
        | inl q ↦
            let e = number_is laws s c x r made legal.1 q.0 in
            let k = laws.counts s c x.event q.0.0 made q.0.1 in
            let l = later_number laws s r n x.event.time next xs made' legal.2 p in
            absurd (omega (arith, e, k, l))
        | inr q ↦ unique laws s r n m x.event.time next xs made' legal.2 p q
      ]
    ]

from_rows : (r n : ℕ) (h : List Past) → HasOne (IsArrivalOf r) (rows_by n h) → HasOne (By r n) h
from_rows r n [] has = absurd has
from_rows r n (x ∷ xs) has = by_test (x.pass == n) refl has (from_rows r n xs)
  where
    by_test : (b : Bool) → (x.pass == n) ≡ b → HasOne (IsArrivalOf r) (cond b (x ∷ rows_by n xs) (rows_by n xs)) → (HasOne (IsArrivalOf r) (rows_by n xs) → HasOne (By r n) xs) → HasOne (By r n) (x ∷ xs)
    by_test true is h rest = elim h [ inl a ↦ inl (a, eqb-true x.pass n is) | inr b ↦ inr (rest b) ]
    by_test false is h rest = inr (rest h)

pub alone_of : SessionLaws → (b : RevisionState) (h : List Past) → StandsForSome b → IsLegal b h → Each (λ x. NamesOwn (rows_by x.pass h)) h
    → (n r : ℕ) → HasOne (IsArrivalOf r) (rows_by n h) → IsAloneIn h n r
unfolding IsLegal
alone_of laws b h some_trace legal own n r has k x at ne = ((λ ok f. not (inl (ok, f))), (λ e. not (inr e)))
  where
    not : IsEndOf r x → ⊥
    not end =
        let y = in_rows (λ z. (i : ℕ) → IsEndOf i z → HasOne (IsArrivalOf i) (rows_by x.pass h)) x.pass h k x at refl (own k x at) r end in
        ∥∥₁_elim some_trace (λ u v. absurd u) (λ (z : (c : Trace) × StandsFor b c).
        ne (unique laws b.spec r x.pass n b.clock z.0 h (laws.made b z.0 z.1) (legal z.0 z.1) (from_rows r x.pass h y) (from_rows r n h has)))

-- what is so of a beginning of the history
pub alone_part : (h : List Past) (q : PassView) (r : ℕ) → StartsWith h q.seen → IsAloneIn h q.number r → IsAlone q r
alone_part h q r s all =
    let P : Past → Type 0 = λ x. x.pass ≢ q.number → ((ok : Bool) → x.event.act ≢ act.Finish r ok) × (x.event.act ≢ act.Cancel r) in
    each_left P q.seen s.0 (subst (Each P) s.1 all)

outcome_along : SessionLaws → (s : Spec) (r : ℕ) (o : Outcome) (h : List Past) (c : Trace) → outcome_of c r ≡ Some o → outcome_of (trace_after s c h) r ≡ Some o
outcome_along laws s r o [] c is = is
outcome_along laws s r o (x ∷ xs) c is = outcome_along laws s r o xs (c ++ react s c x.event) (laws.outcome s c x.event r o is)

pub outcome_part : SessionLaws → (h : List Past) (q : PassView) (r : ℕ) (o : Outcome) → StartsWith h q.seen → EndsBy q r (λ x. x ≡ Some o) → (c : Trace) → StandsFor q.opening c
    → outcome_of (trace_after q.opening.spec c h) r ≡ Some o
outcome_part laws h q r o s ends c st =
    let v = q.opening.spec in
    let e : trace_after v c h ≡ trace_after v (trace_after v c q.seen) s.0 = ap (trace_after v c) s.1 ∙ trace_after-append v c q.seen s.0 in
    ap (λ t. outcome_of t r) e ∙ outcome_along laws v r o s.0 (trace_after v c q.seen) (ends c st)
