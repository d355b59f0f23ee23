-- One row more.
use Rattle.std.proofs.Common.{◌≡◌, ◌≢◌, inl, inr, ℕ, suc, zero, ◌<◌, ◌≤◌, List, [], ◌∷◌, ◌++◌, refl, sym, ap, ◌∙◌, subst, arith, eq-eqb, ne_eqb}
use Rattle.std.specs.Prelude.{cond, ◌==◌}
use Rattle.std.proofs.lemmas.List.{append-nil}
use Rattle.std.proofs.lemmas.List.Elements.{filter-append}
use mathlib.Core.Option.{some, some-injective, some-ne-none}
use lib.ListN.{get_elem?}
use Rattle.kn_core.specs.State.{RevisionState, StandsFor}
use Rattle.kn_trace.specs.Events.{react, told_of}
use Rattle.kn_trace.specs.Trace.{Trace}
use Rattle.kn_event.specs.declared.revision.Spec.{Spec}
use Rattle.kn_cell.specs.declared.past.Past.{Past}
use Rattle.kn_cell.specs.Lists.{StartsWith, Each}
use Rattle.kn_cell.specs.History.{trace_after, clock_after, IsLegalFrom, IsLegal, rows_by}
use Rattle.kn_cell.specs.Views.{Knows}
use Rattle.kn_cell.proofs.ListFacts.{longer, at_append}

pub trace_after-one : (s : Spec) (c : Trace) (h : List Past) (p : Past) → trace_after s c (h ++ p ∷ []) ≡ trace_after s c h ++ react s (trace_after s c h) p.event
trace_after-one s c [] p = refl
trace_after-one s c (q ∷ qs) p = trace_after-one s (c ++ react s c q.event) qs p

pub clock_after-one : (now : ℕ) (h : List Past) (p : Past) → clock_after now (h ++ p ∷ []) ≡ p.event.time
clock_after-one now [] p = refl
clock_after-one now (q ∷ qs) p = clock_after-one q.event.time qs p

legal_from : (s : Spec) (now : ℕ) (c : Trace) (h : List Past) (p : Past) → IsLegalFrom s now c h → clock_after now h ≤ p.event.time → p.told ≡ told_of s (trace_after s c h) p.event
    → IsLegalFrom s now c (h ++ p ∷ [])
legal_from s now c [] p legal time told = (time, told, tt)
legal_from s now c (q ∷ qs) p legal time told = (legal.0, legal.1, legal_from s q.event.time (c ++ react s c q.event) qs p legal.2 time told)

-- a legal history goes on by a row that was told what the trace says
pub legal-one : (b : RevisionState) (h : List Past) (p : Past) → IsLegal b h → clock_after b.clock h ≤ p.event.time
    → ((c : Trace) → StandsFor b c → p.told ≡ told_of b.spec (trace_after b.spec c h) p.event) → IsLegal b (h ++ p ∷ [])
unfolding IsLegal
legal-one b h p legal time told c s = legal_from b.spec b.clock c h p (legal c s) time (told c s)

pub legal-none : (b : RevisionState) → IsLegal b []
unfolding IsLegal
legal-none b c s = tt

pub rows_by-own : (n : ℕ) (h : List Past) (p : Past) → p.pass ≡ n → rows_by n (h ++ p ∷ []) ≡ rows_by n h ++ p ∷ []
rows_by-own n h p e = filter-append (λ (q : Past). q.pass == n) h (p ∷ []) ∙ ap (λ b. rows_by n h ++ cond b (p ∷ []) []) (eq-eqb p.pass n e)

pub rows_by-else : (n : ℕ) (h : List Past) (p : Past) → p.pass ≢ n → rows_by n (h ++ p ∷ []) ≡ rows_by n h
rows_by-else n h p ne = filter-append (λ (q : Past). q.pass == n) h (p ∷ []) ∙ (ap (λ b. rows_by n h ++ cond b (p ∷ []) []) (ne_eqb p.pass n ne) ∙ append-nil (rows_by n h))

-- a number that is above all has no rows
pub rows_by-none : (n : ℕ) (h : List Past) → Each (λ p. p.pass < n) h → rows_by n h ≡ []
rows_by-none n [] low = refl
rows_by-none n (p ∷ ps) low =
    let one : p.pass < n = low 0 p refl in
    let ne : p.pass ≢ n = (λ e. omega arith) in
    ap (λ b. cond b (p ∷ rows_by n ps) (rows_by n ps)) (ne_eqb p.pass n ne) ∙ rows_by-none n ps (λ k q at. low (suc k) q at)

-- another pass's row
pub Knows-else : (log : List Past) (p : Past) (n : ℕ) (seen mine : List Past) → p.pass ≢ n → Knows log n seen mine → Knows (log ++ p ∷ []) n seen mine
Knows-else log p n seen mine ne k = record { front = longer log seen (p ∷ []) k.front; own = k.own; whole = k.whole ∙ sym (rows_by-else n log p ne) }

pub Each-one : (P : Past → Type 0) (h : List Past) (p : Past) → Each P h → P p → Each P (h ++ p ∷ [])
Each-one P h p each one k q at = elim (at_append h (p ∷ []) k q at) [ inl i ↦ each i.0 q i.1 | inr i ↦ last i.0 i.1 ]
  where
    last : (i : ℕ) → get_elem? (p ∷ []) i ≡ some q → P q
    last zero e = subst P (some-injective p q e) one
    last (suc i) e = absurd (some-ne-none q (sym e))

legal_front : (s : Spec) (now : ℕ) (c : Trace) (h more : List Past) → IsLegalFrom s now c (h ++ more) → IsLegalFrom s now c h
legal_front s now c [] more legal = tt
legal_front s now c (p ∷ ps) more legal = (legal.0, legal.1, legal_front s p.event.time (c ++ react s c p.event) ps more legal.2)

pub legal-front : (b : RevisionState) (log h : List Past) → IsLegal b log → StartsWith log h → IsLegal b h
unfolding IsLegal
legal-front b log h legal front c s = legal_front b.spec b.clock c h front.0 (subst (IsLegalFrom b.spec b.clock c) front.1 (legal c s))
