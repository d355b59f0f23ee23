-- The entries that the rows of a history made, and what is counted of them.
use Rattle.std.proofs.Common.{◌≡◌, ℕ, ◌-◌, ◌≤◌, ◌^◌, min, List, [], ◌∷◌, ◌++◌, drop, length, refl, ap, sym, ◌∙◌, subst, arith, append_assoc, length-append}
use Rattle.std.proofs.Math.Bridge.{le_prop}
use Rattle.std.proofs.Math.Logic.{∥∥₁_elim}
use Rattle.std.proofs.Math.Seq.{drop-append_seam, drop-length}
use Rattle.std.proofs.lemmas.List.{append-nil, drop-append-le}
use Rattle.kn_event.specs.declared.revision.Spec.{Spec}
use Rattle.kn_trace.specs.Events.{react}
use Rattle.kn_trace.specs.Trace.{Trace}
use Rattle.kn_core.specs.State.{RevisionState, StandsFor}
use Rattle.kn_figures.specs.declared.kind.Kind.{Kind}
use Rattle.kn_figures.specs.declared.tally.Tally.{Tally}
use Rattle.kn_figures.specs.Figures.{IsFiguresOf}
use Rattle.kn_figures.specs.Laws.{NeverFall as CountsGrow}
use Rattle.kn_figures.specs.Tallies.{IsTallyOf, count_in, count_of}
use Rattle.kn_cell.specs.declared.past.Past.{Past}
use Rattle.kn_cell.specs.Counted.{NeverFall}
use Rattle.kn_cell.specs.History.{made_by, trace_after}
use Rattle.kn_cell.proofs.HistoryFacts.{trace_after-one}

-- the rows only add entries
adds : (s : Spec) (c : Trace) (h : List Past) → (more : Trace) × (trace_after s c h ≡ c ++ more)
adds s c [] = ([], sym (append-nil c))
adds s c (p ∷ ps) =
    let rest = adds s (c ++ react s c p.event) ps in
    (react s c p.event ++ rest.0, rest.1 ∙ append_assoc c (react s c p.event) rest.0)

within : (s : Spec) (c : Trace) (h : List Past) → length c ≤ length (trace_after s c h)
within s c h =
    let rest = adds s c h in
    let all = ap length rest.1 in
    let sum = length-append c rest.0 in
    omega arith

pub made_by-none : (s : Spec) (c : Trace) → made_by s c [] ≡ []
made_by-none s c = drop-length c

pub made_by-one : (s : Spec) (c : Trace) (h : List Past) (p : Past) → made_by s c (h ++ p ∷ []) ≡ made_by s c h ++ react s (trace_after s c h) p.event
made_by-one s c h p =
    ap (λ (l : Trace). drop (length c) l) (trace_after-one s c h p) ∙ drop-append-le (length c) (trace_after s c h) (react s (trace_after s c h) p.event) (within s c h)

made_by-more : (s : Spec) (c : Trace) (h k : List Past) → made_by s c (h ++ k) ≡ made_by s c h ++ made_by s (trace_after s c h) k
made_by-more s c h k =
    let rest = adds s (trace_after s c h) k in
    let all : trace_after s c (h ++ k) ≡ trace_after s c h ++ rest.0 = after-more s c h k ∙ rest.1 in
    let behind : made_by s (trace_after s c h) k ≡ rest.0 = ap (λ (l : Trace). drop (length (trace_after s c h)) l) rest.1 ∙ drop-append_seam (trace_after s c h) rest.0 in
    ap (λ (l : Trace). drop (length c) l) all ∙ drop-append-le (length c) (trace_after s c h) rest.0 (within s c h) ∙ ap (λ l. made_by s c h ++ l) (sym behind)
  where
    after-more : (s : Spec) (c : Trace) (h k : List Past) → trace_after s c (h ++ k) ≡ trace_after s (trace_after s c h) k
    after-more s c [] k = refl
    after-more s c (p ∷ ps) k = after-more s (c ++ react s c p.event) ps k

-- ---- counts of a pass that has seen more

capped : (a b x y m : ℕ) → a ≡ min x m → b ≡ min y m → x ≤ y → a ≤ b
capped a b x y m e f low = omega arith

counts-more : CountsGrow → (s : Spec) (c : Trace) (h k : List Past) (t u : Tally) → IsTallyOf t (made_by s c h) → IsTallyOf u (made_by s c (h ++ k)) → (x : Kind) → count_in t x ≤ count_in u x
counts-more grow s c h k t u a b x =
    let less = grow x (made_by s c h) (made_by s (trace_after s c h) k) in
    capped (count_in t x) (count_in u x) (count_of x (made_by s c h)) (count_of x (made_by s c (h ++ k))) (2 ^ 64 - 1) (a.counts x) (b.counts x)
    (subst (λ l. count_of x (made_by s c h) ≤ count_of x l) (sym (made_by-more s c h k)) less)

pub never_fall : CountsGrow → NeverFall
never_fall grow p q f g some same longer a b = record {
  rows = λ x. ∥∥₁_elim some le_prop (λ d. let r = later d.0 d.1 in counts-more grow p.opening.spec d.0 p.seen longer.0 f.tally g.tally (a d.0 d.1).tally r.tally x);
  recorded = ∥∥₁_elim some le_prop (λ d. let r = (later d.0 d.1).recorded in let e = (a d.0 d.1).recorded in let sum = length-append p.seen longer.0 in omega arith);
}
  where
    later : (c : Trace) → StandsFor p.opening c → IsFiguresOf p.opening.spec (trace_after p.opening.spec c (p.seen ++ longer.0)) (made_by p.opening.spec c (p.seen ++ longer.0)) (length (p.seen ++ longer.0)) q.gone g
    later c s =
        subst (λ l. IsFiguresOf p.opening.spec (trace_after p.opening.spec c l) (made_by p.opening.spec c l) (length l) q.gone g) longer.1
        (subst (λ (r : RevisionState). IsFiguresOf r.spec (trace_after r.spec c q.seen) (made_by r.spec c q.seen) (length q.seen) q.gone g) same (b c (subst (λ (r : RevisionState). StandsFor r c) (sym same) s)))
