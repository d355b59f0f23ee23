-- What an agenda keeps, by all entries of an event.
use Rattle.std.proofs.Common.{◌≡◌, ℕ, suc, ◌+◌, ◌<◌, ◌≤◌, List, [], ◌∷◌, ◌++◌, length, take, drop, get_or, sym, ap, ◌∙◌, subst, arith, append-nil, append_assoc, add-one, drop-cons, length-append}
use Rattle.std.proofs.lemmas.List.{take-append-drop}
use Rattle.std.proofs.lemmas.List.Elements.{filter_map-append}
use Rattle.std.proofs.Math.Seq.{take-suc}
use Rattle.kn_event.specs.declared.entry.Entry.{Entry}
use Rattle.kn_event.specs.declared.entry.Row.{Row}
use Rattle.kn_event.specs.declared.revision.Spec.{Spec}
use Rattle.kn_trace.specs.Rows.{arrived_by}
use Rattle.kn_trace.specs.Trace.{Trace, arrivals, each_row}
use Rattle.kn_record.specs.Facts.{Facts}
use Rattle.kn_record.specs.Made.{Holds, IsMade, IsProper}

at_item : (es : List Entry) (i : ℕ) (e : Entry) → i < length es → e ≡ get_or es i e → drop i es ≡ e ∷ drop (i + 1) es
at_item es i e h same = rw add-one (drop-cons es i e h ∙ ap (λ (x : Entry). x ∷ drop (suc i) es) (sym same))

pub holds_first : (P : Trace → Row → Type 0) (c xs ys : Trace) → Holds P c (xs ++ ys) → Holds P c xs
holds_first P c [] ys h = tt
holds_first P c (x ∷ xs) ys h = (h.0, holds_first P (c ++ x ∷ []) xs ys h.1)

pub holds_rest : (P : Trace → Row → Type 0) (c xs ys : Trace) → Holds P c (xs ++ ys) → Holds P (c ++ xs) ys
holds_rest P c [] ys h = rw (append-nil c) h
holds_rest P c (x ∷ xs) ys h = rw (append_assoc c (x ∷ []) xs) at (holds_rest P (c ++ x ∷ []) xs ys h.1)

pub arrivals_less : (c es : Trace) → arrivals c ≤ arrivals (c ++ es)
unfolding arrivals
arrivals_less c es = rw (filter_map-append (λ (e : Entry). arrived_by e.row) c es) (let sum = length-append (each_row arrived_by c) (each_row arrived_by es) in omega arith)

-- one entry more of a list
pub record IsHeard (s : Spec) (c es : Trace) (i : ℕ) (e : Entry) : Type 0 where
  pub made : IsMade s (c ++ take i es)
  pub proper : IsProper s (c ++ take i es) e.row
  pub few : arrivals (c ++ take (i + 1) es) ≤ arrivals (c ++ es)
  pub more : c ++ take (i + 1) es ≡ (c ++ take i es) ++ e ∷ []

module _ (facts : Facts) where
  open facts use {proper.{made_more}}

  pub hears : (s : Spec) (c es : Trace) (i : ℕ) (e : Entry) → IsMade s c → Holds (IsProper s) c es → i < length es → e ≡ get_or es i e → IsHeard s c es i e
  hears s c es i e made proper less is =
      let whole : take i es ++ drop i es ≡ es = take-append-drop i es in
      let split : Holds (IsProper s) c (take i es ++ drop i es) = subst (Holds (IsProper s) c) (sym whole) proper in
      let rest : Holds (IsProper s) (c ++ take i es) (e ∷ drop (i + 1) es) = subst (Holds (IsProper s) (c ++ take i es)) (at_item es i e less is) (holds_rest (IsProper s) c (take i es) (drop i es) split) in
      record {
        made = made_more s c (take i es) made (holds_first (IsProper s) c (take i es) (drop i es) split);
        proper = rest.0;
        few =
            let all = arrivals_less (c ++ take (i + 1) es) (drop (i + 1) es) in
            let same : (c ++ take (i + 1) es) ++ drop (i + 1) es ≡ c ++ es = append_assoc c (take (i + 1) es) (drop (i + 1) es) ∙ ap (λ (xs : Trace). c ++ xs) (take-append-drop (i + 1) es) in
            rw same at all;
        more = ap (λ (xs : Trace). c ++ xs) (rw add-one (take-suc es i e less ∙ ap (λ (x : Entry). take i es ++ x ∷ []) (sym is))) ∙ sym (append_assoc c (take i es) (e ∷ []));
      }
