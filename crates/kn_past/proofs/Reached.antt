-- Whether the initial scale was reached, and how many pods are Ready, by further entries.
use Rattle.std.proofs.Common.{◌≡◌, ℕ, ◌+◌, Bool, true, false, not, ◌&&◌, ◌||◌, List, [], ◌∷◌, ◌++◌, length, length-append, take, refl, sym, ap, ◌∙◌, arith, append-nil}
use Rattle.std.specs.Prelude.{Option, None, nat_le}
use Rattle.std.specs.List.{filter, list_any, range_with_len}
use Rattle.std.proofs.lemmas.List.{take-append-le}
use Rattle.std.proofs.Math.Seq.{take-append-add, take-length}
use Rattle.std.proofs.lemmas.List.Elements.{filter_map-append}
use Rattle.kn_event.specs.declared.entry.Entry.{Entry}
use Rattle.kn_event.specs.declared.entry.Row.{Row}
use Rattle.kn_event.specs.declared.entry.Row.TheVariants as row
use Rattle.kn_event.specs.declared.revision.Spec.{Spec}
use Rattle.kn_event.specs.Lists.{contains}
use Rattle.kn_trace.specs.Rows.{created_by, drained_by, gone_by, readied_by}
use Rattle.kn_trace.specs.Trace.{Trace, each_row, is_live_pod, is_ready, ready_pods}
use Rattle.kn_trace.specs.Scale.{count_ready, initial_reached}
use Rattle.kn_past.specs.Changes.{leaves_pods}
use Rattle.kn_past.proofs.Ranges.{any_parts, any_same, any_shift}

-- ---- whether it was reached

-- as many pods as the initial scale are Ready after so many entries
abbrev reached_after : Spec → Trace → ℕ → Bool
reached_after s c k = nat_le s.initial (count_ready (take k c))

pub reached-append : (s : Spec) (c es : Trace) → initial_reached s (c ++ es)
    ≡ (initial_reached s c || list_any (λ k. nat_le s.initial (count_ready (c ++ take k es))) (range_with_len 1 (length es)))
unfolding initial_reached
reached-append s c es =
    let n = length c in
    let size : length (c ++ es) + 1 ≡ (n + 1) + length es = let l = length-append c es in omega (arith, l) in
    let old = any_same 0 (n + 1) (reached_after s (c ++ es)) (reached_after s c) (λ k low high. ap (λ (d : Trace). nat_le s.initial (count_ready d)) (take-append-le k c es (omega (arith, high)))) in
    let more = any_same 1 (length es) (λ j. reached_after s (c ++ es) (n + j)) (λ j. nat_le s.initial (count_ready (c ++ take j es))) (λ j low high. ap (λ (d : Trace). nat_le s.initial (count_ready d)) (take-append-add c es j)) in
    let from : 0 + (n + 1) ≡ n + 1 = omega arith in
    ap (λ k. list_any (reached_after s (c ++ es)) (range_with_len 0 k)) size
    ∙ any_parts 0 (n + 1) (length es) (reached_after s (c ++ es))
    ∙ ap (λ k. list_any (reached_after s (c ++ es)) (range_with_len 0 (n + 1)) || list_any (reached_after s (c ++ es)) (range_with_len k (length es))) from
    ∙ ap (λ b. b || list_any (reached_after s (c ++ es)) (range_with_len (n + 1) (length es))) old
    ∙ ap (λ b. list_any (reached_after s c) (range_with_len 0 (n + 1)) || b) (any_shift n 1 (length es) (reached_after s (c ++ es)) ∙ more)

or_no : (a b : Bool) → (a || (b || false)) ≡ (a || b)
or_no a true = refl
or_no a false = refl

pub reached-push : (s : Spec) (c : Trace) (e : Entry) → initial_reached s (c ++ e ∷ []) ≡ (initial_reached s c || nat_le s.initial (count_ready (c ++ e ∷ [])))
reached-push s c e = reached-append s c (e ∷ []) ∙ or_no (initial_reached s c) (nat_le s.initial (count_ready (c ++ e ∷ [])))

or_holds : (a b : Bool) → b ≡ true → (a || (b || false)) ≡ true
or_holds true b h = refl
or_holds false b h = ap (λ x. x || false) h

pub reached-now : (s : Spec) (c : Trace) → nat_le s.initial (count_ready c) ≡ true → initial_reached s c ≡ true
unfolding initial_reached
reached-now s c h =
    let n = length c in
    let all : take (0 + n) c ≡ c = ap (λ k. take k c) (let e : 0 + n ≡ n = omega arith in e) ∙ take-length c in
    let last : reached_after s c (0 + n) ≡ true = ap (λ (d : Trace). nat_le s.initial (count_ready d)) all ∙ h in
    any_parts 0 n 1 (reached_after s c) ∙ or_holds (list_any (reached_after s c) (range_with_len 0 n)) (reached_after s c (0 + n)) last

-- ---- the Ready pods

-- such a row says nothing of any pod
record IsApart (x : Row) : Type 0 where
  created : created_by x ≡ None
  readied : readied_by x ≡ None
  drained : drained_by x ≡ None
  gone : gone_by x ≡ None

apart : (x : Row) → leaves_pods x ≡ true → IsApart x
apart (row.Create p n) h = absurd (cc)
apart (row.Ready p) h = absurd (cc)
apart (row.Drain p) h = absurd (cc)
apart (row.Remove p) h = absurd (cc)
apart (row.LostPod p) h = absurd (cc)
apart _ h = record { created = refl; readied = refl; drained = refl; gone = refl }

said_none : (said : Row → Option ℕ) (c : Trace) (e : Entry) → said e.row ≡ None → each_row said (c ++ e ∷ []) ≡ each_row said c
said_none said c e h = filter_map-append (λ (x : Entry). said x.row) c (e ∷ []) ∙ rw h (append-nil (each_row said c))

-- the pods that are created, readied, not drained and not gone by these
abbrev ready_in : List ℕ → List ℕ → List ℕ → List ℕ → List ℕ
ready_in created readied drained gone = filter (λ p. contains p readied && not (contains p drained) && not (contains p gone)) created

pub ready-push : (c : Trace) (e : Entry) → leaves_pods e.row ≡ true → ready_pods (c ++ e ∷ []) ≡ ready_pods c
unfolding ready_pods is_ready is_live_pod
ready-push c e h =
    let is = apart e.row h in
    let d = c ++ e ∷ [] in
    ap (λ ps. ready_in ps (each_row readied_by d) (each_row drained_by d) (each_row gone_by d)) (said_none created_by c e is.created)
    ∙ ap (λ ps. ready_in (each_row created_by c) ps (each_row drained_by d) (each_row gone_by d)) (said_none readied_by c e is.readied)
    ∙ ap (λ ps. ready_in (each_row created_by c) (each_row readied_by c) ps (each_row gone_by d)) (said_none drained_by c e is.drained)
    ∙ ap (λ ps. ready_in (each_row created_by c) (each_row readied_by c) (each_row drained_by c) ps) (said_none gone_by c e is.gone)

pub count_ready-push : (c : Trace) (e : Entry) → leaves_pods e.row ≡ true → count_ready (c ++ e ∷ []) ≡ count_ready c
unfolding count_ready
count_ready-push c e h = ap length (ready-push c e h)

or_old : (a b : Bool) → (b ≡ true → a ≡ true) → (a || b) ≡ a
or_old true b h = refl
or_old false true h = sym (h refl)
or_old false false h = refl

pub reached-stays : (s : Spec) (c : Trace) (e : Entry) → leaves_pods e.row ≡ true → initial_reached s (c ++ e ∷ []) ≡ initial_reached s c
reached-stays s c e h =
    reached-push s c e
    ∙ ap (λ n. initial_reached s c || nat_le s.initial n) (count_ready-push c e h)
    ∙ or_old (initial_reached s c) (nat_le s.initial (count_ready c)) (reached-now s c)
