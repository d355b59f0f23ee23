-- The rows of a call, one after the other.
use Rattle.std.proofs.Common.{◌≡◌, ℕ, zero, suc, ◌+◌, ◌-◌, ◌<◌, ◌≤◌, List, [], ◌∷◌, ◌++◌, length, map, take, drop, refl, sym, ap, ◌∙◌, subst, arith, append-nil, append_assoc, reverse, Option, None, Some, IfNone, IsSome, add-one, length-append, true, false}
use Rattle.std.specs.List.{All}
use Rattle.std.proofs.lemmas.Bool.{le-ltb, lt-ltb}
use Rattle.std.proofs.lemmas.List.{length-reverse, map-append, reverse-append}
use Rattle.std.proofs.lemmas.List.Elements.{All-filter}
use Rattle.std.proofs.lemmas.List.FromFn.{length-map-range_with_len, map-range_with_len_more}
use Rattle.kn_event.specs.declared.entry.Entry.{Entry}
use Rattle.kn_event.specs.declared.entry.Row.{Row}
use Rattle.kn_event.specs.declared.entry.Row.TheVariants as row
use Rattle.kn_event.specs.declared.revision.Spec.{Spec}
use Rattle.kn_event.specs.Lists.{contains}
use Rattle.kn_trace.specs.Scale as scale
use Rattle.kn_trace.specs.Scale.{drain_order, scale_rows}
use Rattle.kn_trace.specs.Trace.{Trace, created, entry, ready_pods}
use Rattle.kn_record.specs.Made.{IsMade, IsProper}
use Rattle.kn_record.specs.Views.{others}
use Rattle.kn_pods.specs.Numbers.{inserted}
use Rattle.kn_pods.specs.Pods.{GoesOn, PodsState, ArePodsOf, after_row, after_rows, creations, drain_order_of, drains, rows_of_scale, with_drained}
use Rattle.kn_pods.proofs.Places.{is_same}

pub came_without : (n p : ℕ) (xs : List ℕ) → All (λ q. q < n) xs → All (λ q. q < n) (others p xs)
came_without n p xs h = All-filter _ (λ q. q < n) xs h

-- ---- one list of entries after another

pub goes_none : (pods : PodsState) → GoesOn pods pods []
goes_none pods = λ s c made stands. (subst (IsMade s) (sym (append-nil c)) made, subst (ArePodsOf pods) (sym (append-nil c)) stands)

pub goes_then : (a b d : PodsState) (es fs : List Entry) → GoesOn a b es → GoesOn b d fs → GoesOn a d (es ++ fs)
goes_then a b d es fs first then = λ s c made stands.
    let one = first s c made stands in
    let two = then s (c ++ es) one.0 one.1 in (subst (IsMade s) (append_assoc c es fs) two.0, subst (ArePodsOf d) (append_assoc c es fs) two.1)

-- ---- by one more row

pub after_rows-more : (es : List Entry) (e : Entry) (pods : PodsState) → after_rows (es ++ e ∷ []) pods ≡ after_row e.row (after_rows es pods)
after_rows-more [] e pods = refl
after_rows-more (x ∷ xs) e pods = after_rows-more xs e (after_row x.row pods)

pub rows_after : (es fs : List Entry) (e : Entry) (first old new : PodsState) → fs ≡ es ++ e ∷ [] → old ≡ after_rows es first → new ≡ after_row e.row old → new ≡ after_rows fs first
rows_after es fs e first old new more before now = now ∙ ap (after_row e.row) before ∙ sym (after_rows-more es e first) ∙ ap (λ (l : List Entry). after_rows l first) (sym more)

-- the rows of a scale, by how many pods don't drain
pub scale-creates : (want limit t n : ℕ) (pods : PodsState) → n ≡ length (drain_order_of pods) → n < want → rows_of_scale want limit t pods ≡ creations limit t pods.created (want - n)
scale-creates want limit t n pods is lt = rw (lt-ltb (length (drain_order_of pods)) want (omega (arith, is, lt)), is) refl

pub scale-drains : (want limit t n : ℕ) (pods : PodsState) → n ≡ length (drain_order_of pods) → want ≤ n → rows_of_scale want limit t pods ≡ drains t (take (n - want) (drain_order_of pods))
scale-drains want limit t n pods is le = rw (le-ltb (length (drain_order_of pods)) want (omega (arith, is, le)), is) refl

-- by a row that is proper wherever the pods stand
module _ (makes : (s : Spec) (c : Trace) (t : ℕ) (x : Row) → IsMade s c → IsProper s c x → IsMade s (c ++ entry t x ∷ []))
    (goes : (s : Spec) (c : Trace) (t : ℕ) (x : Row) (pods : PodsState) → IsMade s c → IsProper s c x → ArePodsOf pods c → ArePodsOf (after_row x pods) (c ++ entry t x ∷ []))
    (old new : PodsState) where
  pub goes_by : (t : ℕ) (x : Row) → new ≡ after_row x old → ((s : Spec) (c : Trace) → IsMade s c → ArePodsOf old c → IsProper s c x) → GoesOn old new (entry t x ∷ [])
  goes_by t x e proper = λ s c made stands.
      (makes s c t x made (proper s c made stands), subst (λ (pods : PodsState). ArePodsOf pods (c ++ entry t x ∷ [])) (sym e) (goes s c t x old made (proper s c made stands) stands))

-- ---- what a trace says by its pods

pub drain_order_by : (pods : PodsState) (c : Trace) → ArePodsOf pods c → drain_order c ≡ drain_order_of pods
unfolding drain_order
drain_order_by pods c stands = ap (λ xs. reverse xs ++ reverse (ready_pods c)) (sym stands.starting) ∙ ap (λ xs. reverse pods.starting ++ reverse xs) (sym stands.ready)

-- the next pod may be created while fewer than 500 don't drain
pub create_proper : (pods : PodsState) (s : Spec) (c : Trace) (limit : ℕ) → length (drain_order_of pods) < 500 → ArePodsOf pods c → IsProper s c (row.Create pods.created limit)
create_proper pods s c limit few stands = (stands.created, λ ranges. rw (drain_order_by pods c stands) few)

-- the first one may drain
pub drain_proper : (pods : PodsState) (s : Spec) (c : Trace) (p : ℕ) (ps : List ℕ) → drain_order_of pods ≡ p ∷ ps → ArePodsOf pods c → IsProper s c (row.Drain p)
drain_proper pods s c p ps first stands = ap (contains p) (drain_order_by pods c stands ∙ first) ∙ rw (is_same p p refl) refl

pub some_popped : (xs : List ℕ) (r : Option ℕ) → IfNone r (xs ≡ []) → 0 < length xs → IsSome r
some_popped xs None e lt = absurd (let h = ap length e in omega arith)
some_popped xs (Some p) e lt = refl

-- the last Starting one is the first in the order of draining, and without a Starting one the last Ready one is
pub first_starting : (xs ys zs : List ℕ) (p : ℕ) → xs ≡ ys ++ p ∷ [] → reverse xs ++ reverse zs ≡ p ∷ (reverse ys ++ reverse zs)
first_starting xs ys zs p e = rw e (ap (λ ns. ns ++ reverse zs) (reverse-append ys (p ∷ [])))

pub first_ready : (xs ys zs ws : List ℕ) (p : ℕ) → xs ≡ [] → ys ≡ [] → zs ≡ ws ++ p ∷ [] → reverse xs ++ reverse zs ≡ p ∷ (reverse ys ++ reverse ws)
first_ready xs ys zs ws p e f g = rw (e, f, g) (reverse-append ws (p ∷ []))

pub some_ready : (xs zs : List ℕ) → xs ≡ [] → 0 < length (reverse xs ++ reverse zs) → 0 < length zs
some_ready xs zs e lt = let h = rw e at lt in omega (arith, length-reverse zs)

pub drained_starting : (old : PodsState) (p : ℕ) (starting draining : List ℕ) → contains p old.starting ≡ true → starting ≡ others p old.starting → draining ≡ inserted p old.draining
    → record old { starting = starting; draining = draining } ≡ with_drained p old
drained_starting old p starting draining h e f = rw (h, e, f) refl

pub drained_ready : (old : PodsState) (p : ℕ) (starting ready draining : List ℕ) → old.starting ≡ [] → starting ≡ [] → ready ≡ others p old.ready → draining ≡ inserted p old.draining
    → record old { starting = starting; ready = ready; draining = draining } ≡ with_drained p old
drained_ready old p starting ready draining h e f g =
    rw (e, f, g) (let none : contains p old.starting ≡ false = ap (contains p) h in rw none (rw h refl))

-- ---- one more of a list

take_suc : {X : Type 0} (i : ℕ) (xs : List X) (x : X) (ys : List X) → drop i xs ≡ x ∷ ys → (take (suc i) xs ≡ take i xs ++ x ∷ []) × (ys ≡ drop (suc i) xs)
take_suc zero [] x ys e = absurd (cc)
take_suc (suc i) [] x ys e = absurd (cc)
take_suc zero (z ∷ zs) x ys e = ((cc), (cc))
take_suc (suc i) (z ∷ zs) x ys e = let more = take_suc i zs x ys e in (ap (λ ns. z ∷ ns) more.0, more.1)

pub take_next : {X : Type 0} (i : ℕ) (xs : List X) (x : X) (ys : List X) → drop i xs ≡ x ∷ ys → (take (i + 1) xs ≡ take i xs ++ x ∷ []) × (ys ≡ drop (i + 1) xs)
take_next i xs x ys e = rw (add-one i) (take_suc i xs x ys e)

pub creations_more : (limit t from n p : ℕ) → from + n ≡ p → creations limit t from (n + 1) ≡ creations limit t from n ++ entry t (row.Create p limit) ∷ []
creations_more limit t from n p e = map-range_with_len_more (λ q. entry t (row.Create q limit)) from n p e

pub length-logged : (log : List Entry) (limit t from n : ℕ) → length (log ++ creations limit t from n) ≡ length log + n
length-logged log limit t from n = length-append log (creations limit t from n) ∙ ap (λ k. length log + k) (length-map-range_with_len (λ q. entry t (row.Create q limit)) from n)

pub drains_more : (t i : ℕ) (xs : List ℕ) (p : ℕ) → take (i + 1) xs ≡ take i xs ++ p ∷ [] → drains t (take (i + 1) xs) ≡ drains t (take i xs) ++ entry t (row.Drain p) ∷ []
drains_more t i xs p e = ap (drains t) e ∙ map-append (λ q. entry t (row.Drain q)) (take i xs) (p ∷ [])

-- an entry is logged after the others
pub logged_more : (log before new : List Entry) (e : Entry) (es fs : List Entry) → before ≡ log ++ es → new ≡ before ++ e ∷ [] → fs ≡ es ++ e ∷ [] → new ≡ log ++ fs
logged_more log before new e es fs a b f = b ∙ ap (λ xs. xs ++ e ∷ []) a ∙ append_assoc log es (e ∷ []) ∙ ap (λ xs. log ++ xs) (sym f)

-- ---- the rows of a scale

-- with so many creations and so many drains, of which one is none
scaled : (s : Spec) (t from n k limit : ℕ) (order : List ℕ) → s.cc ≡ limit → n ≡ 0 → scale.creations s t from k ++ map (λ p. entry t (row.Drain p)) (take n order) ≡ creations limit t from k
scaled s t from n k limit order e f = rw (f, e) (append-nil (creations limit t from k))

pub rows_created : (s : Spec) (t limit want : ℕ) (pods : PodsState) (c : Trace) → ArePodsOf pods c → s.cc ≡ limit → length (drain_order_of pods) < want
    → scale_rows s t c want ≡ creations limit t pods.created (want - length (drain_order_of pods))
unfolding scale_rows
rows_created s t limit want pods c stands e lt =
    rw (drain_order_by pods c stands, ← stands.created)
    (scaled s t pods.created (length (drain_order_of pods) - want) (want - length (drain_order_of pods)) limit (drain_order_of pods) e (omega arith))

unscaled : (s : Spec) (t from k : ℕ) (es : List Entry) → k ≡ 0 → scale.creations s t from k ++ es ≡ es
unscaled s t from k es e = rw e refl

pub rows_drained : (s : Spec) (t want : ℕ) (pods : PodsState) (c : Trace) → ArePodsOf pods c → want ≤ length (drain_order_of pods)
    → scale_rows s t c want ≡ drains t (take (length (drain_order_of pods) - want) (drain_order_of pods))
unfolding scale_rows
rows_drained s t want pods c stands le =
    rw (drain_order_by pods c stands) (unscaled s t (created c) (want - length (drain_order_of pods)) _ (omega arith))
