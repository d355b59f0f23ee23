-- The rows of a settling and those of a scale, and that each has its time.
use Rattle.std.proofs.Common.{◌≡◌, ℕ, ◌-◌, Bool, true, false, List, [], ◌∷◌, ◌++◌, map, length, take, refl, None, Some}
use Rattle.std.specs.Prelude.{Option, ⊤}
use Rattle.std.specs.List.{filter, range_with_len}
use Rattle.kn_event.specs.declared.entry.Row.{Row}
use Rattle.kn_event.specs.declared.entry.Row.TheVariants as row
use Rattle.kn_event.specs.declared.revision.Spec.{Spec}
use Rattle.kn_trace.specs.Scale.{drain_order, scale_rows}
use Rattle.kn_trace.specs.Settling.{assignments_of, held_assignments, next_choice, promotions, promotions_at, removals, settling, while_chosen, while_free}
use Rattle.kn_trace.specs.Trace.{Trace, at_pod, created, draining, entry, has_free_seat, held, is_empty, live_pods, queued_at}
use Rattle.kn_laws.specs.Kinds.{Each, EachAt}
use Rattle.kn_scaler.specs.Rows.{is_quiet, settles}

-- each has this time and passes the test
abbrev Are : (Row → Bool) → ℕ → Trace → Type 0
Are test t [] = ⊤
Are test t (e ∷ es) = ((e.time ≡ t) × (test e.row ≡ true)) × Are test t es

are_at : (test : Row → Bool) (t : ℕ) (es : Trace) → Are test t es → EachAt t es
are_at test t [] h = tt
are_at test t (e ∷ es) h = (h.0.0, are_at test t es h.1)

are_each : (test : Row → Bool) (t : ℕ) (es : Trace) → Are test t es → Each test es
are_each test t [] h = tt
are_each test t (e ∷ es) h = (h.0.1, are_each test t es h.1)

are-append : (test : Row → Bool) (t : ℕ) (xs ys : Trace) → Are test t xs → Are test t ys → Are test t (xs ++ ys)
are-append test t [] ys h k = k
are-append test t (e ∷ xs) ys h k = (h.0, are-append test t xs ys h.1 k)

are-map : (test : Row → Bool) (t : ℕ) (f : ℕ → Row) → ((x : ℕ) → test (f x) ≡ true) → (xs : List ℕ) → Are test t (map (λ x. entry t (f x)) xs)
are-map test t f each [] = tt
are-map test t f each (x ∷ xs) = ((refl, each x), are-map test t f each xs)

-- ---- a settling

runs-at : (t : ℕ) (c : Trace) (p : ℕ) (rs : List ℕ) → Are settles t (promotions_at t c p rs)
unfolding promotions_at
runs-at t c p [] = tt
runs-at t c p (r ∷ rs) = by (has_free_seat c p) (runs-at t (c ++ entry t (row.Run r) ∷ []) p rs)
  where
    by : (b : Bool) → Are settles t (promotions_at t (c ++ entry t (row.Run r) ∷ []) p rs) → Are settles t (while_free b (entry t (row.Run r)) (λ x. promotions_at t (c ++ x ∷ []) p rs))
    by false rest = tt
    by true rest = ((refl, refl), rest)

runs : (t : ℕ) (c : Trace) (ps : List ℕ) → Are settles t (promotions t c ps)
unfolding promotions
runs t c [] = tt
runs t c (p ∷ ps) = are-append settles t (promotions_at t c p (queued_at c p)) _ (runs-at t c p (queued_at c p)) (runs t (c ++ promotions_at t c p (queued_at c p)) ps)

assigns : (s : Spec) (t : ℕ) (c : Trace) (rs : List ℕ) → Are settles t (assignments_of s t c rs)
unfolding assignments_of
assigns s t c [] = tt
assigns s t c (r ∷ rs) = by (next_choice s c) (λ p. assigns s t (c ++ entry t (row.Assign r p) ∷ []) rs)
  where
    by : (o : Option ℕ) → ((p : ℕ) → Are settles t (assignments_of s t (c ++ entry t (row.Assign r p) ∷ []) rs))
        → Are settles t (while_chosen o (λ p. entry t (row.Assign r p)) (λ x. assignments_of s t (c ++ x ∷ []) rs))
    by None rest = tt
    by (Some p) rest = ((refl, refl), rest p)

settle_rows : (s : Spec) (t : ℕ) (c : Trace) → Are settles t (settling s t c)
unfolding settling held_assignments removals
settle_rows s t c =
    let ran = promotions t c (live_pods c) in
    let gave = assignments_of s t (c ++ ran) (held (c ++ ran)) in
    let left = filter (λ p. is_empty (at_pod ((c ++ ran) ++ gave) p)) (draining ((c ++ ran) ++ gave)) in
    are-append settles t (ran ++ gave) (map (λ p. entry t (row.Remove p)) left)
    (are-append settles t ran gave (runs t c (live_pods c)) (assigns s t (c ++ ran) (held (c ++ ran)))) (are-map settles t row.Remove (λ p. refl) left)

pub settling_at : (s : Spec) (t : ℕ) (c : Trace) → EachAt t (settling s t c)
settling_at s t c = are_at settles t (settling s t c) (settle_rows s t c)

pub settling_each : (s : Spec) (t : ℕ) (c : Trace) → Each settles (settling s t c)
settling_each s t c = are_each settles t (settling s t c) (settle_rows s t c)

-- ---- a scale

scaling_rows : (s : Spec) (t : ℕ) (c : Trace) (want : ℕ) → Are is_quiet t (scale_rows s t c want)
unfolding scale_rows
scaling_rows s t c want =
    let n = length (drain_order c) in
    are-append is_quiet t _ (map (λ p. entry t (row.Drain p)) (take (n - want) (drain_order c)))
    (are-map is_quiet t (λ p. row.Create p s.cc) (λ p. refl) (range_with_len (created c) (want - n))) (are-map is_quiet t row.Drain (λ p. refl) (take (n - want) (drain_order c)))

pub scale_at : (s : Spec) (t : ℕ) (c : Trace) (want : ℕ) → EachAt t (scale_rows s t c want)
scale_at s t c want = are_at is_quiet t (scale_rows s t c want) (scaling_rows s t c want)

pub scale_each : (s : Spec) (t : ℕ) (c : Trace) (want : ℕ) → Each is_quiet (scale_rows s t c want)
scale_each s t c want = are_each is_quiet t (scale_rows s t c want) (scaling_rows s t c want)
