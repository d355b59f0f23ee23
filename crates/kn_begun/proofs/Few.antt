-- No more began to run than arrived.
use Rattle.std.proofs.Common.{◌≡◌, ℕ, ◌+◌, ◌≤◌, Bool, true, false, not, cond, ◌&&◌, ◌||◌, List, [], ◌∷◌, ◌++◌, length, length-append, refl, sym, ap, ◌∙◌, subst, arith, append-nil, append_assoc}
use Rattle.std.specs.Prelude.{Option, None, Some, ◌==◌}
use Rattle.std.specs.List.{filter, cons_option}
use Rattle.std.proofs.lemmas.List.Elements.{filter-append, filter_map-append}
use Rattle.kn_event.specs.declared.entry.Entry.{Entry}
use Rattle.kn_event.specs.declared.entry.Row.{Row}
use Rattle.kn_event.specs.declared.entry.Row.TheVariants as row
use Rattle.kn_event.specs.declared.revision.Spec.{Spec}
use Rattle.kn_trace.specs.Rows.{arrived_by, assigned_by, begun_by, ended_by, run_by, taken_by}
use Rattle.kn_trace.specs.Trace.{Trace, arrivals, assigned, each_row, ended, has_begun, has_not_begun, has_run, waiting}
use Rattle.kn_record.specs.Facts.{Facts}
use Rattle.kn_record.specs.Made.{IsMade, IsProper}
use Rattle.kn_record.specs.Rows.{counted, says}
use Rattle.kn_lives.specs.Lives.{by_row}
use Rattle.kn_begun.specs.Begun.{wait_by, wait_of, waits}
use Rattle.kn_begun.proofs.InTime.{begins_waiting}

-- ---- how long

pub waits-nil : waits [] ≡ []
unfolding waits by_row
waits-nil = refl

-- row by row over rows in two parts
abbrev pub AppendsRows : Type 0
AppendsRows = (f : Trace → Entry → List ℕ) (c xs ys : Trace) → by_row f c (xs ++ ys) ≡ by_row f c xs ++ by_row f (c ++ xs) ys

pub waits-push : AppendsRows → (c : Trace) (x : Entry) → waits (c ++ x ∷ []) ≡ waits c ++ wait_by c x
unfolding waits by_row
waits-push append c x = append wait_by [] c (x ∷ []) ∙ ap (λ (l : List ℕ). by_row wait_by [] c ++ l) (append-nil (wait_by c x))

length-wait : (o : Option ℕ) (c : Trace) (t : ℕ) → length (wait_of o c t) ≡ counted o
length-wait None c t = refl
length-wait (Some r) c t = refl

-- ---- who waits

pub nobody_taken : (x : Row) (r : ℕ) → begun_by x ≡ Some r → taken_by x ≡ None
nobody_taken (row.Assign q p) r h = refl
nobody_taken (row.Run q) r h = refl
nobody_taken _ r h = absurd (cc)

takes_few : (x : Row) → counted (taken_by x) ≤ counted (arrived_by x)
takes_few (row.Admit r tag) = omega arith
takes_few (row.Direct r p) = omega arith
takes_few (row.QueueFull r pod) = omega arith
takes_few (row.Overload r) = omega arith
takes_few _ = omega arith

one_passes : (t : ℕ → Bool) (o : Option ℕ) → length (filter t (cons_option o [])) ≤ counted o
one_passes t None = omega arith
one_passes t (Some r) = by (t r)
  where
    by : (b : Bool) → length (cond b (r ∷ []) []) ≤ 1
    by true = omega arith
    by false = omega arith

assigned_now : (a b d e : Bool) → (not ((a || e) || (b || false)) && not (d || false)) ≡ ((not (a || b) && not d) && not e)
assigned_now true b d e = refl
assigned_now false true d true = refl
assigned_now false true d false = refl
assigned_now false false true true = refl
assigned_now false false true false = refl
assigned_now false false false true = refl
assigned_now false false false false = refl

runs_now : (a b d e : Bool) → (not ((a || false) || (b || e)) && not (d || false)) ≡ ((not (a || b) && not d) && not e)
runs_now true b d e = refl
runs_now false true d e = refl
runs_now false false true true = refl
runs_now false false true false = refl
runs_now false false false true = refl
runs_now false false false false = refl

begins_one : (x : Row) (r q : ℕ) (a b d : Bool) → begun_by x ≡ Some r
    → (not ((a || says (assigned_by x) q) || (b || says (run_by x) q)) && not (d || says (ended_by x) q)) ≡ ((not (a || b) && not d) && not (r == q))
begins_one (row.Assign u p) r q a b d h = let same : r ≡ u = cc in rw same (assigned_now a b d (u == q))
begins_one (row.Run u) r q a b d h = let same : r ≡ u = cc in rw same (runs_now a b d (u == q))
begins_one _ r q a b d h = absurd (cc)

module _ (append : AppendsRows) (facts : Facts) where
  open facts use {lists.{in_filter, length-filter-more, distinct-filter, others-length}, entries.{arrivals-push, has_not_begun-push, view-less}, proper.{made_kept, made_at}}

  abbrev IsFew : Trace → Type 0
  IsFew c = length (waits c) + length (waiting c) ≤ arrivals c

  fewer : (a b d m n p : Bool) → (not ((a || m) || (b || n)) && not (d || p)) ≡ true → (not (a || b) && not d) ≡ true
  fewer false false false m n p h = refl
  fewer true b d m n p h = absurd (cc)
  fewer false true d true n p h = absurd (cc)
  fewer false true d false n p h = absurd (cc)
  fewer false false true true n p h = absurd (cc)
  fewer false false true false true p h = absurd (cc)
  fewer false false true false false p h = absurd (cc)

  pub still_waits : (c : Trace) (x : Entry) (q : ℕ) → has_not_begun (c ++ x ∷ []) q ≡ true → has_not_begun c q ≡ true
  unfolding has_not_begun has_begun
  still_waits c x q h =
      fewer (assigned c q) (has_run c q) (ended c q) (says (assigned_by x.row) q) (says (run_by x.row) q) (says (ended_by x.row) q) (sym (has_not_begun-push c x q) ∙ h)

  pub waits_no_more : (c : Trace) (x : Entry) (r : ℕ) → begun_by x.row ≡ Some r → (q : ℕ) → has_not_begun (c ++ x ∷ []) q ≡ (has_not_begun c q && not (r == q))
  unfolding has_not_begun has_begun
  waits_no_more c x r is q = has_not_begun-push c x q ∙ begins_one x.row r q (assigned c q) (has_run c q) (ended c q) is

  -- a row lets at most those wait that it takes in
  waiting_more : (c : Trace) (x : Entry) → length (waiting (c ++ x ∷ [])) ≤ length (waiting c) + counted (taken_by x.row)
  unfolding waiting
  waiting_more c x =
      let rows = filter_map-append (λ (e : Entry). taken_by e.row) c (x ∷ []) in
      let both = ap (filter (has_not_begun (c ++ x ∷ []))) rows ∙ filter-append (has_not_begun (c ++ x ∷ [])) (each_row taken_by c) (cons_option (taken_by x.row) []) in
      omega (
        arith,
        ap length both ∙ length-append (filter (has_not_begun (c ++ x ∷ [])) (each_row taken_by c)) (filter (has_not_begun (c ++ x ∷ [])) (cons_option (taken_by x.row) [])),
        length-filter-more (has_not_begun (c ++ x ∷ [])) (has_not_begun c) (still_waits c x) (each_row taken_by c),
        one_passes (has_not_begun (c ++ x ∷ [])) (taken_by x.row),
      )

  -- who begins waits no more
  waiting_less : (s : Spec) (c : Trace) (x : Entry) (r : ℕ) → IsMade s c → IsProper s c x.row → begun_by x.row ≡ Some r → length (waiting (c ++ x ∷ [])) + 1 ≡ length (waiting c)
  unfolding waiting
  waiting_less s c x r made proper is =
      let w = begins_waiting facts s c x.row r made proper is in
      let before = filter (has_not_begun c) (each_row taken_by c) in
      let others_wait = view-less taken_by (has_not_begun c) (has_not_begun (c ++ x ∷ [])) c x r (nobody_taken x.row r is) (waits_no_more c x r is) in
      let one = others-length r before (distinct-filter (has_not_begun c) (each_row taken_by c) (made_kept s c made).requests.once) (in_filter (has_not_begun c) r (each_row taken_by c) w.taken w.waits) in
      ap (λ (n : ℕ). n + 1) (ap length others_wait) ∙ one

  few_next : (s : Spec) (c : Trace) (x : Entry) → IsMade s c → IsProper s c x.row → IsFew c → IsFew (c ++ x ∷ [])
  few_next s c x made proper few = by (begun_by x.row) refl
    where
      sizes : length (waits (c ++ x ∷ [])) ≡ length (waits c) + counted (begun_by x.row)
      sizes = ap length (waits-push append c x) ∙ length-append (waits c) (wait_by c x) ∙ ap (λ (n : ℕ). length (waits c) + n) (length-wait (begun_by x.row) c x.time)

      by : (o : Option ℕ) → begun_by x.row ≡ o → IsFew (c ++ x ∷ [])
      by None is = omega (arith, sizes, ap (counted {X = ℕ}) is, waiting_more c x, takes_few x.row, arrivals-push c x)
      by (Some r) is = omega (arith, sizes, ap (counted {X = ℕ}) is, waiting_less s c x r made proper is, arrivals-push c x)

  few_nothing : IsFew []
  unfolding waiting waits by_row
  few_nothing = omega arith

  walk : (s : Spec) (all : Trace) → IsMade s all → (b c : Trace) → all ≡ b ++ c → IsFew b → IsFew all
  walk s all made b [] is few = subst IsFew (sym (is ∙ append-nil b)) few
  walk s all made b (x ∷ xs) is few =
      let here = made_at s all b x xs made is in
      walk s all made (b ++ x ∷ []) xs (is ∙ sym (append_assoc b (x ∷ []) xs)) (few_next s b x here.0 here.1 few)

  pub few_began : (s : Spec) (c : Trace) → IsMade s c → length (waits c) ≤ arrivals c
  few_began s c made = omega (arith, walk s c made [] c refl few_nothing)
