-- A proper row keeps the numbering of pods.
use Rattle.std.proofs.Common.{◌≡◌, ℕ, ◌+◌, ◌<◌, Bool, true, false, not, ◌&&◌, ◌||◌, ◌⊎◌, inl, inr, List, [], ◌∷◌, ◌++◌, reverse, refl, sym, ◌∙◌, arith}
use Rattle.std.specs.Prelude.{None, Some, ◌==◌}
use Rattle.std.proofs.lemmas.List.{reverse-append}
use Rattle.std.proofs.lemmas.Bool.{or_cases, and_parts, false_from_ne_true}
use Rattle.kn_event.specs.declared.entry.Entry.{Entry}
use Rattle.kn_event.specs.declared.entry.Row.{Row}
use Rattle.kn_event.specs.declared.entry.Row.TheVariants as row
use Rattle.kn_event.specs.declared.revision.Spec.{Spec}
use Rattle.kn_event.specs.Lists.{contains}
use Rattle.kn_trace.specs.Rows.{created_by, readied_by, drained_by, gone_by}
use Rattle.kn_trace.specs.Trace.{Trace, each_row, created, draining, is_draining, is_live_pod, is_ready, is_starting, live_pods, ready_pods, starting_pods}
use Rattle.kn_trace.specs.Scale.{drain_order}
use Rattle.kn_record.specs.Rows.{pod_named_by, says, counted}
use Rattle.kn_record.specs.Made.{ArePodsNumbered, IsProper}
use Rattle.kn_record.proofs.Flags.{each_row-push, contains-push, created-push}
use Rattle.kn_record.proofs.Members.{contains-append, contains-within}
use Rattle.kn_record.proofs.Numbers.{distinct-option, filter_member, in_filter, says-true, within-from}

-- ---- which rows a word is of

pub removed_named : (x : Row) → (gone_by x ≡ None) ⊎ (gone_by x ≡ pod_named_by x)
removed_named (row.Remove p) = inr refl
removed_named (row.LostPod p) = inr refl
removed_named _ = inl refl

pub drained_named : (x : Row) → (drained_by x ≡ None) ⊎ (drained_by x ≡ pod_named_by x)
drained_named (row.Drain p) = inr refl
drained_named _ = inl refl

pub readied_named : (x : Row) → (readied_by x ≡ None) ⊎ (readied_by x ≡ pod_named_by x)
readied_named (row.Ready p) = inr refl
readied_named _ = inl refl

pub created_named : (x : Row) → (created_by x ≡ None) ⊎ (created_by x ≡ pod_named_by x)
created_named (row.Create p n) = inr refl
created_named _ = inl refl

-- ---- members of views

-- a list backwards has the same members
pub contains-reverse : (r : ℕ) (xs : List ℕ) → contains r (reverse xs) ≡ contains r xs
contains-reverse r [] = refl
contains-reverse r (x ∷ xs) = rw (reverse-append (x ∷ []) xs, contains-append r (reverse xs) (x ∷ []), contains-reverse r xs) (swap (contains r xs) (x == r))
  where
    swap : (a b : Bool) → (a || (b || false)) ≡ (b || a)
    swap true true = refl
    swap true false = refl
    swap false true = refl
    swap false false = refl

-- in the order of draining stand the starting and the ready pods
pub contains-drain_order : (c : Trace) (p : ℕ) → contains p (drain_order c) ≡ (contains p (starting_pods c) || contains p (ready_pods c))
unfolding drain_order
contains-drain_order c p = rw (contains-append p (reverse (starting_pods c)) (reverse (ready_pods c)), contains-reverse p (starting_pods c), contains-reverse p (ready_pods c)) refl

pub live_pod_created : (c : Trace) (p : ℕ) → contains p (live_pods c) ≡ true → contains p (each_row created_by c) ≡ true
unfolding live_pods
live_pod_created c p h = (filter_member (is_live_pod c) p (each_row created_by c) h).0

-- a draining pod is live
pub draining_live : (c : Trace) (p : ℕ) → contains p (draining c) ≡ true → contains p (live_pods c) ≡ true
unfolding draining is_draining live_pods
draining_live c p h =
    let both = filter_member (is_draining c) p (each_row created_by c) h in
    in_filter (is_live_pod c) p (each_row created_by c) both.0 (and_parts (contains p (each_row drained_by c)) (is_live_pod c p) both.1).1

-- a Ready pod is live
pub ready_live : (c : Trace) (p : ℕ) → contains p (ready_pods c) ≡ true → contains p (live_pods c) ≡ true
unfolding ready_pods is_ready live_pods
ready_live c p h =
    let both = filter_member (is_ready c) p (each_row created_by c) h in
    in_filter (is_live_pod c) p (each_row created_by c) both.0 (last (contains p (each_row readied_by c)) (not (contains p (each_row drained_by c))) (is_live_pod c p) both.1)
  where
    last : (a b g : Bool) → (a && b && g) ≡ true → g ≡ true
    last true true g h = h
    last true false g h = absurd (cc)
    last false b g h = absurd (cc)

-- a starting pod is live
pub starting_live : (c : Trace) (p : ℕ) → contains p (starting_pods c) ≡ true → contains p (live_pods c) ≡ true
unfolding starting_pods is_starting live_pods
starting_live c p h =
    let both = filter_member (is_starting c) p (each_row created_by c) h in
    in_filter (is_live_pod c) p (each_row created_by c) both.0 (last (not (contains p (each_row readied_by c))) (not (contains p (each_row drained_by c))) (is_live_pod c p) both.1)
  where
    last : (a b g : Bool) → (a && b && g) ≡ true → g ≡ true
    last true true g h = h
    last true false g h = absurd (cc)
    last false b g h = absurd (cc)

-- so is each that does not drain
pub drain_order_live : (c : Trace) (p : ℕ) → contains p (drain_order c) ≡ true → contains p (live_pods c) ≡ true
drain_order_live c p h = by (or_cases (contains p (starting_pods c)) (contains p (ready_pods c)) (sym (contains-drain_order c p) ∙ h))
  where
    by : (contains p (starting_pods c) ≡ true) ⊎ (contains p (ready_pods c) ≡ true) → contains p (live_pods c) ≡ true
    by (inl a) = starting_live c p a
    by (inr a) = ready_live c p a

-- ---- one more row

pub record KeepsPods (c : Trace) (x : Row) : Type 0 where
  pub come : (p : ℕ) → pod_named_by x ≡ Some p → p < created c + counted (created_by x)
  pub fresh : (p : ℕ) → created_by x ≡ Some p → contains p (each_row pod_named_by c) ≡ false

-- a row that keeps numbers keeps the numbering
pub ArePodsNumbered-push : (c : Trace) (e : Entry) → ArePodsNumbered c → KeepsPods c e.row → ArePodsNumbered (c ++ e ∷ [])
ArePodsNumbered-push c e num keeps = record {
  come = λ p h. rw (created-push c e) (come p (or_cases _ _ (sym (contains-push pod_named_by c e p) ∙ h)));
  once = rw (each_row-push created_by c e) (distinct-option (each_row created_by c) (created_by e.row) num.once (λ p h. contains-within created_by pod_named_by created_named p c (keeps.fresh p h)));
}
  where
    come : (p : ℕ) → (contains p (each_row pod_named_by c) ≡ true) ⊎ (says (pod_named_by e.row) p ≡ true) → p < created c + counted (created_by e.row)
    come p (inl h) = let less = num.come p h in omega arith
    come p (inr h) = keeps.come p (says-true (pod_named_by e.row) p h)

-- no row is about the next pod
pub next_unnamed_pod : (c : Trace) → ArePodsNumbered c → contains (created c) (each_row pod_named_by c) ≡ false
next_unnamed_pod c num = false_from_ne_true (contains (created c) (each_row pod_named_by c)) (λ e. let less = num.come (created c) e in absurd (omega arith))

pub created_comes : (c : Trace) (p : ℕ) → ArePodsNumbered c → contains p (each_row created_by c) ≡ true → p < created c
created_comes c p num h = num.come p (within-from created_by pod_named_by created_named p c h)

-- ---- a proper row

pub keeps_live_pod : (c : Trace) (x : Row) (p : ℕ) → ArePodsNumbered c → contains p (live_pods c) ≡ true → pod_named_by x ≡ Some p → created_by x ≡ None → KeepsPods c x
keeps_live_pod c x p num h named made = record { come = λ q e. let same : p ≡ q = cc in let less = created_comes c p num (live_pod_created c p h) in rw made (omega arith); fresh = λ q e. absurd (cc) }

keeps_no_pod : (c : Trace) (x : Row) → pod_named_by x ≡ None → created_by x ≡ None → KeepsPods c x
keeps_no_pod c x named made = record { come = λ q e. absurd (cc); fresh = λ q e. absurd (cc) }

-- a proper row keeps the numbers of pods
pub proper_keeps_pods : (s : Spec) (c : Trace) (x : Row) → ArePodsNumbered c → IsProper s c x → KeepsPods c x
proper_keeps_pods s c (row.Create p n) num h =
    let number = h.0 in
    record { come = λ q e. let same : p ≡ q = cc in omega arith; fresh = λ q e. let same : q ≡ created c = cc in rw same (next_unnamed_pod c num) }
proper_keeps_pods s c (row.Limit p n) num h = keeps_live_pod c (row.Limit p n) p num h refl refl
proper_keeps_pods s c (row.Ready p) num h = keeps_live_pod c (row.Ready p) p num (starting_live c p h) refl refl
proper_keeps_pods s c (row.Drain p) num h = keeps_live_pod c (row.Drain p) p num (drain_order_live c p h) refl refl
proper_keeps_pods s c (row.Remove p) num h = keeps_live_pod c (row.Remove p) p num (draining_live c p h.0) refl refl
proper_keeps_pods s c (row.LostPod p) num h = keeps_live_pod c (row.LostPod p) p num h.0 refl refl
proper_keeps_pods s c x num h = keeps_no_pod c x refl refl
