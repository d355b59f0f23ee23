-- What proper rows keep true of a trace, all along.
use Rattle.std.proofs.Common.{◌≡◌, ℕ, ◌≤◌, Bool, true, false, not, ◌&&◌, ◌||◌, ◌⊎◌, inl, inr, List, [], ◌∷◌, ◌++◌, map, max, refl, sym, ap, ◌∙◌, arith, append-nil, append_assoc}
use Rattle.std.specs.Prelude.{Option, None, Some, ◌==◌, option_map, unwrap_or}
use Rattle.std.specs.Bool.{then_some}
use Rattle.std.proofs.lemmas.Bool.{eqb-true, or_cases, and_parts}
use Rattle.kn_event.specs.declared.entry.Entry.{Entry}
use Rattle.kn_event.specs.declared.entry.Row.{Row}
use Rattle.kn_event.specs.declared.entry.Row.TheVariants as row
use Rattle.kn_event.specs.declared.entry.Decision.{Decision}
use Rattle.kn_event.specs.declared.revision.Spec.{Spec}
use Rattle.kn_event.specs.Revision.{AreInRange}
use Rattle.kn_event.specs.Lists.{contains, or_else}
use Rattle.kn_scaling.specs.Zero.{pods_most}
use Rattle.kn_trace.specs.Rows.{brought_to, created_by, decision_by, phase_by, gone_by}
use Rattle.kn_trace.specs.Trace.{Trace, arrivals, assigned, at_pod, created, each_row, ended, has_run, last_of, live_pods}
use Rattle.kn_trace.specs.Scale.{opening_scale, phase_of, wanted}
use Rattle.kn_record.specs.Made.{Holds, IsMade, IsProper}
use Rattle.kn_record.specs.Rows.{says, want_after}
use Rattle.kn_record.specs.Kept.{AreHoused, Kept}
use Rattle.kn_record.proofs.Flags.{contains-push, ended-push, last_of-push}
use Rattle.kn_record.proofs.Numbers.{IsNumbered-push, filter_member, in_filter, proper_keeps, says-true}
use Rattle.kn_record.proofs.PodNumbers.{ArePodsNumbered-push, proper_keeps_pods, ready_live}
use Rattle.kn_record.proofs.PodSteps.{contains-live_pods}

-- ---- the wanted scale, by one more entry

last_of-map : (f : Decision → ℕ) (xs : List Decision) → last_of (map f xs) ≡ option_map f (last_of xs)
last_of-map f [] = refl
last_of-map f (x ∷ xs) = rw (last_of-map f xs) (by (last_of xs))
  where
    by : (o : Option Decision) → Some (unwrap_or (option_map f o) (f x)) ≡ Some (f (unwrap_or o x))
    by None = refl
    by (Some d) = refl

-- the wanted scale by one more entry
pub wanted-push : (s : Spec) (c : Trace) (e : Entry) → wanted s (c ++ e ∷ []) ≡ want_after (decision_by e.row) (wanted s c)
unfolding wanted
wanted-push s c e =
    rw (last_of-map (λ d. d.want) (each_row decision_by (c ++ e ∷ [])), last_of-map (λ d. d.want) (each_row decision_by c), last_of-push decision_by c e) (by (decision_by e.row))
  where
    by : (o : Option Decision) → unwrap_or (option_map (λ d. d.want) (or_else o (last_of (each_row decision_by c)))) (opening_scale s)
        ≡ want_after o (unwrap_or (option_map (λ d. d.want) (last_of (each_row decision_by c))) (opening_scale s))
    by None = refl
    by (Some d) = refl

-- the phase by one more entry
pub phase_of-push : (c : Trace) (e : Entry) → phase_of (c ++ e ∷ []) ≡ or_else (phase_by e.row) (phase_of c)
unfolding phase_of
phase_of-push c e = last_of-push phase_by c e

-- ---- a request's pod is live

record KeepsHomes (c : Trace) (x : Row) : Type 0 where
  brought : (p r : ℕ) → brought_to p x ≡ Some r → contains p (live_pods c) ≡ true
  removed : (p : ℕ) → gone_by x ≡ Some p → at_pod c p ≡ []

homeless : (x : Row) (p q r : ℕ) → gone_by x ≡ Some p → brought_to q x ≡ Some r → ⊥
homeless (row.Remove u) p q r a b = absurd (cc)
homeless (row.LostPod u) p q r a b = absurd (cc)
homeless x p q r a b = absurd (cc)

-- requests stay at live pods
AreHoused-push : (c : Trace) (e : Entry) → AreHoused c → KeepsHomes c e.row → AreHoused (c ++ e ∷ [])
unfolding at_pod
AreHoused-push c e housed keeps p r h =
    let both = filter_member (λ r. not (ended (c ++ e ∷ []) r)) r (each_row (brought_to p) (c ++ e ∷ [])) h in
    let old = and_parts (contains p (each_row created_by c)) (not (contains p (each_row gone_by c))) (sym (contains-live_pods c p) ∙ home both.1 (or_cases _ _ (sym (contains-push (brought_to p) c e r) ∙ both.0))) in
    contains-live_pods (c ++ e ∷ []) p
    ∙ rw (contains-push created_by c e p, contains-push gone_by c e p)
    (stays (contains p (each_row created_by c)) (contains p (each_row gone_by c)) (says (gone_by e.row) p) old.0 old.1 (λ g. gone both.1 (says-true (gone_by e.row) p g) (or_cases _ _ (sym (contains-push (brought_to p) c e r) ∙ both.0))))
  where
    lived : not (ended (c ++ e ∷ []) r) ≡ true → not (ended c r) ≡ true
    lived h = by (ended c r) (says _ r) (ap (λ (b : Bool). not b) (sym (ended-push c e r)) ∙ h)
      where
        by : (a m : Bool) → not (a || m) ≡ true → not a ≡ true
        by true m h = h
        by false m h = refl

    home : not (ended (c ++ e ∷ []) r) ≡ true → (contains r (each_row (brought_to p) c) ≡ true) ⊎ (says (brought_to p e.row) r ≡ true) → contains p (live_pods c) ≡ true
    home live (inl a) = housed p r (in_filter (λ r. not (ended c r)) r (each_row (brought_to p) c) a (lived live))
    home live (inr a) = keeps.brought p r (says-true (brought_to p e.row) r a)

    gone : not (ended (c ++ e ∷ []) r) ≡ true → gone_by e.row ≡ Some p → (contains r (each_row (brought_to p) c) ≡ true) ⊎ (says (brought_to p e.row) r ≡ true) → ⊥
    gone live g (inl a) =
        let there : contains r (at_pod c p) ≡ true = in_filter (λ r. not (ended c r)) r (each_row (brought_to p) c) a (lived live) in
        let none : contains r (at_pod c p) ≡ false = rw (keeps.removed p g) refl in
        absurd (cc)
    gone live g (inr a) = homeless e.row p p r g (says-true (brought_to p e.row) r a)

    stays : (a g m : Bool) → a ≡ true → not g ≡ true → (m ≡ true → ⊥) → ((a || says (created_by e.row) p) && not (g || m)) ≡ true
    stays true true m x y z = absurd (cc)
    stays true false true x y z = absurd (z refl)
    stays true false false x y z = refl
    stays false g m x y z = absurd (cc)

homes_none : (c : Trace) (x : Row) → ((p : ℕ) → brought_to p x ≡ None) → gone_by x ≡ None → KeepsHomes c x
homes_none c x brought removed' = record { brought = λ p r h. absurd (let none = brought p in cc); removed = λ p h. absurd (cc) }

homes_at : (c : Trace) (x : Row) (p r : ℕ) → contains p (live_pods c) ≡ true → ((q : ℕ) → brought_to q x ≡ then_some (p == q) r) → gone_by x ≡ None → KeepsHomes c x
homes_at c x p r live brought removed' = record { brought = λ q u h. by q u (p == q) refl (sym (brought q) ∙ h); removed = λ q h. absurd (cc) }
  where
    by : (q u : ℕ) (b : Bool) → (p == q) ≡ b → then_some b r ≡ Some u → contains q (live_pods c) ≡ true
    by q u true e h = let same : p ≡ q = eqb-true p q e in rw (← same) live
    by q u false e h = absurd (cc)

-- a proper row brings a request to a live pod, and removes an empty one
keeps_homes : (s : Spec) (c : Trace) (x : Row) → IsProper s c x → KeepsHomes c x
keeps_homes s c (row.Assign r p) h = homes_at c (row.Assign r p) p r (ready_live c p h.ready) (λ q. refl) refl
keeps_homes s c (row.Direct r p) h = homes_at c (row.Direct r p) p r (ready_live c p h.1.ready) (λ q. refl) refl
keeps_homes s c (row.Remove p) h = record { brought = λ q r k. absurd (cc); removed = λ q k. let same : p ≡ q = cc in rw (← same) h.1 }
keeps_homes s c (row.LostPod p) h = record { brought = λ q r k. absurd (cc); removed = λ q k. let same : p ≡ q = cc in rw (← same) h.1 }
keeps_homes s c x h = homes_none c x (λ p. refl) refl

-- ---- all of it

wants_push : (s : Spec) (c : Trace) (x : Row) → (AreInRange s → wanted s c ≤ pods_most) → IsProper s c x → AreInRange s → want_after (decision_by x) (wanted s c) ≤ pods_most
wants_push s c (row.Decided d) wants h ranges = h ranges
wants_push s c x wants h ranges = wants ranges

-- a proper row keeps all of it
pub Kept-push : (s : Spec) (c : Trace) (e : Entry) → Kept s c → IsProper s c e.row → Kept s (c ++ e ∷ [])
Kept-push s c e kept h = record {
  requests = IsNumbered-push c e kept.requests (proper_keeps s c e.row kept.requests h);
  pods = ArePodsNumbered-push c e kept.pods (proper_keeps_pods s c e.row kept.pods h);
  homes = AreHoused-push c e kept.homes (keeps_homes s c e.row h);
  wants = λ ranges. rw (wanted-push s c e) (wants_push s c e.row kept.wants h ranges);
}

max-within : (a b : ℕ) → a ≤ 500 → b ≤ 500 → max a b ≤ 500
max-within a b h k = omega arith

-- it is so before the first row
pub kept-nil : (s : Spec) → Kept s []
unfolding arrivals created assigned has_run at_pod wanted
kept-nil s = record {
  requests = record { come = λ r h. absurd (cc); once = tt; apart = λ r h. refl; direct = λ r h. refl; assigned = λ r h. absurd (cc); ran = λ r h. absurd (cc); moved = tt };
  pods = record { come = λ p h. absurd (cc); once = tt };
  homes = λ p r h. absurd (cc);
  wants = λ ranges. max-within s.initial s.min ranges.initial ranges.min;
}

-- ---- rows that are all proper

-- a list after another
pub Holds-append : (P : Trace → Row → Type 0) (b xs ys : Trace) → Holds P b xs → Holds P (b ++ xs) ys → Holds P b (xs ++ ys)
Holds-append P b [] ys h k = rw (append-nil b) at k
Holds-append P b (e ∷ xs) ys h k = (h.0, Holds-append P (b ++ e ∷ []) xs ys h.1 (rw (append_assoc b (e ∷ []) xs) k))

-- so where each row is proper
pub holds_both : (s : Spec) (b xs ys : Trace) → Holds (IsProper s) b xs → Holds (IsProper s) (b ++ xs) ys → Holds (IsProper s) b (xs ++ ys)
holds_both s b xs ys h k = Holds-append (IsProper s) b xs ys h k

-- at each place of the trace
pub Holds-at : (P : Trace → Row → Type 0) (b c before : Trace) (e : Entry) (rest : Trace) → c ≡ before ++ e ∷ rest → Holds P b c → P (b ++ before) e.row
Holds-at P b [] [] e rest eq h = absurd (cc)
Holds-at P b (x ∷ c) [] e rest eq h = let same : x ≡ e = cc in rw (append-nil b, ← same) h.0
Holds-at P b [] (y ∷ before) e rest eq h = absurd (cc)
Holds-at P b (x ∷ c) (y ∷ before) e rest eq h =
    let same : x ≡ y = cc in
    let less : c ≡ before ++ e ∷ rest = cc in
    rw (append_assoc b (y ∷ []) before) at (Holds-at P (b ++ y ∷ []) c before e rest less (rw (same) at h.1))

-- rows that are all proper keep it
pub Holds-kept : (s : Spec) (b c : Trace) → Kept s b → Holds (IsProper s) b c → Kept s (b ++ c)
Holds-kept s b [] kept h = rw (append-nil b) kept
Holds-kept s b (e ∷ c) kept h = rw (append_assoc b (e ∷ []) c) at (Holds-kept s (b ++ e ∷ []) c (Kept-push s b e kept h.0) h.1)

-- so it holds of each trace that was made
pub made_kept : (s : Spec) (c : Trace) → IsMade s c → Kept s c
made_kept s c made = Holds-kept s [] c (kept-nil s) made.rows

-- the front of rows that are all proper
Holds-front : (P : Trace → Row → Type 0) (b xs ys : Trace) → Holds P b (xs ++ ys) → Holds P b xs
Holds-front P b [] ys h = tt
Holds-front P b (e ∷ xs) ys h = (h.0, Holds-front P (b ++ e ∷ []) xs ys h.1)

-- each row of a trace that was made was proper when it came, and what came before it was made
pub made_at : (s : Spec) (c before : Trace) (e : Entry) (rest : Trace) → IsMade s c → c ≡ before ++ e ∷ rest → IsMade s before × IsProper s before e.row
made_at s c before e rest made eq =
    (record { rows = Holds-front (IsProper s) [] before (e ∷ rest) (rw eq at made.rows) }, Holds-at (IsProper s) [] c before e rest eq made.rows)
