-- How many pods were created, and that each pod's number is below that.
use Rattle.std.proofs.Common.{◌≡◌, ℕ, ◌+◌, ◌*◌, ◌^◌, ◌<◌, ◌≤◌, Bool, true, false, List, [], ◌∷◌, refl, sym, ap, ◌∙◌, subst, arith, Option, None, Some, IfSome, IfNone}
use Rattle.std.specs.Prelude.{length, nat_le, nat_lt, ◌==◌}
use Rattle.std.specs.List.{All, find}
use Rattle.std.proofs.lemmas.Bool.{leb-true}
use Rattle.std.proofs.lemmas.List.Elements.{All-head, All-tail}
use denote.Struct.Props.{props}
use Rattle.std.proofs.Math.Logic.{∥∥₁_elim}
use Rattle.kn_event.specs.declared.entry.Entry.{Entry}
use Rattle.kn_event.specs.declared.entry.Row.{Row}
use Rattle.kn_event.specs.declared.entry.Row.TheVariants as row
use Rattle.kn_event.specs.declared.event.Act.{Act}
use Rattle.kn_event.specs.declared.event.Stand.{Stand}
use Rattle.kn_event.specs.declared.event.Stand.TheVariants as stand
use Rattle.kn_event.specs.declared.revision.Spec.{Spec}
use Rattle.kn_trace.specs.Events.{act_row}
use Rattle.kn_trace.specs.Trace.{Trace}
use Rattle.kn_record.specs.declared.admission.Pod.{Pod}
use Rattle.kn_record.specs.declared.admission.Readiness.{Readiness}
use Rattle.kn_record.specs.declared.admission.Request.{Request}
use Rattle.kn_record.specs.Admission.{Admission, is_starting_now, pods_in}
use Rattle.kn_record.specs.Made.{IsMade, IsRecordOf}
use Rattle.kn_record.specs.Order.{IsInOrder}
use Rattle.kn_record.specs.Views.{AreViews, stand_found, stand_in}
use Rattle.kn_laws.specs.Kinds.{IsActRow, is_act_row}
use Rattle.kn_pods.specs.Pods.{PodsState, after_row}
use Rattle.kn_core.specs.State.{ArePartsOf, ArePartsOfSome, IsAmongLive, PartsState}
use Rattle.kn_core.specs.Changes.{AddsRow, after_removal, after_removals}

removal_created : (x : Row) (pods : PodsState) → (after_removal x pods).created ≡ pods.created
removal_created (row.Remove p) pods = refl
removal_created _ pods = refl

pub removals_created : (es : List Entry) (pods : PodsState) → (after_removals es pods).created ≡ pods.created
removals_created [] pods = refl
removals_created (e ∷ es) pods = removals_created es (after_removal e.row pods) ∙ removal_created e.row pods

act_created : (x : Row) (pods : PodsState) → is_act_row x ≡ true → (after_row x pods).created ≡ pods.created
act_created (row.Create p n) pods h = absurd (cc)
act_created (row.Drain p) pods h = absurd (cc)
act_created _ pods h = refl

own_created : (a : Act) (t : ℕ) (own : Option Row) (old new : PartsState) → IsActRow a own → IfSome own (λ (x : Row). AddsRow t x old new) → IfNone own (new ≡ old) → new.pods.created ≡ old.pods.created
own_created a t None old new is_act adds same = ap (λ (x : PartsState). x.pods.created) same
own_created a t (Some x) old new is_act adds same = ap (λ (p : PodsState). p.created) adds.pods ∙ act_created x old.pods is_act.0

number_prop : (a b : ℕ) → IsProp (a ≡ b)
number_prop a b = hlevel props

-- an act's own row creates no pod
pub took_created : ((s : Spec) (c : Trace) (a : Act) → IsActRow a (act_row s c a)) → (a : Act) (t : ℕ) (own : Option Row) (old new : PartsState) → ArePartsOfSome old
    → ((s : Spec) (c : Trace) → ArePartsOf s old c → act_row s c a ≡ own) → IfSome own (λ (x : Row). AddsRow t x old new) → IfNone own (new ≡ old) → new.pods.created ≡ old.pods.created
took_created is_act a t own old new some said adds same =
    ∥∥₁_elim some (number_prop new.pods.created old.pods.created)
    (λ (h : (c : Trace) × ArePartsOf old.throttle.spec old c).
    own_created a t own old new (subst (IsActRow a) (said old.throttle.spec h.0 h.1) (is_act old.throttle.spec h.0 a)) adds same)

-- ---- the next Starting pod

-- it isn't below what was asked from
pub found_from : (from : ℕ) (xs : List ℕ) → IfSome (find (λ p. nat_le from p) xs) (λ p. from ≤ p)
found_from from [] = tt
found_from from (x ∷ xs) = by (nat_le from x) refl (found_from from xs)
  where
    by : (b : Bool) → nat_le from x ≡ b → IfSome (find (λ p. nat_le from p) xs) (λ p. from ≤ p) → IfSome (find (λ p. nat_le from p) (x ∷ xs)) (λ p. from ≤ p)
    by true e rec = rw e (leb-true from x e)
    by false e rec = rw e rec

found_below : (test : Readiness → Bool) (from n : ℕ) (all : List Pod) → All (λ (q : Pod). q.number < n) all → IfSome (find (λ p. nat_le from p) (pods_in test all)) (λ p. p < n)
found_below test from n [] h = tt
found_below test from n (q ∷ all) h = by (test q.readiness) (nat_le from q.number) refl refl (found_below test from n all (All-tail (λ (q : Pod). q.number < n) q all h))
  where
    by : (t b : Bool) → test q.readiness ≡ t → nat_le from q.number ≡ b → IfSome (find (λ p. nat_le from p) (pods_in test all)) (λ p. p < n) → IfSome (find (λ p. nat_le from p) (pods_in test (q ∷ all))) (λ p. p < n)
    by true true e f rec = rw (e, f) (All-head (λ (q : Pod). q.number < n) q all h)
    by true false e f rec = rw (e, f) rec
    by false b e f rec = rw e rec

below_prop : (o : Option ℕ) (n : ℕ) → IsProp (IfSome o (λ p. p < n))
below_prop None n = hlevel props
below_prop (Some p) n = hlevel props

-- it was created
pub next_below : ((s : Spec) (a : Admission) (c : Trace) → IsRecordOf a c → AreViews s a c) → ((s : Spec) (a : Admission) (c : Trace) → IsMade s c → IsRecordOf a c → IsInOrder a)
    → (x : PartsState) (from : ℕ) → ArePartsOfSome x → IfSome (find (λ p. nat_le from p) x.pods.starting) (λ p. p < x.pods.created)
next_below views order x from some =
    ∥∥₁_elim some (below_prop (find (λ p. nat_le from p) x.pods.starting) x.pods.created)
    (λ (h : (c : Trace) × ArePartsOf x.throttle.spec x c).
    let s = x.throttle.spec in
    let a = x.throttle.admission in
    let all = views s a h.0 h.1.admission in
    let starting : x.pods.starting ≡ pods_in is_starting_now a.pods = h.1.pods.starting ∙ all.starting in
    let created : x.pods.created ≡ a.created = h.1.pods.created ∙ all.created in
    let below = found_below is_starting_now from a.created a.pods (order s a h.0 h.1.made h.1.admission).created in
    subst (λ (xs : List ℕ). IfSome (find (λ p. nat_le from p) xs) (λ p. p < x.pods.created)) (sym starting)
    (subst (λ (n : ℕ). IfSome (find (λ p. nat_le from p) (pods_in is_starting_now a.pods)) (λ p. p < n)) (sym created) below))

-- by so many events as there can be, fewer pods than there are numbers
pub few_created : (o : Option ℕ) (created events : ℕ) → events ≤ 2 ^ 54 → created ≤ 500 * (events + 1) → IfSome o (λ p. p < created) → IfSome o (λ p. p < 2 ^ 63)
few_created None created events few most h = tt
few_created (Some p) created events few most h = omega arith

-- ---- where a request stands

among : (x : Stand) (n : ℕ) → 0 < n → IsAmongLive x n
among stand.Unknown n h = tt
among stand.Ended n h = tt
among _ n h = h

pub stand_among : (a : Admission) (r : ℕ) → IsAmongLive (stand_in a r) (length a.live)
stand_among a r = by (nat_lt r a.arrivals) a.live refl refl
  where
    by : (b : Bool) (live : List Request) → nat_lt r a.arrivals ≡ b → a.live ≡ live → IsAmongLive (stand_in a r) (length a.live)
    by false live e f = rw e tt
    by true [] e f = rw (e, f) tt
    by true (q ∷ qs) e f = rw (e, f) (among (stand_found (find (λ (q : Request). q.number == r) (q ∷ qs))) (length (q ∷ qs)) (omega arith))
