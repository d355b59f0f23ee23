-- What is measured of a trace may take the change of a proper row.
use Rattle.std.proofs.Common.{◌≡◌, ℕ, ◌<◌, ◌≤◌, true, false, List, length, refl, sym, ap, subst, arith, Some}
use Rattle.std.specs.Prelude.{IfSome}
use Rattle.std.proofs.lemmas.List.{length-map}
use Rattle.kn_event.specs.declared.entry.Row.{Row}
use Rattle.kn_event.specs.declared.entry.Row.TheVariants as row
use Rattle.kn_event.specs.declared.revision.Spec.{Spec}
use Rattle.kn_trace.specs.Rows.{ended_by}
use Rattle.kn_trace.specs.Trace.{Trace}
use Rattle.kn_record.specs.declared.admission.Place.{Place}
use Rattle.kn_record.specs.declared.admission.Place.TheVariants as place
use Rattle.kn_record.specs.declared.admission.Request.{Request}
use Rattle.kn_record.specs.Admission.{Admission, admission, is_held_place, is_through}
use Rattle.kn_record.specs.Facts.{Facts}
use Rattle.kn_record.specs.Made.{IsMade, IsNext, IsProper, IsRecordOf}
use Rattle.kn_record.specs.Views.{AreViews}
use Rattle.kn_stats.specs.Changes.{TimedChange}
use Rattle.kn_stats.specs.Totals.{CanCount, IsTotalsOf, TotalsState, live_of}
use Rattle.kn_changes.specs.Changes.{change_by, changes_of, end_after}
use Rattle.kn_places.specs.Counts.{AreCounted, is_past}
use Rattle.kn_places.specs.Ends.{end_of_place}
use Rattle.kn_places.proofs.Tallies.{IsThere, bit, tally, tally-both, tally-more, tally-some}
use Rattle.kn_places.proofs.Places.{assigned_there, ends_at}

-- ---- what is counted

held_through : (x : Place) → bit (is_held_place x) ≤ bit (is_through x)
held_through place.Held = omega arith
held_through (place.Queued p) = omega arith
held_through (place.Running p assigned) = omega arith

module _ (t : TotalsState) (cs : List TimedChange) (live : List Request) (stands : IsTotalsOf t cs) (counted : AreCounted cs live) where
  waiting_is : t.waiting ≡ tally is_held_place live
  waiting_is = let a = stands.waiting in let b = counted.waiting in omega (arith, a, b)

  through_is : t.activator.count ≡ tally is_through live
  through_is = let a = stands.activator.count in let b = counted.through in omega (arith, a, b)

  past_is : t.direct.count ≡ tally is_past live
  past_is = let a = stands.direct.count in let b = counted.past in omega (arith, a, b)

  live_is : live_of t ≡ length live
  live_is =
      let both = tally-both is_through live in
      let many = length-map live (λ (q : Request). q.number) in
      omega (arith, through_is, past_is, both, many)

-- ---- rows

module _
    (facts : Facts)
    (views : (s : Spec) (a : Admission) (c : Trace) → IsRecordOf a c → AreViews s a c)
    (stands_of : (s : Spec) (c : Trace) → IsMade s c → IsRecordOf (admission c) c)
    (counted_of : (s : Spec) (a : Admission) (c : Trace) → IsMade s c → IsRecordOf a c → AreCounted (changes_of c) a.live)
    (s : Spec)
    (c : Trace)
    (t : TotalsState)
    (made : IsMade s c)
    (stands : IsTotalsOf t (changes_of c))
  where
    now : IsRecordOf (admission c) c
    now = stands_of s c made

    counted : AreCounted (changes_of c) (admission c).live
    counted = counted_of s (admission c) c made now

    waits_some : (r : ℕ) → IsThere r place.Held (admission c).live → 0 < t.waiting
    waits_some r there =
        let is = waiting_is t (changes_of c) (admission c).live stands counted in
        let some = tally-some is_held_place r place.Held (admission c).live there refl in
        omega (arith, is, some)

    past_some : (r : ℕ) (y : Place) → IsThere r y (admission c).live → is_past y ≡ true → 0 < t.direct.count
    past_some r y there past =
        let is = past_is t (changes_of c) (admission c).live stands counted in
        let some = tally-some is_past r y (admission c).live there past in
        omega (arith, is, some)

    can_end : (r : ℕ) (y : Place) → IsThere r y (admission c).live → CanCount t (end_of_place y)
    can_end r place.Held there = waits_some r there
    can_end r (place.Queued p) there = past_some r (place.Queued p) there refl
    can_end r (place.Running p true) there =
        let waits = waiting_is t (changes_of c) (admission c).live stands counted in
        let through = through_is t (changes_of c) (admission c).live stands counted in
        let more = tally-more is_held_place is_through held_through r (place.Running p true) (admission c).live there (omega arith) in
        omega (arith, waits, through, more)
    can_end r (place.Running p false) there = past_some r (place.Running p false) there refl

    can_ended : (x : Row) (r : ℕ) → IsProper s c x → ended_by x ≡ Some r → CanCount t (end_after c r)
    can_ended x r proper is =
        let at = ends_at facts views s (admission c) c x r now proper is in
        subst (CanCount t) (sym at.2) (can_end r at.0 at.1)

    can_begin : (r : ℕ) → IsNext c r → live_of t < 20000
    can_begin r next =
        let is = live_is t (changes_of c) (admission c).live stands counted in
        let many = ap length (views s (admission c) c now).live in
        let all = length-map (admission c).live (λ (q : Request). q.number) in
        let few = next.room in
        omega (arith, is, many, all, few)

    pub can_change : (x : Row) → IsProper s c x → IfSome (change_by c x) (CanCount t)
    can_change (row.Admit r tag) proper = can_begin r proper.0
    can_change (row.Direct r p) proper = can_begin r proper.0
    can_change (row.Assign r p) proper = waits_some r (assigned_there facts views s (admission c) c r p now proper)
    can_change (row.Finish r ok) proper = can_ended (row.Finish r ok) r proper refl
    can_change (row.Expire r) proper = can_ended (row.Expire r) r proper refl
    can_change (row.Cancel r) proper = can_ended (row.Cancel r) r proper refl
    can_change (row.LostRequest r) proper = can_ended (row.LostRequest r) r proper refl
    can_change _ proper = tt
