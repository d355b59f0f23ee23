-- Where a request is that ends, and what its end is then.
use Rattle.std.proofs.Common.{◌≡◌, ℕ, inl, inr, Bool, true, false, List, [], ◌∷◌, refl, sym, ap, ◌∙◌, subst, arith, None, Some}
use Rattle.std.specs.Prelude.{Option, not, ◌&&◌, nat_lt}
use Rattle.std.specs.List.{AllByRecursion, cons_option, filter_map}
use Rattle.std.specs.Bool.{then_some}
use Rattle.std.proofs.lemmas.Bool.Decides.{nat_tests}
use Rattle.kn_event.specs.declared.entry.Entry.{Entry}
use Rattle.kn_event.specs.declared.entry.Row.{Row}
use Rattle.kn_event.specs.declared.entry.Row.TheVariants as row
use Rattle.kn_event.specs.declared.event.Stand.{Stand}
use Rattle.kn_event.specs.declared.revision.Spec.{Spec}
use Rattle.kn_event.specs.Lists.{contains}
use Rattle.kn_trace.specs.Rows.{ended_by, taken_by}
use Rattle.kn_trace.specs.Trace.{Trace, arrivals, assigned, ended, has_begun, has_run, held, live, pod_of, proxied, stand_at, stand_of}
use Rattle.kn_record.specs.declared.admission.Place.{Place}
use Rattle.kn_record.specs.declared.admission.Place.TheVariants as place
use Rattle.kn_record.specs.declared.admission.Request.{Request}
use Rattle.kn_record.specs.Admission.{Admission, admission, is_at, is_held_place, live_requests, place_at, place_of, placed_in, request_of, runs_somewhere, waits}
use Rattle.kn_record.specs.Facts.{Facts}
use Rattle.kn_record.specs.Made.{AreDistinct, IsMade, IsProper, IsRecordOf}
use Rattle.kn_record.specs.Views.{AreViews, numbers_in}
use Rattle.kn_changes.specs.Changes.{change_by, end_after, end_at}
use Rattle.kn_places.specs.Ends.{IsToldOf, change_in, end_of, end_of_place}
use Rattle.kn_places.proofs.Tallies.{IsThere, placed_there, there_number}

-- ---- of a place

end_at_place : (o : Option ℕ) (was ran : Bool) → end_at o was ≡ end_of_place (place_at o was ran)
end_at_place None was ran = refl
end_at_place (Some p) true ran = refl
end_at_place (Some p) false true = refl
end_at_place (Some p) false false = refl

pub ends_by_place : (c : Trace) (r : ℕ) → end_after c r ≡ end_of_place (place_of c r)
unfolding place_of
ends_by_place c r = end_at_place (pod_of c r) (assigned c r) (has_run c r)

-- each request of the record is where the trace has it
abbrev IsPlaced : Trace → Request → Type 0
IsPlaced c q = q.place ≡ place_of c q.number

placed_option : (c : Trace) (t : ℕ) (o : Option ℕ) (rest : List Request) → AllByRecursion (IsPlaced c) rest → AllByRecursion (IsPlaced c) (cons_option (request_of c t o) rest)
unfolding request_of
placed_option c t None rest h = h
placed_option c t (Some r) rest h = by (not (ended c r))
  where
    by : (b : Bool) → AllByRecursion (IsPlaced c) (cons_option (then_some b (let q : Request = record { number = r; time = t; place = place_of c r } in q)) rest)
    by true = (refl, h)
    by false = h

placed_all : (c es : Trace) → AllByRecursion (IsPlaced c) (filter_map (λ (e : Entry). request_of c e.time (taken_by e.row)) es)
placed_all c [] = tt
placed_all c (e ∷ es) = placed_option c e.time (taken_by e.row) _ (placed_all c es)

pub placed_requests : (c : Trace) → AllByRecursion (IsPlaced c) (live_requests c)
unfolding live_requests
placed_requests c = placed_all c c

ends_all : (c : Trace) (live : List Request) → AllByRecursion (IsPlaced c) live → AllByRecursion (λ (q : Request). end_after c q.number ≡ end_of_place q.place) live
ends_all c [] h = tt
ends_all c (q ∷ qs) h = (ends_by_place c q.number ∙ ap end_of_place (sym h.0), ends_all c qs h.1)

pub record_ends : (a : Admission) (c : Trace) → IsRecordOf a c → AllByRecursion (λ (q : Request). end_after c q.number ≡ end_of_place q.place) a.live
unfolding admission
record_ends a c h = ends_all c a.live (subst (λ (b : Admission). AllByRecursion (IsPlaced c) b.live) (sym h.kept) (placed_requests c))

-- so one who is there ends so
pub there_ends : (r : ℕ) (x : Place) (c : Trace) (qs : List Request) → AllByRecursion (λ (q : Request). end_after c q.number ≡ end_of_place q.place) qs → IsThere r x qs → end_after c r ≡ end_of_place x
there_ends r x c [] h there = absurd there
there_ends r x c (q ∷ qs) h (inl is) = subst (λ n. end_after c n ≡ end_of_place x) is.0 (subst (λ y. end_after c q.number ≡ end_of_place y) is.1 h.0)
there_ends r x c (q ∷ qs) h (inr more) = there_ends r x c qs h.1 more

-- ---- of a stand

and_parts : (a b : Bool) → (a && b) ≡ true → (a ≡ true) × (b ≡ true)
and_parts true b h = (refl, h)
and_parts false b h = absurd (cc)

end_at_stand : (o : Option ℕ) (was begun : Bool) → end_at o was ≡ end_of (stand_at begun o) was
end_at_stand None was begun = refl
end_at_stand (Some p) was true = refl
end_at_stand (Some p) was false = refl

not_over : (a b : Bool) → b ≡ false → (a && not b) ≡ a
not_over true b h = rw h refl
not_over false b h = refl

held_is : (x : Place) → is_held_place x ≡ true → x ≡ place.Held
held_is place.Held h = refl
held_is (place.Queued p) h = absurd (cc)
held_is (place.Running p x) h = absurd (cc)

module _ (facts : Facts) where
  open facts use {lists.{first_member}, members.{live_distinct, live_member, taken_comes}}

  pub ends_by_stand : (s : Spec) (c : Trace) (r : ℕ) → IsMade s c → contains r (live c) ≡ true → end_after c r ≡ end_of (stand_of c r) (proxied c r)
  unfolding stand_of proxied
  ends_by_stand s c r made is_live =
      let numbered = (facts.proper.made_kept s c made).requests in
      let member = live_member c r is_live in
      let below : nat_lt r (arrivals c) ≡ true = let lt = taken_comes c r numbered member.0 in grind (arith, nat_tests, lt) in
      rw (below, is_live, not_over (assigned c r) (ended c r) member.1) (end_at_stand (pod_of c r) (assigned c r) (has_begun c r))

  module _ (views : (s : Spec) (a : Admission) (c : Trace) → IsRecordOf a c → AreViews s a c) where
    found : (a : Admission) (test : Place → Bool) (q r : ℕ) → contains q (placed_in test a.live) ≡ true → q ≡ r → (y : Place) × IsThere r y a.live
    found a test q r k is = let there = placed_there test q a.live k in (there.0, subst (λ n. IsThere n there.0 a.live) is there.2)

    -- who ends is there
    pub ends_there : (s : Spec) (a : Admission) (c : Trace) (x : Row) (r : ℕ) → IsRecordOf a c → IsProper s c x → ended_by x ≡ Some r → (y : Place) × IsThere r y a.live
    ends_there s a c (row.Finish q ok) r h proper is = found a runs_somewhere q r (sym ((views s a c h).is_running q) ∙ proper) (cc)
    ends_there s a c (row.Expire q) r h proper is = found a waits q r (subst (λ xs. contains q xs ≡ true) (views s a c h).waiting proper) (cc)
    ends_there s a c (row.Cancel q) r h proper is = found a waits q r (subst (λ xs. contains q xs ≡ true) (views s a c h).waiting proper) (cc)
    ends_there s a c (row.LostRequest q) r h proper is = found a (is_at proper.0) q r (sym ((views s a c h).is_at_pod proper.0 q) ∙ proper.1) (cc)
    ends_there s a c _ r h proper is = absurd (cc)

    pub are_distinct : (s : Spec) (a : Admission) (c : Trace) → IsRecordOf a c → AreDistinct (numbers_in a.live)
    are_distinct s a c h = subst AreDistinct (views s a c h).live (live_distinct c h.requests)

    pub assigned_there : (s : Spec) (a : Admission) (c : Trace) (r p : ℕ) → IsRecordOf a c → IsProper s c (row.Assign r p) → IsThere r place.Held a.live
    assigned_there s a c r p h proper =
        let member = first_member r (held c) proper.first in
        let there = placed_there is_held_place r a.live (subst (λ xs. contains r xs ≡ true) (views s a c h).held member) in
        subst (λ y. IsThere r y a.live) (held_is there.0 there.1) there.2

    pub ends_at : (s : Spec) (a : Admission) (c : Trace) (x : Row) (r : ℕ) → IsRecordOf a c → IsProper s c x → ended_by x ≡ Some r → (y : Place) × IsThere r y a.live × (end_after c r ≡ end_of_place y)
    ends_at s a c x r h proper is =
        let there = ends_there s a c x r h proper is in
        (there.0, there.1, there_ends r there.0 c a.live (record_ends a c h) there.1)

    -- so a row changes what is said of it
    pub change_is : (s : Spec) (c : Trace) (x : Row) (at : Stand) (through : Bool) → IsRecordOf (admission c) c → IsMade s c → IsProper s c x → IsToldOf c x at through → change_in x at through ≡ change_by c x
    change_is s c x at through h made proper told = by x proper told
      where
        ended : (y : Row) (r : ℕ) → IsProper s c y → IsToldOf c y at through → ended_by y ≡ Some r → Some (end_of at through) ≡ Some (end_after c r)
        ended y r proper told is =
            let there = ends_there s (admission c) c y r h proper is in
            let is_live : contains r (live c) ≡ true = subst (λ xs. contains r xs ≡ true) (sym (views s (admission c) c h).live) (there_number r there.0 (admission c).live there.1) in
            ap Some (ap (λ z. end_of z through) (told.stands r is) ∙ ap (end_of (stand_of c r)) (told.handed r is) ∙ sym (ends_by_stand s c r made is_live))

        by : (y : Row) → IsProper s c y → IsToldOf c y at through → change_in y at through ≡ change_by c y
        by (row.Finish r ok) proper told = ended (row.Finish r ok) r proper told refl
        by (row.Expire r) proper told = ended (row.Expire r) r proper told refl
        by (row.Cancel r) proper told = ended (row.Cancel r) r proper told refl
        by (row.LostRequest r) proper told = ended (row.LostRequest r) r proper told refl
        by _ proper told = refl
