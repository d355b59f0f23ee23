-- As many are live of each way, and at each pod, by the changes of a trace as by its record.
use Rattle.std.proofs.Common.{◌≡◌, ℕ, ◌+◌, Bool, true, List, [], ◌∷◌, ◌++◌, refl, sym, ap, ◌∙◌, subst, arith, append-nil, append_assoc, None, Some}
use Rattle.std.specs.Prelude.{Option, option_map}
use Rattle.std.specs.Option.{option_to_list}
use Rattle.std.proofs.lemmas.List.Sums.{sum_by-append}
use Rattle.kn_event.specs.declared.entry.Entry.{Entry}
use Rattle.kn_event.specs.declared.entry.Row.{Row}
use Rattle.kn_event.specs.declared.entry.Row.TheVariants as row
use Rattle.kn_event.specs.declared.revision.Spec.{Spec}
use Rattle.kn_trace.specs.Rows.{ended_by}
use Rattle.kn_trace.specs.Trace.{Trace, entry}
use Rattle.kn_record.specs.declared.admission.Place.{Place}
use Rattle.kn_record.specs.declared.admission.Place.TheVariants as place
use Rattle.kn_record.specs.Admission.{Admission, admission, begun, is_held_place, is_through, live_after, live_requests, stepped, without}
use Rattle.kn_record.specs.Facts.{Facts}
use Rattle.kn_record.specs.Made.{Holds, IsMade, IsProper, IsRecordOf}
use Rattle.kn_record.specs.Views.{AreViews}
use Rattle.kn_stats.specs.declared.change.Change.{Change}
use Rattle.kn_stats.specs.declared.change.Change.TheVariants as change
use Rattle.kn_stats.specs.Changes.{TimedChange, at, count_of, ends_admitted, ends_assigned, ends_directed, ends_waiting, is_admitted, is_assigned, is_directed, timed}
use Rattle.kn_changes.specs.Changes.{change_by, change_of, changes_of, end_after}
use Rattle.kn_places.specs.Counts.{AreCounted, Leave, is_past, is_past_at, is_through_at}
use Rattle.kn_places.specs.Ends.{end_of_place}
use Rattle.kn_places.proofs.Tallies.{bit, tally, tally-begins, tally-last, tally-moved, tally-out}
use Rattle.kn_places.proofs.Places.{are_distinct, assigned_there, ends_at}

-- ---- tests of changes and of places that go together

-- what such a change begins, ends or moves passes the test of places as its changes say
pub record GoWith (begins ends : Change → Bool) (test : Place → Bool) : Type 0 where
  pub admitted : bit (begins change.Admitted) ≡ bit (ends change.Admitted) + bit (test place.Held)
  pub directed : (p : ℕ) → bit (begins (change.Directed p)) ≡ bit (ends (change.Directed p)) + bit (test (place.Queued p))
  pub assigned : (p : ℕ) → bit (begins (change.Assigned p)) + bit (test place.Held) ≡ bit (ends (change.Assigned p)) + bit (test (place.Running p true))
  pub run : (x : Place) → test (begun x) ≡ test x
  pub ended : (x : Place) → bit (ends (end_of_place x)) ≡ bit (begins (end_of_place x)) + bit (test x)

waiting_go : GoWith is_admitted ends_waiting is_held_place
waiting_go = record { admitted = refl; directed = λ p. refl; assigned = λ p. refl; run = same; ended = over }
  where
    same : (x : Place) → is_held_place (begun x) ≡ is_held_place x
    same place.Held = refl
    same (place.Queued p) = refl
    same (place.Running p x) = refl

    over : (x : Place) → bit (ends_waiting (end_of_place x)) ≡ bit (is_admitted (end_of_place x)) + bit (is_held_place x)
    over place.Held = refl
    over (place.Queued p) = refl
    over (place.Running p x) = refl

through_go : GoWith is_admitted ends_admitted is_through
through_go = record { admitted = refl; directed = λ p. refl; assigned = λ p. refl; run = same; ended = over }
  where
    same : (x : Place) → is_through (begun x) ≡ is_through x
    same place.Held = refl
    same (place.Queued p) = refl
    same (place.Running p x) = refl

    over : (x : Place) → bit (ends_admitted (end_of_place x)) ≡ bit (is_admitted (end_of_place x)) + bit (is_through x)
    over place.Held = refl
    over (place.Queued p) = refl
    over (place.Running p x) = omega arith

past_go : GoWith is_directed ends_directed is_past
past_go = record { admitted = refl; directed = λ p. refl; assigned = λ p. refl; run = same; ended = over }
  where
    same : (x : Place) → is_past (begun x) ≡ is_past x
    same place.Held = refl
    same (place.Queued p) = refl
    same (place.Running p x) = refl

    over : (x : Place) → bit (ends_directed (end_of_place x)) ≡ bit (is_directed (end_of_place x)) + bit (is_past x)
    over place.Held = refl
    over (place.Queued p) = refl
    over (place.Running p x) = omega arith

past_at_go : (p : ℕ) → GoWith (at is_directed p) (at ends_directed p) (is_past_at p)
past_at_go p = record { admitted = refl; directed = λ q. omega arith; assigned = λ q. refl; run = same; ended = over }
  where
    same : (x : Place) → is_past_at p (begun x) ≡ is_past_at p x
    same place.Held = refl
    same (place.Queued q) = refl
    same (place.Running q x) = refl

    over : (x : Place) → bit (at ends_directed p (end_of_place x)) ≡ bit (at is_directed p (end_of_place x)) + bit (is_past_at p x)
    over place.Held = refl
    over (place.Queued q) = omega arith
    over (place.Running q x) = omega arith

through_at_go : (p : ℕ) → GoWith (at is_assigned p) (at ends_assigned p) (is_through_at p)
through_at_go p = record { admitted = refl; directed = λ q. refl; assigned = λ q. omega arith; run = same; ended = over }
  where
    same : (x : Place) → is_through_at p (begun x) ≡ is_through_at p x
    same place.Held = refl
    same (place.Queued q) = refl
    same (place.Running q x) = refl

    over : (x : Place) → bit (at ends_assigned p (end_of_place x)) ≡ bit (at is_assigned p (end_of_place x)) + bit (is_through_at p x)
    over place.Held = refl
    over (place.Queued q) = refl
    over (place.Running q x) = omega arith

-- ---- one row

abbrev bit_if : (Change → Bool) → Option Change → ℕ
bit_if test None = 0
bit_if test (Some x) = bit (test x)

count-option : (test : Change → Bool) (t : ℕ) (o : Option Change) → count_of test (option_to_list (option_map (timed t) o)) ≡ bit_if test o
unfolding count_of
count-option test t None = refl
count-option test t (Some x) = omega arith

count-more : (test : Change → Bool) (t : ℕ) (o : Option Change) (cs : List TimedChange) → count_of test (cs ++ option_to_list (option_map (timed t) o)) ≡ count_of test cs + bit_if test o
unfolding count_of
count-more test t o cs =
    let all = sum_by-append (λ (x : TimedChange). bit (test x.change)) cs (option_to_list (option_map (timed t) o)) in
    let one = count-option test t o in
    omega (arith, all, one)

count-none : (test : Change → Bool) → count_of test (changes_of []) ≡ 0
unfolding count_of changes_of
count-none test = refl

module _
    (facts : Facts)
    (views : (s : Spec) (a : Admission) (c : Trace) → IsRecordOf a c → AreViews s a c)
    (stands : (s : Spec) (c : Trace) → IsMade s c → IsRecordOf (admission c) c)
    (admit : (s : Spec) (c : Trace) (t : ℕ) (x : Row) → IsMade s c → IsProper s c x → admission (c ++ entry t x ∷ []) ≡ stepped t x (admission c))
    (made_more : (s : Spec) (c : Trace) (t : ℕ) (x : Row) → IsMade s c → IsProper s c x → IsMade s (c ++ entry t x ∷ []))
    (more : (c : Trace) (e : Entry) → changes_of (c ++ e ∷ []) ≡ changes_of c ++ option_to_list (change_of c e))
  where
    module _ (begins ends : Change → Bool) (test : Place → Bool) (go : GoWith begins ends test) where
      ended-counts : (s : Spec) (a : Admission) (c : Trace) (x : Row) (r : ℕ) → IsRecordOf a c → IsProper s c x → ended_by x ≡ Some r
          → bit (begins (end_after c r)) + tally test a.live ≡ bit (ends (end_after c r)) + tally test (without r a.live)
      ended-counts s a c x r h proper is =
          let at = ends_at facts views s a c x r h proper is in
          let less = tally-out test r at.0 a.live (are_distinct facts views s a c h) at.1 in
          let over = go.ended at.0 in
          rw at.2 (omega (arith, less, over))

      row-counts : (s : Spec) (a : Admission) (c : Trace) (t : ℕ) (x : Row) → IsRecordOf a c → IsProper s c x
          → bit_if begins (change_by c x) + tally test a.live ≡ bit_if ends (change_by c x) + tally test (live_after t x a.live)
      row-counts s a c t (row.Admit r tag) h proper =
          let last = tally-last test (record { number = r; time = t; place = place.Held }) a.live in
          let is = go.admitted in
          omega (arith, last, is)
      row-counts s a c t (row.Direct r p) h proper =
          let last = tally-last test (record { number = r; time = t; place = place.Queued p }) a.live in
          let is = go.directed p in
          omega (arith, last, is)
      row-counts s a c t (row.Assign r p) h proper =
          let there = assigned_there facts views s a c r p h proper in
          let moves = tally-moved test r place.Held (place.Running p true) a.live (are_distinct facts views s a c h) there in
          let is = go.assigned p in
          omega (arith, moves, is)
      row-counts s a c t (row.Run r) h proper = let stay = tally-begins test go.run r a.live in omega (arith, stay)
      row-counts s a c t (row.Finish r ok) h proper = ended-counts s a c (row.Finish r ok) r h proper refl
      row-counts s a c t (row.Expire r) h proper = ended-counts s a c (row.Expire r) r h proper refl
      row-counts s a c t (row.Cancel r) h proper = ended-counts s a c (row.Cancel r) r h proper refl
      row-counts s a c t (row.LostRequest r) h proper = ended-counts s a c (row.LostRequest r) r h proper refl
      row-counts s a c t _ h proper = refl

      -- as many as it leaves at this trace
      abbrev Leaves : Trace → Type 0
      Leaves c = Leave begins ends test (changes_of c) (admission c).live

      leaves-push : (s : Spec) (c : Trace) (e : Entry) → IsMade s c → IsProper s c e.row → Leaves c → Leaves (c ++ e ∷ [])
      unfolding stepped
      leaves-push s c e made proper h =
          let after = ap (λ (b : Admission). tally test b.live) (admit s c e.time e.row made proper) in
          let row = row-counts s (admission c) c e.time e.row (stands s c made) proper in
          let begun_now = ap (count_of begins) (more c e) ∙ count-more begins e.time (change_by c e.row) (changes_of c) in
          let ended_now = ap (count_of ends) (more c e) ∙ count-more ends e.time (change_by c e.row) (changes_of c) in
          omega (arith, after, row, begun_now, ended_now, h)

      leaves-all : (s : Spec) (b c : Trace) → IsMade s b → Leaves b → Holds (IsProper s) b c → Leaves (b ++ c)
      leaves-all s b [] made h each = subst Leaves (sym (append-nil b)) h
      leaves-all s b (e ∷ es) made h each =
          subst Leaves (append_assoc b (e ∷ []) es)
          (leaves-all s (b ++ e ∷ []) es (made_more s b e.time e.row made each.0) (leaves-push s b e made each.0 h) each.1)

      pub leaves : (s : Spec) (c : Trace) → IsMade s c → Leaves c
      unfolding admission live_requests
      leaves s c made =
          let begun_none = count-none begins in
          let ended_none = count-none ends in
          leaves-all s [] c (record { rows = tt }) (omega (arith, begun_none, ended_none)) made.rows

    pub are_counted : (s : Spec) (a : Admission) (c : Trace) → IsMade s c → IsRecordOf a c → AreCounted (changes_of c) a.live
    are_counted s a c made h =
        subst (λ (b : Admission). AreCounted (changes_of c) b.live) (sym h.kept)
        (record {
          waiting = leaves is_admitted ends_waiting is_held_place waiting_go s c made;
          through = leaves is_admitted ends_admitted is_through through_go s c made;
          past = leaves is_directed ends_directed is_past past_go s c made;
          past_at = λ p. leaves (at is_directed p) (at ends_directed p) (is_past_at p) (past_at_go p) s c made;
          through_at = λ p. leaves (at is_assigned p) (at ends_assigned p) (is_through_at p) (through_at_go p) s c made;
        })
