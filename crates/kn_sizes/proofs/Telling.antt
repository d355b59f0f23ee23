-- An arrival is told where its request stands after its event.
use Rattle.std.proofs.Common.{◌≡◌, ℕ, ◌+◌, ◌<◌, Bool, true, false, not, ◌||◌, ◌⊎◌, inl, inr, [], ◌∷◌, ◌++◌, length, nat_lt, refl, sym, ap, ◌∙◌, arith, append-nil, append_assoc, length-append}
use Rattle.std.specs.Prelude.{Option, None, Some}
use Rattle.std.proofs.lemmas.Bool.Decides.{nat_tests}
use Rattle.std.proofs.lemmas.List.Elements.{filter_map-append}
use Rattle.std.proofs.lemmas.Bool.{eq-eqb}
use Rattle.kn_event.specs.declared.entry.Entry.{Entry}
use Rattle.kn_event.specs.declared.entry.Row.{Row}
use Rattle.kn_event.specs.declared.entry.Row.TheVariants as row
use Rattle.kn_event.specs.declared.event.Act.{Act}
use Rattle.kn_event.specs.declared.event.Act.TheVariants as act
use Rattle.kn_event.specs.declared.event.Event.{Event}
use Rattle.kn_event.specs.declared.event.Stand.{Stand}
use Rattle.kn_event.specs.declared.event.Stand.TheVariants as stand
use Rattle.kn_event.specs.declared.revision.Spec.{Spec}
use Rattle.kn_event.specs.Lists.{contains}
use Rattle.kn_trace.specs.Outcome.{Outcome, Overload, Refused, outcome_in, outcome_of}
use Rattle.kn_trace.specs.Rows.{arrived_by, ended_by, outcome_by, refused_by, taken_by}
use Rattle.kn_trace.specs.Trace.{Trace, entry, arrivals, each_row, ended, first_of, has_begun, live, live_pods, pod_of, stand_at, stand_of}
use Rattle.kn_trace.specs.Settling.{held_assignments, promotions, removals, settling}
use Rattle.kn_trace.specs.Events.{act_row, act_rows, activation, before_settling, entries_of, departures, react, row_of, scaler_rows, told_of, told_row, told_stand}
use Rattle.kn_trace.specs.Report.{is_assign}
use Rattle.kn_record.specs.Rows.{named_by}
use Rattle.kn_record.specs.Made.{Holds, IsMade, IsNumbered, IsProper}
use Rattle.kn_record.specs.Kept.{Kept}
use Rattle.kn_record.specs.Facts.{Facts}
use Rattle.kn_laws.specs.ByAct.{IsByAct}
use Rattle.kn_laws.specs.Kinds.{Each, is_departure_row, is_remove_row, is_run_row, is_scaler_row, IsActRow, is_act_row}
use Rattle.kn_laws.specs.Facts.{PartFacts}
use Rattle.kn_sizes.specs.Told.{IsTold, arrival_told, outcome_told, stand_told}
use Rattle.kn_sizes.proofs.Bounds.{held_rows}
use Rattle.kn_sizes.proofs.Outcomes.{live_outcome, no_outcome, outcome_comes, outcome_stays}

abbrev pub is_later_row : Row → Bool
is_later_row (row.Run r) = true
is_later_row (row.Assign r p) = true
is_later_row (row.Remove p) = true
is_later_row x = is_scaler_row x

run_later : (x : Row) → is_run_row x ≡ true → is_later_row x ≡ true
run_later (row.Run r) h = refl
run_later _ h = absurd (cc)

assign_later : (x : Row) → is_assign x ≡ true → is_later_row x ≡ true
assign_later (row.Assign r p) h = refl
assign_later _ h = absurd (cc)

remove_later : (x : Row) → is_remove_row x ≡ true → is_later_row x ≡ true
remove_later (row.Remove p) h = refl
remove_later _ h = absurd (cc)

scaler_later : (x : Row) → is_scaler_row x ≡ true → is_later_row x ≡ true
scaler_later (row.Run r) h = refl
scaler_later (row.Assign r p) h = refl
scaler_later (row.Remove p) h = refl
scaler_later x h = h

-- it neither brings a request nor ends one
pub later_plain : (x : Row) → is_later_row x ≡ true → (arrived_by x ≡ None) × (taken_by x ≡ None) × (refused_by x ≡ None) × (ended_by x ≡ None)
later_plain (row.Admit r tag) h = absurd (cc)
later_plain (row.QueueFull r pod) h = absurd (cc)
later_plain (row.Overload r) h = absurd (cc)
later_plain (row.Direct r p) h = absurd (cc)
later_plain (row.Finish r ok) h = absurd (cc)
later_plain (row.Expire r) h = absurd (cc)
later_plain (row.Cancel r) h = absurd (cc)
later_plain (row.LostRequest r) h = absurd (cc)
later_plain _ h = (refl, refl, refl, refl)

departure_arrives : (x : Row) → is_departure_row x ≡ true → arrived_by x ≡ None
departure_arrives (row.Expire r) h = refl
departure_arrives (row.LostRequest r) h = refl
departure_arrives _ h = absurd (cc)

abbrev pub later_of : Spec → Trace → Event → Trace
later_of s c e =
    let c1 = c ++ departures s c e in
    let own = entries_of e.time (act_row s c1 e.act) in
    let more = scaler_rows s.kind s e.time (c1 ++ own) e.act (act_row s c1 e.act) in
    let active = activation e.time (c1 ++ (own ++ more)) in
    let d = c ++ before_settling s c e in
    (more ++ active) ++ settling s e.time d

-- an event: who ends first, the act's own row, and what follows
pub react-split : (s : Spec) (c : Trace) (e : Event) → react s c e ≡ departures s c e ++ (entries_of e.time (act_row s (c ++ departures s c e) e.act) ++ later_of s c e)
unfolding react before_settling act_rows
react-split s c e = simp append_assoc refl

-- the same, after the trace
pub react-parts : (s : Spec) (c : Trace) (e : Event) → c ++ react s c e ≡ ((c ++ departures s c e) ++ entries_of e.time (act_row s (c ++ departures s c e) e.act)) ++ later_of s c e
unfolding react before_settling act_rows
react-parts s c e = simp append_assoc refl

-- ---- views by such rows

pub arrivals-list : (c es : Trace) → arrivals (c ++ es) ≡ arrivals c + length (each_row arrived_by es)
unfolding arrivals
arrivals-list c es = rw (filter_map-append (λ (e : Entry). arrived_by e.row) c es, length-append) refl

pub contains-list : (f : Row → Option ℕ) (r : ℕ) (c es : Trace) → each_row f es ≡ [] → contains r (each_row f (c ++ es)) ≡ contains r (each_row f c)
contains-list f r c es none = rw (filter_map-append (λ (e : Entry). f e.row) c es, none, append-nil (each_row f c)) refl

outcome_named : (x : Row) → (outcome_by x ≡ None) ⊎ (outcome_by x ≡ named_by x)
outcome_named (row.QueueFull r pod) = inr refl
outcome_named (row.Overload r) = inr refl
outcome_named (row.Finish r ok) = inr refl
outcome_named (row.Expire r) = inr refl
outcome_named (row.Cancel r) = inr refl
outcome_named (row.LostRequest r) = inr refl
outcome_named _ = inl refl

pub arrived-less : (c : Trace) (r : ℕ) → r < arrivals c → nat_lt r (arrivals c) ≡ true
arrived-less c r h = grind (arith, nat_tests)

told-at : (r : ℕ) (b : Bool) (o : Option ℕ) → (arrival_told (told_stand r (stand_at b o)) ≡ Some r) × (stand_told (told_stand r (stand_at b o)) ≡ Some (stand_at b o)) × (outcome_told (told_stand r (stand_at b o)) ≡ None)
told-at r b None = (refl, refl, refl)
told-at r true (Some p) = (refl, refl, refl)
told-at r false (Some p) = (refl, refl, refl)

ended-is : (c : Trace) (r : ℕ) → ended c r ≡ contains r (each_row ended_by c)
unfolding ended
ended-is c r = refl

-- an arrival always makes a row
arrive_some : (s : Spec) (c : Trace) (tag : ℕ) → act_row s c (act.Arrive tag) ≡ None → ⊥
unfolding act_row
arrive_some s c tag h = absurd (cc)

-- the act's row x, which brings request q, and all that follows it
record Brings (s : Spec) (c : Trace) (e : Event) (x : Row) (q : ℕ) : Type 0 where
  is : act_row s (c ++ departures s c e) e.act ≡ Some x
  arrives : arrived_by x ≡ Some q
  number : q ≡ arrivals c

-- an event is told by its act's own row
told-row : (s : Spec) (c : Trace) (e : Event) (x : Row) → act_row s (c ++ departures s c e) e.act ≡ Some x → told_of s c e ≡ told_row (c ++ react s c e) (Some x)
unfolding told_of act_rows
told-row s c e x h = by (act_row s (c ++ departures s c e) e.act) h
  where
    by : (o : Option Row) → o ≡ Some x
        → told_row (c ++ react s c e) (row_of (first_of (entries_of e.time o ++ scaler_rows s.kind s e.time ((c ++ departures s c e) ++ entries_of e.time o) e.act o))) ≡ told_row (c ++ react s c e) (Some x)
    by None h = absurd (cc)
    by (Some y) h = let same : y ≡ x = cc in rw same refl

-- the trace after the event
pub after-parts : (s : Spec) (c : Trace) (e : Event) (x : Row) → act_row s (c ++ departures s c e) e.act ≡ Some x → c ++ react s c e ≡ ((c ++ departures s c e) ++ entry e.time x ∷ []) ++ later_of s c e
after-parts s c e x h = react-parts s c e ∙ ap (λ (o : Option Row). ((c ++ departures s c e) ++ entries_of e.time o) ++ later_of s c e) h

unknown : (c : Trace) (r : ℕ) → arrivals c ≡ r → stand_of c r ≡ stand.Unknown
unfolding stand_of
unknown c r e = let out : nat_lt r (arrivals c) ≡ false = grind (arith, nat_tests) in rw out refl

module _ (facts : Facts) (parts : PartFacts) where
  open facts use {lists.{contains-filter, in_filter}, kinds.{ended_named, contains-within}, entries.{contains-push, arrivals-push}, members.{next_unnamed}, proper.{Holds-kept, made_kept, departures-hold, departures-clear, act-holds, react-holds}}
  open parts use {each.{Each-append, Each-weaken, none-rows}, rows.{departures-rows, act-facts, scaler-rows, activation-rows, promotions-rows, removals-rows}}

  -- ---- what comes after the act's own row

  -- the settling's rows come later
  settling-later : (s : Spec) (t : ℕ) (d : Trace) → Each is_later_row (settling s t d)
  unfolding settling
  settling-later s t d =
      let ran = promotions t d (live_pods d) in
      let gave = held_assignments s t (d ++ ran) in
      Each-append is_later_row (ran ++ gave) (removals t ((d ++ ran) ++ gave))
      (Each-append is_later_row ran gave (Each-weaken is_run_row is_later_row run_later ran (promotions-rows t d (live_pods d))) (Each-weaken is_assign is_later_row assign_later gave (held_rows facts parts s t (d ++ ran))))
      (Each-weaken is_remove_row is_later_row remove_later (removals t ((d ++ ran) ++ gave)) (removals-rows t ((d ++ ran) ++ gave)))

  -- all that follows the act's own row
  pub later-rows : (s : Spec) (c : Trace) (e : Event) → Each is_later_row (later_of s c e)
  later-rows s c e =
      let c1 = c ++ departures s c e in
      let own = entries_of e.time (act_row s c1 e.act) in
      let more = scaler_rows s.kind s e.time (c1 ++ own) e.act (act_row s c1 e.act) in
      let active = activation e.time (c1 ++ (own ++ more)) in
      Each-append is_later_row (more ++ active) (settling s e.time (c ++ before_settling s c e))
      (Each-append is_later_row more active
      (Each-weaken is_scaler_row is_later_row scaler_later more (scaler-rows s.kind s e.time (c1 ++ own) e.act (act_row s c1 e.act)))
      (Each-weaken is_scaler_row is_later_row scaler_later active (activation-rows e.time (c1 ++ (own ++ more)))))
      (settling-later s e.time (c ++ before_settling s c e))

  -- ---- where the arrival's request stands

  -- a refused request has ended
  refused-ended : (c : Trace) (r : ℕ) → IsNumbered c → r < arrivals c → contains r (each_row refused_by c) ≡ true → stand_of c r ≡ stand.Ended
  unfolding stand_of live
  refused-ended c r num less h =
      rw (arrived-less c r less, contains-filter (λ r. not (ended c r)) r (each_row taken_by c), num.apart r h) refl

  -- a live one stands where it is
  live-stands : (c : Trace) (r : ℕ) → r < arrivals c → contains r (each_row taken_by c) ≡ true → ended c r ≡ false → stand_of c r ≡ stand_at (has_begun c r) (pod_of c r)
  unfolding stand_of live
  live-stands c r less taken out = rw (arrived-less c r less, in_filter (λ r. not (ended c r)) r (each_row taken_by c) taken (rw out refl)) refl

  -- ---- the law

  pub first-arrivals : (s : Spec) (c : Trace) (e : Event) → arrivals (c ++ departures s c e) ≡ arrivals c
  first-arrivals s c e = let none : length (each_row arrived_by (departures s c e)) ≡ 0 = rw (none-rows arrived_by is_departure_row departure_arrives (departures s c e) (departures-rows s c e)) refl in let all = arrivals-list c (departures s c e) in omega arith

  -- an arrival counts once
  counts-one : (s : Spec) (c : Trace) (e : Event) (x : Row) (q : ℕ) → Brings s c e x q → arrivals (c ++ react s c e) ≡ arrivals c + 1
  counts-one s c e x q brings =
      let c1 = c ++ departures s c e in
      let later = later_of s c e in
      let none : length (each_row arrived_by later) ≡ 0 = rw (none-rows arrived_by is_later_row (λ y k. (later_plain y k).0) later (later-rows s c e)) refl in
      let all = arrivals-list (c1 ++ entry e.time x ∷ []) later in
      let one : arrivals (c1 ++ entry e.time x ∷ []) ≡ arrivals c1 + 1 = arrivals-push c1 (entry e.time x) ∙ rw (brings.arrives) refl in
      let zero = first-arrivals s c e in
      let parts = ap arrivals (after-parts s c e x brings.is) in
      omega arith

  -- the row takes it in
  taken-told : (s : Spec) (c : Trace) (e : Event) (x : Row) (q : ℕ) → IsMade s c → Brings s c e x q → taken_by x ≡ Some q → ended_by x ≡ None → told_row (c ++ react s c e) (Some x) ≡ told_stand q (stand_of (c ++ react s c e) q) → IsTold s c e
  taken-told s c e x q made brings taken ends told' =
      let after = c ++ react s c e in
      let count = counts-one s c e x q brings in
      let number = brings.number in
      let there = live-stands after q (omega arith) is_taken lives in
      let both = told-at q (has_begun after q) (pod_of after q) in
      record {
        new = unknown c (arrivals c) refl;
        number = ap arrival_told (told-row s c e x brings.is ∙ told' ∙ ap (λ (k : Stand). told_stand q k) there) ∙ both.0 ∙ ap (λ (n : ℕ). Some n) number;
        stands = ap stand_told (told-row s c e x brings.is ∙ told' ∙ ap (λ (k : Stand). told_stand q k) there) ∙ both.1 ∙ ap (λ (k : Stand). Some k) (sym there) ∙ ap (λ (n : ℕ). Some (stand_of after n)) number;
        outcome = sym (ap (λ (n : ℕ). outcome_of after n) number) ∙ live_outcome facts after q kept.requests is_taken lives ∙ sym both.2 ∙ sym (ap outcome_told (told-row s c e x brings.is ∙ told' ∙ ap (λ (k : Stand). told_stand q k) there));
        counts = count;
      }
    where
      c1 : Trace
      c1 = c ++ departures s c e

      later : Trace
      later = later_of s c e

      kept : Kept s (c ++ react s c e)
      kept = Holds-kept s c (react s c e) (made_kept s c made) (react-holds s c e (made_kept s c made))

      kept1 : Kept s c1
      kept1 = Holds-kept s c (departures s c e) (made_kept s c made) (departures-hold s c e (made_kept s c made))

      is_taken : contains q (each_row taken_by (c ++ react s c e)) ≡ true
      is_taken =
          ap (λ (d : Trace). contains q (each_row taken_by d)) (after-parts s c e x brings.is)
          ∙ contains-list taken_by q (c1 ++ entry e.time x ∷ []) later (none-rows taken_by is_later_row (λ y k. (later_plain y k).1) later (later-rows s c e))
          ∙ contains-push taken_by c1 (entry e.time x) q ∙ rw (taken, eq-eqb q q refl) (or-true-last (contains q (each_row taken_by c1)))
        where
          or-true-last : (b : Bool) → (b || true) ≡ true
          or-true-last true = refl
          or-true-last false = refl

      fresh : contains q (each_row ended_by c1) ≡ false
      fresh = contains-within ended_by named_by ended_named q c1 (rw (brings.number ∙ sym (first-arrivals s c e)) (next_unnamed c1 kept1.requests))

      lives : ended (c ++ react s c e) q ≡ false
      lives =
          ended-is (c ++ react s c e) q
          ∙ ap (λ (d : Trace). contains q (each_row ended_by d)) (after-parts s c e x brings.is)
          ∙ contains-list ended_by q (c1 ++ entry e.time x ∷ []) later (none-rows ended_by is_later_row (λ y k. (later_plain y k).3) later (later-rows s c e))
          ∙ contains-push ended_by c1 (entry e.time x) q ∙ rw (fresh, ends) refl

  -- the row refuses it
  refused-told : (s : Spec) (c : Trace) (e : Event) (x : Row) (q : ℕ) → IsMade s c → Brings s c e x q → refused_by x ≡ Some q
      → arrival_told (told_row (c ++ react s c e) (Some x)) ≡ Some q → stand_told (told_row (c ++ react s c e) (Some x)) ≡ Some stand.Ended
      → (o : Outcome) → outcome_told (told_row (c ++ react s c e) (Some x)) ≡ Some o → outcome_in q x ≡ Some o → IsTold s c e
  refused-told s c e x q made brings refuses name stands o outcome says' =
      let after = c ++ react s c e in
      let count = counts-one s c e x q brings in
      let number = brings.number in
      let kept = Holds-kept s c (react s c e) (made_kept s c made) (react-holds s c e (made_kept s c made)) in
      let gone = refused-ended after q kept.requests (omega arith) is_refused in
      record {
        new = unknown c (arrivals c) refl;
        number = ap arrival_told (told-row s c e x brings.is) ∙ name ∙ ap (λ (n : ℕ). Some n) number;
        stands = ap stand_told (told-row s c e x brings.is) ∙ stands ∙ ap (λ (k : Stand). Some k) (sym gone) ∙ ap (λ (n : ℕ). Some (stand_of after n)) number;
        outcome = sym (ap (λ (n : ℕ). outcome_of after n) number) ∙ has_outcome ∙ sym outcome ∙ sym (ap outcome_told (told-row s c e x brings.is));
        counts = count;
      }
    where
      c1 : Trace
      c1 = c ++ departures s c e

      later : Trace
      later = later_of s c e

      or-true-last : (b : Bool) → (b || true) ≡ true
      or-true-last true = refl
      or-true-last false = refl

      kept1 : Kept s c1
      kept1 = Holds-kept s c (departures s c e) (made_kept s c made) (departures-hold s c e (made_kept s c made))

      -- the row itself is the first that says one
      has_outcome : outcome_of (c ++ react s c e) q ≡ Some o
      has_outcome =
          let unnamed : contains q (each_row named_by c1) ≡ false = rw (brings.number ∙ sym (first-arrivals s c e)) (next_unnamed c1 kept1.requests) in
          rw (after-parts s c e x brings.is)
          (outcome_stays (c1 ++ entry e.time x ∷ []) later q o (outcome_comes c1 (entry e.time x) q o (no_outcome c1 q (contains-within outcome_by named_by outcome_named q c1 unnamed)) says'))

      is_refused : contains q (each_row refused_by (c ++ react s c e)) ≡ true
      is_refused =
          ap (λ (d : Trace). contains q (each_row refused_by d)) (after-parts s c e x brings.is)
          ∙ contains-list refused_by q (c1 ++ entry e.time x ∷ []) later (none-rows refused_by is_later_row (λ y k. (later_plain y k).2) later (later-rows s c e))
          ∙ contains-push refused_by c1 (entry e.time x) q ∙ rw (refuses, eq-eqb q q refl) (or-true-last (contains q (each_row refused_by c1)))

  -- an arrival is told its number and where it stands
  pub arrival_is_told : (s : Spec) (c : Trace) (e : Event) (tag : ℕ) → IsMade s c → e.act ≡ act.Arrive tag → IsTold s c e
  arrival_is_told s c e tag made arrives = by (act_row s c1 e.act) refl (act-facts s c1 e.act) (act-holds s e.time c1 e.act (departures-clear s c e (made_kept s c made)))
    where
      c1 : Trace
      c1 = c ++ departures s c e

      next : arrivals c1 ≡ arrivals c
      next = first-arrivals s c e

      one : (x : Row) → act_row s c1 e.act ≡ Some x → is_act_row x ≡ true → IsByAct e.act x → IsProper s c1 x → IsTold s c e
      one (row.Admit q g) k a b h = taken-told s c e (row.Admit q g) q made (record { is = k; arrives = refl; number = h.0.number ∙ next }) refl refl refl
      one (row.Direct q p) k a b h = taken-told s c e (row.Direct q p) q made (record { is = k; arrives = refl; number = h.0.number ∙ next }) refl refl refl
      one (row.QueueFull q None) k a b h = refused-told s c e (row.QueueFull q None) q made (record { is = k; arrives = refl; number = h.0.number ∙ next }) refl refl refl Refused refl (rw (eq-eqb q q refl) refl)
      one (row.QueueFull q (Some p)) k a b h = refused-told s c e (row.QueueFull q (Some p)) q made (record { is = k; arrives = refl; number = h.0.number ∙ next }) refl refl refl Refused refl (rw (eq-eqb q q refl) refl)
      one (row.Overload q) k a b h = refused-told s c e (row.Overload q) q made (record { is = k; arrives = refl; number = h.0 ∙ next }) refl refl refl Overload refl (rw (eq-eqb q q refl) refl)
      one (row.NotRunning q) k a b h = absurd (let other = b.1 in cc)
      one (row.NoPod p) k a (inl b) h = absurd (cc)
      one (row.NoPod p) k a (inr (inl b)) h = absurd (let other = b.1 in cc)
      one (row.NoPod p) k a (inr (inr b)) h = absurd (cc)
      one x k a b h = absurd (cc)

      by : (o : Option Row) → act_row s c1 e.act ≡ o → IsActRow e.act o → Holds (IsProper s) c1 (entries_of e.time o) → IsTold s c e
      by None k f h = absurd (no_row (sym (ap (λ (a : Act). act_row s c1 a) arrives) ∙ k))
        where
          no_row : act_row s c1 (act.Arrive tag) ≡ None → ⊥
          no_row n = arrive_some s c1 tag n
      by (Some x) k f h = one x k f.0 f.1 h.0
