-- Which tag an arrival has, and which rows a run has.
use Rattle.std.proofs.Common.{◌≡◌, refl, sym, ap, ◌∙◌, get_or, ℕ, ◌+◌, ◌<◌, Bool, true, false, cond, List, [], ◌∷◌, ◌++◌, length, length-append, append_assoc, append-nil, arith, Option, Some, None}
use Rattle.std.specs.Prelude.{◌%◌, nat_le, slice_index, unwrap_or}
use Rattle.std.specs.List.{cons_option}
use Rattle.std.proofs.lemmas.List.{get_or_append_left, get_or_push}
use Rattle.std.proofs.lemmas.List.Elements.{filter_map-append}
use Rattle.kn_event.specs.declared.entry.Entry.{Entry}
use Rattle.kn_event.specs.declared.entry.Mode.{Mode}
use Rattle.kn_event.specs.declared.entry.Mode.TheVariants as mode
use Rattle.kn_event.specs.declared.entry.Row.{Row}
use Rattle.kn_event.specs.declared.entry.Row.TheVariants as row
use Rattle.kn_event.specs.declared.event.Act.{Act}
use Rattle.kn_event.specs.declared.event.Act.TheVariants as act
use Rattle.kn_event.specs.declared.event.Event.{Event}
use Rattle.kn_event.specs.declared.revision.Spec.{Spec}
use Rattle.kn_event.specs.Lists.{contains}
use Rattle.kn_trace.specs.Capacity.{breaker_full, pod_full}
use Rattle.kn_trace.specs.Events.{act_row, act_rows, activation, added, admission_row, arrival_row, before_settling, departures, entries_of, live_most, opening, react, scaler_rows, trace_of}
use Rattle.kn_trace.specs.Rows.{arrived_by, taken_by}
use Rattle.kn_trace.specs.Scale.{mode_of}
use Rattle.kn_trace.specs.Settling.{assignments_of, held_assignments, promotions, removals, settling}
use Rattle.kn_trace.specs.Trace.{Trace, arrivals, direct_turn, each_row, held, live, live_pods, ready_pods}
use Rattle.kn_trace.specs.Report.{is_assign}
use Rattle.kn_record.specs.Facts.{Facts}
use Rattle.kn_record.specs.Made.{IsMade, IsProper}
use Rattle.kn_record.specs.Rows.{counted}
use Rattle.kn_laws.specs.ByAct.{IsByAct}
use Rattle.kn_laws.specs.Facts.{PartFacts}
use Rattle.kn_laws.specs.Kinds.{Each, IsActRow, is_departure_row, is_remove_row, is_run_row, is_scaler_row}
use Rattle.kn_lives.specs.declared.lives.Life.{Life}
use Rattle.kn_lives.specs.Lives.{AreLives, ComesNext, life_in, life_of, tag_by, tag_of, tags}

-- ---- which rows bring somebody

departure_arrives : (x : Row) → is_departure_row x ≡ true → arrived_by x ≡ None
departure_arrives (row.Expire r) h = refl
departure_arrives (row.LostRequest r) h = refl
departure_arrives _ h = absurd (cc)

scaler_arrives : (x : Row) → is_scaler_row x ≡ true → arrived_by x ≡ None
scaler_arrives (row.Admit r tag) h = absurd (cc)
scaler_arrives (row.QueueFull r pod) h = absurd (cc)
scaler_arrives (row.Overload r) h = absurd (cc)
scaler_arrives (row.Direct r p) h = absurd (cc)
scaler_arrives _ h = refl

run_arrives : (x : Row) → is_run_row x ≡ true → arrived_by x ≡ None
run_arrives (row.Run r) h = refl
run_arrives _ h = absurd (cc)

assign_arrives : (x : Row) → is_assign x ≡ true → arrived_by x ≡ None
assign_arrives (row.Assign r p) h = refl
assign_arrives _ h = absurd (cc)

remove_arrives : (x : Row) → is_remove_row x ≡ true → arrived_by x ≡ None
remove_arrives (row.Remove p) h = refl
remove_arrives _ h = absurd (cc)

-- the row of another act brings nobody
other_act : (a : Act) (x : Row) → tag_by a ≡ None → IsByAct a x → arrived_by x ≡ None
other_act a (row.Admit r tag) none by = absurd (let e = ap tag_by by in cc)
other_act a (row.QueueFull r pod) none by = absurd (let e = ap tag_by by.1 in cc)
other_act a (row.Overload r) none by = absurd (let e = ap tag_by by.1 in cc)
other_act a (row.Direct r p) none by = absurd (let e = ap tag_by by.1 in cc)
other_act a _ none by = refl

-- that of an arrival brings one
admission_arrives : (s : Spec) (c : Trace) (tag : ℕ) → arrived_by (admission_row s c tag) ≡ Some (arrivals c)
admission_arrives s c tag = by (breaker_full s c)
  where
    by : (b : Bool) → arrived_by (cond b (row.QueueFull (arrivals c) None) (row.Admit (arrivals c) tag)) ≡ Some (arrivals c)
    by true = refl
    by false = refl

arrival_arrives : (m : Mode) (s : Spec) (c : Trace) (ready : List ℕ) (tag : ℕ) → arrived_by (arrival_row m s c ready tag) ≡ Some (arrivals c)
arrival_arrives mode.Serve s c (p ∷ ps) tag = by (pod_full c (slice_index (p ∷ ps) (direct_turn c % length (p ∷ ps)))) (slice_index (p ∷ ps) (direct_turn c % length (p ∷ ps)))
  where
    by : (b : Bool) (q : ℕ) → arrived_by (cond b (row.QueueFull (arrivals c) (Some q)) (row.Direct (arrivals c) q)) ≡ Some (arrivals c)
    by true q = refl
    by false q = refl
arrival_arrives _ s c ready tag = admission_arrives s c tag

act_arrives : (s : Spec) (c : Trace) (tag : ℕ) → (x : Row) × (act_row s c (act.Arrive tag) ≡ Some x) × (arrived_by x ≡ Some (arrivals c))
unfolding act_row
act_arrives s c tag = by (nat_le live_most (length (live c)))
  where
    by : (b : Bool) → (x : Row) × (Some (cond b (row.Overload (arrivals c)) (arrival_row (mode_of c) s c (ready_pods c) tag)) ≡ Some x) × (arrived_by x ≡ Some (arrivals c))
    by true = (row.Overload (arrivals c), refl, refl)
    by false = (arrival_row (mode_of c) s c (ready_pods c) tag, refl, arrival_arrives (mode_of c) s c (ready_pods c) tag)

-- ---- an event brings one request where it is an arrival, else none

arrived : Trace → List ℕ
arrived es = each_row arrived_by es

arrived-append : (xs ys : Trace) → arrived (xs ++ ys) ≡ arrived xs ++ arrived ys
unfolding arrived
arrived-append xs ys = filter_map-append (λ (e : Entry). arrived_by e.row) xs ys

arrived-length : (xs ys : Trace) → length (arrived (xs ++ ys)) ≡ length (arrived xs) + length (arrived ys)
arrived-length xs ys = ap (λ (l : List ℕ). length l) (arrived-append xs ys) ∙ length-append (arrived xs) (arrived ys)

arrived-brings : (x : Entry) (rest : Trace) (r : ℕ) → arrived_by x.row ≡ Some r → length (arrived (x ∷ rest)) ≡ length (arrived rest) + 1
unfolding arrived
arrived-brings x rest r brings = rw brings (omega arith)

arrivals-list : (c es : Trace) → arrivals (c ++ es) ≡ arrivals c + length (arrived es)
unfolding arrivals arrived
arrivals-list c es = arrived-length c es

no_tags : length (tags []) ≡ 0
unfolding tags
no_tags = refl

module _ (facts : Facts) (parts : PartFacts) where
  open facts use {proper.{made_at, made_kept, made_react, made_trace}, members.{live_member, taken_comes}}
  open parts use {each.{none-rows}, rows.{act-facts, activation-rows, assignments-rows, departures-rows, opening_none, promotions-rows, removals-rows, scaler-rows}}

  own : (s : Spec) (t : ℕ) (c : Trace) (a : Act) → length (arrived (entries_of t (act_row s c a))) ≡ counted (tag_by a)
  unfolding arrived
  own s t c (act.Arrive tag) = let w = act_arrives s c tag in rw (w.1, w.2) refl
  own s t c a = by (act_row s c a) (act-facts s c a)
    where
      by : (o : Option Row) → IsActRow a o → length (arrived (entries_of t o)) ≡ counted (tag_by a)
      by None h = refl
      by (Some x) h = rw (other_act a x refl h.1) refl

  none : (f : Row → Bool) → ((x : Row) → f x ≡ true → arrived_by x ≡ None) → (es : Trace) → Each f es → length (arrived es) ≡ 0
  unfolding arrived
  none f silent es each = ap (λ (l : List ℕ). length l) (none-rows arrived_by f silent es each)

  settling-arrived : (s : Spec) (t : ℕ) (c : Trace) → length (arrived (settling s t c)) ≡ 0
  unfolding settling held_assignments
  settling-arrived s t c =
      let ran = promotions t c (live_pods c) in
      let gave = assignments_of s t (c ++ ran) (held (c ++ ran)) in
      let gone = removals t ((c ++ ran) ++ gave) in
      let a = none is_run_row run_arrives ran (promotions-rows t c (live_pods c)) in
      let b = none is_assign assign_arrives gave (assignments-rows s t (c ++ ran) (held (c ++ ran))) in
      let d = none is_remove_row remove_arrives gone (removals-rows t ((c ++ ran) ++ gave)) in
      let one = arrived-length ran gave in
      let two = arrived-length (ran ++ gave) gone in
      omega arith

  react-arrived : (s : Spec) (c : Trace) (e : Event) → length (arrived (react s c e)) ≡ counted (tag_by e.act)
  unfolding react before_settling act_rows
  react-arrived s c e =
      let gone = departures s c e in
      let did = act_row s (c ++ gone) e.act in
      let own_rows = entries_of e.time did in
      let more = scaler_rows s.kind s e.time ((c ++ gone) ++ own_rows) e.act did in
      let active = activation e.time ((c ++ gone) ++ (own_rows ++ more)) in
      let first = (gone ++ (own_rows ++ more)) ++ active in
      let a = none is_departure_row departure_arrives gone (departures-rows s c e) in
      let b = own s e.time (c ++ gone) e.act in
      let d = none is_scaler_row scaler_arrives more (scaler-rows s.kind s e.time ((c ++ gone) ++ own_rows) e.act did) in
      let f = none is_scaler_row scaler_arrives active (activation-rows e.time ((c ++ gone) ++ (own_rows ++ more))) in
      let g = settling-arrived s e.time (c ++ first) in
      let one = arrived-length own_rows more in
      let two = arrived-length gone (own_rows ++ more) in
      let three = arrived-length (gone ++ (own_rows ++ more)) active in
      let four = arrived-length first (settling s e.time (c ++ first)) in
      omega arith

  -- ---- as many tags have come as requests

  tags-cons : (e : Event) (es : List Event) → length (tags (e ∷ es)) ≡ counted (tag_by e.act) + length (tags es)
  unfolding tags
  tags-cons e es = by (tag_by e.act)
    where
      by : (o : Option ℕ) → length (cons_option o (tags es)) ≡ counted o + length (tags es)
      by None = omega arith
      by (Some t) = omega arith

  added-arrived : (s : Spec) (c : Trace) (es : List Event) → arrivals (c ++ added s c es) ≡ arrivals c + length (tags es)
  unfolding added
  added-arrived s c [] = let zero' = no_tags in rw (append-nil c) (omega arith)
  added-arrived s c (e ∷ es) =
      let one = react-arrived s c e in
      let here = arrivals-list c (react s c e) in
      let rest = added-arrived s (c ++ react s c e) es in
      let all = tags-cons e es in
      let sum : arrivals ((c ++ react s c e) ++ added s (c ++ react s c e) es) ≡ arrivals c + length (tags (e ∷ es)) = omega arith in
      rw (append_assoc c (react s c e) (added s (c ++ react s c e) es)) at sum

  pub tags_count : (s : Spec) (start : ℕ) (es : List Event) → arrivals (trace_of s start es) ≡ length (tags es)
  unfolding trace_of arrivals
  tags_count s start es =
      let nobody : arrivals (opening s start) ≡ 0 = rw (opening_none arrived_by (λ p n. refl) (λ x. refl) s start) refl in
      let all = added-arrived s (opening s start) es in
      omega arith

  -- ---- a row where it comes

  arrived_next : (s : Spec) (c : Trace) (x : Row) (r : ℕ) → IsProper s c x → arrived_by x ≡ Some r → r ≡ arrivals c
  arrived_next s c (row.Admit n tag) r p h = let e : n ≡ r = cc in sym e ∙ p.0.number
  arrived_next s c (row.QueueFull n None) r p h = let e : n ≡ r = cc in sym e ∙ p.0.number
  arrived_next s c (row.QueueFull n (Some q)) r p h = let e : n ≡ r = cc in sym e ∙ p.0.number
  arrived_next s c (row.Overload n) r p h = let e : n ≡ r = cc in sym e ∙ p.0
  arrived_next s c (row.Direct n q) r p h = let e : n ≡ r = cc in sym e ∙ p.0.number
  arrived_next s c _ r p h = absurd (cc)

  -- the row that brings somebody is the first of its event that does, and the event is an arrival
  first_arrival : (s : Spec) (c : Trace) (e : Event) (before rest : Trace) (x : Entry) (r : ℕ) → react s c e ≡ before ++ x ∷ rest → arrived_by x.row ≡ Some r
      → (arrivals (c ++ before) ≡ arrivals c) × (tag : ℕ) × (tag_by e.act ≡ Some tag)
  first_arrival s c e before rest x r is brings = by (tag_by e.act) refl
    where
      one : length (arrived (before ++ x ∷ rest)) ≡ counted (tag_by e.act)
      one = ap (λ (l : Trace). length (arrived l)) (sym is) ∙ react-arrived s c e

      here : length (arrived (x ∷ rest)) ≡ length (arrived rest) + 1
      here = arrived-brings x rest r brings

      by : (o : Option ℕ) → tag_by e.act ≡ o → (arrivals (c ++ before) ≡ arrivals c) × (tag : ℕ) × (tag_by e.act ≡ Some tag)
      by None k =
          let zero' : counted (tag_by e.act) ≡ 0 = ap counted k in
          let sum = arrived-length before (x ∷ rest) in
          absurd (omega (arith, one, here, zero', sum))
      by (Some tag) k =
          let single : counted (tag_by e.act) ≡ 1 = ap counted k in
          let sum = arrived-length before (x ∷ rest) in
          let all = arrivals-list c before in
          (omega (arith, one, here, single, sum, all), tag, k)

  new_tag : (es : List Event) (e : Event) (tag r : ℕ) → tag_by e.act ≡ Some tag → r ≡ length (tags es) → tag_of (es ++ e ∷ []) r ≡ tag
  unfolding tag_of tags
  new_tag es e tag r is at =
      let more : tags (es ++ e ∷ []) ≡ tags es ++ tag ∷ [] = filter_map-append (λ (d : Event). tag_by d.act) es (e ∷ []) ∙ rw is refl in
      ap (λ (l : List ℕ). get_or l r 0) more ∙ get_or_push (tags es) tag 0 r (sym at)

  pub comes_next : (s : Spec) (start : ℕ) (es : List Event) (e : Event) (before rest : Trace) (x : Entry) → react s (trace_of s start es) e ≡ before ++ x ∷ rest
      → ComesNext s (es ++ e ∷ []) (unwrap_or (tag_by e.act) 0) (trace_of s start es ++ before) x.row
  comes_next s start es e before rest x is = record {
    made = at.0;
    proper = at.1;
    number = λ r h. arrived_next s (c ++ before) x.row r at.1 h;
    tagged = λ r h.
        let first = first_arrival s c e before rest x r is h in
        let number = arrived_next s (c ++ before) x.row r at.1 h ∙ first.0 ∙ tags_count s start es in
        new_tag es e first.1 r first.2 number ∙ sym (ap (λ o. unwrap_or o 0) first.2);
  }
    where
      c : Trace
      c = trace_of s start es

      at : IsMade s (c ++ before) × IsProper s (c ++ before) x.row
      at = made_at s (c ++ react s c e) (c ++ before) x rest (made_react s c e (made_trace s start es)) (ap (λ (l : Trace). c ++ l) is ∙ sym (append_assoc c before (x ∷ rest)))

  -- ---- one more event changes no tag of those who have come

  tag_more : (es more : List Event) (r : ℕ) → r < length (tags es) → tag_of (es ++ more) r ≡ tag_of es r
  unfolding tag_of tags
  tag_more es more r less = ap (λ (l : List ℕ). get_or l r 0) (filter_map-append (λ (d : Event). tag_by d.act) es more) ∙ get_or_append_left (tags es) (tags more) 0 r less

  pub lives_later : (s : Spec) (start : ℕ) (es more : List Event) (l : List (ℕ × Life)) → AreLives l es (trace_of s start es) → AreLives l (es ++ more) (trace_of s start es)
  unfolding life_of life_in
  lives_later s start es more l are = record { each = λ r. are.each r ∙ by r (contains r (live (trace_of s start es))) refl; count = are.count }
    where
      by : (r : ℕ) (b : Bool) → contains r (live (trace_of s start es)) ≡ b → life_of es (trace_of s start es) r ≡ life_of (es ++ more) (trace_of s start es) r
      by r false e = rw e refl
      by r true e =
          let num = (made_kept s (trace_of s start es) (made_trace s start es)).requests in
          let less = taken_comes (trace_of s start es) r num (live_member (trace_of s start es) r e).0 in
          let count = tags_count s start es in
          rw (e, tag_more es more r (omega (arith, less, count))) refl

  -- ---- nobody lives after the opening

  nobody : (s : Spec) (start : ℕ) → live (trace_of s start []) ≡ []
  unfolding live trace_of added
  nobody s start =
      let opened : each_row taken_by (opening s start) ≡ [] = opening_none taken_by (λ p n. refl) (λ x. refl) s start in
      rw (append-nil (opening s start), opened) refl

  pub lives_opened : (s : Spec) (start : ℕ) (l : List (ℕ × Life)) → AreLives l [] [] → AreLives l [] (trace_of s start [])
  unfolding life_of live
  lives_opened s start l are = record {
    each = λ r. are.each r ∙ sym (rw (nobody s start) refl);
    count = are.count ∙ sym (ap (λ (m : List ℕ). length m) (nobody s start));
  }
