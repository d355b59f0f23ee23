-- Who is live after one event more, and after a whole history.
use Rattle.std.proofs.Common.{◌≡◌, ◌≤◌, ◌<◌, ℕ, ◌+◌, inl, inr, List, [], ◌∷◌, ◌++◌, Bool, true, false, refl, sym, ap, ◌∙◌, arith, length, length-append, append_assoc, nat_lt}
use Rattle.std.specs.Prelude.{Option, None, Some, ◌||◌}
use Rattle.std.proofs.lemmas.Bool.Decides.{nat_tests}
use Rattle.std.proofs.lemmas.Bool.{false_from_ne_true, or_parts}
use Rattle.std.proofs.lemmas.List.Elements.{filter_map-append}
use Rattle.kn_event.specs.declared.entry.Entry.{Entry}
use Rattle.kn_event.specs.declared.entry.Row.{Row}
use Rattle.kn_event.specs.declared.entry.Row.TheVariants as row
use Rattle.kn_event.specs.declared.event.Act.{Act}
use Rattle.kn_event.specs.declared.event.Act.TheVariants as act
use Rattle.kn_event.specs.declared.event.Event.{Event}
use Rattle.kn_event.specs.declared.event.Stand.TheVariants as stand
use Rattle.kn_event.specs.declared.revision.Spec.{Spec}
use Rattle.kn_event.specs.Lists.{contains}
use Rattle.kn_trace.specs.Events.{react}
use Rattle.kn_trace.specs.Rows.{arrived_by, ended_by, taken_by}
use Rattle.kn_trace.specs.Trace.{Trace, arrivals, each_row, ended, has_begun, live, pod_of, stand_of, stand_of_arrived, stand_where}
use Rattle.kn_record.specs.Facts.{Facts}
use Rattle.kn_record.specs.Made.{IsMade}
use Rattle.kn_laws.specs.ByAct.{AreByAct, IsByAct}
use Rattle.kn_sizes.specs.Told.{IsTold, arrival_told}
use Rattle.kn_cell.specs.declared.past.Past.{Past}
use Rattle.kn_cell.specs.History.{IsLegalFrom, trace_after}
use Rattle.kn_session.specs.Lists.{HasOne}
use Rattle.kn_session.specs.Own.{IsArrivalOf}
use Rattle.kn_outcomes.proofs.Lists.{contains-append, says_of}

arrivals-append : (c es : Trace) → arrivals c ≤ arrivals (c ++ es)
unfolding arrivals
arrivals-append c es =
    let all : length (each_row arrived_by (c ++ es)) ≡ length (each_row arrived_by c) + length (each_row arrived_by es)
    = ap length (filter_map-append (λ (e : Entry). arrived_by e.row) c es) ∙ length-append (each_row arrived_by c) (each_row arrived_by es) in
    omega arith

ended-append : (c es : Trace) (r : ℕ) → ended (c ++ es) r ≡ false → ended c r ≡ false
unfolding ended
ended-append c es r e = (or_parts (contains r (each_row ended_by c)) (contains r (each_row ended_by es)) (sym (contains-append ended_by r c es) ∙ e)).0

behind : (c es before rest : Trace) (e : Entry) → es ≡ before ++ e ∷ rest → c ++ es ≡ (c ++ before) ++ e ∷ rest
behind c es before rest e is = ap (λ l. c ++ l) is ∙ sym (append_assoc c before (e ∷ rest))

-- who is taken in arrives
arrives_by : (a : Act) (x : Row) (r : ℕ) → taken_by x ≡ Some r → IsByAct a x → (tag : ℕ) × (a ≡ act.Arrive tag)
arrives_by a (row.Admit q tag) r e i = (tag, i)
arrives_by a (row.Direct q p) r e i = i
arrives_by a _ r e i = absurd (cc)

-- who has ended has come, and is not live
pub ended_out : (c : Trace) (r : ℕ) → stand_of c r ≡ stand.Ended → (r < arrivals c) × (contains r (live c) ≡ false)
unfolding stand_of
ended_out c r e = by (nat_lt r (arrivals c)) (contains r (live c)) (has_begun c r) (pod_of c r) refl refl e
  where
    by : (known alive begun : Bool) (pod : Option ℕ) → nat_lt r (arrivals c) ≡ known → contains r (live c) ≡ alive → stand_where known (stand_of_arrived alive begun pod) ≡ stand.Ended
        → (r < arrivals c) × (contains r (live c) ≡ false)
    by false alive begun pod k l e = absurd (cc)
    by true false begun pod k l e = (grind (arith, nat_tests), l)
    by true true true None k l e = absurd (cc)
    by true true false None k l e = absurd (cc)
    by true true true (Some p) k l e = absurd (cc)
    by true true false (Some p) k l e = absurd (cc)

module _ (facts : Facts) (told : (s : Spec) (c : Trace) (e : Event) (tag : ℕ) → IsMade s c → e.act ≡ act.Arrive tag → IsTold s c e) (by_act : (s : Spec) (c : Trace) (e : Event) → AreByAct s c e) where
  open facts use {members.{live_member, is_live, taken_comes}, proper.{taken_next, made_at, made_kept, made_react}}

  -- who was not live and is so after one event more came by it
  comes_new : (s : Spec) (c : Trace) (e : Event) (r : ℕ) → IsMade s c → contains r (live c) ≡ false → contains r (live (c ++ react s c e)) ≡ true
      → (tag : ℕ) × (e.act ≡ act.Arrive tag) × (r ≡ arrivals c)
  comes_new s c e r made not is =
      let es = react s c e in
      let made' = made_react s c e made in
      let both = live_member (c ++ es) r is in
      let fresh : contains r (each_row taken_by c) ≡ false = false_from_ne_true (contains r (each_row taken_by c)) (λ t. let on = is_live c r t (ended-append c es r both.1) in absurd (cc)) in
      let late : contains r (each_row taken_by es) ≡ true = ap (λ b. b || contains r (each_row taken_by es)) (sym fresh) ∙ (sym (contains-append taken_by r c es) ∙ both.0) in
      let x = says_of taken_by r es late in
      let a = arrives_by e.act x.entry.row r x.says (by_act s c e x.before x.entry x.rest x.place) in
      let proper = (made_at s (c ++ es) (c ++ x.before) x.entry x.rest made' (behind c es x.before x.rest x.entry x.place)).1 in
      let number = taken_next s (c ++ x.before) x.entry.row r proper x.says in
      let least = arrivals-append c x.before in
      let most = taken_comes (c ++ es) r (made_kept s (c ++ es) made').requests both.0 in
      let counts = (told s c e a.0 made a.1).counts in
      (a.0, a.1, omega (arith, number, least, most, counts))

  -- who was not live and is so after the history came by a row of it
  pub arrives : (s : Spec) (r now : ℕ) (c : Trace) (h : List Past) → IsMade s c → IsLegalFrom s now c h → contains r (live c) ≡ false → contains r (live (trace_after s c h)) ≡ true → HasOne (IsArrivalOf r) h
  arrives s r now c [] made legal not is = absurd (cc)
  arrives s r now c (x ∷ xs) made legal not is =
      by (contains r (live (c ++ react s c x.event))) refl (λ out. arrives s r x.event.time (c ++ react s c x.event) xs (made_react s c x.event made) legal.2 out is)
    where
      by : (b : Bool) → contains r (live (c ++ react s c x.event)) ≡ b → (contains r (live (c ++ react s c x.event)) ≡ false → HasOne (IsArrivalOf r) xs) → HasOne (IsArrivalOf r) (x ∷ xs)
      by true e rest =
          let n = comes_new s c x.event r made not e in
          inl (n.0, n.1, ap arrival_told legal.1 ∙ ((told s c x.event n.0 made n.1).number ∙ ap (λ i. Some i) (sym n.2)))
      by false e rest = inr (rest e)

  made_after : (s : Spec) (c : Trace) (h : List Past) → IsMade s c → IsMade s (trace_after s c h)
  made_after s c [] made = made
  made_after s c (x ∷ xs) made = made_after s (c ++ react s c x.event) xs (made_react s c x.event made)

  -- who has come and is not live is never live again
  stays_out : (s : Spec) (r : ℕ) (c : Trace) (h : List Past) → IsMade s c → r < arrivals c → contains r (live c) ≡ false → contains r (live (trace_after s c h)) ≡ false
  stays_out s r c [] made come out = out
  stays_out s r c (x ∷ xs) made come out =
      let next = c ++ react s c x.event in
      let more = arrivals-append c (react s c x.event) in
      let out' : contains r (live next) ≡ false = false_from_ne_true (contains r (live next)) (λ t. let n = (comes_new s c x.event r made out t).2 in absurd (omega (arith, n, come))) in
      stays_out s r next xs (made_react s c x.event made) (omega (arith, come, more)) out'

  -- who ended within the history is not live after it
  pub ends_within : (s : Spec) (r : ℕ) (c : Trace) (seen more : List Past) → IsMade s c → stand_of (trace_after s c seen) r ≡ stand.Ended → contains r (live (trace_after s (trace_after s c seen) more)) ≡ false
  ends_within s r c seen more made e =
      let d = trace_after s c seen in
      let out = ended_out d r e in
      stays_out s r d more (made_after s c seen made) out.0 out.1
