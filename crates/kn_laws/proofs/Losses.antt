-- A lost pod takes all its requests with it, and no other event loses anybody.
use Rattle.std.proofs.Common.{◌≡◌, ℕ, Bool, true, false, ◌||◌, List, [], ◌∷◌, ◌++◌, map, refl, sym, ap, subst, ◌∙◌, append-nil, append_assoc}
use Rattle.std.specs.Prelude.{Option, None, ◌==◌}
use Rattle.std.proofs.lemmas.List.Elements.{filter_map-append}
use Rattle.std.proofs.lemmas.Bool.{or_right}
use Rattle.std.proofs.lemmas.List.Folds.{list_any-append}
use Rattle.kn_event.specs.declared.entry.Entry.{Entry}
use Rattle.kn_event.specs.declared.entry.Row.{Row}
use Rattle.kn_event.specs.declared.entry.Row.TheVariants as row
use Rattle.kn_event.specs.declared.event.Act.{Act}
use Rattle.kn_event.specs.declared.event.Act.TheVariants as act
use Rattle.kn_event.specs.declared.event.Event.{Event}
use Rattle.kn_event.specs.declared.revision.Spec.{Spec}
use Rattle.kn_event.specs.Lists.{contains}
use Rattle.kn_trace.specs.Trace.{Trace, at_pod, each_row, entry, live}
use Rattle.kn_trace.specs.Settling.{settling}
use Rattle.kn_trace.specs.Events.{act_rows, activation, added, before_settling, departures, expiries, losses, lost_with, opening, react, trace_of}
use Rattle.kn_record.specs.Made.{IsMade}
use Rattle.kn_record.specs.Kept.{Kept}
use Rattle.kn_record.specs.Facts.{Facts}
use Rattle.kn_laws.specs.ByAct.{IsByAct}
use Rattle.kn_laws.specs.Losses.{AreNoLosses, LosesAll, LosesNothing, lost_by, lost_pod_by}
use Rattle.kn_laws.specs.Kinds.{Each, is_departure_row, EachIs}
use Rattle.kn_laws.proofs.Rows.{departures-rows}
use Rattle.kn_laws.proofs.Acts.{EachIs-at, react-by}
use Rattle.kn_laws.proofs.Settles.{opening_none}

-- what comes before a row of another kind begins with these rows
record Begins (xs before : Trace) : Type 0 where
  more : Trace
  is : before ≡ xs ++ more

begins-before : (xs ys before : Trace) (x : Entry) (rest : Trace) → Each is_departure_row xs → is_departure_row x.row ≡ false → xs ++ ys ≡ before ++ x ∷ rest → Begins xs before
begins-before [] ys before x rest h out eq = record { more = before; is = refl }
begins-before (y ∷ xs) ys [] x rest h out eq = absurd (let same : y ≡ x = cc in let in' : is_departure_row x.row ≡ true = subst (λ (z : Entry). is_departure_row z.row ≡ true) same h.0 in cc)
begins-before (y ∷ xs) ys (z ∷ before) x rest h out eq =
    let same : y ≡ z = cc in
    let less : xs ++ ys ≡ before ++ x ∷ rest = cc in
    let found = begins-before xs ys before x rest h.1 out less in
    record { more = found.more; is = subst (λ (w : Entry). w ∷ before ≡ y ∷ (xs ++ found.more)) same (ap (λ (l : Trace). y ∷ l) found.is) }

lost-list : (t r : ℕ) (rs : List ℕ) → contains r rs ≡ true → contains r (each_row lost_by (map (λ q. entry t (row.LostRequest q)) rs)) ≡ true
lost-list t r [] h = h
lost-list t r (q ∷ rs) h = by (q == r) refl h (lost-list t r rs)
  where
    by : (b : Bool) → (q == r) ≡ b → (b || contains r rs) ≡ true → (contains r rs ≡ true → contains r (each_row lost_by (map (λ x. entry t (row.LostRequest x)) rs)) ≡ true)
        → ((q == r) || contains r (each_row lost_by (map (λ x. entry t (row.LostRequest x)) rs))) ≡ true
    by true e k rest = rw e refl
    by false e k rest = rw e (rest k)

react-begins : (s : Spec) (c : Trace) (e : Event) → (more : Trace) × (react s c e ≡ departures s c e ++ more)
unfolding react before_settling
react-begins s c e =
    let gone = departures s c e in
    let did = act_rows s e.time (c ++ gone) e.act in
    let active = activation e.time ((c ++ gone) ++ did) in
    let last = settling s e.time (c ++ ((gone ++ did) ++ active)) in
    (did ++ (active ++ last), append_assoc (gone ++ did) active last ∙ append_assoc gone did (active ++ last))

-- ---- no other event loses anybody

none-by : (f : Row → Option ℕ) (P : Row → Type 0) → ((x : Row) → P x → f x ≡ None) → (es : Trace) → EachIs P es → each_row f es ≡ []
none-by f P none [] h = refl
none-by f P none (e ∷ es) h = rw (none e.row h.0) (none-by f P none es h.1)

loses-nobody : (a : Act) → ((p : ℕ) → a ≡ act.Lost p → ⊥) → (x : Row) → IsByAct a x → lost_by x ≡ None
loses-nobody a other (row.LostRequest r) h = absurd (other h.0 h.1)
loses-nobody a other _ h = refl

loses-no_pod : (a : Act) → ((p : ℕ) → a ≡ act.Lost p → ⊥) → (x : Row) → IsByAct a x → lost_pod_by x ≡ None
loses-no_pod a other (row.LostPod p) h = absurd (other p h)
loses-no_pod a other _ h = refl

nothing-more : (s : Spec) (c : Trace) (e : Event) → ((p : ℕ) → e.act ≡ act.Lost p → ⊥) → LosesNothing c → LosesNothing (c ++ react s c e)
nothing-more s c e other before =
    let rows = react-by s c e in
    record {
      requests = filter_map-append (λ (x : Entry). lost_by x.row) c (react s c e) ∙ rw (before.requests, none-by lost_by (IsByAct e.act) (loses-nobody e.act other) (react s c e) rows) refl;
      pods = filter_map-append (λ (x : Entry). lost_pod_by x.row) c (react s c e) ∙ rw (before.pods, none-by lost_pod_by (IsByAct e.act) (loses-no_pod e.act other) (react s c e) rows) refl;
    }

nothing-added : (s : Spec) (c : Trace) (es : List Event) → AreNoLosses es → LosesNothing c → LosesNothing (c ++ added s c es)
unfolding added
nothing-added s c [] h before = subst LosesNothing (sym (append-nil c)) before
nothing-added s c (e ∷ es) h before =
    subst LosesNothing (append_assoc c (react s c e) (added s (c ++ react s c e) es)) (nothing-added s (c ++ react s c e) es h.1 (nothing-more s c e h.0 before))

-- events of which none is the loss of a pod lose nobody
pub loses_nothing : (s : Spec) (start : ℕ) (es : List Event) → AreNoLosses es → LosesNothing (trace_of s start es)
unfolding trace_of
loses_nothing s start es h =
    nothing-added s (opening s start) es h (record { requests = opening_none lost_by (λ p n. refl) (λ x. refl) s start; pods = opening_none lost_pod_by (λ p n. refl) (λ x. refl) s start })

module _ (facts : Facts) where
  open facts use {lists.{in_filter}, members.{at_pod_live}, proper.{Holds-kept, made_kept, expiries-hold}}

  -- ---- who is there when a pod is lost

  -- whoever is at a live pod that is lost is among the losses
  losses-all : {s : Spec} (t : ℕ) (c : Trace) (p r : ℕ) → Kept s c → contains r (at_pod c p) ≡ true → contains r (each_row lost_by (losses t c (act.Lost p))) ≡ true
  unfolding losses lost_with
  losses-all {s} t c p r kept h = rw (kept.homes p r h) (lost-list t r (lost_with c p) (in_filter (λ q. contains q (at_pod c p)) r (live c) (at_pod_live c p r kept.requests h) h))

  departed-all : (s : Spec) (c : Trace) (e : Event) (p r : ℕ) → IsMade s c → e.act ≡ act.Lost p → contains r (at_pod (c ++ expiries s e.time c) p) ≡ true → contains r (each_row lost_by (departures s c e)) ≡ true
  unfolding departures
  departed-all s c e p r made lost h =
      let late = expiries s e.time c in
      let kept = Holds-kept s c late (made_kept s c made) (expiries-hold s e.time c (made_kept s c made).requests) in
      let there = losses-all {s = s} e.time (c ++ late) p r kept h in
      let P : Act → Type 0 = λ a. contains r (each_row lost_by (losses e.time (c ++ late) a)) ≡ true in
      let mine = subst P (sym lost) there in
      rw (filter_map-append (λ (x : Entry). lost_by x.row) late (losses e.time (c ++ late) e.act), list_any-append (λ y. y == r) (each_row lost_by late) (each_row lost_by (losses e.time (c ++ late) e.act)))
      (or_right (contains r (each_row lost_by late)) _ mine)

  -- where an event loses a pod, each request that was there has ended before it
  pub loses_all : (s : Spec) (c : Trace) (e : Event) → IsMade s c → LosesAll s c e
  loses_all s c e made p t before rest eq r h =
      let lost : e.act ≡ act.Lost p = EachIs-at (IsByAct e.act) (react s c e) before (entry t (row.LostPod p)) rest eq (react-by s c e) in
      let parts = react-begins s c e in
      let found = begins-before (departures s c e) parts.0 before (entry t (row.LostPod p)) rest (departures-rows s c e) refl (sym parts.1 ∙ eq) in
      let there = departed-all s c e p r made lost h in
      subst (λ (b : Trace). contains r (each_row lost_by b) ≡ true) (sym found.is)
      (rw (filter_map-append (λ (x : Entry). lost_by x.row) (departures s c e) found.more, list_any-append (λ y. y == r) (each_row lost_by (departures s c e)) (each_row lost_by found.more), there) refl)
