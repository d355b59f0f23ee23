-- No more requests arrived than there were events.
use Rattle.std.proofs.Common.{◌≡◌, ℕ, ◌+◌, ◌≤◌, List, [], ◌∷◌, ◌++◌, length, refl, ap, arith, append-nil, append_assoc}
use Rattle.std.specs.Prelude.{Option, None, Some}
use Rattle.std.specs.List.{cons_option}
use Rattle.std.proofs.Math.Bridge.{le_prop}
use Rattle.std.proofs.Math.Logic.{∥∥₁_elim}
use Rattle.kn_event.specs.declared.entry.Row.{Row}
use Rattle.kn_event.specs.declared.event.Event.{Event}
use Rattle.kn_event.specs.declared.revision.Spec.{Spec}
use Rattle.kn_trace.specs.Rows.{arrived_by}
use Rattle.kn_trace.specs.Trace.{Trace, arrivals, each_row}
use Rattle.kn_trace.specs.Events.{act_row, added, departures, entries_of, opening, react, trace_of}
use Rattle.kn_record.specs.Facts.{Facts}
use Rattle.kn_laws.specs.History.{History, IsMadeBy}
use Rattle.kn_laws.specs.Facts.{PartFacts}
use Rattle.kn_sizes.proofs.Telling.{arrivals-list, first-arrivals, is_later_row, later-rows, later_of, later_plain, react-parts}

own-arrivals : (t : ℕ) (o : Option Row) → length (each_row arrived_by (entries_of t o)) ≤ 1
own-arrivals t None = omega arith
own-arrivals t (Some x) = by (arrived_by x)
  where
    by : (o : Option ℕ) → length (cons_option o []) ≤ 1
    by None = omega arith
    by (Some r) = omega arith

module _ (facts : Facts) (parts : PartFacts) where
  open parts use {each.{none-rows}, rows.{opening_none}}

  -- an event brings one request at most
  one-arrival : (s : Spec) (c : Trace) (e : Event) → arrivals (c ++ react s c e) ≤ arrivals c + 1
  one-arrival s c e =
      let c1 = c ++ departures s c e in
      let own = entries_of e.time (act_row s c1 e.act) in
      let later = later_of s c e in
      let none : length (each_row arrived_by later) ≡ 0 = rw (none-rows arrived_by is_later_row (λ y k. (later_plain y k).0) later (later-rows facts parts s c e)) refl in
      let a = arrivals-list (c1 ++ own) later in
      let b = arrivals-list c1 own in
      let d = own-arrivals e.time (act_row s c1 e.act) in
      let first = first-arrivals facts parts s c e in
      let parts = ap arrivals (react-parts s c e) in
      omega arith

  more-arrivals : (s : Spec) (c : Trace) (es : List Event) → arrivals (c ++ added s c es) ≤ arrivals c + length es
  unfolding added
  more-arrivals s c [] = rw (append-nil c) (omega arith)
  more-arrivals s c (e ∷ es) =
      let one = one-arrival s c e in
      let rest = more-arrivals s (c ++ react s c e) es in
      let sum : arrivals ((c ++ react s c e) ++ added s (c ++ react s c e) es) ≤ arrivals c + length (e ∷ es) = omega arith in
      rw (append_assoc c (react s c e) (added s (c ++ react s c e) es)) at sum

  nobody_yet : (s : Spec) (start : ℕ) → arrivals (opening s start) ≡ 0
  unfolding arrivals
  nobody_yet s start = rw (opening_none arrived_by (λ p n. refl) (λ x. refl) s start) refl

  trace-arrivals : (s : Spec) (start : ℕ) (es : List Event) → arrivals (trace_of s start es) ≤ length es
  unfolding trace_of
  trace-arrivals s start es = let first = nobody_yet s start in let all = more-arrivals s (opening s start) es in omega arith

  -- of every trace that so many events made
  pub history_arrivals : (s : Spec) (start clock count : ℕ) (c : Trace) → IsMadeBy s start clock count c → arrivals c ≤ count
  history_arrivals s start clock count c made =
      ∥∥₁_elim made le_prop (λ (h : History s start clock count c). let few = trace-arrivals s start h.events in let many = h.many in let same = ap arrivals h.trace in omega arith)
