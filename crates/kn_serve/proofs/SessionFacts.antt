-- A history, its trace and its journal.
use Rattle.std.proofs.Common.{zero, suc, ◌≡◌, ◌≤◌, ℕ, List, [], ◌∷◌, ◌++◌, map, append_assoc, append-nil, refl, sym, ap₂, ◌∙◌, arith}
use Rattle.std.specs.Prelude.{All}
use Rattle.std.specs.List.{filter_map, range_with_len}
use Rattle.kn_trace.specs.Scale.{opening_scale}
use Rattle.kn_event.specs.declared.entry.Row.TheVariants as row
use Rattle.kn_event.specs.declared.event.Act.{Act}
use Rattle.kn_event.specs.declared.event.Act.TheVariants as act
use Rattle.kn_event.specs.declared.revision.Kind.{Kind}
use Rattle.kn_event.specs.declared.revision.Kind.TheVariants as kind
use Rattle.kn_event.specs.declared.revision.Spec.{Spec}
use Rattle.kn_event.specs.EventLine.{IsInJournalRange, IsInVersion}
use Rattle.kn_trace.specs.Trace.{Trace, each_row, entry, live}
use Rattle.kn_trace.specs.Rows.{taken_by}
use Rattle.kn_trace.specs.Events.{added, opening, opening_of, react, tolds, trace_of}
use Rattle.kn_cell.specs.declared.past.Past.{Past}
use Rattle.kn_cell.specs.Lists.{Each}
use Rattle.kn_cell.specs.History.{IsInBounds, IsLegalFrom, MayCome, trace_after}
use Rattle.kn_journal.specs.Journal.{AreEvents, time_most}
use Rattle.kn_print.specs.Printed.{HasSmall, events_of}

-- ---- the trace

after-added : (s : Spec) (c : Trace) (h : List Past) → trace_after s c h ≡ c ++ added s c (events_of h)
unfolding added
after-added s c [] = sym (append-nil c)
after-added s c (p ∷ ps) = after-added s (c ++ react s c p.event) ps ∙ append_assoc c (react s c p.event) (added s (c ++ react s c p.event) (events_of ps))

pub trace_after-opening : (s : Spec) (start : ℕ) (h : List Past) → trace_after s (opening s start) h ≡ trace_of s start (events_of h)
unfolding trace_of
trace_after-opening s start h = after-added s (opening s start) h

pub tolds-legal : (s : Spec) (now : ℕ) (c : Trace) (h : List Past) → IsLegalFrom s now c h → tolds s c (events_of h) ≡ map (λ (p : Past). p.told) h
unfolding tolds
tolds-legal s now c [] legal = refl
tolds-legal s now c (p ∷ ps) legal = ap₂ (λ a b. a ∷ b) (sym legal.1) (tolds-legal s p.event.time (c ++ react s c p.event) ps legal.2)

-- ---- the journal

in_range : (a : Act) → HasSmall a → MayCome a → IsInJournalRange a × IsInVersion 1 a
in_range (act.Arrive tag) small may = (small, tt)
in_range (act.Finish r ok) small may = (small, tt)
in_range (act.Cancel r) small may = (small, tt)
in_range act.Pass small may = (tt, tt)
in_range (act.Ready p) small may = (small, tt)
in_range (act.Limit p n) small may = ((small, may), tt)
in_range (act.Lost p) small may = absurd may
in_range act.Tick small may = (tt, tt)

pub are_events : (s : Spec) (now : ℕ) (c : Trace) (h : List Past) → IsLegalFrom s now c h → Each (λ (p : Past). IsInBounds p.event) h
    → All (λ (p : Past). HasSmall p.event.act) h → AreEvents 1 now (events_of h)
are_events s now c [] legal bounds small = tt
are_events s now c (p ∷ ps) legal bounds small =
    let here = bounds zero p refl in
    let act = in_range p.event.act (small zero p (omega arith)) here.act in
    let time : p.event.time ≤ time_most = omega (arith, here.time) in (
      legal.0,
      time,
      act.0,
      act.1,
      are_events s p.event.time (c ++ react s c p.event) ps legal.2 (λ k x is. bounds (suc k) x is) (λ k d low. small (suc k) d (omega arith)),
    )

-- ---- the opening

none_taken : (t cc : ℕ) (ps : List ℕ) → filter_map (λ e. taken_by e.row) (map (λ p. entry t (row.Create p cc)) ps) ≡ []
none_taken t cc [] = refl
none_taken t cc (p ∷ ps) = none_taken t cc ps

opening_takes : (k : Kind) (s : Spec) (start : ℕ) → each_row taken_by (opening_of k s start) ≡ []
opening_takes (kind.Fixed pods) s start = none_taken start s.cc (range_with_len 0 pods)
opening_takes kind.Kpa s start = none_taken start s.cc (range_with_len 0 (opening_scale s))

pub live-opening : (s : Spec) (start : ℕ) → live (opening s start) ≡ []
unfolding live opening
live-opening s start = rw (opening_takes s.kind s start) refl
