-- What is counted after all that a pass has seen.
use Rattle.std.specs.Prelude.{◌≡◌, ◌≤◌, ◌+◌, length}
use Rattle.kn_core.specs.State.{StandsFor, StandsForSome}
use Rattle.kn_figures.specs.declared.figures.Figures.{Figures}
use Rattle.kn_figures.specs.declared.kind.Kind.{Kind}
use Rattle.kn_figures.specs.Figures.{IsFiguresOf}
use Rattle.kn_figures.specs.Tallies.{IsTallyOf, count_in}
use Rattle.kn_trace.specs.Trace.{Trace}
use Rattle.kn_cell.specs.History.{made_by, trace_after}
use Rattle.kn_cell.specs.Lists.{StartsWith}
use Rattle.kn_cell.specs.Shown.{PassView}
use Rattle.kn_cell.specs.State.{DeskState}
use Rattle.kn_cell.specs.Turns.{trace_seen}
use Rattle.kn_cell.specs.Views.{opening}
use Rattle.kn_cell.specs.declared.view.View.{View}

-- the figures of a desk, by its tally and its rows
abbrev pub AreFiguresIn : DeskState → Figures → Type 0
AreFiguresIn x f = (c counted : Trace) → StandsFor x.revision c → IsTallyOf x.tally counted
    → IsFiguresOf x.revision.spec c counted (x.taken + length x.history) x.taken f

-- the figures after all that the view has seen
abbrev pub AreFiguresAt : View → Figures → Type 0
AreFiguresAt v f = (c : Trace) → StandsFor (opening v.key) c
    → IsFiguresOf (opening v.key).spec (trace_seen v c) (made_by (opening v.key).spec c v.seen) (length v.seen) v.gone f

-- of the whole trace, but the rows by their kinds without those that the revision opened with
abbrev pub AreFiguresOf : PassView → Figures → Type 0
AreFiguresOf p f = (c : Trace) → StandsFor p.opening c
    → IsFiguresOf p.opening.spec (trace_after p.opening.spec c p.seen) (made_by p.opening.spec c p.seen) (length p.seen) p.gone f

-- no count of rows is smaller, nor the number of recorded events
pub record AreNoFewer (f g : Figures) : Type 0 where
  pub rows : (k : Kind) → count_in f.tally k ≤ count_in g.tally k
  pub recorded : f.recorded ≤ g.recorded

-- of two passes over one opening, whose second has seen more
abbrev pub NeverFall : Type 0
NeverFall = (p q : PassView) (f g : Figures) → StandsForSome p.opening → q.opening ≡ p.opening → StartsWith q.seen p.seen
    → AreFiguresOf p f → AreFiguresOf q g → AreNoFewer f g
