-- Each row is written by its kind's word.
use Rattle.std.proofs.Common.{◌≡◌, ◌≤◌, ℕ, ◌+◌, List, ◌++◌, drop, length, refl, ◌∙◌, ap, arith, length-append}
use Rattle.std.specs.Prelude.{Some, None, slice_get}
use Rattle.std.specs.List.{filter}
use Rattle.std.proofs.lemmas.List.Elements.{filter-append}
use Rattle.kn_event.specs.declared.entry.Entry.{Entry}
use Rattle.kn_event.specs.declared.entry.Row.{Row}
use Rattle.kn_event.specs.declared.entry.Row.TheVariants as row
use Rattle.kn_event.specs.EntryLine.{averages_text, decision_text, labelled, row_text, with_number, with_numbers}
use Rattle.kn_trace.specs.Trace.{Trace}
use Rattle.kn_figures.specs.declared.kind.Kind.{Kind}
use Rattle.kn_figures.specs.declared.kind.Kind.TheVariants as kind
use Rattle.kn_figures.specs.Kinds.{all_kinds, is_of, kind_of, name_of, place_of}
use Rattle.kn_figures.specs.Laws.{IsWrittenBy}
use Rattle.kn_figures.specs.Tallies.{count_of}

-- what stands behind the word
rest_of : Row → List ℕ
rest_of x = drop (length (name_of (kind_of x)) + 1) (row_text x)

pub names : (x : Row) → IsWrittenBy (name_of (kind_of x)) x
unfolding averages_text decision_text labelled row_text with_number with_numbers rest_of
names (row.Admit r tag) = (rest_of (row.Admit r tag), refl, refl)
names (row.QueueFull r None) = (rest_of (row.QueueFull r None), refl, refl)
names (row.QueueFull r (Some p)) = (rest_of (row.QueueFull r (Some p)), refl, refl)
names (row.Overload r) = (rest_of (row.Overload r), refl, refl)
names (row.Assign r p) = (rest_of (row.Assign r p), refl, refl)
names (row.Direct r p) = (rest_of (row.Direct r p), refl, refl)
names (row.Run r) = (rest_of (row.Run r), refl, refl)
names (row.Finish r ok) = (rest_of (row.Finish r ok), refl, refl)
names (row.Expire r) = (rest_of (row.Expire r), refl, refl)
names (row.Cancel r) = (rest_of (row.Cancel r), refl, refl)
names (row.LostRequest r) = (rest_of (row.LostRequest r), refl, refl)
names (row.Create p n) = (rest_of (row.Create p n), refl, refl)
names (row.Limit p n) = (rest_of (row.Limit p n), refl, refl)
names (row.Ready p) = (rest_of (row.Ready p), refl, refl)
names (row.Drain p) = (rest_of (row.Drain p), refl, refl)
names (row.Remove p) = (rest_of (row.Remove p), refl, refl)
names (row.LostPod p) = (rest_of (row.LostPod p), refl, refl)
names (row.Decided d) = (rest_of (row.Decided d), refl, refl)
names row.NoData = (rest_of row.NoData, refl, tt)
names (row.Phase x) = (rest_of (row.Phase x), refl, refl)
names (row.Mode m) = (rest_of (row.Mode m), refl, refl)
names (row.NotRunning r) = (rest_of (row.NotRunning r), refl, refl)
names (row.NotWaiting r) = (rest_of (row.NotWaiting r), refl, refl)
names (row.NotStarting p) = (rest_of (row.NotStarting p), refl, refl)
names (row.NoPod p) = (rest_of (row.NoPod p), refl, refl)

pub places : (k : Kind) → slice_get all_kinds (place_of k) ≡ Some k
places kind.Admit = refl
places kind.QueueFull = refl
places kind.Overload = refl
places kind.Assign = refl
places kind.Direct = refl
places kind.Run = refl
places kind.Finish = refl
places kind.Expire = refl
places kind.Cancel = refl
places kind.LostRequest = refl
places kind.Create = refl
places kind.Limit = refl
places kind.Ready = refl
places kind.Drain = refl
places kind.Remove = refl
places kind.LostPod = refl
places kind.Decided = refl
places kind.NoData = refl
places kind.Phase = refl
places kind.Mode = refl
places kind.NotRunning = refl
places kind.NotWaiting = refl
places kind.NotStarting = refl
places kind.NoPod = refl

pub grows : (k : Kind) (c more : Trace) → count_of k c ≤ count_of k (c ++ more)
unfolding count_of
grows k c more =
    let sum = ap length (filter-append (λ (e : Entry). is_of k e.row) c more) ∙ length-append (filter (λ (e : Entry). is_of k e.row) c) (filter (λ (e : Entry). is_of k e.row) more) in
    omega arith
