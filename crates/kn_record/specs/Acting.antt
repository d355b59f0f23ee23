-- The row of an act, of the record that stands for the trace: what a body decides by that keeps the record alone.
use Rattle.std.specs.Prelude.{ℕ, ◌+◌, ◌%◌, ◌==◌, nat_le, List, ◌∷◌, length, Option, None, Some, slice_index, if◌then◌else◌}
use Rattle.kn_event.specs.declared.entry.Row.{Row}
use Rattle.kn_event.specs.declared.entry.Row.TheVariants as row
use Rattle.kn_event.specs.declared.entry.Mode.{Mode}
use Rattle.kn_event.specs.declared.entry.Mode.TheVariants as mode
use Rattle.kn_event.specs.declared.event.Act.{Act}
use Rattle.kn_event.specs.declared.event.Act.TheVariants as act
use Rattle.kn_event.specs.declared.revision.Spec.{Spec}
use Rattle.kn_event.specs.Lists.{contains}
use Rattle.kn_trace.specs.Events.{live_most}
use Rattle.kn_record.specs.Admission.{Admission, is_ready_now, is_starting_now, is_through, placed_in, pods_in, runs_somewhere, waits}
use Rattle.kn_record.specs.Views.{is_full_in, pod_numbers}

-- a request that goes past the activator, to the pod in turn of these Ready ones
abbrev pub direct_row_in : Admission → List ℕ → Row
direct_row_in a ready =
    let p = slice_index ready (a.turn % length ready) in
    if is_full_in a p then row.QueueFull a.arrivals (Some p) else row.Direct a.arrivals p

-- a request that comes to the activator
abbrev pub admission_row_in : Spec → Admission → ℕ → Row
admission_row_in s a tag =
    if length (placed_in is_through a.live) == s.slots.depth + s.slots.max then row.QueueFull a.arrivals None else row.Admit a.arrivals tag

abbrev pub arrival_row_in : Mode → Spec → Admission → List ℕ → ℕ → Row
arrival_row_in mode.Serve s a (p ∷ ps) tag = direct_row_in a (p ∷ ps)
arrival_row_in _ s a ready tag = admission_row_in s a tag

-- the row of the act itself, in this mode; a pass and a tick have none
unfoldable pub row_in : Spec → Mode → Admission → Act → Option Row
row_in s m a (act.Arrive tag) =
    Some (if nat_le live_most (length a.live) then row.Overload a.arrivals else arrival_row_in m s a (pods_in is_ready_now a.pods) tag)
row_in s m a (act.Finish r ok) = Some (if contains r (placed_in runs_somewhere a.live) then row.Finish r ok else row.NotRunning r)
row_in s m a (act.Cancel r) = Some (if contains r (placed_in waits a.live) then row.Cancel r else row.NotWaiting r)
row_in s m a act.Pass = None
row_in s m a (act.Ready p) =
    Some (if contains p (pod_numbers a.pods) then (if contains p (pods_in is_starting_now a.pods) then row.Ready p else row.NotStarting p) else row.NoPod p)
row_in s m a (act.Limit p n) = Some (if contains p (pod_numbers a.pods) then row.Limit p n else row.NoPod p)
row_in s m a (act.Lost p) = Some (if contains p (pod_numbers a.pods) then row.LostPod p else row.NoPod p)
row_in s m a act.Tick = None
