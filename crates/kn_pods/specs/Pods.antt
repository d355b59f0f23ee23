-- The pods of a trace, by how far they are, and what a row changes of them.
use Rattle.std.specs.Prelude.{◌≡◌, ℕ, Bool, true, false, ◌+◌, ◌-◌, ◌||◌, nat_lt, List, [], ◌∷◌, ◌++◌, length, map, reverse, take, if◌then◌else◌}
use Rattle.std.specs.List.{range_with_len}
use Rattle.kn_event.specs.declared.entry.Entry.{Entry}
use Rattle.kn_event.specs.declared.entry.Row.{Row}
use Rattle.kn_event.specs.declared.entry.Row.TheVariants as row
use Rattle.kn_event.specs.declared.revision.Spec.{Spec}
use Rattle.kn_event.specs.Lists.{contains}
use Rattle.kn_trace.specs.Trace.{Trace, created, draining, entry, ready_pods, starting_pods}
use Rattle.kn_record.specs.Made.{IsMade}
use Rattle.kn_record.specs.Views.{others}
use Rattle.kn_pods.specs.Numbers.{inserted}

-- how many pods were created, and the live ones, each list in the order of the numbers
pub record PodsState : Type 0 where
  pub created : ℕ
  pub starting : List ℕ
  pub ready : List ℕ
  pub draining : List ℕ

-- these are the pods of the trace
pub record ArePodsOf (state : PodsState) (c : Trace) : Type 0 where
  pub created : state.created ≡ created c
  pub starting : state.starting ≡ starting_pods c
  pub ready : state.ready ≡ ready_pods c
  pub draining : state.draining ≡ draining c

-- no pod yet
abbrev pub no_pods : PodsState
no_pods = record { created = 0; starting = []; ready = []; draining = [] }

-- the pods that don't drain, in the order in which they are drained
abbrev pub drain_order_of : PodsState → List ℕ
drain_order_of state = reverse state.starting ++ reverse state.ready

-- ---- by one more row

abbrev pub with_drained : ℕ → PodsState → PodsState
with_drained p state =
    if contains p state.starting then record state { starting = others p state.starting; draining = inserted p state.draining }
    else record state { ready = others p state.ready; draining = inserted p state.draining }

-- a row of another kind leaves the pods
abbrev pub after_row : Row → PodsState → PodsState
after_row (row.Create p n) state = record state { created = state.created + 1; starting = state.starting ++ p ∷ [] }
after_row (row.Ready p) state = record state { starting = others p state.starting; ready = inserted p state.ready }
after_row (row.Drain p) state = with_drained p state
after_row (row.Remove p) state = record state { draining = others p state.draining }
after_row (row.LostPod p) state = record state {
  starting = others p state.starting;
  ready = others p state.ready;
  draining = others p state.draining;
}
after_row _ state = state

-- after these rows, one after the other
abbrev pub after_rows : List Entry → PodsState → PodsState
after_rows [] state = state
after_rows (e ∷ es) state = after_rows es (after_row e.row state)

-- wherever the old pods stand for a trace that events made, these entries leave it one that events make, and the new pods
-- stand for it
abbrev pub GoesOn : PodsState → PodsState → List Entry → Type 0
GoesOn old new es = (s : Spec) (c : Trace) → IsMade s c → ArePodsOf old c → IsMade s (c ++ es) × ArePodsOf new (c ++ es)

-- ---- the rows of a call

-- what a pod that is said to be Ready is answered
abbrev pub ready_row : ℕ → PodsState → Row
ready_row p state =
    if contains p state.starting then row.Ready p
    else (if contains p state.ready || contains p state.draining then row.NotStarting p else row.NoPod p)

abbrev pub is_live : ℕ → PodsState → Bool
is_live p state = contains p state.starting || contains p state.ready || contains p state.draining

abbrev pub lost_row : ℕ → Bool → Row
lost_row p true = row.LostPod p
lost_row p false = row.NoPod p

-- so many new pods, numbered from the one given on, each with this limit
abbrev pub creations : ℕ → ℕ → ℕ → ℕ → List Entry
creations limit t from n = map (λ p. entry t (row.Create p limit)) (range_with_len from n)

abbrev pub drains : ℕ → List ℕ → List Entry
drains t ps = map (λ p. entry t (row.Drain p)) ps

-- what a scale adds: so many new pods as are wanted beyond those that don't drain, or the drains of those beyond what is wanted
abbrev pub rows_of_scale : ℕ → ℕ → ℕ → PodsState → List Entry
rows_of_scale want limit t state =
    if nat_lt (length (drain_order_of state)) want then creations limit t state.created (want - length (drain_order_of state))
    else drains t (take (length (drain_order_of state) - want) (drain_order_of state))
