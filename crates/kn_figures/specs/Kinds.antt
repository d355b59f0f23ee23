-- The kinds of rows: one for each word with which a report writes a row.
use Rattle.std.specs.Prelude.{ℕ, Bool, ◌==◌, List, [], ◌∷◌, codes}
use Rattle.kn_event.specs.declared.entry.Row.{Row}
use Rattle.kn_event.specs.declared.entry.Row.TheVariants as row
use Rattle.kn_figures.specs.declared.kind.Kind.{Kind}
use Rattle.kn_figures.specs.declared.kind.Kind.TheVariants as kind

abbrev pub all_kinds : List Kind
all_kinds =
    kind.Admit ∷ kind.QueueFull ∷ kind.Overload ∷ kind.Assign ∷ kind.Direct ∷ kind.Run ∷
    kind.Finish ∷ kind.Expire ∷ kind.Cancel ∷ kind.LostRequest ∷ kind.Create ∷ kind.Limit ∷
    kind.Ready ∷ kind.Drain ∷ kind.Remove ∷ kind.LostPod ∷ kind.Decided ∷ kind.NoData ∷
    kind.Phase ∷ kind.Mode ∷ kind.NotRunning ∷ kind.NotWaiting ∷ kind.NotStarting ∷ kind.NoPod ∷ []

-- where a kind stands among them, from 0 on
abbrev pub place_of : Kind → ℕ
place_of kind.Admit = 0
place_of kind.QueueFull = 1
place_of kind.Overload = 2
place_of kind.Assign = 3
place_of kind.Direct = 4
place_of kind.Run = 5
place_of kind.Finish = 6
place_of kind.Expire = 7
place_of kind.Cancel = 8
place_of kind.LostRequest = 9
place_of kind.Create = 10
place_of kind.Limit = 11
place_of kind.Ready = 12
place_of kind.Drain = 13
place_of kind.Remove = 14
place_of kind.LostPod = 15
place_of kind.Decided = 16
place_of kind.NoData = 17
place_of kind.Phase = 18
place_of kind.Mode = 19
place_of kind.NotRunning = 20
place_of kind.NotWaiting = 21
place_of kind.NotStarting = 22
place_of kind.NoPod = 23

abbrev pub kind_of : Row → Kind
kind_of (row.Admit r tag) = kind.Admit
kind_of (row.QueueFull r pod) = kind.QueueFull
kind_of (row.Overload r) = kind.Overload
kind_of (row.Assign r p) = kind.Assign
kind_of (row.Direct r p) = kind.Direct
kind_of (row.Run r) = kind.Run
kind_of (row.Finish r ok) = kind.Finish
kind_of (row.Expire r) = kind.Expire
kind_of (row.Cancel r) = kind.Cancel
kind_of (row.LostRequest r) = kind.LostRequest
kind_of (row.Create p n) = kind.Create
kind_of (row.Limit p n) = kind.Limit
kind_of (row.Ready p) = kind.Ready
kind_of (row.Drain p) = kind.Drain
kind_of (row.Remove p) = kind.Remove
kind_of (row.LostPod p) = kind.LostPod
kind_of (row.Decided d) = kind.Decided
kind_of row.NoData = kind.NoData
kind_of (row.Phase x) = kind.Phase
kind_of (row.Mode m) = kind.Mode
kind_of (row.NotRunning r) = kind.NotRunning
kind_of (row.NotWaiting r) = kind.NotWaiting
kind_of (row.NotStarting p) = kind.NotStarting
kind_of (row.NoPod p) = kind.NoPod

-- the word with which a report writes a row of this kind
abbrev pub name_of : Kind → List ℕ
name_of kind.Admit = codes "admit"
name_of kind.QueueFull = codes "queue-full"
name_of kind.Overload = codes "overload"
name_of kind.Assign = codes "assign"
name_of kind.Direct = codes "direct"
name_of kind.Run = codes "run"
name_of kind.Finish = codes "finish"
name_of kind.Expire = codes "expire"
name_of kind.Cancel = codes "cancel"
name_of kind.LostRequest = codes "lost-request"
name_of kind.Create = codes "create"
name_of kind.Limit = codes "limit"
name_of kind.Ready = codes "ready"
name_of kind.Drain = codes "drain"
name_of kind.Remove = codes "remove"
name_of kind.LostPod = codes "lost-pod"
name_of kind.Decided = codes "decision"
name_of kind.NoData = codes "no-data"
name_of kind.Phase = codes "phase"
name_of kind.Mode = codes "mode"
name_of kind.NotRunning = codes "not-running"
name_of kind.NotWaiting = codes "not-waiting"
name_of kind.NotStarting = codes "not-starting"
name_of kind.NoPod = codes "no-pod"

-- the row is of this kind
abbrev pub is_of : Kind → Row → Bool
is_of k x = place_of (kind_of x) == place_of k
