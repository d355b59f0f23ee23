-- The order of the record: numbers ascend, times never fall, and each pod that is named is there.
use Rattle.std.specs.Prelude.{◌≡◌, ℕ, ◌<◌, ◌≤◌, true, List, [], ◌∷◌, ⊤}
use Rattle.std.specs.List.{All, AllPairs}
use Rattle.kn_event.specs.declared.entry.Row.{Row}
use Rattle.kn_event.specs.declared.entry.Row.TheVariants as row
use Rattle.kn_event.specs.Lists.{contains}
use Rattle.kn_trace.specs.Trace.{Trace}
use Rattle.kn_record.specs.declared.admission.Place.{Place}
use Rattle.kn_record.specs.declared.admission.Place.TheVariants as place
use Rattle.kn_record.specs.declared.admission.Request.{Request}
use Rattle.kn_record.specs.declared.admission.Pod.{Pod}
use Rattle.kn_record.specs.Admission.{Admission, is_at, placed_in}
use Rattle.kn_record.specs.Views.{pod_numbers}

-- each number is below all later ones
abbrev pub Ascend : List ℕ → Type 0
Ascend xs = AllPairs (λ x y. x < y) xs

-- the place's pod is one of these; a held request has none
abbrev pub IsAmong : List ℕ → Place → Type 0
IsAmong ps place.Held = ⊤
IsAmong ps (place.Queued p) = contains p ps ≡ true
IsAmong ps (place.Running p assigned) = contains p ps ≡ true

pub record IsInOrder (a : Admission) : Type 0 where
  -- the numbers of the live requests ascend, and each has come
  pub live : AllPairs (λ (x y : Request). x.number < y.number) a.live
  pub arrived : All (λ (x : Request). x.number < a.arrivals) a.live
  -- the numbers of the pods ascend, and each was created
  pub pods : AllPairs (λ (x y : Pod). x.number < y.number) a.pods
  pub created : All (λ (x : Pod). x.number < a.created) a.pods
  -- a live request is at one of the pods, or held
  pub homes : All (λ (x : Request). IsAmong (pod_numbers a.pods) x.place) a.live

-- a row that leaves the record in order: who arrives or is created has the next number, a request comes to a pod that is
-- there, and only an empty pod goes
abbrev pub FitsRecord : Admission → Row → Type 0
FitsRecord a (row.Admit r tag) = r ≡ a.arrivals
FitsRecord a (row.Direct r p) = (r ≡ a.arrivals) × (contains p (pod_numbers a.pods) ≡ true)
FitsRecord a (row.Assign r p) = contains p (pod_numbers a.pods) ≡ true
FitsRecord a (row.Create p n) = p ≡ a.created
FitsRecord a (row.Remove p) = placed_in (is_at p) a.live ≡ []
FitsRecord a (row.LostPod p) = placed_in (is_at p) a.live ≡ []
FitsRecord a _ = ⊤

-- ---- times

-- the times of entries never fall: none is before the first time given, and none after the last
abbrev pub AreTimesInOrder : ℕ → Trace → ℕ → Type 0
AreTimesInOrder from [] to = from ≤ to
AreTimesInOrder from (x ∷ c) to = (from ≤ x.time) × AreTimesInOrder x.time c to

-- the live requests came by this time, in the order of their numbers
pub record AreTimed (clock : ℕ) (a : Admission) : Type 0 where
  pub ascend : AllPairs (λ (x y : Request). x.time ≤ y.time) a.live
  pub past : All (λ (x : Request). x.time ≤ clock) a.live
