-- What a run of a session over several revisions comes to, as all calls of one say it.
use Rattle.std.specs.Prelude.{◌≡◌, ◌⊎◌, ℕ, List, [], map, length, String, Vec, string_bytes}
use Rattle.std.specs.Global.{Global}
use Rattle.kn_io.specs.Causes.{Rose}
use Rattle.kn_journal.specs.declared.status.Status.{Status}
use Rattle.kn_plan.specs.declared.wide_plan.WidePlan.{WidePlan}
use Rattle.kn_plan.specs.Plan.{AsksForMany}
use Rattle.kn_request.specs.declared.slot.WideSlot.{WideSlot}
use Rattle.kn_session.specs.Changes.{Change, Lent, became, lent, was}
use Rattle.kn_session.specs.Lists.{EachDone}
use Rattle.kn_session.specs.Wide.{WideSides}
use Rattle.kn_serve.specs.Course.{Seen, SeenOpening}
use Rattle.kn_many.specs.Many.{AreTicked, DeclinesAll, IsSlotOf, ServesAll}
use Rattle.kn_serve.specs.Running.{Session}
use Rattle.kn_serve.specs.Shut.{ServesWhere, StaysShutWhere}
use Rattle.kn_many.specs.WideOpening.{AllNew}

-- what became of the slots
abbrev pub AllSlotsDid : {C L : Type 0} → (WideSlot C L → WideSides) → (ℕ → Type 0) → WidePlan → List (WideSlot C L) → List (WideSlot C L) → List Session → Type 0
AllSlotsDid at reading plan ss ts xs = EachDone (λ i s t. IsSlotOf reading plan.room plan.rounds xs i (at s) (at t)) ss ts

-- a session of each revision was declined, and then this is the same, or it was served, and then this became of the slots and of the keepers
abbrev pub AllGo : {S C L K O : Type 0} → Seen S C L K O → WidePlan → K → S → S → List (WideSlot C L) → List (WideSlot C L) → List L → List L → O → O → Type 0 → Status → Type 0
AllGo w plan clock setups setups' slots slots' keepers keepers' out out' Same result =
    DeclinesAll (length plan.pods) (w.left setups) Same result
    ⊎ ServesAll (w.reading clock) (length slots) (length plan.pods) (w.left setups) (w.left setups') (w.held out) (w.held out') (AllSlotsDid w.wide_at (w.reading clock) plan slots slots')
    (λ xs. AreTicked (w.reading clock) plan.room xs (map w.told keepers) (map w.told keepers') (map w.faults keepers) (map w.faults keepers')) result

-- .. by a plan, with slots and keepers
abbrev pub CourseAll : {S C L K O : Type 0} → Seen S C L K O → Lent WidePlan → Lent K → Change S → Change (List (WideSlot C L)) → Change (List L) → Change O → Status → Type 0
CourseAll w plan clock setups slots keepers out result =
    AllGo w (lent plan) (lent clock) (was setups) (became setups) (was slots) (became slots) (was keepers) (became keepers) (was out) (became out)
    ((became slots ≡ was slots) × (became keepers ≡ was keepers) × (became out ≡ was out)) result

-- .. by words, with what was opened for the plan that they ask for
abbrev pub CourseOfMany : {W S C L K O : Type 0} → SeenOpening W WidePlan (List (WideSlot C L)) (List L) S C L K O → Lent (List (String Global))
    → Change W → Change S → Change (Vec (WideSlot C L) Global) → Change (Vec L Global) → Lent K → Change O → Status → Type 0
CourseOfMany {W} {S} {C} {L} {K} {O} o words opener setups slots keepers clock out result =
    let w = o.outside in
    let asks = AsksForMany (map string_bytes (lent words)) in
    StaysShutWhere asks (Rose (o.opener_faults (was opener)) (o.opener_faults (became opener)))
    ((became setups ≡ was setups) × (became out ≡ was out) × ((became slots).items ≡ []) × ((became keepers).items ≡ [])) result
    ⊎ ServesWhere (WideSlot C L) (List L) asks
    (λ plan made ks. AllNew w.wide_at w.told plan made ks × o.gives (was opener) plan (became opener) made ks)
    (λ plan made ks. AllGo w plan (lent clock) (was setups) (became setups) made (became slots).items ks (became keepers).items (was out) (became out)
    (((became slots).items ≡ made) × ((became keepers).items ≡ ks) × (became out ≡ was out)) result)
