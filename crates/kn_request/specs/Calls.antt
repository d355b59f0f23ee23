-- What the calls say of what they are lent. What a caller tells is given by its sink's own members, and what a link tells by `told`.
use Rattle.std.specs.Prelude.{◌≡◌, ◌⊎◌, ℕ, List, length, map, Option, Some}
use Rattle.kn_event.specs.declared.revision.Spec.{Spec}
use Rattle.kn_cell.specs.Shown.{Looks, PassView}
use Rattle.kn_io.specs.Links.{Link}
use Rattle.kn_io.specs.declared.traits.Faulty.{Ghosts as Counted}
use Rattle.kn_io.specs.declared.traits.Sink.{Ghosts as Writing}
use Rattle.kn_head.specs.declared.head.Head.{Head}
use Rattle.kn_request.specs.declared.meant.Meant.{Meant}
use Rattle.kn_request.specs.declared.slot.Ended.{Ended}
use Rattle.kn_request.specs.declared.slot.Served.{Served}
use Rattle.kn_request.specs.declared.slot.Slot.{Slot}
use Rattle.kn_request.specs.declared.slot.WideSlot.{WideSlot}
use Rattle.kn_request.specs.declared.slot.Work.{Work}
use Rattle.kn_request.specs.Changes.{Change, Lent, became, lent, was}
use Rattle.kn_request.specs.Outside.{Said, said}
use Rattle.kn_request.specs.Terms.{Terms, unwatched, watched}
use Rattle.kn_request.specs.Served.{IsCourse, IsServed}
use Rattle.kn_request.specs.One.{HasCauses, ServesGuest, ServesMet, ServesMetBy, ServesOne, ServesRead, Writes, served_by, text_of}
use Rattle.kn_request.specs.Wide.{IsWideWay, ServesWide, TakesTurns, TicksAll, WideCauses, passes_in}

-- what a caller tells
abbrev pub said_by : {C : Type 0} → Writing C → C → Option Said
said_by own caller = said (own.kept caller) (own.held caller)

-- its client was watched in the call, and its caller counts its faults so
abbrev pub watched_by : {K C : Type 0} → (K → ℕ → Type 0) → Type 0 → Counted C → Lent K → Change C → Terms
watched_by reading leaves faulty clock caller = watched (reading (lent clock)) leaves (faulty.faults (was caller)) (faulty.faults (became caller))

-- what is meant was answered, or a first part of it, and the caller failed
abbrev pub AnswersMeant : {C : Type 0} → Writing C → C → C → Meant → Served → Type 0
AnswersMeant own before now meant result = Writes (said_by own before) (said_by own now) result (served_by meant) (text_of meant)

-- a fault is answered only where the caller's count of faults rose, or the link's
abbrev pub FailsByCause : {C L : Type 0} → Counted C → Counted L → C → C → L → L → Served → Type 0
FailsByCause callers links caller caller' link link' result =
    HasCauses (callers.faults caller) (callers.faults caller') (links.faults link) (links.faults link') result

-- ---- one request

-- behind its arrival it went its course, and was to be cancelled where it still waited then
abbrev pub TakesCourse : {K C L : Type 0} → (K → ℕ → Type 0) → Type 0 → Counted C → (L → Option Link) → Lent K → ℕ → Lent Head → ℕ → Change PassView → Change C → Change L → Meant → Type 0
TakesCourse reading leaves faulty told clock due head r pass caller link m =
    IsCourse (watched_by reading leaves faulty clock caller) due (lent head) r (was pass) (became pass) (told (was link)) (told (became link)) m

-- there was no room for its arrival, or it arrived, and went its course
abbrev pub ServesArrival : {K C L : Type 0} → (K → ℕ → Type 0) → Type 0 → Counted C → (L → Option Link) → Lent K → ℕ → ℕ → Lent Head → Change PassView → Change C → Change L → Meant → Type 0
ServesArrival reading leaves faulty told clock timeout tag head pass caller link m =
    IsServed (watched_by reading leaves faulty clock caller) timeout tag (lent head) (was pass) (became pass) (told (was link)) (told (became link)) m

-- it had this head, and it was served and answered
abbrev pub ServesHead : {K C L : Type 0} → (K → ℕ → Type 0) → Type 0 → Writing C → Counted C → (L → Option Link) → Lent K → Lent Spec → ℕ → Lent Head → Change PassView → Change C → Change L → Served → Type 0
ServesHead reading leaves own faulty told clock spec tag head pass caller link result =
    ServesRead (watched_by reading leaves faulty clock caller) (lent spec).timeout_ms tag (lent head) (was pass) (became pass)
    (told (was link)) (told (became link)) (said_by own (was caller)) (said_by own (became caller)) result

-- it was read from the connection that its caller met last, of which so much is left to read, and it was served and answered
abbrev pub AttendsTo : {K C L : Type 0} → (K → ℕ → Type 0) → Type 0 → (C → Option (List ℕ)) → Writing C → Counted C → (L → Option Link) → Lent K → Lent Spec → ℕ → Change PassView → Change C → Change L → Served → Type 0
AttendsTo reading leaves left own faulty told clock spec tag pass caller link result =
    ServesMet (watched_by reading leaves faulty clock caller) (lent spec) tag (was pass) (became pass)
    (told (was link)) (told (became link)) (left (was caller)) (said_by own (was caller)) (said_by own (became caller)) result

-- the slot's caller met nobody, or it met somebody, whose request was served and answered
abbrev pub ServesSlot : {K C L : Type 0} → (K → ℕ → Type 0) → Type 0 → Writing C → Counted C → (L → Option Link) → Lent K → Lent Spec → ℕ → Change PassView → Change (Slot C L) → Served → Type 0
ServesSlot reading leaves own faulty told clock spec tag pass slot result =
    ServesGuest (watched (reading (lent clock)) leaves (faulty.faults (was slot).caller) (faulty.faults (became slot).caller)) (lent spec) tag (was pass) (became pass)
    (told (was slot).link) (told (became slot).link) (said_by own (was slot).caller) (said_by own (became slot).caller) result

-- .. while nobody watched its client
abbrev pub ServesUnwatched : {K C L : Type 0} → (K → ℕ → Type 0) → Writing C → (L → Option Link) → Lent K → Lent Spec → ℕ → Change PassView → Change (Slot C L) → Served → Type 0
ServesUnwatched reading own told clock spec tag pass slot result =
    ServesOne (reading (lent clock)) (lent spec) tag (was pass) (became pass)
    (told (was slot).link) (told (became slot).link) (said_by own (was slot).caller) (said_by own (became slot).caller) result

-- ---- one request to one of several revisions

-- what is told of each link, and how many faults each counted
abbrev pub wires_in : {L : Type 0} → (L → Option Link) → List L → List (Option Link)
wires_in told links = map (λ l. told l) links

abbrev pub breaks_in : {L : Type 0} → Counted L → List L → List ℕ
breaks_in faulty links = map (λ l. faulty.faults l) links

-- as many members
abbrev pub IsAsLong : {X : Type 0} → List X → List X → Type 0
IsAsLong new old = length new ≡ length old

-- a slot has as many links and works as it had
abbrev pub KeepsLengths : {C L : Type 0} → WideSlot C L → WideSlot C L → Type 0
KeepsLengths old new = IsAsLong new.links.items old.links.items × IsAsLong new.works.items old.works.items

-- it had this head, and it was served with the pass that lay in the work, and answered. Nobody watched its client
abbrev pub ServesByWork : {K C L : Type 0} → (K → ℕ → Type 0) → Writing C → (L → Option Link) → Lent K → Lent Spec → ℕ → Lent Head → Change Work → Change C → Change L → Served → Type 0
ServesByWork reading own told clock spec tag head work caller link result =
    (p : PassView) → (was work).pass ≡ Some p → (q : PassView) × ((became work).pass ≡ Some q) × ((q ≡ p) ⊎ Looks p q)
    × ServesRead (unwatched (reading (lent clock))) (lent spec).timeout_ms tag (lent head) p q
    (told (was link)) (told (became link)) (said_by own (was caller)) (said_by own (became caller)) result

-- it was read from the connection that its caller met last, and served by the revision that its head names, if it names one
abbrev pub ServesNamed : {K C L : Type 0} → (K → ℕ → Type 0) → (C → Option (List ℕ)) → Writing C → (L → Option Link) → Lent K → Lent (List Spec) → ℕ → Change (List Work) → Change C → Change (List L) → Ended → Type 0
ServesNamed reading left own told clock specs tag works caller links e =
    ServesMetBy (IsWideWay (reading (lent clock)) (lent specs) tag (passes_in (was works)) (passes_in (became works))
    (wires_in told (was links)) (wires_in told (became links)) e.revision)
    (left (was caller)) (said_by own (was caller)) (said_by own (became caller)) e.served

-- the slot's caller met nobody, or it met somebody, whose request was served so
abbrev pub ServesWideSlot : {K C L : Type 0} → (K → ℕ → Type 0) → Writing C → (L → Option Link) → Lent K → Lent (List Spec) → ℕ → Change (WideSlot C L) → Ended → Type 0
ServesWideSlot reading own told clock specs tag slot e =
    ServesWide (reading (lent clock)) (lent specs) tag (passes_in (was slot).works.items) (passes_in (became slot).works.items)
    (wires_in told (was slot).links.items) (wires_in told (became slot).links.items) e.revision
    (said_by own (was slot).caller) (said_by own (became slot).caller) e.served

-- a fault is answered only where the caller's count of faults rose, or that of the link of the revision that was named
abbrev pub FailsByCauseAt : {C L : Type 0} → Counted C → Counted L → C → C → List L → List L → Ended → Type 0
FailsByCauseAt callers faulty caller caller' links links' e =
    WideCauses (callers.faults caller) (callers.faults caller') (breaks_in faulty links) (breaks_in faulty links') e.revision e.served

-- .. of a slot
abbrev pub FailsByCauseIn : {C L : Type 0} → Counted C → Counted L → WideSlot C L → WideSlot C L → Ended → Type 0
FailsByCauseIn callers faulty old new e = FailsByCauseAt callers faulty old.caller new.caller old.links.items new.links.items e

-- ---- the ticker of all

-- each revision took a turn with its own keeper
abbrev pub TurnsEach : {L : Type 0} → (L → Option Link) → Counted L → ℕ → List PassView → List PassView → List ℕ → List ℕ → List L → List L → Type 0
TurnsEach told faulty now ps ps' ls ls' keepers keepers' =
    TakesTurns now ps ps' ls ls' (wires_in told keepers) (wires_in told keepers') (breaks_in faulty keepers) (breaks_in faulty keepers')

-- each revision's pass ticked, with its own keeper
abbrev pub TicksEach : {L : Type 0} → (L → Option Link) → Counted L → (ℕ → Type 0) → ℕ → List PassView → List PassView → List L → List L → Type 0
TicksEach told faulty reading start ps ps' keepers keepers' =
    TicksAll reading start ps ps' (wires_in told keepers) (wires_in told keepers') (breaks_in faulty keepers) (breaks_in faulty keepers')
