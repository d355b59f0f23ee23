-- A session, from what was served and what the scribe took out.
use Rattle.std.proofs.Common.{◌≡◌, ◌⊎◌, ◌*◌, ◌^◌, ℕ, List, [], ◌∷◌, ◌++◌, length, map, refl, sym, ap, ◌∙◌, subst, arith, inl, inr}
use Rattle.std.specs.Prelude.{Option, Result}
use Rattle.std.proofs.lemmas.List.{length-map}
use Rattle.kn_event.specs.declared.revision.Spec.{Spec}
use Rattle.kn_event.specs.Lists.{EachIs}
use Rattle.kn_io.specs.declared.traits.Failed.{Failed}
use Rattle.kn_trace.specs.Events.{opening}
use Rattle.kn_core.specs.State.{RevisionState, StandsFor}
use Rattle.kn_cell.specs.declared.past.Past.{Past}
use Rattle.kn_cell.specs.Lists.{Each, StartsWith}
use Rattle.kn_cell.specs.Shown.{PassView}
use Rattle.kn_journal.specs.declared.journal.Setup.{Setup}
use Rattle.kn_journal.specs.declared.status.Status.{Status}
use Rattle.kn_journal.specs.declared.status.Status.TheVariants as status
use Rattle.kn_request.specs.declared.slot.Slot.{Slot}
use Rattle.kn_request.specs.Terms.{watched}
use Rattle.kn_session.specs.declared.lasting.Lasting.{Lasting}
use Rattle.kn_session.specs.Lasting.{Lasted, SlotLasted}
use Rattle.kn_session.specs.Lists.{EachDone}
use Rattle.kn_session.specs.Passes.{IsFirst, IsUnmarked, Kind, lasting_kind}
use Rattle.kn_session.specs.Rounds.{IsPaced}
use Rattle.kn_session.specs.Session.{IsFine, IsOneHistory, IsTickedIn}
use Rattle.kn_outcomes.specs.Outcomes.{EachHasItsOutcome}
use Rattle.kn_scribe.specs.Printing.{Prints}
use Rattle.kn_serve.specs.Laws.{RunLaws}
use Rattle.kn_serve.specs.Running.{IsSession, IsStart, Session}
use Rattle.kn_stay.specs.Opened.{IsOpenedFor}
use Rattle.kn_stay.specs.Staying.{EndsBy, Goes, Handed, SeenStaying, Stays}
use Rattle.kn_stay.proofs.Marks.{all_unmarked}
use Rattle.kn_stay.proofs.Texts.{same_front}

-- the session over what was opened, with the marks of these slots
abbrev pub session_of : {C L : Type 0} → Setup → ℕ → RevisionState → List Past → List (Slot C L) → Session
session_of {C} {L} setup start b h ts = record {
  setup = setup;
  start = start;
  opened = b;
  history = h;
  faults = map (λ (t : Slot C L). t.work.fault) ts;
  wants = map (λ (t : Slot C L). t.work.memory) ts;
}

pub is_session : {C L : Type 0} (reading : ℕ → Type 0) → RunLaws reading → (count : ℕ) (setup : Setup) (start : ℕ) (b : RevisionState) (h : List Past) (ts : List (Slot C L))
    → IsStart reading start → StandsFor b (opening setup.spec start) → b.spec ≡ setup.spec → b.clock ≡ start → IsOneHistory count b h → length ts ≡ count
    → (EachIs (λ (t : Slot C L). IsUnmarked t.work) ts → Each IsFine h) → IsSession reading count (session_of setup start b h ts)
is_session {C} {L} reading laws count setup start b h ts begins stands spec clock one many fine =
    laws.session count (session_of setup start b h ts) (record {
      begins = begins;
      opens = stands;
      spec = spec;
      clock = clock;
      one = one;
      faults = length-map ts (λ (t : Slot C L). t.work.fault) ∙ many;
      wants = length-map ts (λ (t : Slot C L). t.work.memory) ∙ many;
      fine = λ faults wants. fine (all_unmarked ts faults wants);
    })

none : (xs : List Past) → length xs ≡ 0 → xs ≡ []
none [] e = refl
none (x ∷ xs) e = absurd (omega (arith, e))

-- the scribe took out just what the history then has in front of the rows that are left
pub front_is : (k : Kind) (p q : PassView) (a b : Option (List ℕ)) (f g : ℕ) (done : Result (Unit {0}) Failed) (front rest : List Past) (x : Prints p q a b f g done) → IsFirst k p
    → length front ≡ q.gone → StartsWith (front ++ rest) q.seen → x.given ≡ front
front_is k p q a b f g done front rest x first taken seen =
    let empty : x.front ≡ [] = none x.front (x.place ∙ first.whole) in
    let all : q.seen ≡ x.given = x.seen ∙ ap (λ (z : List Past). z ++ x.given) empty in
    let many : length x.given ≡ length front = (let gone = x.gone in let whole = first.whole in omega (arith, gone, whole, taken)) in
    same_front x.given front (front ++ rest) (subst (StartsWith (front ++ rest)) all seen) (rest, refl) many

-- what was served over a revision that was opened for it is a session, however it ended
pub stays_of : {C L K G O P W : Type 0} {w : SeenStaying C L K O P W} (pace : P) (setup : Setup) (l : Lasting K G) (b now : RevisionState) (rest : List Past) (Scribe : PassView → PassView → Type 0)
    {h : Handed C L W} {held held' : Option (List ℕ)} {result : Status}
    → RunLaws (w.reading l.clock.now) → EachHasItsOutcome C L (watched (w.reading l.clock.now) w.leaves) (IsPaced (w.begins pace) (w.ends pace)) → IsOpenedFor (w.reading l.clock.now) setup l b
    → (x : Lasted (lasting_kind b l.room l.addresses) (length h.slots) now rest
    (λ k z. EachDone (λ i s t. SlotLasted k (watched (w.reading l.clock.now) w.leaves) (IsPaced (w.begins pace) (w.ends pace)) l.spec.now (i * 10 ^ 12) z i (w.at s) (w.at t) t.work.fault t.work.memory) h.slots h.slots')
    (λ k z. IsTickedIn (w.reading l.clock.now) l.start k z (w.told h.keeper) (w.told h.keeper') (w.faults h.keeper) (w.faults h.keeper'))
    (EachIs (λ (t : Slot C L). IsUnmarked t.work) h.slots') Scribe (w.attends h.page h.page'))
    → (IsSession (w.reading l.clock.now) (length h.slots) (session_of setup l.start b (x.front ++ rest) h.slots') → EndsBy held held' (session_of setup l.start b (x.front ++ rest) h.slots') result)
    → Stays w l.clock.now pace l.room l.addresses (λ s. s ≡ setup) h held held' result
stays_of {w = w} pace setup l b now rest Scribe {h = h} laws outcomes opened x ends =
    let all = x.front ++ rest in
    let is = is_session (w.reading l.clock.now) laws (length h.slots) setup l.start b all h.slots' opened.begins opened.stands opened.spec opened.clock x.one x.served.0 x.fine in
    record {
      session = session_of setup l.start b all h.slots';
      is = is;
      said = refl;
      over = outcomes w.at (lasting_kind b l.room l.addresses) l.spec.now (10 ^ 12) all h.slots h.slots' opened.fresh x.one x.served;
      slots = record {
        faults = refl;
        wants = refl;
        each = subst (λ (z : Spec). EachDone (λ i s t. SlotLasted (lasting_kind b l.room l.addresses) (watched (w.reading l.clock.now) w.leaves) (IsPaced (w.begins pace) (w.ends pace)) z (i * 10 ^ 12) all i (w.at s) (w.at t) t.work.fault t.work.memory) h.slots h.slots') opened.same x.served;
      };
      keeper = x.keeper;
      page = x.page;
      ends = ends is;
    }

goes_said : {C L K O P W : Type 0} (w : SeenStaying C L K O P W) (clock : K) (pace : P) (room addresses : ℕ) (Said : Setup → Type 0) (setup : Setup) (h : Handed C L W) (out out' : O) (result : Status)
    → Said setup → Goes w clock pace room addresses (λ s. s ≡ setup) h out out' result → Goes w clock pace room addresses Said h out out' result
goes_said w clock pace room addresses Said setup h out out' result given (inl x) =
    inl (record { setup = x.setup; start = x.start; said = subst Said (sym x.said) given; begins = x.begins; same = x.same; ends = x.ends })
goes_said w clock pace room addresses Said setup h out out' result given (inr x) =
    inr (record { session = x.session; is = x.is; said = subst Said (sym x.said) given; over = x.over; slots = x.slots; keeper = x.keeper; page = x.page; ends = x.ends })

-- what is said of the setup is so of the one that it is, and the output is what the scribe held
pub goes_as : {C L K O P W : Type 0} (w : SeenStaying C L K O P W) (clock : K) (pace : P) (room addresses : ℕ) (Said : Setup → Type 0) (setup : Setup) (h : Handed C L W)
    (first last out out' : O) (result : Status) → first ≡ out → last ≡ out' → Said setup
    → Goes w clock pace room addresses (λ s. s ≡ setup) h first last result → Goes w clock pace room addresses Said h out out' result
goes_as {O = O} w clock pace room addresses Said setup h first last out out' result e f given goes =
    subst (λ (z : O). Goes w clock pace room addresses Said h z out' result) e
    (subst (λ (z : O). Goes w clock pace room addresses Said h first z result) f (goes_said w clock pace room addresses Said setup h first last result given goes))

-- the input of a server that came to its revision is at fault for nothing
pub no_read_fault : {C L K O P W : Type 0} (w : SeenStaying C L K O P W) (clock : K) (pace : P) (room addresses : ℕ) (Said : Setup → Type 0) (h : Handed C L W) (out out' : O) (result : Status)
    → Goes w clock pace room addresses Said h out out' result → result ≡ status.ReadFault → ⊥
no_read_fault w clock pace room addresses Said h out out' result (inl x) is = by_ends x.ends
  where
    by_ends : {A B : Type 0} → ((result ≡ status.WriteFault) × A) ⊎ ((result ≡ status.Memory) × B) → ⊥
    by_ends (inl e) = (let same = e.0 in cc)
    by_ends (inr e) = (let same = e.0 in cc)
no_read_fault w clock pace room addresses Said h out out' result (inr x) is = by_ends x.ends
  where
    by_ends : {A B : Type 0} → ((result ≡ status.Ok) × A) ⊎ ((result ≡ status.WriteFault) × B) → ⊥
    by_ends (inl e) = (let same = e.0 in cc)
    by_ends (inr e) = (let same = e.0 in cc)
