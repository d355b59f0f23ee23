-- A session over several revisions, from what its calls say.
use Rattle.std.proofs.Common.{◌≡◌, ◌<◌, ◌≤◌, ◌+◌, ◌∙◌, ◌^◌, ℕ, Bool, List, [], ◌∷◌, length, map, get_or, sym, ap, subst, arith}
use Rattle.std.specs.Prelude.{All, None, Option, Some, Err, false, slice_index_or, suc, zero, Vec}
use Rattle.std.specs.Global.{Global}
use Rattle.std.proofs.lemmas.List.{get_or-map, length-map}
use Rattle.kn_event.specs.declared.revision.Spec.{Spec}
use Rattle.kn_event.specs.Lists.{EachIs}
use Rattle.kn_core.specs.State.{RevisionState}
use Rattle.kn_cell.specs.declared.past.Past.{Past}
use Rattle.kn_cell.specs.Lists.{Each}
use Rattle.kn_io.specs.Links.{Link}
use Rattle.kn_journal.specs.declared.error.JournalError.TheVariants as error
use Rattle.kn_journal.specs.declared.journal.Setup.{Setup}
use Rattle.kn_journal.specs.Bundle.{AreSetups}
use Rattle.kn_journal.specs.Journal.{IsSetup, good, journal_text, verdict}
use Rattle.kn_print.specs.Printed.{HasSmall}
use Rattle.kn_request.specs.declared.slot.WideSlot.{WideSlot}
use Rattle.kn_request.specs.Wide.{at_count, at_wire, faults_in, memories_in}
use Rattle.kn_session.specs.Lists.{EachDone}
use Rattle.kn_session.specs.Session.{IsFine, IsOneHistory, IsTicked}
use Rattle.kn_session.specs.Wide.{AreFine, AreHistories, WideSides, WideSlotServed, at_flag, at_history}
use Rattle.kn_serve.specs.Laws.{RunLaws}
use Rattle.kn_serve.specs.Running.{IsSession, IsStart, Session, journal_of}
use Rattle.kn_many.specs.Ending.{AreAllCleared}
use Rattle.kn_many.specs.Many.{AreOpenedAt, AreTicked, IsOpenedAt, IsReadyFor, IsSlotOf}
use Rattle.kn_many.specs.Setups.{SaysSetups}
use Rattle.kn_many.proofs.ManyEnds.{faults_of, flags_at, sessions_of, some_of, wants_of}
use Rattle.kn_many.proofs.ManyFacts.{AreAsMany, IsSessionAt, session_at, sessions-histories, sessions-many, sessions-opened, sessions-specs}

pub nothing_said : (count : ℕ) (left : Option (List ℕ)) → SaysSetups count left (Err error.Memory)
nothing_said count None = tt
nothing_said count (Some xs) = tt

-- what the calls say of the revisions and their histories, where the slots were left like this
pub record Ran {C L : Type 0} (reading : ℕ → Type 0) (slots start : ℕ) (ss : List Setup) (bs : List RevisionState) (hs : List (List Past)) (ts : List (WideSlot C L)) : Type 0 where
  pub begins : IsStart reading start
  pub early : start ≤ 2 ^ 42
  pub kept : AreSetups ss
  pub many : AreAsMany ss bs hs
  pub some : 1 ≤ length ss
  pub opened : AreOpenedAt ss start bs
  pub histories : (v : ℕ) (b : RevisionState) → v < length ss → IsOneHistory slots (slice_index_or bs v b) (at_history hs v)
  pub fine : (v : ℕ) → v < length ss → EachIs (λ (t : WideSlot C L). (at_flag (faults_in t.works.items) v ≡ false) × (at_flag (memories_in t.works.items) v ≡ false)) ts → Each IsFine (at_history hs v)
  pub long : length ts ≡ slots
  pub works : EachIs (λ (t : WideSlot C L). length t.works.items ≡ length ss) ts

-- ---- each revision

-- where the session of revision v has no flag, no slot has one for it
no_flags : {C L : Type 0} (ts : List (WideSlot C L)) (v : ℕ) (x : Session) → x.faults ≡ faults_of ts v → x.wants ≡ wants_of ts v → All (λ b. b ≡ false) x.faults → All (λ b. b ≡ false) x.wants
    → EachIs (λ (t : WideSlot C L). (at_flag (faults_in t.works.items) v ≡ false) × (at_flag (memories_in t.works.items) v ≡ false)) ts
no_flags {C} {L} ts v x faults wants no_fault no_want i d low =
    let fault : WideSlot C L → Bool = λ t. at_flag (faults_in t.works.items) v in
    let want : WideSlot C L → Bool = λ t. at_flag (memories_in t.works.items) v in
    let none : All (λ b. b ≡ false) (map fault ts) = subst (All (λ b. b ≡ false)) faults no_fault in
    let nobody : All (λ b. b ≡ false) (map want ts) = subst (All (λ b. b ≡ false)) wants no_want in
    let low_f : i < length (map fault ts) = omega (arith, low, length-map ts fault) in
    let low_w : i < length (map want ts) = omega (arith, low, length-map ts want) in
    (sym (get_or-map fault ts i d false low) ∙ none i false low_f, sym (get_or-map want ts i d false low) ∙ nobody i false low_w)

-- what is so of the revision, the history and the setup in their places is so of the session there
pub opened_there : (start : ℕ) (F W : ℕ → List Bool) (v : ℕ) (ss : List Setup) (bs : List RevisionState) (hs : List (List Past)) (x : Session) → IsSessionAt start F W 0 v ss bs hs x
    → ((b : RevisionState) (s : Setup) → IsOpenedAt (slice_index_or ss v s).spec start (slice_index_or bs v b)) → IsOpenedAt x.setup.spec x.start x.opened
opened_there start F W v ss bs hs x at opened =
    subst (λ (n : ℕ). IsOpenedAt x.setup.spec n x.opened) (sym at.begins)
    (subst (λ (b : RevisionState). IsOpenedAt x.setup.spec start b) (at.opened x.opened)
    (subst (λ (s : Setup). IsOpenedAt s.spec start (slice_index_or bs v x.opened)) (at.setup x.setup) (opened x.opened x.setup)))

history_there : (slots start : ℕ) (F W : ℕ → List Bool) (v : ℕ) (ss : List Setup) (bs : List RevisionState) (hs : List (List Past)) (x : Session) → IsSessionAt start F W 0 v ss bs hs x
    → ((b : RevisionState) → IsOneHistory slots (slice_index_or bs v b) (at_history hs v)) → IsOneHistory slots x.opened x.history
history_there slots start F W v ss bs hs x at one =
    subst (λ (b : RevisionState). IsOneHistory slots b x.history) (at.opened x.opened)
    (subst (λ (h : List Past). IsOneHistory slots (slice_index_or bs v x.opened) h) (at.history []) (one x.opened))

pub each_session : {C L : Type 0} (reading : ℕ → Type 0) → RunLaws reading → (slots start : ℕ) (ss : List Setup) (bs : List RevisionState) (hs : List (List Past)) (ts : List (WideSlot C L)) → Ran reading slots start ss bs hs ts
    → EachIs (IsSession reading slots) (sessions_of start ts ss bs hs)
each_session {C} {L} reading laws slots start ss bs hs ts ran v d low =
    let F = faults_of ts in
    let W = wants_of ts in
    let x = slice_index_or (sessions_of start ts ss bs hs) v d in
    let low' : v < length ss = omega (arith, low, sessions-many start F W 0 ss bs hs ran.many) in
    let at = session_at start F W 0 v ss bs hs d ran.many low' in
    let here : 0 + v ≡ v = omega arith in
    let faults : x.faults ≡ faults_of ts v = at.faults ∙ ap F here in
    let wants : x.wants ≡ wants_of ts v = at.wants ∙ ap W here in
    let opened = opened_there start F W v ss bs hs x at (λ b s. ran.opened v b s low') in
    laws.session slots x (record {
      begins = subst (IsStart reading) (sym at.begins) ran.begins;
      opens = opened.stands;
      spec = opened.spec_is;
      clock = opened.clock;
      one = history_there slots start F W v ss bs hs x at (λ b. ran.histories v b low');
      faults = ap length faults ∙ length-map ts (λ (t : WideSlot C L). at_flag (faults_in t.works.items) v) ∙ ran.long;
      wants = ap length wants ∙ length-map ts (λ (t : WideSlot C L). at_flag (memories_in t.works.items) v) ∙ ran.long;
      fine = λ no_fault no_want. subst (Each IsFine) (at.history []) (ran.fine v low' (no_flags ts v x faults wants no_fault no_want));
    })

setup_in : (ss : List Setup) (v : ℕ) (s : Setup) → AreSetups ss → v < length ss → IsSetup (get_or ss v s)
setup_in [] v s all low = absurd (let z : ⊥ = omega (arith, low) in z)
setup_in (t ∷ ss) zero s all low = all.0
setup_in (t ∷ ss) (suc v) s all low = setup_in ss v s all.1 (omega (arith, low))

pub each_reads : {C L : Type 0} (reading : ℕ → Type 0) → RunLaws reading → (slots start : ℕ) (ss : List Setup) (bs : List RevisionState) (hs : List (List Past)) (ts : List (WideSlot C L))
    → Ran reading slots start ss bs hs ts → All (All (λ (p : Past). HasSmall p.event.act)) hs → EachIs (λ x. verdict (journal_text (journal_of x)) ≡ good (journal_of x)) (sessions_of start ts ss bs hs)
each_reads {C} {L} reading laws slots start ss bs hs ts ran small v d low =
    let F = faults_of ts in
    let W = wants_of ts in
    let x = slice_index_or (sessions_of start ts ss bs hs) v d in
    let low' : v < length ss = omega (arith, low, sessions-many start F W 0 ss bs hs ran.many) in
    let low'' : v < length hs = omega (arith, low', ran.many.histories) in
    let at = session_at start F W 0 v ss bs hs d ran.many low' in
    let early : x.start ≤ 2 ^ 42 = subst (λ (n : ℕ). n ≤ 2 ^ 42) (sym at.begins) ran.early in
    laws.reads slots x (each_session reading laws slots start ss bs hs ts ran v d low) early
    (subst (All (λ (p : Past). HasSmall p.event.act)) (at.history []) (small v [] low''))
    (subst IsSetup (at.setup x.setup) (setup_in ss v x.setup ran.kept low'))

-- ---- the slots and the keepers

pub slot_served : (reading : ℕ → Type 0) (room rounds : ℕ) (specs : List Spec) (bs : List RevisionState) (hs : List (List Past)) (i : ℕ) (from to : WideSides) (fs ws : List Bool) (xs : List Session)
    → map (λ (x : Session). x.setup.spec) xs ≡ specs → map (λ (x : Session). x.opened) xs ≡ bs → map (λ (x : Session). x.history) xs ≡ hs
    → map (λ (x : Session). at_flag x.faults i) xs ≡ fs → map (λ (x : Session). at_flag x.wants i) xs ≡ ws
    → WideSlotServed reading specs bs room rounds hs i from to fs ws → IsSlotOf reading room rounds xs i from to
slot_served reading room rounds specs bs hs i from to fs ws xs e1 e2 e3 e4 e5 did =
    let a = map (λ (x : Session). x.setup.spec) xs in
    let b = map (λ (x : Session). x.opened) xs in
    let h = map (λ (x : Session). x.history) xs in
    let f = map (λ (x : Session). at_flag x.faults i) xs in
    let one = subst (λ (z : List Spec). WideSlotServed reading z bs room rounds hs i from to fs ws) (sym e1) did in
    let two = subst (λ (z : List RevisionState). WideSlotServed reading a z room rounds hs i from to fs ws) (sym e2) one in
    let three = subst (λ (z : List (List Past)). WideSlotServed reading a b room rounds z i from to fs ws) (sym e3) two in
    let four = subst (λ (z : List Bool). WideSlotServed reading a b room rounds h i from to z ws) (sym e4) three in
    subst (λ (z : List Bool). WideSlotServed reading a b room rounds h i from to f z) (sym e5) four

-- what is said of the slots as the session left them is so of those with empty works
pub slots_did : {C L : Type 0} (P : ℕ → WideSides → WideSides → List Bool → List Bool → Type 0) (Q : ℕ → WideSides → WideSides → Type 0) (side : C → List L → WideSides) (ss ts us : List (WideSlot C L))
    → EachDone (λ i s t. P i (side s.caller s.links.items) (side t.caller t.links.items) (faults_in t.works.items) (memories_in t.works.items)) ss ts
    → ((i : ℕ) (d : WideSlot C L) (a b : WideSides) → i < length ts → P i a b (faults_in (slice_index_or ts i d).works.items) (memories_in (slice_index_or ts i d).works.items) → Q i a b)
    → AreAllCleared ts us → EachDone (λ i s u. Q i (side s.caller s.links.items) (side u.caller u.links.items)) ss us
slots_did {C} {L} P Q side ss ts us did more clear = (
  clear.0 ∙ did.0,
  λ i d low.
      let s = slice_index_or ss i d in
      let t = slice_index_or ts i d in
      let u = slice_index_or us i d in
      let low' : i < length ts = omega (arith, did.0, low) in
      let same = clear.1 i d low' in
      let one = more i d (side s.caller s.links.items) (side t.caller t.links.items) low' (did.1 i d low) in
      subst (λ (l : List L). Q i (side s.caller s.links.items) (side u.caller l)) (sym (ap (λ v. v.items) same.links))
      (subst (λ (a : C). Q i (side s.caller s.links.items) (side a t.links.items)) (sym same.caller) one),
)

-- .. which are ready again
pub ready_again : {C L : Type 0} (count : ℕ) (ss ts us : List (WideSlot C L)) → EachIs (IsReadyFor count) ss
    → EachDone (λ i s t. (length t.links.items ≡ length s.links.items) × (length t.works.items ≡ length s.works.items)) ss ts → AreAllCleared ts us → EachIs (IsReadyFor count) us
ready_again {C} {L} count ss ts us ready kept clear i d low =
    let low' : i < length ts = omega (arith, clear.0, low) in
    let low'' : i < length ss = omega (arith, kept.0, low') in
    let was = ready i d low'' in
    let same = kept.1 i d low'' in
    let now = clear.1 i d low' in
    record { links = ap (λ v. length v.items) now.links ∙ same.0 ∙ was.links; works = now.many ∙ same.1 ∙ was.works; empty = now.empty }

-- .. and have as many works as there are revisions
pub works_many : {C L : Type 0} (count : ℕ) (ss ts : List (WideSlot C L)) → EachIs (IsReadyFor count) ss
    → EachDone (λ i s t. (length t.links.items ≡ length s.links.items) × (length t.works.items ≡ length s.works.items)) ss ts → EachIs (λ (t : WideSlot C L). length t.works.items ≡ count) ts
works_many {C} {L} count ss ts ready kept i d low =
    let low' : i < length ss = omega (arith, kept.0, low) in
    (kept.1 i d low').1 ∙ (ready i d low').works

pub ticked : {C L : Type 0} (reading : ℕ → Type 0) (slots room start : ℕ) (ss : List Setup) (bs : List RevisionState) (hs : List (List Past)) (ts : List (WideSlot C L)) (ws ws' : List (Option Link)) (ns ns' : List ℕ) → Ran reading slots start ss bs hs ts
    → ((v : ℕ) (b : RevisionState) → v < length ss → IsTicked reading start (slice_index_or bs v b) room (at_history hs v) (at_wire ws v) (at_wire ws' v) (at_count ns v) (at_count ns' v))
    → AreTicked reading room (sessions_of start ts ss bs hs) ws ws' ns ns'
ticked {C} {L} reading slots room start ss bs hs ts ws ws' ns ns' ran each v d low =
    let F = faults_of ts in
    let W = wants_of ts in
    let x = slice_index_or (sessions_of start ts ss bs hs) v d in
    let low' : v < length ss = omega (arith, low, sessions-many start F W 0 ss bs hs ran.many) in
    let at = session_at start F W 0 v ss bs hs d ran.many low' in
    let Is : ℕ → RevisionState → List Past → Type 0 = λ n b h. IsTicked reading n b room h (at_wire ws v) (at_wire ws' v) (at_count ns v) (at_count ns' v) in
    subst (λ (n : ℕ). Is n x.opened x.history) (sym at.begins)
    (subst (λ (b : RevisionState). Is start b x.history) (at.opened x.opened)
    (subst (λ (h : List Past). Is start (slice_index_or bs v x.opened) h) (at.history []) (each v x.opened low')))

-- ---- the whole

pub slots_served : {C L : Type 0} (reading : ℕ → Type 0) (slots room rounds start : ℕ) (specs : List Spec) (ss : List Setup) (bs : List RevisionState) (hs : List (List Past)) (side : C → List L → WideSides) (os ts us : List (WideSlot C L))
    → Ran reading slots start ss bs hs ts → specs ≡ map (λ (s : Setup). s.spec) ss
    → EachDone (λ i s t. WideSlotServed reading specs bs room rounds hs i (side s.caller s.links.items) (side t.caller t.links.items) (faults_in t.works.items) (memories_in t.works.items)) os ts
    → AreAllCleared ts us
    → EachDone (λ i s u. IsSlotOf reading room rounds (sessions_of start ts ss bs hs) i (side s.caller s.links.items) (side u.caller u.links.items)) os us
slots_served {C} {L} reading slots room rounds start specs ss bs hs side os ts us ran same did clear =
    let F = faults_of ts in
    let W = wants_of ts in
    let xs = sessions_of start ts ss bs hs in
    slots_did (λ i a b f w. WideSlotServed reading specs bs room rounds hs i a b f w) (λ i a b. IsSlotOf reading room rounds xs i a b) side os ts us did
    (λ i d a b low one.
    let flags = flags_at start ts ss bs hs i d ran.many ran.some low (ran.works i d low) in
    slot_served reading room rounds specs bs hs i a b (faults_in (slice_index_or ts i d).works.items) (memories_in (slice_index_or ts i d).works.items) xs
    (sessions-specs start F W 0 ss bs hs ran.many ∙ sym same) (sessions-opened start F W 0 ss bs hs ran.many) (sessions-histories start F W 0 ss bs hs ran.many) flags.0 flags.1 one)
    clear

-- the calls that read, open and serve: the specifications, and the setups as two calls were lent them
pub ran_of : {C L : Type 0} (reading : ℕ → Type 0) (slots start : ℕ) (ss lent lent' : List Setup) (specs : List Spec) (bs : List RevisionState) (hs : Vec (List Past) Global) (os ts : List (WideSlot C L))
    → IsStart reading start → start ≤ 2 ^ 42 → AreSetups ss → 1 ≤ length ss → lent ≡ ss → lent' ≡ ss → specs ≡ map (λ (s : Setup). s.spec) lent → length bs ≡ length lent'
    → AreOpenedAt lent' start bs
    → AreHistories slots bs hs
    → AreFine (length specs) ts hs
    → length os ≡ slots → EachIs (IsReadyFor (length ss)) os → EachDone (λ i s t. (length t.links.items ≡ length s.links.items) × (length t.works.items ≡ length s.works.items)) os ts
    → Ran reading slots start ss bs hs.items ts
ran_of {C} {L} reading slots start ss lent lent' specs bs hs os ts begins early kept some same same' of opened_many opened histories fine long ready did =
    let count : length specs ≡ length ss = ap length of ∙ length-map lent (λ (s : Setup). s.spec) ∙ ap length same in
    let count' : length lent' ≡ length ss = ap length same' in
    record {
      begins = begins;
      early = early;
      kept = kept;
      many = record { revisions = opened_many ∙ count'; histories = histories.many ∙ (opened_many ∙ count') };
      some = some;
      opened = subst (λ (zs : List Setup). AreOpenedAt zs start bs) same' opened;
      histories = λ v b low. histories.each v b (omega (arith, low, opened_many, count'));
      fine = λ v low. fine v (omega (arith, low, count));
      long = did.0 ∙ long;
      works = works_many (length ss) os ts ready did;
    }

-- a revision that was opened has no live request
pub opened_dead : (start : ℕ) (ss lent : List Setup) (bs : List RevisionState) → lent ≡ ss → AreOpenedAt lent start bs → (v : ℕ) (b : RevisionState) → v < length lent → (s : Setup) × IsOpenedAt s.spec start (slice_index_or bs v b)
opened_dead start ss lent bs same opened v b low =
    let some : 1 ≤ length lent = omega (arith, low) in
    some_of lent some (λ s. (slice_index_or lent v s, opened v b s low))
