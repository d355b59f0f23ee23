-- The revisions that are opened, and their sessions.
use Rattle.std.proofs.Common.{zero, suc, ◌≡◌, ◌<◌, ◌+◌, ◌∙◌, ℕ, Bool, List, [], ◌∷◌, ◌++◌, length, map, get_or, refl, sym, ap, subst, arith, inl, inr}
use Rattle.std.specs.Prelude.{slice_index_or}
use Rattle.std.proofs.lemmas.Bool.Decides.{eqb_tells}
use Rattle.std.proofs.lemmas.List.{get_or_append_left, get_or_default, get_or_push}
use Rattle.kn_event.specs.declared.revision.Spec.{Spec}
use Rattle.kn_core.specs.State.{RevisionState}
use Rattle.kn_cell.specs.declared.past.Past.{Past}
use Rattle.kn_journal.specs.declared.journal.Journal.{Journal}
use Rattle.kn_journal.specs.declared.journal.Setup.{Setup}
use Rattle.kn_print.specs.Printed.{printed_journals}
use Rattle.kn_many.specs.Many.{IsOpenedAt}
use Rattle.kn_serve.specs.Running.{Session, journal_of}

-- one revision more
pub opened_more : (setups : List Setup) (start : ℕ) (rs : List RevisionState) (i : ℕ) (s : Setup) (r : RevisionState) → length rs ≡ i → i < length setups → s ≡ get_or setups i s → IsOpenedAt s.spec start r
    → ((v : ℕ) (b : RevisionState) (x : Setup) → v < i → IsOpenedAt (slice_index_or setups v x).spec start (slice_index_or rs v b))
    → (v : ℕ) (b : RevisionState) (x : Setup) → v < i + 1 → IsOpenedAt (slice_index_or setups v x).spec start (slice_index_or (rs ++ r ∷ []) v b)
opened_more setups start rs i s r many within is new before v b x low = elim (eqb_tells v i) [
  | inl e ↦
      let here : s ≡ get_or setups v x = is ∙ get_or_default setups i s x within ∙ ap (λ (n : ℕ). get_or setups n x) (sym e.1) in
      let last : get_or (rs ++ r ∷ []) v b ≡ r = ap (λ (n : ℕ). get_or (rs ++ r ∷ []) n b) (e.1 ∙ sym many) ∙ get_or_push rs r b (length rs) refl in
      subst (λ (z : RevisionState). IsOpenedAt (get_or setups v x).spec start z) (sym last) (subst (λ (z : Setup). IsOpenedAt z.spec start r) here new)
  | inr e ↦
      let small : v < i = (let ne = e.1 in omega arith) in
      let small' : v < length rs = omega (arith, many, small) in
      subst (λ (z : RevisionState). IsOpenedAt (get_or setups v x).spec start z) (sym (get_or_append_left rs (r ∷ []) b v small')) (before v b x small)
]

-- ---- the sessions, one for each revision from number v on, with what the slots' works say of it

abbrev pub sessions : ℕ → (F W : ℕ → List Bool) → ℕ → List Setup → List RevisionState → List (List Past) → List Session
sessions start F W v [] bs hs = []
sessions start F W v (s ∷ ss) [] hs = []
sessions start F W v (s ∷ ss) (b ∷ bs) [] = []
sessions start F W v (s ∷ ss) (b ∷ bs) (h ∷ hs) = record { setup = s; start = start; opened = b; history = h; faults = F v; wants = W v } ∷ sessions start F W (v + 1) ss bs hs

-- as many of each
pub record AreAsMany (ss : List Setup) (bs : List RevisionState) (hs : List (List Past)) : Type 0 where
  pub revisions : length bs ≡ length ss
  pub histories : length hs ≡ length ss

fewer : (s : Setup) (ss : List Setup) (b : RevisionState) (bs : List RevisionState) (h : List Past) (hs : List (List Past)) → AreAsMany (s ∷ ss) (b ∷ bs) (h ∷ hs) → AreAsMany ss bs hs
fewer s ss b bs h hs m = record { revisions = omega (arith, m.revisions); histories = omega (arith, m.histories) }

pub sessions-many : (start : ℕ) (F W : ℕ → List Bool) (v : ℕ) (ss : List Setup) (bs : List RevisionState) (hs : List (List Past)) → AreAsMany ss bs hs → length (sessions start F W v ss bs hs) ≡ length ss
sessions-many start F W v [] bs hs m = refl
sessions-many start F W v (s ∷ ss) [] hs m = absurd (let e = m.revisions in cc)
sessions-many start F W v (s ∷ ss) (b ∷ bs) [] m = absurd (let e = m.histories in cc)
sessions-many start F W v (s ∷ ss) (b ∷ bs) (h ∷ hs) m = ap (λ (n : ℕ). suc n) (sessions-many start F W (v + 1) ss bs hs (fewer s ss b bs h hs m))

-- what the sessions are of: f of each is g of the setup, the revision and the history
pub sessions-setups : (start : ℕ) (F W : ℕ → List Bool) (v : ℕ) (ss : List Setup) (bs : List RevisionState) (hs : List (List Past)) → AreAsMany ss bs hs
    → map (λ (x : Session). x.setup) (sessions start F W v ss bs hs) ≡ ss
sessions-setups start F W v [] bs hs m = refl
sessions-setups start F W v (s ∷ ss) [] hs m = absurd (let e = m.revisions in cc)
sessions-setups start F W v (s ∷ ss) (b ∷ bs) [] m = absurd (let e = m.histories in cc)
sessions-setups start F W v (s ∷ ss) (b ∷ bs) (h ∷ hs) m = ap (λ (l : List Setup). s ∷ l) (sessions-setups start F W (v + 1) ss bs hs (fewer s ss b bs h hs m))

pub sessions-specs : (start : ℕ) (F W : ℕ → List Bool) (v : ℕ) (ss : List Setup) (bs : List RevisionState) (hs : List (List Past)) → AreAsMany ss bs hs
    → map (λ (x : Session). x.setup.spec) (sessions start F W v ss bs hs) ≡ map (λ (s : Setup). s.spec) ss
sessions-specs start F W v [] bs hs m = refl
sessions-specs start F W v (s ∷ ss) [] hs m = absurd (let e = m.revisions in cc)
sessions-specs start F W v (s ∷ ss) (b ∷ bs) [] m = absurd (let e = m.histories in cc)
sessions-specs start F W v (s ∷ ss) (b ∷ bs) (h ∷ hs) m = ap (λ (l : List Spec). s.spec ∷ l) (sessions-specs start F W (v + 1) ss bs hs (fewer s ss b bs h hs m))

pub sessions-opened : (start : ℕ) (F W : ℕ → List Bool) (v : ℕ) (ss : List Setup) (bs : List RevisionState) (hs : List (List Past)) → AreAsMany ss bs hs
    → map (λ (x : Session). x.opened) (sessions start F W v ss bs hs) ≡ bs
sessions-opened start F W v [] [] hs m = refl
sessions-opened start F W v [] (b ∷ bs) hs m = absurd (let e = m.revisions in cc)
sessions-opened start F W v (s ∷ ss) [] hs m = absurd (let e = m.revisions in cc)
sessions-opened start F W v (s ∷ ss) (b ∷ bs) [] m = absurd (let e = m.histories in cc)
sessions-opened start F W v (s ∷ ss) (b ∷ bs) (h ∷ hs) m = ap (λ (l : List RevisionState). b ∷ l) (sessions-opened start F W (v + 1) ss bs hs (fewer s ss b bs h hs m))

pub sessions-histories : (start : ℕ) (F W : ℕ → List Bool) (v : ℕ) (ss : List Setup) (bs : List RevisionState) (hs : List (List Past)) → AreAsMany ss bs hs
    → map (λ (x : Session). x.history) (sessions start F W v ss bs hs) ≡ hs
sessions-histories start F W v [] bs [] m = refl
sessions-histories start F W v [] bs (h ∷ hs) m = absurd (let e = m.histories in cc)
sessions-histories start F W v (s ∷ ss) [] hs m = absurd (let e = m.revisions in cc)
sessions-histories start F W v (s ∷ ss) (b ∷ bs) [] m = absurd (let e = m.histories in cc)
sessions-histories start F W v (s ∷ ss) (b ∷ bs) (h ∷ hs) m = ap (λ (l : List (List Past)). h ∷ l) (sessions-histories start F W (v + 1) ss bs hs (fewer s ss b bs h hs m))

pub sessions-journals : (start : ℕ) (F W : ℕ → List Bool) (v : ℕ) (ss : List Setup) (bs : List RevisionState) (hs : List (List Past)) → AreAsMany ss bs hs
    → map journal_of (sessions start F W v ss bs hs) ≡ printed_journals ss start hs
sessions-journals start F W v [] bs hs m = refl
sessions-journals start F W v (s ∷ ss) [] hs m = absurd (let e = m.revisions in cc)
sessions-journals start F W v (s ∷ ss) (b ∷ bs) [] m = absurd (let e = m.histories in cc)
sessions-journals start F W v (s ∷ ss) (b ∷ bs) (h ∷ hs) m =
    ap (λ (l : List Journal). journal_of (record { setup = s; start = start; opened = b; history = h; faults = F v; wants = W v }) ∷ l) (sessions-journals start F W (v + 1) ss bs hs (fewer s ss b bs h hs m))

-- one of them
pub record IsSessionAt (start : ℕ) (F W : ℕ → List Bool) (v k : ℕ) (ss : List Setup) (bs : List RevisionState) (hs : List (List Past)) (x : Session) : Type 0 where
  pub setup : (s : Setup) → get_or ss k s ≡ x.setup
  pub begins : x.start ≡ start
  pub opened : (b : RevisionState) → get_or bs k b ≡ x.opened
  pub history : (h : List Past) → get_or hs k h ≡ x.history
  pub faults : x.faults ≡ F (v + k)
  pub wants : x.wants ≡ W (v + k)

pub session_at : (start : ℕ) (F W : ℕ → List Bool) (v k : ℕ) (ss : List Setup) (bs : List RevisionState) (hs : List (List Past)) (d : Session) → AreAsMany ss bs hs → k < length ss
    → IsSessionAt start F W v k ss bs hs (get_or (sessions start F W v ss bs hs) k d)
session_at start F W v k [] bs hs d m low = absurd (let z : ⊥ = omega (arith, low) in z)
session_at start F W v k (s ∷ ss) [] hs d m low = absurd (let e = m.revisions in cc)
session_at start F W v k (s ∷ ss) (b ∷ bs) [] d m low = absurd (let e = m.histories in cc)
session_at start F W v zero (s ∷ ss) (b ∷ bs) (h ∷ hs) d m low =
    let here : v ≡ v + 0 = omega arith in
    record { setup = λ s. refl; begins = refl; opened = λ b. refl; history = λ h. refl; faults = ap F here; wants = ap W here }
session_at start F W v (suc k) (s ∷ ss) (b ∷ bs) (h ∷ hs) d m low =
    let low' : k < length ss = omega (arith, low) in
    let more = session_at start F W (v + 1) k ss bs hs d (fewer s ss b bs h hs m) low' in
    let far : v + 1 + k ≡ v + suc k = omega arith in
    record { setup = more.setup; begins = more.begins; opened = more.opened; history = more.history; faults = more.faults ∙ ap F far; wants = more.wants ∙ ap W far }
