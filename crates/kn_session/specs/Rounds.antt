-- The rounds of one slot.
use Rattle.std.specs.Prelude.{ℕ, ◌≡◌, ◌⊎◌, ◌<◌, ◌+◌, ◌*◌, List, [], ◌∷◌, ◌++◌, length, Option, Some, ⊤, Bool, true, false, ◌||◌}
use Rattle.kn_event.specs.declared.revision.Spec.{Spec}
use Rattle.kn_cell.specs.declared.past.Full.{Full}
use Rattle.kn_cell.specs.Shown.{PassView, Looks}
use Rattle.kn_io.specs.Callers.{texts_of}
use Rattle.kn_io.specs.Causes.{Rose}
use Rattle.kn_io.specs.Links.{Link}
use Rattle.kn_request.specs.declared.slot.Served.{Served}
use Rattle.kn_request.specs.declared.slot.Served.TheVariants as served
use Rattle.kn_request.specs.Outside.{Said, said}
use Rattle.kn_request.specs.declared.slot.Slot.{Slot}
use Rattle.kn_request.specs.One.{HasCauses, ServesGuest}
use Rattle.kn_request.specs.Terms.{Terms, watched}
use Rattle.kn_session.specs.declared.shared.Common.{Common}
use Rattle.kn_session.specs.Changes.{Change, became, was}
use Rattle.kn_session.specs.Lists.{EachDone}

-- what is told of a slot's caller and of its link, and how many faults each counted
pub record Sides : Type 0 where
  pub said : Option Said
  pub faults : ℕ
  pub wire : Option Link
  pub breaks : ℕ

-- the caller's kept, held and faults, and the link's told and faults
abbrev pub sides : Option (List (List ℕ)) → Option (List ℕ) → ℕ → Option Link → ℕ → Sides
sides kept held faults wire breaks = record { said = said kept held; faults = faults; wire = wire; breaks = breaks }

abbrev pub is_fault : Served → Bool
is_fault served.LinkFault = true
is_fault served.CallerFault = true
is_fault _ = false

abbrev pub is_memory : Served → Bool
is_memory served.Memory = true
is_memory _ = false

abbrev pub any_fault : List Served → Bool
any_fault [] = false
any_fault (s ∷ ss) = is_fault s || any_fault ss

abbrev pub any_memory : List Served → Bool
any_memory [] = false
any_memory (s ∷ ss) = is_memory s || any_memory ss

-- the round was answered for want of room
abbrev pub IsFullOf : Served → Type 0
IsFullOf s = (f : Full) × (s ≡ served.Full f)

-- where the caller tells its texts, they grew by so many
abbrev pub HasTexts : ℕ → Option Said → Option Said → Type 0
HasTexts n from to = (a : Said) → from ≡ Some a → (b : Said) × (to ≡ Some b) × ((new : List (List ℕ)) × (length new ≡ n) × (texts_of b.kept b.text ≡ texts_of a.kept a.text ++ new))

-- the caller's count of faults rose, or the link's
abbrev pub HasFaulted : Sides → Sides → Type 0
HasFaulted a b = Rose a.faults b.faults ⊎ Rose a.breaks b.breaks

-- one round: one request was served, and what the pass knows then is as it should be
pub record OneRound (Then : PassView → Type 0) (terms : ℕ → ℕ → Terms) (spec : Spec) (tag : ℕ) (p q : PassView) (a b : Sides) (s : Served) : Type 0 where
  pub later : (q ≡ p) ⊎ Looks p q
  pub then : Then q
  pub served : ServesGuest (terms a.faults b.faults) spec tag p q a.wire b.wire a.said b.said s
  pub causes : HasCauses a.faults b.faults a.breaks b.breaks s

-- rounds with these endings, from this tag on, one after the other
abbrev pub IsRounds : (PassView → Type 0) → (ℕ → ℕ → Terms) → Spec → ℕ → List Served → PassView → PassView → Sides → Sides → Type 0
IsRounds Then terms spec tag [] p q a b = (q ≡ p) × (b ≡ a)
IsRounds Then terms spec tag (s ∷ ss) p q a b =
    (m : PassView) × (x : Sides) × OneRound Then terms spec tag p m a x s × IsRounds Then terms spec (tag + 1) ss m q x b

-- so many rounds; whether one ended in a fault, or in want of memory
pub record AllRounds (Then : PassView → Type 0) (terms : ℕ → ℕ → Terms) (spec : Spec) (tag count : ℕ) (p q : PassView) (a b : Sides) (fault memory : Bool) : Type 0 where
  pub endings : List Served
  pub all : length endings ≡ count
  pub rounds : IsRounds Then terms spec tag endings p q a b
  pub faulty : fault ≡ any_fault endings
  pub wanting : memory ≡ any_memory endings

-- a pace went on behind each lower number of requests, and ended behind this one
abbrev pub IsPaced : (ℕ → Type 0) → (ℕ → Type 0) → ℕ → Type 0
IsPaced Begins Ends n = ((j : ℕ) → j < n → Begins j) × Ends n

-- as many rounds of a slot as its pace says, from this tag on, with this pass. What is told of a slot is given by `at`, the
-- clock's readings by `reading`, and by the rest what the pace says
abbrev pub HasMade : {C L K G P : Type 0} → (Slot C L → Sides) → (K → ℕ → Type 0) → Type 0 → (P → ℕ → Type 0) → (P → ℕ → Type 0) → Common K G P → ℕ → Change PassView → Change (Slot C L) → Bool → Bool → Type 0
HasMade at reading leaves begins ends common tag pass slot fault memory =
    (n : ℕ) × IsPaced (begins common.pace.now) (ends common.pace.now) n
    × AllRounds (λ _. ⊤) (watched (reading common.clock.now) leaves) common.spec.now tag n (was pass) (became pass) (at (was slot)) (at (became slot)) fault memory

-- .. of slot i, with the pass in its work, which notes whether one ended in a fault, or in want of memory
abbrev pub HasServed : {C L K G P : Type 0} → (Slot C L → Sides) → (K → ℕ → Type 0) → Type 0 → (P → ℕ → Type 0) → (P → ℕ → Type 0) → Common K G P → ℕ → Slot C L → Slot C L → Type 0
HasServed at reading leaves begins ends common i s t =
    (p : PassView) → s.work.pass ≡ Some p → (q : PassView) × (t.work.pass ≡ Some q) × (q.cell ≡ p.cell)
    × ((n : ℕ) × IsPaced (begins common.pace.now) (ends common.pace.now) n
    × AllRounds (λ _. ⊤) (watched (reading common.clock.now) leaves) common.spec.now (i * common.apart) n p q (at s) (at t) t.work.fault t.work.memory)

-- .. of each slot
abbrev pub HaveServed : {C L K G P : Type 0} → (Slot C L → Sides) → (K → ℕ → Type 0) → Type 0 → (P → ℕ → Type 0) → (P → ℕ → Type 0) → Common K G P → Change (List (Slot C L)) → Type 0
HaveServed at reading leaves begins ends common slots = EachDone (HasServed at reading leaves begins ends common) (was slots) (became slots)
