-- Where a session ends well, no slot has a round that ended in a fault or in want of memory.
use Rattle.std.proofs.Common.{◌≡◌, ◌<◌, ℕ, Bool, List, length, map, refl, sym, ◌∙◌, cond, arith, true, false}
use Rattle.std.specs.Prelude.{All, Option, None, Some, nat_lt, slice_index_or}
use Rattle.std.specs.List.{list_any, position, position_or_len}
use Rattle.std.proofs.lemmas.Bool.{ltb-false}
use Rattle.std.proofs.lemmas.List.Sums.{fails_before_first}
use Rattle.std.proofs.lemmas.List.Folds.{list_any_at}
use Rattle.kn_event.specs.Lists.{EachIs}
use Rattle.kn_journal.specs.declared.status.Status.TheVariants as status
use Rattle.kn_request.specs.declared.slot.Slot.{Slot}
use Rattle.kn_serve.specs.Ending.{status_by}
use Rattle.kn_serve.proofs.Slots.{list_any-map, position-map}

none_if : (b : Bool) (n : ℕ) → cond b (Some n) None ≡ None → b ≡ false
none_if true n h = cc
none_if false n h = refl

pub no_place : {A : Type 0} (p : A → Bool) (xs : List A) (i : ℕ) (d : A) → position p xs ≡ None → i < length xs → p (slice_index_or xs i d) ≡ false
no_place p xs i d none low =
    let all = ltb-false (position_or_len p xs) (length xs) (none_if (nat_lt (position_or_len p xs) (length xs)) (position_or_len p xs) none) in
    let below : i < position_or_len p xs = omega (arith, all, low) in
    fails_before_first p xs i d below

pub no_one_if : {A : Type 0} (p : A → Bool) (xs : List A) (i : ℕ) (d : A) (b : Bool) → list_any p xs ≡ false → i < length xs → p (slice_index_or xs i d) ≡ b → p (slice_index_or xs i d) ≡ false
no_one_if p xs i d true none low is = (let one = list_any_at p xs i d low is in cc)
no_one_if p xs i d false none low is = is

pub ok_by : (o : Option ℕ) (want : Bool) → status_by o want ≡ status.Ok → (o ≡ None) × (want ≡ false)
ok_by (Some slot) want h = (cc, cc)
ok_by None true h = (refl, cc)
ok_by None false h = (refl, refl)

pub all_fine : {C L : Type 0} (ts : List (Slot C L)) → status_by (position (λ b. b) (map (λ (t : Slot C L). t.work.fault) ts)) (list_any (λ b. b) (map (λ (t : Slot C L). t.work.memory) ts)) ≡ status.Ok
    → EachIs (λ (t : Slot C L). (t.work.fault ≡ false) × (t.work.memory ≡ false)) ts
all_fine {C} {L} ts ok i d low =
    let fault : Slot C L → Bool = λ t. t.work.fault in
    let memory : Slot C L → Bool = λ t. t.work.memory in
    let parts = ok_by (position (λ b. b) (map fault ts)) (list_any (λ b. b) (map memory ts)) ok in
    (no_place fault ts i d (sym (position-map (λ b. b) fault ts) ∙ parts.0) low, no_one_if memory ts i d (memory (slice_index_or ts i d)) (sym (list_any-map (λ b. b) memory ts) ∙ parts.1) low refl)

-- the same of the marks alone
pub all_false : (faults wants : List Bool) → status_by (position (λ b. b) faults) (list_any (λ b. b) wants) ≡ status.Ok
    → All (λ b. b ≡ false) faults × All (λ b. b ≡ false) wants
all_false faults wants ok =
    let parts = ok_by (position (λ b. b) faults) (list_any (λ b. b) wants) ok in
    ((λ i d low. no_place (λ b. b) faults i d parts.0 low), (λ i d low. no_one_if (λ b. b) wants i d (slice_index_or wants i d) parts.1 low refl))
