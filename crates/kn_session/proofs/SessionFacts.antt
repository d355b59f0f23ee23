-- From a slot's rounds to the history.
use Rattle.std.proofs.Common.{◌≡◌, ◌⊎◌, ◌<◌, inl, inr, ℕ, ◌+◌, List, [], ◌∷◌, length, Bool, false, true, sym, ap, ◌∙◌, subst, arith}
use Rattle.std.specs.Prelude.{⊤}
use mathlib.Core.Option.{some}
use lib.ListN.{get_elem?}
use Rattle.kn_event.specs.declared.revision.Spec.{Spec}
use Rattle.kn_cell.specs.declared.past.Past.{Past}
use Rattle.kn_cell.specs.Lists.{Each, StartsWith}
use Rattle.kn_cell.specs.History.{rows_by}
use Rattle.kn_cell.specs.Shown.{PassView}
use Rattle.kn_request.specs.declared.slot.Served.{Served}
use Rattle.kn_request.specs.Terms.{Terms}
use Rattle.kn_session.specs.Laws.{SessionLaws}
use Rattle.kn_session.specs.Lists.{HasOne}
use Rattle.kn_session.specs.Own.{IsArrivalOf, IsAloneIn, Lasts, NamesOwn}
use Rattle.kn_session.specs.Lasting.{SlotLasted, WasShortIn}
use Rattle.kn_session.specs.Passes.{IsNewOf, Kind}
use Rattle.kn_session.specs.Rounds.{AllRounds, HasFaulted, HasTexts, IsFullOf, IsRounds, OneRound, Sides}
use Rattle.kn_session.specs.Session.{IsPart, IsSlots}
use Rattle.kn_session.proofs.ListFacts.{in_rows, none, starts_trans}
use Rattle.kn_session.proofs.OwnFacts.{GrowsOwn, has_grown, rounds_own}
use Rattle.kn_session.proofs.AloneFacts.{alone_part, outcome_part}
use Rattle.kn_session.proofs.EndingFacts.{of_new, rounds_cause, rounds_full, rounds_texts}
use Rattle.kn_session.proofs.Nexts.{IsNext, rounds_next}

-- what a pass knew holds of the whole history
pub lasts_of : SessionLaws → (h : List Past) (m q : PassView) → IsNext m q → GrowsOwn m q → StartsWith h q.seen → ((r : ℕ) → HasOne (IsArrivalOf r) q.mine → IsAloneIn h q.number r) → Lasts h m
lasts_of laws h m q next own front alone =
    let start : StartsWith h m.seen = starts_trans m.seen q.seen h next.longer front in
    record {
      front = start;
      alone = λ i has. alone_part h m i start (subst (λ n. IsAloneIn h n i) next.number (alone i (has_grown (IsArrivalOf i) m q own has)));
      outcome = λ i o ends c st. outcome_part laws h m i o start ends c st;
    }

-- .. after each round
pub rounds_last : SessionLaws → (h : List Past) (terms : ℕ → ℕ → Terms) (spec : Spec) (tag : ℕ) (ss : List Served) (p q : PassView) (a b : Sides)
    → StartsWith h q.seen → ((r : ℕ) → HasOne (IsArrivalOf r) q.mine → IsAloneIn h q.number r) → IsRounds (λ _. ⊤) terms spec tag ss p q a b → IsRounds (Lasts h) terms spec tag ss p q a b
rounds_last laws h terms spec tag [] p q a b front alone r = r
rounds_last laws h terms spec tag (s ∷ ss) p q a b front alone r =
    let m = r.0 in
    let next = rounds_next (λ _. ⊤) terms spec (tag + 1) ss m q r.1 b r.3 in
    let own = rounds_own (λ _. ⊤) terms spec (tag + 1) ss m q r.1 b r.3 in
    let lasts = lasts_of laws h m q next own front alone in
    let here : OneRound (Lasts h) terms spec tag p m a r.1 s = record { later = r.2.later; then = lasts; served = r.2.served; causes = r.2.causes } in
    (m, r.1, here, rounds_last laws h terms spec (tag + 1) ss m q r.1 b front alone r.3)

slot_of : (k : Kind) (terms : ℕ → ℕ → Terms) (Paced : ℕ → Type 0) (spec : Spec) (tag n : ℕ) (h : List Past) (i : ℕ) (p q : PassView) (s0 s1 s2 s3 : Sides) (f2 f3 m2 m3 : Bool)
    → IsNewOf k (2 + i) p → Paced n → (all : AllRounds (Lasts h) terms spec tag n p q s1 s2 f2 m2) → s1 ≡ s0 → s3 ≡ s2 → f3 ≡ f2 → m3 ≡ m2 → IsPart h (2 + i) q
    → (f2 ≡ false → HasTexts n s1.said s2.said) → (HasOne IsFullOf all.endings → WasShortIn k h) → (f2 ≡ true → HasFaulted s1 s2) → SlotLasted k terms Paced spec tag h i s0 s3 f3 m3
slot_of k terms Paced spec tag n h i p q s0 s1 s2 s3 f2 f3 m2 m3 new paced all e0 e3 ff fm part texts full cause =
    let it : SlotLasted k terms Paced spec tag h i s1 s2 f2 m2 = record { first = p; last = q; fresh = new; count = n; paced = paced; all = all; part = part; texts = texts; full = full; cause = cause } in
    rw (← e0, e3, ff, fm) it

pub slot_lasted : SessionLaws → (k : Kind) (terms : ℕ → ℕ → Terms) (Paced : ℕ → Type 0) (spec : Spec) (tag n : ℕ) (h : List Past) (i : ℕ) (p q : PassView) (s0 s1 s2 s3 : Sides) (f2 f3 m2 m3 : Bool)
    → ((n r : ℕ) → HasOne (IsArrivalOf r) (rows_by n h) → IsAloneIn h n r)
    → IsNewOf k (2 + i) p → Paced n → AllRounds (λ _. ⊤) terms spec tag n p q s1 s2 f2 m2 → s1 ≡ s0 → s3 ≡ s2 → f3 ≡ f2 → m3 ≡ m2 → IsPart h (2 + i) q
    → SlotLasted k terms Paced spec tag h i s0 s3 f3 m3
slot_lasted laws k terms Paced spec tag n h i p q s0 s1 s2 s3 f2 f3 m2 m3 alone new paced all e0 e3 ff fm part =
    let mine : (r : ℕ) → HasOne (IsArrivalOf r) q.mine → IsAloneIn h q.number r = λ r has. subst (λ n. IsAloneIn h n r) (sym part.named) (alone (2 + i) r (subst (HasOne (IsArrivalOf r)) part.whole has)) in
    let whole : AllRounds (Lasts h) terms spec tag n p q s1 s2 f2 m2 = record {
      endings = all.endings;
      all = all.all;
      rounds = rounds_last laws h terms spec tag all.endings p q s1 s2 part.front mine all.rounds;
      faulty = all.faulty;
      wanting = all.wanting;
    } in
    slot_of k terms Paced spec tag n h i p q s0 s1 s2 s3 f2 f3 m2 m3 new paced whole e0 e3 ff fm part
    (λ e. subst (λ n. HasTexts n s1.said s2.said) all.all (rounds_texts (λ _. ⊤) terms spec tag all.endings p q s1 s2 (sym all.faulty ∙ e) all.rounds))
    (rounds_full laws h k terms spec tag all.endings p q s1 s2 (of_new k (2 + i) p new) whole.rounds)
    (λ e. rounds_cause (λ _. ⊤) terms spec tag all.endings p q s1 s2 (sym all.faulty ∙ e) all.rounds)

-- a pass that did nothing has no row
pub has_none : (h : List Past) (slots n k : ℕ) (x : Past) → get_elem? h k ≡ some x → rows_by n h ≡ [] → x.pass ≡ n → (x.pass ≡ 1) ⊎ IsSlots slots x
has_none h slots n k x at e is = absurd (in_rows (λ y. ⊥) n h k x at is (subst (Each (λ (y : Past). ⊥)) (sym e) (none (λ (y : Past). ⊥))))

pub new_as : (k k' : Kind) (n n' : ℕ) (p : PassView) → k ≡ k' → n ≡ n' → IsNewOf k n p → IsNewOf k' n' p
new_as k k' n n' p e f x = subst (λ v. IsNewOf v n' p) e (subst (λ m. IsNewOf k m p) f x)

-- a list that has a place has a member
pub some_of : {A : Type 0} (xs : List A) (i : ℕ) → i < length xs → A
some_of {A} [] i low = absurd (omega (arith, low))
some_of {A} (x ∷ xs) i low = x

-- the rows of each pass end its own requests alone
pub own_rows : (h : List Past) (slots : ℕ) (ticks : PassView) → Each (λ x. (x.pass ≡ 1) ⊎ IsSlots slots x) h → IsPart h 1 ticks → NamesOwn ticks.mine
    → ((i : ℕ) → i < slots → (q : PassView) × NamesOwn q.mine × IsPart h (2 + i) q) → Each (λ x. NamesOwn (rows_by x.pass h)) h
own_rows h slots ticks rows part own each k x at = elim (rows k x at) [
  | inl e ↦ subst NamesOwn (part.whole ∙ ap (λ n. rows_by n h) (sym e)) own
  | inr s ↦ (let q = each s.0 s.1 in subst NamesOwn (q.2.whole ∙ ap (λ n. rows_by n h) (sym s.2)) q.1)
]
