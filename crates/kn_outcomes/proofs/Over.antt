-- No request is live after the whole history.
use Rattle.std.proofs.Common.{◌≡◌, ◌<◌, inl, inr, ℕ, suc, ◌+◌, ◌*◌, arith, List, [], ◌∷◌, Bool, true, false, refl, sym, ap, ◌∙◌, subst, eq-eqb, length}
use Rattle.std.specs.Prelude.{cond, ◌==◌, slice_index_or}
use Rattle.kn_event.specs.declared.event.Act.TheVariants as act
use Rattle.kn_event.specs.declared.event.Event.{Event}
use Rattle.kn_event.specs.declared.revision.Spec.{Spec}
use Rattle.kn_event.specs.Lists.{contains}
use Rattle.kn_trace.specs.Trace.{Trace, live}
use Rattle.kn_record.specs.Facts.{Facts}
use Rattle.kn_record.specs.Made.{IsMade}
use Rattle.kn_laws.specs.ByAct.{AreByAct}
use Rattle.kn_sizes.specs.Told.{IsTold}
use Rattle.kn_core.specs.State.{RevisionState, StandsFor}
use Rattle.kn_cell.specs.declared.past.Past.{Past}
use Rattle.kn_cell.specs.Lists.{Each}
use Rattle.kn_cell.specs.History.{IsLegal, rows_by, trace_after}
use Rattle.kn_cell.specs.Shown.{PassView}
use Rattle.kn_request.specs.declared.slot.Served.{Served}
use Rattle.kn_request.specs.declared.slot.Slot.{Slot}
use Rattle.kn_request.specs.Sight.{sight}
use Rattle.kn_request.specs.Terms.{Terms, watched}
use Rattle.kn_session.specs.Lasting.{SlotLasted}
use Rattle.kn_session.specs.Lists.{EachDone, HasOne}
use Rattle.kn_session.specs.Own.{IsArrivalOf, Lasts}
use Rattle.kn_session.specs.Passes.{IsNewOf, Kind, plain_kind}
use Rattle.kn_session.specs.Rounds.{IsRounds, Sides}
use Rattle.kn_session.specs.Session.{IsOneHistory, IsPart, IsRowOf, MayBegin, SlotServed}
use Rattle.kn_outcomes.specs.Outcomes.{EachHasItsOutcome, EachHasItsOutcomeInRounds, IsOver}
use Rattle.kn_outcomes.proofs.Lists.{empty, none_in, trace_after-append}
use Rattle.kn_outcomes.proofs.Living.{arrives, ends_within}
use Rattle.kn_outcomes.proofs.Rounds.{EndsIn, rounds_end}

-- what one of a pass's rows has, it has behind a further row
has_behind : (P : Past → Type 0) (n : ℕ) (x : Past) (xs : List Past) → HasOne P (rows_by n xs) → HasOne P (rows_by n (x ∷ xs))
has_behind P n x xs h = by (x.pass == n)
  where
    by : (b : Bool) → HasOne P (cond b (x ∷ rows_by n xs) (rows_by n xs))
    by true = inr h
    by false = h

has_first : (P : Past → Type 0) (n : ℕ) (x : Past) (xs : List Past) → x.pass ≡ n → P x → HasOne P (rows_by n (x ∷ xs))
has_first P n x xs e p = subst (λ b. HasOne P (cond b (x ∷ rows_by n xs) (rows_by n xs))) (sym (eq-eqb x.pass n e)) (inl p)

-- an arrival is a slot's row
slot_of : (n r : ℕ) (h : List Past) → Each (IsRowOf n) h → HasOne (IsArrivalOf r) h → (i : ℕ) × (i < n) × HasOne (IsArrivalOf r) (rows_by (2 + i) h)
slot_of n r [] all has = absurd has
slot_of n r (x ∷ xs) all has = elim has [
  | inl a ↦ elim (all 0 x refl) [
    | inl t ↦ (let e = a.1 in elim t.1 [ inl k ↦ absurd (cc) | inr k ↦ (let f = k.1 in absurd (cc)) ])
    | inr s ↦ (s.0.0, s.0.1, has_first (IsArrivalOf r) (2 + s.0.0) x xs s.0.2 a)
  ]
  | inr b ↦ (let i = slot_of n r xs (λ k y at. all (suc k) y at) b in (i.0, i.1, has_behind (IsArrivalOf r) (2 + i.0) x xs i.2))
]

-- each request that arrived by a pass of the slot ended within its rounds
abbrev pub SlotEnds : RevisionState → List Past → ℕ → Type 0
SlotEnds b h i = (r : ℕ) → HasOne (IsArrivalOf r) (rows_by (2 + i) h) → EndsIn h b r

pub slot_ends : (k : Kind) (terms : ℕ → ℕ → Terms) (spec : Spec) (tag : ℕ) (h : List Past) (i : ℕ) (ss : List Served) (p q : PassView) (from to : Sides)
    → IsNewOf k (2 + i) p → IsRounds (Lasts h) terms spec tag ss p q from to → IsPart h (2 + i) q → SlotEnds k.opening h i
slot_ends k terms spec tag h i ss p q from to fresh rounds part r has =
    elim (rounds_end h k.opening r terms spec tag ss p q from to (ap (λ (v : Kind). v.opening) fresh.kind) rounds (subst (HasOne (IsArrivalOf r)) (sym part.whole) has)) [
      | inl a ↦ absurd (subst (HasOne (IsArrivalOf r)) fresh.mine a)
      | inr e ↦ e
    ]

-- a list that has a place has a member
some_of : {A : Type 0} (xs : List A) (i : ℕ) → i < length xs → A
some_of {A} [] i low = absurd (omega (arith, low))
some_of {A} (x ∷ xs) i low = x

lasted_ends : {C L : Type 0} (at : Slot C L → Sides) (terms : ℕ → ℕ → Terms) (Paced : ℕ → Type 0) (k : Kind) (spec : Spec) (apart : ℕ) (h : List Past) (ss ts : List (Slot C L))
    → EachDone (λ i s t. SlotLasted k terms Paced spec (i * apart) h i (at s) (at t) t.work.fault t.work.memory) ss ts → (i : ℕ) → i < length ss → SlotEnds k.opening h i
lasted_ends {C} {L} at terms Paced k spec apart h ss ts done i low =
    let d = some_of ss i low in
    let x = done.1 i d low in
    slot_ends k terms spec (i * apart) h i x.all.endings x.first x.last (at (slice_index_or ss i d)) (at (slice_index_or ts i d)) x.fresh x.all.rounds x.part

served_ends : {C L : Type 0} (at : Slot C L → Sides) (reading : ℕ → Type 0) (b : RevisionState) (spec : Spec) (room rounds : ℕ) (h : List Past) (ss ts : List (Slot C L))
    → EachDone (λ i s t. SlotServed reading spec b room rounds h i (at s) (at t) t.work.fault t.work.memory) ss ts → (i : ℕ) → i < length ss → SlotEnds b h i
served_ends {C} {L} at reading b spec room rounds h ss ts done i low =
    let d = some_of ss i low in
    let x = done.1 i d low in
    slot_ends (plain_kind b room) (watched reading ⊥) spec (i * rounds) h i x.all.endings x.first x.last (at (slice_index_or ss i d)) (at (slice_index_or ts i d)) x.fresh x.all.rounds x.part

module _ (facts : Facts) (told : (s : Spec) (c : Trace) (e : Event) (tag : ℕ) → IsMade s c → e.act ≡ act.Arrive tag → IsTold s c e) (by_act : (s : Spec) (c : Trace) (e : Event) → AreByAct s c e) where
  not_live : (b : RevisionState) (h : List Past) (r : ℕ) (c : Trace) → StandsFor b c → EndsIn h b r → contains r (live (trace_after b.spec c h)) ≡ false
  not_live b h r c st e =
      let s = e.pass.opening.spec in
      let same : s ≡ b.spec = ap (λ (v : RevisionState). v.spec) e.opened in
      let made : IsMade s c = subst (λ v. IsMade v c) (sym same) st.parts.made in
      let ended = e.ended c (subst (λ v. StandsFor v c) (sym e.opened) st) in
      let whole : trace_after s c h ≡ trace_after s (sight e.pass c) e.front.0 = ap (trace_after s c) e.front.1 ∙ trace_after-append s c e.pass.seen e.front.0 in
      let out = ap (λ d. contains r (live d)) whole ∙ ends_within facts told by_act s r c e.pass.seen e.front.0 made ended in
      subst (λ v. contains r (live (trace_after v c h)) ≡ false) same out

  is_over : (b : RevisionState) (n : ℕ) (h : List Past) → MayBegin b → IsOneHistory n b h → ((i : ℕ) → i < n → SlotEnds b h i) → IsOver b h
  unfolding IsLegal
  is_over b n h begins one each c st = empty (live (trace_after b.spec c h)) (λ r is.
      let has = arrives facts told by_act b.spec r b.clock c h st.parts.made (one.legal c st) (none_in (live c) (begins.live c st) r) is in
      let i = slot_of n r h one.rows has in
      let out = not_live b h r c st (each i.0 i.1 r i.2) in
      cc)

  pub lasting_over : {C L : Type 0} (terms : ℕ → ℕ → Terms) (Paced : ℕ → Type 0) → EachHasItsOutcome C L terms Paced
  lasting_over {C} {L} terms Paced at k spec apart h ss ts begins one done = is_over k.opening (length ss) h begins one (lasted_ends at terms Paced k spec apart h ss ts done)

  pub rounds_over : {C L : Type 0} (reading : ℕ → Type 0) → EachHasItsOutcomeInRounds C L reading
  rounds_over {C} {L} reading at b spec room rounds h ss ts begins one done = is_over b (length ss) h begins one (served_ends at reading b spec room rounds h ss ts done)
