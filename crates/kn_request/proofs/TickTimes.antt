-- The ticks of turn after turn are apart.
use Rattle.std.proofs.Common.{◌≡◌, ◌⊎◌, inl, inr, ℕ, ◌+◌, ◌≤◌, List, [], ◌∷◌, ◌++◌, Bool, true, false, refl, sym, ap, ◌∙◌, subst, arith, append_assoc}
use Rattle.std.proofs.lemmas.Bool.{cases_lt}
use Rattle.std.proofs.lemmas.List.{append-nil}
use Rattle.std.proofs.lemmas.List.Elements.{filter-append}
use Rattle.std.specs.Prelude.{Option, None, Some, cond}
use Rattle.kn_event.specs.declared.event.Act.TheVariants as act
use Rattle.kn_cell.specs.declared.past.Past.{Past}
use Rattle.kn_cell.specs.Lists.{Each}
use Rattle.kn_cell.specs.Shown.{PassView, Looks}
use Rattle.kn_io.specs.Links.{Link}
use Rattle.kn_request.specs.declared.ticks.Turn.{Turn}
use Rattle.kn_request.specs.Ticking.{AreTwoSecondsApart, AreReady, AreRecordedAt, IsAt, IsTickerRow, ReadyOf, TakesTurn, TicksApart, TurnsFrom, TurnsTo, Visit, is_tick, ticks_of}
use Rattle.kn_request.proofs.Lists.{each_tail, none, one}
use Rattle.kn_request.proofs.Later.{looks_trans}
use Rattle.kn_request.proofs.TickFacts.{at_later, each_both}

-- ---- the rows of Ready

IsReadyRow : Past → Type 0
IsReadyRow x = (p : ℕ) × (x.event.act ≡ act.Ready p)

of_ready : (o : Option Bool) (pod : ℕ) (full : Bool) (Q : List Past → Type 0) (rows : List Past) → ((xs : List Past) → Q xs → Each IsReadyRow xs) → ReadyOf o pod full Q rows → Each IsReadyRow rows
unfolding IsReadyRow
of_ready (Some true) pod full Q rows each r = elim r [
  | inl y ↦ subst (Each IsReadyRow) (sym y.2) (each_both IsReadyRow (y.0 ∷ []) y.1 (one IsReadyRow y.0 (pod, y.3)) (each y.1 y.4))
  | inr y ↦ each rows y.1
]
of_ready (Some false) pod full Q rows each r = each rows r
of_ready None pod full Q rows each r = each rows r

all_ready : (full : Bool) (vs : List Visit) (rows : List Past) → AreReady full vs rows → Each IsReadyRow rows
all_ready full [] rows e = subst (Each IsReadyRow) (sym e) (none IsReadyRow)
all_ready full (v ∷ vs) rows r = of_ready v.answer v.pod full (AreReady full vs) rows (λ xs q. all_ready full vs xs q) r

no_ticks : (xs : List Past) → Each IsReadyRow xs → ticks_of xs ≡ []
unfolding IsReadyRow
no_ticks [] all = refl
no_ticks (x ∷ xs) all =
    ap (λ b. cond b (x ∷ ticks_of xs) (ticks_of xs)) (ap is_tick (all 0 x refl).1) ∙ no_ticks xs (each_tail IsReadyRow x xs all)

ready_rows : (xs : List Past) → Each IsReadyRow xs → Each IsTickerRow xs
unfolding IsReadyRow
ready_rows xs all k x at = inr (all k x at)

-- ---- one turn before others

apart_before : (a b : ℕ) (ts : List ℕ) → a ≤ b → AreTwoSecondsApart b ts → AreTwoSecondsApart a ts
apart_before a b [] low apart = tt
apart_before a b (t ∷ ts) low apart = let first = apart.0 in (omega arith, apart.1)

-- where no Tick was recorded
quiet_turn : (reading : ℕ → Type 0) (last next : ℕ) (p m q : PassView) (rows : List Past) → m.mine ≡ p.mine ++ rows → Each IsReadyRow rows → last ≤ next → TicksApart reading next m q → TicksApart reading last p q
quiet_turn reading last next p m q rows mine ready low t =
    let all = rows ++ t.rows in
    let same : ticks_of all ≡ ticks_of t.rows = filter-append (λ (x : Past). is_tick x.event.act) rows t.rows ∙ ap (λ l. l ++ ticks_of t.rows) (no_ticks rows ready) in
    record {
      rows = all;
      mine = t.mine ∙ (ap (λ l. l ++ t.rows) mine ∙ append_assoc p.mine rows t.rows);
      only = each_both IsTickerRow rows t.rows (ready_rows rows ready) t.only;
      times = t.times;
      apart = apart_before last next t.times low t.apart;
      at = subst (AreRecordedAt reading q t.times) (sym same) t.at;
    }

-- where a Tick was
ticked_turn : (reading : ℕ → Type 0) (now last : ℕ) (p m q : PassView) (x : Past) (rows : List Past) → m.mine ≡ p.mine ++ (x ∷ rows) → Each IsReadyRow rows → x.event.act ≡ act.Tick → reading now → IsAt now q x
    → last + 2000 ≤ now → TicksApart reading now m q → TicksApart reading last p q
ticked_turn reading now last p m q x rows mine ready tick read at due t =
    let all = x ∷ (rows ++ t.rows) in
    let rest : ticks_of (rows ++ t.rows) ≡ ticks_of t.rows = filter-append (λ (y : Past). is_tick y.event.act) rows t.rows ∙ ap (λ l. l ++ ticks_of t.rows) (no_ticks rows ready) in
    let same : ticks_of all ≡ x ∷ ticks_of t.rows =
    ap (λ b. cond b (x ∷ ticks_of (rows ++ t.rows)) (ticks_of (rows ++ t.rows))) (ap is_tick tick) ∙ ap (λ l. x ∷ l) rest in
    record {
      rows = all;
      mine = t.mine ∙ (ap (λ l. l ++ t.rows) mine ∙ append_assoc p.mine (x ∷ rows) t.rows);
      only = each_both IsTickerRow (x ∷ []) (rows ++ t.rows) (one IsTickerRow x (inl tick)) (each_both IsTickerRow rows t.rows (ready_rows rows ready) t.only);
      times = now ∷ t.times;
      apart = (due, t.apart);
      at = subst (AreRecordedAt reading q (now ∷ t.times)) (sym same) (read, at, t.at);
    }

-- ---- turn after turn

turns_later : (reading : ℕ → Type 0) (last : ℕ) (nows : List ℕ) (p q : PassView) (w w' : Option Link) (end : ℕ) → TurnsFrom reading last nows p q w w' end → (q ≡ p) ⊎ Looks p q
turns_later reading last [] p q w w' end t = inl t.0
turns_later reading last (now ∷ nows) p q w w' end t = elim (turns_later reading t.0.last nows t.1 q t.2 w' end t.5) [
  | inl e ↦ inr (subst (λ (v : PassView). Looks p v) (sym e) t.4.later)
  | inr l ↦ inr (looks_trans p t.1 q t.4.later l)
]

later_at : (now : ℕ) (m q : PassView) (xs : List Past) → (q ≡ m) ⊎ Looks m q → Each (IsAt now m) xs → Each (IsAt now q) xs
later_at now m q xs so all = elim so [ inl e ↦ subst (λ (v : PassView). Each (IsAt now v) xs) (sym e) all | inr l ↦ at_later now m q xs l all ]

turn_before : (reading : ℕ → Type 0) (now last : ℕ) (p m q : PassView) (w w' : Option Link) (turn : Turn) → TakesTurn now last p m w w' turn → reading now → (q ≡ m) ⊎ Looks m q → TicksApart reading turn.last m q
    → TicksApart reading last p q
turn_before reading now last p m q w w' turn t read so after =
    let ready = all_ready turn.full t.visits t.rows t.ready in
    elim (cases_lt now (last + 2000)) [
      | inl early ↦
          let e = t.early early in
          let mine : m.mine ≡ p.mine ++ t.rows = t.mine ∙ ap (λ l. p.mine ++ (l ++ t.rows)) e.1 in
          let low : last ≤ turn.last = let is = e.0 in omega arith in
          quiet_turn reading last turn.last p m q t.rows mine ready low after
      | inr due ↦
          let d = t.due due in
          elim d.1 [
            | inl x ↦
                let mine : m.mine ≡ p.mine ++ (x.0 ∷ t.rows) = t.mine ∙ ap (λ l. p.mine ++ (l ++ t.rows)) x.1 in
                let at : Each (IsAt now q) (x.0 ∷ t.rows) = subst (λ l. Each (IsAt now q) (l ++ t.rows)) x.1 (later_at now m q (t.tick ++ t.rows) so t.at) in
                ticked_turn reading now last p m q x.0 t.rows mine ready x.2 read (at 0 x.0 refl) due (subst (λ k. TicksApart reading k m q) d.0 after)
            | inr x ↦
                let mine : m.mine ≡ p.mine ++ t.rows = t.mine ∙ ap (λ l. p.mine ++ (l ++ t.rows)) x.1 in
                let low : last ≤ turn.last = let is = d.0 in omega arith in
                quiet_turn reading last turn.last p m q t.rows mine ready low after
          ]
    ]

turns_apart : (reading : ℕ → Type 0) (last : ℕ) (nows : List ℕ) (p q : PassView) (w w' : Option Link) (end : ℕ) → TurnsFrom reading last nows p q w w' end → TicksApart reading last p q
turns_apart reading last [] p q w w' end t = record {
  rows = [];
  mine = ap (λ (v : PassView). v.mine) t.0 ∙ sym (append-nil p.mine);
  only = none IsTickerRow;
  times = [];
  apart = tt;
  at = tt;
}
turns_apart reading last (now ∷ nows) p q w w' end t =
    turn_before reading now last p t.1 q w t.2 t.0 t.4 t.3 (turns_later reading t.0.last nows t.1 q t.2 w' end t.5) (turns_apart reading t.0.last nows t.1 q t.2 w' end t.5)

pub apart_of : (reading : ℕ → Type 0) (start end : ℕ) (p q : PassView) (w w' : Option Link) → TurnsTo reading start p q w w' end → TicksApart reading start p q
apart_of reading start end p q w w' t = turns_apart reading start (t.first ∷ t.nows) p q w w' end t.turns
