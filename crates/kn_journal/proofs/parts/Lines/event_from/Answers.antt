-- A line that spells an event from a place on lies whole in what is ahead.
use Rattle.std.proofs.Common.{◌≡◌, ◌+◌, ◌-◌, ◌<◌, ◌≤◌, ◌∙◌, ℕ, List, length, take, drop, get_or, slice_range, length-drop, ap, sym, subst, arith}
use Rattle.std.proofs.lemmas.List.{take_all, get_or-take, get_or-drop}
use Rattle.kn_event.specs.declared.event.Event.{Event}
use Rattle.kn_event.specs.EventLine.{Spells, event_text}
use Rattle.kn_event.specs.PlainLine.{SpellsToCrs}
use Rattle.kn_journal.specs.Telling.{LinesState}
use Rattle.kn_journal.proofs.Aheads.{no_crs}
use Rattle.kn_journal.proofs.Tellings.{length-ahead}
use Rattle.kn_journal.proofs.parts.Lines.event_from.Goals as goal

-- with no CR last, the line is the event's text
text_there : (hay : List ℕ) (from len : ℕ) (e : Event) → len < length (slice_range hay from (length hay)) → SpellsToCrs (take len (slice_range hay from (length hay))) e
    → (len ≡ 0 → ⊥) → (get_or hay (from + len - 1) 0 ≡ 13 → ⊥) → (take len (drop from hay) ≡ event_text e) × (length (event_text e) ≡ len)
text_there hay from len e inside spells some other =
    let all : slice_range hay from (length hay) ≡ drop from hay = take_all _ _ (omega (arith, length-drop from hay)) in
    let xs : List ℕ = take len (drop from hay) in
    let low : len < length (drop from hay) = rw all at inside in
    let count : length xs ≡ len = length-ahead len (drop from hay) low in
    let said : SpellsToCrs xs e = rw all at spells in
    let place : length xs - 1 ≡ len - 1 = omega (arith, count) in
    let at : get_or xs (length xs - 1) 0 ≡ get_or hay (from + len - 1) 0 =
    ap (λ (k : ℕ). get_or xs k 0) place ∙ get_or-take len (drop from hay) (len - 1) 0 (omega (arith, some)) ∙ get_or-drop from hay (len - 1) 0
    ∙ ap (λ (k : ℕ). get_or hay k 0) (omega (arith, some)) in
    let same = no_crs xs (event_text e) said.crs said.whole (λ h. other (sym at ∙ h)) in
    (same, sym (ap length same) ∙ count)

pub returns-clause-least : goal.returns-clause-least
returns-clause-least c =
    let e = c.in_ok-e.e in
    let spells = c.in_ok-e.ensures.spells in
    let again = c.ahead-else-len-eq0.ensures ∙ sym c.ahead.ensures in
    let (same, count) = text_there c.ahead.result.now c.args.from c.in_ok-e.len e c.in_ok-e.ensures.inside spells c.if-len-eq0.false (rw again at c.if-ahead-from-eq13.false) in
    let least : 6 ≤ length (event_text e) = c.spellings_are_read.ensures.least 1 (event_text e) e (spells.spells 1) in
    omega (arith, least, count)

pub returns-clause-most : goal.returns-clause-most
returns-clause-most c =
    let e = c.in_ok-e.e in
    let spells = c.in_ok-e.ensures.spells in
    let again = c.ahead-else-len-eq0.ensures ∙ sym c.ahead.ensures in
    let (same, count) = text_there c.ahead.result.now c.args.from c.in_ok-e.len e c.in_ok-e.ensures.inside spells c.if-len-eq0.false (rw again at c.if-ahead-from-eq13.false) in
    let most : length (event_text e) ≤ 100 = c.spellings_are_read.ensures.most 1 (event_text e) e (spells.spells 1) in
    omega (arith, most, count)

pub returns-clause-spells : goal.returns-clause-spells
returns-clause-spells c version =
    let from = c.args.from in
    let len = c.in_ok-e.len in
    let e = c.in_ok-e.e in
    let hay = c.args.self.now.input.ahead in
    let spells = c.in_ok-e.ensures.spells in
    let again = c.ahead-else-len-eq0.ensures ∙ sym c.ahead.ensures in
    let (same, count) = text_there c.ahead.result.now from len e c.in_ok-e.ensures.inside spells c.if-len-eq0.false (rw again at c.if-ahead-from-eq13.false) in
    let ahead : c.ahead.result.now ≡ hay = c.ahead.ensures ∙ ap (λ (r : LinesState). r.input.ahead) c.self.view_is in
    let here : take len (drop from hay) ≡ event_text e = sym (ap (λ (m : List ℕ). take len (drop from m)) ahead) ∙ same in
    let long : from + len - from ≡ len = omega arith in
    rw long (subst (λ (m : List ℕ). Spells version m e) (sym here) (spells.spells version))
