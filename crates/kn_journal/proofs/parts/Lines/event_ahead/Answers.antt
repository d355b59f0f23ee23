-- A line that spells an event, and CRs behind it, lie whole in what is ahead.
use Rattle.std.proofs.Common.{◌≡◌, ◌+◌, ◌≤◌, ◌∷◌, ◌++◌, ◌∙◌, length, length-append, take, drop, ap, arith}
use Rattle.std.proofs.lemmas.Grind.{common_steps}
use Rattle.std.specs.Prelude.{replicate}
use Rattle.kn_event.specs.EventLine.{event_text}
use Rattle.kn_event.specs.PlainLine.{SpellsToCrs}
use Rattle.kn_journal.specs.Telling.{LinesState}
use Rattle.kn_journal.proofs.Aheads.{lines_split-crs}
use Rattle.kn_journal.proofs.LineTexts.{printable-plain}
use Rattle.kn_journal.proofs.Printed.{in_time-ok}
use Rattle.kn_journal.proofs.Tellings.{length-ahead}
use Rattle.kn_journal.proofs.parts.Lines.event_ahead.Goals as goal

pub returns-clause-line : goal.returns-clause-line
returns-clause-line c later =
    let hay = c.args.self.now.input.ahead in
    let len = c.in_ok-e.len in
    let e = c.in_ok-e.e in
    let ahead : c.ahead.result.now ≡ hay = c.ahead.ensures ∙ ap (λ (r : LinesState). r.input.ahead) c.self.view_is in
    let split : hay ≡ take len hay ++ 10 ∷ drop (len + 1) hay = rw ahead at c.in_ok-e.ensures.line in
    let spells : SpellsToCrs (take len hay) e = rw ahead at c.in_ok-e.ensures.spells in
    lines_split-crs len spells.crs hay later (event_text e) split spells.whole
    (printable-plain (event_text e) (c.spellings_are_read.ensures.printable 1 (event_text e) e (spells.spells 1)))

pub returns-clause-lf : goal.returns-clause-lf
returns-clause-lf c =
    let ahead : c.ahead.result.now ≡ c.args.self.now.input.ahead = c.ahead.ensures ∙ ap (λ (r : LinesState). r.input.ahead) c.self.view_is in
    rw ahead at c.in_ok-e.ensures.line

pub returns-clause-event : goal.returns-clause-event
returns-clause-event c =
    let e = c.in_ok-e.e in
    rw (c.spellings_are_read.ensures.text c.args.version (event_text e) e (c.in_ok-e.ensures.spells.spells c.args.version))
    (in_time-ok (c.args.self.now.number + 1) c.args.last e (grind (arith, common_steps)) (grind (arith, common_steps)))

pub returns-clause-fits : goal.returns-clause-fits
returns-clause-fits c =
    let e = c.in_ok-e.e in
    let most : length (event_text e) ≤ 100 = c.spellings_are_read.ensures.most 1 (event_text e) e (c.in_ok-e.ensures.spells.spells 1) in
    omega (arith, most)

pub returns-clause-bytes : goal.returns-clause-bytes
returns-clause-bytes c =
    let e = c.in_ok-e.e in
    c.spellings_are_read.ensures.least 1 (event_text e) e (c.in_ok-e.ensures.spells.spells 1)

pub returns-clause-long : goal.returns-clause-long
returns-clause-long c =
    let hay = c.ahead.result.now in
    let len = c.in_ok-e.len in
    let e = c.in_ok-e.e in
    let spells = c.in_ok-e.ensures.spells in
    let least : 6 ≤ length (event_text e) = c.spellings_are_read.ensures.least 1 (event_text e) e (spells.spells 1) in
    let count : length (take len hay) ≡ len = length-ahead len hay c.in_ok-e.ensures.inside in
    let whole : length (take len hay) ≡ length (event_text e) + length (replicate spells.crs 13) = ap length spells.whole ∙ length-append (event_text e) (replicate spells.crs 13) in
    omega (arith, least, count, whole)

pub returns-clause-next : goal.returns-clause-next
returns-clause-next c = record {
  order = grind (arith, common_steps);
  times = grind (arith, common_steps);
  range = (c.in_ok-e.ensures.spells.spells c.args.version).range;
  act = (c.in_ok-e.ensures.spells.spells c.args.version).act;
}
