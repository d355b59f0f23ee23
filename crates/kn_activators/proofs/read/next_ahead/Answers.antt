-- What stands ahead is the line of an event of one activator.
use Rattle.std.proofs.Common.{◌≡◌, ◌+◌, ◌<◌, ◌≤◌, ◌∷◌, ◌++◌, ◌∙◌, ℕ, List, true, length, take, drop, sym, ap, arith}
use Rattle.std.specs.Prelude.{Ok, slice_index, slice_range}
use Rattle.std.proofs.lemmas.Grind.{common_steps}
use Rattle.kn_event.specs.EventLine.{Spells, event_of}
use Rattle.kn_journal.specs.Journal.{time_most}
use Rattle.kn_journal.specs.Lines.{lines}
use Rattle.kn_journal.specs.Reading.{unread}
use Rattle.kn_journal.specs.Telling.{LinesState}
use Rattle.kn_activators.specs.declared.event.GroupEvent.TheVariants as group
use Rattle.kn_activators.specs.Reading.{group_event_of, is_own}
use Rattle.kn_activators.proofs.OneLines.{length-ahead, long-no_end, one-printable, one-read, one_ahead, short-fits, split_ahead, takes-ahead, text-ahead}
use Rattle.kn_activators.proofs.Parts.{event-good, event-next}
use Rattle.kn_activators.proofs.read.next_ahead.Goals as goal

pub take_line-requires-clause-printable : goal.take_line-requires-clause-printable
take_line-requires-clause-printable c =
    let hay = c.args.lines.now.input.ahead in
    let i = c.from-i.result in
    let len = c.in_ok-e.len in
    let same : c.event_from.new.self.input.ahead ≡ hay = ap (λ (r : LinesState). r.input.ahead) c.in_ok-e.ensures.same in
    let first : slice_index hay 0 ≡ 48 + i = grind (arith, common_steps) in
    let second : slice_index hay 1 ≡ 32 = grind (arith, common_steps) in
    let rest = slice_range hay 2 len in
    let spells : Spells 1 rest c.in_ok-e.e = c.in_ok-e.ensures.spells 1 in
    rw same (rw (one_ahead hay len i (omega (arith, c.in_ok-e.ensures.least)) c.in_ok-e.ensures.inside first second)
    (one-printable i rest (c.spellings_are_read.ensures.printable 1 rest c.in_ok-e.e spells)))

pub returns-clause-text : goal.returns-clause-text
returns-clause-text c left =
    let hay = c.args.lines.now.input.ahead in
    let len = c.in_ok-e.len in
    let same : c.event_from.new.self.input.ahead ≡ hay = ap (λ (r : LinesState). r.input.ahead) c.in_ok-e.ensures.same in
    let split = split_ahead hay len (omega (arith, c.in_ok-e.ensures.least)) c.in_ok-e.ensures.inside c.in_ok-e.ensures.lf in
    rw (c.take_line.ensures.cut, c.take_line.ensures.ahead, same) (text-ahead hay (drop (len + 1) hay) (take len hay) left split)

pub returns-clause-tells : goal.returns-clause-tells
returns-clause-tells c left =
    let s = c.args.setup.now in
    let hay = c.args.lines.now.input.ahead in
    let i = c.from-i.result in
    let e = c.in_ok-e.e in
    let len = c.in_ok-e.len in
    let same : c.event_from.new.self ≡ c.args.lines.now = c.in_ok-e.ensures.same in
    let first : slice_index hay 0 ≡ 48 + i = grind (arith, common_steps) in
    let second : slice_index hay 1 ≡ 32 = grind (arith, common_steps) in
    let line = take len hay in
    let rest = slice_range hay 2 len in
    let is : line ≡ (48 + i) ∷ 32 ∷ rest = one_ahead hay len i (omega (arith, c.in_ok-e.ensures.least)) c.in_ok-e.ensures.inside first second in
    let read : event_of 1 rest ≡ Ok e = c.spellings_are_read.ensures.text 1 rest e (c.in_ok-e.ensures.spells 1) in
    let few : i < 10 = grind (arith, common_steps) in
    let below : i < s.activators = grind (arith, common_steps) in
    let own : is_own e.act ≡ true = grind (arith, common_steps) in
    let says : Ok (group.One i e) ≡ group_event_of s.activators s.pods line = rw is (sym (one-read s.activators s.pods i rest e c.spellings_are_read.ensures.decimal few below read own)) in
    let soon : e.time ≤ time_most = grind (arith, common_steps) in
    let order : c.args.last ≤ e.time = grind (arith, common_steps) in
    let count : length line ≡ len = length-ahead len hay c.in_ok-e.ensures.inside in
    let next = c.take_line.new.self in
    let split : (later : List ℕ) → lines (hay ++ later) ≡ line ∷ lines (next.input.ahead ++ later) = λ later. rw same at (c.take_line.ensures.lines later) in
    let number : next.number ≡ c.args.lines.now.number + 1 = c.take_line.ensures.number ∙ ap (λ (r : LinesState). r.number + 1) same in
    event-next s c.args.last c.args.lines.now.number next.number (unread c.args.lines.now.input left) (unread next.input left) line (group.One i e)
    (takes-ahead hay next.input.ahead line left split) (short-fits line (omega (arith, count, c.in_ok-e.ensures.most))) number (long-no_end line (omega (arith, count, c.in_ok-e.ensures.least)))
    (event-good c.args.last next.number (group.One i e) (group_event_of s.activators s.pods line) says soon order)
