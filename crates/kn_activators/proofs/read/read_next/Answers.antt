-- An event, `end` and what follows it, or no line.
use Rattle.std.proofs.Common.{◌≡◌, ◌∙◌, Bool, true, false, inl, sym, subst, arith}
use Rattle.std.specs.Prelude.{codes}
use Rattle.std.specs.Str.{bytes_eq}
use Rattle.std.proofs.lemmas.Grind.{common_steps}
use Rattle.kn_journal.specs.Reading.{TakesText, unread}
use Rattle.kn_activators.specs.Reading.{group_event_of}
use Rattle.kn_activators.specs.Verdict.{in_time}
use Rattle.kn_activators.proofs.Breaks.{end_cut, end_stops}
use Rattle.kn_activators.proofs.Drawings.{draws_as, draws_more, draws_then, draws_well, refused-no_fault}
use Rattle.kn_activators.proofs.Parts.{event-lacks, event-next, event-refused, events-ended, events-more}
use Rattle.kn_activators.proofs.read.read_next.Goals as goal

pub returns-in-Err-clause-tells : goal.returns-in-Err-clause-tells
returns-in-Err-clause-tells g c = event-lacks c.args.setup.now c.args.last c.args.lines.now.number c.in-Err.e (unread c.args.lines.now.input (g.S.Source.left c.args.source.now)) c.in-Err.ensures.none

pub returns-in-Err-clause-source : goal.returns-in-Err-clause-source
returns-in-Err-clause-source g c = draws_as inl c.in-Err.ensures.source

pub returns-in-Ok-end-clause-tells : goal.returns-in-Ok-end-clause-tells
returns-in-Ok-end-clause-tells g c =
    let ends : bytes_eq c.next_line.new.self.line (codes "end") ≡ true = grind (arith, common_steps) in
    events-ended c.in-Ok-end.field-0 c.args.setup.now c.args.last c.args.lines.now.number c.next_line.new.self.number c.end.new.self.number (unread c.args.lines.now.input (g.S.Source.left c.args.source.now))
    (unread c.next_line.new.self.input (g.S.Source.left c.next_line.new.source)) (unread c.end.new.self.input (g.S.Source.left c.end.new.source)) c.next_line.new.self.line
    c.in-Ok.ensures.taken.line c.in-Ok.ensures.taken.fits c.in-Ok.ensures.taken.number ends c.in-Ok-end.ensures.tells

pub returns-in-Ok-end-clause-source : goal.returns-in-Ok-end-clause-source
returns-in-Ok-end-clause-source g c = draws_well tt (draws_more c.in-Ok.ensures.source c.in-Ok-end.ensures.source)

pub returns-in-Err-end-clause-tells : goal.returns-in-Err-end-clause-tells
returns-in-Err-end-clause-tells g c =
    let ends : bytes_eq c.next_line.new.self.line (codes "end") ≡ true = grind (arith, common_steps) in
    events-more c.args.setup.now c.args.last c.args.lines.now.number c.next_line.new.self.number (unread c.args.lines.now.input (g.S.Source.left c.args.source.now))
    (unread c.next_line.new.self.input (g.S.Source.left c.next_line.new.source)) c.next_line.new.self.line c.in-Err-end.e
    c.in-Ok.ensures.taken.line c.in-Ok.ensures.taken.fits c.in-Ok.ensures.taken.number ends c.in-Err-end.ensures.tells

pub returns-in-Err-end-clause-source : goal.returns-in-Err-end-clause-source
returns-in-Err-end-clause-source g c =
    let ends : bytes_eq c.next_line.new.self.line (codes "end") ≡ true = grind (arith, common_steps) in
    let old = unread c.args.lines.now.input (g.S.Source.left c.args.source.now) in
    let mid = unread c.next_line.new.self.input (g.S.Source.left c.next_line.new.source) in
    let new = unread c.end.new.self.input (g.S.Source.left c.end.new.source) in
    let not_cut : c.next_line.new.self.cut ≡ false = sym c.is_cut.ensures ∙ c.if-is_cut.false in
    let uncut : TakesText false old mid = subst (λ (b : Bool). TakesText b old mid) not_cut c.in-Ok.ensures.taken.text in
    draws_then (end_stops c.text_laws.ensures.laws old mid new c.next_line.new.self.line c.in-Ok.ensures.taken.line uncut ends) c.in-Ok.ensures.source c.in-Err-end.ensures.source

pub returns-in-Ok-judge_event-clause-tells : goal.returns-in-Ok-judge_event-clause-tells
returns-in-Ok-judge_event-clause-tells g c =
    let other : bytes_eq c.next_line.new.self.line (codes "end") ≡ false = grind (arith, common_steps) in
    event-next c.args.setup.now c.args.last c.args.lines.now.number c.next_line.new.self.number (unread c.args.lines.now.input (g.S.Source.left c.args.source.now))
    (unread c.next_line.new.self.input (g.S.Source.left c.next_line.new.source)) c.next_line.new.self.line c.in-Ok-judge_event.e
    c.in-Ok.ensures.taken.line c.in-Ok.ensures.taken.fits c.in-Ok.ensures.taken.number other (rw (c.line-2.ensures, c.number.ensures) at c.in-Ok-judge_event.ensures.ok)

pub returns-in-Ok-judge_event-clause-source : goal.returns-in-Ok-judge_event-clause-source
returns-in-Ok-judge_event-clause-source g c = draws_well tt c.in-Ok.ensures.source

pub returns-in-Err-judge_event-clause-tells : goal.returns-in-Err-judge_event-clause-tells
returns-in-Err-judge_event-clause-tells g c =
    let other : bytes_eq c.next_line.new.self.line (codes "end") ≡ false = grind (arith, common_steps) in
    event-refused c.args.setup.now c.args.last c.args.lines.now.number c.next_line.new.self.number (unread c.args.lines.now.input (g.S.Source.left c.args.source.now))
    (unread c.next_line.new.self.input (g.S.Source.left c.next_line.new.source)) c.next_line.new.self.line c.in-Err-judge_event.e
    c.in-Ok.ensures.taken.line c.in-Ok.ensures.taken.fits c.in-Ok.ensures.taken.number other (rw (c.line-2.ensures, c.number.ensures) at c.in-Err-judge_event.ensures.err)

pub returns-in-Err-judge_event-clause-source : goal.returns-in-Err-judge_event-clause-source
returns-in-Err-judge_event-clause-source g c =
    draws_well (refused-no_fault (in_time c.number.result c.args.last (group_event_of c.args.setup.now.activators c.args.setup.now.pods c.line-2.result.now)) c.in-Err-judge_event.e c.in-Err-judge_event.ensures.err) c.in-Ok.ensures.source

pub returns-then-is_cut-clause-tells : goal.returns-then-is_cut-clause-tells
returns-then-is_cut-clause-tells g c =
    let old = unread c.args.lines.now.input (g.S.Source.left c.args.source.now) in
    let mid = unread c.next_line.new.self.input (g.S.Source.left c.next_line.new.source) in
    let ends : bytes_eq c.next_line.new.self.line (codes "end") ≡ true = grind (arith, common_steps) in
    let is_cut : c.next_line.new.self.cut ≡ true = sym c.is_cut.ensures ∙ c.if-is_cut.true in
    let cut : TakesText true old mid = subst (λ (b : Bool). TakesText b old mid) is_cut c.in-Ok.ensures.taken.text in
    end_cut c.text_laws.ensures.laws c.args.setup.now c.args.last c.args.lines.now.number c.next_line.new.self.number old mid c.next_line.new.self.line
    c.in-Ok.ensures.taken.line cut c.in-Ok.ensures.taken.fits c.in-Ok.ensures.taken.number ends

pub returns-then-is_cut-clause-source : goal.returns-then-is_cut-clause-source
returns-then-is_cut-clause-source g c = draws_well tt c.in-Ok.ensures.source
