-- A line that was read says this, or no line was there.
use Rattle.std.proofs.Common.{◌≡◌, ◌∙◌, ap}
use Rattle.kn_journal.specs.Reading.{unread}
use Rattle.kn_journal.specs.Telling.{LinesState}
use Rattle.kn_journal.specs.Journal.{start_line_in}
use Rattle.kn_journal.proofs.Rests.{start-rest}
use Rattle.kn_journal.proofs.Drawings.{draws_well, judged-no_fault}
use Rattle.kn_journal.proofs.Tellings.{start-refuses, start-tells}
use Rattle.kn_journal.proofs.Texts.{on_ok-any}
use Rattle.kn_journal.proofs.parts.Lines.start.Goals as goal
use Rattle.kn_journal.proofs.parts.Lines.start.Goals.{in-Ok, in-Err}

pub returns-clause-tells : goal.returns-clause-tells
returns-clause-tells g c =
    let old = unread c.args.self.now.input (g.S.Source.left c.args.source.now) in
    let mid = unread c.next_line.new.self.input (g.S.Source.left c.next_line.new.source) in
    elim c.match-next_line.branch [
      | in-Ok w ↦
          let line : w.deref.result.now ≡ c.next_line.new.self.line = w.deref.ensures.value ∙ ap (λ (r : LinesState). r.line) c.self.view_is in
          let number : c.self.inside.number ≡ c.next_line.new.self.number = ap (λ (r : LinesState). r.number) c.self.view_is in
          rw w.result-is (start-tells c.args.self.now.number c.next_line.new.self.number old mid c.next_line.new.self.line w.judge_start.result w.in-Ok.ensures.taken.line w.in-Ok.ensures.taken.fits w.in-Ok.ensures.taken.number
          (rw (line, number) at w.judge_start.ensures.judges))
      | in-Err w ↦ rw w.result-is (start-refuses c.args.self.now.number w.in-Err.e old w.in-Err.ensures.none)
    ]

pub returns-clause-rest : goal.returns-clause-rest
returns-clause-rest g c =
    let old = unread c.args.self.now.input (g.S.Source.left c.args.source.now) in
    let mid = unread c.next_line.new.self.input (g.S.Source.left c.next_line.new.source) in
    elim c.match-next_line.branch [
      | in-Ok w ↦
          let line : w.deref.result.now ≡ c.next_line.new.self.line = w.deref.ensures.value ∙ ap (λ (r : LinesState). r.line) c.self.view_is in
          let number : c.self.inside.number ≡ c.next_line.new.self.number = ap (λ (r : LinesState). r.number) c.self.view_is in
          rw w.result-is (start-rest c.args.self.now.number c.next_line.new.self.number old mid c.next_line.new.self.line w.judge_start.result w.in-Ok.ensures.taken.line w.in-Ok.ensures.taken.fits w.in-Ok.ensures.taken.number
          (rw (line, number) at w.judge_start.ensures.judges))
      | in-Err w ↦ rw w.result-is (λ is. absurd (w.in-Err.ensures.short is))
    ]

pub returns-clause-source : goal.returns-clause-source
returns-clause-source g c =
    elim c.match-next_line.branch [
      | in-Ok w ↦
          rw w.result-is (draws_well (judged-no_fault start_line_in c.self.inside.number w.deref.result.now w.judge_start.result w.judge_start.ensures.judges) w.in-Ok.ensures.source)
      | in-Err w ↦ rw w.result-is w.in-Err.ensures.source
    ]

pub returns-clause-text : goal.returns-clause-text
returns-clause-text g c =
    elim c.match-next_line.branch [
      | in-Ok w ↦ rw w.result-is (on_ok-any w.judge_start.result w.in-Ok.ensures.taken.text)
      | in-Err w ↦ rw w.result-is tt
    ]
