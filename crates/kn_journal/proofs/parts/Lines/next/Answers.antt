-- An event, `end` and what follows it, or no line.
use Rattle.std.proofs.Common.{◌≡◌, ◌∙◌, Bool, None, Some, true, false, ap, refl, subst, sym, arith, inr}
use Rattle.std.specs.Prelude.{codes}
use Rattle.std.specs.Str.{bytes_eq}
use Rattle.std.proofs.lemmas.Grind.{common_steps}
use Rattle.kn_journal.specs.Reading.{TakesText, unread}
use Rattle.kn_journal.specs.Bundle.{next_by}
use Rattle.kn_journal.specs.Telling.{AmidNext, Gives, LeavesRest, LinesState, Refuses}
use Rattle.kn_journal.proofs.Rests.{ended-rest, event-rest}
use Rattle.kn_journal.specs.declared.error.JournalError.{JournalError}
use Rattle.kn_journal.proofs.Drawings.{IsNoFault, cause-no_fault, draws_ahead, draws_both, draws_in, draws_more, draws_well}
use Rattle.kn_journal.proofs.Stops.{amid_next, end-stops}
use Rattle.kn_journal.proofs.Tellings.{next-closed, next-cut, next-ended, next-event, next-lacks, next-more, next-refused}
use Rattle.kn_journal.proofs.parts.Lines.next.Goals as goal
use Rattle.kn_journal.proofs.parts.Lines.next.Goals.{in-Ok-judge_event, in-Err-judge_event}

pub returns-in-Err-clause-tells : goal.returns-in-Err-clause-tells
returns-in-Err-clause-tells g c =
    let same : c.next_ahead.new.self ≡ c.args.self.now = c.in-None.ensures.same refl in
    next-lacks c.args.bundle c.args.version c.args.last c.args.self.now.number c.in-Err.e (unread c.args.self.now.input (g.S.Source.left c.args.source.now)) (rw same at c.in-Err.ensures.none)

pub returns-in-Ok-end-clause-tells : goal.returns-in-Ok-end-clause-tells
returns-in-Ok-end-clause-tells g c =
    let same : c.next_ahead.new.self ≡ c.args.self.now = c.in-None.ensures.same refl in
    let line : c.as_slice.result.now ≡ c.next_line.new.self.line = c.as_slice.ensures.value ∙ ap (λ (r : LinesState). r.line) c.self.view_is in
    let ends : bytes_eq c.next_line.new.self.line (codes "end") ≡ true = grind (arith, common_steps, line) in
    let alone : false ≡ c.args.bundle = sym c.if-bundle.false in
    subst (λ (b : Bool). Gives (next_by b c.args.version c.args.last c.args.self.now.number) None c.end.new.self.number (unread c.args.self.now.input (g.S.Source.left c.args.source.now)) (unread c.end.new.self.input (g.S.Source.left c.end.new.source))) alone (
    next-ended c.in-Ok-end.field-0 c.args.version c.args.last c.args.self.now.number c.next_line.new.self.number c.end.new.self.number (unread c.args.self.now.input (g.S.Source.left c.args.source.now))
    (unread c.next_line.new.self.input (g.S.Source.left c.next_line.new.source)) (unread c.end.new.self.input (g.S.Source.left c.end.new.source)) c.next_line.new.self.line
    (rw same at c.in-Ok.ensures.taken.line) c.in-Ok.ensures.taken.fits (rw same at c.in-Ok.ensures.taken.number) ends c.in-Ok-end.ensures.tells)

pub returns-in-Err-end-clause-tells : goal.returns-in-Err-end-clause-tells
returns-in-Err-end-clause-tells g c =
    let same : c.next_ahead.new.self ≡ c.args.self.now = c.in-None.ensures.same refl in
    let line : c.as_slice.result.now ≡ c.next_line.new.self.line = c.as_slice.ensures.value ∙ ap (λ (r : LinesState). r.line) c.self.view_is in
    let ends : bytes_eq c.next_line.new.self.line (codes "end") ≡ true = grind (arith, common_steps, line) in
    let alone : false ≡ c.args.bundle = sym c.if-bundle.false in
    subst (λ (b : Bool). Refuses (next_by b c.args.version c.args.last c.args.self.now.number) c.in-Err-end.e (unread c.args.self.now.input (g.S.Source.left c.args.source.now))) alone (
    next-more c.args.version c.args.last c.args.self.now.number c.next_line.new.self.number (unread c.args.self.now.input (g.S.Source.left c.args.source.now))
    (unread c.next_line.new.self.input (g.S.Source.left c.next_line.new.source)) c.next_line.new.self.line c.in-Err-end.e
    (rw same at c.in-Ok.ensures.taken.line) c.in-Ok.ensures.taken.fits (rw same at c.in-Ok.ensures.taken.number) ends c.in-Err-end.ensures.tells)

pub returns-clause-tells : goal.returns-clause-tells
returns-clause-tells g c =
    let same : c.next_ahead.new.self ≡ c.args.self.now = c.in-None.ensures.same refl in
    let old = unread c.args.self.now.input (g.S.Source.left c.args.source.now) in
    let mid = unread c.next_line.new.self.input (g.S.Source.left c.next_line.new.source) in
    let first : c.as_slice.result.now ≡ c.next_line.new.self.line = c.as_slice.ensures.value ∙ ap (λ (r : LinesState). r.line) c.self.view_is in
    let other : bytes_eq c.next_line.new.self.line (codes "end") ≡ false = grind (arith, common_steps, first) in
    let line : c.deref.result.now ≡ c.next_line.new.self.line = c.deref.ensures.value ∙ ap (λ (r : LinesState). r.line) c.self.view_is in
    let number : c.self.inside.number ≡ c.next_line.new.self.number = ap (λ (r : LinesState). r.number) c.self.view_is in
    elim c.match-judge_event.branch [
      | in-Ok-judge_event w ↦
          rw w.result-is (next-event c.args.bundle c.args.version c.args.last c.args.self.now.number c.next_line.new.self.number old mid c.next_line.new.self.line w.in-Ok-judge_event.e
          (rw same at c.in-Ok.ensures.taken.line) c.in-Ok.ensures.taken.fits (rw same at c.in-Ok.ensures.taken.number) other (rw (line, number) at w.in-Ok-judge_event.ensures.ok))
      | in-Err-judge_event w ↦
          rw w.result-is (next-refused c.args.bundle c.args.version c.args.last c.args.self.now.number c.next_line.new.self.number old mid c.next_line.new.self.line w.in-Err-judge_event.e
          (rw same at c.in-Ok.ensures.taken.line) c.in-Ok.ensures.taken.fits (rw same at c.in-Ok.ensures.taken.number) other (rw (line, number) at w.in-Err-judge_event.ensures.err))
    ]

pub returns-in-Some-clause-tells : goal.returns-in-Some-clause-tells
returns-in-Some-clause-tells g c = c.in-Some.ensures.tells c.args.bundle (g.S.Source.left c.args.source.now)

pub returns-in-Err-end-clause-rest : goal.returns-in-Err-end-clause-rest
returns-in-Err-end-clause-rest g c is =
    let same : c.next_ahead.new.self ≡ c.args.self.now = c.in-None.ensures.same refl in
    let line : c.as_slice.result.now ≡ c.next_line.new.self.line = c.as_slice.ensures.value ∙ ap (λ (r : LinesState). r.line) c.self.view_is in
    let ends : bytes_eq c.next_line.new.self.line (codes "end") ≡ true = grind (arith, common_steps, line) in
    let alone : false ≡ c.args.bundle = sym c.if-bundle.false in
    subst (λ (b : Bool). LeavesRest (next_by b c.args.version c.args.last c.args.self.now.number) c.args.self.now.number None c.in-Err-end.e (unread c.args.self.now.input (g.S.Source.left c.args.source.now)) (unread c.end.new.self.input (g.S.Source.left c.end.new.source))) alone (
    ended-rest c.args.version c.args.last c.args.self.now.number c.next_line.new.self.number (unread c.args.self.now.input (g.S.Source.left c.args.source.now))
    (unread c.next_line.new.self.input (g.S.Source.left c.next_line.new.source)) (unread c.end.new.self.input (g.S.Source.left c.end.new.source)) c.next_line.new.self.line c.in-Err-end.e
    (rw same at c.in-Ok.ensures.taken.line) c.in-Ok.ensures.taken.fits (rw same at c.in-Ok.ensures.taken.number) ends (c.in-Err-end.ensures.rest is))

pub returns-clause-rest : goal.returns-clause-rest
returns-clause-rest g c =
    let same : c.next_ahead.new.self ≡ c.args.self.now = c.in-None.ensures.same refl in
    let old = unread c.args.self.now.input (g.S.Source.left c.args.source.now) in
    let mid = unread c.next_line.new.self.input (g.S.Source.left c.next_line.new.source) in
    let first : c.as_slice.result.now ≡ c.next_line.new.self.line = c.as_slice.ensures.value ∙ ap (λ (r : LinesState). r.line) c.self.view_is in
    let other : bytes_eq c.next_line.new.self.line (codes "end") ≡ false = grind (arith, common_steps, first) in
    let line : c.deref.result.now ≡ c.next_line.new.self.line = c.deref.ensures.value ∙ ap (λ (r : LinesState). r.line) c.self.view_is in
    let number : c.self.inside.number ≡ c.next_line.new.self.number = ap (λ (r : LinesState). r.number) c.self.view_is in
    elim c.match-judge_event.branch [
      | in-Ok-judge_event w ↦ rw w.result-is tt
      | in-Err-judge_event w ↦
          rw w.result-is (λ is. event-rest c.args.bundle c.args.version c.args.last c.args.self.now.number c.next_line.new.self.number old mid c.next_line.new.self.line w.in-Err-judge_event.e
          (rw same at c.in-Ok.ensures.taken.line) c.in-Ok.ensures.taken.fits (rw same at c.in-Ok.ensures.taken.number) other (rw (line, number) at w.in-Err-judge_event.ensures.err))
    ]

pub returns-in-Err-end-clause-source : goal.returns-in-Err-end-clause-source
returns-in-Err-end-clause-source g c =
    let same : c.next_ahead.new.self ≡ c.args.self.now = c.in-None.ensures.same refl in
    let line : c.as_slice.result.now ≡ c.next_line.new.self.line = c.as_slice.ensures.value ∙ ap (λ (r : LinesState). r.line) c.self.view_is in
    let ends : bytes_eq c.next_line.new.self.line (codes "end") ≡ true = grind (arith, common_steps, line) in
    let old = unread c.args.self.now.input (g.S.Source.left c.args.source.now) in
    let mid = unread c.next_line.new.self.input (g.S.Source.left c.next_line.new.source) in
    let not_cut : c.next_line.new.self.cut ≡ false = ap (λ (r : LinesState). r.cut) (sym c.self.view_is) ∙ c.if-self.false in
    let uncut : TakesText false old mid = subst (λ (b : Bool). TakesText b old mid) not_cut (rw same at c.in-Ok.ensures.taken.text) in
    draws_more (rw same at c.in-Ok.ensures.source) c.in-Err-end.ensures.source
    (λ h. subst (λ (b : Bool). AmidNext b (unread c.args.self.now.input (g.S.Source.left c.args.source.now)) (unread c.end.new.self.input (g.S.Source.left c.end.new.source))) (sym c.if-bundle.false) (inr (end-stops (unread c.args.self.now.input (g.S.Source.left c.args.source.now)) (unread c.next_line.new.self.input (g.S.Source.left c.next_line.new.source))
    (unread c.end.new.self.input (g.S.Source.left c.end.new.source)) c.next_line.new.self.line (rw same at c.in-Ok.ensures.taken.line) uncut ends (c.in-Err-end.ensures.source.amid h))))

pub returns-in-Some-clause-source : goal.returns-in-Some-clause-source
returns-in-Some-clause-source g c =
    draws_ahead c.args.self.now.input c.next_ahead.new.self.input c.args.source.now (omega (arith, c.in-Some.ensures.bytes)) c.next_ahead.ensures.balance

pub returns-in-Err-clause-source : goal.returns-in-Err-clause-source
returns-in-Err-clause-source g c =
    let same : c.next_ahead.new.self ≡ c.args.self.now = c.in-None.ensures.same refl in
    draws_in (rw same at c.in-Err.ensures.source) (amid_next c.args.bundle _ _)

pub returns-in-Ok-end-clause-source : goal.returns-in-Ok-end-clause-source
returns-in-Ok-end-clause-source g c =
    let same : c.next_ahead.new.self ≡ c.args.self.now = c.in-None.ensures.same refl in
    draws_well tt (draws_both (rw same at c.in-Ok.ensures.source) c.in-Ok-end.ensures.source)

pub returns-clause-source : goal.returns-clause-source
returns-clause-source g c =
    let same : c.next_ahead.new.self ≡ c.args.self.now = c.in-None.ensures.same refl in
    elim c.match-judge_event.branch [
      | in-Ok-judge_event w ↦ rw w.result-is (draws_well tt (rw same at c.in-Ok.ensures.source))
      | in-Err-judge_event w ↦
          let why = w.in-Err-judge_event.ensures.err in
          rw w.result-is (draws_well (subst (λ (x : JournalError). IsNoFault (Some x)) why.1 (cause-no_fault why.0)) (rw same at c.in-Ok.ensures.source))
    ]

pub returns-then-self-clause-tells : goal.returns-then-self-clause-tells
returns-then-self-clause-tells g c =
    let same : c.next_ahead.new.self ≡ c.args.self.now = c.in-None.ensures.same refl in
    let old = unread c.args.self.now.input (g.S.Source.left c.args.source.now) in
    let mid = unread c.next_line.new.self.input (g.S.Source.left c.next_line.new.source) in
    let line : c.as_slice.result.now ≡ c.next_line.new.self.line = c.as_slice.ensures.value ∙ ap (λ (r : LinesState). r.line) c.self.view_is in
    let ends : bytes_eq c.next_line.new.self.line (codes "end") ≡ true = grind (arith, common_steps, line) in
    let is_cut : c.next_line.new.self.cut ≡ true = ap (λ (r : LinesState). r.cut) (sym c.self.view_is) ∙ c.if-self.true in
    let cut : TakesText true old mid = subst (λ (b : Bool). TakesText b old mid) is_cut (rw same at c.in-Ok.ensures.taken.text) in
    let alone : false ≡ c.args.bundle = sym c.if-bundle.false in
    subst (λ (b : Bool). Gives (next_by b c.args.version c.args.last c.args.self.now.number) None c.next_line.new.self.number old mid) alone (
    next-cut c.args.version c.args.last c.args.self.now.number c.next_line.new.self.number old mid c.next_line.new.self.line
    (rw same at c.in-Ok.ensures.taken.line) cut c.in-Ok.ensures.taken.fits (rw same at c.in-Ok.ensures.taken.number) ends)

pub returns-then-self-clause-source : goal.returns-then-self-clause-source
returns-then-self-clause-source g c =
    let same : c.next_ahead.new.self ≡ c.args.self.now = c.in-None.ensures.same refl in
    draws_well tt (rw same at c.in-Ok.ensures.source)

pub returns-in-Some-clause-text : goal.returns-in-Some-clause-text
returns-in-Some-clause-text g c = c.in-Some.ensures.text (g.S.Source.left c.args.source.now)

pub returns-clause-text : goal.returns-clause-text
returns-clause-text g c =
    let same : c.next_ahead.new.self ≡ c.args.self.now = c.in-None.ensures.same refl in
    elim c.match-judge_event.branch [
      | in-Ok-judge_event w ↦ rw w.result-is (rw same at c.in-Ok.ensures.taken.text)
      | in-Err-judge_event w ↦ rw w.result-is tt
    ]

pub returns-clause-event : goal.returns-clause-event
returns-clause-event g c =
    elim c.match-judge_event.branch [
      | in-Ok-judge_event w ↦ rw w.result-is w.in-Ok-judge_event.ensures.event
      | in-Err-judge_event w ↦ rw w.result-is tt
    ]

pub returns-then-bundle-clause-tells : goal.returns-then-bundle-clause-tells
returns-then-bundle-clause-tells g c =
    let same : c.next_ahead.new.self ≡ c.args.self.now = c.in-None.ensures.same refl in
    let line : c.as_slice.result.now ≡ c.next_line.new.self.line = c.as_slice.ensures.value ∙ ap (λ (r : LinesState). r.line) c.self.view_is in
    let ends : bytes_eq c.next_line.new.self.line (codes "end") ≡ true = grind (arith, common_steps, line) in
    next-closed c.args.bundle c.args.version c.args.last c.args.self.now.number c.next_line.new.self.number (unread c.args.self.now.input (g.S.Source.left c.args.source.now))
    (unread c.next_line.new.self.input (g.S.Source.left c.next_line.new.source)) c.next_line.new.self.line c.if-bundle.true
    (rw same at c.in-Ok.ensures.taken.line) c.in-Ok.ensures.taken.fits (rw same at c.in-Ok.ensures.taken.number) ends
