-- An event that is ahead, the end of the input, or what is read over the source.
use Rattle.std.proofs.Common.{◌≡◌, ◌≤◌, ◌∙◌, Bool, true, refl, sym, ap, subst}
use Rattle.kn_journal.specs.Reading.{IsOver, most_taken, unread}
use Rattle.kn_journal.specs.Telling.{LinesState}
use Rattle.kn_activators.specs.Verdict.{next_part}
use Rattle.kn_activators.proofs.Breaks.{over_refuses}
use Rattle.kn_activators.proofs.Drawings.{draws_ahead, draws_none, draws_well}
use Rattle.kn_activators.proofs.Tellings.{tells_gives, tells_refuses}
use Rattle.kn_activators.proofs.follow.next.Goals as goal

pub returns-in-Some-clause-read : goal.returns-in-Some-clause-read
returns-in-Some-clause-read g c = record {
  gives = c.in-Some.ensures.tells (g.S.Source.left c.args.source.now);
  refuses = tt;
  uncut = λ f. absurd cc;
  next = c.in-Some.ensures.next;
  bytes = c.in-Some.ensures.bytes;
  text = c.in-Some.ensures.text (g.S.Source.left c.args.source.now);
  memory = λ f. absurd cc;
  few = c.in-Some.ensures.few;
  source = draws_well tt (draws_ahead c.args.source.now c.in-Some.ensures.bytes c.next_ahead.ensures.balance);
}

-- no line was ahead, and the input said its end
pub returns-then-is_cut-clause-read : goal.returns-then-is_cut-clause-read
returns-then-is_cut-clause-read g c =
    let same = c.in-None.ensures.same refl in
    let old = unread c.args.lines.now.input (g.S.Source.left c.args.source.now) in
    let cut : c.args.lines.now.cut ≡ true = sym (c.is_cut.ensures ∙ ap (λ (r : LinesState). r.cut) same) ∙ c.if-is_cut.true in
    record {
      gives = tt;
      refuses = λ over. over_refuses c.text_laws.ensures.laws c.args.setup.now c.args.last c.args.lines.now.number old (subst (λ (b : Bool). IsOver b old) cut over);
      uncut = λ f. absurd cc;
      next = tt;
      bytes = tt;
      text = tt;
      memory = λ f. absurd cc;
      few = subst (λ (r : LinesState). r.input.taken ≤ most_taken) (sym same) c.requires.few;
      source = rw same (draws_well tt (draws_none c.args.lines.now.input c.args.source.now));
    }

pub returns-clause-read : goal.returns-clause-read
returns-clause-read g c =
    let same = c.in-None.ensures.same refl in
    let uncut = sym (c.is_cut.ensures ∙ ap (λ (r : LinesState). r.cut) same) ∙ c.if-is_cut.false in
    let part = next_part c.args.setup.now c.args.last c.args.lines.now.number in
    let old = unread c.args.lines.now.input (g.S.Source.left c.args.source.now) in
    let new = unread c.read_next.new.lines.input (g.S.Source.left c.read_next.new.source) in
    let read = rw same at c.read_next.ensures in
    record {
      gives = tells_gives part c.read_next.new.lines.number old new c.read_next.result read.tells;
      refuses = tells_refuses (IsOver c.args.lines.now.cut old) part c.read_next.new.lines.number old new c.read_next.result read.tells;
      uncut = λ f. uncut;
      next = read.next;
      bytes = read.bytes;
      text = read.text;
      memory = read.memory;
      few = read.few;
      source = read.source;
    }
