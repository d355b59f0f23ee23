-- One event more, until the lines end.
use Rattle.std.proofs.Common.{◌+◌, ◌∙◌, ◌++◌, ℕ, [], ◌∷◌, length-append, refl, sym, ap, subst, arith, le_trans}
use Rattle.std.specs.Prelude.{Err, Some}
use Rattle.kn_slices.specs.Traces.{GroupState}
use Rattle.kn_journal.specs.declared.error.JournalError.{JournalError}
use Rattle.kn_journal.specs.Reading.{unread}
use Rattle.kn_io.specs.Prefix.{AppendsPrefix}
use Rattle.kn_activators.specs.declared.setup.GroupSetup.{GroupSetup}
use Rattle.kn_activators.specs.Sharing.{Outcome, by_line, by_lines}
use Rattle.kn_activators.specs.Standing.{AreBefore, Came, IsBelow, Stands, one}
use Rattle.kn_report.specs.Waiting.{Adds}
use Rattle.kn_activators.proofs.Drawings.{draws_more, draws_none}
use Rattle.kn_activators.proofs.Faults.{draws_finished, draws_stopped, error_is, failed_of, rose_on}
use Rattle.kn_activators.proofs.Breaks.{read_next, read_none}
use Rattle.kn_activators.proofs.EventLines.{goes_next, goes_none, lines_nil, lines_one}
use Rattle.kn_activators.proofs.Endings.{follows_cut, follows_finish, follows_stop, follows_take, stops_told}
use Rattle.kn_activators.proofs.Standings.{below_after, below_less}
use Rattle.kn_activators.proofs.follow.follow.Goals as goal

pub loop-count-init : goal.loop-count-init
loop-count-init g c = record {
  on = λ x stands over.
      let none = sym (lines_nil c.args.setup.now x) in (
        [],
        subst (λ (o : Outcome). Stands c.args.replay.now.group o.now) none stands,
        subst (λ (o : Outcome). Adds (g.O.Sink.held c.args.out.now) (g.O.Sink.held c.args.out.now) c.args.replay.now.waiting c.args.replay.now.waiting o.text) none c.adding_laws.ensures.laws.nothing,
        refl,
        goes_none c.args.setup.now c.args.start c.args.lines.now.number (unread c.args.lines.now.input (g.S.Source.left c.args.source.now)),
        read_none c.text_laws.ensures.laws c.args.lines.now.cut c.args.setup.now c.args.start c.args.lines.now.number (unread c.args.lines.now.input (g.S.Source.left c.args.source.now)) over,
      );
  setup = c.requires.setup;
  order = c.requires.order;
  times = c.requires.times;
  few = c.requires.few;
  taken = omega arith;
  most = c.requires.taken;
  source = draws_none c.args.lines.now.input c.args.source.now;
  later = omega arith;
}

pub returns-in-Err-clause-follows : goal.returns-in-Err-clause-follows
returns-in-Err-clause-follows g c = λ x stands over.
    let on = c.loop-count.invariant.on x stands over in
    follows_cut c.adding_laws.ensures.laws c.args.lines.now.cut c.args.setup.now x c.args.start c.args.lines.now.number (unread c.args.lines.now.input (g.S.Source.left c.args.source.now))
    (unread c.next.new.lines.input (g.S.Source.left c.next.new.source)) on.0 c.loop-count.last c.loop-count.lines.number (unread c.loop-count.lines.input (g.S.Source.left c.loop-count.source))
    c.args.replay.now.waiting c.loop-count.replay.waiting (g.O.Sink.held c.args.out.now) (g.O.Sink.held c.loop-count.out) (g.O.Sink.held c.next.new.out) on.4 on.2 c.in-Err.ensures.failed

pub returns-in-Err-read-clause-follows : goal.returns-in-Err-read-clause-follows
returns-in-Err-read-clause-follows g c = λ x stands over.
    let on = c.loop-count.invariant.on x stands over in
    let s = c.args.setup.now in
    let adds = c.adding_laws.ensures.laws.on on.2 c.in-Ok.ensures.adds in
    let told = rw c.in-Err-read.is at c.in-Ok.ensures.read.refuses in
    let source = rw c.in-Err-read.is at c.in-Ok.ensures.read.source in
    let not_cut = c.in-Ok.ensures.read.uncut in
    let no = c.in-Ok.ensures.read.memory in
    follows_stop c.adding_laws.ensures.laws c.args.lines.now.cut s x c.args.start c.args.lines.now.number c.text_laws.ensures.laws c.loop-count.lines.cut (unread c.args.lines.now.input (g.S.Source.left c.args.source.now))
    (unread c.next.new.lines.input (g.S.Source.left c.next.new.source)) on.0 c.loop-count.last c.loop-count.lines.number (unread c.loop-count.lines.input (g.S.Source.left c.loop-count.source))
    c.args.replay.now.waiting c.next.new.replay.waiting (g.O.Sink.held c.args.out.now) (g.O.Sink.held c.next.new.out) (g.O.Sink.held c.stop.new.out) c.in-Err-read.e c.stop.result on.4 on.5
    (λ fault. source.amid (ap (λ (e : JournalError). Some e) fault)) (λ fault. not_cut (c.in-Err-read.is ∙ ap (λ (e : JournalError). Err e) fault)) told
    (λ is. no (c.in-Err-read.is ∙ ap (λ (e : JournalError). Err e) is)) adds c.stop.ensures.stops

pub returns-in-Err-read-clause-memory : goal.returns-in-Err-read-clause-memory
returns-in-Err-read-clause-memory g c =
    let no = c.in-Ok.ensures.read.memory in
    stops_told c.in-Err-read.e c.next.new.replay.waiting (g.O.Sink.held c.next.new.out) (g.O.Sink.held c.stop.new.out) c.stop.result c.stop.ensures.stops (λ is. no (c.in-Err-read.is ∙ ap (λ (e : JournalError). Err e) is))

pub returns-in-None-clause-follows : goal.returns-in-None-clause-follows
returns-in-None-clause-follows g c = λ x stands over.
    let on = c.loop-count.invariant.on x stands over in
    let s = c.args.setup.now in
    let adds = c.adding_laws.ensures.laws.on on.2 c.in-Ok.ensures.adds in
    let gives = rw (c.in-Ok-read.is, c.in-None.is) at c.in-Ok.ensures.read.gives in
    follows_finish c.adding_laws.ensures.laws c.args.lines.now.cut s x c.args.start c.args.lines.now.number (unread c.args.lines.now.input (g.S.Source.left c.args.source.now))
    (unread c.next.new.lines.input (g.S.Source.left c.next.new.source)) on.0 c.loop-count.last c.loop-count.lines.number c.next.new.lines.number (unread c.loop-count.lines.input (g.S.Source.left c.loop-count.source)) (unread c.next.new.lines.input (g.S.Source.left c.next.new.source))
    c.args.replay.now.waiting c.next.new.replay.waiting (g.O.Sink.held c.args.out.now) (g.O.Sink.held c.next.new.out) (g.O.Sink.held c.finish.new.out) c.loop-count.count c.finish.result on.4 gives adds on.3 c.finish.ensures.ok c.finish.ensures.err c.finish.ensures.some

pub take-requires-clause-event : goal.take-requires-clause-event
take-requires-clause-event g c =
    let next = rw (c.in-Ok-read.is, c.in-Some.is) at c.in-Ok.ensures.read.next in
    rw (c.next.ensures.setup, c.loop-count.invariant.setup) next.range

pub take-requires-clause-order : goal.take-requires-clause-order
take-requires-clause-order g c =
    let next = rw (c.in-Ok-read.is, c.in-Some.is) at c.in-Ok.ensures.read.next in
    let order = next.order in
    λ j d low.
    let before = (subst (AreBefore c.loop-count.last) (sym c.next.ensures.group) c.loop-count.invariant.order) j d low in
    omega (arith, order, before)

pub take-requires-clause-times : goal.take-requires-clause-times
take-requires-clause-times g c =
    let next = rw (c.in-Ok-read.is, c.in-Some.is) at c.in-Ok.ensures.read.next in
    let times = next.times in
    omega (arith, times)

pub take-requires-clause-few : goal.take-requires-clause-few
take-requires-clause-few g c =
    let test = c.loop-count-test.true in
    below_less c.next.new.replay.group (c.loop-count.count + 1) _ (subst (IsBelow (c.loop-count.count + 1)) (sym c.next.ensures.group) c.loop-count.invariant.few) (omega (arith, test))

pub returns-in-Err-take-clause-follows : goal.returns-in-Err-take-clause-follows
returns-in-Err-take-clause-follows g c = λ x stands over.
    let on = c.loop-count.invariant.on x stands over in
    let s = c.args.setup.now in
    let e = c.in-Some.e in
    let y = (by_lines s on.0 x).now in
    let adds = c.adding_laws.ensures.laws.on on.2 c.in-Ok.ensures.adds in
    let gives = rw (c.in-Ok-read.is, c.in-Some.is) at c.in-Ok.ensures.read.gives in
    let stood = subst (λ (z : GroupState). Stands z y) (sym c.next.ensures.group) on.1 in
    let same = c.next.ensures.setup ∙ c.loop-count.invariant.setup in
    let some = subst (λ (z : GroupSetup). AppendsPrefix (g.O.Sink.held c.next.new.out) (g.O.Sink.held c.take.new.out) (c.next.new.replay.waiting ++ (by_line z e y).text)) same (c.in-Err-take.ensures.err y stood) in
    follows_take c.adding_laws.ensures.laws c.args.lines.now.cut s x c.args.start c.args.lines.now.number (unread c.args.lines.now.input (g.S.Source.left c.args.source.now))
    (unread c.next.new.lines.input (g.S.Source.left c.next.new.source)) on.0 c.loop-count.last c.loop-count.lines.number (unread c.loop-count.lines.input (g.S.Source.left c.loop-count.source)) e c.next.new.lines.number (unread c.next.new.lines.input (g.S.Source.left c.next.new.source))
    c.args.replay.now.waiting c.next.new.replay.waiting (g.O.Sink.held c.args.out.now) (g.O.Sink.held c.next.new.out) (g.O.Sink.held c.take.new.out) on.4 gives adds some

pub loop-count-preserved : goal.loop-count-preserved
loop-count-preserved g c =
    let kept = c.loop-count.invariant in
    let s = c.args.setup.now in
    let e = c.in-Some.e in
    let bytes = rw (c.in-Ok-read.is, c.in-Some.is) at c.in-Ok.ensures.read.bytes in
    let next = rw (c.in-Ok-read.is, c.in-Some.is) at c.in-Ok.ensures.read.next in
    let times = next.times in
    let gives = rw (c.in-Ok-read.is, c.in-Some.is) at c.in-Ok.ensures.read.gives in
    let text_taken = rw (c.in-Ok-read.is, c.in-Some.is) at c.in-Ok.ensures.read.text in
    let same = c.next.ensures.setup ∙ kept.setup in
    record {
      on = λ x stands over.
          let on = kept.on x stands over in
          let es = on.0 in
          let y = (by_lines s es x).now in
          let adds = c.adding_laws.ensures.laws.on on.2 c.in-Ok.ensures.adds in
          let stood = subst (λ (z : GroupState). Stands z y) (sym c.next.ensures.group) on.1 in
          let came = subst (λ (z : GroupSetup). Came (by_line z e y) c.take.new.self c.next.new.replay.waiting (g.O.Sink.held c.next.new.out) (g.O.Sink.held c.take.new.out)) same (c.in-Ok-take.ensures.ok y stood) in
          let one = sym (lines_one s es e x) in
          let both = c.adding_laws.ensures.laws.more adds came.adds refl in (
            es ++ e ∷ [],
            subst (λ (o : Outcome). Stands c.take.new.self.group o.now) one came.stands,
            subst (λ (o : Outcome). Adds (g.O.Sink.held c.args.out.now) (g.O.Sink.held c.take.new.out) c.args.replay.now.waiting c.take.new.self.waiting o.text) one both,
            length-append es (e ∷ []) ∙ ap (λ (n : ℕ). n + 1) on.3,
            rw c.time-last.ensures (goes_next s c.args.start c.args.lines.now.number es c.loop-count.last c.loop-count.lines.number c.next.new.lines.number e (unread c.args.lines.now.input (g.S.Source.left c.args.source.now)) (unread c.loop-count.lines.input (g.S.Source.left c.loop-count.source)) (unread c.next.new.lines.input (g.S.Source.left c.next.new.source)) on.4 gives),
            rw c.time-last.ensures (read_next c.text_laws.ensures.laws c.args.lines.now.cut c.loop-count.lines.cut c.next.new.lines.cut s c.args.start c.args.lines.now.number es c.loop-count.last c.loop-count.lines.number c.next.new.lines.number e (unread c.args.lines.now.input (g.S.Source.left c.args.source.now))
                (unread c.loop-count.lines.input (g.S.Source.left c.loop-count.source)) (unread c.next.new.lines.input (g.S.Source.left c.next.new.source)) on.5 gives text_taken),
          );
      setup = c.take.ensures.setup ∙ same;
      order = rw c.time-last.ensures c.in-Ok-take.ensures.order;
      times = omega (arith, times, c.time-last.ensures);
      few = below_after c.next.new.replay.group c.take.new.self.group (c.loop-count.count + 1) one c.in-Ok-take.ensures.parts c.in-Ok-take.ensures.load (λ j. omega arith)
          (subst (IsBelow (c.loop-count.count + 1)) (sym c.next.ensures.group) kept.few);
      taken = omega (arith, kept.taken, bytes);
      most = c.in-Ok.ensures.read.few;
      source = draws_more kept.source (rw c.in-Ok-read.is at c.in-Ok.ensures.read.source);
      later = omega (arith, kept.later, c.next.ensures.cause.never_falls, c.take.ensures.cause.never_falls);
    }

-- So many events have more bytes than may be taken.
pub returns-clause-follows : goal.returns-clause-follows
returns-clause-follows g c = absurd (omega (arith, c.loop-count.invariant.taken, c.loop-count.invariant.most, c.loop-count-test.false))

pub returns-clause-memory : goal.returns-clause-memory
returns-clause-memory g c = absurd (omega (arith, c.loop-count.invariant.taken, c.loop-count.invariant.most, c.loop-count-test.false))

pub returns-clause-source : goal.returns-clause-source
returns-clause-source g c = absurd (omega (arith, c.loop-count.invariant.taken, c.loop-count.invariant.most, c.loop-count-test.false))

pub returns-clause-write_fault : goal.returns-clause-write_fault
returns-clause-write_fault g c = absurd (omega (arith, c.loop-count.invariant.taken, c.loop-count.invariant.most, c.loop-count-test.false))

-- ---- faults

pub returns-in-Err-clause-source : goal.returns-in-Err-clause-source
returns-in-Err-clause-source g c = rw (c.in-Err.ensures.still.0, c.in-Err.ensures.still.1) c.loop-count.invariant.source

pub returns-in-Err-clause-write_fault : goal.returns-in-Err-clause-write_fault
returns-in-Err-clause-write_fault g c is = rose_on _ _ _ c.loop-count.invariant.later c.in-Err.ensures.cause.failed

pub returns-in-Err-read-clause-source : goal.returns-in-Err-read-clause-source
returns-in-Err-read-clause-source g c =
    draws_stopped c.in-Err-read.e c.next.new.replay.waiting (g.O.Sink.held c.next.new.out) (g.O.Sink.held c.stop.new.out) c.stop.result c.stop.ensures.stops
    (draws_more c.loop-count.invariant.source (rw c.in-Err-read.is at c.in-Ok.ensures.read.source))

pub returns-in-Err-read-clause-write_fault : goal.returns-in-Err-read-clause-write_fault
returns-in-Err-read-clause-write_fault g c is = rose_on _ _ _ (le_trans c.loop-count.invariant.later c.next.ensures.cause.never_falls) (c.stop.ensures.fault (error_is c.stop.result is))

pub returns-in-Err-read-clause-never_falls : goal.returns-in-Err-read-clause-never_falls
returns-in-Err-read-clause-never_falls g c = omega (arith, c.loop-count.invariant.later, c.next.ensures.cause.never_falls, c.stop.ensures.never_falls)

pub returns-in-None-clause-source : goal.returns-in-None-clause-source
returns-in-None-clause-source g c = draws_finished c.finish.result c.finish.ensures.err (draws_more c.loop-count.invariant.source (rw c.in-Ok-read.is at c.in-Ok.ensures.read.source))

pub returns-in-None-clause-write_fault : goal.returns-in-None-clause-write_fault
returns-in-None-clause-write_fault g c is = rose_on _ _ _ (le_trans c.loop-count.invariant.later c.next.ensures.cause.never_falls) (failed_of c.finish.result c.finish.ensures.fault is)

pub returns-in-None-clause-never_falls : goal.returns-in-None-clause-never_falls
returns-in-None-clause-never_falls g c = omega (arith, c.loop-count.invariant.later, c.next.ensures.cause.never_falls, c.finish.ensures.never_falls)

pub returns-in-Err-take-clause-source : goal.returns-in-Err-take-clause-source
returns-in-Err-take-clause-source g c = draws_more c.loop-count.invariant.source (rw c.in-Ok-read.is at c.in-Ok.ensures.read.source)

pub returns-in-Err-take-clause-write_fault : goal.returns-in-Err-take-clause-write_fault
returns-in-Err-take-clause-write_fault g c is = rose_on _ _ _ (le_trans c.loop-count.invariant.later c.next.ensures.cause.never_falls) c.in-Err-take.ensures.cause.failed

pub returns-in-Err-take-clause-never_falls : goal.returns-in-Err-take-clause-never_falls
returns-in-Err-take-clause-never_falls g c = omega (arith, c.loop-count.invariant.later, c.next.ensures.cause.never_falls, c.take.ensures.cause.never_falls)

pub returns-in-Err-clause-never_falls : goal.returns-in-Err-clause-never_falls
returns-in-Err-clause-never_falls g c = omega (arith, c.loop-count.invariant.later, c.next.ensures.cause.never_falls)

pub returns-clause-never_falls : goal.returns-clause-never_falls
returns-clause-never_falls g c = omega (arith, c.loop-count.invariant.later, c.stop-2.ensures.never_falls)
