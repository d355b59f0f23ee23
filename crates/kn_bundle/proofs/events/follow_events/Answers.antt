use Rattle.std.proofs.Common.{◌≡◌, ◌+◌, ◌++◌, ℕ, List, [], ◌∷◌, append_assoc, append-nil, length-append, refl, sym, ap, ◌∙◌, subst, arith, le_trans}
use Rattle.kn_core.specs.State.{RevisionState}
use Rattle.kn_journal.specs.declared.error.JournalError.TheVariants as error
use Rattle.kn_journal.specs.declared.status.Status.TheVariants as status
use Rattle.kn_journal.specs.Reading.{unread}
use Rattle.kn_report.specs.Waiting.{Adds}
use Rattle.kn_teller.specs.Run.{IsRunOf, begun}
use Rattle.kn_teller.specs.Manner.{told}
use Rattle.kn_follow.specs.Endings.{Stops, status_of}
use Rattle.kn_follow.specs.Following.{ran}
use Rattle.kn_bundle.proofs.Alongs.{along_begin, along_more, along_text}
use Rattle.kn_bundle.proofs.Courses.{goes_begin, goes_more}
use Rattle.kn_bundle.proofs.Ends.{goes_cut, goes_end, goes_stop, some_told, told-grows}
use Rattle.kn_bundle.proofs.events.follow_events.Goals as goal

pub loop-count-init : goal.loop-count-init
loop-count-init g c = record {
  on =
      let w = g.T.Teller.manner c.args.teller.now in
      let b = begun c.args.follower.now.revision.spec c.args.follower.now.revision.clock in (
        [],
        record { stands = c.requires.stands; spec = refl; now = refl {a = c.args.follower.now.revision.clock} },
        c.requires.knows,
        refl,
        c.adding_laws.ensures.laws.waits
            (ap (λ (z : List ℕ). c.args.follower.now.waiting ++ z) (c.telling_laws.ensures.laws.none w b) ∙ append-nil c.args.follower.now.waiting),
        goes_begin c.args.reader.now.version c.args.reader.now.last c.args.reader.now.number (unread c.args.reader.now.input (g.S.Source.left c.args.source.now)),
      );
  along = along_begin c.args.reader.now.cut (unread c.args.reader.now.input (g.S.Source.left c.args.source.now));
  manner = refl;
  load = omega (arith, c.requires.load);
  within = c.requires.ready.within;
  version = refl;
  last = c.requires.ready.last;
  clock = c.requires.ready.clock;
  events = c.requires.ready.events;
  taken = omega arith;
  draws = record { balance = refl; never_falls = omega arith };
  write = omega arith;
}

pub next_event-requires : goal.next_event-requires
next_event-requires g c = record { within = c.loop-count.invariant.within }

pub take-requires-clause-order : goal.take-requires-clause-order
take-requires-clause-order g c =
    omega (arith, (rw c.in-Ok-Some.field-0-is at c.in-Ok-Some.ensures.next).order, c.loop-count.invariant.last, ap (λ (x : RevisionState). x.clock) c.write_unless.ensures.revision)

pub take-requires-clause-events : goal.take-requires-clause-events
take-requires-clause-events g c = omega (arith, c.loop-count.invariant.events, c.loop-count-test.true, ap (λ (x : RevisionState). x.events) c.write_unless.ensures.revision)

pub take-requires-clause-few : goal.take-requires-clause-few
take-requires-clause-few g c = omega (arith, c.loop-count.invariant.load, c.loop-count-test.true)

pub end-requires : goal.end-requires
end-requires g c = omega (arith, c.loop-count.invariant.load, c.loop-count-test.true)

pub loop-count-preserved : goal.loop-count-preserved
loop-count-preserved g c =
    let kept = c.loop-count.invariant in
    let on = kept.on in
    let w = g.T.Teller.manner c.args.teller.now in
    let b = begun c.args.follower.now.revision.spec c.args.follower.now.revision.clock in
    let e = c.in-Ok-Some.e in
    let read = rw c.in-Ok-Some.field-0-is at c.in-Ok-Some.ensures.next in
    let known = unread c.args.reader.now.input (g.S.Source.left c.args.source.now) in
    let rest = unread c.loop-count.reader.input (g.S.Source.left c.loop-count.source) in
    let left = unread c.next_event.new.reader.input (g.S.Source.left c.next_event.new.source) in
    let run = subst (IsRunOf (ran b on.0)) (sym c.write_unless.ensures.revision) on.1 in
    let adds = c.adding_laws.ensures.laws.on on.4 c.in-Ok.ensures.ok in
    let step = c.take.ensures.takes.steps (ran b on.0) run in
    let wrote = rw kept.manner at c.in-Ok-take.ensures.ok (ran b on.0) on.2 run in
    record {
      on = (
        on.0 ++ e ∷ [],
        record { stands = step.stands; spec = step.spec; now = c.telling_laws.ensures.laws.clock (ran b on.0) e ∙ sym step.clock },
        c.in-Ok-take.ensures.knows (ran b on.0) on.2 run,
        length-append on.0 (e ∷ []) ∙ ap (λ (n : ℕ). n + 1) on.3,
        c.adding_laws.ensures.laws.more adds wrote (sym (c.telling_laws.ensures.laws.next w b on.0 e)),
        rw read.last (goes_more c.args.reader.now.version c.args.reader.now.last c.args.reader.now.number known on.0 c.loop-count.reader.last c.loop-count.reader.number rest e c.next_event.new.reader.number left on.5 (rw kept.version at read.gives)),
      );
      along =
          along_text c.args.reader.now.cut c.next_event.new.reader.cut known left
          (along_more c.text_laws.ensures.laws c.args.reader.now.cut c.loop-count.reader.cut c.next_event.new.reader.cut known rest left kept.along read.text);
      manner = c.in-Ok-take.ensures.manner ∙ kept.manner;
      load = omega (arith, kept.load, c.in-Ok-take.ensures.few);
      within = read.within;
      version = c.next_event.ensures.version ∙ kept.version;
      last = read.last ∙ sym step.clock;
      clock = omega (arith, read.times, step.clock);
      events = omega (arith, kept.events, c.take.ensures.takes.events, ap (λ (x : RevisionState). x.events) c.write_unless.ensures.revision);
      taken = omega (arith, kept.taken, read.bytes);
      draws = c.call_laws.ensures.laws.draws kept.draws c.next_event.ensures.draws;
      write = omega (arith, kept.write, c.write_unless.ensures.cause.never_falls, c.take.ensures.cause.never_falls);
    }

pub returns-in-Err-clause-follows : goal.returns-in-Err-clause-follows
returns-in-Err-clause-follows g c over =
    let w = g.T.Teller.manner c.args.teller.now in
    let b = begun c.args.follower.now.revision.spec c.args.follower.now.revision.clock in
    let on = c.loop-count.invariant.on in
    let rest = unread c.loop-count.reader.input (g.S.Source.left c.loop-count.source) in
    goes_cut c.adding_laws.ensures.laws (λ es. c.args.follower.now.waiting ++ told w b es) (λ es. w.ends c.args.reader.now.version (ran b es)) c.args.reader.now.version c.args.reader.now.last c.args.reader.now.number c.loop-count.reader.number (unread c.args.reader.now.input (g.S.Source.left c.args.source.now)) rest (g.O.Sink.held c.args.out.now) (g.O.Sink.held c.write_unless.new.out) on.0 c.loop-count.reader.last c.loop-count.reader.number rest
    on.5 (told-grows c.telling_laws.ensures.laws w b c.args.follower.now.waiting)
    (c.adding_laws.ensures.laws.stop (g.O.Sink.held c.write_unless.new.out) on.4 c.in-Err.ensures.err)

pub returns-in-Ok-None-clause-follows : goal.returns-in-Ok-None-clause-follows
returns-in-Ok-None-clause-follows g c over =
    let w = g.T.Teller.manner c.args.teller.now in
    let b = begun c.args.follower.now.revision.spec c.args.follower.now.revision.clock in
    let kept = c.loop-count.invariant in
    let on = kept.on in
    let p = c.args.follower.now.waiting in
    let held = g.O.Sink.held c.args.out.now in
    let adds = c.adding_laws.ensures.laws.on on.4 c.in-Ok.ensures.ok in
    let version : c.version.result ≡ c.args.reader.now.version = c.version.ensures ∙ c.next_event.ensures.version ∙ kept.version in
    let ended = rw (version, kept.manner) at c.end.ensures.stops (ran b on.0) on.2 (sym on.3) in
    let mid = g.O.Sink.held c.write_unless.new.out in
    let x = told w b on.0 in
    let y = w.ends c.args.reader.now.version (ran b on.0) in
    let q = c.write_unless.new.self.waiting in
    let both : Adds held mid p (q ++ y) (x ++ y) = c.adding_laws.ensures.laws.more adds (c.adding_laws.ensures.laws.waits refl) refl in
    let all = c.ending_laws.ensures.laws.stop_behind held mid (g.O.Sink.held c.end.new.out) p (q ++ y) (x ++ y) status.Ok c.end.result both ended in
    goes_end (λ es. p ++ told w b es) (λ es. w.ends c.args.reader.now.version (ran b es)) c.args.reader.now.version c.args.reader.now.last c.args.reader.now.number c.next_event.new.reader.number (unread c.args.reader.now.input (g.S.Source.left c.args.source.now)) (unread c.next_event.new.reader.input (g.S.Source.left c.next_event.new.source)) held (g.O.Sink.held c.end.new.out) on.0 c.loop-count.reader.last c.loop-count.reader.number (unread c.loop-count.reader.input (g.S.Source.left c.loop-count.source)) c.end.result
    on.5 (rw kept.version at (rw c.in-Ok-None.field-0-is at c.in-Ok-None.ensures.next).gives)
    (subst (λ (z : List ℕ). Stops z held (g.O.Sink.held c.end.new.out) status.Ok c.end.result) (sym (append_assoc p x y)) all)

pub returns-in-Ok-None-clause-text : goal.returns-in-Ok-None-clause-text
returns-in-Ok-None-clause-text g c is =
    along_more c.text_laws.ensures.laws c.args.reader.now.cut c.loop-count.reader.cut c.next_event.new.reader.cut (unread c.args.reader.now.input (g.S.Source.left c.args.source.now)) (unread c.loop-count.reader.input (g.S.Source.left c.loop-count.source))
    (unread c.next_event.new.reader.input (g.S.Source.left c.next_event.new.source)) c.loop-count.invariant.along (rw c.in-Ok-None.field-0-is at c.in-Ok-None.ensures.next).text

pub returns-in-Err-next_event-clause-follows : goal.returns-in-Err-next_event-clause-follows
returns-in-Err-next_event-clause-follows g c over =
    let w = g.T.Teller.manner c.args.teller.now in
    let b = begun c.args.follower.now.revision.spec c.args.follower.now.revision.clock in
    let kept = c.loop-count.invariant in
    let on = kept.on in
    let p = c.args.follower.now.waiting in
    let held = g.O.Sink.held c.args.out.now in
    let stop = rw kept.version at c.in-Err-next_event.ensures.next in
    let adds = c.adding_laws.ensures.laws.on on.4 c.in-Ok.ensures.ok in
    goes_stop c.text_laws.ensures.laws c.adding_laws.ensures.laws (λ es. p ++ told w b es) (λ es. w.ends c.args.reader.now.version (ran b es)) c.args.reader.now.cut c.loop-count.reader.cut c.args.reader.now.version c.args.reader.now.last c.args.reader.now.number c.next_event.new.reader.number (unread c.args.reader.now.input (g.S.Source.left c.args.source.now)) (unread c.next_event.new.reader.input (g.S.Source.left c.next_event.new.source)) held (g.O.Sink.held c.stop.new.out) on.0 c.loop-count.reader.last c.loop-count.reader.number (unread c.loop-count.reader.input (g.S.Source.left c.loop-count.source)) c.in-Err-next_event.error c.stop.result
    on.5 (told-grows c.telling_laws.ensures.laws w b p) over kept.along stop.refuses (λ is. (stop.breaks is).amid) stop.memory
    (c.ending_laws.ensures.laws.stop_behind held (g.O.Sink.held c.write_unless.new.out) (g.O.Sink.held c.stop.new.out) p c.write_unless.new.self.waiting (told w b on.0) (status_of c.in-Err-next_event.error) c.stop.result adds (rw c.status_of.ensures.value at c.stop.ensures.stops))

pub returns-in-Err-next_event-clause-followed : goal.returns-in-Err-next_event-clause-followed
returns-in-Err-next_event-clause-followed g c =
    c.ending_laws.ensures.laws.stop_followed _ _ _ (status_of c.in-Err-next_event.error) c.stop.result (rw c.status_of.ensures.value at c.stop.ensures.stops)
    (c.ending_laws.ensures.laws.followed c.in-Err-next_event.error c.in-Err-next_event.ensures.next.memory)

pub returns-in-Err-take-clause-follows : goal.returns-in-Err-take-clause-follows
returns-in-Err-take-clause-follows g c over =
    let w = g.T.Teller.manner c.args.teller.now in
    let b = begun c.args.follower.now.revision.spec c.args.follower.now.revision.clock in
    let kept = c.loop-count.invariant in
    let on = kept.on in
    let p = c.args.follower.now.waiting in
    let held = g.O.Sink.held c.args.out.now in
    let known = unread c.args.reader.now.input (g.S.Source.left c.args.source.now) in
    let left = unread c.next_event.new.reader.input (g.S.Source.left c.next_event.new.source) in
    let e = c.in-Ok-Some.e in
    let read = rw c.in-Ok-Some.field-0-is at c.in-Ok-Some.ensures.next in
    let adds = c.adding_laws.ensures.laws.on on.4 c.in-Ok.ensures.ok in
    let run = subst (IsRunOf (ran b on.0)) (sym c.write_unless.ensures.revision) on.1 in
    let more = goes_more c.args.reader.now.version c.args.reader.now.last c.args.reader.now.number known on.0 c.loop-count.reader.last c.loop-count.reader.number (unread c.loop-count.reader.input (g.S.Source.left c.loop-count.source)) e c.next_event.new.reader.number left on.5 (rw kept.version at read.gives) in
    goes_cut c.adding_laws.ensures.laws (λ es. p ++ told w b es) (λ es. w.ends c.args.reader.now.version (ran b es)) c.args.reader.now.version c.args.reader.now.last c.args.reader.now.number c.next_event.new.reader.number known left held (g.O.Sink.held c.take.new.out) (on.0 ++ e ∷ []) e.time c.next_event.new.reader.number left
    more (told-grows c.telling_laws.ensures.laws w b p)
    (some_told c.adding_laws.ensures.laws c.telling_laws.ensures.laws w b on.0 e held (g.O.Sink.held c.write_unless.new.out) (g.O.Sink.held c.take.new.out) p c.write_unless.new.self.waiting adds (rw kept.manner at c.in-Err-take.ensures.err (ran b on.0) on.2 run))

-- So many events have more bytes than may be taken.
pub returns-clause-follows : goal.returns-clause-follows
returns-clause-follows g c over = absurd (omega (arith, c.loop-count.invariant.taken, c.loop-count.invariant.within.few, c.loop-count-test.false))

-- ---- the source and the sink

pub returns-in-Err-clause-cause : goal.returns-in-Err-clause-cause
returns-in-Err-clause-cause g c = record {
  never_falls = le_trans c.loop-count.invariant.write c.write_unless.ensures.cause.never_falls;
  failed = λ is. c.call_laws.ensures.laws.rose _ _ _ c.loop-count.invariant.write c.in-Err.ensures.cause.failed;
}

pub returns-in-Err-clause-draws : goal.returns-in-Err-clause-draws
returns-in-Err-clause-draws g c = c.loop-count.invariant.draws

pub returns-in-Err-clause-grows : goal.returns-in-Err-clause-grows
returns-in-Err-clause-grows g c = omega (arith, c.loop-count.invariant.taken)

pub returns-in-Ok-None-clause-draws : goal.returns-in-Ok-None-clause-draws
returns-in-Ok-None-clause-draws g c = c.call_laws.ensures.laws.draws c.loop-count.invariant.draws c.next_event.ensures.draws

pub returns-in-Ok-None-clause-grows : goal.returns-in-Ok-None-clause-grows
returns-in-Ok-None-clause-grows g c = omega (arith, c.loop-count.invariant.taken, c.next_event.ensures.grows)

pub returns-in-Ok-None-clause-cause : goal.returns-in-Ok-None-clause-cause
returns-in-Ok-None-clause-cause g c = c.call_laws.ensures.laws.caused (le_trans c.loop-count.invariant.write c.write_unless.ensures.cause.never_falls) c.end.ensures.cause

pub returns-in-Err-next_event-clause-broken : goal.returns-in-Err-next_event-clause-broken
returns-in-Err-next_event-clause-broken g c fault =
    let is = c.ending_laws.ensures.laws.read_fault c.in-Err-next_event.error (c.ending_laws.ensures.laws.stop_read_fault _ _ _ (status_of c.in-Err-next_event.error) c.stop.result (rw c.status_of.ensures.value at c.stop.ensures.stops) fault) in
    let breaks = c.in-Err-next_event.ensures.next.breaks is in
    c.call_laws.ensures.laws.broken c.loop-count.invariant.draws.never_falls breaks.spent breaks.fault

pub returns-in-Err-next_event-clause-draws : goal.returns-in-Err-next_event-clause-draws
returns-in-Err-next_event-clause-draws g c = c.call_laws.ensures.laws.draws c.loop-count.invariant.draws c.next_event.ensures.draws

pub returns-in-Err-next_event-clause-grows : goal.returns-in-Err-next_event-clause-grows
returns-in-Err-next_event-clause-grows g c = omega (arith, c.loop-count.invariant.taken, c.next_event.ensures.grows)

pub returns-in-Err-next_event-clause-cause : goal.returns-in-Err-next_event-clause-cause
returns-in-Err-next_event-clause-cause g c =
    c.call_laws.ensures.laws.caused (le_trans c.loop-count.invariant.write c.write_unless.ensures.cause.never_falls)
    (c.stop.ensures.cause (λ is. c.ending_laws.ensures.laws.never_write_fault c.in-Err-next_event.error (sym c.status_of.ensures.value ∙ is)))

pub returns-in-Err-take-clause-draws : goal.returns-in-Err-take-clause-draws
returns-in-Err-take-clause-draws g c = c.call_laws.ensures.laws.draws c.loop-count.invariant.draws c.next_event.ensures.draws

pub returns-in-Err-take-clause-grows : goal.returns-in-Err-take-clause-grows
returns-in-Err-take-clause-grows g c = omega (arith, c.loop-count.invariant.taken, c.next_event.ensures.grows)

pub returns-in-Err-take-clause-cause : goal.returns-in-Err-take-clause-cause
returns-in-Err-take-clause-cause g c =
    let before = le_trans c.loop-count.invariant.write c.write_unless.ensures.cause.never_falls in
    record { never_falls = le_trans before c.take.ensures.cause.never_falls; failed = λ is. c.call_laws.ensures.laws.rose _ _ _ before c.in-Err-take.ensures.cause.failed }

pub returns-clause-broken : goal.returns-clause-broken
returns-clause-broken g c fault = absurd (omega (arith, c.loop-count.invariant.taken, c.loop-count.invariant.within.few, c.loop-count-test.false))

pub returns-clause-draws : goal.returns-clause-draws
returns-clause-draws g c = c.loop-count.invariant.draws

pub returns-clause-grows : goal.returns-clause-grows
returns-clause-grows g c = omega (arith, c.loop-count.invariant.taken)

pub returns-clause-cause : goal.returns-clause-cause
returns-clause-cause g c = c.call_laws.ensures.laws.caused c.loop-count.invariant.write (c.stop-2.ensures.cause (c.ending_laws.ensures.laws.never_write_fault error.ReadFault))
