use Rattle.std.proofs.Common.{◌≡◌, ◌+◌, ◌++◌, ℕ, [], ◌∷◌, ◌≤◌, length, length-append, refl, sym, ap, ◌∙◌, subst, arith, le_trans}
use Rattle.kn_core.specs.State.{RevisionState}
use Rattle.kn_journal.specs.declared.status.Status.TheVariants as status
use Rattle.kn_journal.specs.Reading.{unread}
use Rattle.kn_journal.specs.Telling.{ReaderState}
use Rattle.kn_follow.specs.Endings.{status_of}
use Rattle.kn_report.specs.Waiting.{Adds}
use Rattle.kn_teller.specs.Run.{IsRunOf, begun}
use Rattle.kn_follow.specs.Following.{Running, ran}
use Rattle.kn_follow.proofs.Nexts.{FindsEvent, found_ahead, broken_on, caused_on, draws_on}
use Rattle.kn_follow.proofs.Runs.{now_later}
use Rattle.kn_follow.proofs.Cuts.{cut_event, cut_full, cut_good, cut_stop, stop_cut}
use Rattle.kn_follow.proofs.Faults.{goes_stop, goes_unwritten, read_begin, read_more}
use Rattle.kn_follow.proofs.Behind.{goes_behind, stop_refused, stop_unrefused}
use Rattle.kn_follow.proofs.Follows.{ends_there, goes_begin, goes_cut, goes_good, goes_more, still_begin, still_more, told-more, told-nil}
use Rattle.kn_follow.proofs.Statuses.{IsWriteFault, end_unrefused, fault_of, followed_of, no_write_fault, rose_on, stop_followed, stop_reads}
use Rattle.kn_follow.proofs.follower.Follower.follow.Given.{Over}
use Rattle.kn_follow.proofs.follower.Follower.follow.Goals as goal
use Rattle.kn_follow.proofs.follower.Follower.follow.Goals.{in-Some, in-None+in-Ok-Ok-Some}

pub loop-count-init : goal.loop-count-init
loop-count-init g c = record {
  on =
      let w = g.T.Teller.manner c.args.teller.now in
      let b = begun c.args.self.now.revision.spec c.args.self.now.revision.clock in (
        [],
        record { stands = c.requires.stands; spec = refl; now = refl {a = c.args.self.now.revision.clock} },
        c.requires.knows,
        refl,
        subst (Adds (g.O.Sink.held c.args.out.now) (g.O.Sink.held c.args.out.now) c.args.self.now.waiting c.args.self.now.waiting) (sym (told-nil w b)) c.adding_laws.ensures.laws.nothing,
        goes_begin c.args.reader.now.version c.args.reader.now.last c.args.reader.now.number (unread c.args.reader.now.input (g.S.Source.left c.args.source.now)),
      );
  bytes = λ over. read_begin c.args.reader.now.cut (unread c.args.reader.now.input (g.S.Source.left c.args.source.now)) over;
  still = still_begin _;
  manner = refl;
  load = omega (arith, c.requires.load);
  sound = c.requires.ready.sound;
  version = refl;
  last = c.requires.ready.last;
  clock = c.requires.ready.clock;
  events = c.requires.ready.events;
  taken = omega arith;
  draws = record { balance = refl; never_falls = omega arith };
  write = omega arith;
}

pub returns-in-Err-clause-follows : goal.returns-in-Err-clause-follows
returns-in-Err-clause-follows g c over =
    let w = g.T.Teller.manner c.args.teller.now in
    let b = begun c.args.self.now.revision.spec c.args.self.now.revision.clock in
    let on = c.loop-count.invariant.on in
    rw (c.in-Err.ensures.still.0, c.in-Err.ensures.still.1, c.in-None.ensures.same refl)
    (goes_unwritten c.adding_laws.ensures.laws c.args.reader.now.cut c.args.reader.now.version w b c.args.reader.now.last c.args.reader.now.number (unread c.args.reader.now.input (g.S.Source.left c.args.source.now)) c.args.self.now.waiting c.loop-count.self.waiting (g.O.Sink.held c.args.out.now) (g.O.Sink.held c.loop-count.out) (g.O.Sink.held c.next.new.out) on.0 c.loop-count.reader.last c.loop-count.reader.number (unread c.loop-count.reader.input (g.S.Source.left c.loop-count.source))
    on.5 on.4 c.in-Err.ensures.failed)

pub returns-in-Err-clause-rest : goal.returns-in-Err-clause-rest
returns-in-Err-clause-rest g c refused = absurd refused

pub returns-in-Err-clause-cut : goal.returns-in-Err-clause-cut
returns-in-Err-clause-cut g c over fault =
    let w = g.T.Teller.manner c.args.teller.now in
    let b = begun c.args.self.now.revision.spec c.args.self.now.revision.clock in
    let on = c.loop-count.invariant.on in
    rw (c.in-Err.ensures.still.0, c.in-Err.ensures.still.1, c.in-None.ensures.same refl)
    (cut_full c.args.reader.now.version w b c.args.reader.now.last c.args.reader.now.number (unread c.args.reader.now.input (g.S.Source.left c.args.source.now)) c.args.self.now.waiting c.loop-count.self.waiting (g.O.Sink.held c.args.out.now) (g.O.Sink.held c.loop-count.out) (g.O.Sink.held c.next.new.out) on.0 c.loop-count.reader.last c.loop-count.reader.number (unread c.loop-count.reader.input (g.S.Source.left c.loop-count.source))
    on.5 on.4 c.in-Err.ensures.failed c.next.ensures.room)

pub returns-in-Ok-Ok-None-clause-follows : goal.returns-in-Ok-Ok-None-clause-follows
returns-in-Ok-Ok-None-clause-follows g c over =
    let w = g.T.Teller.manner c.args.teller.now in
    let b = begun c.args.self.now.revision.spec c.args.self.now.revision.clock in
    let kept = c.loop-count.invariant in
    let on = kept.on in
    let adds = c.adding_laws.ensures.laws.on on.4 c.in-Ok-Ok-None.ensures.adds in
    let version : c.version.result ≡ c.args.reader.now.version = c.version.ensures ∙ c.next.ensures.version ∙ ap (λ (r : ReaderState). r.version) (c.in-None.ensures.same refl) ∙ kept.version in
    let gives = rw (c.in-None.ensures.same refl, c.in-Ok-Ok-None.field-0-is, c.in-Ok-Ok-None.field-0-0-is, kept.version) at c.in-Ok-Ok-None.ensures.next in
    let ended = rw (version, kept.manner) at c.end.ensures.stops (ran b on.0) on.2 (sym on.3) in
    goes_good c.adding_laws.ensures.laws c.args.reader.now.cut c.args.reader.now.version w b c.args.reader.now.last c.args.reader.now.number (unread c.args.reader.now.input (g.S.Source.left c.args.source.now)) c.args.self.now.waiting c.next.new.self.waiting (g.O.Sink.held c.args.out.now) (g.O.Sink.held c.next.new.out) (g.O.Sink.held c.end.new.out) on.0 c.loop-count.reader.last c.loop-count.reader.number (unread c.loop-count.reader.input (g.S.Source.left c.loop-count.source)) c.next.new.reader.number (unread c.next.new.reader.input (g.S.Source.left c.next.new.source)) c.end.result
    on.5 gives adds ended

pub returns-in-Ok-Ok-None-clause-rest : goal.returns-in-Ok-Ok-None-clause-rest
returns-in-Ok-Ok-None-clause-rest g c refused = absurd (end_unrefused c.end.result c.end.ensures.only refused)

pub returns-in-Ok-Ok-None-clause-cut : goal.returns-in-Ok-Ok-None-clause-cut
returns-in-Ok-Ok-None-clause-cut g c over fault =
    let w = g.T.Teller.manner c.args.teller.now in
    let b = begun c.args.self.now.revision.spec c.args.self.now.revision.clock in
    let kept = c.loop-count.invariant in
    let on = kept.on in
    let adds = c.adding_laws.ensures.laws.on on.4 c.in-Ok-Ok-None.ensures.adds in
    let gives = rw (c.in-None.ensures.same refl, c.in-Ok-Ok-None.field-0-is, c.in-Ok-Ok-None.field-0-0-is, kept.version) at c.in-Ok-Ok-None.ensures.next in
    let some = stop_cut _ _ _ status.Ok c.end.result (c.end.ensures.stops (ran b on.0) on.2 (sym on.3)) fault (λ is. subst IsWriteFault (sym is) tt) in
    cut_good c.args.reader.now.version w b c.args.reader.now.last c.args.reader.now.number (unread c.args.reader.now.input (g.S.Source.left c.args.source.now)) c.args.self.now.waiting c.next.new.self.waiting _ (g.O.Sink.held c.args.out.now) (g.O.Sink.held c.next.new.out) (g.O.Sink.held c.end.new.out) on.0 c.loop-count.reader.last c.loop-count.reader.number (unread c.loop-count.reader.input (g.S.Source.left c.loop-count.source)) c.next.new.reader.number (unread c.next.new.reader.input (g.S.Source.left c.next.new.source))
    on.5 gives adds some c.next.ensures.fits

pub returns-in-Ok-Ok-None-clause-ended : goal.returns-in-Ok-Ok-None-clause-ended
returns-in-Ok-Ok-None-clause-ended g c ok =
    let kept = c.loop-count.invariant in
    ends_there c.loop-count.reader.version c.loop-count.reader.last c.loop-count.reader.number c.next.new.reader.number (unread c.args.reader.now.input (g.S.Source.left c.args.source.now)) (unread c.loop-count.reader.input (g.S.Source.left c.loop-count.source)) (unread c.next.new.reader.input (g.S.Source.left c.next.new.source)) kept.still
    (rw (c.in-None.ensures.same refl, c.in-Ok-Ok-None.field-0-is, c.in-Ok-Ok-None.field-0-0-is) at c.in-Ok-Ok-None.ensures.next)

pub returns-in-Ok-Err-clause-follows : goal.returns-in-Ok-Err-clause-follows
returns-in-Ok-Err-clause-follows g c over =
    let w = g.T.Teller.manner c.args.teller.now in
    let b = begun c.args.self.now.revision.spec c.args.self.now.revision.clock in
    let kept = c.loop-count.invariant in
    let stop = rw (c.in-None.ensures.same refl, c.in-Ok-Err.field-0-is, kept.version) at c.in-Ok-Err.ensures.next in
    let on = kept.on in
    let adds = c.adding_laws.ensures.laws.on on.4 c.in-Ok-Err.ensures.adds in
    let left = (unread c.next.new.reader.input (g.S.Source.left c.next.new.source)) in
    goes_stop c.adding_laws.ensures.laws c.text_laws.ensures.laws c.args.reader.now.cut c.loop-count.reader.cut c.args.reader.now.version w b c.args.reader.now.last c.args.reader.now.number (unread c.args.reader.now.input (g.S.Source.left c.args.source.now)) c.args.self.now.waiting c.next.new.self.waiting (g.O.Sink.held c.args.out.now) (g.O.Sink.held c.next.new.out) (g.O.Sink.held c.stop.new.out) on.0 c.loop-count.reader.last c.loop-count.reader.number (unread c.loop-count.reader.input (g.S.Source.left c.loop-count.source)) left c.in-Ok-Err.error c.stop.result
    on.5 (kept.bytes over) stop.refuses
    (λ is. (stop.breaks is).amid) (λ is. (stop.breaks is).uncut) stop.memory
    adds (rw c.status_of.ensures.value at c.stop.ensures.stops)

pub returns-in-Ok-Err-clause-rest : goal.returns-in-Ok-Err-clause-rest
returns-in-Ok-Err-clause-rest g c refused =
    let kept = c.loop-count.invariant in
    let stop = rw (c.in-None.ensures.same refl, c.in-Ok-Err.field-0-is, kept.version) at c.in-Ok-Err.ensures.next in
    let on = kept.on in
    let said = stop_refused _ _ _ c.in-Ok-Err.error c.stop.result (rw c.status_of.ensures.value at c.stop.ensures.stops) refused in
    goes_behind c.args.reader.now.version c.args.reader.now.last c.args.reader.now.number (unread c.args.reader.now.input (g.S.Source.left c.args.source.now)) on.0 c.loop-count.reader.last c.loop-count.reader.number (unread c.loop-count.reader.input (g.S.Source.left c.loop-count.source)) (unread c.next.new.reader.input (g.S.Source.left c.next.new.source)) c.in-Ok-Err.error c.stop.result
    on.5 (stop.rest said.1) said.0

pub returns-in-Ok-Err-clause-cut : goal.returns-in-Ok-Err-clause-cut
returns-in-Ok-Err-clause-cut g c over fault =
    let w = g.T.Teller.manner c.args.teller.now in
    let b = begun c.args.self.now.revision.spec c.args.self.now.revision.clock in
    let kept = c.loop-count.invariant in
    let stop = rw (c.in-None.ensures.same refl, c.in-Ok-Err.field-0-is, kept.version) at c.in-Ok-Err.ensures.next in
    let on = kept.on in
    let adds = c.adding_laws.ensures.laws.on on.4 c.in-Ok-Err.ensures.adds in
    let some = stop_cut _ _ _ (status_of c.in-Ok-Err.error) c.stop.result (rw c.status_of.ensures.value at c.stop.ensures.stops) fault (no_write_fault c.in-Ok-Err.error) in
    cut_stop c.text_laws.ensures.laws c.args.reader.now.cut c.loop-count.reader.cut c.args.reader.now.version w b c.args.reader.now.last c.args.reader.now.number (unread c.args.reader.now.input (g.S.Source.left c.args.source.now)) c.args.self.now.waiting c.next.new.self.waiting _ (g.O.Sink.held c.args.out.now) (g.O.Sink.held c.next.new.out) (g.O.Sink.held c.stop.new.out) on.0 c.loop-count.reader.last c.loop-count.reader.number (unread c.loop-count.reader.input (g.S.Source.left c.loop-count.source)) (unread c.next.new.reader.input (g.S.Source.left c.next.new.source)) c.in-Ok-Err.error
    on.5 (kept.bytes over) stop.refuses
    (λ is. (stop.breaks is).amid) stop.memory stop.rest adds some c.next.ensures.fits

pub returns-in-Ok-Err-clause-followed : goal.returns-in-Ok-Err-clause-followed
returns-in-Ok-Err-clause-followed g c =
    let kept = c.loop-count.invariant in
    stop_followed _ _ _ (status_of c.in-Ok-Err.error) c.stop.result (rw c.status_of.ensures.value at c.stop.ensures.stops)
    (followed_of c.in-Ok-Err.error (rw (c.in-None.ensures.same refl, c.in-Ok-Err.field-0-is) at c.in-Ok-Err.ensures.next).memory)

-- the event was found ahead, or was read, where writing failed behind it
found_cut : (g : Over) (c : goal.In-Err-take g) → FindsEvent c.loop-count.reader c.match-next_ahead.reader (unread c.loop-count.reader.input (g.S.Source.left c.loop-count.source)) (unread c.match-next_ahead.reader.input (g.S.Source.left c.match-next_ahead.source)) c.match-next_ahead.e c.loop-count.self.revision c.match-next_ahead.self.revision
    c.loop-count.self.waiting c.match-next_ahead.self.waiting (g.O.Sink.held c.loop-count.out) (g.O.Sink.held c.match-next_ahead.out)
    (g.S.Source.given c.loop-count.source) (g.S.Source.given c.match-next_ahead.source) (g.S.Faulty.faults c.loop-count.source) (g.S.Faulty.faults c.match-next_ahead.source)
    (g.O.Faulty.faults c.loop-count.out) (g.O.Faulty.faults c.match-next_ahead.out)
found_cut g c =
    let kept = c.loop-count.invariant in
    elim c.match-next_ahead.branch [
      | in-Some w ↦
          rw (w.self-is, w.reader-is, w.source-is, w.out-is, w.e-is)
          (found_ahead c.adding_laws.ensures.laws c.loop-count.reader c.next_ahead.new.self (g.S.Source.left c.loop-count.source) w.in-Some.e c.loop-count.self.revision c.loop-count.self.waiting (g.O.Sink.held c.loop-count.out) (g.S.Source.given c.loop-count.source) (g.S.Faulty.faults c.loop-count.source) (g.O.Faulty.faults c.loop-count.out)
          kept.sound w.in-Some.ensures.reads w.in-Some.ensures.event w.in-Some.ensures.last w.in-Some.ensures.bytes w.in-Some.ensures.journal w.in-Some.ensures.few w.in-Some.ensures.failed w.in-Some.ensures.balance (subst (λ (x : Running). length x.waiting ≤ 65536) c.self.view_is c.len-few.ensures.most))
      | in-None+in-Ok-Ok-Some w ↦
          let same = w.in-None.ensures.same refl in
          rw (w.self-is, w.reader-is, w.source-is, w.out-is, w.e-is)
          (record {
            taken = rw (same, w.in-Ok-Ok-Some.field-0-is, w.in-Ok-Ok-Some.field-0-0-is) at w.in-Ok-Ok-Some.ensures.next;
            adds = w.in-Ok-Ok-Some.ensures.adds;
            revision = w.next.ensures.revision;
            version = rw same at w.next.ensures.version;
            draws = rw same at w.next.ensures.draws;
            cause = w.next.ensures.cause.never_falls;
            fits = w.next.ensures.fits;
          })
    ]

-- .. and where it didn't
found_on : (g : Over) (c : goal.In-Ok g) → FindsEvent c.loop-count.reader c.match-next_ahead.reader (unread c.loop-count.reader.input (g.S.Source.left c.loop-count.source)) (unread c.match-next_ahead.reader.input (g.S.Source.left c.match-next_ahead.source)) c.match-next_ahead.e c.loop-count.self.revision c.match-next_ahead.self.revision
    c.loop-count.self.waiting c.match-next_ahead.self.waiting (g.O.Sink.held c.loop-count.out) (g.O.Sink.held c.match-next_ahead.out)
    (g.S.Source.given c.loop-count.source) (g.S.Source.given c.match-next_ahead.source) (g.S.Faulty.faults c.loop-count.source) (g.S.Faulty.faults c.match-next_ahead.source)
    (g.O.Faulty.faults c.loop-count.out) (g.O.Faulty.faults c.match-next_ahead.out)
found_on g c =
    let kept = c.loop-count.invariant in
    elim c.match-next_ahead.branch [
      | in-Some w ↦
          rw (w.self-is, w.reader-is, w.source-is, w.out-is, w.e-is)
          (found_ahead c.adding_laws.ensures.laws c.loop-count.reader c.next_ahead.new.self (g.S.Source.left c.loop-count.source) w.in-Some.e c.loop-count.self.revision c.loop-count.self.waiting (g.O.Sink.held c.loop-count.out) (g.S.Source.given c.loop-count.source) (g.S.Faulty.faults c.loop-count.source) (g.O.Faulty.faults c.loop-count.out)
          kept.sound w.in-Some.ensures.reads w.in-Some.ensures.event w.in-Some.ensures.last w.in-Some.ensures.bytes w.in-Some.ensures.journal w.in-Some.ensures.few w.in-Some.ensures.failed w.in-Some.ensures.balance (subst (λ (x : Running). length x.waiting ≤ 65536) c.self.view_is c.len-few.ensures.most))
      | in-None+in-Ok-Ok-Some w ↦
          let same = w.in-None.ensures.same refl in
          rw (w.self-is, w.reader-is, w.source-is, w.out-is, w.e-is)
          (record {
            taken = rw (same, w.in-Ok-Ok-Some.field-0-is, w.in-Ok-Ok-Some.field-0-0-is) at w.in-Ok-Ok-Some.ensures.next;
            adds = w.in-Ok-Ok-Some.ensures.adds;
            revision = w.next.ensures.revision;
            version = rw same at w.next.ensures.version;
            draws = rw same at w.next.ensures.draws;
            cause = w.next.ensures.cause.never_falls;
            fits = w.next.ensures.fits;
          })
    ]

pub take-requires-clause-order : goal.take-requires-clause-order
take-requires-clause-order g c =
    let kept = c.loop-count.invariant in
    elim c.match-next_ahead.branch [
      | in-Some w ↦ rw (w.self-is, w.e-is) (omega (arith, w.in-Some.ensures.event.order, kept.last))
      | in-None+in-Ok-Ok-Some w ↦
          let read = rw (w.in-None.ensures.same refl, w.in-Ok-Ok-Some.field-0-is, w.in-Ok-Ok-Some.field-0-0-is) at w.in-Ok-Ok-Some.ensures.next in
          rw (w.self-is, w.e-is) (omega (arith, read.order, kept.last, ap (λ (x : RevisionState). x.clock) w.next.ensures.revision))
    ]

pub take-requires-clause-few : goal.take-requires-clause-few
take-requires-clause-few g c = omega (arith, c.loop-count.invariant.load, c.loop-count-test.true)

pub end-requires : goal.end-requires
end-requires g c = omega (arith, c.loop-count.invariant.load, c.loop-count-test.true)

pub returns-in-Err-take-clause-follows : goal.returns-in-Err-take-clause-follows
returns-in-Err-take-clause-follows g c over =
    let found = found_cut g c in
    let w = g.T.Teller.manner c.args.teller.now in
    let b = begun c.args.self.now.revision.spec c.args.self.now.revision.clock in
    let kept = c.loop-count.invariant in
    let on = kept.on in
    let adds = c.adding_laws.ensures.laws.on on.4 found.adds in
    let left = (unread c.match-next_ahead.reader.input (g.S.Source.left c.match-next_ahead.source)) in
    let gives = rw kept.version at found.taken.gives in
    let run = subst (IsRunOf (ran b on.0)) (sym found.revision) on.1 in
    goes_cut c.adding_laws.ensures.laws c.args.reader.now.cut c.args.reader.now.version w b c.args.reader.now.last c.args.reader.now.number (unread c.args.reader.now.input (g.S.Source.left c.args.source.now)) c.args.self.now.waiting c.match-next_ahead.self.waiting (g.O.Sink.held c.args.out.now) (g.O.Sink.held c.match-next_ahead.out) (g.O.Sink.held c.take.new.out) on.0 c.loop-count.reader.last c.loop-count.reader.number (unread c.loop-count.reader.input (g.S.Source.left c.loop-count.source)) c.match-next_ahead.e c.match-next_ahead.reader.number left left
    on.5 gives adds (rw kept.manner at c.in-Err-take.ensures.err (ran b on.0) on.2 run)

pub returns-in-Err-take-clause-rest : goal.returns-in-Err-take-clause-rest
returns-in-Err-take-clause-rest g c refused = absurd refused

pub returns-in-Err-take-clause-cut : goal.returns-in-Err-take-clause-cut
returns-in-Err-take-clause-cut g c over fault =
    let found = found_cut g c in
    let w = g.T.Teller.manner c.args.teller.now in
    let b = begun c.args.self.now.revision.spec c.args.self.now.revision.clock in
    let kept = c.loop-count.invariant in
    let on = kept.on in
    let adds = c.adding_laws.ensures.laws.on on.4 found.adds in
    let run = subst (IsRunOf (ran b on.0)) (sym found.revision) on.1 in
    let gives = rw kept.version at found.taken.gives in
    cut_event c.args.reader.now.version w b c.args.reader.now.last c.args.reader.now.number (unread c.args.reader.now.input (g.S.Source.left c.args.source.now)) c.args.self.now.waiting c.match-next_ahead.self.waiting _ (g.O.Sink.held c.args.out.now) (g.O.Sink.held c.match-next_ahead.out) (g.O.Sink.held c.take.new.out) on.0 c.loop-count.reader.last c.loop-count.reader.number (unread c.loop-count.reader.input (g.S.Source.left c.loop-count.source)) c.match-next_ahead.e c.match-next_ahead.reader.number (unread c.match-next_ahead.reader.input (g.S.Source.left c.match-next_ahead.source))
    on.5 gives adds (c.in-Err-take.ensures.err (ran b on.0) on.2 run) found.fits

pub loop-count-preserved : goal.loop-count-preserved
loop-count-preserved g c =
    let found = found_on g c in
    let kept = c.loop-count.invariant in
    let on = kept.on in
    let w = g.T.Teller.manner c.args.teller.now in
    let b = begun c.args.self.now.revision.spec c.args.self.now.revision.clock in
    let e = c.match-next_ahead.e in
    let read = found.taken in
    let last : c.match-next_ahead.reader.last ≡ e.time = read.last in
    let run = subst (IsRunOf (ran b on.0)) (sym found.revision) on.1 in
    let adds = c.adding_laws.ensures.laws.on on.4 found.adds in
    let step = c.take.ensures.takes.steps (ran b on.0) run in
    let wrote = rw kept.manner at c.in-Ok.ensures.ok (ran b on.0) on.2 run in
    record {
      on = (
        on.0 ++ e ∷ [],
        record { stands = step.stands; spec = step.spec; now = now_later (ran b on.0) e ∙ sym step.clock },
        c.in-Ok.ensures.knows (ran b on.0) on.2 run,
        length-append on.0 (e ∷ []) ∙ ap (λ (n : ℕ). n + 1) on.3,
        c.adding_laws.ensures.laws.more adds wrote (sym (told-more w b on.0 e)),
        rw last (goes_more c.args.reader.now.version c.args.reader.now.last c.args.reader.now.number _ on.0 c.loop-count.reader.last c.loop-count.reader.number _ e c.match-next_ahead.reader.number _ on.5 (rw kept.version at read.gives)),
      );
      bytes = λ over.
          read_more c.text_laws.ensures.laws c.args.reader.now.cut c.loop-count.reader.cut c.match-next_ahead.reader.cut (unread c.args.reader.now.input (g.S.Source.left c.args.source.now)) (unread c.loop-count.reader.input (g.S.Source.left c.loop-count.source)) (unread c.match-next_ahead.reader.input (g.S.Source.left c.match-next_ahead.source))
          (kept.bytes over) read.text;
      still =
          still_more c.loop-count.reader.version c.loop-count.reader.last c.loop-count.reader.number e c.match-next_ahead.reader.number (unread c.args.reader.now.input (g.S.Source.left c.args.source.now)) (unread c.loop-count.reader.input (g.S.Source.left c.loop-count.source)) (unread c.match-next_ahead.reader.input (g.S.Source.left c.match-next_ahead.source)) kept.still read.gives;
      sound = read.sound;
      version = found.version ∙ kept.version;
      last = last ∙ sym step.clock;
      clock = omega (arith, read.times, step.clock);
      events = omega (arith, kept.events, c.take.ensures.takes.events, ap (λ (x : RevisionState). x.events) found.revision);
      manner = c.in-Ok.ensures.manner ∙ kept.manner;
      load = omega (arith, kept.load, c.in-Ok.ensures.few);
      taken = omega (arith, kept.taken, read.bytes);
      draws = draws_on kept.draws found.draws;
      write = omega (arith, kept.write, found.cause, c.take.ensures.cause.never_falls);
    }

pub returns-clause-follows : goal.returns-clause-follows
returns-clause-follows g c over = absurd (omega (arith, c.loop-count.invariant.taken, c.loop-count.invariant.sound.few, c.loop-count-test.false))

pub returns-clause-rest : goal.returns-clause-rest
returns-clause-rest g c refused = absurd (stop_unrefused _ _ _ status.ReadFault c.stop-2.result c.stop-2.ensures.stops (λ h. h) refused)

-- So many events have more bytes than may be taken.
pub returns-clause-cut : goal.returns-clause-cut
returns-clause-cut g c over fault = absurd (omega (arith, c.loop-count.invariant.taken, c.loop-count.invariant.sound.few, c.loop-count-test.false))

-- ---- the source and the sink

pub returns-in-Err-clause-draws : goal.returns-in-Err-clause-draws
returns-in-Err-clause-draws g c = draws_on c.loop-count.invariant.draws (rw (c.in-None.ensures.same refl) at c.next.ensures.draws)

pub returns-in-Err-clause-cause : goal.returns-in-Err-clause-cause
returns-in-Err-clause-cause g c = record {
  never_falls = le_trans c.loop-count.invariant.write c.next.ensures.cause.never_falls;
  failed = λ is. rose_on _ _ _ c.loop-count.invariant.write c.in-Err.ensures.cause.failed;
}

pub returns-in-Ok-Ok-None-clause-draws : goal.returns-in-Ok-Ok-None-clause-draws
returns-in-Ok-Ok-None-clause-draws g c = draws_on c.loop-count.invariant.draws (rw (c.in-None.ensures.same refl) at c.next.ensures.draws)

pub returns-in-Ok-Ok-None-clause-cause : goal.returns-in-Ok-Ok-None-clause-cause
returns-in-Ok-Ok-None-clause-cause g c = caused_on (le_trans c.loop-count.invariant.write c.next.ensures.cause.never_falls) c.end.ensures.cause

pub returns-in-Ok-Err-clause-broken : goal.returns-in-Ok-Err-clause-broken
returns-in-Ok-Err-clause-broken g c fault =
    let stop = rw (c.in-None.ensures.same refl, c.in-Ok-Err.field-0-is) at c.in-Ok-Err.ensures.next in
    let is = fault_of c.in-Ok-Err.error (stop_reads _ _ _ (status_of c.in-Ok-Err.error) c.stop.result (rw c.status_of.ensures.value at c.stop.ensures.stops) fault) in
    let breaks = stop.breaks is in
    broken_on c.loop-count.invariant.draws.never_falls breaks.spent breaks.fault

pub returns-in-Ok-Err-clause-draws : goal.returns-in-Ok-Err-clause-draws
returns-in-Ok-Err-clause-draws g c = draws_on c.loop-count.invariant.draws (rw (c.in-None.ensures.same refl) at c.next.ensures.draws)

pub returns-in-Ok-Err-clause-cause : goal.returns-in-Ok-Err-clause-cause
returns-in-Ok-Err-clause-cause g c =
    caused_on (le_trans c.loop-count.invariant.write c.next.ensures.cause.never_falls)
    (c.stop.ensures.cause (λ is. no_write_fault c.in-Ok-Err.error (sym c.status_of.ensures.value ∙ is)))

pub returns-in-Err-take-clause-draws : goal.returns-in-Err-take-clause-draws
returns-in-Err-take-clause-draws g c = draws_on c.loop-count.invariant.draws (found_cut g c).draws

pub returns-in-Err-take-clause-cause : goal.returns-in-Err-take-clause-cause
returns-in-Err-take-clause-cause g c =
    let found = found_cut g c in
    let before = le_trans c.loop-count.invariant.write found.cause in
    record { never_falls = le_trans before c.take.ensures.cause.never_falls; failed = λ is. rose_on _ _ _ before c.in-Err-take.ensures.cause.failed }

pub returns-clause-broken : goal.returns-clause-broken
returns-clause-broken g c fault = absurd (omega (arith, c.loop-count.invariant.taken, c.loop-count.invariant.sound.few, c.loop-count-test.false))

pub returns-clause-draws : goal.returns-clause-draws
returns-clause-draws g c = c.loop-count.invariant.draws

pub returns-clause-cause : goal.returns-clause-cause
returns-clause-cause g c = caused_on c.loop-count.invariant.write (c.stop-2.ensures.cause (λ is. subst IsWriteFault (sym is) tt))
