use Rattle.std.proofs.Common.{◌++◌, ◌∷◌, ◌∙◌, [], refl, sym, arith, inl}
use Rattle.std.proofs.KnownBytes.{Appends-nil}
use Rattle.kn_journal.specs.declared.status.Status.TheVariants as status
use Rattle.kn_journal.specs.Reading.{unread}
use Rattle.kn_bundle.proofs.Alongs.{along_begin, along_more, along_text}
use Rattle.kn_bundle.proofs.Courses.{goes_begin, goes_more}
use Rattle.kn_bundle.proofs.Ends.{goes_end, goes_stop}
use Rattle.kn_bundle.proofs.events.skip_events.Goals as goal

pub loop-count-init : goal.loop-count-init
loop-count-init g c = record {
  on = ([], goes_begin c.args.reader.now.version c.args.reader.now.last c.args.reader.now.number (unread c.args.reader.now.input (g.S.Source.left c.args.source.now)));
  along = along_begin c.args.reader.now.cut (unread c.args.reader.now.input (g.S.Source.left c.args.source.now));
  within = c.requires.within;
  version = refl;
  taken = omega arith;
  draws = record { balance = refl; never_falls = omega arith };
}

pub next_event-requires : goal.next_event-requires
next_event-requires g c = record { within = c.loop-count.invariant.within }

pub loop-count-preserved : goal.loop-count-preserved
loop-count-preserved g c =
    let kept = c.loop-count.invariant in
    let read = rw c.in-Ok-Some.field-0-is at c.in-Ok-Some.ensures.next in
    let known = unread c.args.reader.now.input (g.S.Source.left c.args.source.now) in
    let rest = unread c.loop-count.reader.input (g.S.Source.left c.loop-count.source) in
    let left = unread c.next_event.new.reader.input (g.S.Source.left c.next_event.new.source) in
    let e = c.in-Ok-Some.field-0-0 in
    record {
      on = (
        kept.on.0 ++ e ∷ [],
        rw read.last (goes_more c.args.reader.now.version c.args.reader.now.last c.args.reader.now.number known kept.on.0 c.loop-count.reader.last c.loop-count.reader.number rest e c.next_event.new.reader.number left kept.on.1 (rw kept.version at read.gives)),
      );
      along =
          along_text c.args.reader.now.cut c.next_event.new.reader.cut known left
          (along_more c.text_laws.ensures.laws c.args.reader.now.cut c.loop-count.reader.cut c.next_event.new.reader.cut known rest left kept.along read.text);
      within = read.within;
      version = c.next_event.ensures.version ∙ kept.version;
      taken = omega (arith, kept.taken, read.bytes);
      draws = c.call_laws.ensures.laws.draws kept.draws c.next_event.ensures.draws;
    }

pub returns-in-Ok-None-clause-skips : goal.returns-in-Ok-None-clause-skips
returns-in-Ok-None-clause-skips g c out over =
    let kept = c.loop-count.invariant in
    let read = rw c.in-Ok-None.field-0-is at c.in-Ok-None.ensures.next in
    let known = unread c.args.reader.now.input (g.S.Source.left c.args.source.now) in
    let rest = unread c.loop-count.reader.input (g.S.Source.left c.loop-count.source) in
    let left = unread c.next_event.new.reader.input (g.S.Source.left c.next_event.new.source) in
    goes_end (λ es. []) (λ es. []) c.args.reader.now.version c.args.reader.now.last c.args.reader.now.number c.next_event.new.reader.number known left out out kept.on.0 c.loop-count.reader.last c.loop-count.reader.number rest status.Ok
    kept.on.1 (rw kept.version at read.gives) (inl (refl, Appends-nil out))

pub returns-in-Ok-None-clause-text : goal.returns-in-Ok-None-clause-text
returns-in-Ok-None-clause-text g c is =
    along_more c.text_laws.ensures.laws c.args.reader.now.cut c.loop-count.reader.cut c.next_event.new.reader.cut (unread c.args.reader.now.input (g.S.Source.left c.args.source.now)) (unread c.loop-count.reader.input (g.S.Source.left c.loop-count.source))
    (unread c.next_event.new.reader.input (g.S.Source.left c.next_event.new.source)) c.loop-count.invariant.along (rw c.in-Ok-None.field-0-is at c.in-Ok-None.ensures.next).text

pub returns-in-Ok-None-clause-draws : goal.returns-in-Ok-None-clause-draws
returns-in-Ok-None-clause-draws g c = c.call_laws.ensures.laws.draws c.loop-count.invariant.draws c.next_event.ensures.draws

pub returns-in-Ok-None-clause-grows : goal.returns-in-Ok-None-clause-grows
returns-in-Ok-None-clause-grows g c = omega (arith, c.loop-count.invariant.taken, c.next_event.ensures.grows)

pub returns-in-Err-clause-skips : goal.returns-in-Err-clause-skips
returns-in-Err-clause-skips g c out over =
    let kept = c.loop-count.invariant in
    let stop = rw kept.version at c.in-Err.ensures.next in
    let known = unread c.args.reader.now.input (g.S.Source.left c.args.source.now) in
    let rest = unread c.loop-count.reader.input (g.S.Source.left c.loop-count.source) in
    let left = unread c.next_event.new.reader.input (g.S.Source.left c.next_event.new.source) in
    goes_stop c.text_laws.ensures.laws c.adding_laws.ensures.laws (λ es. []) (λ es. []) c.args.reader.now.cut c.loop-count.reader.cut c.args.reader.now.version c.args.reader.now.last c.args.reader.now.number c.next_event.new.reader.number known left out out kept.on.0 c.loop-count.reader.last c.loop-count.reader.number rest c.in-Err.error c.status_of.result
    kept.on.1 (λ es more. ([], refl)) over kept.along stop.refuses (λ is. (stop.breaks is).amid) stop.memory (inl (c.status_of.ensures.value, Appends-nil out))

pub returns-in-Err-clause-followed : goal.returns-in-Err-clause-followed
returns-in-Err-clause-followed g c = rw c.status_of.ensures.value (c.ending_laws.ensures.laws.followed c.in-Err.error c.in-Err.ensures.next.memory)

pub returns-in-Err-clause-writes_nothing : goal.returns-in-Err-clause-writes_nothing
returns-in-Err-clause-writes_nothing g c is = c.ending_laws.ensures.laws.never_write_fault c.in-Err.error (sym c.status_of.ensures.value ∙ is)

pub returns-in-Err-clause-broken : goal.returns-in-Err-clause-broken
returns-in-Err-clause-broken g c is =
    let breaks = c.in-Err.ensures.next.breaks (c.ending_laws.ensures.laws.read_fault c.in-Err.error (sym c.status_of.ensures.value ∙ is)) in
    c.call_laws.ensures.laws.broken c.loop-count.invariant.draws.never_falls breaks.spent breaks.fault

pub returns-in-Err-clause-draws : goal.returns-in-Err-clause-draws
returns-in-Err-clause-draws g c = c.call_laws.ensures.laws.draws c.loop-count.invariant.draws c.next_event.ensures.draws

pub returns-in-Err-clause-grows : goal.returns-in-Err-clause-grows
returns-in-Err-clause-grows g c = omega (arith, c.loop-count.invariant.taken, c.next_event.ensures.grows)

-- So many events have more bytes than may be taken.
pub returns-clause-skips : goal.returns-clause-skips
returns-clause-skips g c out over = absurd (omega (arith, c.loop-count.invariant.taken, c.loop-count.invariant.within.few, c.loop-count-test.false))

pub returns-clause-broken : goal.returns-clause-broken
returns-clause-broken g c is = absurd (omega (arith, c.loop-count.invariant.taken, c.loop-count.invariant.within.few, c.loop-count-test.false))

pub returns-clause-draws : goal.returns-clause-draws
returns-clause-draws g c = c.loop-count.invariant.draws

pub returns-clause-grows : goal.returns-clause-grows
returns-clause-grows g c = omega (arith, c.loop-count.invariant.taken)
