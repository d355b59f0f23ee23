-- What each way of a connection comes to.
use Rattle.std.proofs.Common.{◌≤◌, [], refl, sym, subst, take, ◌∙◌, arith}
use Rattle.std.specs.Prelude.{⊤}
use Rattle.std.specs.Io.KnownBytes.{Appends}
use Rattle.std.proofs.KnownBytes.{Appends-nil}
use Rattle.kn_page.specs.Asking.{Asks}
use Rattle.kn_page.proofs.Talks.{any_input, later_rose, talks, tells_on}
use Rattle.kn_page.proofs.visit.receive.Goals as goal

pub returns-in-Err-read_asked : goal.returns-in-Err-read_asked
returns-in-Err-read_asked g c =
    let kept = g.C.Sink.kept in
    let held = g.C.Sink.held in
    let left = g.C.Source.left in
    let old = c.args.caller.now in
    let mid = c.meet.new.self in
    let new = c.read_asked.new.source in
    let same = sym (g.met.C.Caller.together new) ∙ (c.read_asked.ensures.apart_stays ∙ g.met.C.Caller.together mid) in
    let talk = talks c.caller_laws.ensures.texts c.caller_laws.ensures.streams (kept old) (kept mid) (kept new) (kept new) (held old) (held mid) (held new) (held new) (left old) (left mid) (λ _. ⊤) []
    (g.met.C.Caller.paired old) (g.met.C.Caller.heard old) c.in-Ok.ensures.met same refl (Appends-nil (held new)) (any_input (left mid)) in
    record {
      visit = (refl, tells_on _ _ _ _ (λ x y r. (r.0, r.2)) talk);
      never_falls = omega (arith, c.meet.ensures.cause.never_falls, c.read_asked.ensures.never_falls);
      cause = λ _. later_rose _ _ _ c.meet.ensures.cause.never_falls c.in-Err-read_asked.ensures.fault;
    }

pub returns-in-Ok-put_all : goal.returns-in-Ok-put_all
returns-in-Ok-put_all g c =
    let kept = g.C.Sink.kept in
    let held = g.C.Sink.held in
    let left = g.C.Source.left in
    let old = c.args.caller.now in
    let mid = c.meet.new.self in
    let read = c.read_asked.new.source in
    let new = c.put_all.new.out in
    let asked = c.in-Ok-read_asked.asked in
    let text = c.answer.new.sheets.answer in
    let same = sym (g.met.C.Caller.together read) ∙ (c.read_asked.ensures.apart_stays ∙ g.met.C.Caller.together mid) in
    let written = subst (Appends (held read) (held new)) c.bytes.ensures.value c.in-Ok-put_all.ensures.ok in
    let talk = talks c.caller_laws.ensures.texts c.caller_laws.ensures.streams (kept old) (kept mid) (kept read) (kept new) (held old) (held mid) (held read) (held new) (left old) (left mid) (λ bytes. Asks bytes asked) text
    (g.met.C.Caller.paired old) (g.met.C.Caller.heard old) c.in-Ok.ensures.met same c.put_all.ensures.kept_stays written c.in-Ok-read_asked.ensures.asked in
    record {
      visit = (text, c.answer.ensures, tells_on _ _ _ _ (λ x y r. record { comes = r.0; asks = r.1; text_is = r.2 }) talk);
      never_falls = omega (arith, c.meet.ensures.cause.never_falls, c.read_asked.ensures.never_falls, c.put_all.ensures.cause.never_falls);
      cause = λ e. absurd (cc);
    }

pub returns-in-Err-put_all : goal.returns-in-Err-put_all
returns-in-Err-put_all g c =
    let kept = g.C.Sink.kept in
    let held = g.C.Sink.held in
    let left = g.C.Source.left in
    let old = c.args.caller.now in
    let mid = c.meet.new.self in
    let read = c.read_asked.new.source in
    let new = c.put_all.new.out in
    let asked = c.in-Ok-read_asked.asked in
    let text = c.answer.new.sheets.answer in
    let same = sym (g.met.C.Caller.together read) ∙ (c.read_asked.ensures.apart_stays ∙ g.met.C.Caller.together mid) in
    let cut = c.in-Err-put_all.ensures.err in
    let written = subst (λ t. Appends (held read) (held new) (take cut.0 t)) c.bytes.ensures.value cut.2 in
    let talk = talks c.caller_laws.ensures.texts c.caller_laws.ensures.streams (kept old) (kept mid) (kept read) (kept new) (held old) (held mid) (held read) (held new) (left old) (left mid) (λ bytes. Asks bytes asked) (take cut.0 text)
    (g.met.C.Caller.paired old) (g.met.C.Caller.heard old) c.in-Ok.ensures.met same c.put_all.ensures.kept_stays written c.in-Ok-read_asked.ensures.asked in
    let first : g.C.Faulty.faults old ≤ g.C.Faulty.faults read = omega (arith, c.meet.ensures.cause.never_falls, c.read_asked.ensures.never_falls) in
    record {
      visit = (text, c.answer.ensures, tells_on _ _ _ _ (λ x y r. (cut.0, record { comes = r.0; asks = r.1; text_is = r.2 })) talk);
      never_falls = omega (arith, c.meet.ensures.cause.never_falls, c.read_asked.ensures.never_falls, c.put_all.ensures.cause.never_falls);
      cause = λ _. later_rose _ _ _ first c.in-Err-put_all.ensures.cause.failed;
    }
