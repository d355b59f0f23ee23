use Rattle.std.proofs.Common.{◌≡◌, ◌∙◌, ◌-◌, ℕ, Bool, false, true, List, length, refl, sym, ap, subst, arith, inl, inr}
use Rattle.std.specs.Prelude.{Option, Ok, Err}
use Rattle.kn_journal.specs.declared.error.JournalError.{JournalError}
use Rattle.kn_journal.specs.declared.status.Status.{Status}
use Rattle.kn_journal.specs.declared.status.Status.TheVariants as status
use Rattle.kn_journal.specs.Reading.{unread}
use Rattle.kn_follow.specs.Account.{account_of}
use Rattle.kn_follow.specs.Calls.{Draws}
use Rattle.kn_bundle.specs.Following.{FollowsBundle}
use Rattle.kn_bundle.proofs.Alongs.{IsAlong, along_begin, along_more, along_text}
use Rattle.kn_bundle.proofs.Wholes.{SoFar, ends_first, ends_good, ends_there, ends_unbegun, ends_within, so_far_begin, so_far_more}
use Rattle.kn_bundle.proofs.bundle.follow_bundle.Goals as goal

pub returns-in-Err-clause-bundle : goal.returns-in-Err-clause-bundle
returns-in-Err-clause-bundle g c =
    ends_unbegun (account_of (g.F.Form.writes c.args.form.now)) c.args.k (g.S.Source.left c.args.source.now) (g.S.Source.left c.args.source.now) (g.S.Source.given c.args.source.now - g.S.Source.given c.args.source.now) (g.O.Sink.held c.args.out.now)

pub loop-count-init : goal.loop-count-init
loop-count-init g c =
    let a = account_of (g.F.Form.writes c.args.form.now) in
    let known = g.S.Source.left c.args.source.now in
    let out = g.O.Sink.held c.args.out.now in
    let r = c.in-Ok.reader in
    let start = c.call_laws.ensures.laws.fresh r.input known c.in-Ok.ensures.ahead in
    record {
      on =
          subst (λ (x : Option (List ℕ)). SoFar a c.args.k 0 known r.number x out out) (sym start)
          (subst (λ (n : ℕ). SoFar a c.args.k 0 known n known out out) (sym c.in-Ok.ensures.number) (so_far_begin a c.args.k known out));
      along =
          subst (λ (x : Option (List ℕ)). IsAlong false r.cut known x) (sym start)
          (subst (λ (b : Bool). IsAlong false b known known) (sym c.in-Ok.ensures.cut) (along_begin false known));
      good = c.in-Ok.ensures.failed;
      few = omega (arith, c.in-Ok.ensures.taken);
      taken = omega arith;
      draws = record { balance = refl; never_falls = omega arith };
      write = omega arith;
    }

pub read_journal-requires : goal.read_journal-requires
read_journal-requires g c =
    let kept = c.loop-count.invariant in
    let is : c.part.result ≡ Ok true = c.in-Ok-true.is ∙ ap (λ (b : Bool). Ok b) c.in-Ok-true.field-0-test in
    record {
      begun = record {
        within = record { good = c.in-Ok-true.ensures.fails.good; few = c.part.ensures.few kept.good kept.few; bundle = c.part.ensures.begins.bundle kept.good };
        begun = c.part.ensures.begins.begun is;
      };
    }

pub loop-count-preserved : goal.loop-count-preserved
loop-count-preserved g c =
    let a = account_of (g.F.Form.writes c.args.form.now) in
    let kept = c.loop-count.invariant in
    let known = g.S.Source.left c.args.source.now in
    let rest = unread c.loop-count.reader.input (g.S.Source.left c.loop-count.source) in
    let one = c.part.new.self in
    let mid = unread one.input (g.S.Source.left c.part.new.source) in
    let two = c.read_journal.new.reader in
    let left = unread two.input (g.S.Source.left c.read_journal.new.source) in
    let is : c.part.result ≡ Ok true = c.in-Ok-true.is ∙ ap (λ (b : Bool). Ok b) c.in-Ok-true.field-0-test in
    let ended : c.read_journal.result ≡ status.Ok = c.in-Ok-read_journal.is in
    let first : IsAlong false one.cut known mid =
    along_text false one.cut known mid (along_more c.text_laws.ensures.laws false c.loop-count.reader.cut one.cut known rest mid kept.along (c.part.ensures.reads.text is)) in
    let drew : Draws c.loop-count.reader.input one.input (g.S.Source.given c.loop-count.source) (g.S.Source.given c.part.new.source) (g.S.Faulty.faults c.loop-count.source) (g.S.Faulty.faults c.part.new.source) =
    record { balance = c.part.ensures.source.balance; never_falls = c.part.ensures.source.never_falls } in
    record {
      on =
          so_far_more a c.args.k c.loop-count.count c.loop-count.reader.cut known rest mid left c.loop-count.reader.number one.version one.number two.number (g.O.Sink.held c.args.out.now) (g.O.Sink.held c.loop-count.out) (g.O.Sink.held c.read_journal.new.out)
          kept.on kept.along (λ over. rw c.in-Ok-true.field-0-test at c.in-Ok-true.ensures.reads.tells kept.good over) (rw ended at c.read_journal.ensures.follows);
      along =
          along_text false two.cut known left
          (along_more c.text_laws.ensures.laws false one.cut two.cut known mid left first (c.read_journal.ensures.text ended));
      good = (c.read_journal.ensures.within ended).good;
      few = (c.read_journal.ensures.within ended).few;
      taken = omega (arith, kept.taken, c.part.ensures.reads.bytes is, c.read_journal.ensures.grows);
      draws = c.call_laws.ensures.laws.draws kept.draws (c.call_laws.ensures.laws.draws drew c.read_journal.ensures.draws);
      write = omega (arith, kept.write, c.read_journal.ensures.cause.never_falls);
    }

pub returns-in-Ok-false-clause-bundle : goal.returns-in-Ok-false-clause-bundle
returns-in-Ok-false-clause-bundle g c =
    let a = account_of (g.F.Form.writes c.args.form.now) in
    let kept = c.loop-count.invariant in
    let known = g.S.Source.left c.args.source.now in
    let given = g.S.Source.given c.part.new.source - g.S.Source.given c.args.source.now in
    let last = g.S.Source.left c.part.new.source in
    subst (λ (x : Status). FollowsBundle a c.args.k known last given (g.O.Sink.held c.args.out.now) (g.O.Sink.held c.loop-count.out) x) (sym c.ending.ensures.value)
    (ends_good a c.args.k c.loop-count.count c.loop-count.reader.cut known (unread c.loop-count.reader.input (g.S.Source.left c.loop-count.source)) (unread c.part.new.self.input last) last c.loop-count.reader.number c.part.new.self.number given (g.O.Sink.held c.args.out.now) (g.O.Sink.held c.loop-count.out)
    kept.on kept.along (λ over. rw c.in-Ok-false.field-0-test at c.in-Ok-false.ensures.reads.tells kept.good over))

pub returns-in-Ok-false-clause-ended : goal.returns-in-Ok-false-clause-ended
returns-in-Ok-false-clause-ended g c is =
    let a = account_of (g.F.Form.writes c.args.form.now) in
    let kept = c.loop-count.invariant in
    ends_there c.ending_laws.ensures.laws a c.args.k c.loop-count.count c.loop-count.reader.cut (g.S.Source.left c.args.source.now) (unread c.loop-count.reader.input (g.S.Source.left c.loop-count.source)) (g.S.Source.left c.part.new.source) c.part.new.self.input.ahead c.loop-count.reader.number c.part.new.self.number (g.O.Sink.held c.args.out.now) (g.O.Sink.held c.loop-count.out)
    kept.on kept.along (λ over. rw c.in-Ok-false.field-0-test at c.in-Ok-false.ensures.reads.tells kept.good over)

pub returns-in-Ok-false-clause-read_fault : goal.returns-in-Ok-false-clause-read_fault
returns-in-Ok-false-clause-read_fault g c is = absurd (c.ending.ensures.reads is)

pub returns-in-Ok-false-clause-write_fault : goal.returns-in-Ok-false-clause-write_fault
returns-in-Ok-false-clause-write_fault g c is = absurd (c.ending.ensures.writes is)

pub returns-in-Ok-false-clause-never_falls : goal.returns-in-Ok-false-clause-never_falls
returns-in-Ok-false-clause-never_falls g c = omega (arith, c.loop-count.invariant.draws.never_falls, c.part.ensures.source.never_falls)

pub returns-in-Err-part-clause-bundle : goal.returns-in-Err-part-clause-bundle
returns-in-Err-part-clause-bundle g c =
    let a = account_of (g.F.Form.writes c.args.form.now) in
    let kept = c.loop-count.invariant in
    let known = g.S.Source.left c.args.source.now in
    let given = g.S.Source.given c.part.new.source - g.S.Source.given c.args.source.now in
    let last = g.S.Source.left c.part.new.source in
    let old = g.O.Sink.held c.args.out.now in
    let e = c.in-Err-part.error in
    subst (λ (x : Status). FollowsBundle a c.args.k known last given old (g.O.Sink.held c.loop-count.out) x) (sym c.status_of.ensures.value)
    (ends_first c.text_laws.ensures.laws a c.args.k c.loop-count.count c.loop-count.reader.cut known (unread c.loop-count.reader.input (g.S.Source.left c.loop-count.source)) last c.part.new.self.input.ahead c.loop-count.reader.number given old (g.O.Sink.held c.loop-count.out) e
    kept.on kept.along (λ over. c.in-Err-part.ensures.reads.tells kept.good over)
    (λ is. c.part.ensures.source.amid kept.good (c.in-Err-part.is ∙ ap (λ (x : JournalError). Err x) is))
    (λ is. c.part.ensures.memory kept.good (c.in-Err-part.is ∙ ap (λ (x : JournalError). Err x) is))
    (λ is. c.call_laws.ensures.laws.beyond c.part.new.self.input given
    (omega (arith, kept.draws.balance, c.part.ensures.source.balance, c.in-Ok.ensures.taken, ap length c.in-Ok.ensures.ahead))
    (c.part.ensures.source.spent kept.good (c.in-Err-part.is ∙ ap (λ (x : JournalError). Err x) is))))

pub returns-in-Err-part-clause-ended : goal.returns-in-Err-part-clause-ended
returns-in-Err-part-clause-ended g c is = absurd (c.ending_laws.ensures.laws.never_ok c.in-Err-part.error (sym c.status_of.ensures.value ∙ is))

pub returns-in-Err-part-clause-read_fault : goal.returns-in-Err-part-clause-read_fault
returns-in-Err-part-clause-read_fault g c is =
    let kept = c.loop-count.invariant in
    let fault = c.in-Err-part.is ∙ ap (λ (x : JournalError). Err x) (c.ending_laws.ensures.laws.read_fault c.in-Err-part.error (sym c.status_of.ensures.value ∙ is)) in
    elim (c.part.ensures.source.fault kept.good fault) [
      | inl rose ↦ inl (c.call_laws.ensures.laws.rose _ _ _ kept.draws.never_falls rose)
      | inr all ↦ inr (omega (arith, all, kept.draws.balance, c.part.ensures.source.balance, c.in-Ok.ensures.taken, ap length c.in-Ok.ensures.ahead))
    ]

pub returns-in-Err-part-clause-write_fault : goal.returns-in-Err-part-clause-write_fault
returns-in-Err-part-clause-write_fault g c is = absurd (c.ending_laws.ensures.laws.never_write_fault c.in-Err-part.error (sym c.status_of.ensures.value ∙ is))

pub returns-in-Err-part-clause-never_falls : goal.returns-in-Err-part-clause-never_falls
returns-in-Err-part-clause-never_falls g c = omega (arith, c.loop-count.invariant.draws.never_falls, c.part.ensures.source.never_falls)

pub returns-in_default : goal.returns-in_default
returns-in_default g c =
    let a = account_of (g.F.Form.writes c.args.form.now) in
    let kept = c.loop-count.invariant in
    let known = g.S.Source.left c.args.source.now in
    let rest = unread c.loop-count.reader.input (g.S.Source.left c.loop-count.source) in
    let one = c.part.new.self in
    let mid = unread one.input (g.S.Source.left c.part.new.source) in
    let two = c.read_journal.new.reader in
    let last = g.S.Source.left c.read_journal.new.source in
    let given = g.S.Source.given c.read_journal.new.source - g.S.Source.given c.args.source.now in
    let is : c.part.result ≡ Ok true = c.in-Ok-true.is ∙ ap (λ (b : Bool). Ok b) c.in-Ok-true.field-0-test in
    let first : IsAlong false one.cut known mid =
    along_text false one.cut known mid (along_more c.text_laws.ensures.laws false c.loop-count.reader.cut one.cut known rest mid kept.along (c.part.ensures.reads.text is)) in
    record {
      bundle =
          ends_within c.text_laws.ensures.laws c.adding_laws.ensures.laws a c.args.k c.loop-count.count c.loop-count.reader.cut one.cut known rest mid last two.input.ahead c.loop-count.reader.number one.version one.number two.number given (g.O.Sink.held c.args.out.now) (g.O.Sink.held c.loop-count.out) (g.O.Sink.held c.read_journal.new.out) c.read_journal.result
          kept.on kept.along (λ over. rw c.in-Ok-true.field-0-test at c.in-Ok-true.ensures.reads.tells kept.good over) first
          c.read_journal.ensures.follows c.read_journal.ensures.replayed c.in_default.not-Ok c.read_journal.ensures.unwritten
          (λ fault. c.call_laws.ensures.laws.beyond two.input given
          (omega (arith, kept.draws.balance, c.part.ensures.source.balance, c.read_journal.ensures.draws.balance, c.in-Ok.ensures.taken, ap length c.in-Ok.ensures.ahead))
          (c.read_journal.ensures.broken fault).spent);
      replayed = c.read_journal.ensures.replayed;
      ended = λ ok. absurd (c.in_default.not-Ok ok);
      read_fault = λ fault.
          elim ((c.read_journal.ensures.broken fault).fault) [
            | inl rose ↦ inl (c.call_laws.ensures.laws.rose _ (g.S.Faulty.faults c.part.new.source) _ (omega (arith, kept.draws.never_falls, c.part.ensures.source.never_falls)) rose)
            | inr all ↦ inr (omega (arith, all, kept.draws.balance, c.part.ensures.source.balance, c.read_journal.ensures.draws.balance, c.in-Ok.ensures.taken, ap length c.in-Ok.ensures.ahead))
          ];
      write_fault = λ fault. c.call_laws.ensures.laws.rose _ _ _ kept.write (c.read_journal.ensures.cause.failed fault);
      never_falls = omega (arith, kept.draws.never_falls, c.part.ensures.source.never_falls, c.read_journal.ensures.draws.never_falls);
      out_never_falls = omega (arith, kept.write, c.read_journal.ensures.cause.never_falls);
    }

-- So many journals have more bytes than may be taken.
pub returns-clause-bundle : goal.returns-clause-bundle
returns-clause-bundle g c = absurd (omega (arith, c.loop-count.invariant.taken, c.loop-count.invariant.few, c.loop-count-test.false))

pub returns-clause-read_fault : goal.returns-clause-read_fault
returns-clause-read_fault g c is = absurd (omega (arith, c.loop-count.invariant.taken, c.loop-count.invariant.few, c.loop-count-test.false))
