use Rattle.std.proofs.Common.{◌∙◌, ap, subst, List, ◌++◌, append_assoc, arith}
use Rattle.kn_event.specs.declared.entry.Entry.{Entry}
use Rattle.kn_trace.specs.Events.{departures, expiries, losses}
use Rattle.kn_core.specs.State.{ArePartsOf}
use Rattle.kn_core.proofs.Adding.{ends_then}
use Rattle.kn_core.proofs.After.{ready_more, ready_of_some}
use Rattle.kn_core.proofs.parts.Parts.depart.Goals as goal

pub expire-requires-clause-some : goal.expire-requires-clause-some
expire-requires-clause-some c = ready_of_some (λ s d. expiries s c.args.e.now.time d) c.args.self.now (λ s d h. (c.walk_laws.ensures.parts s d c.args.e.now h.made).expiries) c.requires.some

pub lose-requires-clause-some : goal.lose-requires-clause-some
lose-requires-clause-some c =
    ready_more (λ s d. losses c.args.e.now.time d c.args.e.now.act) (λ s d. expiries s c.args.e.now.time d) c.args.self.now c.expire.new.self
    (λ s d h. c.expire.ensures.adds.stands s d h (c.walk_laws.ensures.parts s d c.args.e.now h.made).expiries)
    (λ s d h. (c.walk_laws.ensures.parts s d c.args.e.now h.made).losses) c.requires.some

pub lose-requires-clause-can : goal.lose-requires-clause-can
lose-requires-clause-can c =
    let room = c.requires.can.room in
    let ends = c.expire.ensures.ends in
    record { few = rw ends.pods c.requires.can.few; measured = ends.measured; room = omega (arith, room, ends.room) }

pub returns-clause-few : goal.returns-clause-few
returns-clause-few c = rw (c.lose.ensures.ends.pods, c.expire.ensures.ends.pods) c.requires.can.few

pub returns-clause-ends : goal.returns-clause-ends
returns-clause-ends c = ends_then c.args.e.now.time c.args.self.now c.expire.new.self c.lose.new.self c.args.log.now c.expire.new.log c.lose.new.log c.expire.ensures.ends c.lose.ensures.ends

pub returns-clause-adds : goal.returns-clause-adds
unfolding departures
returns-clause-adds c =
    let t = c.args.e.now.time in
    let a = c.args.e.now.act in
    record {
      logged = λ s d h is.
          let proper = c.walk_laws.ensures.parts s d c.args.e.now h.made in
          let one = c.expire.ensures.adds.stands s d h proper.expiries in
          c.lose.ensures.adds.logged s (d ++ expiries s t d) one proper.losses
          ∙ ap (λ (es : List Entry). es ++ losses t (d ++ expiries s t d) a) (c.expire.ensures.adds.logged s d h proper.expiries)
          ∙ append_assoc c.args.log.now (expiries s t d) (losses t (d ++ expiries s t d) a);
      stands = λ s d h is.
          let proper = c.walk_laws.ensures.parts s d c.args.e.now h.made in
          let one = c.expire.ensures.adds.stands s d h proper.expiries in
          subst (ArePartsOf s c.lose.new.self) (append_assoc d (expiries s t d) (losses t (d ++ expiries s t d) a)) (c.lose.ensures.adds.stands s (d ++ expiries s t d) one proper.losses);
    }
