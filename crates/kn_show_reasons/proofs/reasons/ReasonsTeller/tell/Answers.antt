use Rattle.std.proofs.Common.{◌++◌, ◌∷◌, [], ap, sym, subst}
use Rattle.kn_io.specs.Prefix.{AppendsPrefix}
use Rattle.kn_report.specs.Waiting.{Adds}
use Rattle.kn_teller.specs.Run.{later, trace}
use Rattle.kn_show_reasons.specs.State.{AreReasonsOf, ReasonsState}
use Rattle.kn_show_reasons.proofs.Told.{follows, told, told_text}
use Rattle.kn_show_reasons.proofs.reasons.ReasonsTeller.tell.Goals as goal

pub returns-clause-ok : goal.returns-clause-ok
returns-clause-ok g c r h step =
    let e = c.args.e.now in
    let rev = c.args.revision.now in
    let log = c.args.log.now in
    let x = c.args.self.now in
    let spec = ap (λ (z : ReasonsState). z.spec) c.self.view_is in
    let seen = ap (λ (z : ReasonsState). z.seen) c.self.view_is in
    let come =
    follows c.part_laws.ensures c.entry_laws.ensures.count_ready r e rev log x c.arrival_tag-tag.result _ _ spec seen (c.lives_laws.ensures.next r.spec r.start r.events e) c.arrival_tag-tag.ensures
    (c.lives_laws.ensures.later r.spec r.start r.events (e ∷ [])) h step in
    subst (Adds (g.O.Sink.held c.args.out.now) (g.O.Sink.held c.add_rows.new.out) c.args.waiting.now c.add_rows.new.waiting) (told_text r e rev log x _ spec h step)
    (c.in-Ok.ensures.ok (later r e).events (trace r) come)

pub returns-in-Err-clause-err : goal.returns-in-Err-clause-err
returns-in-Err-clause-err g c r h step =
    let e = c.args.e.now in
    let rev = c.args.revision.now in
    let log = c.args.log.now in
    let x = c.args.self.now in
    let spec = ap (λ (z : ReasonsState). z.spec) c.self.view_is in
    let seen = ap (λ (z : ReasonsState). z.seen) c.self.view_is in
    let come =
    follows c.part_laws.ensures c.entry_laws.ensures.count_ready r e rev log x c.arrival_tag-tag.result _ _ spec seen (c.lives_laws.ensures.next r.spec r.start r.events e) c.arrival_tag-tag.ensures
    (c.lives_laws.ensures.later r.spec r.start r.events (e ∷ [])) h step in
    subst (λ m. AppendsPrefix (g.O.Sink.held c.args.out.now) (g.O.Sink.held c.add_rows.new.out) (c.args.waiting.now ++ m)) (told_text r e rev log x _ spec h step)
    (c.in-Err.ensures.err (later r e).events (trace r) come)

pub returns-clause-knows : goal.returns-clause-knows
returns-clause-knows g c r h step =
    let e = c.args.e.now in
    let rev = c.args.revision.now in
    let log = c.args.log.now in
    let x = c.args.self.now in
    let n = c.count_ready-self-inside.result in
    let spec = ap (λ (z : ReasonsState). z.spec) c.self.view_is in
    let seen = ap (λ (z : ReasonsState). z.seen) c.self.view_is in
    let come =
    follows c.part_laws.ensures c.entry_laws.ensures.count_ready r e rev log x c.arrival_tag-tag.result _ _ spec seen (c.lives_laws.ensures.next r.spec r.start r.events e) c.arrival_tag-tag.ensures
    (c.lives_laws.ensures.later r.spec r.start r.events (e ∷ [])) h step in
    let all = told r e rev log x c.add_rows.new.seen n h step (c.in-Ok.ensures.knows (later r e).events (trace r) come) (c.count_ready-self-inside.ensures (trace (later r e)) step.stands) in
    subst (λ (z : ReasonsState). AreReasonsOf (record z { seen = record c.add_rows.new.seen { ready = n } }) (later r e)) (sym c.self.view_is) all
