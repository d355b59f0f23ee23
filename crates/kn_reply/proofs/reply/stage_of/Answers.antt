use Rattle.std.proofs.Common.{◌+◌, ◌≤◌, length, drop, take, map, subst, refl, arith, length-drop}
use Rattle.std.proofs.lemmas.List.{take_rest}
use Rattle.httparse.specs.Spans.{header_bytes}
use Rattle.kn_reply.specs.Ends.{IsStageOf, NoStage}
use Rattle.kn_reply.proofs.HeadEnds.{meets, no_body}
use Rattle.kn_reply.proofs.reply.stage_of.Goals as goal

pub returns-in-Some-clause-whole : goal.returns-in-Some-clause-whole
returns-in-Some-clause-whole c =
    let reply = c.args.reply.now in
    let start = c.in-Ok-Complete.start in
    let r = c.in-Ok-Complete.head in
    let here = drop start reply in
    let all = take_rest reply start in
    let found = rw c.in-Ok-Complete.field-0-is at c.in-Ok-Complete.ensures.whole in
    let spans = c.answer_head.new.spans in
    let none = c.has_no_body-none.result in
    let room : start + r.len ≤ length reply = omega (arith, found.within.section.len_fits, length-drop start reply, found.place) in
    let is = subst (λ t. IsStageOf none (map (header_bytes t) (take r.headers spans)) (start + r.len) c.in-Some.stage) all c.in-Some.ensures.stage in
    meets c.args.request.now reply here found.before start spans r found.head none found.same refl room found.parts found.final
    c.has_no_body-none.ensures c.in-Some.stage found.fewer found.few is c.in-Some.ensures.within

pub returns-in-None-clause-never : goal.returns-in-None-clause-never
returns-in-None-clause-never c =
    let reply = c.args.reply.now in
    let start = c.in-Ok-Complete.start in
    let r = c.in-Ok-Complete.head in
    let here = drop start reply in
    let all = take_rest reply start in
    let found = rw c.in-Ok-Complete.field-0-is at c.in-Ok-Complete.ensures.whole in
    let spans = c.answer_head.new.spans in
    let none = c.has_no_body-none.result in
    let room : start + r.len ≤ length reply = omega (arith, found.within.section.len_fits, length-drop start reply, found.place) in
    let never = subst (λ t. NoStage none (map (header_bytes t) (take r.headers spans))) all (c.in-None.ensures.none refl) in
    no_body c.args.request.now reply here found.before start spans r found.head none found.same refl room found.parts found.final
    c.has_no_body-none.ensures never
