use Rattle.std.proofs.Common.{◌≡◌, ◌+◌, ◌-◌, length, drop, take, sym, subst, ap, ◌∙◌, arith, length-drop}
use Rattle.std.proofs.lemmas.List.{take_rest, drop-drop}
use Rattle.httparse.specs.Grammar.{HasNoResponse}
use Rattle.httparse.specs.Spans.{ResponseOverflows}
use Rattle.kn_reply.specs.Replies.{is_interim}
use Rattle.kn_reply.specs.Ends.{most_fields, SameHeads}
use Rattle.kn_reply.proofs.HeadEnds.{cut_heads, few_fields, found_at, never_heads, next_head}
use Rattle.kn_reply.proofs.heads.answer_head.Goals as goal

pub returns-then-not-is_interim-clause-whole : goal.returns-then-not-is_interim-clause-whole
returns-then-not-is_interim-clause-whole c =
    let reply = c.args.reply.now in
    let at_ = c.heads.at in
    let text = take (length reply - at_) (drop at_ reply) in
    let all : text ≡ drop at_ reply = take_rest reply at_ in
    let found = rw c.in-Ok-Complete.field-0-is at c.in-Ok-Complete.ensures.complete in
    let within = rw c.in-Ok-Complete.field-0-is at c.in-Ok-Complete.ensures.within in
    let spans = c.parse_response.new.headers in
    let r = c.in-Ok-Complete.head in
    let few = few_fields text spans r.headers found.0.fields found.1.fields within.section.count_fits
    (c.parse_response.auto.headers ∙ c.heads.invariant.spans) in
    found_at reply text at_ c.heads.seen spans r found.0 c.heads.invariant.within all within found.1 few
    (subst (λ t. SameHeads c.heads.seen reply t) (sym all) c.heads.invariant.same) c.heads-test.true
    (sym c.is_interim.ensures ∙ c.if-not-is_interim.true)

pub heads-preserved : goal.heads-preserved
heads-preserved c =
    let reply = c.args.reply.now in
    let at_ = c.heads.at in
    let text = take (length reply - at_) (drop at_ reply) in
    let all : text ≡ drop at_ reply = take_rest reply at_ in
    let found = rw c.in-Ok-Complete.field-0-is at c.in-Ok-Complete.ensures.complete in
    let within = (rw c.in-Ok-Complete.field-0-is at c.in-Ok-Complete.ensures.within).section in
    let spans = c.parse_response.new.headers in
    let r = c.in-Ok-Complete.head in
    let few = few_fields text spans r.headers found.0.fields found.1.fields within.count_fits
    (c.parse_response.auto.headers ∙ c.heads.invariant.spans) in
    let next : drop r.len text ≡ drop (at_ + r.len) reply = ap (drop r.len) all ∙ drop-drop r.len at_ reply in
    record {
      within = omega (arith, within.len_fits, ap length all, length-drop at_ reply, c.heads.invariant.within);
      spans = c.parse_response.auto.headers ∙ c.heads.invariant.spans;
      same = subst (λ t. SameHeads (c.heads.seen + 1) reply t) next
          (next_head c.heads.seen reply text found.0 (drop r.len text)
          (subst (λ t. SameHeads c.heads.seen reply t) (sym all) c.heads.invariant.same) c.heads-test.true found.1.reads few
          (ap is_interim (sym found.1.code) ∙ (sym c.is_interim.ensures ∙ c.if-not-is_interim.false)));
    }

pub returns-in-Ok-Partial-clause-cut : goal.returns-in-Ok-Partial-clause-cut
returns-in-Ok-Partial-clause-cut c =
    let reply = c.args.reply.now in
    let here = drop c.heads.at reply in
    let all = take_rest reply c.heads.at in
    let none = rw c.in-Ok-Partial.field-0-is at c.in-Ok-Partial.ensures.partial in
    cut_heads reply here c.heads.seen c.heads.invariant.same (subst HasNoResponse all none)

pub returns-in-Err-clause-never : goal.returns-in-Err-clause-never
returns-in-Err-clause-never c =
    let reply = c.args.reply.now in
    let here = drop c.heads.at reply in
    let all = take_rest reply c.heads.at in
    let over = subst (λ n. ResponseOverflows n (take (length reply - c.heads.at) here)) c.heads.invariant.spans c.in-Err.ensures.no_room in
    never_heads reply here c.heads.seen c.heads.invariant.same (subst (ResponseOverflows most_fields) all over)
