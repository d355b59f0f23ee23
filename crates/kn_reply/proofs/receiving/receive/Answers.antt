use Rattle.std.proofs.Common.{take, sym, subst, ◌∙◌, arith}
use Rattle.std.specs.Io.KnownBytes.{Consumes}
use Rattle.kn_reply.specs.Ends.{Meets, MeetsAny, JudgedIs}
use Rattle.kn_reply.specs.declared.reply.Judged.TheVariants.{Ended as ended}
use Rattle.kn_reply.proofs.Bodies.{meets_more}
use Rattle.kn_reply.proofs.Replied.{exact_open, sent_open, exact_end, sent_end, read_more, read_all, ok_from}
use Rattle.kn_reply.proofs.receiving.receive.Goals as goal

pub returns-in-Some-Open-clause-exact : goal.returns-in-Some-Open-clause-exact
returns-in-Some-Open-clause-exact g c =
    let request = c.args.request.now in
    let some : Meets request c.loop.reply.items c.in-Some-Open.field-0 =
    subst (MeetsAny request c.loop.reply.items) c.in-Some-Open.is c.loop.invariant.right in
    let meets = subst (Meets request c.loop.reply.items) (rw c.in-Some-Open.is at c.in-Some-Open.field-0-is) some in
    rw c.new.ensures (exact_open request c.loop.reply.items meets)

pub returns-in-Some-Open-clause-sent : goal.returns-in-Some-Open-clause-sent
returns-in-Some-Open-clause-sent g c =
    let request = c.args.request.now in
    let some : Meets request c.loop.reply.items c.in-Some-Open.field-0 =
    subst (MeetsAny request c.loop.reply.items) c.in-Some-Open.is c.loop.invariant.right in
    let meets = subst (Meets request c.loop.reply.items) (rw c.in-Some-Open.is at c.in-Some-Open.field-0-is) some in
    let at_end = read_all _ _ c.read.new.buf c.in-Ok.n c.in-Ok.ensures.bytes.0 (c.in-Ok.ensures.bytes.1 c.if-n-eq0.true (omega arith)) c.if-n-eq0.true in
    rw c.new.ensures (sent_open request c.loop.reply.items _ _ meets c.loop.invariant.told at_end)

pub judge-requires-clause-right : goal.judge-requires-clause-right
judge-requires-clause-right g c =
    let request = c.args.request.now in
    let ok = ok_from c.extend_from_slice.result (sym c.is_err.ensures.value ∙ c.if-is_err.false) in
    let grown = rw ok at c.extend_from_slice.ensures.items in
    subst (λ b. MeetsAny request b c.loop.stage) (sym grown ∙ sym c.deref.ensures.value)
    (meets_more request c.loop.reply.items (take c.in-Ok.n c.read.new.buf) c.loop.stage c.loop.invariant.right)

pub returns-in-Ended-clause-exact : goal.returns-in-Ended-clause-exact
returns-in-Ended-clause-exact g c =
    let request = c.args.request.now in
    let judged = subst (JudgedIs request c.deref.result.now) c.in-Ended.is c.judge.ensures in
    let here = subst (λ b. JudgedIs request b (ended c.in-Ended.end)) c.deref.ensures.value judged in
    rw (c.new-in-Ended.ensures, c.truncate.ensures.items) (exact_end request c.extend_from_slice.new.self.items c.in-Ended.end here)

pub returns-in-Ended-clause-sent : goal.returns-in-Ended-clause-sent
returns-in-Ended-clause-sent g c =
    let request = c.args.request.now in
    let judged = subst (JudgedIs request c.deref.result.now) c.in-Ended.is c.judge.ensures in
    let here = subst (λ b. JudgedIs request b (ended c.in-Ended.end)) c.deref.ensures.value judged in
    let ok = ok_from c.extend_from_slice.result (sym c.is_err.ensures.value ∙ c.if-is_err.false) in
    let grown = rw ok at c.extend_from_slice.ensures.items in
    let told = read_more _ _ (g.R.Read.remaining c.read.new.self) c.loop.reply.items (take c.in-Ok.n c.read.new.buf) c.loop.invariant.told c.in-Ok.ensures.bytes.0 in
    rw (c.new-in-Ended.ensures, c.truncate.ensures.items)
    (sent_end request c.extend_from_slice.new.self.items c.in-Ended.end _ (g.R.Read.remaining c.read.new.self) here
    (subst (Consumes (g.R.Read.remaining c.args.stream.now) (g.R.Read.remaining c.read.new.self)) (sym grown) told))
