use Rattle.std.proofs.Common.{[], ◌≤◌, length, sym, subst}
use Rattle.std.specs.Prelude.{IfSome}
use Rattle.kn_reply.specs.Ends.{IsReplyOf, ReadsReply}
use Rattle.kn_reply.proofs.Closed.{handed_if, sent_if, short_if, whole_if}
use Rattle.kn_reply.proofs.receiving.read_answer.Goals as goal

pub returns-clause-short : goal.returns-clause-short
returns-clause-short g c =
    let request = c.args.request.now in
    let came = c.bytes.ensures in
    short_if request c.closed.result
    (handed_if request c.bytes.result.now c.closed.result (subst (λ b. length b ≤ 1114112) (sym came) c.in_ok-reply.ensures.short)
    (subst (λ b. ReadsReply request b []) (sym came) c.in_ok-reply.ensures.exact) c.closed.ensures)

pub returns-clause-whole : goal.returns-clause-whole
returns-clause-whole g c =
    let request = c.args.request.now in
    let came = c.bytes.ensures in
    whole_if request c.closed.result
    (handed_if request c.bytes.result.now c.closed.result (subst (λ b. length b ≤ 1114112) (sym came) c.in_ok-reply.ensures.short)
    (subst (λ b. ReadsReply request b []) (sym came) c.in_ok-reply.ensures.exact) c.closed.ensures)

pub returns-clause-sent : goal.returns-clause-sent
returns-clause-sent g c =
    let request = c.args.request.now in
    let told = g.R.Read.remaining c.args.stream.now in
    let reply : IfSome told (λ sent. IsReplyOf request sent c.bytes.result.now) =
    subst (λ b. IfSome told (λ sent. IsReplyOf request sent b)) (sym c.bytes.ensures) c.in_ok-reply.ensures.sent in
    sent_if request c.bytes.result.now told c.closed.result reply c.closed.ensures
