use Rattle.std.proofs.Common.{◌-◌, length, take, drop, sym, subst}
use Rattle.std.proofs.lemmas.List.{take_rest}
use Rattle.httparse.specs.Spans.{IsResponseAt}
use Rattle.kn_reply.specs.Closing.{handed_head}
use Rattle.kn_reply.proofs.Closed.{closes_at, joined}
use Rattle.kn_reply.proofs.answer.written.Goals as goal

pub returns : goal.returns
returns c =
    let reply = c.args.reply.now in
    let spans = c.args.spans.now in
    let r = c.args.head.now in
    let found = c.requires.head in
    let text = c.split_at.result.1.now in
    let behind = take (length text - r.len) (drop r.len text) in
    let parts = subst (λ t. IsResponseAt t spans r found.head) (sym c.split_at.ensures.back) found.parts in
    closes_at reply c.put-2.new.out.items spans c.args.start r found
    (joined reply text c.split_at.result.0.now behind c.in-Ok.answer.items c.put.new.out.items c.put_head.new.out.items c.put-2.new.out.items
    (handed_head found.head) c.args.start r.len c.in-Ok.ensures.items c.split_at.ensures.front c.split_at.ensures.back c.in_ok-put.ensures
    (c.in_ok-put_head.ensures found.head parts) c.in_ok-put-2.ensures (take_rest text r.len))
