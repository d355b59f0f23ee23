use Rattle.std.proofs.Common.{arith, ap, ◌∙◌}
use Rattle.httparse.specs.Spans.{IsRequestOf, IsRequestWithin}
use Rattle.kn_page.specs.Asking.{asked_of}
use Rattle.kn_page.proofs.Heads.{complete_is, found_asks}
use Rattle.kn_page.proofs.read.judge.Goals as goal

pub returns-in-Complete : goal.returns-in-Complete
returns-in-Complete c more =
    let bytes = c.args.bytes.now in
    let spans = c.parse_request.new.headers in
    let head = c.in-Complete.head in
    let x = complete_is c.in-Ok.status head (IsRequestOf bytes spans) c.in-Complete.is c.in-Ok.ensures.complete in
    let within = complete_is c.in-Ok.status head (IsRequestWithin bytes spans) c.in-Complete.is c.in-Ok.ensures.within in
    let room = c.parse_request.auto.headers in
    found_asks bytes spans head x.0 more c.asked_of.result x.1 within.section.len_fits c.requires (omega (arith, room))
    (c.asked_of.ensures ∙ (ap (λ m. asked_of m c.of-in-Complete.result.now) (c.of.ensures ∙ x.1.method) ∙ ap (asked_of x.0.method) (c.of-in-Complete.ensures ∙ x.1.path)))
