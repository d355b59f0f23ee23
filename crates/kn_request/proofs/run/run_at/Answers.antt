use Rattle.std.proofs.Common.{◌≡◌, ℕ, List, ap, subst, ◌∙◌}
use Rattle.kn_head.specs.Forwarding.{forwarded}
use Rattle.kn_io.specs.Links.{Tells, called}
use Rattle.kn_sizes.specs.Course.{runs_by}
use Rattle.kn_request.specs.Requests.{Finishes}
use Rattle.kn_request.proofs.Later.{book_is, opening_is}
use Rattle.kn_request.proofs.run.run_at.Goals as goal

pub returns-clause-call : goal.returns-clause-call
returns-clause-call g c =
    let p = c.args.pass.now in
    let q = c.finish.new.pass in
    let run = c.args.run in
    let l = c.finish.ensures.looks in
    let to_p = opening_is p q l in
    let told = g.L.PodLink.told in
    let text : c.bytes.result.now ≡ forwarded c.args.head.now run.proxied = c.bytes.ensures ∙ c.fill-text.ensures in
    let calls = λ (bytes : List ℕ). Tells (told c.args.link.now) (told c.call-reply.new.self) (λ link. called link run.address bytes c.call-reply.result) in
    record {
      pod = run.pod;
      way = run.proxied;
      before = p.seen;
      early = l.longer;
      ran = rw to_p (λ t s. (c.requires.runs t s).0);
      form = rw to_p (λ t s. (c.requires.runs t s).2);
      at = run.address;
      address = rw to_p (rw (book_is p q l) (λ t s. (c.requires.runs t s).1));
      calls = subst calls text c.call-reply.ensures.recorded;
    }

pub returns-clause-finish : goal.returns-clause-finish
returns-clause-finish g c =
    let p = c.args.pass.now in
    let f = c.finish.ensures.finish in
    let it : Finishes (g.K.Clock.reading c.args.clock.now) c.args.r c.is_ok-ok.result p c.finish.new.pass =
    (f.0, f.1, f.2, λ alone. f.3 (λ t s. ap runs_by (c.requires.runs t s).0) alone) in
    subst (λ b. Finishes (g.K.Clock.reading c.args.clock.now) c.args.r b p c.finish.new.pass) c.is_ok-ok.ensures.value it
