use Rattle.std.proofs.Common.{◌≡◌, ◌⊎◌, refl, sym, subst, ◌∙◌}
use Rattle.kn_cell.specs.Shown.{Looks, PassView}
use Rattle.kn_io.specs.Causes.{Rose}
use Rattle.kn_request.specs.Outside.{said}
use Rattle.kn_request.specs.Terms.{unwatched}
use Rattle.kn_request.specs.One.{ServesRead}
use Rattle.kn_request.proofs.Watching.{read_more}
use Rattle.kn_request.proofs.WideFacts.{same_pass}
use Rattle.kn_request.proofs.wide.serve_with.Goals as goal

pub returns-clause-pass : goal.returns-clause-pass
returns-clause-pass g c p e =
    let kept = g.C.Sink.kept in
    let held = g.C.Sink.held in
    let told = g.L.PodLink.told in
    let old = c.args.caller.now in
    let x = c.serve_read-served in
    let same = same_pass c.in-Some.pass p (sym c.in-Some.is ∙ (c.take-pass.ensures.value ∙ e)) in
    let faults = g.C.Faulty.faults in
    let reading = g.K.Clock.reading c.args.clock.now in
    let new = x.new.caller in
    let it = read_more reading (⊥ × Rose (faults old) (faults new)) ⊥ (λ l. absurd l.0) c.args.spec.now.timeout_ms c.args.tag c.args.head.now c.in-Some.pass x.new.pass (told c.args.link.now) (told x.new.link) (said (kept old) (held old))
    (said (kept new) (held new)) x.result x.ensures.serves in
    let serves = subst (λ (v : PassView). ServesRead (unwatched reading) c.args.spec.now.timeout_ms c.args.tag c.args.head.now v x.new.pass (told c.args.link.now) (told x.new.link)
    (said (kept old) (held old)) (said (kept new) (held new)) x.result) same it in
    (x.new.pass, refl, subst (λ (v : PassView). (x.new.pass ≡ v) ⊎ Looks v x.new.pass) same x.ensures.looks, serves)
