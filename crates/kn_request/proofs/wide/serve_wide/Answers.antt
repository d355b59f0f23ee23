use Rattle.std.proofs.Common.{◌∙◌, List, inr, map, subst, sym}
use Rattle.kn_request.specs.declared.slot.Work.{Work}
use Rattle.kn_request.specs.Outside.{said}
use Rattle.kn_request.specs.Wide.{EachPass, IsWideWay, passes_in}
use Rattle.kn_request.proofs.Talking.{met_of}
use Rattle.kn_request.proofs.WideFacts.{causes_from, lent}
use Rattle.kn_request.proofs.wide.serve_wide.Goals as goal

pub serve_named-requires-clause-passes : goal.serve_named-requires-clause-passes
serve_named-requires-clause-passes g c = subst (λ (l : List Work). EachPass c.args.cells.now (passes_in l)) (sym c.deref_mut.ensures.value) c.requires.passes

pub returns-in-Ok-clause-serves : goal.returns-in-Ok-clause-serves
returns-in-Ok-clause-serves g c =
    let kept = g.C.Sink.kept in
    let held = g.C.Sink.held in
    let left = g.C.Source.left in
    let told = g.L.PodLink.told in
    let old = c.args.slot.now.caller in
    let mid = c.meet.new.self in
    let s = c.serve_named in
    let new = s.new.caller in
    let works = c.args.slot.now.works in
    let links = c.args.slot.now.links in
    let way = IsWideWay (g.K.Clock.reading c.args.clock.now) c.args.specs.now c.args.tag (passes_in c.deref_mut.result.now) (passes_in s.new.works) (map (λ l. told l) c.deref_mut-in-Ok.result.now) (map (λ l. told l) s.new.links) s.result.revision in
    let it = met_of c.caller_laws.ensures.texts c.caller_laws.ensures.streams way (kept old) (kept mid) (held old) (held mid) (left old) (left mid) (said (kept new) (held new)) s.result.served
    (g.met.C.Caller.paired old) (g.met.C.Caller.heard old) c.in-Ok.ensures.met s.ensures.serves in
    let p = lent works.len s.new.works works.items (s.ensures.count.1 ∙ c.deref_mut.ensures.len) in
    let l = lent links.len s.new.links links.items (s.ensures.count.0 ∙ c.deref_mut-in-Ok.ensures.len) in
    inr (rw (p, l) (rw (sym c.deref_mut.ensures.value, sym c.deref_mut-in-Ok.ensures.value) it))

pub returns-in-Ok-clause-causes : goal.returns-in-Ok-clause-causes
returns-in-Ok-clause-causes g c =
    let faults = g.L.Faulty.faults in
    let callers = g.C.Faulty.faults in
    let s = c.serve_named in
    let old = c.args.slot.now.caller in
    let links = c.args.slot.now.links in
    let it = causes_from (callers old) (callers c.meet.new.self) (callers s.new.caller) (map (λ l. faults l) c.deref_mut-in-Ok.result.now) (map (λ l. faults l) s.new.links) s.result.revision s.result.served c.meet.ensures.cause.never_falls s.ensures.causes in
    let l = lent links.len s.new.links links.items (s.ensures.count.0 ∙ c.deref_mut-in-Ok.ensures.len) in
    rw l (rw (sym c.deref_mut-in-Ok.ensures.value) it)

pub returns-in-Ok-clause-passes : goal.returns-in-Ok-clause-passes
returns-in-Ok-clause-passes g c =
    let s = c.serve_named in
    let works = c.args.slot.now.works in
    let p = lent works.len s.new.works works.items (s.ensures.count.1 ∙ c.deref_mut.ensures.len) in
    subst (λ (l : List Work). EachPass c.args.cells.now (passes_in l)) (sym p) s.ensures.passes
