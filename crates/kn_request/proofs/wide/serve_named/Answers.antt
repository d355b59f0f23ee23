use Rattle.std.proofs.Common.{[], refl, subst, sym, ap, ◌∙◌, arith, map, List, ℕ}
use Rattle.std.proofs.lemmas.List.{get_or-map, length-map, map-set}
use Rattle.std.specs.Prelude.{Ok, Err, None, Some, Option, slice_index_or, slice_set}
use Rattle.kn_event.specs.declared.revision.Spec.{Spec}
use Rattle.kn_io.specs.Links.{Link}
use Rattle.kn_head.specs.declared.answer.Answer.{Answer}
use Rattle.kn_request.specs.declared.slot.Work.{Work}
use Rattle.kn_request.specs.Outside.{Said, said}
use Rattle.kn_head.specs.declared.answer.Answer.TheVariants as answer
use Rattle.kn_head.specs.Answers.{answered}
use Rattle.kn_request.specs.declared.slot.Served.TheVariants as served
use Rattle.kn_request.specs.One.{IsEvent, IsUnread, Refuses, Writes}
use Rattle.kn_request.specs.Terms.{unwatched}
use Rattle.kn_request.specs.Wide.{ServesAt, WideCauses, passes_in}
use Rattle.kn_request.proofs.Talking.{said_stays, silent}
use Rattle.kn_request.proofs.WideFacts.{causes_at, causes_from, each_stays, flags_stay, served_at, work_has}
use Rattle.kn_request.proofs.wide.serve_named.Goals as goal

pub serve_with-served-requires : goal.serve_with-served-requires
serve_with-served-requires g c =
    let v = c.in-Some.v in
    let inside = c.in-Some.ensures.some.inside in
    let many = c.requires.cells in
    let works = c.requires.slot.1 in
    let has = work_has c.args.cells.now c.args.works.now v c.index-cells-v.result c.index-works-v.result c.requires.passes (omega (arith, inside, many)) (omega (arith, inside, works)) in
    record { pass = (has.0, has.1, has.2 ∙ sym c.index-cells-v.is) }

pub returns-in-Some-clause-serves : goal.returns-in-Some-clause-serves
returns-in-Some-clause-serves g c =
    let kept = g.C.Sink.kept in
    let held = g.C.Sink.held in
    let told = g.L.PodLink.told in
    let old = c.args.caller.now in
    let mid = c.read_head.new.source in
    let s = c.serve_with-served in
    let v = c.in-Some.v in
    let named = c.in-Some.ensures.some in
    let inside = named.inside in
    let many = c.requires.cells in
    let links = c.requires.slot.0 in
    let works = c.requires.slot.1 in
    let p = c.requires.passes v c.index-cells-v.result (omega (arith, inside, many)) in
    let at = sym (get_or-map (λ (x : Work). x.pass) c.args.works.now v c.index-works-v.result None (omega (arith, inside, works))) ∙ p.1 in
    let x = s.ensures.pass p.0 at in
    let q = x.0 in
    let r = x.3 in
    let ws : List (Option Link) = map (λ l. told l) c.args.links.now in
    let long = length-map c.args.links.now (λ l. told l) in
    let was = get_or-map (λ l. told l) c.args.links.now v c.index-links-v.result None (omega (arith, inside, links)) in
    let s0 = c.index-as_slice-v.result in
    let spec = c.index-as_slice-v.is ∙ ap (λ (l : List Spec). slice_index_or l v s0) c.as_slice.ensures ∙ named.spec_is s0 in
    let wire = told (slice_index_or c.args.links.now v c.index-links-v.result) in
    let wire' = told s.new.link in
    let reading = g.K.Clock.reading c.args.clock.now in
    let event = subst (λ (d : Spec). IsEvent (unwatched reading) d.timeout_ms c.args.tag c.in-Ok.head p.0 q wire wire' r.meant r.text) spec r.event in
    let it = served_at reading c.args.specs.now c.args.tag c.args.works.now s.new.work ws wire wire' v c.in-Ok.head r.meant r.text p.0 q named (omega (arith, inside, links, long)) p.1 x.1 x.2 was event in
    let same = said_stays (kept old) (kept mid) (held old) (held mid) (sym (g.met.C.Caller.together mid) ∙ (c.read_head.ensures.apart_stays ∙ g.met.C.Caller.together old)) in
    let new = s.new.caller in
    record {
      found = Ok c.in-Ok.head;
      reads = c.in-Ok.ensures.reads;
      meant = r.meant;
      text = r.text;
      way = subst (λ (l : List (Option Link)). ServesAt reading c.args.specs.now c.args.tag (passes_in c.args.works.now) (passes_in (slice_set c.args.works.now v s.new.work)) ws l v c.in-Ok.head r.meant r.text)
          (sym (map-set (λ l. told l) c.args.links.now v s.new.link)) it;
      writes = subst (λ (a : Option Said). Writes a (said (kept new) (held new)) s.result r.meant r.text) same r.writes;
    }

pub returns-in-Some-clause-causes : goal.returns-in-Some-clause-causes
returns-in-Some-clause-causes g c =
    let faults = g.L.Faulty.faults in
    let callers = g.C.Faulty.faults in
    let old = c.args.caller.now in
    let mid = c.read_head.new.source in
    let s = c.serve_with-served in
    let v = c.in-Some.v in
    let links = c.args.links.now in
    let inside = c.in-Some.ensures.some.inside in
    let many = c.requires.slot.0 in
    let bs : List ℕ = map (λ l. faults l) links in
    let long = length-map links (λ l. faults l) in
    let was = get_or-map (λ l. faults l) links v c.index-links-v.result 0 (omega (arith, inside, many)) in
    let it = causes_at (callers mid) (callers s.new.caller) bs (faults (slice_index_or links v c.index-links-v.result)) (faults s.new.link) v s.result (omega (arith, inside, many, long)) was s.ensures.causes in
    let all = causes_from (callers old) (callers mid) (callers s.new.caller) bs (slice_set bs v (faults s.new.link)) (Some v) s.result c.read_head.ensures.never_falls it in
    subst (λ (l : List ℕ). WideCauses (callers old) (callers s.new.caller) bs l (Some v) s.result) (sym (map-set (λ l. faults l) links v s.new.link)) all

pub returns-in-Some-clause-fault : goal.returns-in-Some-clause-fault
returns-in-Some-clause-fault g c =
    let inside = c.in-Some.ensures.some.inside in
    let works = c.requires.slot.1 in
    flags_stay (λ (x : Work). x.fault) c.args.works.now c.in-Some.v c.index-works-v.result c.serve_with-served.new.work (omega (arith, inside, works)) c.index-works-v.is (c.serve_with-served.ensures.flags.0 ∙ sym (ap (λ (x : Work). x.fault) c.index-works-v.is))

pub returns-in-Some-clause-memory : goal.returns-in-Some-clause-memory
returns-in-Some-clause-memory g c =
    let inside = c.in-Some.ensures.some.inside in
    let works = c.requires.slot.1 in
    flags_stay (λ (x : Work). x.memory) c.args.works.now c.in-Some.v c.index-works-v.result c.serve_with-served.new.work (omega (arith, inside, works)) c.index-works-v.is (c.serve_with-served.ensures.flags.1 ∙ sym (ap (λ (x : Work). x.memory) c.index-works-v.is))

pub returns-in-Some-clause-passes : goal.returns-in-Some-clause-passes
returns-in-Some-clause-passes g c =
    let v = c.in-Some.v in
    let inside = c.in-Some.ensures.some.inside in
    let many = c.requires.cells in
    let works = c.requires.slot.1 in
    let p = c.requires.passes v c.index-cells-v.result (omega (arith, inside, many)) in
    let at = sym (get_or-map (λ (x : Work). x.pass) c.args.works.now v c.index-works-v.result None (omega (arith, inside, works))) ∙ p.1 in
    let x = c.serve_with-served.ensures.pass p.0 at in
    each_stays c.args.cells.now c.args.works.now v c.index-cells-v.result c.serve_with-served.new.work p.0 x.0 c.requires.passes (works ∙ sym many) (omega (arith, inside, works)) p.2 x.2 x.1

pub returns-in-Ok-clause-serves : goal.returns-in-Ok-clause-serves
returns-in-Ok-clause-serves g c =
    let kept = g.C.Sink.kept in
    let held = g.C.Sink.held in
    let old = c.args.caller.now in
    let mid = c.read_head.new.source in
    let new = c.refuse.new.caller in
    let x = c.refuse.ensures.refuses in
    let same = said_stays (kept old) (kept mid) (held old) (held mid) (sym (g.met.C.Caller.together mid) ∙ (c.read_head.ensures.apart_stays ∙ g.met.C.Caller.together old)) in
    record {
      found = Ok c.in-Ok.head;
      reads = c.in-Ok.ensures.reads;
      meant = served.Refused answer.NoSuchRevision;
      text = answered answer.NoSuchRevision;
      way = (c.in-None.ensures.none, record { passes = refl; wires = refl }, (refl, refl));
      writes = subst (λ (s : Option Said). Refuses s (said (kept new) (held new)) answer.NoSuchRevision c.refuse.result) same x;
    }

pub returns-in-Some-answer-clause-serves : goal.returns-in-Some-answer-clause-serves
returns-in-Some-answer-clause-serves g c =
    let kept = g.C.Sink.kept in
    let held = g.C.Sink.held in
    let old = c.args.caller.now in
    let mid = c.read_head.new.source in
    let new = c.refuse-in-Some-answer.new.caller in
    let x = c.refuse-in-Some-answer.ensures.refuses in
    let a = c.in-Some-answer.answer in
    let same = said_stays (kept old) (kept mid) (held old) (held mid) (sym (g.met.C.Caller.together mid) ∙ (c.read_head.ensures.apart_stays ∙ g.met.C.Caller.together old)) in
    record {
      found = Err c.in-Err.error;
      reads = c.in-Err.ensures.reads;
      meant = served.Refused a;
      text = answered a;
      way = (record { passes = refl; wires = refl }, subst (λ (o : Option Answer). IsUnread c.in-Err.error o (served.Refused a) (answered a)) (sym c.in-Some-answer.is ∙ c.answer.ensures) (refl, refl));
      writes = subst (λ (s : Option Said). Refuses s (said (kept new) (held new)) a c.refuse-in-Some-answer.result) same x;
    }

pub returns-clause-serves : goal.returns-clause-serves
returns-clause-serves g c =
    let kept = g.C.Sink.kept in
    let held = g.C.Sink.held in
    let old = c.args.caller.now in
    let mid = c.read_head.new.source in
    let x = c.fault_of.ensures.unread in
    let same = said_stays (kept old) (kept mid) (held old) (held mid) (sym (g.met.C.Caller.together mid) ∙ (c.read_head.ensures.apart_stays ∙ g.met.C.Caller.together old)) in
    record {
      found = Err c.in-Err.error;
      reads = c.in-Err.ensures.reads;
      meant = c.fault_of.result;
      text = [];
      way = (record { passes = refl; wires = refl }, subst (λ (a : Option Answer). IsUnread c.in-Err.error a c.fault_of.result []) (sym c.in-None-answer.is ∙ c.answer.ensures) x);
      writes = subst (λ (s : Option Said). Writes s (said (kept mid) (held mid)) c.fault_of.result c.fault_of.result []) same (silent (said (kept mid) (held mid)) c.fault_of.result);
    }
