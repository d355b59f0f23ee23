use Rattle.std.proofs.Common.{refl, ◌+◌, ap}
use Rattle.kn_request.specs.Terms.{watched}
use Rattle.kn_request.proofs.Later.{looks_from}
use Rattle.kn_request.proofs.Arrivals.{away_served, served_of, told_left, told_known, told_some}
use Rattle.kn_request.proofs.serve.serve_event.Goals as goal

pub taken_in-requires : goal.taken_in-requires
taken_in-requires g c = told_some c.server_laws.ensures.request c.args.tag c.now_ms-at.result c.in-Ok.arrival.0 c.args.pass.now c.arrive-arrived.new.pass c.arrive-arrived.ensures.looks c.in-Ok.ensures.ok

pub serve_request-requires-clause-known : goal.serve_request-requires-clause-known
serve_request-requires-clause-known g c =
    let t = c.in-Ok-taken_in.ensures in
    told_known c.server_laws.ensures.request c.args.tag c.now_ms-at.result c.in-Ok-taken_in.r c.in-Ok.arrival.0 t.0 c.args.pass.now c.arrive-arrived.new.pass c.arrive-arrived.ensures.looks c.in-Ok.ensures.ok t.1 t.2 t.3

pub serve_request-requires-clause-course : goal.serve_request-requires-clause-course
serve_request-requires-clause-course g c t s = c.in-Ok.ensures.course t c.in-Ok-taken_in.r s c.in-Ok-taken_in.ensures.1

pub returns-in-Err-clause-served : goal.returns-in-Err-clause-served
returns-in-Err-clause-served g c = (c.in-Err.ensures.full, refl)

pub returns-in-Err-taken_in-clause-served : goal.returns-in-Err-taken_in-clause-served
returns-in-Err-taken_in-clause-served g c =
    let t = c.in-Err-taken_in.ensures in
    away_served c.server_laws.ensures.request (watched (g.K.Clock.reading c.args.clock.now) g.W.Watch.leaves (g.C.Faulty.faults c.args.caller.now) (g.C.Faulty.faults c.args.caller.now)) c.args.timeout c.args.tag c.now_ms-at.result t.0 c.args.head.now c.in-Ok.arrival.0 t.1 c.in-Err-taken_in.meant c.args.pass.now c.arrive-arrived.new.pass
    (g.L.PodLink.told c.args.link.now) c.arrive-arrived.ensures.looks c.in-Ok.ensures.ok c.now_ms-at.ensures t.2 t.3 t.4 t.5

pub returns-in-Ok-taken_in-clause-looks : goal.returns-in-Ok-taken_in-clause-looks
returns-in-Ok-taken_in-clause-looks g c = looks_from c.args.pass.now c.arrive-arrived.new.pass c.serve_request.new.pass c.arrive-arrived.ensures.looks c.serve_request.ensures.looks

pub returns-in-Ok-taken_in-clause-served : goal.returns-in-Ok-taken_in-clause-served
returns-in-Ok-taken_in-clause-served g c =
    let p = c.args.pass.now in
    let q = c.arrive-arrived.new.pass in
    let told = c.in-Ok.arrival.0 in
    let l = c.arrive-arrived.ensures.looks in
    let x = c.in-Ok.ensures.ok in
    let time = c.now_ms-at.result in
    let t = c.in-Ok-taken_in.ensures in
    let r = c.in-Ok-taken_in.r in
    let left = told_left c.server_laws.ensures.request c.args.tag time r told t.0 p q l x t.1 t.2 t.3 in
    served_of (watched (g.K.Clock.reading c.args.clock.now) g.W.Watch.leaves (g.C.Faulty.faults c.args.caller.now) (g.C.Faulty.faults c.serve_request.new.caller)) c.args.timeout c.args.tag time (c.min.result + c.args.timeout) r told c.args.head.now p q c.serve_request.new.pass (g.L.PodLink.told c.args.link.now) (g.L.PodLink.told c.serve_request.new.link)
    c.serve_request.result l x c.now_ms-at.ensures c.serve_request.ensures.looks t.1 (ap (λ n. n + c.args.timeout) c.min.ensures) left c.serve_request.ensures.course
