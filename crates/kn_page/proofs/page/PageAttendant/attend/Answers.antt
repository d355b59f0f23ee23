-- One connection more.
use Rattle.std.proofs.Common.{◌≡◌, sym, subst, ℕ, Bool}
use Rattle.kn_page.specs.Visits.{OneVisit, Side, side}
use Rattle.kn_page.proofs.Looking.{only_trans, same_side, visit_only, visits_more}
use Rattle.kn_page.proofs.page.PageAttendant.attend.Goals as goal

pub loop-preserved : goal.loop-preserved
loop-preserved g c =
    let i = c.loop.invariant in
    let x = c.next-in-loop in
    let y = c.receive in
    let z = c.part in
    let kept = g.C.Sink.kept in
    let held = g.C.Sink.held in
    let faults = g.C.Faulty.faults in
    let stops : Bool → Type 0 = g.E.Server.stops c.args.self.now.server.now in
    let waits : ℕ → Type 0 = g.E.Server.waits c.args.self.now.server.now in
    let from = c.args.self.now.caller in
    let old = c.loop.self.caller in
    let let_in = x.new.caller in
    let told = y.new.caller in
    let done = z.new.self in
    let before : side (kept let_in) (held let_in) (faults let_in) ≡ side (kept old) (held old) (faults old) = same_side _ _ _ _ _ _ x.ensures.kept x.ensures.held x.ensures.faults in
    let behind : side (kept done) (held done) (faults done) ≡ side (kept told) (held told) (faults told) = same_side _ _ _ _ _ _ z.ensures.kept z.ensures.held z.ensures.faults in
    let here : OneVisit stops waits y.result c.loop.pass y.new.pass (side (kept let_in) (held let_in) (faults let_in)) (side (kept told) (held told) (faults told)) =
    subst (λ (e : g.row.E.Denot). OneVisit (g.E.Server.stops e) (g.E.Server.waits e) y.result c.loop.pass y.new.pass (side (kept let_in) (held let_in) (faults let_in)) (side (kept told) (held told) (faults told))) i.server y.ensures in
    let one : OneVisit stops waits y.result c.loop.pass y.new.pass (side (kept old) (held old) (faults old)) (side (kept done) (held done) (faults done)) =
    subst (λ (s : Side). OneVisit stops waits y.result c.loop.pass y.new.pass s (side (kept done) (held done) (faults done))) before
    (subst (λ (s : Side). OneVisit stops waits y.result c.loop.pass y.new.pass (side (kept let_in) (held let_in) (faults let_in)) s) (sym behind) here) in
    record {
      visits = visits_more stops waits y.result c.args.pass.now c.loop.pass y.new.pass (side (kept from) (held from) (faults from)) (side (kept old) (held old) (faults old)) (side (kept done) (held done) (faults done)) i.visits one;
      looks = only_trans c.args.pass.now c.loop.pass y.new.pass i.looks (visit_only stops waits y.result c.loop.pass y.new.pass (side (kept old) (held old) (faults old)) (side (kept done) (held done) (faults done)) one);
      server = i.server;
      door = i.door;
    }
