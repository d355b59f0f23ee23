use Rattle.std.proofs.Common.{◌≡◌, ap, ◌∙◌, ◌∷◌, [], ◌++◌, ℕ, List, arith}
use Rattle.circular_buffer.specs.Buffer.{keep_last}
use Rattle.kn_window.specs.Stands.{WindowState}
use Rattle.kn_window.proofs.Pushes.{stands_pushed}
use Rattle.kn_window.proofs.window.Window.record_run.Goals as goal

pub returns-then-second-end-clause-stands : goal.returns-then-second-end-clause-stands
returns-then-second-end-clause-stands c = λ f r.
    let w = c.args.self.now in
    let old = c.self.inside.totals in
    let next = c.push.new.self in
    let size : old.ring.capacity ≡ w.seconds = ap (λ (w : WindowState). w.seconds) c.self.view_is in
    let end : old.end ≡ w.end = ap (λ (w : WindowState). w.end) c.self.view_is in
    let items : old.ring.items ≡ w.totals = ap (λ (w : WindowState). w.totals) c.self.view_is in
    let total : old.total ≡ w.total = ap (λ (w : WindowState). w.total) c.self.view_is in
    let at : c.args.second ≡ w.end = c.if-second-end.true ∙ c.end.ensures.end ∙ end in
    let kept : next.ring.items ≡ keep_last w.seconds (w.totals ++ w.total ∷ []) =
    c.push.ensures.items ∙ ap (λ (n : ℕ). keep_last n (old.ring.items ++ old.total ∷ [])) size
    ∙ ap (λ (xs : List ℕ). keep_last w.seconds (xs ++ old.total ∷ [])) items ∙ ap (λ (t : ℕ). keep_last w.seconds (w.totals ++ t ∷ [])) total in
    stands_pushed f c.args.load w c.args.second c.args.count next.ring.capacity next.total next.end next.ring.items
    (omega (arith, old.some, size)) c.requires.load (omega (arith, at, c.if-second-gt0.true)) at c.if-count-eq1.true
    (c.push.ensures.capacity ∙ size) kept (omega (arith, c.push.ensures.total, total)) (omega (arith, c.push.ensures.end, end)) r
