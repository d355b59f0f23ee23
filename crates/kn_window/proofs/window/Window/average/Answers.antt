use Rattle.std.proofs.Common.{◌≡◌, sym, ap, subst, ◌∙◌, ◌-◌, ◌<◌, ◌≤◌, arith, length}
use Rattle.std.specs.Prelude.{Some, slice_get, unwrap_or}
use Rattle.kn_scaling.specs.Average.{IsAverage, load_over}
use Rattle.kn_window.specs.Stands.{WindowState, first_of}
use Rattle.kn_window.proofs.Windows.{average_none, average_small, average_some, start_of, sum_of}
use Rattle.kn_window.proofs.window.Window.average.Goals as goal

pub returns-then-end-low-clause-value : goal.returns-then-end-low-clause-value
returns-then-end-low-clause-value c = λ f r.
    let seconds = ap (λ (w : WindowState). w.seconds) c.self.view_is in
    let end = ap (λ (w : WindowState). w.end) c.self.view_is in
    sym (average_none f c.args.self.now c.args.now r (omega (arith, c.if-end-low.true, c.end-end.ensures.end, c.saturating_sub-low.ensures, c.seconds.ensures.seconds, seconds, end)))

-- some sample lies in the window
inside : (c : goal.After-load_over) → c.args.now - c.args.self.now.seconds < c.args.self.now.end
inside c =
    let seconds = ap (λ (w : WindowState). w.seconds) c.self.view_is in
    let end = ap (λ (w : WindowState). w.end) c.self.view_is in
    omega (arith, c.if-end-low.false, c.end-end.ensures.end, c.saturating_sub-low.ensures, c.seconds.ensures.seconds, seconds, end)

result_is : (c : goal.After-load_over) → c.load_over.result ≡ load_over (sum_of c.args.self.now c.args.now) (c.args.self.now.end - start_of c.args.self.now c.args.now - 1)
result_is c =
    let w = c.args.self.now in
    let totals = c.self.inside.totals in
    let seconds = ap (λ (w : WindowState). w.seconds) c.self.view_is in
    let end = ap (λ (w : WindowState). w.end) c.self.view_is in
    let items = ap (λ (w : WindowState). w.totals) c.self.view_is in
    let total = ap (λ (w : WindowState). w.total) c.self.view_is in
    let size = ap length items in
    let first : c.first-first.result ≡ first_of w = omega (arith, c.first-first.ensures, end, size) in
    let start : c.max-start.result ≡ start_of w c.args.now = omega (arith, c.max-start.ensures, first, c.saturating_sub-low.ensures, c.seconds.ensures.seconds, seconds) in
    let place : c.max-start.result - c.first-first.result ≡ start_of w c.args.now - first_of w = omega (arith, first, start) in
    let others : c.saturating_sub.result ≡ w.end - start_of w c.args.now - 1 = omega (arith, c.saturating_sub.ensures, c.end-end.ensures.end, end, start) in
    let sum : c.sum_from-sum.result ≡ sum_of w c.args.now =
    c.sum_from-sum.ensures
    ∙ ap (λ k. totals.total - unwrap_or (slice_get totals.ring.items k) 0) place
    ∙ ap (λ xs. totals.total - unwrap_or (slice_get xs (start_of w c.args.now - first_of w)) 0) items
    ∙ ap (λ t. t - unwrap_or (slice_get w.totals (start_of w c.args.now - first_of w)) 0) total in
    c.load_over.ensures ∙ ap (λ n. load_over n c.saturating_sub.result) sum ∙ ap (load_over (sum_of w c.args.now)) others

pub returns-clause-value : goal.returns-clause-value
returns-clause-value c = λ f r. ap (λ x. Some x) (result_is c) ∙ sym (average_some f c.args.self.now c.args.now r (inside c) c.requires)

pub returns-clause-small : goal.returns-clause-small
returns-clause-small c = λ f r.
    let seconds = ap (λ (w : WindowState). w.seconds) c.self.view_is in
    let hour : c.args.self.now.seconds ≤ 3600 = omega (arith, c.self.inside.totals.size, seconds) in
    subst IsAverage (sym (result_is c)) (average_small f c.args.self.now c.args.now r (inside c) c.requires hour)
