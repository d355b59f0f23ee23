use Rattle.std.proofs.Common.{sym, subst, []}
use Rattle.kn_scaling.specs.Average.{no_samples}
use Rattle.kn_window.specs.Stands.{IsWindowOf}
use Rattle.kn_window.proofs.Windows.{stands_none}
use Rattle.kn_window.proofs.window.Window.new.Goals as goal

pub returns-in-Ok-clause-stands : goal.returns-in-Ok-clause-stands
returns-in-Ok-clause-stands c =
    let n = c.in-Ok.totals.ring.capacity in
    subst (λ xs. IsWindowOf (record { seconds = n; totals = xs; total = c.in-Ok.totals.total; end = c.in-Ok.totals.end }) no_samples) (sym c.in-Ok.ensures.0)
    (subst (λ t. IsWindowOf (record { seconds = n; totals = []; total = t; end = c.in-Ok.totals.end }) no_samples) (sym c.in-Ok.ensures.2)
    (subst (λ e. IsWindowOf (record { seconds = n; totals = []; total = 0; end = e }) no_samples) (sym c.in-Ok.ensures.3) (stands_none n)))
