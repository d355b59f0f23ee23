use Rattle.std.proofs.Common.{◌≡◌, ◌∙◌, ◌-◌, ◌++◌, ◌∷◌, [], ℕ, List, ap, sym, subst, refl, arith, append-nil, length, length-append}
use Rattle.std.specs.Prelude.{None, Some}
use Rattle.kn_trace.specs.Rows.{begun_by}
use Rattle.kn_lives.specs.Lives.{arrived_at, life_in}
use Rattle.kn_begun.specs.Begun.{wait_by, waits}
use Rattle.kn_waits.specs.Waits.{AreWaits}
use Rattle.kn_show_summary.proofs.rows.count_begun.Goals as goal

pub returns-in-Some-clause-waits : goal.returns-in-Some-clause-waits
unfolding life_in
returns-in-Some-clause-waits c s es tag t can limit lives are =
    let e = c.args.e.now in
    let r = c.in-Some.r in
    let begins : begun_by e.row ≡ Some r = sym c.begun_by.ensures ∙ c.in-Some.is in
    let live = c.row_laws.ensures.begun s es tag t e.row can.comes r begins in
    let wait : c.waited-wait.result ≡ e.time - arrived_at t r = c.waited-wait.ensures (life_in es t r) (c.row_laws.ensures.known es t c.args.lives.now lives r live) in
    let one : wait_by t e ≡ c.waited-wait.result ∷ [] = rw begins (ap (λ (n : ℕ). n ∷ []) (sym wait)) in
    let next : waits (t ++ e ∷ []) ≡ waits t ++ c.waited-wait.result ∷ [] = c.begin_laws.ensures.append t e ∙ ap (λ (l : List ℕ). waits t ++ l) one in
    let made = c.fact_laws.ensures.proper.made_more s t (e ∷ []) can.comes.made (can.comes.proper, tt) in
    let few = c.begin_laws.ensures.few s (t ++ e ∷ []) made in
    let size = ap length next ∙ length-append (waits t) (c.waited-wait.result ∷ []) in
    subst (AreWaits c.count_wait.new.waits) (sym next)
    (c.count_wait.ensures.waits (omega (arith, wait, can.in_time r begins, can.some, limit)) (waits t) are (omega (arith, size, few, can.few)))

pub returns-in-None-clause-waits : goal.returns-in-None-clause-waits
returns-in-None-clause-waits c s es tag t can limit lives are =
    let e = c.args.e.now in
    let nobody : begun_by e.row ≡ None = sym c.begun_by.ensures ∙ c.in-None.is in
    let one : wait_by t e ≡ [] = rw nobody refl in
    let same : waits (t ++ e ∷ []) ≡ waits t = c.begin_laws.ensures.append t e ∙ ap (λ (l : List ℕ). waits t ++ l) one ∙ append-nil (waits t) in
    subst (AreWaits c.args.kept.now) (sym same) are
