-- A schedule ends: there are only so many events.
use Rattle.std.proofs.Common.{ℕ, ◌≤◌, List, [], ◌∷◌, ◌++◌, length, refl, sym, subst, arith, append-nil, append_assoc}
use Rattle.kn_event.specs.declared.event.Event.{Event}
use Rattle.kn_agenda.specs.declared.item.Item.{Item}
use Rattle.kn_agenda.specs.Workload.{IsWorkload, Workload}
use Rattle.kn_agenda.specs.Due.{AreNext, IsNext, event_of, ticks_of}
use Rattle.kn_agenda.specs.Runs.{Runs, so_far}

abbrev pub RunsAt : Workload → List Event → Type 0
RunsAt w es = (clock : ℕ) × Runs w es clock

module _ (w : Workload) (step : (es : List Event) (clock : ℕ) (x : Item) → Runs w es clock → IsNext w (so_far w es) (ticks_of es) x → x.time ≤ w.until → Runs w (es ++ event_of w x ∷ []) x.time) where
  -- where each event came next, one after the other
  pub runs_on : (before es : List Event) → AreNext w (before ++ es) → RunsAt w before → RunsAt w (before ++ es)
  runs_on before [] steps runs = subst (RunsAt w) (sym (append-nil before)) runs
  runs_on before (e ∷ es) steps (clock, runs) =
      let next = steps before e es refl in
      let one : RunsAt w (before ++ e ∷ []) = (next.0.time, subst (λ (f : Event). Runs w (before ++ f ∷ []) next.0.time) (sym next.3) (step before clock next.0 runs next.1 next.2)) in
      subst (RunsAt w) (append_assoc before (e ∷ []) es) (runs_on (before ++ e ∷ []) es (subst (AreNext w) (sym (append_assoc before (e ∷ []) es)) steps) one)

pub few_events : (w : Workload) (es : List Event) (clock : ℕ) → IsWorkload w → Runs w es clock → length es ≤ 71886900
few_events w es clock good runs = let many = runs.many in let come = runs.few in let ticks = runs.ticks in let jobs = good.few in omega arith
