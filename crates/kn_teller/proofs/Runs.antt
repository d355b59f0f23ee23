-- A run, one event more.
use Rattle.std.proofs.Common.{◌≡◌, ◌≤◌, ◌^◌, ◌∷◌, [], ◌++◌, append-nil, refl, sym, subst, ap, ◌∙◌, arith}
use Rattle.kn_event.specs.declared.event.Event.{Event}
use Rattle.kn_event.specs.declared.revision.Spec.{Spec}
use Rattle.kn_trace.specs.Events.{added, react}
use Rattle.kn_trace.specs.Trace.{Trace}
use Rattle.kn_record.specs.Made.{IsMade}
use Rattle.kn_laws.specs.History.{GoesOn}
use Rattle.kn_core.specs.State.{RevisionState, StandsFor}
use Rattle.kn_teller.specs.Run.{IsRunOf, IsStep, Run, later, trace}

pub trace_later : (run : Run) (e : Event) → GoesOn run.spec run.start run.events (e ∷ []) → trace (later run e) ≡ trace run ++ react run.spec (trace run) e
unfolding added
trace_later run e h = h ∙ ap (λ (t : Trace). trace run ++ t) (append-nil (react run.spec (trace run) e))

-- a revision that took one more event, behind a run that it stood for
pub is_step : (old new : RevisionState) (e : Event) (r : Run)
    → IsRunOf r old → GoesOn r.spec r.start r.events (e ∷ []) → IsMade r.spec (trace r)
    → ((c : Trace) → StandsFor old c → StandsFor new (c ++ react old.spec c e))
    → new.spec ≡ old.spec → new.clock ≡ e.time → old.clock ≤ e.time → e.time ≤ 2 ^ 42
    → IsStep r e new (react r.spec (trace r) e)
is_step old new e r run goes made stands spec clock order times =
    let more = trace_later r e goes in
    record {
      stands = subst (StandsFor new) (ap (λ (s : Spec). trace r ++ react s (trace r) e) run.spec ∙ sym more) (stands (trace r) run.stands);
      spec = spec ∙ run.spec;
      clock = clock;
      rows = refl;
      trace_is = more;
      made = made;
      order = omega (arith, run.now, order);
      times = times;
    }
