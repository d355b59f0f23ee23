-- After the opening.
use Rattle.std.proofs.Common.{◌≡◌, ◌∙◌, ap, sym, subst, ℕ, List, [], None}
use Rattle.kn_event.specs.declared.event.Event.{Event}
use Rattle.kn_event.specs.declared.revision.Spec.{Spec}
use Rattle.kn_trace.specs.Events.{trace_of}
use Rattle.kn_trace.specs.Scale.{count_ready}
use Rattle.kn_trace.specs.Trace.{Trace}
use Rattle.kn_core.specs.State.{RevisionState}
use Rattle.kn_lives.specs.declared.lives.Life.{Life}
use Rattle.kn_lives.specs.Lives.{AreLives}
use Rattle.kn_teller.specs.Run.{IsOpened, Run, trace}
use Rattle.kn_show_reasons.specs.declared.seen.Seen.{Seen}
use Rattle.kn_show_reasons.specs.State.{AreReasonsOf, IsUnopened, ReasonsState, SeesPhase}

pub opened : (r : Run) (x : ReasonsState) (rev : RevisionState) (log : Trace) (old new : Seen) (n : ℕ) → ((s : Spec) (start : ℕ) (l : List (ℕ × Life)) → AreLives l [] [] → AreLives l [] (trace_of s start []))
    → old ≡ x.seen → (old.phase ≡ None → SeesPhase new log) → new.lives ≡ old.lives → n ≡ count_ready (trace r) → IsUnopened x r → IsOpened r rev log → AreReasonsOf (record x { seen = record new { ready = n } }) r
opened r x rev log old new n lives same sees kept ready u o =
    let empty : AreLives new.lives [] [] = subst (λ (l : List (ℕ × Life)). AreLives l [] []) (sym (kept ∙ ap (λ (y : Seen). y.lives) same)) u.lives in
    let seen : SeesPhase new (trace r) = subst (SeesPhase new) (sym o.trace_is) (sees (ap (λ (y : Seen). y.phase) same ∙ u.phase)) in
    record {
      spec = u.spec;
      knows = record {
        lives = subst (λ (es : List Event). AreLives new.lives es (trace_of r.spec r.start es)) (sym o.none) (lives r.spec r.start new.lives empty);
        sees = record { phase = seen.phase; since = seen.since };
      };
      ready = ready;
    }
