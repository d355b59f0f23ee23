-- After one more event.
use Rattle.std.proofs.Common.{◌≡◌, ◌∙◌, ap, sym, subst, ℕ, [], ◌∷◌, ◌++◌}
use Rattle.std.specs.Prelude.{true, unwrap_or}
use Rattle.kn_event.specs.declared.entry.Entry.{Entry}
use Rattle.kn_event.specs.declared.event.Event.{Event}
use Rattle.kn_event.specs.declared.revision.Spec.{Spec}
use Rattle.kn_trace.specs.Scale.{count_ready}
use Rattle.kn_trace.specs.Trace.{Trace}
use Rattle.kn_core.specs.State.{RevisionState}
use Rattle.kn_laws.specs.Facts.{PartFacts}
use Rattle.kn_lives.specs.Lives.{ComeInTurn, ComeNext, StayLives, tag_by}
use Rattle.kn_past.specs.Changes.{leaves_pods}
use Rattle.kn_teller.specs.Run.{IsStep, Run, later, trace}
use Rattle.kn_show_reasons.specs.declared.seen.Seen.{Seen}
use Rattle.kn_show_reasons.specs.Reasons.{event_text, rows_text}
use Rattle.kn_show_reasons.specs.State.{AreReady, AreReasonsOf, Follows, Knows, ReasonsState}
use Rattle.kn_show_reasons.proofs.Expiries.{ready_before}

pub told_text : (r : Run) (e : Event) (rev : RevisionState) (log : Trace) (x : ReasonsState) (s : Spec) → s ≡ x.spec → AreReasonsOf x r → IsStep r e rev log → rows_text s (trace r) log ≡ event_text r e
unfolding event_text
told_text r e rev log x s same h step = ap (λ (z : Spec). rows_text z (trace r) log) (same ∙ h.spec) ∙ ap (λ (l : Trace). rows_text r.spec (trace r) l) step.rows

rows_come : (r : Run) (e : Event) (rev : RevisionState) (log : Trace) (tag : ℕ) → ComeInTurn r.spec r.start r.events e → tag ≡ unwrap_or (tag_by e.act) 0 → IsStep r e rev log → ComeNext r.spec (later r e).events tag (trace r) log
rows_come r e rev log tag turn is step =
    subst (λ (n : ℕ). ComeNext r.spec (later r e).events n (trace r) log) (sym is) (λ before rest y split. turn before rest y (sym step.rows ∙ split))

pub follows : (facts : PartFacts) (same : (c : Trace) (y : Entry) → leaves_pods y.row ≡ true → count_ready (c ++ y ∷ []) ≡ count_ready c) (r : Run) (e : Event) (rev : RevisionState) (log : Trace) (x : ReasonsState) (tag : ℕ) (s : Spec) (y : Seen)
    → s ≡ x.spec → y ≡ x.seen → ComeInTurn r.spec r.start r.events e → tag ≡ unwrap_or (tag_by e.act) 0 → StayLives r.spec r.start r.events (e ∷ []) → AreReasonsOf x r → IsStep r e rev log → Follows s (later r e).events tag y (trace r) log
follows facts same r e rev log x tag s y is_spec is_seen turn is_tag stay h step =
    let ready : AreReady x.seen.ready (trace r) log =
    λ before rest z split expire. h.ready ∙ sym (ready_before facts same r.spec (trace r) e before rest z (sym step.rows ∙ split) expire) in
    let all : Follows r.spec (later r e).events tag x.seen (trace r) log = record {
      next = rows_come r e rev log tag turn is_tag step;
      ready = ready;
      knows = record { lives = stay x.seen.lives h.knows.lives; sees = h.knows.sees };
    } in
    subst (λ (z : Spec). Follows z (later r e).events tag y (trace r) log) (sym (is_spec ∙ h.spec)) (subst (λ (z : Seen). Follows r.spec (later r e).events tag z (trace r) log) (sym is_seen) all)

pub told : (r : Run) (e : Event) (rev : RevisionState) (log : Trace) (x : ReasonsState) (y : Seen) (n : ℕ) → AreReasonsOf x r → IsStep r e rev log → Knows y (later r e).events (trace r ++ log) → n ≡ count_ready (trace (later r e))
    → AreReasonsOf (record x { seen = record y { ready = n } }) (later r e)
told r e rev log x y n h step knows ready =
    let now : Knows y (later r e).events (trace (later r e)) = subst (Knows y (later r e).events) (sym step.trace_is) knows in
    record {
      spec = h.spec;
      knows = record { lives = now.lives; sees = record { phase = now.sees.phase; since = now.sees.since } };
      ready = ready;
    }
