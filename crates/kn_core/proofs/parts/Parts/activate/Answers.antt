use Rattle.std.proofs.Common.{◌≡◌, ◌∙◌, true, false, refl, sym, append-nil}
use Rattle.kn_core.specs.Scaling.{is_waiting_for_pod}
use Rattle.kn_core.proofs.parts.Parts.activate.Goals as goal
use Rattle.kn_core.proofs.parts.Parts.activate.Goals.{then-pod_ready, else-pod_ready}

pub returns-clause-hears : goal.returns-clause-hears
returns-clause-hears c = rw (← c.self.view_is) (record {
  logged = λ s d h.
      elim c.if-pod_ready.branch [
        | then-pod_ready w ↦ let e : is_waiting_for_pod d ≡ true = sym (c.pod_ready.ensures.answer s d h) ∙ w.if-pod_ready.true in rw (w.log-is, w.put.ensures, e) refl
        | else-pod_ready w ↦ let e : is_waiting_for_pod d ≡ false = sym (c.pod_ready.ensures.answer s d h) ∙ w.if-pod_ready.false in rw (w.log-is, e) (sym (append-nil c.args.log.now))
      ];
  scaler = λ s d p pods h. c.pod_ready.ensures.stands s d p (sym (c.count_ready-ready.ensures.trace _ pods)) h;
})
