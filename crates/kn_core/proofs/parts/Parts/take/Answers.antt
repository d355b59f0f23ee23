use Rattle.std.proofs.Common.{◌∙◌, ◌++◌, ◌∷◌, [], ◌≤◌, sym, ap, subst, append_assoc, length, Some, List}
use Rattle.kn_event.specs.declared.entry.Entry.{Entry}
use Rattle.kn_event.specs.declared.revision.Spec.{Spec}
use Rattle.kn_trace.specs.Events.{act_row, entries_of}
use Rattle.kn_trace.specs.Trace.{Trace, entry}
use Rattle.kn_record.specs.Made.{IsProper}
use Rattle.kn_laws.specs.Kinds.{IsActRow}
use Rattle.kn_throttle.specs.State as throttle
use Rattle.kn_core.specs.Changes.{woken}
use Rattle.kn_core.specs.State.{ArePartsOf}
use Rattle.kn_core.proofs.After.{some_of_ready}
use Rattle.kn_core.proofs.Created.{took_created}
use Rattle.kn_core.proofs.Openings.{timed_by_row}
use Rattle.kn_core.proofs.Taking.{own_few, own_next, own_next_some, parts_took}
use Rattle.kn_core.proofs.parts.Parts.take.Goals as goal

pub act-row-requires-clause-some : goal.act-row-requires-clause-some
act-row-requires-clause-some c = some_of_ready (λ s d. entries_of c.args.e.now.time (act_row s d c.args.e.now.act)) c.args.self.now c.requires.some

pub hear-requires-clause-next : goal.hear-requires-clause-next
hear-requires-clause-next c =
    own_next_some c.append_laws.ensures.views c.part_laws.ensures.rows.act-facts c.args.self.now _ c.args.e.now.time c.in-Some.row c.args.e.now.act c.before_end-stand.result.0 c.before_end-stand.result.1
    c.requires.order.few c.in-Some.ensures.adds c.in-Some.ensures.row
    (λ s d q some h e. c.before_end-stand.ensures.stand s d q some h (c.ending.ensures ∙ e))
    (λ s d q some h e. c.before_end-stand.ensures.proxied s d q some h (c.ending.ensures ∙ e))
    c.requires.some

pub returns-in-Some-clause-adds : goal.returns-in-Some-clause-adds
returns-in-Some-clause-adds c =
    let t = c.args.e.now.time in
    let a = c.args.e.now.act in
    let x = c.in-Some.row in
    let is_act = λ (s : Spec) (d : Trace) (h : ArePartsOf s c.args.self.now d). subst (IsActRow a) (c.in-Some.ensures.row s d h) (c.part_laws.ensures.rows.act-facts s d a) in
    let next = λ (s : Spec) (d : Trace) (h : ArePartsOf s c.args.self.now d) (proper : IsProper s d x).
    own_next c.args.self.now _ t x a c.before_end-stand.result.0 c.before_end-stand.result.1 s d (is_act s d h) c.in-Some.ensures.adds h proper
    (λ some q e. c.before_end-stand.ensures.stand s d q some h (c.ending.ensures ∙ e)) (λ some q e. c.before_end-stand.ensures.proxied s d q some h (c.ending.ensures ∙ e)) in
    record {
      logged = λ s d h proper.
          c.hear.ensures.hears.logged s d (next s d h proper.0)
          ∙ ap (λ (es : List Entry). es ++ woken (Some x) t (d ++ entry t x ∷ [])) c.in-Some.ensures.logged
          ∙ append_assoc c.args.log.now (entry t x ∷ []) (woken (Some x) t (d ++ entry t x ∷ []));
      stands = λ s d h proper.
          subst (ArePartsOf s c.hear.new.self) (append_assoc d (entry t x ∷ []) (woken (Some x) t (d ++ entry t x ∷ [])))
          (parts_took c.row_laws.ensures.made c.row_laws.ensures.stands c.append_laws.ensures.append s d t x c.args.self.now c.act-row.new.self c.hear.new.self proper.0 c.in-Some.ensures.adds
          c.hear.ensures.throttle c.hear.ensures.pods (λ pods. c.hear.ensures.hears.scaler s d (is_act s d h).0 pods (next s d h proper.0)) h);
    }

pub returns-in-Some-clause-order : goal.returns-in-Some-clause-order
returns-in-Some-clause-order c =
    let some = some_of_ready (λ s d. entries_of c.args.e.now.time (act_row s d c.args.e.now.act)) c.args.self.now c.requires.some in
    record {
      timed = timed_by_row c.time_laws.ensures.step c.args.e.now.time c.in-Some.row _ _ (c.hear.ensures.throttle ∙ c.in-Some.ensures.adds.throttle) c.requires.order.timed;
      few =
          subst (λ (y : throttle.State). length y.admission.pods ≤ 20500) (sym c.hear.ensures.throttle)
          (own_few c.part_laws.ensures.rows.act-facts c.args.self.now c.act-row.new.self c.args.e.now.time c.in-Some.row c.args.e.now.act c.requires.order.few c.in-Some.ensures.adds c.in-Some.ensures.row some);
      measured = c.hear.ensures.measured;
    }

pub returns-in-Some-clause-created : goal.returns-in-Some-clause-created
returns-in-Some-clause-created c =
    let some = some_of_ready (λ s d. entries_of c.args.e.now.time (act_row s d c.args.e.now.act)) c.args.self.now c.requires.some in
    ap (λ p. p.created) c.hear.ensures.pods
    ∙ took_created c.part_laws.ensures.rows.act-facts c.args.e.now.act c.args.e.now.time (Some c.in-Some.row) c.args.self.now c.act-row.new.self some c.in-Some.ensures.row c.in-Some.ensures.adds tt
