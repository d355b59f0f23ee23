-- What came of the setup, and what was served over it.
use Rattle.std.proofs.Common.{ℕ, refl, ap, inl, inr, subst, sym, ◌∙◌, arith}
use Rattle.std.specs.Prelude.{Err}
use Rattle.kn_cell.specs.Books.{IsOpenedBy}
use Rattle.kn_io.specs.Causes.{Rose}
use Rattle.kn_journal.specs.declared.error.JournalError.{JournalError}
use Rattle.kn_journal.specs.declared.error.JournalError.TheVariants as error
use Rattle.kn_journal.specs.declared.status.Status.{Status}
use Rattle.kn_stay.specs.declared.stayed.Stayed.TheVariants as stayed
use Rattle.kn_stay.specs.Pods.{HasTooMany}
use Rattle.kn_stay.specs.Staying.{IsTaken, status_of_stayed}
use Rattle.kn_stay.proofs.Sessions.{goes_as, no_read_fault}
use Rattle.kn_stay.proofs.stay.stay_run.Goals.{else-setting-ne0-via-then-setting-ne0+else-setting-pods, else-setting-ne0-via-else-setting-ne0}
use Rattle.kn_stay.proofs.stay.stay_run.Goals as goal

pub returns-in-Err-clause-course : goal.returns-in-Err-clause-course
returns-in-Err-clause-course g c = inl (record {
  error = c.in-Err.error;
  said = c.in-Err.ensures.says;
  status = ap (λ (s : Status). stayed.Ended s) c.status_of.ensures.value;
  same = (record { slots = refl; keeper = refl; page = refl }, refl);
})

pub returns-in-Err-clause-read_fault : goal.returns-in-Err-clause-read_fault
returns-in-Err-clause-read_fault g c is =
    c.in-Err.ensures.fault (ap (λ (e : JournalError). Err e) (c.run_laws.ensures.read_fault c.in-Err.error (sym c.status_of.ensures.value ∙ ap status_of_stayed is)))

pub returns-in-Err-clause-write_fault : goal.returns-in-Err-clause-write_fault
returns-in-Err-clause-write_fault g c is = absurd (c.run_laws.ensures.no_write_fault c.in-Err.error (sym c.status_of.ensures.value ∙ ap status_of_stayed is))

pub returns-in-Err-open_logged-clause-course : goal.returns-in-Err-open_logged-clause-course
returns-in-Err-open_logged-clause-course g c =
    inl (record { error = error.Memory; said = c.run_laws.ensures.memory (g.S.Source.left c.args.setup.now); status = refl; same = (record { slots = refl; keeper = refl; page = refl }, refl) })

pub returns-in-Err-rows_for-clause-course : goal.returns-in-Err-rows_for-clause-course
returns-in-Err-rows_for-clause-course g c =
    inl (record { error = error.Memory; said = c.run_laws.ensures.memory (g.S.Source.left c.args.setup.now); status = refl; same = (record { slots = refl; keeper = refl; page = refl }, refl) })

pub serve_printed-status-requires-clause-opened : goal.serve_printed-status-requires-clause-opened
serve_printed-status-requires-clause-opened g c ls within =
    let opened = c.in-Ok-open_logged.ensures in
    record {
      begins = c.start_of-start.ensures.start;
      early = c.start_of-start.ensures.most;
      stands = opened.stands;
      spec = opened.spec;
      clock = opened.clock;
      fresh = record { live = opened.live; events = omega (arith, opened.events) };
      same = refl;
      entries = λ _. subst (IsOpenedBy c.in-Ok-open_logged.opened.0) (sym c.entries.ensures) opened.opened;
    }

pub serve_printed-status-requires-clause-page : goal.serve_printed-status-requires-clause-page
serve_printed-status-requires-clause-page g c ls within p new = c.requires.page c.in-Ok-open_logged.opened.0 p new

pub returns-then-setting-pods-clause-course : goal.returns-then-setting-pods-clause-course
returns-then-setting-pods-clause-course g c =
    inr (inl (record {
      setup = c.in-Ok.read;
      said = c.in-Ok.ensures.says;
      many = record { some = c.if-setting-ne0.true; more = omega (arith, c.if-setting-pods.true, c.named_pods-pods.ensures) };
      answer = ap (λ (n : ℕ). stayed.TooManyPods n) c.named_pods-pods.ensures;
      same = (record { slots = refl; keeper = refl; page = refl }, refl);
    }))

pub returns-clause-course : goal.returns-clause-course
returns-clause-course g c =
    let few : HasTooMany c.args.setting.now.addresses c.in-Ok.read.spec → ⊥ = λ t. elim c.else-setting-ne0.branch [
      | else-setting-ne0-via-then-setting-ne0+else-setting-pods w ↦ absurd (omega (arith, t.more, c.named_pods-pods.ensures, w.if-setting-pods.false))
      | else-setting-ne0-via-else-setting-ne0 w ↦ t.some w.if-setting-ne0.false
    ] in
    let taken : IsTaken (g.S.Source.left c.args.setup.now) c.args.setting.now.addresses c.in-Ok.read = record { said = c.in-Ok.ensures.says; few = few } in
    inr (inr (c.serve_printed-status.result, refl, goes_as _ _ _ _ _ _ c.in-Ok.read _ _ _ _ _ _ c.new-scribe.ensures.out.1 (sym (c.out-1.given.1 (sym (c.serve_printed-status.ensures.out ∙ c.new-scribe.ensures.out.0)))) taken c.serve_printed-status.ensures.goes))

pub returns-clause-read_fault : goal.returns-clause-read_fault
returns-clause-read_fault g c is = absurd (no_read_fault _ _ _ _ _ _ _ _ _ _ c.serve_printed-status.ensures.goes (ap status_of_stayed is))

pub returns-clause-write_fault : goal.returns-clause-write_fault
returns-clause-write_fault g c is =
    let faults = g.O.Faulty.faults in
    let rose = c.serve_printed-status.ensures.write_fault (ap status_of_stayed is) in
    let begun : Rose (faults c.args.out.now) (faults c.serve_printed-status.new.scribe.out.now) =
    subst (λ (z : g.row.O.Denot). Rose (faults z) (faults c.serve_printed-status.new.scribe.out.now)) c.new-scribe.ensures.out.1 rose in
    subst (λ (z : g.row.O.Denot). Rose (faults c.args.out.now) (faults z)) (sym (c.out-1.given.1 (sym (c.serve_printed-status.ensures.out ∙ c.new-scribe.ensures.out.0)))) begun
