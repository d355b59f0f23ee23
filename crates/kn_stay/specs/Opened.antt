-- What is served over a revision that was opened.
use Rattle.std.specs.Prelude.{◌≡◌, ◌≢◌, ◌≤◌, ◌^◌, ℕ}
use Rattle.kn_trace.specs.Events.{opening}
use Rattle.kn_core.specs.State.{RevisionState, StandsFor}
use Rattle.kn_cell.specs.Books.{IsOpenedBy}
use Rattle.kn_journal.specs.declared.journal.Setup.{Setup}
use Rattle.kn_session.specs.declared.lasting.Lasting.{Lasting}
use Rattle.kn_session.specs.Session.{MayBegin}
use Rattle.kn_serve.specs.Running.{IsStart}

-- the revision was opened from the setup at a reading of the clock, and what is shared is of that opening
pub record IsOpenedFor {K G : Type 0} (reading : ℕ → Type 0) (setup : Setup) (l : Lasting K G) (b : RevisionState) : Type 0 where
  pub begins : IsStart reading l.start
  pub early : l.start ≤ 2 ^ 42
  pub stands : StandsFor b (opening setup.spec l.start)
  pub spec : b.spec ≡ setup.spec
  pub clock : b.clock ≡ l.start
  pub fresh : MayBegin b
  pub same : l.spec.now ≡ setup.spec
  pub entries : l.addresses ≢ 0 → IsOpenedBy b l.entries.now
