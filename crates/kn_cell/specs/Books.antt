-- Whose book it is that lies beside a revision.
use Rattle.std.specs.Prelude.{◌≡◌, ◌≢◌, List}
use Rattle.kn_event.specs.Revision.{AreInRange}
use Rattle.kn_event.specs.declared.entry.Entry.{Entry}
use Rattle.kn_trace.specs.Events.{opening}
use Rattle.kn_trace.specs.Trace.{Trace}
use Rattle.kn_book.specs.State.{BookState, IsBookOf}
use Rattle.kn_core.specs.State.{RevisionState, StandsFor}

-- the revision has taken no event yet, and these are the entries that it opened with
pub record IsOpenedBy (r : RevisionState) (first : List Entry) : Type 0 where
  pub ranges : AreInRange r.spec
  pub events : r.events ≡ 0
  pub entries : first ≡ opening r.spec r.start

-- the book is that of each trace that the revision stands for
pub record IsBookFor (book : BookState) (r : RevisionState) : Type 0 where
  pub ranges : book.addresses ≢ 0 → AreInRange r.spec
  pub stands : (c : Trace) → StandsFor r c → IsBookOf book c

-- so it is of one of them
pub record HasBook (book : BookState) (r : RevisionState) : Type 0 where
  pub ranges : book.addresses ≢ 0 → AreInRange r.spec
  pub some : ∥ ((c : Trace) × StandsFor r c × IsBookOf book c) ∥₁
