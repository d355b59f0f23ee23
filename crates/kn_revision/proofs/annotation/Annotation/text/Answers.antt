use Rattle.std.proofs.Common.{sym}
use Rattle.kn_revision.proofs.annotation.Annotation.text.Goals as goal

pub returns : goal.returns
returns c = rw (sym c.name.ensures, sym c.key.ensures) c.text.ensures
