-- What the program tells of a status.
use Rattle.std.specs.Prelude.{ℕ, ◌++◌, List, [], Option, codes}
use Rattle.std.specs.Fmt.{decimal}
use Rattle.kn_journal.specs.declared.status.Status.{Status}
use Rattle.kn_journal.specs.declared.status.Status.TheVariants as status
use Rattle.kn_replay.specs.Replaying.{Tells}
use Rattle.kn_replay.specs.Texts.{error_text}
use Rattle.kn_session.specs.Changes.{Change, became, was}

-- under the program's own name
abbrev pub told_of : List ℕ → List ℕ
told_of what = codes "kactd: " ++ (what ++ codes "\n")

unfoldable pub status_text : Status → List ℕ
status_text status.Ok = []
status_text status.Usage = codes "usage: kactd --listen HOST:PORT --pods HOST:PORT,.. [--slots N] [--rounds N] [--room N]\n"
status_text (status.BadInput e) = told_of (error_text e)
status_text (status.BadSetup e) = told_of (error_text e)
status_text status.ReadFault = codes "kactd: read failed\n"
status_text status.WriteFault = codes "kactd: write failed\n"
status_text status.Memory = codes "kactd: out of memory\n"
status_text (status.SlotFault slot) = codes "kactd: slot " ++ (decimal slot ++ codes " failed\n")
status_text status.ListenFault = codes "kactd: listen failed\n"

-- the text was told on a sink that holds this and counts these faults
abbrev pub IsToldOn : {E : Type 0} → (E → Option (List ℕ)) → (E → ℕ) → List ℕ → Change E → Type 0
IsToldOn held faults text err = Tells text (held (was err)) (held (became err)) (faults (was err)) (faults (became err))
