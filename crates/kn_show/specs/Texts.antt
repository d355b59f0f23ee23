-- What is told of a status.
use Rattle.std.specs.Prelude.{ℕ, ◌++◌, List, [], codes}
use Rattle.kn_io.specs.declared.traits.Faulty.{Ghosts as Counted}
use Rattle.kn_io.specs.declared.traits.Sink.{Ghosts}
use Rattle.kn_journal.specs.declared.status.Status.{Status}
use Rattle.kn_journal.specs.declared.status.Status.TheVariants as status
use Rattle.kn_replay.specs.Replaying.{Tells}
use Rattle.kn_replay.specs.Texts.{error_text}

abbrev pub told : List ℕ → List ℕ
told what = codes "kact_show: " ++ (what ++ codes "\n")

unfoldable pub status_text : Status → List ℕ
status_text status.Usage = codes "usage: kact_show reasons | kact_show requests | kact_show summary | kact_show series STEP | kact_show settings\n"
status_text (status.BadInput e) = told (error_text e)
status_text (status.BadSetup e) = told (error_text e)
status_text status.ReadFault = codes "kact_show: read failed\n"
status_text status.WriteFault = codes "kact_show: write failed\n"
status_text status.Memory = codes "kact_show: out of memory\n"
status_text _ = []

-- what a sink is told of a status, and where that fails its count of faults rises
abbrev pub TellsStatus : {X : Type 0} → Ghosts X → Counted X → X → X → Status → Type 0
TellsStatus own faulty before now result =
    Tells (status_text result) (own.held before) (own.held now) (faulty.faults before) (faulty.faults now)
