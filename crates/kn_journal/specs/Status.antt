-- The exit statuses of programs.
use Rattle.std.specs.Prelude.{ℕ, ⊤}
use Rattle.kn_journal.specs.declared.status.Status.{Status}
use Rattle.kn_journal.specs.declared.status.Status.TheVariants as status

abbrev pub code_of : Status → ℕ
code_of status.Ok = 0
code_of status.Usage = 2
code_of (status.BadInput e) = 3
code_of (status.BadSetup e) = 4
code_of status.ReadFault = 5
code_of status.WriteFault = 6
code_of status.Memory = 7
code_of (status.SlotFault k) = 8
code_of status.ListenFault = 9

-- nothing at all is written then
abbrev pub WritesNone : Status → Type 0
WritesNone status.Ok = ⊥
WritesNone status.WriteFault = ⊥
WritesNone _ = ⊤
