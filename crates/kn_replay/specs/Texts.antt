-- What is told of a status.
use Rattle.std.specs.Prelude.{ℕ, ◌++◌, List, [], codes}
use Rattle.std.specs.Fmt.{decimal}
use Rattle.kn_event.specs.declared.fault.LineError.{LineError}
use Rattle.kn_event.specs.declared.fault.LineError.TheVariants as line_error
use Rattle.kn_config.specs.declared.config.ConfigError.{ConfigError}
use Rattle.kn_config.specs.declared.config.ConfigError.TheVariants as config_error
use Rattle.kn_config.specs.Keys.{key_text}
use Rattle.kn_revision.specs.declared.error.Field.{Field}
use Rattle.kn_revision.specs.declared.error.Field.TheVariants as field
use Rattle.kn_revision.specs.declared.error.SpecError.{SpecError}
use Rattle.kn_revision.specs.declared.error.SpecError.TheVariants as spec_error
use Rattle.kn_preamble.specs.declared.error.SetupError.{SetupError}
use Rattle.kn_preamble.specs.declared.error.SetupError.TheVariants as setup_error
use Rattle.kn_preamble.specs.declared.first.FirstLine.{FirstLine}
use Rattle.kn_preamble.specs.declared.first.FirstLine.TheVariants as first
use Rattle.kn_journal.specs.declared.error.JournalError.{JournalError}
use Rattle.kn_journal.specs.declared.error.JournalError.TheVariants as error
use Rattle.kn_journal.specs.declared.status.Status.{Status}
use Rattle.kn_journal.specs.declared.status.Status.TheVariants as status

unfoldable pub config_text : ConfigError → List ℕ
config_text config_error.NotJson = codes "not JSON"
config_text config_error.DataShape = codes "data is not an object"
config_text (config_error.NotText key) = key_text key ++ codes " is not text"
config_text (config_error.BadValue key why) = key_text key ++ codes " has a bad value"
config_text (config_error.OutOfRange key) = key_text key ++ codes " out of range"
config_text config_error.Memory = []

abbrev pub field_text : Field → List ℕ
field_text field.Namespace = codes "namespace"
field_text field.Name = codes "name"

unfoldable pub spec_text : SpecError → List ℕ
spec_text spec_error.NotJson = codes "not JSON"
spec_text (spec_error.Missing field) = field_text field ++ codes " missing"
spec_text (spec_error.NotText key) = key_text key ++ codes " is not text"
spec_text (spec_error.BadValue key why) = key_text key ++ codes " has a bad value"
spec_text (spec_error.OutOfRange key) = key_text key ++ codes " out of range"
spec_text spec_error.ZeroInitial = codes "initial-scale 0 is not allowed"
spec_text spec_error.Memory = []

unfoldable pub setup_text : SetupError → List ℕ
setup_text (setup_error.BadField place) = codes "bad setup: bad field at " ++ decimal place
setup_text (setup_error.OutOfRange place) = codes "bad setup: out of range at " ++ decimal place
setup_text (setup_error.Config why) = codes "bad config: " ++ config_text why
setup_text (setup_error.Revision why) = codes "bad revision: " ++ spec_text why
setup_text setup_error.BlockTooLong = codes "bad setup: block too long"
setup_text setup_error.BadWord = codes "bad setup: unknown word"
setup_text setup_error.Duplicate = codes "same revision twice"

unfoldable pub fault_text : LineError → List ℕ
fault_text line_error.BadTime = codes "bad time"
fault_text line_error.BadWord = codes "unknown word"
fault_text (line_error.BadNumber place) = codes "bad number at " ++ decimal place
fault_text (line_error.Extra place) = codes "extra text at " ++ decimal place

-- what is said of this line
abbrev pub at_line : ℕ → List ℕ → List ℕ
at_line number what = codes "line " ++ (decimal number ++ (codes ": " ++ what))

abbrev pub first_line_text : FirstLine → List ℕ
first_line_text first.Journal = codes "line 1: not a kact journal 1 or 2"
first_line_text first.Workload = codes "line 1: not a kact workload 1"
first_line_text first.Slices = codes "line 1: not a kact slices N"
first_line_text first.Setups = codes "line 1: not a kact setups 1"

unfoldable pub error_text : JournalError → List ℕ
error_text error.ReadFault = codes "read failed"
error_text (error.LineTooLong number) = at_line number (codes "line too long")
error_text (error.BadFirstLine due) = first_line_text due
error_text (error.BadSetup number why) = at_line number (setup_text why)
error_text (error.BadLine number why) = at_line number (fault_text why)
error_text (error.TimeBack number last own) = at_line number (codes "time goes back from " ++ (decimal last ++ (codes " to " ++ decimal own)))
error_text (error.TimeTooLarge number) = at_line number (codes "time too large")
error_text error.NoEnd = codes "input ends without end"
error_text (error.AfterEnd number) = at_line number (codes "text after end")
error_text (error.TooMany number) = at_line number (codes "too many jobs")
error_text error.Memory = codes "out of memory"

abbrev pub told : List ℕ → List ℕ
told what = codes "kact: " ++ (what ++ codes "\n")

-- what is told of a status
unfoldable pub status_text : Status → List ℕ
status_text status.Ok = []
status_text status.Usage = codes "usage: kact replay | kact generate SEED COUNT | kact simulate | kact slices\n"
status_text (status.BadInput e) = told (error_text e)
status_text (status.BadSetup e) = told (error_text e)
status_text status.ReadFault = codes "kact: read failed\n"
status_text status.WriteFault = codes "kact: write failed\n"
status_text status.Memory = codes "kact: out of memory\n"
status_text (status.SlotFault slot) = []
status_text status.ListenFault = []
