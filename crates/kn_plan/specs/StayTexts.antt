-- What is said in place of serving.
use Rattle.std.specs.Prelude.{ℕ, ◌++◌, codes}
use Rattle.clap.specs.Walk.{Text}
use Rattle.kn_plan.specs.declared.stay_error.Fault.{Fault}
use Rattle.kn_plan.specs.declared.stay_error.Fault.TheVariants as fault
use Rattle.kn_plan.specs.declared.stay_error.StayError.{StayError}
use Rattle.kn_plan.specs.declared.stay_error.StayError.TheVariants as error
use Rattle.kn_plan.specs.declared.stay_option.StayOption.{StayOption}
use Rattle.kn_plan.specs.StayOptions.{name_of, range_text}

unfoldable pub help_text : Text
help_text = codes "kactd stay: serves until standard input ends, and prints its journal meanwhile\n\n  --listen HOST:PORT     where clients come\n  --pods HOST:PORT[,..]  the addresses of pods, 1 to 500\n  --slots N              requests served at once, held ones too: 1 to 1024; 64\n  --room N               rows not yet printed and live requests together:\n                         1000 to 1000000; 100000\n  --idle S               seconds that a connection may be silent before its\n                         request begins: 1 to 3600; 60\n  --read S               seconds in which a request's head and body must come:\n                         1 to 3600; 30\n  --status HOST:PORT     where the status page is; without it there is none\n  --version              this program's version and its toolchain's\n\nThe last figure is what holds without the option. The setup comes on standard\ninput, as in a journal. Exit statuses: 0, or 2 for other words, 3 and 4 for a\nrefused setup, 5 and 6 for reads and writes that failed, 7 for want of memory,\n9 where it can't listen.\n"

unfoldable pub version_text : Text
version_text = codes "kactd 0.1.0\nrattle-kit logic dac8208d650f15bf\n"

abbrev pub fault_text : StayOption → Fault → Text
fault_text o fault.Missing = codes " is missing\n"
fault_text o fault.Twice = codes " is given twice\n"
fault_text o fault.Value = range_text o

-- what is said: a wrong option is named with its range
abbrev pub text_of : StayError → Text
text_of error.Help = help_text
text_of error.Version = version_text
text_of (error.Unknown word) = codes "kactd stay: unknown word '" ++ (word.now ++ codes "'\n")
text_of (error.Bad o f) = codes "kactd stay: --" ++ (name_of o ++ fault_text o f)
text_of error.Memory = codes "kactd: out of memory\n"

-- the status to exit with
abbrev pub code_of : StayError → ℕ
code_of error.Help = 0
code_of error.Version = 0
code_of error.Memory = 7
code_of _ = 2
