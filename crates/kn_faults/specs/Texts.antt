-- What is told of faults.
use Rattle.std.specs.Prelude.{◌==◌, ◌++◌, ℕ, List, codes, if◌then◌else◌}
use Rattle.std.specs.Fmt.{decimal}
use Rattle.kn_faults.specs.declared.fault_log.Party.{Party}
use Rattle.kn_faults.specs.declared.fault_log.Party.TheVariants as party

abbrev pub text_of : Party → List ℕ
text_of party.Pod = codes "kactd: a pod failed\n"
text_of party.Client = codes "kactd: a client failed\n"

abbrev pub faults_text : ℕ → List ℕ
faults_text n = if n == 1 then codes " more fault\n" else codes " more faults\n"

abbrev pub count_text : ℕ → List ℕ
count_text n = codes "kactd: " ++ (decimal n ++ faults_text n)
