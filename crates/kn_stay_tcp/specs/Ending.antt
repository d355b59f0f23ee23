-- What is told of how a server ended.
use Rattle.std.specs.Prelude.{ℕ, List, ◌++◌, codes}
use Rattle.std.specs.Fmt.{decimal}
use Rattle.kn_journal.specs.declared.status.Status.{Status}
use Rattle.kn_journal.specs.declared.status.Status.TheVariants as status
use Rattle.kn_serve.specs.Texts.{status_text}
use Rattle.kn_stay_tcp.specs.declared.ending.Ended.{Ended}
use Rattle.kn_stay_tcp.specs.declared.ending.Ended.TheVariants as ended

abbrev pub status_of_ended : Ended → Status
status_of_ended (ended.So s) = s
status_of_ended (ended.NoThreads n) = status.Memory
status_of_ended (ended.TooManyPods pods addresses) = status.Usage

abbrev pub text_of : Ended → List ℕ
text_of (ended.So s) = status_text s
text_of (ended.NoThreads n) = codes "kactd: not all of " ++ (decimal n ++ codes " threads can be made\n")
text_of (ended.TooManyPods pods addresses) =
    codes "kactd: the setup names " ++ (decimal pods ++ (codes " pods, but --pods has " ++ (decimal addresses ++ codes " addresses\n")))
