-- The text of what is told of a request: fields parted by commas, nothing where there is none.
use Rattle.std.specs.Prelude.{ℕ, List, [], ◌++◌, Option, None, Some, codes}
use Rattle.std.specs.Fmt.{decimal}
use Rattle.kn_show_requests.specs.declared.told.Outcome.{Outcome}
use Rattle.kn_show_requests.specs.declared.told.Outcome.TheVariants as outcome
use Rattle.kn_show_requests.specs.declared.told.Told.{Told}
use Rattle.kn_show_requests.specs.declared.told.Way.{Way}
use Rattle.kn_show_requests.specs.declared.told.Way.TheVariants as way

abbrev pub header : List ℕ
header = codes "request,tag,arrived,way,outcome,ended,pod,waited,ran\n"

abbrev pub way_word : Way → List ℕ
way_word way.Proxied = codes "proxied"
way_word way.Direct = codes "direct"
way_word way.Refused = codes "refused"

abbrev pub outcome_word : Outcome → List ℕ
outcome_word outcome.Ok = codes "ok"
outcome_word outcome.Failed = codes "failed"
outcome_word outcome.Expired = codes "expired"
outcome_word outcome.Cancelled = codes "cancelled"
outcome_word outcome.Lost = codes "lost"
outcome_word outcome.QueueFull = codes "queue-full"
outcome_word outcome.Overload = codes "overload"
outcome_word outcome.Live = codes "live"

-- a comma, and the number where there is one
abbrev pub cell : Option ℕ → List ℕ
cell None = codes ","
cell (Some n) = codes "," ++ decimal n

unfoldable pub figures_text : Told → List ℕ
figures_text t = decimal t.request ++ cell (Some t.tag) ++ cell (Some t.arrived)

unfoldable pub words_text : Told → List ℕ
words_text t = codes "," ++ way_word t.way ++ codes "," ++ outcome_word t.outcome

unfoldable pub ends_text : Told → List ℕ
ends_text t = cell t.ended ++ cell t.pod ++ cell t.waited ++ cell t.ran ++ codes "\n"

unfoldable pub line_text : Told → List ℕ
line_text t = figures_text t ++ words_text t ++ ends_text t

abbrev pub line_where : Option Told → List ℕ
line_where None = []
line_where (Some t) = line_text t
