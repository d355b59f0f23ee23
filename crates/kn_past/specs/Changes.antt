-- What one more entry says of what decisions look back on.
use Rattle.std.specs.Prelude.{ℕ, Bool, true, false, Option, option_map}
use Rattle.kn_event.specs.declared.entry.Entry.{Entry}
use Rattle.kn_event.specs.declared.entry.Row.{Row}
use Rattle.kn_event.specs.declared.entry.Row.TheVariants as row
use Rattle.kn_trace.specs.Rows.{decision_by}

-- the time of the entry, where its row says something of this kind
abbrev pub time_by : {X : Type 0} → (Row → Option X) → Entry → Option ℕ
time_by said e = option_map (λ x. e.time) (said e.row)

-- the scale that the row's decision wants
abbrev pub want_by : Row → Option ℕ
want_by x = option_map (λ d. d.want) (decision_by x)

-- a row after which the same pods are Ready
abbrev pub leaves_pods : Row → Bool
leaves_pods (row.Create p n) = false
leaves_pods (row.Ready p) = false
leaves_pods (row.Drain p) = false
leaves_pods (row.Remove p) = false
leaves_pods (row.LostPod p) = false
leaves_pods _ = true
