-- What a run costs, by who lived, was Ready or ran in it: each from when to when.
use Rattle.std.specs.Prelude.{◌≡◌, ℕ, ◌-◌, Option, None, Some, unwrap_or}
use Rattle.std.specs.Bool.{then_some}
use Rattle.std.specs.List.{filter_map, sum_by}
use Rattle.kn_event.specs.declared.entry.Entry.{Entry}
use Rattle.kn_event.specs.declared.entry.Row.{Row}
use Rattle.kn_event.specs.declared.entry.Row.TheVariants as row
use Rattle.kn_trace.specs.Rows.{begun_by, created_by, ended_by, gone_by, readied_by}
use Rattle.kn_trace.specs.Trace.{Trace, each_row, first_of}
use Rattle.kn_record.specs.Rows.{says}
use Rattle.kn_teller.specs.Run.{Run, now_of, trace}
use Rattle.kn_costs.specs.Gauges.{costs}

-- the pod that is Ready no more, if it was: it drains, is removed or is lost
abbrev pub unready_by : Row → Option ℕ
unready_by (row.Drain p) = Some p
unready_by (row.Remove p) = Some p
unready_by (row.LostPod p) = Some p
unready_by _ = None

-- the time of the first row that says n of this kind
abbrev pub first_time : (Row → Option ℕ) → Trace → ℕ → Option ℕ
first_time said c n = first_of (filter_map (λ (x : Entry). then_some (says (said x.row) n) x.time) c)

-- from the first row that begins with n to the first that ends it, or up to this time
abbrev pub span : (Row → Option ℕ) → (Row → Option ℕ) → ℕ → Trace → ℕ → ℕ
span begins ends to c n = unwrap_or (first_time ends c n) to - unwrap_or (first_time begins c n) 0

-- of each that a row begins with
unfoldable pub spans : (Row → Option ℕ) → (Row → Option ℕ) → ℕ → Trace → ℕ
spans begins ends to c = sum_by (span begins ends to c) (each_row begins c)

-- up to the last event: over the pods, from their creation until they are removed or lost; over those that became Ready,
-- from then until they drain, are removed or lost; over the requests that began to run, from then until they end
pub record AreSums (r : Run) : Type 0 where
  pub pods : (costs r).pods ≡ spans created_by gone_by (now_of r) (trace r)
  pub ready : (costs r).ready ≡ spans readied_by unready_by (now_of r) (trace r)
  pub running : (costs r).running ≡ spans begun_by ended_by (now_of r) (trace r)
