-- What is told of a row that is no decision, a line each: a tick without a sample, and who was refused or given up.
use Rattle.std.specs.Prelude.{ℕ, ◌+◌, ◌-◌, ◌==◌, ◌++◌, List, [], ◌∷◌, Option, None, Some, codes, option_map, unwrap_or, if◌then◌else◌}
use Rattle.std.specs.Fmt.{decimal}
use Rattle.kn_event.specs.declared.entry.Row.{Row}
use Rattle.kn_event.specs.declared.entry.Row.TheVariants as row
use Rattle.kn_event.specs.declared.revision.Spec.{Spec}
use Rattle.kn_event.specs.EntryLine.{labelled}
use Rattle.kn_lives.specs.declared.lives.Life.{Life}
use Rattle.kn_lives.specs.Lives.{life_at}
use Rattle.kn_show_reasons.specs.declared.notice.Notice.{Notice}
use Rattle.kn_show_reasons.specs.declared.notice.Notice.TheVariants as notice
use Rattle.kn_reason.specs.Numbers.{pods_text}

-- ---- of which row

-- of a row at this time, by when requests arrived, the pods that they were sent to, and how many pods are ready
abbrev pub notice_by : Spec → (ℕ → ℕ) → (ℕ → Option ℕ) → ℕ → ℕ → Row → Option Notice
notice_by s arrived pod ready t row.NoData = Some (notice.NoSample s.stable_s)
notice_by s arrived pod ready t (row.QueueFull r None) = Some (notice.BreakerFull r s.slots.depth s.slots.max)
notice_by s arrived pod ready t (row.QueueFull r (Some p)) = Some (notice.PodFull r p)
notice_by s arrived pod ready t (row.Overload r) = Some (notice.Overload r)
notice_by s arrived pod ready t (row.Expire r) = Some (notice.Expired r (t - arrived r) s.timeout_ms ready)
notice_by s arrived pod ready t (row.Cancel r) = Some (notice.Cancelled r (t - arrived r))
notice_by s arrived pod ready t (row.LostRequest r) = Some (notice.Lost r (pod r))
notice_by s arrived pod ready t _ = None

-- ---- by the lives that are kept

abbrev pub arrived_in : List (ℕ × Life) → ℕ → ℕ
arrived_in l r = unwrap_or (option_map (λ (x : Life). x.arrived) (life_at l r)) 0

abbrev pub pod_where : Option Life → Option ℕ
pod_where None = None
pod_where (Some x) = x.pod

abbrev pub pod_in : List (ℕ × Life) → ℕ → Option ℕ
pod_in l r = pod_where (life_at l r)

-- ---- in words

-- words, and the number of a request
abbrev pub request_text : ℕ → List ℕ
request_text r = labelled (codes " request ") (decimal r)

unfoldable pub sample_text : ℕ → List ℕ
sample_text window = labelled (codes " no decision: no sample in the last ") (decimal window) ++ codes " s"

unfoldable pub slots_text : ℕ → ℕ → List ℕ
slots_text depth most = labelled (codes " slots (depth ") (decimal depth) ++ labelled (codes ", max ") (decimal most) ++ codes ")"

unfoldable pub breaker_text : ℕ → ℕ → ℕ → List ℕ
breaker_text r depth most = request_text r ++ labelled (codes " refused: the activator's breaker is full, ") (decimal (depth + most)) ++ slots_text depth most

unfoldable pub pod_full_text : ℕ → ℕ → List ℕ
pod_full_text r p = request_text r ++ labelled (codes " refused: pod ") (decimal p) ++ codes " is full, 11 requests for each of its limit"

unfoldable pub overload_text : ℕ → List ℕ
overload_text r = request_text r ++ codes " refused: 20000 requests are live"

unfoldable pub ready_text : ℕ → List ℕ
ready_text n = if n == 0 then codes ", no pod was ready" else labelled (codes ", ") (pods_text n) ++ codes " ready"

unfoldable pub expired_text : ℕ → ℕ → ℕ → ℕ → List ℕ
expired_text r waited timeout ready =
    request_text r ++ labelled (codes " expired: waited ") (decimal waited) ++ labelled (codes " ms of ") (decimal timeout) ++ ready_text ready

unfoldable pub cancelled_text : ℕ → ℕ → List ℕ
cancelled_text r waited = request_text r ++ labelled (codes " cancelled: waited ") (decimal waited) ++ codes " ms"

abbrev pub with_pod_text : Option ℕ → List ℕ
with_pod_text None = codes " lost"
with_pod_text (Some p) = labelled (codes " lost with pod ") (decimal p)

unfoldable pub lost_text : ℕ → Option ℕ → List ℕ
lost_text r pod = request_text r ++ with_pod_text pod

unfoldable pub notice_text : Notice → List ℕ
notice_text (notice.NoSample window) = sample_text window
notice_text (notice.BreakerFull r depth most) = breaker_text r depth most
notice_text (notice.PodFull r p) = pod_full_text r p
notice_text (notice.Overload r) = overload_text r
notice_text (notice.Expired r waited timeout ready) = expired_text r waited timeout ready
notice_text (notice.Cancelled r waited) = cancelled_text r waited
notice_text (notice.Lost r pod) = lost_text r pod

-- at this time, with LF
unfoldable pub notice_line : ℕ → Notice → List ℕ
notice_line t x = decimal t ++ notice_text x ++ 10 ∷ []

abbrev pub notice_where : ℕ → Option Notice → List ℕ
notice_where t None = []
notice_where t (Some x) = notice_line t x
