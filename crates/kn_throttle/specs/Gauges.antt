-- The limit of a live pod, and how many requests are queued and run at all live pods together.
use Rattle.std.specs.Prelude.{ℕ, List, Option, None, Some, length, sum_by}
use Rattle.kn_trace.specs.Trace.{Trace, live_pods, queued_at, running_at}
use Rattle.kn_record.specs.declared.admission.Pod.{Pod}
use Rattle.kn_record.specs.declared.admission.Request.{Request}
use Rattle.kn_record.specs.Admission.{placed_in, queues_at, runs_at}
use Rattle.kn_record.specs.Views.{pod_numbered}

abbrev pub limit_where : Option Pod → ℕ
limit_where None = 0
limit_where (Some q) = q.limit

-- 0 where there is no such pod
abbrev pub limit_in : ℕ → List Pod → ℕ
limit_in p all = limit_where (pod_numbered p all)

-- ---- of the record

abbrev pub count_queued_in : List Request → List Pod → ℕ
count_queued_in live all = sum_by (λ (q : Pod). length (placed_in (queues_at q.number) live)) all

abbrev pub count_running_in : List Request → List Pod → ℕ
count_running_in live all = sum_by (λ (q : Pod). length (placed_in (runs_at q.number) live)) all

-- ---- of the trace

unfoldable pub count_queued : Trace → ℕ
count_queued c = sum_by (λ p. length (queued_at c p)) (live_pods c)

unfoldable pub count_running : Trace → ℕ
count_running c = sum_by (λ p. length (running_at c p)) (live_pods c)
