use Rattle.kn_record.proofs.Appends.{admission_made}
use Rattle.kn_record.proofs.Choosing.{choice-none, next_choice-good}
use Rattle.kn_record.proofs.Flags.{contains-push, length-push, assigned-push, ended-push, arrivals-push, created-push, pod_of-push}
use Rattle.kn_record.proofs.Kept.{phase_of-push, wanted-push, kept-nil, Kept-push, Holds-kept, holds_both, made_kept, made_at}
use Rattle.kn_record.proofs.Members.{contains-filter, filter-first, filter-others, filter-members, distinct-filter, contains-split, contains-within}
use Rattle.kn_record.proofs.Numbers.{filter_member, in_filter, first_member, last_of-none, says-true, admitted_taken, directed_taken, brought_moved, moved_pod, moved_parts, ended_named, refused_named, outcome_parts, within-from, named-from, live_member, held_member, waiting_member, at_pod_member, queued_member, running_parts, queued_at_pod, begun_taken, moved_taken, brought_directed, taken_comes, next_unnamed, pod-none, moved-none}
use Rattle.kn_record.proofs.Order.{taken_next, created_next, starting_ascend}
use Rattle.kn_record.proofs.PodNumbers.{created_comes, live_pod_created, starting_live}
use Rattle.kn_record.proofs.PodSteps.{is_ready-push, is_live_pod-push, says_no_pod, limit-quiet, ready-quiet, live_pods-quiet, draining-quiet, draining-remove, contains-live_pods, contains-starting, length-drain_order}
use Rattle.kn_record.proofs.Pods.{pods-quiet}
use Rattle.kn_record.proofs.Reacting.{live-end, is_live, live_distinct, at_pod_live, held_distinct, queued_distinct, expiries-hold, departures-hold, departures-clear, act-holds}
use Rattle.kn_record.proofs.Running.{queued-next, made_more, made_react, made_trace, promotions_at-hold, promotions-hold, held_assignments-hold, before-holds, settling-holds, react-holds}
use Rattle.kn_record.proofs.Scaling.{made_opening, tick-holds, wake_where-holds, scaler-holds, activation-holds}
use Rattle.kn_record.proofs.Standing.{by_place}
use Rattle.kn_record.proofs.Steps.{length-filter-more, is_held-push, has_not_begun-push, is_running-push, view-same, view-less, view-length, is_quiet, held-quiet, waiting-quiet, queued_at-quiet, running_at-quiet, at_pod-quiet, in_use-quiet, waiting-end, held-assign, queued_at-run}
use Rattle.kn_record.proofs.Words.{others-length, pod_is}
use Rattle.kn_record.proofs.facts.fact_laws.Goals as goal

pub returns : goal.returns
returns c = record {
  lists = record { contains-filter = contains-filter; filter_member = filter_member; in_filter = in_filter; first_member = first_member; filter-first = filter-first; filter-others = filter-others; filter-members = filter-members; distinct-filter = distinct-filter; last_of-none = last_of-none; others-length = others-length; length-filter-more = length-filter-more };
  kinds = record { says-true = says-true; admitted_taken = admitted_taken; directed_taken = directed_taken; brought_moved = brought_moved; moved_pod = moved_pod; moved_parts = moved_parts; ended_named = ended_named; refused_named = refused_named; outcome_parts = outcome_parts; contains-split = contains-split; contains-within = contains-within; within-from = within-from; named-from = named-from };
  entries = record { contains-push = contains-push; length-push = length-push; assigned-push = assigned-push; ended-push = ended-push; arrivals-push = arrivals-push; created-push = created-push; pod_of-push = pod_of-push; phase_of-push = phase_of-push; wanted-push = wanted-push; is_held-push = is_held-push; has_not_begun-push = has_not_begun-push; is_running-push = is_running-push; is_ready-push = is_ready-push; is_live_pod-push = is_live_pod-push; view-same = view-same; view-less = view-less; view-length = view-length };
  views = record { is_quiet = is_quiet; says_no_pod = says_no_pod; held-quiet = held-quiet; waiting-quiet = waiting-quiet; queued_at-quiet = queued_at-quiet; running_at-quiet = running_at-quiet; at_pod-quiet = at_pod-quiet; in_use-quiet = in_use-quiet; limit-quiet = limit-quiet; ready-quiet = ready-quiet; live_pods-quiet = live_pods-quiet; draining-quiet = draining-quiet; pods-quiet = pods-quiet; live-end = live-end; waiting-end = waiting-end; held-assign = held-assign; queued_at-run = queued_at-run; queued-next = queued-next; draining-remove = draining-remove };
  members = record { live_member = live_member; held_member = held_member; waiting_member = waiting_member; at_pod_member = at_pod_member; queued_member = queued_member; running_parts = running_parts; queued_at_pod = queued_at_pod; is_live = is_live; live_distinct = live_distinct; at_pod_live = at_pod_live; by_place = by_place; begun_taken = begun_taken; moved_taken = moved_taken; brought_directed = brought_directed; taken_comes = taken_comes; next_unnamed = next_unnamed; pod-none = pod-none; moved-none = moved-none; pod_is = pod_is; held_distinct = held_distinct; queued_distinct = queued_distinct; contains-live_pods = contains-live_pods; contains-starting = contains-starting; length-drain_order = length-drain_order; created_comes = created_comes; live_pod_created = live_pod_created; starting_live = starting_live; choice-none = choice-none; next_choice-good = next_choice-good };
  proper = record { taken_next = taken_next; created_next = created_next; starting_ascend = starting_ascend; kept-nil = kept-nil; Kept-push = Kept-push; Holds-kept = Holds-kept; holds_both = holds_both; made_kept = made_kept; made_at = made_at; admission_made = admission_made; made_more = made_more; made_opening = made_opening; made_react = made_react; made_trace = made_trace; expiries-hold = expiries-hold; departures-hold = departures-hold; departures-clear = departures-clear; act-holds = act-holds; tick-holds = tick-holds; wake_where-holds = wake_where-holds; scaler-holds = scaler-holds; activation-holds = activation-holds; promotions_at-hold = promotions_at-hold; promotions-hold = promotions-hold; held_assignments-hold = held_assignments-hold; before-holds = before-holds; settling-holds = settling-holds; react-holds = react-holds };
}
