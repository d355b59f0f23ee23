-- What is written of a run: a line for each request, when it ends or is refused, and at the end one for each live one.
use Rattle.std.specs.Prelude.{ℕ, ◌-◌, true, false, List, Option, None, Some, option_map, unwrap_or, if◌then◌else◌}
use Rattle.std.specs.List.{filter, flat_map, range_with_len}
use Rattle.kn_event.specs.declared.entry.Entry.{Entry}
use Rattle.kn_event.specs.declared.entry.Row.{Row}
use Rattle.kn_event.specs.declared.entry.Row.TheVariants as row
use Rattle.kn_event.specs.declared.event.Event.{Event}
use Rattle.kn_event.specs.Lists.{contains}
use Rattle.kn_trace.specs.Events.{react}
use Rattle.kn_trace.specs.Trace.{Trace, arrivals, live}
use Rattle.kn_lives.specs.declared.lives.Life.{Life}
use Rattle.kn_lives.specs.Lives.{by_row, life_in, tag_of}
use Rattle.kn_teller.specs.Manner.{Manner}
use Rattle.kn_teller.specs.Run.{Run, later, trace}
use Rattle.kn_show_requests.specs.declared.told.Outcome.{Outcome}
use Rattle.kn_show_requests.specs.declared.told.Outcome.TheVariants as outcome
use Rattle.kn_show_requests.specs.declared.told.Told.{Told}
use Rattle.kn_show_requests.specs.declared.told.Way.{Way}
use Rattle.kn_show_requests.specs.declared.told.Way.TheVariants as way
use Rattle.kn_show_requests.specs.Texts.{header, line_text, line_where}

-- ---- of one request

-- it is refused at this time, by a pod or before any: it ended when it arrived
abbrev pub refused : ℕ → ℕ → ℕ → Outcome → Option ℕ → Told
refused r tag t how pod = record {
  request = r;
  tag = tag;
  arrived = t;
  way = way.Refused;
  outcome = how;
  ended = Some t;
  pod = pod;
  waited = Some 0;
  ran = None;
}

abbrev pub way_of : Life → Way
way_of x = if x.direct then way.Direct else way.Proxied

-- it ends at this time: it waited until it ran, or until then, and ran from then on
abbrev pub ended : ℕ → Life → ℕ → Outcome → Told
ended r x t how = record {
  request = r;
  tag = x.tag;
  arrived = x.arrived;
  way = way_of x;
  outcome = how;
  ended = Some t;
  pod = x.pod;
  waited = Some (unwrap_or x.begun t - x.arrived);
  ran = option_map (λ b. t - b) x.begun;
}

-- it is live: it has waited where it runs
abbrev pub live_told : ℕ → Life → Told
live_told r x = record {
  request = r;
  tag = x.tag;
  arrived = x.arrived;
  way = way_of x;
  outcome = outcome.Live;
  ended = None;
  pod = x.pod;
  waited = option_map (λ b. b - x.arrived) x.begun;
  ran = None;
}

-- ---- of one row

-- what is told of the request that is refused or ends with a row of this time, by the tags and the lives that there are
abbrev pub told_by : (ℕ → ℕ) → (ℕ → Option Life) → ℕ → Row → Option Told
told_by tag life t (row.QueueFull r pod) = Some (refused r (tag r) t outcome.QueueFull pod)
told_by tag life t (row.Overload r) = Some (refused r (tag r) t outcome.Overload None)
told_by tag life t (row.Finish r true) = option_map (λ x. ended r x t outcome.Ok) (life r)
told_by tag life t (row.Finish r false) = option_map (λ x. ended r x t outcome.Failed) (life r)
told_by tag life t (row.Expire r) = option_map (λ x. ended r x t outcome.Expired) (life r)
told_by tag life t (row.Cancel r) = option_map (λ x. ended r x t outcome.Cancelled) (life r)
told_by tag life t (row.LostRequest r) = option_map (λ x. ended r x t outcome.Lost) (life r)
told_by tag life t _ = None

-- of events that made the trace before the row
unfoldable pub row_text : List Event → Trace → Entry → List ℕ
row_text es c x = line_where (told_by (tag_of es) (λ r. Some (life_in es c r)) x.time x.row)

-- ---- of a run

unfoldable pub live_text : List Event → Trace → ℕ → List ℕ
live_text es c r = line_text (live_told r (life_in es c r))

-- the lines of these rows, after the trace
unfoldable pub rows_text : List Event → Trace → List Entry → List ℕ
rows_text es c xs = by_row (row_text es) c xs

-- those of the live requests below this number
unfoldable pub live_below : List Event → Trace → ℕ → List ℕ
live_below es c n = flat_map (live_text es c) (filter (λ r. contains r (live c)) (range_with_len 0 n))

unfoldable pub event_text : Run → Event → List ℕ
event_text r e = rows_text (later r e).events (trace r) (react r.spec (trace r) e)

unfoldable pub end_text : Run → List ℕ
end_text r = live_below r.events (trace r) (arrivals (trace r))

abbrev pub requests : Manner
requests = record { opens = λ r. header; tells = event_text; ends = λ version r. end_text r }
