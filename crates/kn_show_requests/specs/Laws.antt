-- That each request of a run has exactly one line.
use Rattle.std.specs.Prelude.{◌≡◌, ℕ, ◌==◌, List, [], ◌∷◌, ◌++◌, Some, if◌then◌else◌, map, nat_lt}
use Rattle.std.specs.List.{count_by, filter, flat_map, range_with_len}
use Rattle.std.specs.Option.{option_to_list}
use Rattle.kn_event.specs.declared.entry.Entry.{Entry}
use Rattle.kn_event.specs.declared.event.Event.{Event}
use Rattle.kn_event.specs.declared.revision.Spec.{Spec}
use Rattle.kn_event.specs.Lists.{contains}
use Rattle.kn_trace.specs.Events.{react}
use Rattle.kn_trace.specs.Trace.{Trace, arrivals, live}
use Rattle.kn_lives.specs.Lives.{by_row, life_in, tag_of}
use Rattle.kn_teller.specs.Manner.{told}
use Rattle.kn_teller.specs.Run.{Run, begun, later, trace}
use Rattle.kn_show_requests.specs.declared.told.Told.{Told}
use Rattle.kn_show_requests.specs.Requests.{end_text, live_told, requests, told_by}
use Rattle.kn_show_requests.specs.Texts.{line_text}

-- what is told of these rows, after the trace
unfoldable pub rows_told : List Event → Trace → List Entry → List Told
rows_told es c xs = by_row (λ d x. option_to_list (told_by (tag_of es) (λ r. Some (life_in es d r)) x.time x.row)) c xs

-- of further events, one after the other
unfoldable pub events_told : Run → List Event → List Told
events_told r [] = []
events_told r (e ∷ es) = rows_told (later r e).events (trace r) (react r.spec (trace r) e) ++ events_told (later r e) es

-- of the live requests, by number
unfoldable pub lives_told : Run → List Told
lives_told r =
    map (λ q. live_told q (life_in r.events (trace r) q))
    (filter (λ q. contains q (live (trace r))) (range_with_len 0 (arrivals (trace r))))

-- of a whole run of these events
unfoldable pub all_told : Spec → ℕ → List Event → List Told
all_told s start es = events_told (begun s start) es ++ lives_told (record { spec = s; start = start; events = es })

-- the lines of a whole run are of what is told of it, and that is once of each request that came, and of no other
pub record TellsOfEach (s : Spec) (start : ℕ) (es : List Event) : Type 0 where
  pub lines : told requests (begun s start) es ++ end_text (record { spec = s; start = start; events = es })
      ≡ flat_map line_text (all_told s start es)
  pub once : (r : ℕ) → count_by (λ (t : Told). t.request == r) (all_told s start es)
      ≡ (if nat_lt r (arrivals (trace (record { spec = s; start = start; events = es }))) then 1 else 0)
