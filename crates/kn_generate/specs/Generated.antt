-- The journal that a seed generates: its revision, and its events by the words of Pcg32 that is seeded by it.
use Rattle.std.specs.Prelude.{ℕ, Bool, true, ◌+◌, ◌-◌, ◌/◌, ◌%◌, nat_lt, List, map, if◌then◌else◌}
use Rattle.std.specs.List.{count_by, range_with_len, sum_by}
use Rattle.kn_event.specs.declared.event.Act.{Act}
use Rattle.kn_event.specs.declared.event.Act.TheVariants as act
use Rattle.kn_event.specs.declared.event.Event.{Event}
use Rattle.kn_event.specs.declared.revision.Slots.{Slots}
use Rattle.kn_event.specs.declared.revision.Spec.{Spec}
use Rattle.kn_event.specs.FixedSpec.{fixed_spec}
use Rattle.kn_trace.specs.Choice.{random_word}

-- ---- the revision: five pods that take four requests each, a breaker of depth 100 and maximum 20, a timeout of two seconds

abbrev pub generated_slots : Slots
generated_slots = record { depth = 100; max = 20; seed = 0 }

abbrev pub generated_spec : Spec
generated_spec = fixed_spec 4 5 2 generated_slots

-- ---- what a word says

-- by how many milliseconds the time grows
abbrev pub step_of : ℕ → ℕ
step_of word = word % 4

-- which act it is: five of eight words are arrivals, two are ends, one is a limit
abbrev pub kind_of : ℕ → ℕ
kind_of word = (word / 4) % 8

abbrev pub rest_of : ℕ → ℕ
rest_of word = word / 32

abbrev pub is_arrival : ℕ → Bool
is_arrival word = nat_lt (kind_of word) 5

-- the act of event i behind so many arrivals. It ends one of the last 32 requests, or request 0 where that would be before it
abbrev pub act_by : ℕ → ℕ → ℕ → Act
act_by i arrivals word =
    if is_arrival word then act.Arrive i
    else (if nat_lt (kind_of word) 7 then act.Finish (arrivals - 1 - rest_of word % 32) true
    else act.Limit (rest_of word % 5) (1 + (rest_of word / 8) % 4))

-- ---- the events

-- the words of the events from 5 on that come before event i
unfoldable pub words_before : ℕ → ℕ → List ℕ
words_before seed i = map (random_word seed) (range_with_len 0 (i - 5))

abbrev pub event_by : ℕ → List ℕ → ℕ → Event
event_by i before word = record { time = sum_by step_of before + step_of word; act = act_by i (count_by is_arrival before) word }

-- the first five events ready the pods; each later one takes a word
unfoldable pub generated_event : ℕ → ℕ → Event
generated_event seed i = if nat_lt i 5 then record { time = 0; act = act.Ready i } else event_by i (words_before seed i) (random_word seed (i - 5))

unfoldable pub generated_events : ℕ → ℕ → List Event
generated_events seed count = map (generated_event seed) (range_with_len 0 count)
