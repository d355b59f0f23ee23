-- Which Ready pod the next held request is assigned to.
use Rattle.std.specs.Prelude.{ℕ, Bool, ◌+◌, ◌*◌, ◌-◌, ◌%◌, ◌==◌, ◌||◌, zero, suc, nat_lt, nat_le, List, [], ◌∷◌, ◌++◌, map, length, take, drop, Option, None, Some, if◌then◌else◌, slice_index_or}
use Rattle.std.specs.List.{filter, find, position_or_len}
use Rattle.std.specs.Option.{option_map}
use Rattle.rand_core.specs.Pcg32Seed.{pcg32_seed}
use Rattle.rand_pcg.specs.Lcg.{Lcg}
use Rattle.rand_pcg.specs.Pcg.{pcg32, pcg32_of_seed}
use Rattle.kn_event.specs.declared.entry.Row.{Row}
use Rattle.kn_event.specs.declared.entry.Row.TheVariants as row
use Rattle.kn_event.specs.declared.revision.Spec.{Spec}
use Rattle.kn_trace.specs.declared.candidate.Cand.{Cand}
use Rattle.kn_trace.specs.Rows.{assigned_by}
use Rattle.kn_trace.specs.Trace.{Trace, each_row, limit_of, ready_pods, running_at}

-- ---- the policies, of all Ready pods in order

abbrev pub has_seat : Cand → Bool
has_seat q = q.limit == 0 || nat_lt q.running q.limit

-- the first one with a free seat
unfoldable pub first_available : List Cand → Option ℕ
first_available cands = option_map (λ q. q.pod) (find has_seat cands)

-- those from the place on, then those before it. A place past the end is read as 0
abbrev pub turned_to : ℕ → List Cand → List Cand
turned_to place cands = if nat_lt place (length cands) then drop place cands ++ take place cands else cands

-- the search starts at the place and goes round once
unfoldable pub round_robin : ℕ → List Cand → Option ℕ
round_robin place cands = first_available (turned_to place cands)

-- Pcg32 seeded by the number, after k words
unfoldable pub generator_at : ℕ → ℕ → Lcg
generator_at seed zero = pcg32_of_seed (pcg32_seed 16 seed)
generator_at seed (suc k) = (pcg32 (generator_at seed k)).1

-- its word at place k, counted from 0
abbrev pub random_word : ℕ → ℕ → ℕ
random_word seed k = (pcg32 (generator_at seed k)).0

-- the second position leaves the first one out
abbrev pub other_position : ℕ → ℕ → ℕ
other_position i j = if nat_le i j then j + 1 else j

-- the second where fewer run there
abbrev pub less_busy : Cand → Cand → ℕ
less_busy x y = if nat_lt y.running x.running then y.pod else x.pod

-- of the pods with a free seat, one of two that these words name
unfoldable pub choice_of_two : List Cand → ℕ → ℕ → Option ℕ
choice_of_two [] a b = None
choice_of_two (q ∷ []) a b = Some q.pod
choice_of_two (q ∷ r ∷ free) a b =
    let k = length (q ∷ r ∷ free) in
    let i = a % k in
    let j = other_position i (b % (k - 1)) in
    Some (less_busy (slice_index_or (q ∷ r ∷ free) i q) (slice_index_or (q ∷ r ∷ free) j q))

-- each assignment draws two words
unfoldable pub random_choice : ℕ → ℕ → List Cand → Option ℕ
random_choice seed assigns cands =
    choice_of_two (filter has_seat cands) (random_word seed (2 * assigns)) (random_word seed (2 * assigns + 1))

-- a containerConcurrency of 0 takes the random choice of two, 1 to 3 the first available, 4 and more round robin
unfoldable pub chosen_pod : ℕ → ℕ → ℕ → ℕ → List Cand → Option ℕ
chosen_pod cc seed place assigns cands =
    if cc == 0 then random_choice seed assigns cands
    else (if nat_lt cc 4 then first_available cands else round_robin place cands)

-- ---- of a trace

-- the Ready pods as a policy sees them
unfoldable pub candidates : Trace → List Cand
candidates c = map (λ p. record { pod = p; limit = limit_of c p; running = length (running_at c p) }) (ready_pods c)

-- one past the position that an assigned pod has among the Ready pods of the trace before its entry
abbrev pub place_by : Trace → Row → ℕ → ℕ
place_by before (row.Assign r p) place = position_or_len (λ q. q == p) (ready_pods before) + 1
place_by before _ place = place

abbrev pub place_from : ℕ → Trace → Trace → ℕ
place_from place before [] = place
place_from place before (e ∷ es) = place_from (place_by before e.row place) (before ++ e ∷ []) es

-- the place of the last assignment, and 0 before the first
unfoldable pub round_robin_place : Trace → ℕ
round_robin_place c = place_from 0 [] c

unfoldable pub assignment_count : Trace → ℕ
assignment_count c = length (each_row assigned_by c)

unfoldable pub choice : Spec → Trace → Option ℕ
choice s c = chosen_pod s.cc s.slots.seed (round_robin_place c) (assignment_count c) (candidates c)
