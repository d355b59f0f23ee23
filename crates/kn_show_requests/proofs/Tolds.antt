-- What is told of a run: its lines, and the requests that they are of.
use Rattle.std.proofs.Common.{◌≡◌, refl, sym, ap, ◌∙◌, ℕ, ◌+◌, true, false, cond, List, [], ◌∷◌, ◌++◌, append-nil, Option, Some, None}
use Rattle.std.specs.Prelude.{◌==◌, map}
use Rattle.std.specs.List.{cons_option, count_by, filter, flat_map, range_with_len}
use Rattle.std.specs.Option.{option_to_list}
use Rattle.std.proofs.lemmas.List.{map-append}
use Rattle.std.proofs.lemmas.List.Concat.{flat_map-append}
use Rattle.std.proofs.lemmas.List.Elements.{filter_map-append}
use Rattle.std.proofs.lemmas.List.Folds.{flat_map-map}
use Rattle.std.proofs.lemmas.List.Sums.{sum_by-append}
use Rattle.kn_event.specs.declared.entry.Entry.{Entry}
use Rattle.kn_event.specs.declared.entry.Row.{Row}
use Rattle.kn_event.specs.declared.entry.Row.TheVariants as row
use Rattle.kn_event.specs.declared.event.Event.{Event}
use Rattle.kn_event.specs.declared.revision.Spec.{Spec}
use Rattle.kn_event.specs.Lists.{contains}
use Rattle.kn_trace.specs.Events.{added, opening, react, trace_of}
use Rattle.kn_trace.specs.Laws.{IsLawful}
use Rattle.kn_trace.specs.Rows.{outcome_by}
use Rattle.kn_trace.specs.Trace.{Trace, arrivals, each_row, live}
use Rattle.kn_record.specs.Facts.{Facts}
use Rattle.kn_record.specs.Made.{IsMade}
use Rattle.kn_laws.specs.Facts.{PartFacts}
use Rattle.kn_laws.specs.History.{GoesOn}
use Rattle.kn_lives.specs.declared.lives.Life.{Life}
use Rattle.kn_lives.specs.Lives.{by_row, life_in, tag_of}
use Rattle.kn_teller.specs.Manner.{told}
use Rattle.kn_teller.specs.Run.{Run, begun, later, trace}
use Rattle.kn_show_requests.specs.declared.told.Told.{Told}
use Rattle.kn_show_requests.specs.Laws.{TellsOfEach, all_told, events_told, lives_told, rows_told}
use Rattle.kn_show_requests.specs.Requests.{end_text, event_text, live_below, live_text, live_told, requests, row_text, rows_text, told_by}
use Rattle.kn_show_requests.specs.Texts.{line_text, line_where}
use Rattle.kn_show_requests.proofs.Once.{count_first, each_once, times}

-- ---- the lines

line_option : (o : Option Told) → line_where o ≡ flat_map line_text (option_to_list o)
line_option None = refl
line_option (Some t) = sym (append-nil (line_text t))

rows_lines : (es : List Event) (c : Trace) (xs : List Entry) → rows_text es c xs ≡ flat_map line_text (rows_told es c xs)
unfolding rows_text rows_told by_row row_text
rows_lines es c [] = refl
rows_lines es c (x ∷ xs) =
    let one : Option Told = told_by (tag_of es) (λ r. Some (life_in es c r)) x.time x.row in
    ap (λ m. m ++ rows_text es (c ++ x ∷ []) xs) (line_option one)
    ∙ ap (λ m. flat_map line_text (option_to_list one) ++ m) (rows_lines es (c ++ x ∷ []) xs)
    ∙ sym (flat_map-append line_text (option_to_list one) (rows_told es (c ++ x ∷ []) xs))

events_lines : (r : Run) (es : List Event) → told requests r es ≡ flat_map line_text (events_told r es)
unfolding told events_told event_text
events_lines r [] = refl
events_lines r (e ∷ es) =
    let here = rows_told (later r e).events (trace r) (react r.spec (trace r) e) in
    ap (λ m. m ++ told requests (later r e) es) (rows_lines (later r e).events (trace r) (react r.spec (trace r) e))
    ∙ ap (λ m. flat_map line_text here ++ m) (events_lines (later r e) es)
    ∙ sym (flat_map-append line_text here (events_told (later r e) es))

lives_lines : (r : Run) → end_text r ≡ flat_map line_text (lives_told r)
unfolding end_text live_below live_text lives_told
lives_lines r =
    sym (flat_map-map line_text (λ q. live_told q (life_in r.events (trace r) q)) (filter (λ q. contains q (live (trace r))) (range_with_len 0 (arrivals (trace r)))))

-- ---- the requests

abbrev number : Told → ℕ
number t = t.request

times_of : (r : ℕ) (ts : List Told) → count_by (λ (t : Told). t.request == r) ts ≡ times r (map number ts)
times_of r [] = refl
times_of r (t ∷ ts) =
    count_first (λ (d : Told). d.request == r) t ts
    ∙ ap (λ n. cond (t.request == r) 1 0 + n) (times_of r ts)
    ∙ sym (count_first (λ q. q == r) t.request (map number ts))

row_number : (tag : ℕ → ℕ) (life : ℕ → Life) (t : ℕ) (x : Row) → map number (option_to_list (told_by tag (λ r. Some (life r)) t x)) ≡ cons_option (outcome_by x) []
row_number tag life t (row.QueueFull r pod) = refl
row_number tag life t (row.Overload r) = refl
row_number tag life t (row.Finish r true) = refl
row_number tag life t (row.Finish r false) = refl
row_number tag life t (row.Expire r) = refl
row_number tag life t (row.Cancel r) = refl
row_number tag life t (row.LostRequest r) = refl
row_number tag life t _ = refl

option_first : (o : Option ℕ) (xs : List ℕ) → cons_option o xs ≡ cons_option o [] ++ xs
option_first None xs = refl
option_first (Some x) xs = refl

rows_numbers : (es : List Event) (c : Trace) (xs : List Entry) → map number (rows_told es c xs) ≡ each_row outcome_by xs
unfolding rows_told by_row
rows_numbers es c [] = refl
rows_numbers es c (x ∷ xs) =
    let one : List Told = option_to_list (told_by (tag_of es) (λ r. Some (life_in es c r)) x.time x.row) in
    map-append number one (rows_told es (c ++ x ∷ []) xs)
    ∙ ap (λ m. m ++ map number (rows_told es (c ++ x ∷ []) xs)) (row_number (tag_of es) (life_in es c) x.time x.row)
    ∙ ap (λ m. cons_option (outcome_by x.row) [] ++ m) (rows_numbers es (c ++ x ∷ []) xs)
    ∙ sym (option_first (outcome_by x.row) (each_row outcome_by xs))

numbers_back : (f : ℕ → Told) → ((q : ℕ) → number (f q) ≡ q) → (ns : List ℕ) → map number (map f ns) ≡ ns
numbers_back f same [] = refl
numbers_back f same (n ∷ ns) = ap (λ k. k ∷ map number (map f ns)) (same n) ∙ ap (λ m. n ∷ m) (numbers_back f same ns)

lives_numbers : (r : Run) → map number (lives_told r) ≡ filter (λ q. contains q (live (trace r))) (range_with_len 0 (arrivals (trace r)))
unfolding lives_told
lives_numbers r = numbers_back (λ q. live_told q (life_in r.events (trace r) q)) (λ q. refl) (filter (λ q. contains q (live (trace r))) (range_with_len 0 (arrivals (trace r))))

module _ (append : (s : Spec) (start : ℕ) (es more : List Event) → GoesOn s start es more) where
  later_trace : (r : Run) (e : Event) → trace (later r e) ≡ trace r ++ react r.spec (trace r) e
  unfolding added
  later_trace r e = append r.spec r.start r.events (e ∷ []) ∙ ap (λ m. trace r ++ m) (append-nil (react r.spec (trace r) e))

  events_numbers : (r : Run) (es : List Event) → map number (events_told r es) ≡ each_row outcome_by (added r.spec (trace r) es)
  unfolding events_told added
  events_numbers r [] = refl
  events_numbers r (e ∷ es) =
      let more = react r.spec (trace r) e in
      map-append number (rows_told (later r e).events (trace r) more) (events_told (later r e) es)
      ∙ ap (λ m. m ++ map number (events_told (later r e) es)) (rows_numbers (later r e).events (trace r) more)
      ∙ ap (λ m. each_row outcome_by more ++ m) (events_numbers (later r e) es ∙ ap (λ d. each_row outcome_by (added r.spec d es)) (later_trace r e))
      ∙ sym (filter_map-append (λ (x : Entry). outcome_by x.row) more (added r.spec (trace r ++ more) es))

  module _ (facts : Facts) (parts : PartFacts) (lawful : (s : Spec) (c : Trace) → IsMade s c → IsLawful s c) where
    open facts use {proper.{made_trace}}
    open parts use {rows.{opening_none}}

    -- the opening has no outcome
    no_outcome : (s : Spec) (start : ℕ) → each_row outcome_by (trace_of s start []) ≡ []
    unfolding trace_of added
    no_outcome s start = ap (λ d. each_row outcome_by d) (append-nil (opening s start)) ∙ opening_none outcome_by (λ p n. refl) (λ x. refl) s start

    outcomes : (s : Spec) (start : ℕ) (es : List Event) → each_row outcome_by (added s (trace_of s start []) es) ≡ each_row outcome_by (trace_of s start es)
    outcomes s start es =
        ap (λ m. m ++ each_row outcome_by (added s (trace_of s start []) es)) (sym (no_outcome s start))
        ∙ sym (filter_map-append (λ (x : Entry). outcome_by x.row) (trace_of s start []) (added s (trace_of s start []) es))
        ∙ ap (λ d. each_row outcome_by d) (sym (append s start [] es))

    pub tells_of_each : (s : Spec) (start : ℕ) (es : List Event) → TellsOfEach s start es
    unfolding all_told
    tells_of_each s start es =
        let whole : Run = record { spec = s; start = start; events = es } in
        let first = events_told (begun s start) es in
        let last = lives_told whole in
        record {
          lines =
              ap (λ m. m ++ end_text whole) (events_lines (begun s start) es)
              ∙ ap (λ m. flat_map line_text first ++ m) (lives_lines whole)
              ∙ sym (flat_map-append line_text first last);
          once = λ r.
              times_of r (first ++ last)
              ∙ ap (times r) (map-append number first last)
              ∙ sum_by-append (λ (q : ℕ). cond (q == r) 1 0) (map number first) (map number last)
              ∙ ap (λ m. times r m + times r (map number last)) (events_numbers (begun s start) es ∙ outcomes s start es)
              ∙ ap (λ m. times r (each_row outcome_by (trace_of s start es)) + times r m) (lives_numbers whole)
              ∙ each_once facts lawful s (trace_of s start es) r (made_trace s start es);
        }
