-- The events of lines, one line at a time.
use Rattle.std.proofs.Common.{◌≡◌, ◌+◌, ℕ, Bool, true, false, List, [], ◌∷◌, ◌++◌, append_assoc, refl, sym, ap, ◌∙◌, cond}
use Rattle.std.specs.Prelude.{Option, None, Some, Result, Ok, Err, codes, if◌then◌else◌, ⊤, ◌&&◌, ◌==◌}
use Rattle.std.specs.Str.{bytes_eq}
use Rattle.kn_event.specs.declared.event.Event.{Event}
use Rattle.kn_event.specs.EventLine.{event_of}
use Rattle.kn_journal.specs.Causes.{Cause, after_end, line_too_long, no_end}
use Rattle.kn_journal.specs.Lines.{begins_with_lf, fits, lines, lines_at_lf, onto_first, without_crs}
use Rattle.kn_journal.specs.Parts.{Part, part, then_part}
use Rattle.kn_journal.specs.Journal.{in_time, next_part, read_events}
use Rattle.kn_journal.specs.Series.{Read, end_part, item_in, none_read, with_event}

-- ---- events in front of what is read behind them

abbrev pub with_events : List Event → Read Event → Read Event
with_events es r = record { events = es ++ r.events; refused = r.refused }

pub with_events-more : (es : List Event) (e : Event) (r : Read Event) → with_events es (with_event e r) ≡ with_events (es ++ e ∷ []) r
with_events-more es e r = ap (λ (x : List Event). record { events = x; refused = r.refused }) (sym (append_assoc es (e ∷ []) r.events))

-- ---- the next line

-- it is an event, whatever follows it
pub record IsEventLine (version last number : ℕ) (all : List (List ℕ)) (e : Event) (m : ℕ) (left : List (List ℕ)) : Type 0 where
  pub line : List ℕ
  pub split : all ≡ line ∷ left
  pub count : number + 1 ≡ m
  pub reads : (later : List (List ℕ)) → read_events version last number (line ∷ later) ≡ with_event e (read_events version e.time m later)

record IsPart {T : Type 0} (value : T) (number : ℕ) (left : List (List ℕ)) (x : T) (m : ℕ) (more : List (List ℕ)) : Type 0 where
  values : value ≡ x
  numbers : number ≡ m
  lefts : left ≡ more

same_part : {T : Type 0} (value x : T) (number m : ℕ) (left more : List (List ℕ)) (r : Result (Part T) Cause) → r ≡ Ok (part value number left) → r ≡ Ok (part x m more)
    → IsPart value number left x m more
same_part {T} value x number m left more r h k =
    let one : Part T = part value number left in
    let other : Part T = part x m more in
    let both : Result (Part T) Cause = Ok one in
    let g : both ≡ Ok other = sym h ∙ k in
    let same : one ≡ other = cc in
    record { values = ap (λ (p : Part T). p.value) same; numbers = ap (λ (p : Part T). p.number) same; lefts = ap (λ (p : Part T). p.left) same }

-- what is read behind `end`
abbrev pub end_after : Result (Part ⊤) Cause → Result (Part (Option Event)) Cause
end_after r = then_part r (λ _ n left. Ok (part None n left))

end_gives : (number : ℕ) (more : List (List ℕ)) (x : Option Event) (m : ℕ) (left : List (List ℕ)) → end_part number more ≡ Ok (part x m left) → (x ≡ None) × (left ≡ [])
end_gives number [] x m left h =
    let same = same_part None x number m [] left (Ok (part None number [])) refl h in
    (sym same.values, sym same.lefts)
end_gives number (line ∷ more) x m left h = by_fit (fits line) h
  where
    by_fit : (f : Bool) → end_after (if f then Err (after_end (number + 1)) else Err (line_too_long (number + 1))) ≡ Ok (part x m left) → (x ≡ None) × (left ≡ [])
    by_fit true g = cc
    by_fit false g = cc

end_last : (number : ℕ) (more : List (List ℕ)) (x : Option Event) (m : ℕ) (left : List (List ℕ)) → end_part number more ≡ Ok (part x m left) → more ≡ left
end_last number [] x m left h = (same_part None x number m [] left (Ok (part None number [])) refl h).lefts
end_last number (line ∷ more) x m left h = by_fit (fits line) h
  where
    by_fit : (f : Bool) → end_after (if f then Err (after_end (number + 1)) else Err (line_too_long (number + 1))) ≡ Ok (part x m left) → line ∷ more ≡ left
    by_fit true g = cc
    by_fit false g = cc

some_none : (e : Event) → Some e ≡ None → ⊥
some_none e h = cc

same_some : (d e : Event) → Some d ≡ Some e → d ≡ e
same_some d e h = cc

pub next_event : (version last n : ℕ) (all : List (List ℕ)) (e : Event) (m : ℕ) (left : List (List ℕ)) → next_part version last n all ≡ Ok (part (Some e) m left)
    → IsEventLine version last n all e m left
unfolding next_part read_events
next_event version last n [] e m left h = cc
next_event version last n (line ∷ more) e m left h =
    by_tests (fits line) (bytes_eq line (codes "end")) (in_time (n + 1) last (event_of version line)) refl refl refl h
  where
    by_tests : (f d : Bool) (r : Result Event Cause) → fits line ≡ f → bytes_eq line (codes "end") ≡ d → in_time (n + 1) last (event_of version line) ≡ r
        → (if f then (if d then end_part (n + 1) more else item_in (n + 1) more r) else Err (line_too_long (n + 1))) ≡ Ok (part (Some e) m left)
        → IsEventLine version last n (line ∷ more) e m left
    by_tests false d r p q s g = cc
    by_tests true true r p q s g = absurd (some_none e (end_gives (n + 1) more (Some e) m left g).0)
    by_tests true false (Err cause) p q s g = cc
    by_tests true false (Ok d) p q s g =
        let same = same_part (Some d) (Some e) (n + 1) m more left (Ok (part (Some d) (n + 1) more)) refl g in
        record {
          line = line;
          split = ap (λ (x : List (List ℕ)). line ∷ x) same.lefts;
          count = same.numbers;
          reads = λ later. rw (p, q, s) (rw (same_some d e same.values, same.numbers) refl);
        }

pub next_refused : (version last n : ℕ) (all : List (List ℕ)) (cause : Cause) → next_part version last n all ≡ Err cause → read_events version last n all ≡ none_read (Some cause)
unfolding read_events
next_refused version last n [] cause h = rw h refl
next_refused version last n (line ∷ more) cause h = rw h refl

pub next_end : (version last n : ℕ) (all : List (List ℕ)) (m : ℕ) (left : List (List ℕ)) → next_part version last n all ≡ Ok (part None m left) → read_events version last n all ≡ none_read None
unfolding read_events
next_end version last n [] m left h = rw h refl
next_end version last n (line ∷ more) m left h = rw h refl

-- `end` is one line, and behind it no line is left
pub next_last : (version last n : ℕ) (all : List (List ℕ)) (m : ℕ) (left : List (List ℕ)) → next_part version last n all ≡ Ok (part None m left) → (line : List ℕ) × (all ≡ line ∷ left)
unfolding next_part
next_last version last n [] m left h = cc
next_last version last n (line ∷ more) m left h =
    by_tests (fits line) (bytes_eq line (codes "end")) (in_time (n + 1) last (event_of version line)) h
  where
    by_tests : (f d : Bool) (r : Result Event Cause)
        → (if f then (if d then end_part (n + 1) more else item_in (n + 1) more r) else Err (line_too_long (n + 1))) ≡ Ok (part None m left) → (x : List ℕ) × (line ∷ more ≡ x ∷ left)
    by_tests false d r g = cc
    by_tests true true r g = (line, ap (λ (x : List (List ℕ)). line ∷ x) (end_last (n + 1) more None m left g))
    by_tests true false (Err cause) g = cc
    by_tests true false (Ok d) g = absurd (some_none d (same_part (Some d) None (n + 1) m more left (Ok (part (Some d) (n + 1) more)) refl g).values)

-- after `end` no line is left
pub next_none : (version last n : ℕ) (all : List (List ℕ)) (m : ℕ) (left : List (List ℕ)) → next_part version last n all ≡ Ok (part None m left) → left ≡ []
unfolding next_part
next_none version last n [] m left h = cc
next_none version last n (line ∷ more) m left h =
    by_tests (fits line) (bytes_eq line (codes "end")) (in_time (n + 1) last (event_of version line)) h
  where
    by_tests : (f d : Bool) (r : Result Event Cause)
        → (if f then (if d then end_part (n + 1) more else item_in (n + 1) more r) else Err (line_too_long (n + 1))) ≡ Ok (part None m left) → left ≡ []
    by_tests false d r g = cc
    by_tests true true r g = (end_gives (n + 1) more None m left g).1
    by_tests true false (Err cause) g = cc
    by_tests true false (Ok d) g = absurd (some_none d (same_part (Some d) None (n + 1) m more left (Ok (part (Some d) (n + 1) more)) refl g).values)

pub no_line : (version last n : ℕ) → read_events version last n [] ≡ none_read (Some no_end)
unfolding read_events next_part
no_line version last n = refl

pub end_line : (version last n : ℕ) → read_events version last n (codes "end" ∷ []) ≡ none_read None
unfolding read_events next_part
end_line version last n = refl

-- ---- where no line is, there is no byte

first_stays : (b : ℕ) (ls : List (List ℕ)) → onto_first b ls ≡ [] → ⊥
first_stays b [] h = cc
first_stays b (l ∷ ls) h = cc

none_at_lf : (bs : List ℕ) → lines_at_lf bs ≡ [] → bs ≡ []
unfolding lines_at_lf
none_at_lf [] h = refl
none_at_lf (b ∷ bs) h = by_lf (b == 10) h
  where
    by_lf : (f : Bool) → cond f ([] ∷ lines_at_lf bs) (onto_first b (lines_at_lf bs)) ≡ [] → b ∷ bs ≡ []
    by_lf true g = cc
    by_lf false g = absurd (first_stays b (lines_at_lf bs) g)

lf_stays : (bs : List ℕ) → begins_with_lf bs ≡ true → bs ≡ [] → ⊥
lf_stays [] h e = cc
lf_stays (b ∷ bs) h e = cc

none_without : (bs : List ℕ) → without_crs bs ≡ [] → bs ≡ []
unfolding without_crs
none_without [] h = refl
none_without (b ∷ bs) h = by_cr (b == 13) (begins_with_lf (without_crs bs)) refl h
  where
    by_cr : (f d : Bool) → begins_with_lf (without_crs bs) ≡ d → cond (f && d) (without_crs bs) (b ∷ without_crs bs) ≡ [] → b ∷ bs ≡ []
    by_cr true true e g = absurd (lf_stays (without_crs bs) e g)
    by_cr true false e g = cc
    by_cr false d e g = cc

pub no_byte : (bs : List ℕ) → lines bs ≡ [] → bs ≡ []
unfolding lines
no_byte bs h = none_without bs (none_at_lf (without_crs bs) h)
