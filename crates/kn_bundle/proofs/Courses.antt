-- The events of a journal in a bundle, line by line.
use Rattle.std.proofs.Common.{◌≡◌, ◌+◌, ℕ, Bool, true, false, List, [], ◌∷◌, ◌++◌, length, length-append, append_assoc, append-nil, refl, sym, ap, ◌∙◌, arith}
use Rattle.std.specs.Prelude.{Option, None, Some, Result, Ok, Err, codes, if◌then◌else◌, ⊤}
use Rattle.std.specs.Str.{bytes_eq}
use Rattle.kn_event.specs.declared.event.Event.{Event}
use Rattle.kn_event.specs.EventLine.{event_of}
use Rattle.kn_journal.specs.Bundle.{next_of_part}
use Rattle.kn_journal.specs.Causes.{Cause, line_too_long, no_end}
use Rattle.kn_journal.specs.Journal.{in_time}
use Rattle.kn_journal.specs.Series.{item_in}
use Rattle.kn_journal.specs.Lines.{fits, lines}
use Rattle.kn_journal.specs.Parts.{Part, part}
use Rattle.kn_journal.specs.Telling.{Gives}
use Rattle.kn_bundle.specs.Bundle.{Course, course, no_events, with_event}
use Rattle.kn_bundle.proofs.Parts.{same_part}

-- ---- the next line

-- it is this, whatever follows it
pub record IsLine (version last n : ℕ) (all : List (List ℕ)) (x : Option Event) (m : ℕ) (left : List (List ℕ)) : Type 0 where
  pub line : List ℕ
  pub split : all ≡ line ∷ left
  pub count : n + 1 ≡ m
  pub alone : (later : List (List ℕ)) → next_of_part version last n (line ∷ later) ≡ Ok (part x m later)

same_ok : (x y : Option Event) (n m : ℕ) (later : List (List ℕ)) → x ≡ y → n ≡ m → ◌≡◌ {A = Result (Part (Option Event)) Cause} (Ok (part x n later)) (Ok (part y m later))
same_ok x y n m later h k = rw (h, k) refl

pub next-line : (version last n : ℕ) (all : List (List ℕ)) (x : Option Event) (m : ℕ) (left : List (List ℕ)) → next_of_part version last n all ≡ Ok (part x m left) → IsLine version last n all x m left
unfolding next_of_part
next-line version last n [] x m left h = cc
next-line version last n (line ∷ more) x m left h =
    by_tests (fits line) (bytes_eq line (codes "end")) (in_time (n + 1) last (event_of version line)) refl refl refl h
  where
    by_tests : (f d : Bool) (r : Result Event Cause) → fits line ≡ f → bytes_eq line (codes "end") ≡ d → in_time (n + 1) last (event_of version line) ≡ r
        → (if f then (if d then Ok (part None (n + 1) more) else item_in (n + 1) more r) else Err (line_too_long (n + 1))) ≡ Ok (part x m left)
        → IsLine version last n (line ∷ more) x m left
    by_tests false d r p q s g = cc
    by_tests true true r p q s g =
        let same = same_part None x (n + 1) m more left (Ok (part None (n + 1) more)) refl g in
        record {
          line = line;
          split = ap (λ (z : List (List ℕ)). line ∷ z) same.lefts;
          count = same.numbers;
          alone = λ later. rw (p, q) (same_ok None x (n + 1) m later same.values same.numbers);
        }
    by_tests true false (Err cause) p q s g = cc
    by_tests true false (Ok d) p q s g =
        let same = same_part (Some d) x (n + 1) m more left (Ok (part (Some d) (n + 1) more)) refl g in
        record {
          line = line;
          split = ap (λ (z : List (List ℕ)). line ∷ z) same.lefts;
          count = same.numbers;
          alone = λ later. rw (p, q, s) (same_ok (Some d) x (n + 1) m later same.values same.numbers);
        }

course-event : (version last n : ℕ) (all : List (List ℕ)) (e : Event) (m : ℕ) (left : List (List ℕ)) (h : IsLine version last n all (Some e) m left) (later : List (List ℕ))
    → course version last n (h.line ∷ later) ≡ with_event e (course version e.time m later)
unfolding course
course-event version last n all e m left h later = rw (h.alone later) refl

course-end : (version last n : ℕ) (all : List (List ℕ)) (m : ℕ) (left : List (List ℕ)) (h : IsLine version last n all None m left) (later : List (List ℕ))
    → course version last n (h.line ∷ later) ≡ no_events (Ok (part tt m later))
unfolding course
course-end version last n all m left h later = rw (h.alone later) refl

course-refused : (version last n : ℕ) (all : List (List ℕ)) (cause : Cause) → next_of_part version last n all ≡ Err cause → course version last n all ≡ no_events (Err cause)
unfolding course
course-refused version last n [] cause h = rw h refl
course-refused version last n (line ∷ more) cause h = rw h refl

course-none : (version last n : ℕ) → course version last n [] ≡ no_events (Err no_end)
unfolding course next_of_part
course-none version last n = refl

-- ---- what was read so far

abbrev pub with_events : List Event → Course → Course
with_events es c = record { events = es ++ c.events; ends = c.ends }

none-more : (es : List Event) (r : Result (Part ⊤) Cause) → with_events es (no_events r) ≡ record { events = es; ends = r }
none-more es r = ap (λ (x : List Event). record { events = x; ends = r }) (append-nil es)

with_events-more : (es : List Event) (e : Event) (c : Course) → with_events es (with_event e c) ≡ with_events (es ++ e ∷ []) c
with_events-more es e c = ap (λ (x : List Event). record { events = x; ends = c.ends }) (sym (append_assoc es (e ∷ []) c.events))

-- lines that are these events, whatever follows them
pub record Reads (version last number : ℕ) (all : List (List ℕ)) (es : List Event) (now m : ℕ) (left : List (List ℕ)) : Type 0 where
  pub own : List (List ℕ)
  pub split : all ≡ own ++ left
  pub count : number + length own ≡ m
  pub reads : (later : List (List ℕ)) → course version last number (own ++ later) ≡ with_events es (course version now m later)

abbrev pub GoesOn : ℕ → ℕ → ℕ → Option (List ℕ) → List Event → ℕ → ℕ → Option (List ℕ) → Type 0
GoesOn version last number None es now m rest = ⊤
GoesOn version last number (Some xs) es now m None = ⊥
GoesOn version last number (Some xs) es now m (Some ys) = Reads version last number (lines xs) es now m (lines ys)

pub goes_begin : (version last number : ℕ) (known : Option (List ℕ)) → GoesOn version last number known [] last number known
goes_begin version last number None = tt
goes_begin version last number (Some xs) = record { own = []; split = refl; count = omega arith; reads = λ later. refl }

reads_more : (version last number : ℕ) (all : List (List ℕ)) (es : List Event) (now m : ℕ) (left : List (List ℕ)) (e : Event) (n : ℕ) (after : List (List ℕ))
    → Reads version last number all es now m left → IsLine version now m left (Some e) n after → Reads version last number all (es ++ e ∷ []) e.time n after
reads_more version last number all es now m left e n after h k = record {
  own = h.own ++ k.line ∷ [];
  split = h.split ∙ ap (λ (x : List (List ℕ)). h.own ++ x) k.split ∙ sym (append_assoc h.own (k.line ∷ []) after);
  count = omega (arith, h.count, k.count, length-append h.own (k.line ∷ []));
  reads = λ later.
      ap (λ (x : List (List ℕ)). course version last number x) (append_assoc h.own (k.line ∷ []) later)
      ∙ h.reads (k.line ∷ later)
      ∙ ap (with_events es) (course-event version now m left e n after k later)
      ∙ with_events-more es e (course version e.time n later);
}

pub goes_more : (version last number : ℕ) (known : Option (List ℕ)) (es : List Event) (now m : ℕ) (rest : Option (List ℕ)) (e : Event) (n : ℕ) (left : Option (List ℕ))
    → GoesOn version last number known es now m rest → Gives (next_of_part version now m) (Some e) n rest left → GoesOn version last number known (es ++ e ∷ []) e.time n left
goes_more version last number None es now m rest e n left h g = tt
goes_more version last number (Some xs) es now m None e n left h g = absurd h
goes_more version last number (Some xs) es now m (Some ys) e n None h g = absurd g
goes_more version last number (Some xs) es now m (Some ys) e n (Some zs) h g =
    reads_more version last number (lines xs) es now m (lines ys) e n (lines zs) h (next-line version now m (lines ys) (Some e) n (lines zs) g)

-- all that the lines say
pub reads_all : (version last number : ℕ) (all : List (List ℕ)) (es : List Event) (now m : ℕ) (left : List (List ℕ))
    → Reads version last number all es now m left → course version last number all ≡ with_events es (course version now m left)
reads_all version last number all es now m left h = ap (λ (x : List (List ℕ)). course version last number x) h.split ∙ h.reads left

-- .. and no line behind them
pub reads_none : (version last number : ℕ) (all : List (List ℕ)) (es : List Event) (now m : ℕ) (left : List (List ℕ)) (h : Reads version last number all es now m left)
    → course version last number h.own ≡ record { events = es; ends = Err no_end }
reads_none version last number all es now m left h =
    ap (λ (x : List (List ℕ)). course version last number x) (sym (append-nil h.own)) ∙ h.reads [] ∙ ap (with_events es) (course-none version now m) ∙ none-more es (Err no_end)

pub reads_refused : (version last number : ℕ) (all : List (List ℕ)) (es : List Event) (now m : ℕ) (left : List (List ℕ)) (cause : Cause) → Reads version last number all es now m left → next_of_part version now m left ≡ Err cause
    → course version last number all ≡ record { events = es; ends = Err cause }
reads_refused version last number all es now m left cause h g =
    reads_all version last number all es now m left h ∙ ap (with_events es) (course-refused version now m left cause g) ∙ none-more es (Err cause)

-- up to `end`
pub record ReadsEnd (version last number : ℕ) (all : List (List ℕ)) (es : List Event) (n : ℕ) (left : List (List ℕ)) : Type 0 where
  pub own : List (List ℕ)
  pub split : all ≡ own ++ left
  pub count : number + length own ≡ n
  pub alone : (later : List (List ℕ)) → course version last number (own ++ later) ≡ record { events = es; ends = Ok (part tt n later) }

pub reads_end : (version last number : ℕ) (all : List (List ℕ)) (es : List Event) (now m : ℕ) (left : List (List ℕ)) (n : ℕ) (after : List (List ℕ))
    → Reads version last number all es now m left → next_of_part version now m left ≡ Ok (part None n after) → ReadsEnd version last number all es n after
reads_end version last number all es now m left n after h g =
    let k = next-line version now m left None n after g in
    record {
      own = h.own ++ k.line ∷ [];
      split = h.split ∙ ap (λ (x : List (List ℕ)). h.own ++ x) k.split ∙ sym (append_assoc h.own (k.line ∷ []) after);
      count = omega (arith, h.count, k.count, length-append h.own (k.line ∷ []));
      alone = λ later.
          ap (λ (x : List (List ℕ)). course version last number x) (append_assoc h.own (k.line ∷ []) later)
          ∙ h.reads (k.line ∷ later) ∙ ap (with_events es) (course-end version now m left n after k later) ∙ none-more es (Ok (part tt n later));
    }
