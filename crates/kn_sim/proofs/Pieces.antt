-- What is written piece by piece.
use Rattle.std.proofs.Common.{◌≡◌, ℕ, List, [], ◌∷◌, ◌++◌, append_assoc, refl, sym, ap, ◌∙◌}
use Rattle.std.specs.Prelude.{Result, Ok, Err, OnOk, OnErr, codes}
use Rattle.std.specs.Fmt.{decimal}
use Rattle.kn_event.specs.declared.event.Event.{Event}
use Rattle.kn_event.specs.EventLine.{event_text}
use Rattle.kn_preamble.specs.First.{first_line}
use Rattle.kn_journal.specs.Journal.{events_text, journal_text}
use Rattle.kn_sim.specs.declared.workload.Workload.{Workload}
use Rattle.kn_sim.specs.Simulated.{opening_text, simulated}

-- what is said of one outcome, turned into what follows from it
pub on_ok : {T E : Type 0} {P Q : Type 0} (r : Result T E) → (P → Q) → OnOk r P → OnOk r Q
on_ok (Ok x) f h = f h
on_ok (Err e) f h = tt

pub on_err : {T E : Type 0} {P Q : Type 0} (r : Result T E) → (P → Q) → OnErr r P → OnErr r Q
on_err (Ok x) f h = tt
on_err (Err e) f h = f h

-- ---- events

events-append : (xs ys : List Event) → events_text (xs ++ ys) ≡ events_text xs ++ events_text ys
events-append [] ys = refl
events-append (e ∷ xs) ys = ap (λ (z : List ℕ). event_text e ++ 10 ∷ z) (events-append xs ys) ∙ sym (append_assoc (event_text e) (10 ∷ events_text xs) (events_text ys))

-- one line more
pub events-more : (es : List Event) (e : Event) → events_text (es ++ e ∷ []) ≡ events_text es ++ (event_text e ++ 10 ∷ [])
events-more es e = events-append es (e ∷ [])

-- the lines up to one, its line, and the others
pub events-around : (es : List Event) (e : Event) (rest : List Event) → events_text ((es ++ e ∷ []) ++ rest) ≡ events_text es ++ ((event_text e ++ 10 ∷ []) ++ events_text rest)
events-around es e rest =
    events-append (es ++ e ∷ []) rest ∙ ap (λ (m : List ℕ). m ++ events_text rest) (events-more es e) ∙ append_assoc (events_text es) (event_text e ++ 10 ∷ []) (events_text rest)

-- ---- the whole

regroup : (first text start events end : List ℕ) → ((first ++ 10 ∷ []) ++ (text ++ (start ++ 10 ∷ []))) ++ (events ++ end) ≡ first ++ 10 ∷ (text ++ (start ++ 10 ∷ (events ++ end)))
regroup first text start events end = simp append_assoc

pub whole-text : (w : Workload) (es : List Event) → opening_text w ++ (events_text es ++ codes "end\n") ≡ journal_text (simulated w es)
unfolding journal_text
whole-text w es = regroup (first_line 1) w.setup.text (codes "start " ++ decimal w.start) (events_text es) (codes "end\n")

pub before_end : (w : Workload) (es : List Event) → (opening_text w ++ events_text es) ++ codes "end\n" ≡ journal_text (simulated w es)
before_end w es = append_assoc (opening_text w) (events_text es) (codes "end\n") ∙ whole-text w es
